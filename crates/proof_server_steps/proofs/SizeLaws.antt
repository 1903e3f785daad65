-- A cache's messages are no longer than a message may be.
use mathlib.Core.Bool.{Bool}
use mathlib.Core.List.{List, [], ◌∷◌}
use Prim.Native.Nat.{ℕ, ◌≤◌}
use lib.ListN.{length}
use Rattle.tlv_reader.specs.Value.{Datum, null, boolean, unsigned, signed, float, text, other}
use Rattle.im_requests.specs.declared.VersionFilter.{VersionFilter}
use Rattle.im_writer.specs.Spelling.{Each}
use Rattle.im_writer.specs.Block.{ShortText}
use Rattle.proof_round_trip.specs.Meant.{VersionFilterFits}
use Rattle.cache_entries.specs.Limits.{max_clusters}
use Rattle.cache_messages.specs.Messages.{read_message, write_message}
use Rattle.proof_cache_laws.proofs.BoundLaws.{Narrow, read-sized, write-sized}
use Rattle.proof_trip.specs.Taken.{Takable}
use Rattle.server_replies.specs.Messages.{max_message}
use Rattle.proof_refinement.specs.Bytes.{WriteFits}

each-narrow : (fs : List VersionFilter) → Each VersionFilterFits fs → Each Narrow fs
unfolding Each
each-narrow [] h = tt
each-narrow (f ∷ fs) (a, b) =
    (record { endpoint = a.endpoint-fits; cluster = a.cluster-fits; version = a.version-fits }, each-narrow fs b)

pub read_short : (edition exchange : ℕ) (fs : List VersionFilter) → Each VersionFilterFits fs → length fs ≤ max_clusters → length (read_message edition exchange fs) ≤ max_message
read_short edition exchange fs h few = (read-sized edition exchange fs (each-narrow fs h) few).fits

short-text : (d : Datum) → Takable d → ShortText d
unfolding Takable ShortText
short-text null h = tt
short-text (boolean b) h = tt
short-text (unsigned n) h = tt
short-text (signed z) h = tt
short-text (float n) h = tt
short-text (text b) h = h.1
short-text other h = tt

pub write-short : (edition exchange : ℕ) (given : Bool) (version e c a : ℕ) (d : Datum) → WriteFits version e c a d → length (write_message edition exchange given version e c a d) ≤ max_message
write-short edition exchange given version e c a d f =
    let p = f.path in
    (write-sized edition exchange given version e c a d f.version-fits p.endpoint-fits p.cluster-fits p.attribute-fits (short-text d f.takable)).fits
