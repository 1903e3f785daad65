-- What the readers answer, by their contracts, to the messages that are written.
use Rattle.std.specs.Prelude.{Some, None, Option}
use mathlib.Core.Path.{◌≡◌, refl, sym, ap, ◌∙◌}
use mathlib.Core.Bool.{Bool, true}
use mathlib.Core.List.{List, [], ◌∷◌, map}
use Prim.Native.Nat.{ℕ, ◌^◌, ◌<◌}
use lib.ListN.{length, length-map}
use Rattle.tlv_reader.specs.Octet.{pick}
use Rattle.tlv_reader.specs.Tree.{Tree}
use Rattle.tlv_reader.specs.Tree.Tag.{context}
use Rattle.tlv_reader.specs.Tree.Tree.{primitive}
use Rattle.tlv_reader.specs.Value.{Datum}
use Rattle.tlv_reader.specs.Decode.{tree_at}
use Rattle.tlv_writer.specs.Meaning.{Writable}
use Rattle.im_members.specs.Fields.{or_none}
use Rattle.im_members.specs.Scalar.{ABSENT}
use Rattle.im_members.specs.Array.{map_o}
use Rattle.im_blocks.proofs.BlockLaws.{never}
use Rattle.im_blocks.specs.Data.{report_tree}
use Rattle.im_requests.specs.declared.VersionFilter.{VersionFilter}
use Rattle.im_requests.specs.Status.{response_in}
use Rattle.im_requests.specs.Read.{read_in, read_read}
use Rattle.im_requests.specs.Write.{EntryOf, WriteOf, entry_tree, write_in, write_read, write_tree}
use Rattle.im_responses.specs.Report.{PartOf, part_in, part_read, part_tree}
use Rattle.im_responses.specs.Answered.{answered_in}
use Rattle.im_writer.specs.Spelling.{primitive_d, Each}
use Rattle.im_writer.specs.Block.{Block}
use Rattle.im_writer.specs.Meaning.{PathFits, Fits, block_means}
use Rattle.proof_round_trip.specs.Meant.{status_octets, VersionFilterFits, read_octets, read_answer, write_octets, write_answer, report_octets, part_answer, WriteStatus, OutcomeFits, outcomes_octets, outcome_means}
use Rattle.proof_round_trip.proofs.BackLaws.{status-back, read_back, write-back, report-back, answers-back}

-- what is just something through a map is just something
pub through : {A B : Type 0} (β : A → B) (o : Option A) {b : B} → map_o β o ≡ Some b → (a : A) × (o ≡ Some a) × (β a ≡ b)
through β None e = never (cc)
through β (Some a) e = (a, refl, cc)

one_of : {A B : Type 0} (β : A → B) (l : List A) {b : B} → map β l ≡ b ∷ [] → (a : A) × (l ≡ a ∷ []) × (β a ≡ b)
one_of β [] e = never (cc)
one_of β (a ∷ []) e = (a, refl, cc)
one_of β (a ∷ c ∷ l) e = never (cc)

pub status-answered : (code : ℕ) → code < 2 ^ 8 → response_in (status_octets code) ≡ Some code
status-answered code fits = status-back code fits

pub read-answered : (fs : List VersionFilter) → Each VersionFilterFits fs → read_read (read_in (read_octets fs)) ≡ read_answer fs
read-answered fs h = ap read_read (read_back fs h)

-- the value of a write is the tree at the place that is answered
module _ (given : Bool) (version e c a : ℕ) (d : Datum) (fv : version < 2 ^ 32) (p : PathFits e c a) (w : Writable (primitive_d d)) where
  abbrev s : List ℕ
  s = write_octets given version e c a d

  pub write-answered :
      (n : ℕ) ×
      (write_read (write_in (write_octets given version e c a d)) ≡ write_answer given version e c a n) ×
      (or_none (tree_at 7 (write_octets given version e c a d) n) ≡ primitive (context 2) (primitive_d d))
  write-answered =
      let (r, here, means) = through (write_tree 7 s) (write_in s) (write-back given version e c a d fv p w) in
      let (x, alone, entry) = one_of (entry_tree 7 s) r.entries (ap (λ (y : WriteOf Tree). y.entries) means) in
      let written : x ≡ record { version = pick given version ABSENT; endpoint = e; cluster = c; attribute = a; element = x.element } = λ j. record { version = (entry j).version; endpoint = (entry j).endpoint; cluster = (entry j).cluster; attribute = (entry j).attribute; element = x.element } in
      let whole : r ≡ record { suppress = 0; timed = 0; entries = x ∷ [] } = λ j. record { suppress = (means j).suppress; timed = (means j).timed; entries = alone j } in
      (x.element, ap write_read (here ∙ ap Some whole) ∙ ap (λ y. write_read (Some (record { suppress = 0; timed = 0; entries = y ∷ [] }))) written, ap (λ (y : EntryOf Tree). y.element) entry)

-- a part's blocks are counted, and are those that were written (report-back)
pub report-answered : (l : List Block) (m : Bool) → Each Fits l → part_read (part_in (report_octets l m)) ≡ part_answer l m
report-answered l m h =
    let s = report_octets l m in
    let (r, here, means) = through (part_tree 6 s) (part_in s) (report-back l m h) in
    let count : length r.blocks ≡ length l = sym (length-map r.blocks (report_tree 6 s)) ∙ ap (λ (y : PartOf Tree). length y.blocks) means ∙ length-map l block_means in
    ap part_read here ∙ (λ j. Some (record { more = (means j).more; blocks = count j }))

pub answer-answered : (o : WriteStatus) → OutcomeFits o → answered_in (outcomes_octets (o ∷ [])) ≡ Some (outcome_means o)
unfolding Each
answer-answered o h = answers-back (o ∷ []) (h, tt)
