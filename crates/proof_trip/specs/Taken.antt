-- What a cache is to make of what a server writes: a block with a value is taken as it was meant, one with a status is not taken, and a write ends with its status.
use Rattle.std.specs.Prelude.{◌≡◌, Bool, true, false, List, [], ◌∷◌, ◌++◌, ℕ, ◌≤◌, length, Ok, Err}
use Rattle.tlv_reader.specs.Value.{Datum, datum_in, null, boolean, unsigned, signed, float, text, other}
use Rattle.base_utf8.specs.WellFormed.{well_formed}
use Rattle.im_blocks.specs.Data.{ReportOf}
use Rattle.im_writer.specs.Block.{Block, value, status}
use Rattle.im_writer.specs.Meaning.{Fits}
use Rattle.im_writer.specs.Envelope.{envelope_octets, cache_edition}
use Rattle.proof_round_trip.specs.Meant.{WriteStatus, report_octets}
use Rattle.cache_entries.specs.declared.Cached.{Cached}
use Rattle.cache_entries.specs.Limits.{text_size}
use Rattle.cache_report.specs.declared.block.NewEntry.{NewEntry}
use Rattle.cache_report.specs.declared.block.Unfit.TheVariants.{Unusable}
use Rattle.cache_report.specs.Part.{blocks_in, judgement_in, judged_all, held_all, page_all}
use Rattle.cache_state.specs.declared.Request.{Request}
use Rattle.cache_state.specs.declared.CacheState.{CacheState}
use Rattle.cache_state.specs.State.{with_status}
use Rattle.cache_state.specs.Reaction.{Silent, begins-none}
use Rattle.cache_receive.specs.Receive.{ended_as}

-- null or of the five kinds; a text is UTF-8 and has at most 200 bytes
unfoldable pub Takable : Datum → Type 0
Takable null = Unit {0}
Takable (boolean b) = Unit {0}
Takable (unsigned n) = Unit {0}
Takable (signed z) = Unit {0}
Takable (float n) = Unit {0}
Takable (text b) = (well_formed b ≡ true) × (length b ≤ text_size)
Takable other = ⊥

-- a block that the server can write, and its value one that a cache can take
unfoldable pub Sent : Block → Type 0
Sent (value version endpoint cluster attribute d) = Fits (value version endpoint cluster attribute d) × Takable d
Sent (status endpoint cluster attribute code) = Fits (status endpoint cluster attribute code)

-- what a cache takes from the message s says this
pub record Says (s : List ℕ) (version endpoint cluster attribute : ℕ) (d : Datum) (x : NewEntry) : Type 0 where
  pub endpoint-said : x.endpoint ≡ endpoint
  pub cluster-said : x.cluster ≡ cluster
  pub attribute-said : x.attribute ≡ attribute
  pub version-said : x.version ≡ version
  pub value-said : datum_in s x.value ≡ d

-- a block as it was written, and as it is read from the message s
unfoldable pub TakenAs : List ℕ → Block → ReportOf ℕ → Type 0
TakenAs s (value version endpoint cluster attribute d) r =
    (x : NewEntry) × (judgement_in s r ≡ Ok x) × Says s version endpoint cluster attribute d x
TakenAs s (status endpoint cluster attribute code) r = judgement_in s r ≡ Err Unusable

-- a status among blocks
unfoldable pub any_status : List Block → Bool
any_status [] = false
any_status (value version endpoint cluster attribute d ∷ l) = any_status l
any_status (status endpoint cluster attribute code ∷ l) = true

-- two lists in step: one as long as the other, and what stands at one place belongs together
unfoldable pub InStep : {A B : Type 0} → (A → B → Type 0) → List A → List B → Type 0
InStep R [] [] = Unit {0}
InStep R [] (y ∷ m) = ⊥
InStep R (x ∷ l) [] = ⊥
InStep R (x ∷ l) (y ∷ m) = R x y × InStep R l m

-- the write that a cache has open is of the path that a status is for
pub record OfPath (x : Request) (o : WriteStatus) : Type 0 where
  pub same-endpoint : x.endpoint ≡ o.endpoint
  pub same-cluster : x.cluster ≡ o.cluster
  pub same-attribute : x.attribute ≡ o.attribute

-- the newest request ended with this status; the cache is done with the exchange and sends nothing
abbrev pub ended_by : CacheState → ℕ → Silent
ended_by s code = begins-none 1 (record { held = s.held; asked = ended_as s.asked with_status code })

-- what a cache makes of a report of these blocks: the number that they get (0: there is room for all), what it then holds, and its page
abbrev pub judged_for : Cached → List Block → Bool → ℕ
judged_for c l m = (judged_all (report_octets l m) (record { number = 0; held = c }) (blocks_in (report_octets l m))).number

abbrev pub held_with : Cached → List Block → Bool → Cached
held_with c l m = held_all (report_octets l m) c (blocks_in (report_octets l m))

abbrev pub page_with : Cached → List ℕ → List Block → Bool → List ℕ
page_with c page l m = page_all (report_octets l m) c page (blocks_in (report_octets l m))

-- the reply that a request awaits, in its envelope
abbrev pub reply_to : Request → ℕ → List ℕ → List ℕ
reply_to x opcode payload = envelope_octets cache_edition opcode x.exchange x.turn ++ payload
