-- What a block of a report gets by itself: refusal 6 (RULES 6.3 b to e), or refusal 7 for a text over 200 bytes.
use Rattle.std.specs.Prelude.{◌&&◌, List, ℕ, ltb, Ok, Err, Result}
use Rattle.base_bounds.specs.Bounds.{version_limit}
use Rattle.tlv_reader.specs.declared.Value.{Value}
use Rattle.tlv_reader.specs.Octet.{pick}
use Rattle.tlv_reader.specs.Value.{value_in}
use Rattle.im_blocks.specs.declared.Path.{Path}
use Rattle.im_blocks.specs.declared.Report.{Report}
use Rattle.im_blocks.specs.declared.Report.TheVariants.{Shown, Refused}
use Rattle.im_responses.specs.Kept.{concrete_p}
use Rattle.cache_entries.specs.Values.{usable_in, long_v}
use Rattle.cache_report.specs.declared.block.NewEntry.{NewEntry}
use Rattle.cache_report.specs.declared.block.Unfit.{Unfit}
use Rattle.cache_report.specs.declared.block.Unfit.TheVariants.{Long, Unusable}

-- an entry to set, or why there is none
abbrev pub Judgement : Type 0
Judgement = Result NewEntry Unfit

abbrev pub item_of : Path → ℕ → Value → NewEntry
item_of p version v =
    record { endpoint = p.endpoint; cluster = p.cluster; attribute = p.attribute; version = version; value = v }

unfoldable pub judgement_by : List ℕ → Path → ℕ → Value → Judgement
judgement_by s p version v =
    pick (concrete_p p && (ltb version version_limit && usable_in s v)) (pick (long_v v) (Err Long) (Ok (item_of p version v))) (Err Unusable)

-- a version that is absent is above 32 bits, as every part of a path that is absent
unfoldable pub judgement_of : List ℕ → Report → Judgement
judgement_of s (Refused a) = Err Unusable
judgement_of s (Shown d) = judgement_by s d.path d.version (value_in s d.place)
