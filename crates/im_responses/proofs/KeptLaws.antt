-- The blocks of a part in words: what the code keeps, and what it keeps them of.
use Rattle.std.specs.Prelude.{Some, None}
use Rattle.std.proofs.lemmas.Option.{some_pair_parts}
use mathlib.Core.Path.{◌≡◌, refl, ap}
use mathlib.Core.Bool.{Bool, true, false, ◌&&◌}
use Prim.Native.Nat.{ℕ, ◌^◌, ◌<◌}
use borrow.Author.Tests.{ltb-true}
use lib.Dec.{ltb}
use Rattle.tlv_reader.specs.declared.Cursor.{Cursor}
use Rattle.tlv_reader.specs.Octet.{pick}
use Rattle.tlv_reader.specs.Walk.{Got}
use Rattle.tlv_reader.specs.Walk.Got.{got, bad}
use Rattle.im_blocks.specs.declared.Path.{Path}
use Rattle.im_blocks.specs.declared.Report.{Report}
use Rattle.im_blocks.specs.Path.{exact_p}
use Rattle.im_blocks.specs.Data.{ReportOf, report_struct, report_read}
use Rattle.im_blocks.proofs.BlockLaws.{never}
use Rattle.im_requests.specs.Message.{read_as}
use Rattle.im_responses.specs.Kept.{concrete_p, block_struct}

-- a row of tests that hold
left : (a b : Bool) → (a && b) ≡ true → a ≡ true
left true b h = refl
left false b h = h

right : (a b : Bool) → (a && b) ≡ true → b ≡ true
right true b h = h
right false b h = never (ap (λ (x : Bool). pick x 1 0) h)

-- a concrete path's parts have their widths
pub record Widths (p : Path) : Type 0 where
  pub endpoint : p.endpoint < 2 ^ 16
  pub cluster : p.cluster < 2 ^ 32
  pub attribute : p.attribute < 2 ^ 32

pub concrete-widths : (p : Path) → concrete_p p ≡ true → Widths p
unfolding concrete_p
concrete-widths p h =
    let a = right (exact_p p) _ h in
    let b = right (ltb p.endpoint (2 ^ 16)) _ a in
    record {
      endpoint = ltb-true _ _ (left _ _ a);
      cluster = ltb-true _ _ (left _ _ b);
      attribute = ltb-true _ _ (right (ltb p.cluster (2 ^ 32)) _ b);
    }

-- a block that is read, as it is kept
pub block-lacks : (g : Got (ReportOf ℕ)) → report_read g ≡ None → read_as block_struct g ≡ None
block-lacks bad e = refl
block-lacks (got x n) e = never (cc)

pub block-has : (g : Got (ReportOf ℕ)) {r : Report} {n : Cursor} → report_read g ≡ Some (r, n) → read_as block_struct g ≡ Some (record { report = r }, n)
block-has bad e = never (cc)
block-has (got x m) {r} {n} e = let p = some_pair_parts (report_struct x) r (record { at = m }) n e in (λ j. Some (record { report = p.0 j }, p.1 j))
