-- A payload holds few blocks: each takes ten bytes, and the array's end one.
use Rattle.std.specs.Prelude.{Some}
use mathlib.Core.Path.{◌≡◌, refl, sym, ap, subst}
use mathlib.Core.Bool.{Bool, true, false}
use mathlib.Core.List.{List, []}
use Prim.Native.Nat.{ℕ, ◌+◌, ◌*◌, ◌≤◌}
use native.Mathlib.Omega.{arith}
use borrow.Author.Tests.{ltb-true, ltb-false}
use lib.ListN.{length}
use lib.Dec.{ltb}
use Rattle.base_bounds.specs.Bounds.{payload_limit}
use Rattle.tlv_reader.specs.declared.Element.{Element}
use Rattle.tlv_reader.specs.Octet.{array}
use Rattle.tlv_reader.specs.Head.{head_at}
use Rattle.tlv_reader.specs.Walk.{Got, map_g}
use Rattle.tlv_reader.specs.Walk.Got.{got, bad}
use Rattle.tlv_reader.proofs.FoldLaws.{Ahead, ahead-map, fold-ahead}
use Rattle.im_members.specs.Array.{opt_of, each_step}
use Rattle.im_members.proofs.PassLaws.{within, reads-forward}
use Rattle.im_blocks.specs.Data.{ReportOf, report_at, report_on}
use Rattle.im_blocks.proofs.BlockLaws.{never}
use Rattle.im_blocks.proofs.OnLaws.{report-reads}
use Rattle.im_blocks.proofs.SizeLaws.{Grown, fold-grows, report-size}
use Rattle.im_requests.specs.Message.{snoc}
use Rattle.im_requests.proofs.KeepLaws.{length-snoc}
use Rattle.im_responses.specs.Report.{PartOf, blocks_from, blocks_at, part_in}
use Rattle.im_responses.specs.Kept.{max_blocks}
use Rattle.im_responses.proofs.WhereLaws.{part-stands}

abbrev bytes : List (ReportOf ℕ) → ℕ
bytes l = 10 * length l

module _ (d : ℕ) (s : List ℕ) where
  one_more : (l : List (ReportOf ℕ)) (at : ℕ) (e : Element) → head_at s at ≡ Some e → Grown bytes at (bytes l) (each_step snoc (report_at d s) l at e)
  unfolding each_step
  one_more l at e h = go (report_at d s at) ((report-reads d s).here at e h)
    where
      go : (g : Got (ReportOf ℕ)) → g ≡ report_on d s e → Grown bytes at (bytes l) (map_g (snoc l) g)
      go bad q = tt
      go (got x n) q = omega (arith, report-size d s e x n (sym q), (within s at h).0, length-snoc l x)

  blocks-size : (at : ℕ) {l : List (ReportOf ℕ)} {n : ℕ} → blocks_at d s at ≡ got l n → at + 1 + 10 * length l ≤ n
  unfolding blocks_at blocks_from
  blocks-size at {l} {n} w = let g = subst (Grown bytes (at + 1) 0) w (fold-grows bytes (each_step snoc (report_at d s)) s one_more array (length s) [] at) in omega arith

  blocks-within : (at : ℕ) {l : List (ReportOf ℕ)} {n : ℕ} → blocks_at d s at ≡ got l n → n ≤ length s
  unfolding blocks_at blocks_from each_step
  blocks-within at w = (subst (Ahead at (length s)) w (fold-ahead (each_step snoc (report_at d s)) s (λ l p e h. ahead-map p (length s) (snoc l) (report_at d s p) (reads-forward d s (report-reads d s) p e h)) (length s) array [] at)).1

-- THE LAW
pub few-blocks : (s : List ℕ) (p : PartOf ℕ) → length s ≤ payload_limit → part_in s ≡ Some p → length p.blocks ≤ max_blocks
few-blocks s p small e = go (ltb 0 (length p.blocks)) refl
  where
    from : (at : ℕ) (g : Got (List (ReportOf ℕ))) → blocks_at 8 s at ≡ g → opt_of g ≡ Some p.blocks → length p.blocks ≤ max_blocks
    from at bad w z = never (cc)
    from at (got l n) w z =
        let same : l ≡ p.blocks = cc in
        omega (arith, blocks-size 8 s at w, blocks-within 8 s at w, ap (λ (k : List (ReportOf ℕ)). length k) same)

    go : (b : Bool) → ltb 0 (length p.blocks) ≡ b → length p.blocks ≤ max_blocks
    go true q = let (at, here) = part-stands s (ltb-true 0 (length p.blocks) q) e in from at (blocks_at 8 s at) refl here
    go false q = let z = ltb-false 0 (length p.blocks) q in omega arith
