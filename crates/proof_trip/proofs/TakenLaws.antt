-- WHAT THE SERVER WRITES IS TAKEN AS IT WAS MEANT: every block of a report, whatever it is written of that fits.
use Rattle.std.specs.Prelude.{Some, Ok}
use mathlib.Core.Path.{◌≡◌, refl, sym, ap, subst, ◌∙◌}
use mathlib.Core.Bool.{Bool, true, false}
use mathlib.Core.List.{List}
use Prim.Native.Nat.{ℕ, ◌^◌, ◌<◌}
use native.Mathlib.Omega.{arith}
use borrow.Author.Tests.{le-leb, le-ltb, lt-ltb, ne_eqb}
use lib.ListN.{length, take, drop, length-drop}
use lib.Seq.{length-take-le}
use Rattle.base_octets.specs.Number.{Bytes}
use Rattle.tlv_reader.specs.declared.Value.{Value}
use Rattle.tlv_reader.specs.declared.Value.TheVariants as value
use Rattle.tlv_reader.specs.Octet.{pick}
use Rattle.tlv_reader.specs.Tree.{Tree}
use Rattle.tlv_reader.specs.Value.{value_in, datum_in}
use Rattle.tlv_writer.specs.Element.{InPage}
use Rattle.im_members.specs.Scalar.{ABSENT}
use Rattle.im_blocks.specs.declared.Path.{Path}
use Rattle.im_blocks.specs.Path.{banned, exact_p}
use Rattle.im_blocks.specs.Data.{DataOf, ReportOf, shown, refused, data_tree, report_tree}
use Rattle.im_blocks.proofs.BlockLaws.{never}
use Rattle.node_schema.proofs.BoolLaws.{both}
use Rattle.im_responses.specs.Report.{PartOf, part_in, part_tree}
use Rattle.im_writer.specs.Spelling.{Each}
use Rattle.im_writer.specs.Block.{Block}
use Rattle.im_writer.specs.Meaning.{exact_path, exact_data, PathFits, Fits, block_means}
use Rattle.im_writer.proofs.SpellingLaws.{datum-back}
use Rattle.proof_round_trip.specs.Meant.{report_octets}
use Rattle.proof_round_trip.proofs.BackLaws.{report-back}
use Rattle.proof_round_trip.proofs.ReaderLaws.{through}
use Rattle.cache_entries.specs.Limits.{text_size}
use Rattle.im_responses.specs.Kept.{concrete_p}
use Rattle.cache_entries.specs.Values.{inside_usable, usable_in, long_v}
use Rattle.cache_report.specs.Block.{item_of, judgement_by, judgement_of}
use Rattle.cache_report.specs.Part.{blocks_in}
use Rattle.proof_trip.specs.Taken.{Takable, Sent, TakenAs, InStep}
use Rattle.proof_trip.proofs.EachLaws.{in_step}
use Rattle.proof_trip.proofs.ByteLaws.{all_fit, report-bytes}
use Rattle.proof_trip.proofs.PlaceLaws.{place-means, value-inside}

-- the path of one attribute
module _ {e c a : ℕ} (p : PathFits e c a) where
  pub path-exact : exact_p (exact_path e c a) ≡ true
  unfolding exact_p banned
  path-exact =
      rw (ne_eqb e ABSENT (λ q. omega (arith, p.endpoint-fits)), ne_eqb c ABSENT (λ q. omega (arith, p.cluster-fits)), ne_eqb a ABSENT (λ q. omega (arith, p.attribute-fits)))
      refl

  path-concrete : concrete_p (exact_path e c a) ≡ true
  unfolding concrete_p
  path-concrete =
      both _ _ path-exact (both _ _ (lt-ltb e (2 ^ 16) p.endpoint-fits) (both _ _ (lt-ltb c (2 ^ 32) p.cluster-fits) (lt-ltb a (2 ^ 32) p.attribute-fits)))

-- a value that means something that a cache can take
module _ (s : List ℕ) where
  value-usable : (v : Value) → InPage s v → Takable (datum_in s v) → (usable_in s v ≡ true) × (long_v v ≡ false)
  unfolding Takable usable_in inside_usable long_v
  value-usable value.Null i h = (refl, refl)
  value-usable (value.Boolean b) i h = (refl, refl)
  value-usable (value.Unsigned n) i h = (refl, refl)
  value-usable (value.Signed z) i h = (refl, refl)
  value-usable (value.Float n) i h = (refl, refl)
  value-usable (value.Text a n) i h =
      let whole : length (take n (drop a s)) ≡ n = length-take-le n (drop a s) (omega (arith, i, length-drop a s)) in
      (both _ _ (le-leb n (length s) (omega (arith, i))) (both _ _ (le-leb a _ (omega (arith, i))) h.0), le-ltb text_size n (omega (arith, whole, h.1)))
  value-usable value.Other i h = absurd h

  judgement-taken : (p : Path) (version : ℕ) (v : Value) → concrete_p p ≡ true → version < 2 ^ 32 → usable_in s v ≡ true → long_v v ≡ false → judgement_by s p version v ≡ Ok (item_of p version v)
  unfolding judgement_by
  judgement-taken p version v c n u l = rw (c, lt-ltb version (2 ^ 32) n, u, l) refl

  module _ (bytes : Bytes s) where
    -- one block
    block-taken : (b : Block) → Sent b → (r : ReportOf ℕ) → report_tree 6 s r ≡ block_means b → TakenAs s b r
    unfolding Sent Fits block_means TakenAs judgement_of
    block-taken (Block.value version e c a d) h (shown y) q =
        let same : data_tree 6 s y ≡ exact_data version e c a d = cc in
        let path : y.path ≡ exact_path e c a = ap (λ (x : DataOf Tree). x.path) same in
        let at-version : y.version ≡ version = ap (λ (x : DataOf Tree). x.version) same in
        let v : Value = value_in s y.element in
        let means : datum_in s v ≡ d = place-means 6 s bytes y.element (ap (λ (x : DataOf Tree). x.element) same) ∙ datum-back d in
        let u = value-usable v (value-inside s y.element) (subst Takable (sym means) h.1) in (
          item_of y.path y.version v,
          judgement-taken y.path y.version v (ap concrete_p path ∙ path-concrete h.0.1.0) (omega (arith, at-version, h.0.0)) u.0 u.1,
          record {
            endpoint-said = ap (λ (x : Path). x.endpoint) path;
            cluster-said = ap (λ (x : Path). x.cluster) path;
            attribute-said = ap (λ (x : Path). x.attribute) path;
            version-said = at-version;
            value-said = means;
          },
        )
    block-taken (Block.value version e c a d) h (refused z) q = never (cc)
    block-taken (Block.status e c a code) h (shown y) q = never (cc)
    block-taken (Block.status e c a code) h (refused z) q = refl

-- THE LAW
pub report-taken : (l : List Block) (m : Bool) → Each Sent l → (p : PartOf ℕ) × (part_in (report_octets l m) ≡ Some p) × (p.more ≡ pick m 1 ABSENT) × InStep (TakenAs (report_octets l m)) l (blocks_in (report_octets l m))
unfolding blocks_in
report-taken l m h =
    let s : List ℕ = report_octets l m in
    let (r, here, means) = through (part_tree 6 s) (part_in s) (report-back l m (all_fit l h)) in (
      r,
      here,
      ap (λ (y : PartOf Tree). y.more) means,
      rw here (in_step (report_tree 6 s) block_means Sent (TakenAs s) (block-taken s (report-bytes l m h)) l r.blocks (ap (λ (y : PartOf Tree). y.blocks) means) h),
    )
