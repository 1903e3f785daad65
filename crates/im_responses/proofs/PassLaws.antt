-- Report Data in one pass: what the code goes on with.
use Rattle.std.specs.Prelude.{Some, None, Option}
use mathlib.Core.Path.{◌≡◌, refl, sym, ap, ◌∙◌}
use mathlib.Core.Bool.{Bool, true, false}
use mathlib.Core.List.{List, [], map}
use Prim.Native.Nat.{ℕ, ◌≤◌}
use native.Mathlib.Omega.{arith}
use lib.ListN.{length, get_or}
use lib.Dec.{eqb}
use Rattle.tlv_reader.specs.Octet.{pick, structure}
use Rattle.im_members.specs.Array.{optional_in}
use Rattle.im_members.specs.Scalar.{WRONG, number_in, flag_in}
use Rattle.im_members.specs.Pass.{Pass, code_in, number_by, flag_by}
use Rattle.im_members.proofs.PassLaws.{Left, number-coded, flag-coded, Reads}
use Rattle.im_blocks.specs.Data.{ReportOf, report_at, report_on}
use Rattle.im_blocks.proofs.OnLaws.{report-reads}
use Rattle.im_requests.specs.Message.{given, structure_at, whole_pass, list_at, list_on}
use Rattle.im_requests.proofs.PassLaws.{list-reads, whole-bad, whole-lacks, whole-passed}
use Rattle.im_responses.specs.declared.PartRead.{PartRead}
use Rattle.im_responses.specs.Report.{PartOf, part_tags, part_of, part_from, part_in, part_read, part_by}

-- the array of blocks by its head
pub blocks-reads : (s : List ℕ) → Reads 9 s (list_at report_at 9 s) (list_on report_at 9 s)
blocks-reads s = list-reads report_at (report_on 8 s) 8 s (report-reads 8 s)

clash : true ≡ false → ⊥
clash e = let z : ◌≡◌ {A = ℕ} 1 0 = ap (λ (b : Bool). pick b 1 0) e in omega arith

-- no blocks, no part
pub part-lacks : (s : List ℕ) (xs : List ℕ) → optional_in [] (list_at report_at 9 s) (get_or xs 1 0) ≡ None → part_from s xs ≡ None
unfolding part_from
part-lacks s xs e = rw e (go (eqb (number_in 4294967295 false s (get_or xs 0 0)) WRONG) (eqb (flag_in s (get_or xs 3 0)) WRONG) (eqb (flag_in s (get_or xs 4 0)) WRONG) (given (number_in 255 false s (get_or xs 9 0))))
  where
    go : (a b c d : Bool) → ◌≡◌ {A = Option (PartOf ℕ)} (pick a None (pick b None (pick c None (pick d None None)))) None
    go true b c d = refl
    go false true c d = refl
    go false false true d = refl
    go false false false true = refl
    go false false false false = refl

from : (s xs ks : List ℕ) → ks ≡ map (code_in s) xs → {l : List (ReportOf ℕ)} → optional_in [] (list_at report_at 9 s) (get_or xs 1 0) ≡ Some l → part_from s xs ≡ part_of (number_by 4294967295 false (get_or ks 0 0)) (flag_by (get_or ks 3 0)) (flag_by (get_or ks 4 0)) (number_by 255 false (get_or ks 9 0)) (Some l)
unfolding part_from
from s xs ks k b = rw (b, ← (number-coded s ks xs k 0 4294967295 false (omega arith) refl), ← (flag-coded s ks xs k 3 refl), ← (flag-coded s ks xs k 4 refl), ← (number-coded s ks xs k 9 255 false (omega arith) refl)) refl

module _ {s before : List ℕ} {stops : List Bool} {z : Pass} (L : Left 9 s structure part_tags stops before (structure_at part_tags s) z) (o : 10 ≤ z.slot) (l : List (ReportOf ℕ)) (some : z.good ≡ true → optional_in [] (list_at report_at 9 s) (get_or z.at 1 0) ≡ Some l) where
  made : part_in s ≡ pick (whole_pass (length s) z) (part_of (number_by 4294967295 false (get_or z.codes 0 0)) (flag_by (get_or z.codes 3 0)) (flag_by (get_or z.codes 4 0)) (number_by 255 false (get_or z.codes 9 0)) (Some l)) None
  unfolding part_in
  made = by z.good refl
    where
      by : (b : Bool) → z.good ≡ b → part_in s ≡ pick (whole_pass (length s) z) (part_of (number_by 4294967295 false (get_or z.codes 0 0)) (flag_by (get_or z.codes 3 0)) (flag_by (get_or z.codes 4 0)) (number_by 255 false (get_or z.codes 9 0)) (Some l)) None
      by false g = rw (whole-bad (length s) z g) (whole-lacks (part_from s) L o (λ h. absurd (clash (sym h ∙ g))))
      by true g = whole-passed (part_from s) L o ∙ ap (λ x. pick (whole_pass (length s) z) x None) (from s z.at z.codes L.coded (some g))

  -- what is made of the members is what the code makes of their codes, for all that is made of a part
  pub part_out : {X : Type 0} (out : Option PartRead → X) (mean : Option (PartOf ℕ) → X) → out (part_read None) ≡ mean None → ((more : ℕ) → let x : Option (PartOf ℕ) = Some (record { more = more; blocks = l }) in out (part_read x) ≡ mean x) → out (part_by (length s) z (length l)) ≡ mean (part_in s)
  unfolding part_by
  part_out out mean lacks has = go (whole_pass (length s) z) (eqb (number_by 4294967295 false (get_or z.codes 0 0)) WRONG) (eqb (flag_by (get_or z.codes 3 0)) WRONG) (eqb (flag_by (get_or z.codes 4 0)) WRONG) (given (number_by 255 false (get_or z.codes 9 0))) ∙ sym (ap mean made)
    where
      go : (w a b c d : Bool) → out (pick w (pick a None (pick b None (pick c None (pick d (Some (record { more = flag_by (get_or z.codes 3 0); blocks = length l })) None)))) None) ≡ mean (pick w (pick a None (pick b None (pick c None (pick d (Some (record { more = flag_by (get_or z.codes 3 0); blocks = l })) None)))) None)
      go false a b c d = lacks
      go true true b c d = lacks
      go true false true c d = lacks
      go true false false true d = lacks
      go true false false false false = lacks
      go true false false false true = has (flag_by (get_or z.codes 3 0))
