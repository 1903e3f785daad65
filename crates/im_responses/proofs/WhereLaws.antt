-- Where blocks stand: those of a part that has any are read one after the other from some place on.
use Rattle.std.specs.Prelude.{Some, None, Option}
use mathlib.Core.Path.{◌≡◌, refl, sym, ap, ◌∙◌}
use mathlib.Core.Bool.{Bool, true, false}
use mathlib.Core.List.{List, []}
use Prim.Native.Nat.{ℕ, zero, suc, ◌-◌, ◌<◌}
use native.Mathlib.Omega.{arith}
use borrow.Author.Tests.{ne_eqb}
use lib.ListN.{length, get_or}
use lib.Dec.{eqb}
use Rattle.tlv_reader.specs.Octet.{pick, array}
use Rattle.tlv_reader.specs.Head.{head_at}
use Rattle.tlv_reader.specs.Walk.{Got, bind_g, headed}
use Rattle.tlv_reader.specs.Walk.Got.{got, bad}
use Rattle.tlv_reader.specs.Decode.{bind_o, place}
use Rattle.im_members.specs.Scalar.{WRONG, number_in, flag_in}
use Rattle.im_members.specs.Array.{opt_of, optional_in}
use Rattle.im_blocks.specs.Data.{ReportOf, report_at}
use Rattle.im_blocks.proofs.BlockLaws.{never}
use Rattle.im_requests.specs.Message.{given, list_at, message_at}
use Rattle.im_responses.specs.Report.{PartOf, blocks_from, blocks_at, part_tags, part_from, part_in}
use Rattle.tlv_reader.specs.declared.Element.{Element}

module _ (s : List ℕ) where
  abbrev Standing : List (ReportOf ℕ) → Type 0
  Standing l = (n : ℕ) × (opt_of (blocks_at 8 s n) ≡ Some l)

  from_first : (p : ℕ) (l : List (ReportOf ℕ)) → optional_in [] (list_at report_at 9 s) p ≡ Some l → 0 < length l → Standing l
  unfolding optional_in blocks_at blocks_from list_at
  from_first zero l e some = let z : [] ≡ l = cc in absurd (omega (arith, some, ap (λ (k : List (ReportOf ℕ)). length k) z))
  from_first (suc p) l e some = go (head_at s (suc p - 1)) (rw (ne_eqb (suc p) 0 (λ z. omega arith)) at e)
    where
      by : (n : ℕ) (b : Bool) → opt_of (pick b (blocks_at 8 s n) bad) ≡ Some l → Standing l
      by n true t = (n, t)
      by n false t = never (cc)

      go : (h : (Option Element)) → opt_of (headed bad (λ x. pick (eqb x.kind array) (blocks_at 8 s x.next.at) bad) h) ≡ Some l → Standing l
      go None t = never (cc)
      go (Some x) t = by x.next.at (eqb x.kind array) t

  module _ {x : PartOf ℕ} (some : 0 < length x.blocks) where
    from-part : (more : ℕ) (a b c d : Bool) (bs : Option (List (ReportOf ℕ))) → ((l : List (ReportOf ℕ)) → bs ≡ Some l → 0 < length l → Standing l) → pick a None (pick b None (pick c None (pick d (bind_o bs (λ l. Some (record { more = more; blocks = l }))) None))) ≡ Some x → Standing x.blocks
    from-part more false false false true None law e = never (cc)
    from-part more false false false true (Some l) law e =
        let same : record { more = more; blocks = l } ≡ x = cc in
        let (n, here) = law l refl (omega (arith, some, ap (λ (y : PartOf ℕ). length y.blocks) same)) in
        (n, here ∙ ap (λ (y : PartOf ℕ). Some y.blocks) same)
    from-part more false false false false bs law e = never (cc)
    from-part more false false true d bs law e = never (cc)
    from-part more false true c d bs law e = never (cc)
    from-part more true b c d bs law e = never (cc)

    -- THE LAW
    pub part-stands : part_in s ≡ Some x → Standing x.blocks
    unfolding part_in part_from
    part-stands e = go (message_at part_tags s) e
      where
        opened : (o : Option (PartOf ℕ)) (k : ℕ) → opt_of (place o k) ≡ o
        opened None k = refl
        opened (Some y) k = refl

        go : (g : Got (List ℕ)) → opt_of (bind_g g (λ seen n. place (part_from s seen) n)) ≡ Some x → Standing x.blocks
        go bad e = never (cc)
        go (got xs n) e =
            from-part (flag_in s (get_or xs 3 0)) (eqb (number_in 4294967295 false s (get_or xs 0 0)) WRONG) (eqb (flag_in s (get_or xs 3 0)) WRONG) (eqb (flag_in s (get_or xs 4 0)) WRONG) (given (number_in 255 false s (get_or xs 9 0))) (optional_in [] (list_at report_at 9 s) (get_or xs 1 0)) (from_first (get_or xs 1 0)) (sym (opened (part_from s xs) n) ∙ e)
