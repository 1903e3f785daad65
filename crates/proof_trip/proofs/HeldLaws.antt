-- WHAT THE SERVER WROTE IS WHAT THE CACHE THEN HOLDS: of every path, what the last block of that path says, else what was held before.
use Rattle.std.specs.Prelude.{Some, None, Option, Ok, Err}
use mathlib.Core.Path.{◌≡◌, refl, sym, ap, ◌∙◌}
use mathlib.Core.Logic.{◌⊎◌, inl, inr}
use mathlib.Core.Bool.{Bool, true, false, ◌&&◌}
use mathlib.Core.List.{List, [], ◌∷◌}
use Prim.Native.Nat.{ℕ, ◌^◌, ◌<◌}
use native.Mathlib.Omega.{arith}
use borrow.Author.Tests.{eqb-true, eq-eqb}
use lib.Dec.{eqb}
use Rattle.tlv_reader.specs.Octet.{pick}
use Rattle.tlv_reader.specs.Value.{Datum, datum_in}
use Rattle.tlv_reader.proofs.Picks.{pick-elim}
use Rattle.im_blocks.specs.Data.{ReportOf, report_struct}
use Rattle.im_blocks.proofs.BlockLaws.{never}
use Rattle.node_schema.proofs.BoolLaws.{left, right, both, by-test}
use Rattle.im_writer.specs.Spelling.{Each}
use Rattle.im_writer.specs.Block.{Block}
use Rattle.proof_round_trip.specs.Meant.{report_octets}
use Rattle.cache_entries.specs.declared.Cached.{Cached}
use Rattle.cache_entries.specs.Entries.{CacheEntry, lookup}
use Rattle.cache_report.specs.declared.block.NewEntry.{NewEntry}
use Rattle.cache_report.specs.Block.{Judgement}
use Rattle.cache_report.specs.declared.block.Unfit.TheVariants.{Long, Unusable}
use Rattle.cache_report.specs.Entry.{position_of, position_number, held_at, held_for, number_for, worse, page_at, page_for, ItemRight, Good}
use Rattle.cache_report.specs.Part.{Judged, blocks_in, judgement_in, judged_next, judged_all, held_all, page_all}
use Rattle.cache_report.proofs.RightLaws.{item-right, block-right}
use Rattle.cache_report.proofs.MapLaws.{set_same, set_other}
use Rattle.proof_trip.specs.Taken.{Sent, TakenAs, InStep, judged_for, held_with, page_with}
use Rattle.proof_trip.specs.Held.{holding, same_path, after}
use Rattle.proof_trip.proofs.ReceivedLaws.{six-first, six-last}
use Rattle.proof_trip.proofs.TakenLaws.{report-taken}

-- there is room for each block in turn
unfoldable pub RoomFor : List ℕ → Cached → List (ReportOf ℕ) → Type 0
RoomFor s c [] = Unit {0}
RoomFor s c (r ∷ m) = (number_for c (judgement_in s r) ≡ 0) × RoomFor s (held_for c (judgement_in s r)) m

module _ (s : List ℕ) (e cl a : ℕ) (fe : e < 2 ^ 16) (fl : cl < 2 ^ 32) (fa : a < 2 ^ 32) where
  position-after : (c : Cached) (page : List ℕ) → Good page c → (x : NewEntry) → ItemRight s x → (p : (Option (ℕ × ℕ))) → position_of c x ≡ p → position_number p ≡ 0 → lookup (held_at c x p) (page_at s c page x p) e cl a ≡ pick (same_path x.endpoint x.cluster x.attribute e cl a) (holding x.version (datum_in s x.value)) (lookup c page e cl a)
  position-after c page g x item None q n = absurd (omega (arith, n))
  position-after c page g x item (Some (k, i)) q n = pick-elim (λ (o : Option CacheEntry). lookup held texts e cl a ≡ o) (same_path x.endpoint x.cluster x.attribute e cl a) (holding x.version (datum_in s x.value)) (lookup c page e cl a)
      (λ t. let rest : (eqb x.cluster cl && eqb x.attribute a) ≡ true = right (eqb x.endpoint e) _ t in
      let here : lookup held texts x.endpoint x.cluster x.attribute ≡ lookup held texts e cl a = λ j. lookup held texts (eqb-true x.endpoint e (left _ _ t) j) (eqb-true x.cluster cl (left _ _ rest) j) (eqb-true x.attribute a (right (eqb x.cluster cl) _ rest) j) in
      sym here ∙ set_same s page c x k i item g.right g.whole q)
      (λ f. set_other s page c x k i item g.right g.whole q e cl a fe fl fa (λ u v w. never (let same : same_path x.endpoint x.cluster x.attribute e cl a ≡ true = both _ _ (eq-eqb x.endpoint e (sym u)) (both _ _ (eq-eqb x.cluster cl (sym v)) (eq-eqb x.attribute a (sym w))) in let clash : true ≡ false = sym same ∙ f in cc)))
    where
      held : Cached
      held = held_at c x (Some (k, i))

      texts : List ℕ
      texts = page_at s c page x (Some (k, i))

  -- ONE BLOCK
  pub block_held : (c : Cached) (page : List ℕ) → Good page c → (version e' cl' a' : ℕ) (d : Datum) (r : ReportOf ℕ) → TakenAs s (Block.value version e' cl' a' d) r → number_for c (judgement_in s r) ≡ 0 → lookup (held_for c (judgement_in s r)) (page_for s c page (judgement_in s r)) e cl a ≡ pick (same_path e' cl' a' e cl a) (holding version d) (lookup c page e cl a)
  unfolding TakenAs held_for page_for number_for
  block_held c page g version e' cl' a' d r t n =
      let (x, taken, says) = t in
      let here = position-after c page g x (item-right s (report_struct r) x taken) (position_of c x) refl (sym (ap (number_for c) taken) ∙ n) in
      let meant : pick (same_path x.endpoint x.cluster x.attribute e cl a) (holding x.version (datum_in s x.value)) (lookup c page e cl a) ≡ pick (same_path e' cl' a' e cl a) (holding version d) (lookup c page e cl a) = λ j. pick (same_path (says.endpoint-said j) (says.cluster-said j) (says.attribute-said j) e cl a) (holding (says.version-said j) (says.value-said j)) (lookup c page e cl a) in
      ap (λ (f : Judgement). lookup (held_for c f) (page_for s c page f) e cl a) taken ∙ here ∙ meant

  all_after : (l : List Block) (m : List (ReportOf ℕ)) → InStep (TakenAs s) l m → (c : Cached) (page : List ℕ) → Good page c → RoomFor s c m → lookup (held_all s c m) (page_all s c page m) e cl a ≡ after e cl a (lookup c page e cl a) l
  unfolding InStep held_all page_all RoomFor after number_for TakenAs
  all_after [] [] h c page g room = refl
  all_after [] (r ∷ m) h c page g room = absurd h
  all_after (b ∷ l) [] h c page g room = absurd h
  all_after (Block.value version e' cl' a' d ∷ l) (r ∷ m) h c page g room =
      all_after l m h.1 (held_for c (judgement_in s r)) (page_for s c page (judgement_in s r)) (block-right s page c g (report_struct r)) room.1
      ∙ ap (λ (o : Option CacheEntry). after e cl a o l) (block_held c page g version e' cl' a' d r h.0 room.0)
  all_after (Block.status e' cl' a' code ∷ l) (r ∷ m) h c page g room =
      let z : ◌≡◌ {A = ℕ} 6 0 = sym (ap (number_for c) h.0) ∙ room.0 in absurd (omega (arith, z))

-- the number of blocks is 0 only if there is room for each
abbrev Bad : ℕ → Type 0
Bad n = (n ≡ 6) ⊎ (n ≡ 7)

bad-first : (a b : ℕ) → Bad a → Bad (worse a b)
unfolding worse
bad-first a b (inl e) = inl (six-first a b e)
bad-first a b (inr e) = by-test (eqb b 6) (λ t. inl (six-last a b (eqb-true b 6 t))) (λ f. inr (rw (e, f) refl))

bad_last : (a b : ℕ) → Bad b → Bad (worse a b)
unfolding worse
bad_last a b (inl e) = inl (six-last a b e)
bad_last a b (inr e) = by-test (eqb a 6) (λ t. inl (six-first a b (eqb-true a 6 t))) (λ f. inr (rw (f, e) (pick-elim (λ (n : ℕ). n ≡ 7) (eqb a 7) 7 7 (λ _. refl) (λ _. refl))))

number_is : (c : Cached) (f : Judgement) → (number_for c f ≡ 0) ⊎ Bad (number_for c f)
unfolding number_for
number_is c (Err Unusable) = inr (inl refl)
number_is c (Err Long) = inr (inr refl)
number_is c (Ok x) = go (position_of c x)
  where
    go : (p : (Option (ℕ × ℕ))) → (position_number p ≡ 0) ⊎ Bad (position_number p)
    go (Some (k, i)) = inl refl
    go None = inr (inr refl)

module _ (s : List ℕ) where
  bad-stays : (m : List (ReportOf ℕ)) (j : Judged) → Bad j.number → (judged_all s j m).number ≡ 0 → ⊥
  unfolding judged_all
  bad-stays [] j (inl e) z = omega (arith, e, z)
  bad-stays [] j (inr e) z = omega (arith, e, z)
  bad-stays (r ∷ m) j b z = bad-stays m (judged_next s j r) (bad-first j.number (number_for j.held (judgement_in s r)) b) z

  room_for : (m : List (ReportOf ℕ)) (j : Judged) → (judged_all s j m).number ≡ 0 → RoomFor s j.held m
  unfolding judged_all RoomFor
  room_for [] j z = tt
  room_for (r ∷ m) j z = (go (number_is j.held (judgement_in s r)), room_for m (judged_next s j r) z)
    where
      go : (number_for j.held (judgement_in s r) ≡ 0) ⊎ Bad (number_for j.held (judgement_in s r)) → number_for j.held (judgement_in s r) ≡ 0
      go (inl e) = e
      go (inr b) = absurd (bad-stays m (judged_next s j r) (bad_last j.number (number_for j.held (judgement_in s r)) b) z)

-- THE WHOLE REPORT, judged 0
module _ (l : List Block) (m : Bool) (h : Each Sent l) (c : Cached) (page : List ℕ) (good : Good page c) where
  abbrev s : List ℕ
  s = report_octets l m

  pub report-held : judged_for c l m ≡ 0 → (e cl a : ℕ) → e < 2 ^ 16 → cl < 2 ^ 32 → a < 2 ^ 32 → lookup (held_with c l m) (page_with c page l m) e cl a ≡ after e cl a (lookup c page e cl a) l
  report-held z e cl a fe fl fa =
      let (p, here, more, step) = report-taken l m h in
      all_after s e cl a fe fl fa l (blocks_in s) step c page good (room_for s (blocks_in s) (record { number = 0; held = c }) z)
