-- The entries of a write that was read: each path's parts have their widths.
use Rattle.std.specs.Prelude.{Some, None, Option}
use mathlib.Core.Path.{◌≡◌, refl, sym, subst}
use mathlib.Core.Bool.{Bool, true, false, not, true≢false}
use mathlib.Core.List.{List, [], ◌∷◌, map}
use Prim.Native.Nat.{ℕ, zero, suc, ◌-◌, ◌^◌, ◌<◌, ◌≤◌}
use native.Mathlib.Omega.{arith}
use borrow.Author.Tests.{eqb-false, ltb-false, not-true}
use lib.ListN.{length, get_or}
use lib.Dec.{eqb, ltb}
use Rattle.base_bounds.specs.Bounds.{write_limit}
use Rattle.tlv_reader.specs.Octet.{pick, array, end_of_container, list, structure}
use Rattle.tlv_reader.specs.Head.{head_at}
use Rattle.tlv_reader.specs.Walk.{Got, bind_g, map_g, allowed_in, headed, fold_by, fold_at}
use Rattle.tlv_reader.specs.Walk.Got.{got, bad}
use Rattle.tlv_reader.specs.Decode.{bind_o, place}
use Rattle.tlv_reader.proofs.Picks.{pick-elim, choose-elim}
use Rattle.im_members.specs.Fields.{inside_at}
use Rattle.im_members.specs.Scalar.{ABSENT, WRONG, number_of, number_in, flag_in, wide_in}
use Rattle.im_members.specs.Array.{opt_of, each_step, required_in}
use Rattle.im_blocks.specs.declared.Path.{Path}
use Rattle.im_blocks.specs.Path.{sound_path, path_tags, path_from, path_at, banned, exact_p}
use Rattle.im_blocks.specs.Data.{DataOf, triple_tags, versioned, any_in, data_from, data_at}
use Rattle.im_requests.specs.Message.{snoc, list_at, first_of, message_at, given}
use Rattle.im_requests.proofs.KeepLaws.{first-none}
use Rattle.im_requests.specs.declared.write.WriteEntry.{WriteEntry}
use Rattle.im_requests.specs.Write.{EntryOf, entry_for, entry_if, entry_at, entry_struct, no_entry, WriteOf, write_tags, unchunked, is_empty, write_from, write_in, write_read}
use Rattle.tlv_reader.specs.declared.Element.{Element}

-- ---- what holds of whatever is read

abbrev OfOpt : {A : Type 0} → (A → Type 0) → Option A → Type 0
OfOpt P None = Unit {0}
OfOpt P (Some x) = P x

abbrev OfGot : {A : Type 0} → (A → Type 0) → Got A → Type 0
OfGot P bad = Unit {0}
OfGot P (got x n) = P x

-- of each of a list
abbrev pub Each : {A : Type 0} → (A → Type 0) → List A → Type 0
Each P [] = Unit {0}
Each P (x ∷ l) = P x × Each P l

module _ {A : Type 0} (P : A → Type 0) where
  of-opt : (g : Got A) → OfGot P g → OfOpt P (opt_of g)
  of-opt bad h = tt
  of-opt (got x n) h = h

  placed : (o : Option A) (n : ℕ) → OfOpt P o → OfGot P (place o n)
  placed None n h = tt
  placed (Some x) n h = h

  required : (read : ℕ → Got A) → ((at : ℕ) → OfGot P (read at)) → (p : ℕ) → OfOpt P (required_in read p)
  unfolding required_in
  required read f p = pick-elim (OfOpt P) (eqb p 0) None (opt_of (read (p - 1))) (λ _. tt) (λ _. of-opt (read (p - 1)) (f (p - 1)))

  each_snoc : (l : List A) (x : A) → Each P l → P x → Each P (snoc l x)
  each_snoc [] x h p = (p, tt)
  each_snoc (y ∷ l) x h p = (h.0, each_snoc l x h.1 p)

  -- what is kept of such a list, filled up with such
  each_first : (l : List A) (z : A) → Each P l → P z → (n i : ℕ) → P (get_or (first_of n z l) i z)
  unfolding first_of
  each_first l z h p zero i = p
  each_first [] z h p (suc n) zero = p
  each_first [] z h p (suc n) (suc i) = each_first [] z tt p n i
  each_first (x ∷ l) z h p (suc n) zero = h.0
  each_first (x ∷ l) z h p (suc n) (suc i) = each_first l z h.1 p n i

  -- an array whose members are read one by one
  module _ (read : ℕ → Got A) (f : (at : ℕ) → OfGot P (read at)) where
    by-step : (l : List A) (rest : List A → ℕ → Got (List A)) → Each P l → ((y : List A) (n : ℕ) → Each P y → OfGot (Each P) (rest y n)) → (g : Got A) → OfGot P g → OfGot (Each P) (bind_g (map_g (snoc l) g) rest)
    by-step l rest h r bad p = tt
    by-step l rest h r (got x n) p = r (snoc l x) n (each_snoc l x h p)

    by-head : (kind : ℕ) (l : List A) (at : ℕ) (rest : List A → ℕ → Got (List A)) → Each P l → ((y : List A) (n : ℕ) → Each P y → OfGot (Each P) (rest y n)) → (e : (Option Element)) → OfGot (Each P) (fold_by kind l (each_step snoc read l at) rest e)
    unfolding fold_by each_step
    by-head kind l at rest h r None = tt
    by-head kind l at rest h r (Some e) =
        choose-elim (OfGot (Each P)) (eqb e.kind end_of_container) _ _ (λ _. h)
        (λ _. choose-elim (OfGot (Each P)) (allowed_in kind e.form) _ _ (λ _. by-step l rest h r (read at) (f at)) (λ _. tt))

    fold-each : (fuel : ℕ) (s : List ℕ) (kind : ℕ) (l : List A) (at : ℕ) → Each P l → OfGot (Each P) (fold_at (each_step snoc read) fuel s kind l at)
    unfolding fold_at
    fold-each zero s kind l at h = tt
    fold-each (suc fuel) s kind l at h =
        by-head kind l at (λ y n. fold_at (each_step snoc read) fuel s kind y n) h (λ y n. fold-each fuel s kind y n) (head_at s at)

module _ {A B : Type 0} (Q : A → Type 0) (P : B → Type 0) where
  bound : (g : Got A) (F : A → Option B) → OfGot Q g → ((x : A) → Q x → OfOpt P (F x)) → OfGot P (bind_g g (λ x n. place (F x) n))
  bound bad F h f = tt
  bound (got x n) F h f = placed P (F x) n (f x h)

  bound-opt : (o : Option A) (F : A → Option B) → OfOpt Q o → ((x : A) → Q x → OfOpt P (F x)) → OfOpt P (bind_o o F)
  bound-opt None F h f = tt
  bound-opt (Some x) F h f = f x h

-- ---- a path

pub record Widths (e c a : ℕ) : Type 0 where
  pub endpoint : e < 2 ^ 16
  pub cluster : c < 2 ^ 32
  pub attribute : a < 2 ^ 32

-- a number that is there and right is at most so large
number-most : (most : ℕ) (s : List ℕ) (p : ℕ) → (number_in most false s p ≡ ABSENT → ⊥) → (number_in most false s p ≡ WRONG → ⊥) → number_in most false s p ≤ most
unfolding number_in number_of
number-most most s p = by_place_lem (eqb p 0) (head_at s (p - 1))
  where
    Right : ℕ → Type 0
    Right v = (v ≡ ABSENT → ⊥) → (v ≡ WRONG → ⊥) → v ≤ most

    wrong : Right WRONG
    wrong a w = absurd (w refl)

    by_place_lem : (b : Bool) (h : (Option Element)) → Right (pick b ABSENT (headed WRONG (λ e. number_of most false e.kind e.number) h))
    by_place_lem true h = λ a w. absurd (a refl)
    by_place_lem false None = wrong
    by_place_lem false (Some e) =
        pick-elim Right (eqb e.kind 20) WRONG _ (λ _. wrong)
        (λ _. pick-elim Right (ltb e.kind 4) WRONG _ (λ _. wrong)
        (λ _. pick-elim Right (ltb 7 e.kind) WRONG _ (λ _. wrong)
        (λ _. pick-elim Right (ltb most e.number) WRONG e.number (λ _. wrong) (λ t a w. ltb-false most e.number t))))

-- one test after another
past : (b x : Bool) → pick b false x ≡ true → (b ≡ false) × (x ≡ true)
past true x h = absurd (true≢false (sym h))
past false x h = (refl, h)

-- a path that is sound, if it is exact too, has its widths
abbrev Bounded : Path → Type 0
Bounded p = exact_p p ≡ true → Widths p.endpoint p.cluster p.attribute

module _ (s seen : List ℕ) where
  path-bounded : OfOpt Bounded (path_from s seen)
  unfolding path_from sound_path exact_p
  path-bounded =
      pick-elim (OfOpt Bounded) (sound_path p) (Some p) None
      (λ h. widths h) (λ _. tt)
    where
      p : Path
      p = record {
        compress = flag_in s (get_or seen 0 0);
        node = wide_in s (get_or seen 1 0);
        endpoint = number_in 65535 false s (get_or seen 2 0);
        cluster = number_in 4294967295 false s (get_or seen 3 0);
        attribute = number_in 4294967295 false s (get_or seen 4 0);
        index = number_in 65535 true s (get_or seen 5 0);
      }

      widths : sound_path p ≡ true → Bounded p
      widths h x =
          let t₄ = pick (eqb p.attribute WRONG) false (not (eqb p.index WRONG)) in
          let t₃ = pick (eqb p.cluster WRONG) false t₄ in
          let t₂ = pick (eqb p.endpoint WRONG) false t₃ in
          let t₁ = pick (eqb p.node WRONG) false t₂ in
          let h₂ = past (eqb p.endpoint WRONG) t₃ (past (eqb p.node WRONG) t₂ (past (eqb p.compress WRONG) t₁ h).1).1 in
          let h₃ = past (eqb p.cluster WRONG) t₄ h₂.1 in
          let h₄ = past (eqb p.attribute WRONG) (not (eqb p.index WRONG)) h₃.1 in
          let u₂ = not (eqb p.attribute ABSENT) in
          let u₁ = pick (eqb p.cluster ABSENT) false u₂ in
          let x₁ = past (eqb p.endpoint ABSENT) u₁ (past (banned p) (pick (eqb p.endpoint ABSENT) false u₁) x).1 in
          let x₂ = past (eqb p.cluster ABSENT) u₂ x₁.1 in
          record {
            endpoint = omega (arith, number-most 65535 s (get_or seen 2 0) (eqb-false p.endpoint ABSENT x₁.0) (eqb-false p.endpoint WRONG h₂.0));
            cluster = omega (arith, number-most 4294967295 s (get_or seen 3 0) (eqb-false p.cluster ABSENT x₂.0) (eqb-false p.cluster WRONG h₃.0));
            attribute = omega (arith, number-most 4294967295 s (get_or seen 4 0) (eqb-false p.attribute ABSENT (not-true _ x₂.1)) (eqb-false p.attribute WRONG h₄.0));
          }

-- ---- an entry

-- whatever was read
any : {A : Type 0} (g : Got A) → OfGot (λ _. Unit {0}) g
any bad = tt
any (got x n) = tt

any-opt : {A : Type 0} (o : Option A) → OfOpt (λ _. Unit {0}) o
any-opt None = tt
any-opt (Some x) = tt

abbrev pub WideEntry : EntryOf ℕ → Type 0
WideEntry x = Widths x.endpoint x.cluster x.attribute

module _ (s : List ℕ) where
  path-at : (d at : ℕ) → OfGot Bounded (path_at d s at)
  unfolding path_at
  path-at d at = bound (λ _. Unit {0}) Bounded (inside_at list d s path_tags at) (path_from s) (any (inside_at list d s path_tags at)) (λ seen _. path-bounded s seen)

  data-from : (d : ℕ) (seen : List ℕ) → OfOpt (λ (x : DataOf ℕ). Bounded x.path) (data_from d s seen)
  unfolding data_from
  data-from d seen =
      let v = number_in 4294967295 false s (get_or seen 0 0) in
      bound-opt Bounded (λ (x : DataOf ℕ). Bounded x.path) (required_in (path_at d s) (get_or seen 1 0)) (λ p. bind_o (any_in (get_or seen 2 0)) (λ x. versioned v p x)) (required Bounded (path_at d s) (path-at d) (get_or seen 1 0))
      (λ p b. bound-opt (λ _. Unit {0}) (λ (x : DataOf ℕ). Bounded x.path) (any_in (get_or seen 2 0)) (λ x. versioned v p x) (any-opt (any_in (get_or seen 2 0)))
      (λ x _. pick-elim (OfOpt (λ (x : DataOf ℕ). Bounded x.path)) (eqb v WRONG) None (Some (record { version = v; path = p; element = x })) (λ _. tt) (λ _. b)))

  data-at : (d at : ℕ) → OfGot (λ (x : DataOf ℕ). Bounded x.path) (data_at d s at)
  unfolding data_at
  data-at d at =
      bound (λ _. Unit {0}) (λ (x : DataOf ℕ). Bounded x.path) (inside_at structure d s triple_tags at) (data_from (d - 1) s) (any (inside_at structure d s triple_tags at))
      (λ seen _. data-from (d - 1) seen)

  entry-at : (d at : ℕ) → OfGot WideEntry (entry_at d s at)
  unfolding entry_at
  entry-at d at =
      bound (λ (x : DataOf ℕ). Bounded x.path) WideEntry (data_at d s at) entry_if (data-at d at)
      (λ x b. pick-elim (OfOpt WideEntry) (exact_p x.path) (Some (entry_for x)) None (λ e. b e) (λ _. tt))

  -- ---- the array of entries, and the message

  entries_at : (d at : ℕ) → OfGot (Each WideEntry) (list_at entry_at d s at)
  unfolding list_at
  entries_at zero at = tt
  entries_at (suc d) at = go (head_at s at)
    where
      go : (h : (Option Element)) → OfGot (Each WideEntry) (headed bad (λ e. pick (eqb e.kind array) (fold_at (each_step snoc (entry_at d s)) (length s) s array [] e.next.at) bad) h)
      go None = tt
      go (Some e) =
          pick-elim (OfGot (Each WideEntry)) (eqb e.kind array) (fold_at (each_step snoc (entry_at d s)) (length s) s array [] e.next.at) bad
          (λ _. fold-each WideEntry (entry_at d s) (entry-at d) (length s) s array [] e.next.at tt) (λ _. tt)

  abbrev Wide : WriteOf ℕ → Type 0
  Wide x = Each WideEntry x.entries

  write-from : (seen : List ℕ) → OfOpt Wide (write_from s seen)
  unfolding write_from
  write-from seen =
      let suppress = flag_in s (get_or seen 0 0) in
      let timed = flag_in s (get_or seen 1 0) in
      let es = required_in (list_at entry_at 9 s) (get_or seen 2 0) in
      pick-elim (OfOpt Wide) (given suppress) _ None
      (λ _. pick-elim (OfOpt Wide) (given timed) _ None
      (λ _. pick-elim (OfOpt Wide) (unchunked (flag_in s (get_or seen 3 0))) _ None
      (λ _. pick-elim (OfOpt Wide) (given (number_in 255 false s (get_or seen 9 0))) _ None
      (λ _. bound-opt (Each WideEntry) Wide es (λ l. pick (is_empty l) None (Some (record { suppress = suppress; timed = timed; entries = l })))
      (required (Each WideEntry) (list_at entry_at 9 s) (entries_at 9) (get_or seen 2 0))
      (λ l h. pick-elim (OfOpt Wide) (is_empty l) None (Some (record { suppress = suppress; timed = timed; entries = l })) (λ _. tt) (λ _. h)))
      (λ _. tt)) (λ _. tt)) (λ _. tt)) (λ _. tt)

  written : OfOpt Wide (write_in s)
  unfolding write_in
  written =
      of-opt Wide (bind_g (message_at write_tags s) (λ seen n. place (write_from s seen) n))
      (bound (λ _. Unit {0}) Wide (message_at write_tags s) (write_from s) (any (message_at write_tags s)) (λ seen _. write-from seen))

-- ---- as the code keeps them

abbrev pub WideKept : WriteEntry → Type 0
WideKept x = Widths x.endpoint x.cluster x.attribute

each-kept : (l : List (EntryOf ℕ)) → Each WideEntry l → Each WideKept (map entry_struct l)
each-kept [] h = tt
each-kept (x ∷ l) h = (h.0, each-kept l h.1)

none-wide : WideKept no_entry
none-wide = record { endpoint = omega arith; cluster = omega arith; attribute = omega arith }

module _ (s : List ℕ) where
  pub kept-wide : (i : ℕ) → WideKept (get_or (write_read (write_in s)).entries.kept i no_entry)
  kept-wide i = go (write_in s) (written s)
    where
      go : (o : Option (WriteOf ℕ)) → OfOpt (Wide s) o → WideKept (get_or (write_read o).entries.kept i no_entry)
      go None h = subst (λ (l : List WriteEntry). WideKept (get_or l i no_entry)) (first-none write_limit no_entry) (each_first WideKept [] no_entry tt none-wide write_limit i)
      go (Some x) h = each_first WideKept (map entry_struct x.entries) no_entry (each-kept x.entries h) none-wide write_limit i
