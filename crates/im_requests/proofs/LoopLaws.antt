-- A loop over the members of an array that are all read by one reader, counted, and the first n of them stored in words: for any
-- reader. With no room (n = 0) it only counts.
use Rattle.std.specs.Prelude.{Some, None}
use Rattle.std.proofs.lemmas.Option.{some_pair_parts}
use mathlib.Core.Path.{◌≡◌, refl, sym, ap, ◌∙◌}
use mathlib.Core.List.{List, []}
use Prim.Native.Nat.{ℕ, zero, suc, ◌+◌, ◌-◌, ◌<◌, ◌≤◌}
use native.Mathlib.Omega.{arith}
use lib.ListN.{length, take}
use Rattle.base_octets.specs.Store.{store}
use Rattle.base_octets.proofs.StoreLaws.{length-store}
use Rattle.tlv_reader.specs.declared.Cursor.{Cursor}
use Rattle.tlv_reader.specs.declared.Element.{Element}
use Rattle.tlv_reader.specs.Octet.{array}
use Rattle.tlv_reader.specs.Walk.{Got, map_g, fold_at}
use Rattle.tlv_reader.specs.Walk.Got.{got, bad}
use Rattle.tlv_reader.proofs.FoldLaws.{Ahead, Forward}
use Rattle.im_members.specs.declared.MemberAt.TheVariants.{Member, Ended, BadItem}
use Rattle.im_members.specs.Item.{item_at}
use Rattle.im_members.specs.Array.{each_step}
use Rattle.im_members.proofs.PassLaws.{Reads, reads-forward}
use Rattle.im_members.proofs.ItemLaws.{standing, item-bad, item-end, item-breaks, item_on}
use Rattle.im_requests.specs.Message.{snoc, words_of, keep_more, read_as}
use Rattle.im_requests.proofs.KeepLaws.{length-snoc, words-keep}

-- what the loop knows: some list of what it has seen, from which the definition goes on
pub record Seen {A : Type 0} (enc : A → List ℕ) (n : ℕ) (old : List ℕ) (Goes : List A → ℕ → Type 0) (count : ℕ) (words : List ℕ) (at : ℕ) : Type 0 where
  pub list : List A
  pub counted : count ≡ length list
  pub kept : words ≡ store old 0 (words_of enc (take n list))
  pub below : count ≤ at
  pub goes_on : Goes list at

module _ {A : Type 0} (enc : A → List ℕ) (n : ℕ) (old : List ℕ) (d : ℕ) (s : List ℕ) {read : ℕ → Got A} {on : Element → Got A} (reads : Reads d s read on) (target : Got (List A)) where
  abbrev Goes : List A → ℕ → Type 0
  Goes l p = target ≡ fold_at (each_step snoc read) (length s) s array l p

  abbrev pub Loop : ℕ → List ℕ → ℕ → Type 0
  Loop count words at = Seen enc n old Goes count words at

  forward : (l : List A) → Forward s (each_step snoc read l)
  unfolding each_step
  forward l at e h = go (read at) (reads-forward d s reads at e h)
    where
      go : (g : Got A) → Ahead at (length s) g → Ahead at (length s) (map_g (snoc l) g)
      go bad o = tt
      go (got a m) o = o

  pub loop-starts : (at : ℕ) → target ≡ fold_at (each_step snoc read) (length s) s array [] at → Loop 0 old at
  unfolding store words_of
  loop-starts at e = record { list = []; counted = refl; kept = kept-none n; below = omega arith; goes_on = e }
    where
      kept-none : (i : ℕ) → old ≡ store old 0 (words_of enc (take i []))
      kept-none zero = refl
      kept-none (suc i) = refl

  module _ {count : ℕ} {words : List ℕ} {at : ℕ} (k : Loop count words at) where
    pub loop-same : length words ≡ length old
    loop-same = ap length k.kept ∙ length-store old 0 (words_of enc (take n k.list))

    pub loop-bad : item_at array s at ≡ BadItem → target ≡ bad
    loop-bad w = k.goes_on ∙ item-bad (each_step snoc read) s forward array k.list at w

    pub loop-ends : {c : Cursor} → item_at array s at ≡ Ended c → target ≡ got k.list c.at
    loop-ends w = k.goes_on ∙ item-end (each_step snoc read) s forward array k.list at w

    module _ {e : Element} (w : item_at array s at ≡ Member e) where
      found : read at ≡ on e
      found = reads.here at e (standing array s at w).here

      pub loop-refuses : on e ≡ bad → target ≡ bad
      unfolding each_step
      loop-refuses b = k.goes_on ∙ item-breaks (each_step snoc read) s forward array k.list at (standing array s at w) (ap (map_g (snoc k.list)) (found ∙ b))

      module _ {a : A} {m : ℕ} (b : on e ≡ got a m) where
        onward : (at < m) × (m ≤ length s)
        onward = go (read at) (found ∙ b) (reads-forward d s reads at e (standing array s at w).here)
          where
            go : (g : Got A) → g ≡ got a m → Ahead at (length s) g → (at < m) × (m ≤ length s)
            go bad q o = absurd (let y : ◌≡◌ {A = ℕ} 0 1 = cc in omega arith)
            go (got x i) q o = (let y : i ≡ m = cc in rw (← y) o)

        pub loop-nearer : length s - m < length s - at
        loop-nearer = let o = onward in omega arith

        pub loop-room : count < length s
        loop-room = let o = onward in let c = k.below in omega arith

        pub loop-goes : (size : ℕ) → ((x : A) → length (enc x) ≡ size) → {more : List ℕ} → more ≡ keep_more n size enc words count a → Loop (count + 1) more m
        unfolding each_step
        loop-goes size wide q = let o = onward in let c = k.below in record {
          list = snoc k.list a;
          counted = rw k.counted (sym (length-snoc k.list a));
          kept = q ∙ (λ j. keep_more n size enc (k.kept j) (k.counted j) a) ∙ words-keep enc size wide n old k.list a;
          below = omega arith;
          goes_on = k.goes_on ∙ item_on (each_step snoc read) s forward array k.list at (standing array s at w) (ap (map_g (snoc k.list)) (found ∙ b));
        }

-- a loop that only counts
abbrev pub counted : {A : Type 0} → A → List ℕ
counted x = []

-- what a reader found, of what the code holds of it
never : {A : Type 0} → ◌≡◌ {A = ℕ} 0 1 → A
never e = absurd (omega arith)

module _ {A B : Type 0} (held : A → B) where
  pub as-lacks : (g : Got A) → read_as held g ≡ None → g ≡ bad
  as-lacks bad e = refl
  as-lacks (got x n) e = never (cc)

  pub record Held (g : Got A) (t : B) (n : ℕ) : Type 0 where
    pub value : A
    pub is : t ≡ held value
    pub found : g ≡ got value n

  pub as-has : (g : Got A) {t : B} {n : Cursor} → read_as held g ≡ Some (t, n) → Held g t n.at
  as-has bad e = never (cc)
  as-has (got x m) {t} {n} e =
      let p = some_pair_parts (held x) t (record { at = m }) n e in
      record { value = x; is = sym p.0; found = ap (λ (k : Cursor). got x k.at) p.1 }
