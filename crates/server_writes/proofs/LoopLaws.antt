-- The entries of a write one by one, as the code's loop has them.
use mathlib.Core.Path.{◌≡◌, refl, sym, ap, ◌∙◌}
use mathlib.Core.List.{List, [], ◌∷◌, ◌++◌, append_assoc, append-nil}
use Prim.Native.Nat.{ℕ, suc, ◌+◌, ◌*◌, ◌≤◌, ◌<◌}
use native.Mathlib.Numerals.{towards_suc}
use native.Mathlib.Omega.{arith}
use borrow.Author.Tests.{lt-ltb}
use lib.ListN.{length, get_or, set, take, drop, replicate, drop_of_length-le}
use Rattle.base_bounds.specs.Bounds.{write_limit}
use Rattle.im_requests.specs.Message.{snoc, first_of, words_of}
use Rattle.im_requests.proofs.KeepLaws.{length-snoc, first-none, keep_one, words_back}
use Rattle.im_requests.specs.declared.write.WriteEntry.{WriteEntry}
use Rattle.im_requests.specs.Write.{no_entry, entry_words, entry_in}
use Rattle.server_selection.proofs.RequestLaws.{rows_taken}
use Rattle.node_access.specs.declared.Grants.{Grants}
use Rattle.server_writes.specs.Offer.{HeldValues, StoreOutcome}
use Rattle.server_writes.specs.Entry.{entry_written, entries_in, held_after, codes_of, codes_in}

-- entries are read back from their words
pub entry-back : (xs : List WriteEntry) (k : ℕ) → k < length xs → entry_in (words_of entry_words xs) k ≡ get_or xs k no_entry
entry-back xs k h = words_back entry_words entry_in here behind xs k no_entry h
  where
    here : (x : WriteEntry) (r : List ℕ) → entry_in (entry_words x ++ r) 0 ≡ x
    here x r = refl

    behind : (x : WriteEntry) (r : List ℕ) (k : ℕ) → entry_in (entry_words x ++ r) (suc k) ≡ entry_in r k
    behind x r k = let e : suc k * 5 ≡ suc (suc (suc (suc (suc (k * 5))))) = omega arith in simp (e, towards_suc)

pub entries-back : (xs : List WriteEntry) (n : ℕ) → n ≤ length xs → entries_in (words_of entry_words xs) n ≡ take n xs
entries-back xs n h = rows_taken (entry_in (words_of entry_words xs)) xs n 0 no_entry h (λ i q. ap (entry_in (words_of entry_words xs)) (omega arith) ∙ entry-back xs i q)

-- one more kept
store-one : (n z : ℕ) (l : List ℕ) (a : ℕ) → length l < n → set (first_of n z l) (length l) a ≡ first_of n z (snoc l a)
store-one n z l a h = sym (keep_one n z l a ∙ rw (lt-ltb (length l) n h))

module _ (w : List ℕ) (g : Grants) (defaults s : List ℕ) where
  -- after i entries: their statuses, and that the rest leads to what all lead to
  pub record Writing (first : HeldValues) (xs : List WriteEntry) (h : HeldValues) (codes : List ℕ) (i : ℕ) : Type 0 where
    pub seen : List ℕ
    pub counted : length seen ≡ i
    pub kept : codes ≡ codes_in seen
    pub statuses : codes_of w g defaults s first xs ≡ seen ++ codes_of w g defaults s h (drop i xs)
    pub leads : held_after w g defaults s first xs ≡ held_after w g defaults s h (drop i xs)

  pub writing_begins : (h : HeldValues) (xs : List WriteEntry) → Writing h xs h (replicate write_limit 0) 0
  writing_begins h xs = record { seen = []; counted = refl; kept = sym (first-none write_limit 0); statuses = refl; leads = refl }

  module _ {first : HeldValues} {xs : List WriteEntry} {h : HeldValues} {codes : List ℕ} {i : ℕ} (u : Writing first xs h codes i) where
    pub writing-goes : (x : WriteEntry) (o : StoreOutcome) → i < write_limit → drop i xs ≡ x ∷ drop (i + 1) xs → o ≡ entry_written w g defaults s h x → Writing first xs o.held (set codes i o.code) (i + 1)
    unfolding codes_of held_after
    writing-goes x o l here e =
        record {
          seen = snoc u.seen o.code;
          counted = omega (arith, length-snoc u.seen o.code, u.counted);
          kept = (λ j. set (u.kept j) (sym u.counted j) o.code) ∙ store-one write_limit 0 u.seen o.code (omega (arith, u.counted));
          statuses =
              u.statuses
              ∙ ap (λ (r : List WriteEntry). u.seen ++ codes_of w g defaults s h r) here
              ∙ ap (λ (k : StoreOutcome). u.seen ++ (k.code ∷ codes_of w g defaults s k.held (drop (i + 1) xs))) (sym e)
              ∙ sym (append_assoc u.seen (o.code ∷ []) (codes_of w g defaults s o.held (drop (i + 1) xs)));
          leads = u.leads ∙ ap (held_after w g defaults s h) here ∙ ap (λ (k : StoreOutcome). held_after w g defaults s k.held (drop (i + 1) xs)) (sym e);
        }

    pub writing-ends : length xs ≤ i → (held_after w g defaults s first xs ≡ h) × (codes ≡ codes_in (codes_of w g defaults s first xs))
    unfolding codes_of held_after
    writing-ends l =
        let none : drop i xs ≡ [] = drop_of_length-le xs {i = i} l in (
          u.leads ∙ ap (held_after w g defaults s h) none,
          u.kept ∙ ap codes_in (sym (u.statuses ∙ ap (λ (r : List WriteEntry). u.seen ++ codes_of w g defaults s h r) none ∙ append-nil u.seen)),
        )
