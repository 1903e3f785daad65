-- The statuses of a response one by one, and how long it is.
use mathlib.Core.Path.{◌≡◌, refl, sym, ap, subst, ◌∙◌}
use mathlib.Core.List.{List, [], ◌∷◌, ◌++◌}
use Prim.Native.Nat.{ℕ, zero, suc, ◌+◌, ◌*◌, ◌^◌, ◌≤◌, ◌<◌}
use native.Mathlib.Numerals.{add-one}
use native.Mathlib.Omega.{arith}
use lib.ListN.{length, get_or, take, length-take, length-append}
use lib.Seq.{get_or-take}
use Rattle.base_bounds.specs.Bounds.{payload_limit, write_limit}
use Rattle.base_octets.specs.Store.{Stored}
use Rattle.base_octets.proofs.StoreLaws.{then}
use Rattle.tlv_reader.specs.Tree.{Tree}
use Rattle.im_requests.specs.declared.write.WriteEntry.{WriteEntry}
use Rattle.im_requests.specs.Write.{no_entry, entry_in}
use Rattle.node_schema.specs.Rows.{rows_from}
use Rattle.node_schema.proofs.RowLaws.{rows-length, rows_get}
use Rattle.im_writer.specs.Spelling.{spelling, joined}
use Rattle.im_writer.specs.Block.{answer_tree}
use Rattle.im_writer.proofs.LengthLaws.{write-status-bound}
use Rattle.im_writer.proofs.MessageLaws.{joined-more, length-response}
use Rattle.server_writes.specs.Entry.{InWidth, entries_in}
use Rattle.server_writes.specs.Response.{answer_trees, response_payload}

-- the status of an entry
abbrev pub answer_for : WriteEntry → ℕ → Tree
answer_for x code = answer_tree x.endpoint x.cluster x.attribute code

-- one entry more
pub answers-more : (xs : List WriteEntry) (codes : List ℕ) (i : ℕ) (d : WriteEntry) → i < length xs → i < length codes → answer_trees (take (suc i) xs) (take (suc i) codes) ≡ answer_trees (take i xs) (take i codes) ++ (answer_for (get_or xs i d) (get_or codes i 0) ∷ [])
unfolding answer_trees
answers-more [] codes i d l m = absurd (omega arith)
answers-more (x ∷ xs) [] i d l m = absurd (omega arith)
answers-more (x ∷ xs) (code ∷ codes) zero d l m = refl
answers-more (x ∷ xs) (code ∷ codes) (suc i) d l m = ap (λ (r : List Tree). answer_for x code ∷ r) (answers-more xs codes i d (omega arith) (omega arith))

-- and written
module _ (xs : List WriteEntry) (codes : List ℕ) {o : List ℕ} {start : ℕ} {o₁ : List ℕ} {p : ℕ} {o₂ : List ℕ} {q : ℕ} where
  pub status-more : (i : ℕ) (d : WriteEntry) → i < length xs → i < length codes → Stored o start (joined (answer_trees (take i xs) (take i codes))) o₁ p → Stored o₁ p (spelling (answer_for (get_or xs i d) (get_or codes i 0))) o₂ q → Stored o start (joined (answer_trees (take (i + 1) xs) (take (i + 1) codes))) o₂ q
  status-more i d l m u v =
      rw (add-one i, answers-more xs codes i d l m, joined-more (answer_trees (take i xs) (take i codes)) (answer_for (get_or xs i d) (get_or codes i 0)))
      (then u v)

-- of entries that are lent in words
pub status-next : (l codes : List ℕ) (n i : ℕ) (x : WriteEntry) {o : List ℕ} {start : ℕ} {o₁ : List ℕ} {p : ℕ} {o₂ : List ℕ} {q : ℕ} → i < n → x ≡ entry_in l i → i < length codes → Stored o start (joined (answer_trees (take i (entries_in l n)) (take i codes))) o₁ p → Stored o₁ p (spelling (answer_for x (get_or codes i 0))) o₂ q → Stored o start (joined (answer_trees (take (i + 1) (entries_in l n)) (take (i + 1) codes))) o₂ q
status-next l codes n i x {o₁ = o₁} {p} {o₂} {q} h e m u v =
    let k : i + 0 ≡ i = omega arith in
    status-more (entries_in l n) codes i no_entry (omega (arith, h, rows-length (entry_in l) n 0)) m u
    (subst (λ (y : WriteEntry). Stored o₁ p (spelling (answer_for y (get_or codes i 0))) o₂ q) (e ∙ sym (rows_get (entry_in l) n 0 i no_entry h ∙ ap (entry_in l) k)) v)

-- how long the status of an entry is
pub answer-bound : (x : WriteEntry) (code : ℕ) → InWidth x → code < 2 ^ 8 → length (spelling (answer_for x code)) ≤ 27
answer-bound x code w c = write-status-bound x.endpoint x.cluster x.attribute w.endpoint w.cluster w.attribute code c

-- and those of all entries
pub answers-bound : (xs : List WriteEntry) (codes : List ℕ) → ((i : ℕ) → i < length xs → InWidth (get_or xs i no_entry)) → ((i : ℕ) → i < length codes → get_or codes i 0 < 2 ^ 8) → length (joined (answer_trees xs codes)) ≤ length xs * 27
unfolding joined answer_trees
answers-bound [] codes f g = omega arith
answers-bound (x ∷ xs) [] f g = omega arith
answers-bound (x ∷ xs) (code ∷ codes) f g =
    omega (
      arith,
      length-append (spelling (answer_for x code)) (joined (answer_trees xs codes)),
      answer-bound x code (f 0 (omega arith)) (g 0 (omega arith)),
      answers-bound xs codes (λ i l. f (suc i) (omega arith)) (λ i l. g (suc i) (omega arith)),
    )

-- A RESPONSE fits one payload
pub response-length : (xs : List WriteEntry) (codes : List ℕ) → length xs ≤ write_limit → ((i : ℕ) → i < length xs → InWidth (get_or xs i no_entry)) → ((i : ℕ) → i < length codes → get_or codes i 0 < 2 ^ 8) → length (response_payload xs codes) ≤ payload_limit
unfolding response_payload
response-length xs codes l f g = omega (arith, l, length-response (answer_trees xs codes), answers-bound xs codes f g)

-- what holds of the first n by index, holds of them as a list
pub of-taken : {A : Type 0} (P : A → Type 0) (l : List A) (n : ℕ) (d : A) → ((i : ℕ) → i < n → P (get_or l i d)) → (i : ℕ) → i < length (take n l) → P (get_or (take n l) i d)
of-taken P l n d f i h = let below : i < n = omega (arith, length-take n l) in rw (get_or-take n l i d below) (f i below)

-- and of n by number
pub of-rows : {A : Type 0} (P : A → Type 0) (f : ℕ → A) (n : ℕ) (d : A) → ((i : ℕ) → i < n → P (f i)) → (i : ℕ) → i < length (rows_from f n 0) → P (get_or (rows_from f n 0) i d)
of-rows P f n d g i h = let below : i < n = omega (arith, rows-length f n 0) in let k : i + 0 ≡ i = omega arith in subst P (sym (rows_get f n 0 i d below ∙ ap f k)) (g i below)
