-- What is read back of the words that blocks are kept in.
use mathlib.Core.Path.{◌≡◌, refl, sym, ap, ◌∙◌}
use mathlib.Core.Bool.{Bool, true, false, ◌&&◌}
use mathlib.Core.List.{List, [], ◌∷◌, ◌++◌}
use Prim.Native.Nat.{ℕ, zero, suc, ◌+◌, ◌*◌, ◌/◌, ◌%◌, ◌^◌, ◌<◌, ◌≤◌}
use native.Mathlib.Omega.{arith}
use borrow.Author.Tests.{lt-ltb}
use lib.ListN.{length, get_or, take, get_or-append}
use lib.Seq.{take_all, get_or-take, get_or-append-add}
use lib.Dec.{ltb}
use Rattle.base_bounds.specs.Bounds.{version_limit}
use Rattle.base_octets.specs.Store.{store}
use Rattle.base_octets.proofs.StoreLaws.{store-back}
use Rattle.tlv_reader.specs.Octet.{pick}
use Rattle.im_blocks.specs.declared.Path.{Path}
use Rattle.im_blocks.specs.Data.{ReportOf}
use Rattle.im_requests.specs.Message.{words_of}
use Rattle.im_requests.proofs.KeepLaws.{words-length}
use Rattle.im_responses.specs.Kept.{concrete_p, block_size, max_blocks, unshown, no_words, data_words, block_words, block_word}
use Rattle.im_responses.specs.Lists.{block-wide}
use Rattle.im_responses.proofs.KeptLaws.{concrete-widths}

-- word i of block j, in the words of all
word-at : (l : List (ReportOf ℕ)) (j i : ℕ) (z : ReportOf ℕ) → j < length l → i < block_size → block_word (words_of block_words l) j i ≡ get_or (block_words (get_or l j z)) i 0
unfolding words_of
word-at [] j i z h k = absurd (omega arith)
word-at (x ∷ l) zero i z h k =
    let e : 3 * 0 + i ≡ i = omega arith in
    ap (λ (n : ℕ). get_or (block_words x ++ words_of block_words l) n 0) e ∙ get_or-append (block_words x) (words_of block_words l) 0 i (omega (arith, block-wide x))
word-at (x ∷ l) (suc j) i z h k =
    let e : 3 * suc j + i ≡ length (block_words x) + (3 * j + i) = omega (arith, block-wide x) in
    ap (λ (n : ℕ). get_or (block_words x ++ words_of block_words l) n 0) e
    ∙ get_or-append-add (block_words x) (words_of block_words l) (3 * j + i) 0
    ∙ word-at l j i z (omega arith) k

-- THE LAW: where all blocks of a list are kept, word i of block j is that of member j
pub kept_block : (l : List (ReportOf ℕ)) (old : List ℕ) (j i : ℕ) (z : ReportOf ℕ) → j < length l → length l ≤ max_blocks → max_blocks * block_size ≤ length old → i < block_size → block_word (store old 0 (words_of block_words (take max_blocks l))) j i ≡ get_or (block_words (get_or l j z)) i 0
kept_block l old j i z h few room k =
    let ws : List ℕ = words_of block_words l in
    let n : length ws ≡ length l * 3 = words-length block_words 3 block-wide l in
    ap (λ (m : List (ReportOf ℕ)). block_word (store old 0 (words_of block_words m)) j i) (take_all max_blocks l few)
    ∙ sym (get_or-take (length ws) (store old 0 ws) (3 * j + i) 0 (omega arith))
    ∙ ap (λ (m : List ℕ). get_or m (3 * j + i) 0) (store-back old 0 ws (omega arith))
    ∙ word-at l j i z h k

-- the first word tells whether a block is of use
pub first-tells : (p : Path) (version place : ℕ) → ltb (get_or (data_words p version place) 0 0) unshown ≡ (concrete_p p && ltb version version_limit)
unfolding data_words
first-tells p version place = go (concrete_p p) refl (ltb version version_limit)
  where
    go : (a : Bool) → concrete_p p ≡ a → (b : Bool) → ltb (get_or (pick (a && b) ((p.endpoint * 2 ^ 32 + p.cluster) ∷ (p.attribute * 2 ^ 32 + version) ∷ place ∷ []) no_words) 0 0) unshown ≡ (a && b)
    go true e true = let w = concrete-widths p e in lt-ltb (p.endpoint * 2 ^ 32 + p.cluster) unshown (omega (arith, w.endpoint, w.cluster))
    go true e false = refl
    go false e b = refl

-- and the two parts of a word come back
pub two-parts : (a b : ℕ) → b < 2 ^ 32 → ((a * 2 ^ 32 + b) / 2 ^ 32 ≡ a) × ((a * 2 ^ 32 + b) % 2 ^ 32 ≡ b)
two-parts a b h = (omega arith, omega arith)
