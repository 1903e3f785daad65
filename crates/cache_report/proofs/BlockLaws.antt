-- The words that the blocks of a part are kept in say what the blocks get.
use Rattle.std.specs.Prelude.{Ok, Err}
use mathlib.Core.Path.{◌≡◌, refl, ap, ◌∙◌}
use mathlib.Core.Bool.{Bool, true, false}
use mathlib.Core.List.{List, [], ◌∷◌, map}
use Prim.Native.Nat.{ℕ, suc, ◌+◌, ◌*◌, ◌^◌, ◌≤◌, ◌<◌}
use native.Mathlib.Omega.{arith}
use borrow.Author.Tests.{ltb-true}
use lib.Dec.{ltb}
use lib.ListN.{length, get_or, take}
use Rattle.base_octets.specs.Store.{store}
use Rattle.base_bounds.specs.Bounds.{version_limit}
use Rattle.tlv_reader.specs.declared.Value.{Value}
use Rattle.tlv_reader.specs.Octet.{pick}
use Rattle.tlv_reader.specs.Value.{value_in}
use Rattle.im_blocks.specs.declared.Path.{Path}
use Rattle.im_blocks.specs.Data.{ReportOf}
use Rattle.im_blocks.specs.Data.ReportOf.{shown, refused}
use Rattle.im_requests.specs.Message.{words_of}
use Rattle.im_responses.specs.Kept.{concrete_p, block_size, max_blocks, data_words, block_words, block_word}
use Rattle.im_responses.proofs.KeptLaws.{concrete-widths}
use Rattle.im_responses.proofs.WordLaws.{kept_block, first-tells, two-parts}
use Rattle.cache_entries.specs.declared.Cached.{Cached}
use Rattle.cache_entries.specs.Values.{usable_in, long_v}
use Rattle.cache_report.specs.declared.block.NewEntry.{NewEntry}
use Rattle.cache_report.specs.declared.block.Unfit.TheVariants.{Long, Unusable}
use Rattle.cache_report.specs.Block.{item_of, judgement_by, judgement_of}
use Rattle.cache_report.specs.Entry.{held_for, page_for, number_for, worse}
use Rattle.cache_report.specs.Part.{Judged, judgement_in, judged_all, held_all, page_all}
use Rattle.cache_report.specs.Words.{item_words, judgement_words, judgements_from, judged_by, held_by, page_by}

-- ---- one block

-- what two words say of a concrete path with a version
item_back : (p : Path) (version : ℕ) (v : Value) → concrete_p p ≡ true → version < 2 ^ 32 → item_words (p.endpoint * 2 ^ 32 + p.cluster) (p.attribute * 2 ^ 32 + version) v ≡ item_of p version v
item_back p version v h k =
    let w = concrete-widths p h in
    let a = two-parts p.endpoint p.cluster w.cluster in
    let b = two-parts p.attribute version k in
    λ j. record { endpoint = a.0 j; cluster = a.1 j; attribute = b.0 j; version = b.1 j; value = v }

-- data by its words
data-judgement : (s : List ℕ) (p : Path) (version place : ℕ) → let w = data_words p version place in judgement_words s (get_or w 0 0) (get_or w 1 0) (get_or w 2 0) ≡ judgement_by s p version (value_in s place)
unfolding judgement_words judgement_by data_words
data-judgement s p version place = go (concrete_p p) refl (ltb version version_limit) refl
  where
    v : Value
    v = value_in s place

    go : (a : Bool) → concrete_p p ≡ a → (b : Bool) → ltb version version_limit ≡ b → let w = data_words p version place in judgement_words s (get_or w 0 0) (get_or w 1 0) (get_or w 2 0) ≡ judgement_by s p version (value_in s place)
    go true e true f =
        rw (first-tells p version place, e, f) (ap (λ (x : NewEntry). pick (usable_in s v) (pick (long_v v) (Err Long) (Ok x)) (Err Unusable)) (item_back p version v e (ltb-true version version_limit f)))
    go true e false f = rw (first-tells p version place, e, f) refl
    go false e b f = rw (first-tells p version place, e) refl

-- A BLOCK BY ITS WORDS
pub block-judgement : (s : List ℕ) (x : ReportOf ℕ) → let w = block_words x in judgement_words s (get_or w 0 0) (get_or w 1 0) (get_or w 2 0) ≡ judgement_in s x
unfolding judgement_words judgement_of
block-judgement s (refused a) = refl
block-judgement s (shown d) = data-judgement s d.path d.version d.element

-- ---- all blocks

judgements-from : (s words : List ℕ) (l : List (ReportOf ℕ)) (j : ℕ) → ((k i : ℕ) (z : ReportOf ℕ) → k < length l → i < block_size → block_word words (j + k) i ≡ get_or (block_words (get_or l k z)) i 0) → judgements_from s words (length l) j ≡ map (judgement_in s) l
unfolding judgements_from
judgements-from s words [] j h = refl
judgements-from s words (x ∷ l) j h =
    let others = judgements-from s words l (j + 1) (λ k i z b c. ap (λ (n : ℕ). block_word words n i) (let e : j + 1 + k ≡ j + suc k = omega arith in e) ∙ h (suc k) i z (omega arith) c) in
    λ i. judgement i ∷ others i
  where
    word : (i : ℕ) → i < block_size → block_word words j i ≡ get_or (block_words x) i 0
    word i k = ap (λ (n : ℕ). block_word words n i) (let e : j ≡ j + 0 = omega arith in e) ∙ h 0 i x (omega arith) k

    judgement : judgement_words s (block_word words j 0) (block_word words j 1) (block_word words j 2) ≡ judgement_in s x
    judgement = (λ i. judgement_words s (word 0 (omega arith) i) (word 1 (omega arith) i) (word 2 (omega arith) i)) ∙ block-judgement s x

-- THE LAW: the words that the blocks of a part are kept in say what they get
pub kept-judgements : (s old : List ℕ) (l : List (ReportOf ℕ)) → length l ≤ max_blocks → max_blocks * block_size ≤ length old → judgements_from s (store old 0 (words_of block_words (take max_blocks l))) (length l) 0 ≡ map (judgement_in s) l
kept-judgements s old l few room =
    let words : List ℕ = store old 0 (words_of block_words (take max_blocks l)) in
    judgements-from s words l 0 (λ k i z b c. ap (λ (n : ℕ). block_word words n i) (let e : 0 + k ≡ k = omega arith in e) ∙ kept_block l old k i z b few room c)

-- ---- the number, the entries and the page, by what the blocks get

pub judged-as : (s : List ℕ) (j : Judged) (l : List (ReportOf ℕ)) → judged_all s j l ≡ judged_by j (map (judgement_in s) l)
unfolding judged_all judged_by
judged-as s j [] = refl
judged-as s j (x ∷ l) = judged-as s (record { number = worse j.number (number_for j.held (judgement_in s x)); held = held_for j.held (judgement_in s x) }) l

pub held-as : (s : List ℕ) (c : Cached) (l : List (ReportOf ℕ)) → held_all s c l ≡ held_by c (map (judgement_in s) l)
unfolding held_all held_by
held-as s c [] = refl
held-as s c (x ∷ l) = held-as s (held_for c (judgement_in s x)) l

pub page-as : (s : List ℕ) (c : Cached) (page : List ℕ) (l : List (ReportOf ℕ)) → page_all s c page l ≡ page_by s c page (map (judgement_in s) l)
unfolding page_all page_by
page-as s c page [] = refl
page-as s c page (x ∷ l) = page-as s (held_for c (judgement_in s x)) (page_for s c page (judgement_in s x)) l
