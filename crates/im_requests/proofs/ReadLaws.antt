-- The Read Request: THE LAWS of its paths, and its loops case by case for the code.
use Rattle.std.specs.Prelude.{Some, None, Option}
use mathlib.Core.Path.{◌≡◌, refl, ap, ◌∙◌}
use mathlib.Core.Bool.{true, false}
use mathlib.Core.List.{List}
use Prim.Native.Nat.{ℕ}
use Rattle.tlv_reader.specs.declared.Element.{Element}
use Rattle.tlv_reader.specs.Tree.{Tree}
use Rattle.tlv_reader.specs.Walk.{Got, bind_g}
use Rattle.tlv_reader.specs.Walk.Got.{got, bad}
use Rattle.tlv_reader.specs.Decode.{bind_o, place, tree_at}
use Rattle.im_blocks.specs.declared.Path.{Path}
use Rattle.im_blocks.specs.Path.{path_at, path_on, path_t, askable_p}
use Rattle.im_blocks.specs.declared.Filter.{Filter}
use Rattle.im_blocks.specs.Filter.{filter_at, filter_on, filter_t}
use Rattle.im_blocks.proofs.BlockLaws.{path-law, filter-law}
use Rattle.im_requests.specs.Read.{target_of, asked_of, asked_at, asked_on, asked_t, local_f, version_filter_of, version_filter_if, version_filter_at, version_filter_on, version_filter_t}

-- a reader and then a test is the meaning and then the test
pub then-law : {A B : Type 0} (d : ℕ) (s : List ℕ) (read : ℕ → Got A) (means : Tree → Option A) (f : A → Option B) → ((at : ℕ) → read at ≡ bind_g (tree_at d s at) (λ t n. place (means t) n)) → (at : ℕ) → bind_g (read at) (λ a n. place (f a) n) ≡ bind_g (tree_at d s at) (λ t n. place (bind_o (means t) f) n)
then-law d s read means f law at = ap (λ g. bind_g g (λ a n. place (f a) n)) (law at) ∙ go (tree_at d s at)
  where
    put : (o : Option _) (n : ℕ) → bind_g (place o n) (λ a k. place (f a) k) ≡ place (bind_o o f) n
    put None n = refl
    put (Some a) n = refl

    go : (g : Got Tree) → bind_g (bind_g g (λ t n. place (means t) n)) (λ a n. place (f a) n) ≡ bind_g g (λ t n. place (bind_o (means t) f) n)
    go bad = refl
    go (got t n) = put (means t) n

pub asked-law : (d : ℕ) (s : List ℕ) (at : ℕ) → asked_at d s at ≡ bind_g (tree_at d s at) (λ t n. place (asked_t t) n)
unfolding asked_at asked_t
asked-law d s at = then-law d s (path_at d s) path_t asked_of (path-law d s) at

module _ (d : ℕ) (s : List ℕ) (e : Element) where
  pub asked-bad : path_on d s e ≡ bad → asked_on d s e ≡ bad
  unfolding asked_on
  asked-bad w = ap (λ g. bind_g g (λ p n. place (asked_of p) n)) w

  pub asked-banned : {p : Path} {n : ℕ} → path_on d s e ≡ got p n → askable_p p ≡ false → asked_on d s e ≡ bad
  unfolding asked_on asked_of
  asked-banned w q = ap (λ g. bind_g g (λ p n. place (asked_of p) n)) w ∙ rw q refl

  pub asked-got : {p : Path} {n : ℕ} → path_on d s e ≡ got p n → askable_p p ≡ true → asked_on d s e ≡ got (target_of p) n
  unfolding asked_on asked_of
  asked-got w q = ap (λ g. bind_g g (λ p n. place (asked_of p) n)) w ∙ rw q refl

-- the same of filters

pub version-filter-law : (d : ℕ) (s : List ℕ) (at : ℕ) → version_filter_at d s at ≡ bind_g (tree_at d s at) (λ t n. place (version_filter_t t) n)
unfolding version_filter_at version_filter_t
version-filter-law d s at = then-law d s (filter_at d s) filter_t version_filter_if (filter-law d s) at

module _ (d : ℕ) (s : List ℕ) (e : Element) where
  pub version-filter-bad : filter_on d s e ≡ bad → version_filter_on d s e ≡ bad
  unfolding version_filter_on
  version-filter-bad w = ap (λ g. bind_g g (λ p n. place (version_filter_if p) n)) w

  pub version-filter-remote : {p : Filter} {n : ℕ} → filter_on d s e ≡ got p n → local_f p ≡ false → version_filter_on d s e ≡ bad
  unfolding version_filter_on version_filter_if
  version-filter-remote w q = ap (λ g. bind_g g (λ p n. place (version_filter_if p) n)) w ∙ rw q refl

  pub version-filter-got : {p : Filter} {n : ℕ} → filter_on d s e ≡ got p n → local_f p ≡ true → version_filter_on d s e ≡ got (version_filter_of p) n
  unfolding version_filter_on version_filter_if
  version-filter-got w q = ap (λ g. bind_g g (λ p n. place (version_filter_if p) n)) w ∙ rw q refl
