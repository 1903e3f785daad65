-- The entries of a write: THE LAW that what is read is the meaning of the trees there, and the loop case by case for the code.
use Rattle.std.specs.Prelude.{Some, None, Option}
use mathlib.Core.Path.{◌≡◌, refl, ap, ◌∙◌}
use mathlib.Core.Bool.{Bool, true, false}
use mathlib.Core.List.{List}
use Prim.Native.Nat.{ℕ, ◌-◌}
use Rattle.tlv_reader.specs.declared.Element.{Element}
use Rattle.tlv_reader.specs.Octet.{pick}
use Rattle.tlv_reader.specs.Tree.{Tree}
use Rattle.tlv_reader.specs.Walk.{Got, map_g, bind_g}
use Rattle.tlv_reader.specs.Walk.Got.{got, bad}
use Rattle.tlv_reader.specs.Decode.{bind_o, place, tree_at}
use Rattle.im_members.specs.Array.{map_o}
use Rattle.im_blocks.specs.Path.{exact_p}
use Rattle.im_blocks.specs.Data.{DataOf, data_at, data_on, data_t, data_tree}
use Rattle.im_blocks.proofs.DataLaws.{data-law}
use Rattle.im_requests.specs.Write.{entry_for, entry_if, entry_at, entry_on, entry_t, entry_tree}

-- ---- the law of an entry

map-bind : {A B C : Type 0} (β : B → C) (F : A → Option B) (g : Got A) → map_g β (bind_g g (λ a n. place (F a) n)) ≡ bind_g g (λ a n. place (map_o β (F a)) n)
map-bind β F bad = refl
map-bind β F (got a n) = go (F a)
  where
    go : (o : Option _) → map_g β (place o n) ≡ place (map_o β o) n
    go None = refl
    go (Some b) = refl

through : (d : ℕ) (s : List ℕ) (x : DataOf ℕ) → map_o (entry_tree d s) (entry_if x) ≡ entry_if (data_tree d s x)
through d s x = go (exact_p x.path)
  where
    go : (b : Bool) → map_o (entry_tree d s) (pick b (Some (entry_for x)) None) ≡ pick b (Some (entry_for (data_tree d s x))) None
    go true = refl
    go false = refl

through-all : (d : ℕ) (s : List ℕ) (g : Got (DataOf ℕ)) → bind_g g (λ x n. place (map_o (entry_tree d s) (entry_if x)) n) ≡ bind_g (map_g (data_tree d s) g) (λ x n. place (entry_if x) n)
through-all d s bad = refl
through-all d s (got x n) = ap (λ o. place o n) (through d s x)

bind-bind : (g : Got Tree) → bind_g (bind_g g (λ t n. place (data_t t) n)) (λ x n. place (entry_if x) n) ≡ bind_g g (λ t n. place (bind_o (data_t t) entry_if) n)
bind-bind bad = refl
bind-bind (got t n) = go (data_t t)
  where
    go : (o : Option (DataOf Tree)) → bind_g (place o n) (λ x k. place (entry_if x) k) ≡ place (bind_o o entry_if) n
    go None = refl
    go (Some x) = refl

pub entry-law : (d : ℕ) (s : List ℕ) (at : ℕ) → map_g (entry_tree (d - 1) s) (entry_at d s at) ≡ bind_g (tree_at d s at) (λ t n. place (entry_t t) n)
unfolding entry_at entry_t
entry-law d s at =
    map-bind (entry_tree (d - 1) s) entry_if (data_at d s at)
    ∙ through-all (d - 1) s (data_at d s at)
    ∙ ap (λ g. bind_g g (λ x n. place (entry_if x) n)) (data-law d s at)
    ∙ bind-bind (tree_at d s at)

-- ---- for the code

module _ (d : ℕ) (s : List ℕ) (e : Element) where
  pub entry-bad : data_on d s e ≡ bad → entry_on d s e ≡ bad
  unfolding entry_on
  entry-bad w = ap (λ g. bind_g g (λ x n. place (entry_if x) n)) w

  pub entry-inexact : {x : DataOf ℕ} {n : ℕ} → data_on d s e ≡ got x n → exact_p x.path ≡ false → entry_on d s e ≡ bad
  unfolding entry_on
  entry-inexact w q = ap (λ g. bind_g g (λ x n. place (entry_if x) n)) w ∙ rw q refl

  pub entry-got : {x : DataOf ℕ} {n : ℕ} → data_on d s e ≡ got x n → exact_p x.path ≡ true → entry_on d s e ≡ got (entry_for x) n
  unfolding entry_on
  entry-got w q = ap (λ g. bind_g g (λ x n. place (entry_if x) n)) w ∙ rw q refl
