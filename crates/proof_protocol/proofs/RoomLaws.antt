-- The cache has no path twice, and never more entries than there are readable attributes.
use mathlib.Core.Path.{◌≡◌, refl, sym, ◌∙◌, ap}
use mathlib.Core.Bool.{Bool, not}
use mathlib.Core.List.Memᴰ
use mathlib.Core.List.{List, [], ◌∷◌, Memᴰ}
use Prim.Native.Nat.{suc, ◌≤◌}
use native.Mathlib.Omega.{arith}
use lib.Dec.{T_not}
use lib.ListN.{length}
use Rattle.proof_protocol.specs.Model.{ConcretePath, Entry, Node, System, select, same_place, remaining, send, send_again, close, store_all, written, set_entry, set_entries, begin_read, begin_write, accept, awaited, receive}
use Rattle.proof_protocol.specs.Steps.{Step, alters, begins_read, begins_write, serves, receives, none, then, Reach}
use Rattle.proof_protocol.proofs.SmallLaws.{by_cond, same_refl, mem-select, Has}
use Rattle.proof_protocol.proofs.OpenLaws.{Served, served, begin, next, again, storing, shuts, silent}

-- a list that holds w, without it
record Less (w : ConcretePath) (ws : List ConcretePath) : Type 0 where
  remaining : List ConcretePath
  size : length ws ≡ suc (length remaining)
  kept : (v : ConcretePath) → Memᴰ v ws → (v ≡ w → ⊥) → Memᴰ v remaining

less : (w : ConcretePath) (ws : List ConcretePath) → Memᴰ w ws → Less w ws
less w [] i = absurd (Memᴰ.not-nil i)
less w (x ∷ ws) (Memᴰ.head e) = record { remaining = ws; size = refl; kept = λ v j n. go v n j }
  where
    go : (v : ConcretePath) → (v ≡ w → ⊥) → Memᴰ v (x ∷ ws) → Memᴰ v ws
    go v n (Memᴰ.head q) = absurd (n (q ∙ sym e))
    go v n (Memᴰ.tail j) = j
less w (x ∷ ws) (Memᴰ.tail i) = go (less w ws i)
  where
    go : Less w ws → Less w (x ∷ ws)
    go l = record { remaining = x ∷ l.remaining; size = ap suc l.size; kept = λ v j n. at v n j }
      where
        at : (v : ConcretePath) → (v ≡ w → ⊥) → Memᴰ v (x ∷ ws) → Memᴰ v (x ∷ l.remaining)
        at v n (Memᴰ.head q) = Memᴰ.head q
        at v n (Memᴰ.tail j) = Memᴰ.tail (l.kept v j n)

module _ {Value : Type 0} where
  abbrev pub Unique : List (Entry Value) → Type 0
  Unique [] = Unit {0}
  Unique (e ∷ l) = (Has e.place l → ⊥) × Unique l

  select-unique : (f : Entry Value → Bool) (l : List (Entry Value)) → Unique l → Unique (select f l)
  select-unique f [] u = tt
  select-unique f (e ∷ l) u = by_cond Unique (f e) (λ t. ((λ h. u.0 (h.0, (mem-select f l h.0 h.1).0, h.2)), select-unique f l u.1)) (λ t. select-unique f l u.1)

  set-unique : (es l : List (Entry Value)) → Unique l → Unique (set_entries es l)
  unfolding set_entries set_entry
  set-unique [] l u = u
  set-unique (e ∷ es) l u =
      set-unique es (set_entry e l)
      ((λ h. T_not (same_place h.0.place e.place) (mem-select (λ (d : Entry Value). not (same_place d.place e.place)) l h.0 h.1).1 (same_refl h.0.place e.place h.2)), select-unique _ l u)

  served-cache : (node : Node Value) {s t : System Value} → Served node s t → t.cache ≡ s.cache
  unfolding send send_again written store_all close
  served-cache node (begin x filters n l i) = refl
  served-cache node (next x n e i g) = refl
  served-cache node again = refl
  served-cache node {s} (storing x stores l i) = refl
  served-cache node (shuts x t i) = refl
  served-cache node silent = refl

  step-unique : (node : Node Value) {s t : System Value} → Step node s t → Unique s.cache.entries → Unique t.cache.entries
  unfolding store_all begin_read begin_write receive accept
  step-unique node (alters stores) u = u
  step-unique node (begins_read filters f) u = u
  step-unique node begins_write u = u
  step-unique node {s} (serves m n stores i) u = rw (served-cache node (served node s m n stores i)) u
  step-unique node {s} (receives m i) u = by_cond (λ (t : System Value). Unique t.cache.entries) (awaited s.cache m) (λ t. set-unique m.entries s.cache.entries u) (λ t. u)

  pub reach-unique : (node : Node Value) {s : System Value} → Reach node s → Unique s.cache.entries
  reach-unique node none = tt
  reach-unique node (then r p) = step-unique node p (reach-unique node r)

  count : (l : List (Entry Value)) (ws : List ConcretePath) → Unique l → ((e : Entry Value) → Memᴰ e l → Memᴰ e.place ws) → length l ≤ length ws
  count [] ws u h = omega arith
  count (e ∷ l) ws u h =
      let x : Less e.place ws = less e.place ws (h e (Memᴰ.head refl)) in
      omega (arith, x.size, count l x.remaining u.1 (λ d i. x.kept d.place (h d (Memᴰ.tail i)) (λ q. u.0 (d, i, q))))
