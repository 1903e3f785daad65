-- The walk of an element: where it ends, or that it is malformed.
use Rattle.std.specs.Prelude.{ℕ, zero, suc, List, Bool, true, false, length, ltb, eqb, Some, None, Option}
use Rattle.base_bounds.specs.Bounds.{depth_limit}
use Rattle.tlv_reader.specs.declared.Element.{Element}
use Rattle.tlv_reader.specs.Octet.{pick, structure, array, list, end_of_container}
use Rattle.tlv_reader.specs.Head.{head_at}
use Rattle.tlv_reader.specs.declared.Cursor.{Cursor}

-- what is found at a position, and where it ends; or nothing
pub data Got (A : Type 0) : Type 0 where
  got : A → ℕ → Got A
  bad : Got A

abbrev pub map_g : {A B : Type 0} → (A → B) → Got A → Got B
map_g f bad = bad
map_g f (got a n) = got (f a) n

abbrev pub bind_g : {A B : Type 0} → Got A → (A → ℕ → Got B) → Got B
bind_g bad f = bad
bind_g (got a n) f = f a n

-- one of two, neither of which is computed before it is picked
abbrev pub choose : {A : Type 0} → Bool → (Unit {0} → A) → (Unit {0} → A) → A
choose true x y = x tt
choose false x y = y tt

-- a member with this tag form may stand in a container of this type
unfoldable pub allowed_in : ℕ → ℕ → Bool
allowed_in kind form = pick (eqb kind structure) (ltb 0 form) (pick (eqb kind array) (eqb form 0) true)

-- MEMBERS BY A STEP: the members of a container from a position on, each taken by a step with its place and its head, up to
-- the container's end. The bound on how many are looked at does not matter where it is the message's length.
unfoldable pub fold_by : {S : Type 0} → ℕ → S → (Element → Got S) → (S → ℕ → Got S) → Option Element → Got S
fold_by kind x here rest None = bad
fold_by kind x here rest (Some e) =
    choose (eqb e.kind end_of_container) (λ _. got x e.next.at)
    (λ _. choose (allowed_in kind e.form) (λ _. bind_g (here e) rest) (λ _. bad))

unfoldable pub fold_at : {S : Type 0} → (S → ℕ → Element → Got S) → ℕ → List ℕ → ℕ → S → ℕ → Got S
fold_at step zero s kind x at = bad
fold_at step (suc f) s kind x at = fold_by kind x (step x at) (λ y n. fold_at step f s kind y n) (head_at s at)

-- an element with this head, where inner is the end of a container of a type from a position on
unfoldable pub element_by : (ℕ → ℕ → Got (Unit {0})) → Element → Got (Unit {0})
element_by inner e =
    choose (ltb e.kind structure) (λ _. got tt e.next.at)
    (λ _. choose (ltb list e.kind) (λ _. bad) (λ _. inner e.kind e.next.at))

-- the end of an element with this head, with so many levels of containers left
unfoldable pub element_end : ℕ → List ℕ → Element → Got (Unit {0})
element_end zero s e = element_by (λ k n. bad) e
element_end (suc d) s e = element_by (λ k n. fold_at (λ x at m. element_end d s m) (length s) s k tt n) e

-- the end of a container of a type from a member on
unfoldable pub members_end : ℕ → List ℕ → ℕ → ℕ → Got (Unit {0})
members_end d s kind at = fold_at (λ x p m. element_end d s m) (length s) s kind tt at

abbrev pub headed : {A : Type 0} → A → (Element → A) → Option Element → A
headed a f None = a
headed a f (Some e) = f e

-- the end of the element at a position
unfoldable pub element_at : ℕ → List ℕ → ℕ → Got (Unit {0})
element_at d s at = headed bad (element_end d s) (head_at s at)

-- the answer of a walk
abbrev pub ended : Got (Unit {0}) → Option Cursor
ended bad = None
ended (got x n) = Some (record { at = n })

-- the answer of a reader: what it found, with the place after it
abbrev pub read_of : {A : Type 0} → Got A → Option (A × Cursor)
read_of bad = None
read_of (got x n) = Some (x, record { at = n })

-- an untagged structure, of depth at most 10, that ends at a length
abbrev pub ends_at : ℕ → Got (Unit {0}) → Bool
ends_at len bad = false
ends_at len (got x n) = eqb n len

unfoldable pub is_message : List ℕ → Bool
is_message s =
    headed false
    (λ e. pick (eqb e.form 0) (pick (eqb e.kind structure) (ends_at (length s) (element_end depth_limit s e)) false) false)
    (head_at s 0)
