-- A whole message (RULES 4.13): one untagged structure of depth at most 10 that ends where the payload ends.
use Rattle.std.specs.Prelude.{ℕ, zero, suc, ◌*◌, List, [], ◌∷◌, ◌++◌, Bool, true, false, length, set, take, replicate, ltb, eqb, Some, None, Option, is_some}
use Rattle.base_bounds.specs.Bounds.{depth_limit}
use Rattle.base_octets.specs.Store.{store}
use Rattle.tlv_reader.specs.declared.Cursor.{Cursor}
use Rattle.tlv_reader.specs.declared.Element.{Element}
use Rattle.tlv_reader.specs.Octet.{pick, structure, array}
use Rattle.tlv_reader.specs.Tree.{Tree, Trees}
use Rattle.tlv_reader.specs.Tree.Tree.{primitive, container}
use Rattle.tlv_reader.specs.Head.{head_at}
use Rattle.tlv_reader.specs.Walk.{Got, bind_g, fold_at, headed}
use Rattle.tlv_reader.specs.Walk.Got.{got, bad}
use Rattle.tlv_reader.specs.Decode.{bind_o, place, fold_t}
use Rattle.im_members.specs.Fields.{Slot, inside_at, fields_t}
use Rattle.im_members.specs.Pass.{Pass, no_pass, pass_of}
use Rattle.im_members.specs.Scalar.{ABSENT}
use Rattle.im_members.specs.Array.{opt_of, each_step, each_t}
use Rattle.im_requests.specs.declared.Listed.{Listed}

unfoldable pub untagged : List ℕ → Bool
untagged s = headed false (λ e. eqb e.form 0) (head_at s 0)

-- IN BYTES: where the listed members of the message stand
unfoldable pub message_at : List Bool → List ℕ → Got (List ℕ)
message_at listed s =
    pick (untagged s) (bind_g (inside_at structure depth_limit s listed 0) (λ seen n. pick (eqb n (length s)) (got seen n) bad)) bad

-- of the structure that it starts with, whatever comes after that; and a pass over them
unfoldable pub structure_at : List Bool → List ℕ → Got (List ℕ)
structure_at listed s = pick (untagged s) (inside_at structure depth_limit s listed 0) bad

unfoldable pub open_pass : List Bool → List Bool → List ℕ → Pass
open_pass listed stops s = headed no_pass (λ e. pick (eqb e.form 0) (pass_of structure depth_limit s listed stops e) no_pass) (head_at s 0)

-- a pass that has ended where the payload ends
unfoldable pub whole_pass : ℕ → Pass → Bool
whole_pass len m = pick m.good (eqb m.head.next.at len) false

-- what is made of them
abbrev pub whole_in : {A : Type 0} → List Bool → (List ℕ → Option A) → List ℕ → Option A
whole_in listed F s = opt_of (bind_g (message_at listed s) (λ seen n. place (F seen) n))

-- IN TREES: of the members of the message's structure
abbrev pub whole_t : {A : Type 0} → List Bool → (List Slot → Option A) → Trees → Option A
whole_t listed G ts = bind_o (fields_t listed ts) G

-- a number that must be there
abbrev pub given : ℕ → Bool
given n = ltb n ABSENT

abbrev pub snoc : {A : Type 0} → List A → A → List A
snoc l a = l ++ (a ∷ [])

-- the meaning of an array whose members all have one meaning
abbrev pub list_t : {A : Type 0} → (Tree → Option A) → Tree → Option (List A)
list_t means (primitive t x) = None
list_t means (container t k ts) = pick (eqb k array) (fold_t (each_t snoc means) [] ts) None

-- the first n of a list, filled up to n
unfoldable pub first_of : {A : Type 0} → ℕ → A → List A → List A
first_of zero z l = []
first_of (suc n) z [] = z ∷ first_of n z []
first_of (suc n) z (x ∷ l) = x ∷ first_of n z l

-- how many members a list has, and the first n of them
pub record Firsts (A : Type 0) : Type 0 where
  pub count : ℕ
  pub kept : List A

abbrev pub firsts : {A : Type 0} → ℕ → A → List A → Firsts A
firsts n z l = record { count = length l; kept = first_of n z l }

abbrev pub no_firsts : {A : Type 0} → ℕ → A → Firsts A
no_firsts n z = record { count = 0; kept = replicate n z }

-- a list of n places with one more stored at its place, if that is one of them
abbrev pub keep_of : {A : Type 0} → ℕ → List A → ℕ → A → List A
keep_of n kept count a = pick (ltb count n) (set kept count a) kept

-- IN BYTES: the array at a position, each member read by one reader
unfoldable pub list_at : {A : Type 0} → (ℕ → List ℕ → ℕ → Got A) → ℕ → List ℕ → ℕ → Got (List A)
list_at read zero s at = bad
list_at read (suc d) s at =
    headed bad (λ e. pick (eqb e.kind array) (fold_at (each_step snoc (read d s)) (length s) s array [] e.next.at) bad) (head_at s at)

-- of the element with this head
unfoldable pub list_on : {A : Type 0} → (ℕ → List ℕ → ℕ → Got A) → ℕ → List ℕ → Element → Got (List A)
list_on read zero s e = bad
list_on read (suc d) s e = pick (eqb e.kind array) (fold_at (each_step snoc (read d s)) (length s) s array [] e.next.at) bad

-- ---- A LIST IN WORDS that are lent: so many for each member, one member after the other

unfoldable pub words_of : {A : Type 0} → (A → List ℕ) → List A → List ℕ
words_of enc [] = []
words_of enc (x ∷ l) = enc x ++ words_of enc l

-- one member more, if there is room for n
abbrev pub keep_more : {A : Type 0} → ℕ → ℕ → (A → List ℕ) → List ℕ → ℕ → A → List ℕ
keep_more n size enc words count a = pick (ltb count n) (store words (count * size) (enc a)) words

-- how many members a list has, and the words that it is kept in
pub record Kept : Type 0 where
  pub count : ℕ
  pub words : List ℕ

-- the first n of a list are stored from the start on, what stands behind them stays; a list that is refused leaves nothing
abbrev pub kept_as : {A : Type 0} → ℕ → (A → List ℕ) → List ℕ → List A → Kept
kept_as n enc words l = record { count = length l; words = store words 0 (words_of enc (take n l)) }

abbrev pub kept_none : ℕ → Kept
kept_none room = record { count = 0; words = replicate room 0 }

-- as the code has it, with where the array ends
pub record ListRead : Type 0 where
  pub good : Bool
  pub kept : Kept
  pub next : Cursor

-- the answer of a reader whose value the code holds in its own form
abbrev pub read_as : {A B : Type 0} → (A → B) → Got A → Option (B × Cursor)
read_as f bad = None
read_as f (got x n) = Some (f x, record { at = n })

abbrev pub listed_in : Option Listed → Listed
listed_in None = record { count = 0; next = record { at = 0 } }
listed_in (Some r) = r

abbrev pub list_with : Option Listed → List ℕ → ListRead
list_with r words = record { good = is_some r; kept = record { count = (listed_in r).count; words = words }; next = (listed_in r).next }

abbrev pub list_read : {A : Type 0} → ℕ → ℕ → (A → List ℕ) → List ℕ → Got (List A) → ListRead
list_read n size enc words bad = record { good = false; kept = kept_none (n * size); next = record { at = 0 } }
list_read n size enc words (got l m) = record { good = true; kept = kept_as n enc words l; next = record { at = m } }
