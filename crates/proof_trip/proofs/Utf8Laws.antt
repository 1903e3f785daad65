-- Well-formed UTF-8 is of bytes.
use mathlib.Core.Path.{◌≡◌}
use mathlib.Core.Bool.{true}
use mathlib.Core.List.{List, [], ◌∷◌}
use Prim.Native.Nat.{ℕ, ◌<◌}
use native.Mathlib.Omega.{arith}
use Rattle.base_utf8.specs.WellFormed.{Range, Line, within, table, after, trailing, completes, well_formed}
use Rattle.base_utf8.proofs.Lines.{low, high}
use Rattle.node_schema.proofs.BoolLaws.{left, right, by-test}
use Rattle.im_blocks.proofs.BlockLaws.{never}
use Rattle.im_writer.specs.Spelling.{Each}

abbrev pub Byte : ℕ → Type 0
Byte b = b < 256

-- a range of bytes, and a line of such
abbrev Small : Range → Type 0
Small r = r.1 < 256

abbrev SmallLine : Line → Type 0
SmallLine l = Small l.0 × Each Small l.1

table-small : Each SmallLine table
unfolding Each table
table-small =
    ((omega arith, tt), ((omega arith, (omega arith, tt)), ((omega arith, (omega arith, (omega arith, tt))), ((omega arith, (omega arith, (omega arith, tt))), ((omega arith, (omega arith, (omega arith, tt))), ((omega arith, (omega arith, (omega arith, tt))), ((omega arith, (omega arith, (omega arith, (omega arith, tt)))), ((omega arith, (omega arith, (omega arith, (omega arith, tt)))), ((omega arith, (omega arith, (omega arith, (omega arith, tt)))), tt)))))))))

-- no byte is in the range of a first byte that no line has
nowhere : (s : List ℕ) → completes ((1, 0) ∷ []) s ≡ true → ⊥
unfolding completes
nowhere [] h = never (cc)
nowhere (b ∷ s) h = let w : within (1, 0) b ≡ true = left (within (1, 0) b) _ h in omega (arith, low (1, 0) b w, high (1, 0) b w)

after_small : (a : ℕ) (s : List ℕ) (ls : List Line) → Each SmallLine ls → completes (after a ls) s ≡ true → Byte a × Each Small (after a ls)
unfolding Each after
after_small a s [] h e = absurd (nowhere s e)
after_small a s (l ∷ ls) h e =
    by-test (within l.0 a) (λ t. rw t (omega (arith, high l.0 a t, h.0.0), h.0.1))
    (λ f. rw f (after_small a s ls h.1 (rw f at e)))

complete-bytes : (s : List ℕ) (rs : List Range) → Each Small rs → completes rs s ≡ true → Each Byte s
unfolding Each completes trailing
complete-bytes [] rs h e = tt
complete-bytes (a ∷ s) [] h e = let r = after_small a s table table-small e in (r.0, complete-bytes s (after a table) r.1 e)
complete-bytes (b ∷ s) (r ∷ rs) h e =
    (omega (arith, high r b (left (within r b) _ e), h.0), complete-bytes s rs h.1 (right (within r b) _ e))

pub utf8-bytes : (s : List ℕ) → well_formed s ≡ true → Each Byte s
unfolding well_formed Each
utf8-bytes s e = complete-bytes s [] tt e
