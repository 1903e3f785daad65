use Rattle.cache_entries.proofs.MarkLaws.{marked-free}
use mathlib.Core.Path.{◌≡◌, refl, sym, ap, ◌∙◌}
use mathlib.Core.Bool.{true, false, ◌&&◌}
use mathlib.Core.List.{List}
use Prim.Native.Nat.{ℕ, ◌<◌}
use borrow.Author.Tests.{ltb-true}
use lib.Dec.{ltb}
use lib.ListN.{get_or}
use Rattle.node_schema.proofs.BoolLaws.{left, right}
use Rattle.cache_entries.specs.Limits.{text_places}
use Rattle.cache_entries.specs.Texts.{is_text, free_place, or_first, place_given, Own}
use Rattle.cache_entries.proofs.MoveLaws.{stays-none, becomes-text, becomes-none, stays-text}
use Rattle.cache_entries.proofs.texts.move_text.Goals as goal

-- an entry that is a text keeps its place, which is there
given_below : (kinds words : List ℕ) (n i : ℕ) → (ltb i n && is_text kinds i) ≡ true → Own kinds words n i (place_given kinds words n i) → get_or words i 0 < text_places
unfolding place_given
given_below kinds words n i t own = (rw t at own).below

-- another gets a place that is there
free-below : (kinds words : List ℕ) (n i : ℕ) → (ltb i n && is_text kinds i) ≡ false → Own kinds words n i (place_given kinds words n i) → {p : ℕ} → p ≡ or_first (free_place kinds words n) → p < text_places
unfolding place_given
free-below kinds words n i f own e = rw e (rw f at own).below

pub returns-then-text : goal.returns-then-text
unfolding place_given
returns-then-text c = let a = c.args in let t = sym c.is_text.ensures ∙ c.if-is_text.true in (rw (t, c.if-text.true) refl, λ kind word is e. stays-text a.kinds.now a.words.now a.n a.i c.requires.1.0 c.requires.1.1.0 c.requires.1.1.1.0 c.requires.1.1.1.1.0 kind word a.marks.now c.requires.1.1.1.1.1.0 (ltb-true _ _ (left _ _ t)) (right (ltb a.i a.n) _ t) (is ∙ c.if-text.true) (e c.if-text.true))

pub bounds-marks-own : goal.bounds-marks-own
bounds-marks-own c = let a = c.args in let t = sym c.is_text.ensures ∙ c.if-is_text.true in given_below a.kinds.now a.words.now a.n a.i t c.requires.1.1.1.1.1.1

pub returns-then-is_text : goal.returns-then-is_text
unfolding place_given
returns-then-is_text c = let a = c.args in let t = sym c.is_text.ensures ∙ c.if-is_text.true in (rw c.if-text.false refl, λ kind word is e. becomes-none a.kinds.now a.words.now a.n a.i c.requires.1.0 c.requires.1.1.0 c.requires.1.1.1.0 c.requires.1.1.1.1.0 kind word a.marks.now c.requires.1.1.1.1.1.0 (ltb-true _ _ (left _ _ t)) (right (ltb a.i a.n) _ t) (rw t at c.requires.1.1.1.1.1.1) (is ∙ c.if-text.false))

pub returns-then-not-text : goal.returns-then-not-text
unfolding place_given
returns-then-not-text c = let a = c.args in let f = sym c.is_text.ensures ∙ c.if-is_text.false in let g = c.if-not-text.true in (rw g refl, λ kind word is e. stays-none a.kinds.now a.words.now a.n a.i c.requires.1.0 c.requires.1.1.0 c.requires.1.1.1.0 c.requires.1.1.1.1.0 kind word a.marks.now c.requires.1.1.1.1.1.0 f (is ∙ g))

pub bounds-marks-p : goal.bounds-marks-p
bounds-marks-p c = let a = c.args in free-below a.kinds.now a.words.now a.n a.i (sym c.is_text.ensures ∙ c.if-is_text.false) c.requires.1.1.1.1.1.1 (c.free_place-p.ensures ∙ ap or_first (marked-free a.kinds.now a.words.now a.n a.marks.now c.requires.1.1.1.1.1.0))

pub returns : goal.returns
unfolding place_given
returns c = let a = c.args in let f = sym c.is_text.ensures ∙ c.if-is_text.false in let g = c.if-not-text.false in let free = c.free_place-p.ensures ∙ ap or_first (marked-free a.kinds.now a.words.now a.n a.marks.now c.requires.1.1.1.1.1.0) in (rw (g, f) free, λ kind word is e. let q = e g in rw (← q) (becomes-text a.kinds.now a.words.now a.n a.i c.requires.1.0 c.requires.1.1.0 c.requires.1.1.1.0 c.requires.1.1.1.1.0 kind word a.marks.now c.requires.1.1.1.1.1.0 f (is ∙ g) (rw q (free-below a.kinds.now a.words.now a.n a.i f c.requires.1.1.1.1.1.1 free))))
