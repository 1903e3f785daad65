use mathlib.Core.Path.{refl, sym, ap, ◌∙◌}
use borrow.Author.Tests.{eq-eqb, ne_eqb, lt-ltb, le-ltb}
use Rattle.base_bounds.specs.Bounds.{path_limit, filter_limit, write_limit}
use Rattle.server_replies.specs.Refusal.{refusal_code}
use Rattle.server_replies.proofs.refusal.refusal_code.Goals as goal

pub returns-in_default : goal.returns-in_default
unfolding refusal_code
returns-in_default c = ap refusal_code (sym c.in_default.is)

pub returns-then-a-eq1 : goal.returns-then-a-eq1
unfolding refusal_code
returns-then-a-eq1 c = let a = c.in-Some.a in (rw (eq-eqb a.timed 1 c.if-a-eq1.true) refl) ∙ ap refusal_code (sym c.in-Some.is)

pub returns-then-a-gt-MAX_PATHS : goal.returns-then-a-gt-MAX_PATHS
unfolding refusal_code
returns-then-a-gt-MAX_PATHS c = let a = c.in-Some.a in (rw (ne_eqb a.timed 1 c.if-a-eq1.false, lt-ltb path_limit a.paths c.if-a-gt-MAX_PATHS.true) refl) ∙ ap refusal_code (sym c.in-Some.is)

pub returns-then-a-gt-MAX_FILTERS : goal.returns-then-a-gt-MAX_FILTERS
unfolding refusal_code
returns-then-a-gt-MAX_FILTERS c = let a = c.in-Some.a in (rw (ne_eqb a.timed 1 c.if-a-eq1.false, le-ltb path_limit a.paths c.if-a-gt-MAX_PATHS.false, lt-ltb filter_limit a.filters c.if-a-gt-MAX_FILTERS.true) refl) ∙ ap refusal_code (sym c.in-Some.is)

pub returns-then-a-gt-MAX_WRITES : goal.returns-then-a-gt-MAX_WRITES
unfolding refusal_code
returns-then-a-gt-MAX_WRITES c = let a = c.in-Some.a in (rw (ne_eqb a.timed 1 c.if-a-eq1.false, le-ltb path_limit a.paths c.if-a-gt-MAX_PATHS.false, le-ltb filter_limit a.filters c.if-a-gt-MAX_FILTERS.false, lt-ltb write_limit a.writes c.if-a-gt-MAX_WRITES.true) refl) ∙ ap refusal_code (sym c.in-Some.is)

pub returns : goal.returns
unfolding refusal_code
returns c = let a = c.in-Some.a in (rw (ne_eqb a.timed 1 c.if-a-eq1.false, le-ltb path_limit a.paths c.if-a-gt-MAX_PATHS.false, le-ltb filter_limit a.filters c.if-a-gt-MAX_FILTERS.false, le-ltb write_limit a.writes c.if-a-gt-MAX_WRITES.false) refl) ∙ ap refusal_code (sym c.in-Some.is)
