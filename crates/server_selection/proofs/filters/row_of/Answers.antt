use mathlib.Core.Path.{sym, ◌∙◌}
use Prim.Native.Nat.{◌^◌}
use borrow.Author.Tests.{lt-ltb, le-ltb}
use native.Mathlib.Omega.{arith}
use Rattle.server_selection.specs.Filters.{row_of}
use Rattle.server_selection.proofs.filters.row_of.Goals as goal

pub returns-then-f-gt65535 : goal.returns-then-f-gt65535
unfolding row_of
returns-then-f-gt65535 c = sym (simp (le-ltb _ _ c.if-f-gt65535.true))

pub returns-then-f-gt4294967295 : goal.returns-then-f-gt4294967295
unfolding row_of
returns-then-f-gt4294967295 c = sym (simp (lt-ltb c.args.f.endpoint (2 ^ 16) (omega (arith, c.if-f-gt65535.false)), le-ltb _ _ c.if-f-gt4294967295.true))

pub returns : goal.returns
unfolding row_of
returns c = c.find_cluster.ensures ∙ sym (simp (lt-ltb c.args.f.endpoint (2 ^ 16) (omega (arith, c.if-f-gt65535.false)), lt-ltb c.args.f.cluster (2 ^ 32) (omega (arith, c.if-f-gt4294967295.false))))
