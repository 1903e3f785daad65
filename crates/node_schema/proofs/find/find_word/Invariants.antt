use Rattle.std.proofs.Common.{◌≡◌, ◌-◌, eqb}
use Rattle.node_schema.specs.Rows.{word}
use Rattle.node_schema.specs.Search.{first}
use Rattle.node_schema.specs.Find.{find_word}
use Rattle.node_schema.proofs.find.find_word.Given as goal

abbrev pub invariant-loop-i : goal.invariant-loop-i
invariant-loop-i l = (find_word l.w l.from l.n l.x ≡ first (λ k. eqb (word l.w l.from k) l.x) (l.n - l.i) l.i)
