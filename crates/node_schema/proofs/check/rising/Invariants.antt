use Rattle.std.proofs.Common.{◌≡◌, ◌^◌, ◌<◌, ◌&&◌, ltb, leb}
use Rattle.node_schema.specs.Check.{every}
use Rattle.node_schema.proofs.RiseLaws.{step}
use Rattle.node_schema.proofs.check.rising.Given as goal

abbrev pub invariant-loop-i : goal.invariant-loop-i
invariant-loop-i l = (l.gaps < 2 ^ 64) × ((ltb l.words (2 ^ 62) && leb (2 ^ 63) l.gaps) ≡ every (step l.w l.from) l.i)
