use Rattle.script_lines.proofs.WordLaws.{skipped-empty, skipped-mark}
use Rattle.script_lines.proofs.is_skipped.Goals as goal

pub returns-then-line-eq0 : goal.returns-then-line-eq0
returns-then-line-eq0 c = skipped-empty c.args.line.now c.if-line-eq0.true

pub returns : goal.returns
returns c = skipped-mark c.args.line.now c.if-line-eq0.false
