use mathlib.Core.Path.{refl}
use borrow.Author.Tests.{lt-leb, le-leb, eq-eqb, ne_eqb}
use Rattle.server_replies.specs.Messages.{envelope_length}
use Rattle.server_replies.specs.Row.{kept_right}
use Rattle.server_replies.proofs.words.kept_ok.Goals as goal

pub returns-then-len-eq0 : goal.returns-then-len-eq0
unfolding kept_right
returns-then-len-eq0 c = rw (eq-eqb c.args.len 0 c.if-len-eq0.true) refl

pub returns-then-len-lt-LENGTH : goal.returns-then-len-lt-LENGTH
unfolding kept_right
returns-then-len-lt-LENGTH c = let n = c.args.len in rw (ne_eqb n 0 c.if-len-eq0.false, lt-leb envelope_length n c.if-len-lt-LENGTH.true) refl

pub returns : goal.returns
unfolding kept_right
returns c = let n = c.args.len in rw (ne_eqb n 0 c.if-len-eq0.false, le-leb envelope_length n c.if-len-lt-LENGTH.false) refl
