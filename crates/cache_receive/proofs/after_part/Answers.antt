use Rattle.cache_receive.specs.Steps.{after_part}
use Rattle.cache_receive.proofs.PartLaws.{turn-left}
use borrow.Author.Tests.{eq-eqb, ne_eqb}
use Rattle.cache_receive.proofs.after_part.Goals as goal

pub go_on-requires : goal.go_on-requires
go_on-requires c = let p = c.requires in (p.0, (p.1.0, (p.1.1.0, (p.1.1.1.0, (turn-left c.args.more c.args.t.turn c.if-more-eq1.true p.1.1.1.1.0 p.1.1.1.1.1.0, p.1.1.1.1.1.1)))))

pub returns-then-more-eq1 : goal.returns-then-more-eq1
unfolding after_part
returns-then-more-eq1 c = λ clusters keys versions kinds words order lengths page. rw (eq-eqb c.args.more 1 c.if-more-eq1.true) (c.go_on.ensures clusters keys versions kinds words order lengths page)

pub returns : goal.returns
unfolding after_part
returns c = λ clusters keys versions kinds words order lengths page. rw (ne_eqb c.args.more 1 c.if-more-eq1.false) (c.end_read.ensures clusters keys versions kinds words order lengths c.args.kept.now page c.args.out.now)
