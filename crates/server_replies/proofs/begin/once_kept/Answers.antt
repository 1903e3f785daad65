use lib.ListN.{length}
use Rattle.server_replies.specs.Row.{keeping, request_in}
use Rattle.server_replies.specs.Begin.{answered}
use Rattle.server_replies.proofs.begin.once_kept.Goals as goal

pub returns : goal.returns
unfolding keeping
returns c = let a = c.args in let e = c.keep.ensures.kept_after in
    record { by_index = (λ row. λ j. record { progress = answered a.exchange; request = request_in row a.t.asked; place = a.t.place; kept = e j; len = length a.reply.now }); whole = c.keep.ensures.whole }
