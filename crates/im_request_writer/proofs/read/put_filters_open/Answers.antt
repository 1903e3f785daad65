use borrow.Author.Rules.{rules}
use Rattle.im_request_writer.specs.Request.{filters_opening}
use Rattle.im_request_writer.proofs.read.put_filters_open.Goals as goal

pub returns : goal.returns
unfolding filters_opening
returns c =
    c.put_open.ensures

pub put_open-requires : goal.put_open-requires
unfolding filters_opening
put_open-requires c = search rules
