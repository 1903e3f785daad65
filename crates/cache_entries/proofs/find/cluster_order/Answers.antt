use Rattle.cache_entries.proofs.PartLaws.{rest_part}
use Rattle.cache_entries.proofs.find.cluster_order.Goals as goal

pub returns : goal.returns
returns c = rest_part c.args.order.now 256
