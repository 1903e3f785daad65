use Rattle.std.proofs.Common.{lt-ltb}
use Rattle.node_schema.proofs.factory_at.Goals as goal

pub returns : goal.returns
returns c = rw (lt-ltb _ _ c.requires)
