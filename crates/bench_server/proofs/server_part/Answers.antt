use Rattle.bench_server.proofs.PartLaws.{made-start}
use Rattle.bench_server.proofs.server_part.Goals as goal

pub returns : goal.returns
returns c = made-start _ _ c.make_part-f.ensures
