-- A server, and the state of the protocol that it stands for.
use mathlib.Core.List.{List}
use Prim.Native.Nat.{ℕ}
use Rattle.tlv_reader.specs.Value.{Datum}
use Rattle.node_access.specs.declared.Grants.{Grants}
use Rattle.server_replies.specs.Server.{Server}
use Rattle.server.proofs.ServerLaws.{RightServer, server-right}
use Rattle.proof_protocol.specs.Model.{System}
use Rattle.proof_refinement.specs.Server.{ServerAs}

pub record Standing (g : Grants) (sent : List (List ℕ)) : Type 0 where
  pub server : Server
  pub system : System Datum
  pub stands : ServerAs server g sent system.clusters system.row

-- the rules that it keeps
pub right_of : {g : Grants} {sent : List (List ℕ)} (here : Standing g sent) → RightServer here.server
right_of here = server-right here.server here.stands.valid.right
