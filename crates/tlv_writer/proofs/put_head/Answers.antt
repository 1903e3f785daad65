use mathlib.Core.Path.{◌≡◌, ap}
use mathlib.Core.List.{[], ◌∷◌}
use Prim.Native.Nat.{◌+◌}
use native.Mathlib.Omega.{arith}
use lib.ListN.{length}
use Rattle.tlv_writer.specs.Element.{start_octets}
use Rattle.tlv_writer.proofs.Octets.{start-anonymous, start-context}
use Rattle.tlv_writer.proofs.put_head.Goals as goal
use Rattle.tlv_writer.proofs.put_head.Goals.{In-Context}

stored-context : (c : In-Context) → start_octets c.args.tag c.args.kind ≡ (32 + c.args.kind) ∷ c.in-Context.number ∷ []
stored-context c = start-context c.args.kind c.in-Context.is (omega arith)

pub put1-requires : goal.put1-requires
put1-requires c =
    omega (arith, c.requires.1, ap length (start-anonymous c.args.kind c.in-Anonymous.is))

pub put2-requires : goal.put2-requires
put2-requires c =
    omega (arith, c.requires.1, ap length (stored-context (goal.at.put2-requires c).In-Context))

pub returns-in-Anonymous : goal.returns-in-Anonymous
returns-in-Anonymous c =
    rw (start-anonymous c.args.kind c.in-Anonymous.is) c.put1.ensures

pub returns-in-Context : goal.returns-in-Context
returns-in-Context c = rw (stored-context (goal.at.returns-in-Context c).In-Context) c.put2.ensures
