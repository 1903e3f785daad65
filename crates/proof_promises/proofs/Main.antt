-- DEMAND 3, proved over both ends as they are: the statements stand in specs/Claims.antt.
use Rattle.std.specs.Prelude.{Some, None, Option}
use mathlib.Core.Path.{◌≡◌, sym, ap, ◌∙◌}
use Prim.Native.Nat.{ℕ, ◌≤◌, max}
use native.Mathlib.Omega.{arith}
use Rattle.node_schema.specs.Rows.{count_of_attributes}
use Rattle.im_envelope.specs.Envelope.{envelope_in}
use Rattle.proof_protocol.specs.Model as Model
use Rattle.proof_protocol.proofs.Inductive.{reach-inv}
use Rattle.proof_promises.specs.World.{Plan, Start, granted}
use Rattle.proof_promises.specs.Claims.{FirstHalf, Once, SecondHalf, Possible, FewParts}
use Rattle.proof_promises.specs.Never.{Never}
use Rattle.proof_promises.proofs.MessageLaws.{part-envelope, answer-envelope}
use Rattle.proof_promises.proofs.ReadableLaws.{parts-few}
use Rattle.proof_promises.specs.Follows.{ReplyOf, part, answer, node, Follows}
use Rattle.proof_promises.proofs.StepLaws.{opcode_in}
use Rattle.proof_promises.proofs.FirstLaws as first
use Rattle.proof_promises.proofs.FirstLaws.{from-fresh}
use Rattle.proof_promises.proofs.OnceLaws as single
use Rattle.proof_promises.proofs.SecondLaws as second
use Rattle.proof_promises.proofs.ArriveLaws as arrive
use Rattle.proof_promises.proofs.NeverLaws as fair
use Rattle.im_envelope.specs.declared.Fields.{Fields}

-- RULES 0.3 b
pub first-half : FirstHalf
first-half = first.first-half

-- RULES 0.3 c
pub second-half : SecondHalf
second-half = second.second-half

-- the steps that it speaks of are the only ones
pub once : Once
once = single.once

-- for every read that begins all of it can arrive
pub possible : Possible
possible = arrive.possible

-- no read has more parts than there are attributes
pub few-parts : FewParts
few-parts p b u reach m i k e o = go (f.stands.replies m i)
  where
    f : Follows p b reach (Model.start (node p b))
    f = from-fresh p b reach

    turn_in : Option Fields → ℕ
    turn_in None = 0
    turn_in (Some x) = x.turn

    go : ReplyOf p.words u.requests f.end.parts m → k.turn ≤ max 1 (count_of_attributes p.words)
    go (part q j z) =
        let same : k.turn ≡ q.turn = ap turn_in (sym e ∙ ap envelope_in z ∙ part-envelope p.words q (f.stands.parts q j).1) in
        omega (arith, same, ((reach-inv (node p b) f.follows).parts q j).few, parts-few p.words (granted p))
    go (answer x y z fx fo wrote) =
        let seven : k.opcode ≡ 7 = ap opcode_in (sym e ∙ ap envelope_in z ∙ answer-envelope x y fx) in
        absurd (omega (arith, seven, o))

-- NEVER 2, and never 6 or 7 to what the server sent
pub never : Never
never = fair.never
