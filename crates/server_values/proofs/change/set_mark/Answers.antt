use mathlib.Core.Bool.{true, false}
use mathlib.Core.Path.{◌≡◌, sym, ap, ◌∙◌}
use Prim.Native.Nat.{ℕ, ◌+◌, ◌≤◌, ◌<◌}
use native.Mathlib.Omega.{arith}
use lib.ListN.{length, set}
use Rattle.tlv_reader.specs.Value.{datum_in}
use Rattle.node_schema.specs.Layout.{text_limit, text_size}
use Rattle.server_values.specs.Change.{is_text, text_of}
use Rattle.server_values.proofs.change.set_mark.Goals as goal
use Rattle.server_values.proofs.change.set_mark.Goals.{After-bytes_of-bytes, Then-is_text}

-- it is a text, its rank is one that there is, and its bytes are few
given : (c : Then-is_text) → (is_text (datum_in c.args.src.now c.args.new) ≡ true)
    × ((c.args.rank < text_limit) × (length (text_of (datum_in c.args.src.now c.args.new)) ≤ text_size))
given c =
    let t = sym (c.is_text.ensures c.args.src.now) ∙ c.if-is_text.true in
    (t, c.requires t)

few : (c : After-bytes_of-bytes) → length c.bytes_of-bytes.result.now ≤ text_size
few c =
    let t = sym (c.is_text.ensures c.args.src.now) ∙ c.if-is_text.true in
    omega (arith, ap length c.bytes_of-bytes.ensures, (c.requires t).1)

pub overflow_cast-texts : goal.overflow_cast-texts
overflow_cast-texts c = omega (arith, few (goal.at.overflow_cast-texts c).After-bytes_of-bytes)

pub overflow_add-texts : goal.overflow_add-texts
overflow_add-texts c = omega (arith, few (goal.at.overflow_add-texts c).After-bytes_of-bytes)

pub offset_bounds-texts-rank : goal.offset_bounds-texts-rank
offset_bounds-texts-rank c = omega (arith, (given (goal.at.offset_bounds-texts-rank c).Then-is_text).1.0)

pub bounds-texts-rank : goal.bounds-texts-rank
bounds-texts-rank c = omega (arith, (given (goal.at.bounds-texts-rank c).Then-is_text).1.0)

pub returns-then-is_text : goal.returns-then-is_text
returns-then-is_text c =
    let a = c.args in
    rw (given (goal.at.returns-then-is_text c).Then-is_text).0 (ap (λ (n : ℕ). set a.texts.now a.rank (n + 1)) (ap length c.bytes_of-bytes.ensures))

pub returns-else-is_text : goal.returns-else-is_text
returns-else-is_text c =
    let a = c.args in
    let t : is_text (datum_in a.src.now a.new) ≡ false = sym (c.is_text.ensures a.src.now) ∙ c.if-is_text.false in
    rw t
