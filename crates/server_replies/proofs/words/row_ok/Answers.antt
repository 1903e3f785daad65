use mathlib.Core.Path.{refl, sym, ◌∙◌}
use borrow.Author.Tests.{lt-ltb, le-ltb, lt-leb, le-leb, eq-eqb, ne_eqb}
use Rattle.base_bounds.specs.Bounds.{attribute_limit, path_limit}
use Rattle.im_exchange.specs.Rules.{max_turn, part}
use Rattle.im_writer.specs.Envelope.{exchange_limit}
use Rattle.server_report.specs.Blocks.{attribute_phase}
use Rattle.server_replies.specs.Row.{row_right}
use Rattle.server_replies.proofs.words.row_ok.Goals as goal

pub returns-then-progress-ge-EXCHANGE_LIMIT : goal.returns-then-progress-ge-EXCHANGE_LIMIT
unfolding row_right
returns-then-progress-ge-EXCHANGE_LIMIT c = λ row kept. let x = c.args.t in rw (le-ltb x.progress.last exchange_limit c.if-progress-ge-EXCHANGE_LIMIT.true) refl

pub returns-then-progress-gt-MAX_TURN : goal.returns-then-progress-gt-MAX_TURN
unfolding row_right
returns-then-progress-gt-MAX_TURN c = λ row kept. let x = c.args.t in rw (lt-ltb x.progress.last exchange_limit c.if-progress-ge-EXCHANGE_LIMIT.false, lt-leb x.progress.turn max_turn c.if-progress-gt-MAX_TURN.true) refl

pub returns-then-progress-gt-PART : goal.returns-then-progress-gt-PART
unfolding row_right
returns-then-progress-gt-PART c = λ row kept. let x = c.args.t in rw (lt-ltb x.progress.last exchange_limit c.if-progress-ge-EXCHANGE_LIMIT.false, le-leb x.progress.turn max_turn c.if-progress-gt-MAX_TURN.false, lt-leb x.progress.next part c.if-progress-gt-PART.true) refl

pub returns-then-progress-gt1 : goal.returns-then-progress-gt1
unfolding row_right
returns-then-progress-gt1 c = λ row kept. let x = c.args.t in rw (lt-ltb x.progress.last exchange_limit c.if-progress-ge-EXCHANGE_LIMIT.false, le-leb x.progress.turn max_turn c.if-progress-gt-MAX_TURN.false, le-leb x.progress.next part c.if-progress-gt-PART.false, lt-leb x.progress.closed 1 c.if-progress-gt1.true) refl

pub returns-then-t-gt-MAX_PATHS : goal.returns-then-t-gt-MAX_PATHS
unfolding row_right
returns-then-t-gt-MAX_PATHS c = λ row kept. let x = c.args.t in rw (lt-ltb x.progress.last exchange_limit c.if-progress-ge-EXCHANGE_LIMIT.false, le-leb x.progress.turn max_turn c.if-progress-gt-MAX_TURN.false, le-leb x.progress.next part c.if-progress-gt-PART.false, le-leb x.progress.closed 1 c.if-progress-gt1.false, lt-leb x.asked path_limit c.if-t-gt-MAX_PATHS.true) refl

pub returns-then-place-ne-ATTRIBUTE_PHASE : goal.returns-then-place-ne-ATTRIBUTE_PHASE
unfolding row_right
returns-then-place-ne-ATTRIBUTE_PHASE c = λ row kept. let x = c.args.t in rw (lt-ltb x.progress.last exchange_limit c.if-progress-ge-EXCHANGE_LIMIT.false, le-leb x.progress.turn max_turn c.if-progress-gt-MAX_TURN.false, le-leb x.progress.next part c.if-progress-gt-PART.false, le-leb x.progress.closed 1 c.if-progress-gt1.false, le-leb x.asked path_limit c.if-t-gt-MAX_PATHS.false, ne_eqb x.place.phase attribute_phase c.if-place-ne-ATTRIBUTE_PHASE.true) refl

pub returns-then-t-place : goal.returns-then-t-place
unfolding row_right
returns-then-t-place c = λ row kept. let x = c.args.t in rw (lt-ltb x.progress.last exchange_limit c.if-progress-ge-EXCHANGE_LIMIT.false, le-leb x.progress.turn max_turn c.if-progress-gt-MAX_TURN.false, le-leb x.progress.next part c.if-progress-gt-PART.false, le-leb x.progress.closed 1 c.if-progress-gt1.false, le-leb x.asked path_limit c.if-t-gt-MAX_PATHS.false, eq-eqb x.place.phase attribute_phase c.if-place-ne-ATTRIBUTE_PHASE.false, lt-leb x.place.path x.asked c.if-t-place.true) refl

pub returns-then-place-gt-ATTRIBUTES : goal.returns-then-place-gt-ATTRIBUTES
unfolding row_right
returns-then-place-gt-ATTRIBUTES c = λ row kept. let x = c.args.t in rw (lt-ltb x.progress.last exchange_limit c.if-progress-ge-EXCHANGE_LIMIT.false, le-leb x.progress.turn max_turn c.if-progress-gt-MAX_TURN.false, le-leb x.progress.next part c.if-progress-gt-PART.false, le-leb x.progress.closed 1 c.if-progress-gt1.false, le-leb x.asked path_limit c.if-t-gt-MAX_PATHS.false, eq-eqb x.place.phase attribute_phase c.if-place-ne-ATTRIBUTE_PHASE.false, le-leb x.place.path x.asked c.if-t-place.false, lt-leb x.place.index attribute_limit c.if-place-gt-ATTRIBUTES.true) refl

pub returns-then-place-ne0 : goal.returns-then-place-ne0
unfolding row_right
returns-then-place-ne0 c = λ row kept. let x = c.args.t in rw (lt-ltb x.progress.last exchange_limit c.if-progress-ge-EXCHANGE_LIMIT.false, le-leb x.progress.turn max_turn c.if-progress-gt-MAX_TURN.false, le-leb x.progress.next part c.if-progress-gt-PART.false, le-leb x.progress.closed 1 c.if-progress-gt1.false, le-leb x.asked path_limit c.if-t-gt-MAX_PATHS.false, eq-eqb x.place.phase attribute_phase c.if-place-ne-ATTRIBUTE_PHASE.false, le-leb x.place.path x.asked c.if-t-place.false, le-leb x.place.index attribute_limit c.if-place-gt-ATTRIBUTES.false, ne_eqb x.place.sent 0 c.if-place-ne0.true) refl

pub returns-then-not-kept_ok : goal.returns-then-not-kept_ok
unfolding row_right
returns-then-not-kept_ok c = λ row kept. let x = c.args.t in rw (lt-ltb x.progress.last exchange_limit c.if-progress-ge-EXCHANGE_LIMIT.false, le-leb x.progress.turn max_turn c.if-progress-gt-MAX_TURN.false, le-leb x.progress.next part c.if-progress-gt-PART.false, le-leb x.progress.closed 1 c.if-progress-gt1.false, le-leb x.asked path_limit c.if-t-gt-MAX_PATHS.false, eq-eqb x.place.phase attribute_phase c.if-place-ne-ATTRIBUTE_PHASE.false, le-leb x.place.path x.asked c.if-t-place.false, le-leb x.place.index attribute_limit c.if-place-gt-ATTRIBUTES.false, eq-eqb x.place.sent 0 c.if-place-ne0.false, sym c.kept_ok.ensures ∙ c.if-not-kept_ok.true) refl

pub returns : goal.returns
unfolding row_right
returns c = λ row kept. let x = c.args.t in rw (lt-ltb x.progress.last exchange_limit c.if-progress-ge-EXCHANGE_LIMIT.false, le-leb x.progress.turn max_turn c.if-progress-gt-MAX_TURN.false, le-leb x.progress.next part c.if-progress-gt-PART.false, le-leb x.progress.closed 1 c.if-progress-gt1.false, le-leb x.asked path_limit c.if-t-gt-MAX_PATHS.false, eq-eqb x.place.phase attribute_phase c.if-place-ne-ATTRIBUTE_PHASE.false, le-leb x.place.path x.asked c.if-t-place.false, le-leb x.place.index attribute_limit c.if-place-gt-ATTRIBUTES.false, eq-eqb x.place.sent 0 c.if-place-ne0.false, sym c.kept_ok.ensures ∙ c.if-not-kept_ok.false) c.served_ok.ensures
