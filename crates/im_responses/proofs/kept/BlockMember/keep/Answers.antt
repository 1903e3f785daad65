use mathlib.Core.Path.{ap, ◌∙◌}
use mathlib.Core.List.{List}
use Prim.Native.Nat.{ℕ}
use Rattle.im_requests.specs.Message.{keep_more}
use Rattle.im_responses.specs.Kept.{max_blocks}
use Rattle.im_responses.proofs.kept.BlockMember.keep.Goals as goal

pub returns : goal.returns
returns c = c.keep_three.ensures ∙ ap (λ (y : List ℕ). keep_more max_blocks 3 (λ z. z) c.args.kept.now c.args.count y) c.words_of-w.ensures
