use mathlib.Core.Path.{ap, ◌∙◌}
use mathlib.Core.Bool.{◌&&◌}
use Rattle.cache_state.specs.declared.CacheStanding.{CacheStanding}
use Rattle.cache_state.specs.State.{cache_right}
use Rattle.cache_state.specs.Words.{words_right, state_with}
use Rattle.bench_cache.proofs.cache_right.Goals as goal

pub returns : goal.returns
returns c = let a = c.args in λ kept. c.cache_ok.ensures kept ∙ ap (λ (t : CacheStanding). words_right a.asked.now && cache_right a.page.now (state_with a.clusters.now a.keys.now a.versions.now a.kinds.now a.words.now a.order.now a.lengths.now t kept)) c.read_standing-t.ensures.value
