-- The questions of a cache as a benchmark asks them: the number of RULES 6.1, and one word of what goes with it.
use Rattle.std.specs.Prelude.{ℕ, ◌+◌}
use Rattle.cache_ask.specs.declared.Whole.{Whole}
use Rattle.cache_ask.specs.declared.Whole.TheVariants as whole
use Rattle.cache_ask.specs.declared.EntryHeld.{EntryHeld}
use Rattle.cache_ask.specs.declared.EntryHeld.TheVariants as held
use Rattle.cache_ask.specs.declared.Ended.{Ended}
use Rattle.cache_ask.specs.declared.Ended.TheVariants as ended
use Rattle.cache_ask.specs.declared.Abandoned.{Abandoned}
use Rattle.cache_ask.specs.declared.Abandoned.TheVariants as abandoned
use Rattle.bench_server.specs.declared.calls.Last.{Last}

abbrev pub answer : ℕ → ℕ → Last
answer number len = record { number = number; len = len }

-- the version
abbrev pub whole_last : Whole → Last
whole_last whole.Broken = answer 2 0
whole_last whole.No = answer 1 0
whole_last (whole.At v) = answer 0 v

abbrev pub entry_last : EntryHeld → Last
entry_last held.Broken = answer 2 0
entry_last held.Nothing = answer 1 0
entry_last (held.Here v x) = answer 0 v

-- 1 where it is open, one more than its status
abbrev pub ended_last : Ended → Last
ended_last ended.Broken = answer 2 0
ended_last ended.NoneYet = answer 1 0
ended_last ended.Open = answer 1 1
ended_last ended.LastPart = answer 0 0
ended_last (ended.Status code) = answer 0 (code + 1)

-- the exchange
abbrev pub abandoned_last : Abandoned → Last
abandoned_last abandoned.Broken = answer 2 0
abandoned_last abandoned.Nothing = answer 1 0
abandoned_last (abandoned.Exchange n) = answer 0 n
