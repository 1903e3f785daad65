-- The calls of a cache as a benchmark makes them: what each answers.
use Rattle.cache_state.specs.declared.Outcome.{Outcome}
use Rattle.bench_server.specs.declared.calls.Last.{Last}

abbrev pub outcome_of : Last → Outcome
outcome_of r = record { number = r.number; len = r.len }
