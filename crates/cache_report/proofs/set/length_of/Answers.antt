use native.Mathlib.Omega.{arith}
use Rattle.cache_report.specs.Words.{length_v}
use Rattle.cache_entries.proofs.ValueLaws.{text-short}
use Rattle.cache_report.proofs.ItemLaws.{no_length}
use Rattle.cache_report.proofs.set.length_of.Goals as goal

pub returns-in_default : goal.returns-in_default
returns-in_default c = no_length c.args.v c.in_default.not-Text

pub overflow_cast-result : goal.overflow_cast-result
overflow_cast-result c = omega (arith, text-short _ c.in-Text.len c.in-Text.is c.requires)

pub returns : goal.returns
unfolding length_v
returns c = rw c.in-Text.is
