use mathlib.Core.Path.{◌∙◌}
use Rattle.cache_entries.specs.Values.{usable_in}
use Rattle.cache_entries.proofs.values.usable.Goals as goal

pub returns-in-Other : goal.returns-in-Other
unfolding usable_in
returns-in-Other c = rw c.in-Other.is

pub returns-in-Text : goal.returns-in-Text
unfolding usable_in
returns-in-Text c = c.text_usable.ensures ∙ rw c.in-Text.is

pub returns-in-Null : goal.returns-in-Null
unfolding usable_in
returns-in-Null c = rw c.in-Null.is

pub returns-in-Boolean : goal.returns-in-Boolean
unfolding usable_in
returns-in-Boolean c = rw c.in-Boolean.is

pub returns-in-Unsigned : goal.returns-in-Unsigned
unfolding usable_in
returns-in-Unsigned c = rw c.in-Unsigned.is

pub returns-in-Signed : goal.returns-in-Signed
unfolding usable_in
returns-in-Signed c = rw c.in-Signed.is

pub returns-in-Float : goal.returns-in-Float
unfolding usable_in
returns-in-Float c = rw c.in-Float.is
