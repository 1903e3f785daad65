use Rattle.cache_report.specs.Entry.{kind_v}
use Rattle.cache_report.proofs.set.kind_of.Goals as goal

pub returns-in-Null : goal.returns-in-Null
unfolding kind_v
returns-in-Null c = rw c.in-Null.is

pub returns-in-Boolean : goal.returns-in-Boolean
unfolding kind_v
returns-in-Boolean c = rw c.in-Boolean.is

pub returns-in-Unsigned : goal.returns-in-Unsigned
unfolding kind_v
returns-in-Unsigned c = rw c.in-Unsigned.is

pub returns-in-Signed : goal.returns-in-Signed
unfolding kind_v
returns-in-Signed c = rw c.in-Signed.is

pub returns-in-Float : goal.returns-in-Float
unfolding kind_v
returns-in-Float c = rw c.in-Float.is

pub returns-in-Text : goal.returns-in-Text
unfolding kind_v
returns-in-Text c = rw c.in-Text.is

pub returns-in-Other : goal.returns-in-Other
unfolding kind_v
returns-in-Other c = rw c.in-Other.is
