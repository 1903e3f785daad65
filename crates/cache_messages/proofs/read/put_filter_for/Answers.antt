use Rattle.im_request_writer.specs.Request.{filter_tree}
use Rattle.im_writer.specs.Spelling.{spelling}
use lib.ListN.{length}
use Prim.Native.Nat.{◌/◌, ◌%◌, ◌^◌, ◌<◌, ◌≤◌}
use Rattle.cache_messages.proofs.FilterLaws.{filter-written, filter-left-out}
use Rattle.im_request_writer.proofs.FilterLaws.{filter-bound}
use Rattle.cache_entries.specs.Coherent.{shared_in}
use native.Mathlib.Omega.{arith}
use mathlib.Core.Path.{sym, ◌∙◌}
use Rattle.cache_messages.proofs.read.put_filter_for.Goals as goal
use Rattle.cache_messages.proofs.read.put_filter_for.Goals.{In-Some}

-- a filter has at most 21 octets
short : (c : In-Some) → length (spelling (filter_tree (c.args.word / 4294967296 % 65536) (c.args.word % 4294967296) c.in-Some.version)) ≤ 21
short c = let w = c.args.word in let v = c.in-Some.version in let fv : v < 2 ^ 32 = omega arith in let fe : w / 4294967296 % 65536 < 2 ^ 16 = omega arith in let fc : w % 4294967296 < 2 ^ 32 = omega arith in filter-bound (w / 4294967296 % 65536) (w % 4294967296) v fe fc fv

pub put_filter-requires : goal.put_filter-requires
put_filter-requires c = omega (arith, c.requires, short (goal.at.put_filter-requires c).In-Some)

pub returns-in-Some : goal.returns-in-Some
returns-in-Some c = let a = c.args in (filter-written a.word (shared_in a.so) _ ((sym c.shared_in.ensures ∙ c.in-Some.is)) c.put_filter.ensures, omega (arith, c.put_filter.ensures.place, short (goal.at.returns-in-Some c).In-Some))

pub returns-in-None : goal.returns-in-None
returns-in-None c = let a = c.args in (filter-left-out a.word (shared_in a.so) ((sym c.shared_in.ensures ∙ c.in-None.is)), omega arith)
