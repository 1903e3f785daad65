use mathlib.Core.List.{[]}
use mathlib.Core.Bool.{true, false}
use Rattle.cache_messages.proofs.MessageLaws.{after-envelope, read-unfiltered, read-filtered}
use Rattle.im_request_writer.proofs.RequestLaws.{length-read-opening, length-filters-opening, length-read-closing}
use Rattle.base_octets.proofs.StoreLaws as Stores
use native.Mathlib.Omega.{arith}
use Rattle.cache_messages.proofs.read.put_read.Goals as goal

pub put_read_open-q-requires : goal.put_read_open-q-requires
put_read_open-q-requires c = let o = after-envelope _ _ _ _ c.put_envelope-p.ensures in omega (arith, c.requires.1.1.1, o.0, o.1, length-read-opening)

pub put_filters_open-start-requires : goal.put_filters_open-start-requires
put_filters_open-start-requires c = let o = after-envelope _ _ _ _ c.put_envelope-p.ensures in let a = c.put_read_open-q.ensures in omega (arith, c.requires.1.1.1, o.0, o.1, a.place, Stores.same_length a, length-read-opening, length-filters-opening)

pub put_filters-end-requires : goal.put_filters-end-requires
put_filters-end-requires c = let o = after-envelope _ _ _ _ c.put_envelope-p.ensures in let a = c.put_read_open-q.ensures in let b = c.put_filters_open-start.ensures in (c.requires.0, omega (arith, c.requires.1.1.1, o.0, o.1, a.place, Stores.same_length a, b.place, Stores.same_length b, length-read-opening, length-filters-opening))

pub put_read_close-requires : goal.put_read_close-requires
put_read_close-requires c = let o = after-envelope _ _ _ _ c.put_envelope-p.ensures in let a = c.put_read_open-q.ensures in let b = c.put_filters_open-start.ensures in let f = c.put_filters-end.ensures in omega (arith, c.requires.1.1.1, o.0, o.1, a.place, Stores.same_length a, Stores.same_length b, Stores.same_length (f.0 [] [] []), length-read-opening, length-read-closing false)

pub returns-then-end-start : goal.returns-then-end-start
returns-then-end-start c = let o = after-envelope _ _ _ _ c.put_envelope-p.ensures in let a = c.put_read_open-q.ensures in (λ kinds words lengths. read-unfiltered c.args.edition c.args.exchange c.put_envelope-p.ensures a c.put_filters_open-start.ensures _ (c.put_filters-end.ensures.0 kinds words lengths) c.if-end-start.true c.put_read_close.ensures, omega (arith, o.0, a.place, c.put_read_close.ensures.place, length-read-opening, length-read-closing false))

pub put_read_close-requires-2 : goal.put_read_close-requires-2
put_read_close-requires-2 c = let o = after-envelope _ _ _ _ c.put_envelope-p.ensures in let a = c.put_read_open-q.ensures in let b = c.put_filters_open-start.ensures in let f = c.put_filters-end.ensures in omega (arith, c.requires.1.1.1, o.0, o.1, a.place, Stores.same_length a, b.place, Stores.same_length b, Stores.same_length (f.0 [] [] []), f.1, length-read-opening, length-filters-opening, length-read-closing true)

pub returns : goal.returns
returns c = let o = after-envelope _ _ _ _ c.put_envelope-p.ensures in let a = c.put_read_open-q.ensures in let b = c.put_filters_open-start.ensures in (λ kinds words lengths. read-filtered c.args.edition c.args.exchange c.put_envelope-p.ensures a b _ (c.put_filters-end.ensures.0 kinds words lengths) c.if-end-start.false c.put_read_close-2.ensures, omega (arith, o.0, a.place, b.place, c.put_filters-end.ensures.1, c.put_read_close-2.ensures.place, length-read-opening, length-filters-opening, length-read-closing true))
