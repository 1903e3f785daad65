use mathlib.Core.Path.{◌≡◌, refl, sym, ap, ◌∙◌}
use mathlib.Core.List.{List, [], ◌∷◌, ◌++◌}
use native.Mathlib.Omega.{arith}
use lib.ListN.{length}
use Rattle.base_octets.specs.Store.{store}
use Rattle.base_octets.proofs.StoreLaws.{length-store}
use Rattle.node_schema.specs.Rows.{rows_from}
use Rattle.im_requests.specs.declared.VersionFilter.{VersionFilter}
use Rattle.server_selection.specs.Request.{filters_at}
use Rattle.server_selection.specs.Filters.{filter_words, version_filter_list}
use Rattle.server_selection.proofs.PutLaws.{clear-length, clear-over, clear_stays, filter_more, version-filter-more}
use Rattle.server_selection.proofs.filters.put_filters.Goals as goal

pub loop-i-init : goal.loop-i-init
unfolding rows_from
loop-i-init c = let a = c.args in (refl, clear_stays a.w.now a.row.now c.clear_filters.ensures)

pub filter_at-requires : goal.filter_at-requires
filter_at-requires c = omega (arith, c.loop-i-test.true, c.requires.1.0)

pub put_filter-requires : goal.put_filter-requires
put_filter-requires c = omega (arith, c.loop-i.invariant.0, clear-length c.args.w.now c.args.row.now c.clear_filters.ensures, c.requires.1.1)

pub loop-i-preserved : goal.loop-i-preserved
loop-i-preserved c = let a = c.args in let w = a.w.now in let fs = a.filters.now in let l = c.loop-i in let o = c.clear_filters.new.row in let e = c.put_filter.ensures in
    let m = filter_more w c.requires.0 c.filter_at.result o (version_filter_list fs l.i) (omega (arith, clear-length w a.row.now c.clear_filters.ensures, c.requires.1.1)) l.invariant.1 in
    (ap length (e ∙ m) ∙ length-store _ _ _, e ∙ m ∙ ap (λ (f : VersionFilter). store o filters_at (filter_words w (version_filter_list fs l.i ++ (f ∷ [])))) c.filter_at.ensures ∙ ap (λ (y : List VersionFilter). store o filters_at (filter_words w y)) (sym (version-filter-more fs l.i)))

pub shape_of-row : goal.shape_of-row
shape_of-row c = c.loop-i.invariant.0 ∙ clear-length c.args.w.now c.args.row.now c.clear_filters.ensures

pub returns : goal.returns
returns c = let a = c.args in let l = c.loop-i in let k : l.i ≡ a.n = omega (arith, c.loop-i-test.false) in
    l.invariant.1 ∙ ap (λ i. store c.clear_filters.new.row filters_at (filter_words a.w.now (version_filter_list a.filters.now i))) k ∙ clear-over a.w.now a.row.now c.clear_filters.ensures (version_filter_list a.filters.now a.n)
