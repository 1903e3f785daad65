use mathlib.Core.Path.{◌≡◌, refl, sym, ap, ◌∙◌}
use mathlib.Core.List.{List}
use Prim.Native.Nat.{ℕ}
use native.Mathlib.Omega.{arith}
use borrow.Author.Tests.{eq-eqb, ne_eqb, le-leb, lt-leb}
use lib.ListN.{length, length-drop}
use Rattle.cache_order.specs.Order.{order_right}
use Rattle.cache_entries.specs.Valid.{held_right, texts_right}
use borrow.Author.Rules.{rules}
use Rattle.cache_entries.proofs.valid.held_ok.Goals as goal

pub returns-then-page-ne-PAGE_SIZE : goal.returns-then-page-ne-PAGE_SIZE
unfolding held_right
returns-then-page-ne-PAGE_SIZE c = let a = c.args in λ primed. rw (ne_eqb (length a.page.now) 51200 c.if-page-ne-PAGE_SIZE.true) refl

pub returns-then-n-gt-ENTRIES : goal.returns-then-n-gt-ENTRIES
unfolding held_right
returns-then-n-gt-ENTRIES c = let a = c.args in λ primed. rw (eq-eqb (length a.page.now) 51200 c.if-page-ne-PAGE_SIZE.false, lt-leb a.n 256 c.if-n-gt-ENTRIES.true) refl

pub returns-then-k-gt-CLUSTERS : goal.returns-then-k-gt-CLUSTERS
unfolding held_right
returns-then-k-gt-CLUSTERS c = let a = c.args in λ primed. rw (eq-eqb (length a.page.now) 51200 c.if-page-ne-PAGE_SIZE.false, le-leb a.n 256 c.if-n-gt-ENTRIES.false, lt-leb a.k 32 c.if-k-gt-CLUSTERS.true) refl

pub returns-then-not-clusters_ok : goal.returns-then-not-clusters_ok
unfolding held_right
returns-then-not-clusters_ok c = let a = c.args in λ primed. rw (eq-eqb (length a.page.now) 51200 c.if-page-ne-PAGE_SIZE.false, le-leb a.n 256 c.if-n-gt-ENTRIES.false, le-leb a.k 32 c.if-k-gt-CLUSTERS.false, sym c.clusters_ok.ensures ∙ c.if-not-clusters_ok.true) refl

pub order_ok-requires : goal.order_ok-requires
order_ok-requires c = let size : length c.args.order.now ≡ 288 = search rules in rw c.cluster_order.ensures (search rules, omega (arith, c.if-k-gt-CLUSTERS.false, length-drop 256 c.args.order.now, size))

pub returns-then-not-order_ok : goal.returns-then-not-order_ok
unfolding held_right
returns-then-not-order_ok c = let a = c.args in λ primed. rw (eq-eqb (length a.page.now) 51200 c.if-page-ne-PAGE_SIZE.false, le-leb a.n 256 c.if-n-gt-ENTRIES.false, le-leb a.k 32 c.if-k-gt-CLUSTERS.false, sym c.clusters_ok.ensures ∙ c.if-not-clusters_ok.false, sym (c.order_ok.ensures ∙ ap (λ (o : List ℕ). order_right a.clusters.now o a.k) c.cluster_order.ensures) ∙ c.if-not-order_ok.true) refl

pub returns-then-not-order_ok-2 : goal.returns-then-not-order_ok-2
unfolding held_right
returns-then-not-order_ok-2 c = let a = c.args in λ primed. rw (eq-eqb (length a.page.now) 51200 c.if-page-ne-PAGE_SIZE.false, le-leb a.n 256 c.if-n-gt-ENTRIES.false, le-leb a.k 32 c.if-k-gt-CLUSTERS.false, sym c.clusters_ok.ensures ∙ c.if-not-clusters_ok.false, sym (c.order_ok.ensures ∙ ap (λ (o : List ℕ). order_right a.clusters.now o a.k) c.cluster_order.ensures) ∙ c.if-not-order_ok.false, sym c.order_ok-2.ensures ∙ c.if-not-order_ok-2.true) refl

pub returns-then-not-entries_ok : goal.returns-then-not-entries_ok
unfolding held_right
returns-then-not-entries_ok c = let a = c.args in λ primed. rw (eq-eqb (length a.page.now) 51200 c.if-page-ne-PAGE_SIZE.false, le-leb a.n 256 c.if-n-gt-ENTRIES.false, le-leb a.k 32 c.if-k-gt-CLUSTERS.false, sym c.clusters_ok.ensures ∙ c.if-not-clusters_ok.false, sym (c.order_ok.ensures ∙ ap (λ (o : List ℕ). order_right a.clusters.now o a.k) c.cluster_order.ensures) ∙ c.if-not-order_ok.false, sym c.order_ok-2.ensures ∙ c.if-not-order_ok-2.false, sym (c.entries_ok.ensures a.clusters.now a.order.now a.lengths.now primed) ∙ c.if-not-entries_ok.true) refl

pub returns : goal.returns
unfolding held_right texts_right
returns c = let a = c.args in λ primed. rw (eq-eqb (length a.page.now) 51200 c.if-page-ne-PAGE_SIZE.false, le-leb a.n 256 c.if-n-gt-ENTRIES.false, le-leb a.k 32 c.if-k-gt-CLUSTERS.false, sym c.clusters_ok.ensures ∙ c.if-not-clusters_ok.false, sym (c.order_ok.ensures ∙ ap (λ (o : List ℕ). order_right a.clusters.now o a.k) c.cluster_order.ensures) ∙ c.if-not-order_ok.false, sym c.order_ok-2.ensures ∙ c.if-not-order_ok-2.false, sym (c.entries_ok.ensures a.clusters.now a.order.now a.lengths.now primed) ∙ c.if-not-entries_ok.false) c.texts_ok.ensures
