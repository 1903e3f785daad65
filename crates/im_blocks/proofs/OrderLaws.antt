-- In every information block the order of fields does not matter, and members that are not listed are as if absent (RULES 4.6, 4.10).
use mathlib.Core.Path.{◌≡◌}
use Prim.Native.Nat.{ℕ, ◌≤◌}
use Rattle.tlv_reader.specs.Octet.{structure, list}
use Rattle.tlv_reader.specs.Tree.{Tag, Tree, Trees, tag_of_tree}
use Rattle.tlv_reader.specs.Tree.Tree.{container}
use Rattle.tlv_reader.specs.Tree.Trees.{more}
use Rattle.im_members.specs.Fields.{slot_t}
use Rattle.im_members.specs.Order.{Reordered}
use Rattle.im_members.proofs.OrderLaws.{inside-any-order, inside-unlisted}
use Rattle.im_blocks.specs.Path.{path_tags, path_of, path_t}
use Rattle.im_blocks.specs.Filter.{cluster_tags, cluster_of, cluster_t, pair_tags, filter_slots, filter_t}
use Rattle.im_blocks.specs.Status.{status_of, status_t, answer_of, answer_t}
use Rattle.im_blocks.specs.Data.{triple_tags, data_of, data_t, report_of, report_t}

module _ (tag : Tag) (k : ℕ) where
  module _ {ts us : Trees} (r : Reordered ts us) where
    pub path-any-order : path_t (container tag k ts) ≡ path_t (container tag k us)
    unfolding path_t
    path-any-order = inside-any-order path_tags path_of list tag k r

    pub cluster-any-order : cluster_t (container tag k ts) ≡ cluster_t (container tag k us)
    unfolding cluster_t
    cluster-any-order = inside-any-order cluster_tags cluster_of list tag k r

    pub filter-any-order : filter_t (container tag k ts) ≡ filter_t (container tag k us)
    unfolding filter_t
    filter-any-order = inside-any-order pair_tags filter_slots structure tag k r

    pub status-any-order : status_t (container tag k ts) ≡ status_t (container tag k us)
    unfolding status_t
    status-any-order = inside-any-order pair_tags status_of structure tag k r

    pub answer-any-order : answer_t (container tag k ts) ≡ answer_t (container tag k us)
    unfolding answer_t
    answer-any-order = inside-any-order pair_tags answer_of structure tag k r

    pub data-any-order : data_t (container tag k ts) ≡ data_t (container tag k us)
    unfolding data_t
    data-any-order = inside-any-order triple_tags data_of structure tag k r

    pub report-any-order : report_t (container tag k ts) ≡ report_t (container tag k us)
    unfolding report_t
    report-any-order = inside-any-order pair_tags report_of structure tag k r

  module _ (t : Tree) (ts : Trees) where
    pub path-unlisted : 10 ≤ slot_t path_tags (tag_of_tree t) → path_t (container tag k (more t ts)) ≡ path_t (container tag k ts)
    unfolding path_t
    path-unlisted l = inside-unlisted path_tags path_of list tag k t ts l

    pub cluster-unlisted : 10 ≤ slot_t cluster_tags (tag_of_tree t) → cluster_t (container tag k (more t ts)) ≡ cluster_t (container tag k ts)
    unfolding cluster_t
    cluster-unlisted l = inside-unlisted cluster_tags cluster_of list tag k t ts l

    pub filter-unlisted : 10 ≤ slot_t pair_tags (tag_of_tree t) → filter_t (container tag k (more t ts)) ≡ filter_t (container tag k ts)
    unfolding filter_t
    filter-unlisted l = inside-unlisted pair_tags filter_slots structure tag k t ts l

    pub status-unlisted : 10 ≤ slot_t pair_tags (tag_of_tree t) → status_t (container tag k (more t ts)) ≡ status_t (container tag k ts)
    unfolding status_t
    status-unlisted l = inside-unlisted pair_tags status_of structure tag k t ts l

    pub answer-unlisted : 10 ≤ slot_t pair_tags (tag_of_tree t) → answer_t (container tag k (more t ts)) ≡ answer_t (container tag k ts)
    unfolding answer_t
    answer-unlisted l = inside-unlisted pair_tags answer_of structure tag k t ts l

    pub data-unlisted : 10 ≤ slot_t triple_tags (tag_of_tree t) → data_t (container tag k (more t ts)) ≡ data_t (container tag k ts)
    unfolding data_t
    data-unlisted l = inside-unlisted triple_tags data_of structure tag k t ts l

    pub report-unlisted : 10 ≤ slot_t pair_tags (tag_of_tree t) → report_t (container tag k (more t ts)) ≡ report_t (container tag k ts)
    unfolding report_t
    report-unlisted l = inside-unlisted pair_tags report_of structure tag k t ts l
