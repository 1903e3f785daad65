-- A block by its place and by its head.
use mathlib.Core.List.{List}
use Prim.Native.Nat.{ℕ, ◌-◌}
use native.Mathlib.Omega.{arith}
use Rattle.tlv_reader.specs.Octet.{structure, list}
use Rattle.im_members.proofs.PassLaws.{Reads, frame-reads}
use Rattle.im_blocks.specs.Path.{path_tags, path_from, path_at, path_on}
use Rattle.im_blocks.specs.Filter.{cluster_tags, cluster_from, cluster_at, cluster_on, pair_tags, filter_from, filter_at, filter_on}
use Rattle.im_blocks.specs.Status.{status_from, status_at, status_on, answer_from, answer_at, answer_on}
use Rattle.im_blocks.specs.Data.{triple_tags, data_from, data_at, data_on, report_from, report_at, report_on}

module _ (d : ℕ) (s : List ℕ) where
  pub path-reads : Reads d s (path_at d s) (path_on d s)
  unfolding path_at path_on
  path-reads = frame-reads list d s path_tags (path_from s) (omega arith) (omega arith)

  pub cluster-reads : Reads d s (cluster_at d s) (cluster_on d s)
  unfolding cluster_at cluster_on
  cluster-reads = frame-reads list d s cluster_tags (cluster_from s) (omega arith) (omega arith)

  pub filter-reads : Reads d s (filter_at d s) (filter_on d s)
  unfolding filter_at filter_on
  filter-reads = frame-reads structure d s pair_tags (filter_from (d - 1) s) (omega arith) (omega arith)

  pub status-reads : Reads d s (status_at d s) (status_on d s)
  unfolding status_at status_on
  status-reads = frame-reads structure d s pair_tags (status_from s) (omega arith) (omega arith)

  pub answer-reads : Reads d s (answer_at d s) (answer_on d s)
  unfolding answer_at answer_on
  answer-reads = frame-reads structure d s pair_tags (answer_from (d - 1) s) (omega arith) (omega arith)

  pub data_reads : Reads d s (data_at d s) (data_on d s)
  unfolding data_at data_on
  data_reads = frame-reads structure d s triple_tags (data_from (d - 1) s) (omega arith) (omega arith)

  pub report-reads : Reads d s (report_at d s) (report_on d s)
  unfolding report_at report_on
  report-reads = frame-reads structure d s pair_tags (report_from (d - 1) s) (omega arith) (omega arith)
