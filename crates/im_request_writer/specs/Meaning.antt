-- What the requests' blocks are meant to say, in terms of the readers of blocks.
use Rattle.std.specs.Prelude.{ℕ}
use Rattle.im_members.specs.Scalar.{ABSENT}
use Rattle.im_blocks.specs.declared.Path.{Path}
use Rattle.im_blocks.specs.declared.ClusterPath.{ClusterPath}
use Rattle.im_blocks.specs.declared.Filter.{Filter}

-- no part of a path
abbrev pub any_path : Path
any_path =
    record { compress = ABSENT; node = ABSENT; endpoint = ABSENT; cluster = ABSENT; attribute = ABSENT; index = ABSENT }

abbrev pub exact_cluster : ℕ → ℕ → ClusterPath
exact_cluster endpoint cluster = record { node = ABSENT; endpoint = endpoint; cluster = cluster }

abbrev pub exact_filter : ℕ → ℕ → ℕ → Filter
exact_filter endpoint cluster version = record { path = exact_cluster endpoint cluster; version = version }
