-- What the blocks that we write are meant to say, in terms of the readers of blocks.
use Rattle.std.specs.Prelude.{ℕ, ◌^◌, ◌<◌}
use Rattle.base_bounds.specs.Bounds.{version_limit}
use Rattle.tlv_reader.specs.Tree.{Tree}
use Rattle.tlv_reader.specs.Tree.Tag.{context}
use Rattle.tlv_reader.specs.Tree.Tree.{primitive}
use Rattle.tlv_reader.specs.Value.{Datum}
use Rattle.tlv_writer.specs.Meaning.{Writable}
use Rattle.im_members.specs.Scalar.{ABSENT}
use Rattle.im_blocks.specs.declared.Path.{Path}
use Rattle.im_blocks.specs.declared.Status.{Status}
use Rattle.im_blocks.specs.declared.Answer.{Answer}
use Rattle.im_blocks.specs.Data.{DataOf, ReportOf, shown, refused}
use Rattle.im_writer.specs.Spelling.{primitive_d}
use Rattle.im_writer.specs.Block.{Block, value, status}

-- the path of one attribute, and nothing else
abbrev pub exact_path : ℕ → ℕ → ℕ → Path
exact_path endpoint cluster attribute =
    record { compress = ABSENT; node = ABSENT; endpoint = endpoint; cluster = cluster; attribute = attribute; index = ABSENT }

-- a status with no cluster's own
abbrev pub plain_status : ℕ → Status
plain_status code = record { code = code; cluster = ABSENT }

abbrev pub plain_answer : ℕ → ℕ → ℕ → ℕ → Answer
plain_answer endpoint cluster attribute code =
    record { path = exact_path endpoint cluster attribute; status = plain_status code }

-- an attribute's value; the version may be ABSENT
abbrev pub exact_data : ℕ → ℕ → ℕ → ℕ → Datum → DataOf Tree
exact_data version endpoint cluster attribute d =
    record { version = version; path = exact_path endpoint cluster attribute; element = primitive (context 2) (primitive_d d) }

-- numbers that have the widths of RULES 2.4
pub record PathFits (endpoint cluster attribute : ℕ) : Type 0 where
  pub endpoint-fits : endpoint < 2 ^ 16
  pub cluster-fits : cluster < 2 ^ 32
  pub attribute-fits : attribute < 2 ^ 32

-- a block that can be written: its numbers have their widths, and its value is one that we write
unfoldable pub Fits : Block → Type 0
Fits (value version endpoint cluster attribute d) = (version < version_limit) × (PathFits endpoint cluster attribute × Writable (primitive_d d))
Fits (status endpoint cluster attribute code) = PathFits endpoint cluster attribute × (code < 2 ^ 8)

unfoldable pub block_means : Block → ReportOf Tree
block_means (value version endpoint cluster attribute d) = shown (exact_data version endpoint cluster attribute d)
block_means (status endpoint cluster attribute code) = refused (plain_answer endpoint cluster attribute code)
