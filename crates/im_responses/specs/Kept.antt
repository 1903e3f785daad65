-- Report Data with its blocks kept in words that are lent, three for each (RULES 7.7, 7.8).
use Rattle.std.specs.Prelude.{ℕ, ◌+◌, ◌*◌, ◌^◌, List, [], ◌∷◌, Bool, true, false, ◌&&◌, get_or, ltb, Some, None, Option, is_some}
use Rattle.base_bounds.specs.Bounds.{version_limit}
use Rattle.tlv_reader.specs.Octet.{pick}
use Rattle.im_blocks.specs.declared.Path.{Path}
use Rattle.im_blocks.specs.declared.Report.{Report}
use Rattle.im_blocks.specs.declared.Report.TheVariants.{Shown, Refused}
use Rattle.im_blocks.specs.Path.{exact_p}
use Rattle.im_blocks.specs.Data.{ReportOf, report_struct}
use Rattle.im_requests.specs.Message.{Kept, kept_as, kept_none}
use Rattle.im_responses.specs.declared.PartRead.{PartRead}
use Rattle.im_responses.specs.declared.kept.Block.{Block}
use Rattle.im_responses.specs.declared.kept.BlockWords.{BlockWords}
use Rattle.im_responses.specs.Report.{PartOf}

-- a concrete path: every part is there and has its width
unfoldable pub concrete_p : Path → Bool
concrete_p p = exact_p p && (ltb p.endpoint (2 ^ 16) && (ltb p.cluster (2 ^ 32) && ltb p.attribute (2 ^ 32)))

-- A BLOCK IN WORDS, and how many are kept: a payload of 1,024 bytes holds no more, since each takes 10 (proofs/FewLaws)
abbrev pub block_size : ℕ
block_size = 3

abbrev pub max_blocks : ℕ
max_blocks = 102

-- the first word of a block that is of no use: no endpoint and cluster make it
abbrev pub unshown : ℕ
unshown = 2 ^ 48

abbrev pub no_words : List ℕ
no_words = unshown ∷ 0 ∷ 0 ∷ []

-- data by a concrete path with a version (one that is absent is above 32 bits): endpoint and cluster, attribute and version, where it stands
unfoldable pub data_words : Path → ℕ → ℕ → List ℕ
data_words p version place =
    pick (concrete_p p && ltb version version_limit)
    ((p.endpoint * 2 ^ 32 + p.cluster) ∷ (p.attribute * 2 ^ 32 + version) ∷ place ∷ [])
    no_words

-- a status is of no use
abbrev pub report_words : Report → List ℕ
report_words (Refused a) = no_words
report_words (Shown d) = data_words d.path d.version d.place

abbrev pub block_words : ReportOf ℕ → List ℕ
block_words x = report_words (report_struct x)

-- as the code has it
abbrev pub block_struct : ReportOf ℕ → Block
block_struct x = record { report = report_struct x }

abbrev pub word_list : BlockWords → List ℕ
word_list w = w.first ∷ w.second ∷ w.third ∷ []

-- word i of block j
abbrev pub block_word : List ℕ → ℕ → ℕ → ℕ
block_word words j i = get_or words (block_size * j + i) 0

-- A PART: whether it is well-formed, MoreChunkedMessages, and its blocks in the words that are lent
pub record PartKept : Type 0 where
  pub good : Bool
  pub more : ℕ
  pub kept : Kept

-- a part that is refused leaves nothing
abbrev pub part_kept : List ℕ → Option (PartOf ℕ) → PartKept
part_kept words None = record { good = false; more = 0; kept = kept_none (max_blocks * block_size) }
part_kept words (Some p) = record { good = true; more = p.more; kept = kept_as max_blocks block_words words p.blocks }

-- as the code has it
abbrev pub part_counts : Option PartRead → PartRead
part_counts None = record { more = 0; blocks = 0 }
part_counts (Some r) = r

abbrev pub part_with : Option PartRead → List ℕ → PartKept
part_with r words = record { good = is_some r; more = (part_counts r).more; kept = record { count = (part_counts r).blocks; words = words } }

-- whatever stands in the words of one that is refused
abbrev pub part_left : Option PartRead → List ℕ → PartKept
part_left r words = pick (is_some r) (part_with r words) (part_kept [] None)
