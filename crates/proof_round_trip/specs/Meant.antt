-- Of each message: what it is written of, its octets as they are written, and what the reader at the other end is to make of them.
use Rattle.std.specs.Prelude.{ℕ, ◌^◌, ◌<◌, Bool, true, List, [], ◌∷◌, map, length, Some, Option}
use Rattle.base_bounds.specs.Bounds.{version_limit}
use Rattle.tlv_reader.specs.Octet.{pick}
use Rattle.tlv_reader.specs.Tree.{Tree}
use Rattle.tlv_reader.specs.Tree.Tag.{context}
use Rattle.tlv_reader.specs.Tree.Tree.{primitive}
use Rattle.tlv_reader.specs.Value.{Datum}
use Rattle.im_members.specs.Scalar.{ABSENT}
use Rattle.im_blocks.specs.declared.Answer.{Answer}
use Rattle.im_requests.specs.declared.Target.{Target}
use Rattle.im_requests.specs.declared.VersionFilter.{VersionFilter}
use Rattle.im_requests.specs.Read.{ReadRequest}
use Rattle.im_requests.specs.Read.{Read, paths_struct, version_filters_struct}
use Rattle.im_requests.specs.Write.{WriteRequest}
use Rattle.im_requests.specs.Write.{WriteOf, entries_struct}
use Rattle.im_responses.specs.declared.PartRead.{PartRead}
use Rattle.im_responses.specs.Report.{PartOf}
use Rattle.im_writer.specs.Spelling.{primitive_d, spelling}
use Rattle.im_writer.specs.Block.{Block, block_tree, answer_tree}
use Rattle.im_writer.specs.Message.{message_tree, status_members, report_members, response_members}
use Rattle.im_writer.specs.Meaning.{plain_answer, PathFits, block_means}
use Rattle.im_request_writer.specs.Request.{filter_tree, read_members, entry_tree, write_members}

-- STATUS RESPONSE: a code, which is what is read
abbrev pub status_octets : ℕ → List ℕ
status_octets code = spelling (message_tree (status_members code))

-- READ REQUEST: filters
pub record VersionFilterFits (f : VersionFilter) : Type 0 where
  pub endpoint-fits : f.endpoint < 2 ^ 16
  pub cluster-fits : f.cluster < 2 ^ 32
  pub version-fits : f.version < version_limit

abbrev pub version_filter_tree : VersionFilter → Tree
version_filter_tree f = filter_tree f.endpoint f.cluster f.version

abbrev pub read_octets : List VersionFilter → List ℕ
read_octets fs = spelling (message_tree (read_members (map version_filter_tree fs)))

-- every attribute of the node is asked for, and the filters are as they were given
abbrev pub everything : Target
everything = record { endpoint = ABSENT; cluster = ABSENT; attribute = ABSENT }

abbrev pub read_means : List VersionFilter → Read
read_means fs = record { paths = everything ∷ []; filters = fs }

-- WRITE REQUEST: one entry, its version given or not
abbrev pub write_octets : Bool → ℕ → ℕ → ℕ → ℕ → Datum → List ℕ
write_octets given version endpoint cluster attribute d =
    spelling (message_tree (write_members (entry_tree given version endpoint cluster attribute d)))

abbrev pub write_means : Bool → ℕ → ℕ → ℕ → ℕ → Datum → WriteOf Tree
write_means given version endpoint cluster attribute d = record {
  suppress = 0;
  timed = 0;
  entries = record {
    version = pick given version ABSENT;
    endpoint = endpoint;
    cluster = cluster;
    attribute = attribute;
    element = primitive (context 2) (primitive_d d);
  } ∷ [];
}

-- REPORT: blocks, and whether more is promised
abbrev pub report_octets : List Block → Bool → List ℕ
report_octets l more-follow = spelling (message_tree (report_members (map block_tree l) more-follow))

abbrev pub report_means : List Block → Bool → PartOf Tree
report_means l more-follow = record { more = pick more-follow 1 ABSENT; blocks = map block_means l }

-- WRITE RESPONSE: the status that each written attribute gets
pub record WriteStatus : Type 0 where
  pub endpoint : ℕ
  pub cluster : ℕ
  pub attribute : ℕ
  pub code : ℕ

pub record OutcomeFits (o : WriteStatus) : Type 0 where
  pub path-fits : PathFits o.endpoint o.cluster o.attribute
  pub code_fits : o.code < 2 ^ 8

abbrev pub outcome_tree : WriteStatus → Tree
outcome_tree o = answer_tree o.endpoint o.cluster o.attribute o.code

abbrev pub outcomes_octets : List WriteStatus → List ℕ
outcomes_octets l = spelling (message_tree (response_members (map outcome_tree l)))

abbrev pub outcome_means : WriteStatus → Answer
outcome_means o = plain_answer o.endpoint o.cluster o.attribute o.code

-- WHAT THE READERS ANSWER: a read with no ground to refuse it
abbrev pub read_answer : List VersionFilter → ReadRequest
read_answer fs = record { good = true; paths = paths_struct (everything ∷ []); filters = version_filters_struct fs }

-- a write of one entry whose data stands at a place
abbrev pub write_answer : Bool → ℕ → ℕ → ℕ → ℕ → ℕ → WriteRequest
write_answer given version endpoint cluster attribute place = record {
  good = true;
  suppress = 0;
  timed = 0;
  entries = entries_struct (record { version = pick given version ABSENT; endpoint = endpoint; cluster = cluster; attribute = attribute; element = place } ∷ []);
}

-- a part whose first block stands at a place
abbrev pub part_answer : List Block → Bool → Option PartRead
part_answer l more-follow = Some (record { more = pick more-follow 1 ABSENT; blocks = length l })
