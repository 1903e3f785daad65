-- The requests that the cache writes (RULES 7.2 to 7.5; chapter 10, 10.6): as trees, and the octets around the filters
-- that are written one by one.
use Rattle.std.specs.Prelude.{ℕ, Bool, true, false, List, [], ◌∷◌, ◌++◌}
use Rattle.tlv_reader.specs.Octet.{structure, array, list}
use Rattle.tlv_reader.specs.Tree.{Tree, Trees}
use Rattle.tlv_reader.specs.Tree.Tag.{anonymous, context}
use Rattle.tlv_reader.specs.Tree.Tree.{container}
use Rattle.tlv_reader.specs.Tree.Trees.{none, more}
use Rattle.tlv_reader.specs.Value.{Datum}
use Rattle.tlv_writer.specs.declared.Tag.TheVariants.{Anonymous, Context}
use Rattle.tlv_writer.specs.Element.{unsigned_octets, open_octets, end_octets}
use Rattle.im_writer.specs.Spelling.{spelling, spellings, members}
use Rattle.im_writer.specs.Block.{number, flag, data_members}
use Rattle.im_writer.specs.Message.{revision}

-- the full wildcard path: an AttributePathIB (10.5.2) with no part
unfoldable pub wildcard_tree : Tree
wildcard_tree = container anonymous list none

-- ClusterPathIB (10.5.7) of a filter
unfoldable pub cluster_tree : ℕ → ℕ → Tree
cluster_tree endpoint cluster = container (context 0) list (more (number 1 endpoint) (more (number 2 cluster) none))

-- DataVersionFilterIB (10.5.3)
unfoldable pub filter_tree : ℕ → ℕ → ℕ → Tree
filter_tree endpoint cluster version =
    container anonymous structure (more (cluster_tree endpoint cluster) (more (number 1 version) none))

-- AttributeRequests of a read: the one wildcard path
unfoldable pub paths_tree : Tree
paths_tree = container (context 0) array (more wildcard_tree none)

-- DataVersionFilters, absent if there is none, and then the revision
unfoldable pub filter_members : List Tree → Trees
filter_members [] = revision
filter_members (t ∷ l) = more (container (context 4) array (members (t ∷ l))) revision

-- ReadRequestMessage (10.6.2): paths, FabricFiltered false, filters
unfoldable pub read_members : List Tree → Trees
read_members l = more paths_tree (more (flag 3 false) (filter_members l))

-- a read request's octets before its filters; the opening of the filters, if there are any; and what follows
unfoldable pub read_opening : List ℕ
read_opening = open_octets Anonymous structure ++ (spelling paths_tree ++ spelling (flag 3 false))

unfoldable pub filters_opening : List ℕ
filters_opening = open_octets (Context 4) array

unfoldable pub read_closing : Bool → List ℕ
read_closing true = end_octets ++ spellings revision
read_closing false = spellings revision

-- AttributeDataIB (10.5.4): the version may be absent
unfoldable pub versioned : Bool → ℕ → Trees → Trees
versioned true version ts = more (number 0 version) ts
versioned false version ts = ts

unfoldable pub version_octets : Bool → ℕ → List ℕ
version_octets true version = unsigned_octets (Context 0) version
version_octets false version = []

unfoldable pub entry_tree : Bool → ℕ → ℕ → ℕ → ℕ → Datum → Tree
entry_tree given version endpoint cluster attribute d =
    container anonymous structure (versioned given version (data_members endpoint cluster attribute d))

-- WriteRequestMessage (10.6.6): SuppressResponse and TimedRequest false, one entry
unfoldable pub write_members : Tree → Trees
write_members entry =
    more (flag 0 false) (more (flag 1 false) (more (container (context 2) array (more entry none)) revision))

-- a write request's octets before the members of its entry
unfoldable pub write_opening : List ℕ
write_opening =
    open_octets Anonymous structure ++ (spelling (flag 0 false) ++ (spelling (flag 1 false) ++ (open_octets (Context 2) array ++ open_octets Anonymous structure)))
