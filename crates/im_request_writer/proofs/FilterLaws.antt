-- Paths, filters and entries of requests: they are ours to write, and mean what was meant; and how long a filter is.
use Rattle.std.specs.Prelude.{Some}
use mathlib.Core.Path.{◌≡◌, refl}
use mathlib.Core.Bool.{Bool, true, false}
use Prim.Native.Nat.{ℕ, ◌+◌, ◌^◌, ◌<◌, ◌≤◌}
use native.Mathlib.Omega.{arith}
use borrow.Author.Tests.{le-ltb, lt-ltb}
use lib.ListN.{length, length-append}
use Rattle.tlv_reader.specs.Octet.{pick, number_width}
use Rattle.tlv_reader.specs.Tree.{depth, stands}
use Rattle.tlv_reader.specs.Value.{Datum}
use Rattle.tlv_reader.specs.Decode.{fold_t}
use Rattle.tlv_reader.specs.Tree.Tag.{anonymous}
use Rattle.tlv_writer.specs.Width.{least_width}
use Rattle.tlv_writer.specs.Element.{datum_octets}
use Rattle.tlv_writer.specs.Meaning.{Writable}
use Rattle.im_members.specs.Fields.{place_of, put_t, field_m, fields_t, inside_t}
use Rattle.im_members.specs.Scalar.{ABSENT, number_t, flag_t, wide_t}
use Rattle.im_members.specs.Array.{required_t}
use Rattle.im_blocks.specs.Path.{sound_path, path_of, path_t}
use Rattle.im_blocks.specs.Filter.{sound_cluster, cluster_of, cluster_t, filter_slots, filter_t}
use Rattle.im_blocks.specs.Data.{data_t}
use Rattle.im_writer.specs.Spelling.{writer_tag, spelling, OurTag, Ours}
use Rattle.im_writer.specs.Message.{ListedTree}
use Rattle.im_writer.specs.Meaning.{exact_data}
use Rattle.im_writer.proofs.LengthLaws.{anonymous-open, context-open, context-unsigned, width16, width32}
use Rattle.im_writer.proofs.BlockLaws.{data-means, versioned-means}
use Rattle.im_request_writer.specs.Request.{wildcard_tree, cluster_tree, filter_tree, versioned, entry_tree}
use Rattle.im_request_writer.specs.Meaning.{any_path, exact_cluster, exact_filter}

pub wildcard-means : path_t wildcard_tree ≡ Some any_path
unfolding path_t path_of sound_path inside_t fields_t fold_t number_t flag_t wide_t wildcard_tree
wildcard-means = refl

module _ (e c version : ℕ) (fe : e < 2 ^ 16) (fc : c < 2 ^ 32) (fv : version < 2 ^ 32) where
  pub cluster-means : cluster_t (cluster_tree e c) ≡ Some (exact_cluster e c)
  unfolding cluster_t cluster_of sound_cluster inside_t fields_t fold_t field_m put_t place_of number_t wide_t cluster_tree
  cluster-means =
      rw (le-ltb 65535 e (omega arith), le-ltb 4294967295 c (omega arith), lt-ltb e ABSENT (omega arith), lt-ltb c ABSENT (omega arith))
      refl

  pub filter-means : filter_t (filter_tree e c version) ≡ Some (exact_filter e c version)
  unfolding filter_t filter_slots inside_t fields_t fold_t field_m put_t place_of required_t number_t filter_tree cluster_tree
  filter-means = rw (cluster-means, le-ltb 4294967295 version (omega arith), lt-ltb version ABSENT (omega arith)) refl

  ours-cluster : Ours (cluster_tree e c)
  unfolding Ours OurTag Writable cluster_tree stands
  ours-cluster =
      (omega arith, (omega arith, (omega arith, (refl, ((omega arith, omega arith), (refl, ((omega arith, omega arith), tt)))))))

  pub listed-filter : ListedTree (filter_tree e c version)
  unfolding Ours OurTag Writable filter_tree cluster_tree stands depth
  listed-filter = record {
    ours = (tt, (omega arith, (omega arith, (refl, (ours-cluster, (refl, ((omega arith, omega arith), tt)))))));
    untagged = refl;
    shallow = omega arith;
  }

  pub length-filter : length (spelling (filter_tree e c version)) ≡ 11 + least_width e + least_width c + least_width version
  unfolding spelling writer_tag datum_octets filter_tree cluster_tree number_width
  length-filter = simp (length-append, anonymous-open 21 refl, context-open 0 23 refl, context-unsigned) (omega arith)

  pub filter-bound : length (spelling (filter_tree e c version)) ≤ 21
  filter-bound = omega (arith, length-filter, width16 e fe, width32 c fc, width32 version fv)

-- an entry of a write, with or without a version
module _ (e c a : ℕ) (fe : e < 2 ^ 16) (fc : c < 2 ^ 32) (fa : a < 2 ^ 32) (d : Datum) (version : ℕ) (fv : version < 2 ^ 32) where
  pub entry-means : (given : Bool) → data_t (entry_tree given version e c a d) ≡ Some (exact_data (pick given version ABSENT) e c a d)
  unfolding entry_tree versioned
  entry-means true = versioned-means e c a fe fc fa d version fv anonymous
  entry-means false = data-means e c a fe fc fa d anonymous
