-- The blocks that we write: they are ours to write, and mean what was meant.
use Rattle.std.specs.Prelude.{Some}
use mathlib.Core.Path.{◌≡◌, refl}
use Prim.Native.Nat.{ℕ, ◌^◌, ◌<◌}
use native.Mathlib.Omega.{arith}
use borrow.Author.Tests.{le-ltb, lt-ltb, ne_eqb}
use Rattle.tlv_reader.specs.Octet.{structure}
use Rattle.tlv_reader.specs.Tree.{Tag, depth, stands}
use Rattle.tlv_reader.specs.Tree.Tag.{context}
use Rattle.tlv_reader.specs.Tree.Tree.{container}
use Rattle.tlv_reader.specs.Tree.Trees.{more}
use Rattle.tlv_reader.specs.Value.{Datum}
use Rattle.tlv_reader.specs.Decode.{fold_t}
use Rattle.tlv_writer.specs.Meaning.{Writable}
use Rattle.im_members.specs.Fields.{place_of, put_t, field_m, fields_t, inside_t}
use Rattle.im_members.specs.Scalar.{ABSENT, WRONG, number_t, flag_t, wide_t}
use Rattle.im_members.specs.Array.{required_t}
use Rattle.im_blocks.specs.Path.{sound_path, path_of, path_t}
use Rattle.im_blocks.specs.Status.{sound_status, status_of, status_t, answer_of, answer_t}
use Rattle.im_blocks.specs.Data.{shown, refused, data_of, data_t, report_of, report_t}
use Rattle.im_writer.specs.Spelling.{primitive_d, OurTag, Ours, OursAll}
use Rattle.im_writer.specs.Block.{number, path_tree, data_members, data_block_tree, status_tree, answer_members, answer_tree, status_block_tree, Block, value, status, block_tree}
use Rattle.im_writer.specs.Message.{ListedTree}
use Rattle.im_writer.specs.Meaning.{exact_path, plain_status, plain_answer, exact_data, Fits, block_means}

-- statuses, whatever they are of
module _ (code : ℕ) (fits : code < 2 ^ 8) where
  ours-status : (tag : ℕ) → tag < 256 → Ours (status_tree tag code)
  unfolding Ours OurTag Writable status_tree stands
  ours-status tag h = (h, (omega arith, (omega arith, (refl, ((omega arith, omega arith), tt)))))

  pub status-means : (tag : ℕ) → status_t (status_tree tag code) ≡ Some (plain_status code)
  unfolding status_t status_of sound_status inside_t fields_t fold_t field_m put_t place_of number_t status_tree
  status-means tag = rw (le-ltb 255 code (omega arith), lt-ltb code ABSENT (omega arith)) refl

module _ (e c a : ℕ) (fe : e < 2 ^ 16) (fc : c < 2 ^ 32) (fa : a < 2 ^ 32) where
  ours-path : (tag : ℕ) → tag < 256 → Ours (path_tree tag e c a)
  unfolding Ours OurTag Writable path_tree stands
  ours-path tag h =
      (h, (omega arith, (omega arith, (refl, ((omega arith, omega arith), (refl, ((omega arith, omega arith), (refl, ((omega arith, omega arith), tt)))))))))

  pub path-means : (tag : ℕ) → path_t (path_tree tag e c a) ≡ Some (exact_path e c a)
  unfolding path_t path_of sound_path inside_t fields_t fold_t field_m put_t place_of number_t flag_t wide_t path_tree
  path-means tag =
      rw (le-ltb 65535 e (omega arith), le-ltb 4294967295 c (omega arith), le-ltb 4294967295 a (omega arith), ne_eqb e WRONG (λ q. omega arith), ne_eqb c WRONG (λ q. omega arith), ne_eqb a WRONG (λ q. omega arith))
      refl

  -- path and status
  module _ (code : ℕ) (fits : code < 2 ^ 8) where
    ours_answer : OursAll structure (answer_members e c a code)
    unfolding Ours answer_members stands path_tree status_tree
    ours_answer = (refl, (ours-path 0 (omega arith), (refl, (ours-status code fits 1 (omega arith), tt))))

    pub answer-means : (tag : Tag) → answer_t (container tag structure (answer_members e c a code)) ≡ Some (plain_answer e c a code)
    unfolding answer_t answer_of inside_t fields_t fold_t field_m put_t place_of required_t answer_members path_tree status_tree
    answer-means tag = rw (path-means 0, status-means code fits 1) refl

    pub listed-write-status : ListedTree (answer_tree e c a code)
    unfolding Ours OurTag answer_tree stands depth answer_members path_tree status_tree
    listed-write-status = record { ours = (tt, (omega arith, (omega arith, ours_answer))); untagged = refl; shallow = omega arith }

    pub listed-status-block : ListedTree (status_block_tree e c a code)
    unfolding Ours OurTag status_block_tree stands depth answer_members path_tree status_tree
    listed-status-block = record {
      ours = (tt, (omega arith, (omega arith, (refl, ((omega arith, (omega arith, (omega arith, ours_answer))), tt)))));
      untagged = refl;
      shallow = omega arith;
    }

    pub status-block-means : report_t (status_block_tree e c a code) ≡ Some (refused (plain_answer e c a code))
    unfolding report_t report_of inside_t fields_t fold_t field_m put_t place_of status_block_tree
    status-block-means = rw (answer-means (context 0)) refl

  -- path and data
  module _ (d : Datum) where
    pub ours-data : Writable (primitive_d d) → OursAll structure (data_members e c a d)
    unfolding Ours OurTag data_members stands path_tree
    ours-data w = (refl, (ours-path 1 (omega arith), (refl, ((omega arith, w), tt))))

    pub data-means : (tag : Tag) → data_t (container tag structure (data_members e c a d)) ≡ Some (exact_data ABSENT e c a d)
    unfolding data_t data_of inside_t fields_t fold_t field_m put_t place_of required_t number_t data_members path_tree
    data-means tag = rw (path-means 1) refl

    module _ (version : ℕ) (fits : version < 2 ^ 32) where
      pub ours-versioned : Writable (primitive_d d) → OursAll structure (more (number 0 version) (data_members e c a d))
      unfolding Ours OurTag Writable stands
      ours-versioned w = (refl, ((omega arith, omega arith), ours-data w))

      pub versioned-means : (tag : Tag) → data_t (container tag structure (more (number 0 version) (data_members e c a d))) ≡ Some (exact_data version e c a d)
      unfolding data_t data_of inside_t fields_t fold_t field_m put_t place_of required_t number_t data_members path_tree
      versioned-means tag =
          rw (path-means 1, le-ltb 4294967295 version (omega arith), ne_eqb version WRONG (λ q. omega arith)) refl

      pub listed-data-block : Writable (primitive_d d) → ListedTree (data_block_tree version e c a d)
      unfolding Ours OurTag data_block_tree stands depth data_members path_tree
      listed-data-block w = record {
        ours = (tt, (omega arith, (omega arith, (refl, ((omega arith, (omega arith, (omega arith, ours-versioned w))), tt)))));
        untagged = refl;
        shallow = omega arith;
      }

      pub data-block-means : report_t (data_block_tree version e c a d) ≡ Some (shown (exact_data version e c a d))
      unfolding report_t report_of inside_t fields_t fold_t field_m put_t place_of data_block_tree
      data-block-means = rw (versioned-means (context 1)) refl

-- a block, whichever it is
pub listed-block : (b : Block) → Fits b → ListedTree (block_tree b)
unfolding block_tree Fits
listed-block (value version e c a d) (fv, (p, w)) = listed-data-block e c a p.endpoint-fits p.cluster-fits p.attribute-fits d version fv w
listed-block (status e c a code) (p, fits) = listed-status-block e c a p.endpoint-fits p.cluster-fits p.attribute-fits code fits

pub block-means : (b : Block) → Fits b → report_t (block_tree b) ≡ Some (block_means b)
unfolding block_tree Fits block_means
block-means (value version e c a d) (fv, (p, w)) = data-block-means e c a p.endpoint-fits p.cluster-fits p.attribute-fits d version fv
block-means (status e c a code) (p, fits) = status-block-means e c a p.endpoint-fits p.cluster-fits p.attribute-fits code fits
