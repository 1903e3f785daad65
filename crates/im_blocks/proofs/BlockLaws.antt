-- THE LAWS of paths, filters and statuses: what is read in the bytes is the meaning of the tree that they spell; and, for the code,
-- what the readers' answers say.
use Rattle.std.specs.Prelude.{None}
use mathlib.Core.Path.{◌≡◌, refl, ap}
use mathlib.Core.Bool.{true, false}
use mathlib.Core.List.{List, map}
use Prim.Native.Nat.{ℕ, ◌-◌}
use native.Mathlib.Omega.{arith}
use Rattle.tlv_reader.specs.Octet.{structure, list, end_of_container}
use Rattle.tlv_reader.specs.Tree.Tag.{anonymous}
use Rattle.tlv_reader.specs.Tree.Tree.{container}
use Rattle.tlv_reader.specs.Tree.Trees.{none}
use Rattle.tlv_reader.specs.Walk.{bind_g}
use Rattle.tlv_reader.specs.Decode.{place, tree_at}
use Rattle.im_members.specs.Fields.{slot_in, inside_t}
use Rattle.im_members.proofs.MeaningLaws.{schema-law}
use Rattle.im_members.proofs.ArrayLaws.{number-here, flag-here, wide-here, required-here}
use Rattle.im_blocks.specs.Path.{checked, sound_path, path_tags, path_from, path_at, path_of, path_t}
use Rattle.im_blocks.specs.Filter.{sound_cluster, cluster_tags, cluster_from, cluster_at, cluster_of, cluster_t, pair_tags, filter_from, filter_at, filter_slots, filter_t}
use Rattle.im_blocks.specs.Status.{sound_status, status_from, status_at, status_of, status_t, answer_from, answer_at, answer_of, answer_t}

-- ---- the laws

module _ (d : ℕ) (s : List ℕ) (xs : List ℕ) where
  path-from : path_from s xs ≡ path_of (map (slot_in d s) xs)
  unfolding path_from path_of
  path-from = ap (checked sound_path) (λ j. record {
    compress = flag-here d s xs 0 j;
    node = wide-here d s xs 1 j;
    endpoint = number-here d s xs 65535 false 2 j;
    cluster = number-here d s xs 4294967295 false 3 j;
    attribute = number-here d s xs 4294967295 false 4 j;
    index = number-here d s xs 65535 true 5 j;
  })

  cluster-from : cluster_from s xs ≡ cluster_of (map (slot_in d s) xs)
  unfolding cluster_from cluster_of
  cluster-from = ap (checked sound_cluster) (λ j. record {
    node = wide-here d s xs 0 j;
    endpoint = number-here d s xs 65535 false 1 j;
    cluster = number-here d s xs 4294967295 false 2 j;
  })

  status-from : status_from s xs ≡ status_of (map (slot_in d s) xs)
  unfolding status_from status_of
  status-from = ap (checked sound_status) (λ j. record { code = number-here d s xs 255 false 0 j; cluster = number-here d s xs 255 false 1 j })

pub path-law : (d : ℕ) (s : List ℕ) (at : ℕ) → path_at d s at ≡ bind_g (tree_at d s at) (λ t n. place (path_t t) n)
unfolding path_at path_t
path-law d s at = schema-law list (omega arith) (omega arith) path_tags d s (path_from s) path_of (path-from (d - 1) s) at

pub cluster-law : (d : ℕ) (s : List ℕ) (at : ℕ) → cluster_at d s at ≡ bind_g (tree_at d s at) (λ t n. place (cluster_t t) n)
unfolding cluster_at cluster_t
cluster-law d s at = schema-law list (omega arith) (omega arith) cluster_tags d s (cluster_from s) cluster_of (cluster-from (d - 1) s) at

pub status-law : (d : ℕ) (s : List ℕ) (at : ℕ) → status_at d s at ≡ bind_g (tree_at d s at) (λ t n. place (status_t t) n)
unfolding status_at status_t
status-law d s at = schema-law structure (omega arith) (omega arith) pair_tags d s (status_from s) status_of (status-from (d - 1) s) at

-- no schema takes the tree that stands for none
pub no-path : path_t (container anonymous end_of_container none) ≡ None
unfolding path_t inside_t
no-path = refl

pub no-cluster : cluster_t (container anonymous end_of_container none) ≡ None
unfolding cluster_t inside_t
no-cluster = refl

pub no-status : status_t (container anonymous end_of_container none) ≡ None
unfolding status_t inside_t
no-status = refl

pub filter-law : (d : ℕ) (s : List ℕ) (at : ℕ) → filter_at d s at ≡ bind_g (tree_at d s at) (λ t n. place (filter_t t) n)
unfolding filter_at filter_t filter_from filter_slots
filter-law d s at = schema-law structure (omega arith) (omega arith) pair_tags d s (filter_from (d - 1) s) filter_slots
    (λ xs. rw (required-here (d - 1) s (cluster_at (d - 1) s) cluster_t (cluster-law (d - 1) s) no-cluster xs 0, number-here (d - 1) s xs 4294967295 false 1) refl) at

pub answer-law : (d : ℕ) (s : List ℕ) (at : ℕ) → answer_at d s at ≡ bind_g (tree_at d s at) (λ t n. place (answer_t t) n)
unfolding answer_at answer_t answer_from answer_of
answer-law d s at = schema-law structure (omega arith) (omega arith) pair_tags d s (answer_from (d - 1) s) answer_of
    (λ xs. rw (required-here (d - 1) s (path_at (d - 1) s) path_t (path-law (d - 1) s) no-path xs 0, required-here (d - 1) s (status_at (d - 1) s) status_t (status-law (d - 1) s) no-status xs 1) refl) at

pub no_answer : answer_t (container anonymous end_of_container none) ≡ None
unfolding answer_t inside_t
no_answer = refl

-- ---- what an answer says of what was found

pub never : {A : Type 0} → ◌≡◌ {A = ℕ} 0 1 → A
never e = absurd (omega arith)
