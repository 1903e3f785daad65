-- The blocks of a part as a list: read block by block, each kept in three words.
use mathlib.Core.Path.{◌≡◌, refl}
use mathlib.Core.Bool.{Bool, true, false, ◌&&◌}
use mathlib.Core.List.{List, [], ◌∷◌}
use Prim.Native.Nat.{ℕ}
use lib.ListN.{length}
use lib.Dec.{ltb}
use Rattle.base_bounds.specs.Bounds.{version_limit}
use Rattle.tlv_reader.specs.Octet.{pick, array}
use Rattle.tlv_reader.specs.Walk.{fold_at}
use Rattle.im_members.specs.Array.{each_step}
use Rattle.im_blocks.specs.Data.{ReportOf, shown, refused, report_at}
use Rattle.im_requests.specs.Message.{snoc}
use Rattle.im_responses.specs.Report.{blocks_from, blocks_at}
use Rattle.im_responses.specs.Kept.{concrete_p, data_words, no_words, block_words}

pub blocks-listed : (d : ℕ) (s : List ℕ) (at : ℕ) → blocks_at d s at ≡ fold_at (each_step snoc (report_at d s)) (length s) s array [] at
unfolding blocks_at blocks_from
blocks-listed d s at = refl

pub block-wide : (x : ReportOf ℕ) → length (block_words x) ≡ 3
unfolding data_words
block-wide (refused a) = refl
block-wide (shown x) = go (concrete_p x.path && ltb x.version version_limit) _ _ _
  where
    go : (b : Bool) (k m n : ℕ) → length (pick b (k ∷ m ∷ n ∷ []) no_words) ≡ 3
    go true k m n = refl
    go false k m n = refl
