-- Blocks leave a cache primed or not as it was, and priming it changes no entry.
use Rattle.std.specs.Prelude.{Some, None, Option, Ok, Err}
use mathlib.Core.Path.{◌≡◌, refl, sym, ◌∙◌}
use mathlib.Core.List.{List, [], ◌∷◌}
use Prim.Native.Nat.{ℕ}
use Rattle.tlv_reader.specs.Value.{Datum}
use Rattle.im_blocks.specs.Data.{ReportOf}
use Rattle.node_schema.proofs.BoolLaws.{right}
use Rattle.cache_entries.specs.declared.Cached.{Cached}
use Rattle.cache_entries.specs.Entries as cached
use Rattle.cache_entries.specs.Entries.{lookup}
use Rattle.cache_entries.specs.Set.{with_cluster, with_entry}
use Rattle.cache_report.specs.Block.{Judgement}
use Rattle.cache_report.specs.declared.block.Unfit.TheVariants.{Long, Unusable}
use Rattle.cache_report.specs.Entry.{position_of, with_item, held_at, held_for}
use Rattle.cache_report.specs.Part.{judgement_in, held_all}
use Rattle.cache_receive.specs.Receive.{primed_as}
use Rattle.cache_receive.specs.Receive
use Rattle.proof_trip.proofs.ReceivedLaws
use Rattle.proof_protocol.specs.Model.{Entry}
use Rattle.proof_refinement.specs.Cache.{HeldAs}

-- BLOCKS
primed-one : (c : Cached) (f : Judgement) → (held_for c f).primed ≡ c.primed
unfolding held_for with_item with_entry with_cluster
primed-one c (Err Unusable) = refl
primed-one c (Err Long) = refl
primed-one c (Ok x) = go (position_of c x)
  where
    go : (p : (Option (ℕ × ℕ))) → (held_at c x p).primed ≡ c.primed
    go (Some (k, i)) = refl
    go None = refl

pub primed-all : (s : List ℕ) (c : Cached) (l : List (ReportOf ℕ)) → (held_all s c l).primed ≡ c.primed
unfolding held_all
primed-all s c [] = refl
primed-all s c (r ∷ l) = primed-all s (held_for c (judgement_in s r)) l ∙ primed-one c (judgement_in s r)

-- PRIMING
primed-lookup : (page : List ℕ) (c : Cached) (e cl a : ℕ) → lookup c page e cl a ≡ lookup (primed_as c) page e cl a
unfolding primed_as lookup cached.path_at
primed-lookup page c e cl a = go (cached.cluster_at c (cached.cluster_word e cl))
  where
    there : (f : (Option ℕ)) → cached.at_entry c page f ≡ cached.at_entry (primed_as c) page f
    there (Some i) = refl
    there None = refl

    go : (f : (Option ℕ)) → cached.at_entry c page (cached.in_cluster c a f) ≡ cached.at_entry (primed_as c) page (cached.in_cluster (primed_as c) a f)
    go (Some k) = there (cached.entry_at c (cached.key_word k a))
    go None = refl

pub primed-held : (w page : List ℕ) (c : Cached) (entries : List (Entry Datum)) → HeldAs w page c entries → HeldAs w page (primed_as c) entries
unfolding primed_as
primed-held w page c entries h = record {
  clusters-once = h.clusters-once;
  keys-once = h.keys-once;
  cluster-rows = h.cluster-rows;
  right = h.right;
  has = λ d m. sym (primed-lookup page c _ _ _) ∙ h.has d m;
  only = λ e cl a fe fl fa x q. h.only e cl a fe fl fa x (primed-lookup page c e cl a ∙ q);
}
