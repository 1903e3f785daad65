-- Where an item goes, and what becomes of its value: a text, which lies in the page, or another.
use Rattle.std.specs.Prelude.{Some, None, Option}
use Rattle.std.proofs.lemmas.Option.{some_pair_parts}
use mathlib.Core.Path.{◌≡◌, refl, sym, ap, ◌∙◌}
use mathlib.Core.Bool.{false}
use mathlib.Core.List.{List}
use Prim.Native.Nat.{ℕ, ◌≤◌, ◌<◌}
use native.Mathlib.Omega.{arith}
use lib.Dec.{eqb}
use Rattle.tlv_reader.specs.declared.Value.{Value}
use Rattle.tlv_reader.specs.declared.Value.TheVariants as value
use Rattle.cache_entries.specs.declared.Cached.{Cached}
use Rattle.cache_entries.specs.Limits.{max_entries, max_clusters, text_kind}
use Rattle.cache_entries.specs.Entries.{cluster_word, key_word}
use Rattle.cache_entries.specs.Set.{cluster_place, entry_place}
use Rattle.cache_entries.proofs.SetLaws.{placed_below}
use Rattle.cache_report.specs.declared.block.NewEntry.{NewEntry}
use Rattle.cache_report.specs.Entry.{at_entry, entry_position, at_cluster, position_of, kind_v, text_stored}

never : {A : Type 0} → ◌≡◌ {A = ℕ} 0 1 → A
never e = absurd (omega arith)

-- the places that an item goes to
pub record Goes (c : Cached) (x : NewEntry) (k i : ℕ) : Type 0 where
  pub cluster : cluster_place c (cluster_word x.endpoint x.cluster) ≡ Some k
  pub entry : entry_place c (key_word k x.attribute) ≡ Some i

pub position-goes : (c : Cached) (x : NewEntry) (k i : ℕ) → position_of c x ≡ Some (k, i) → Goes c x k i
unfolding position_of entry_position
position-goes c x k i e = go (cluster_place c (cluster_word x.endpoint x.cluster)) refl e
  where
    entry : (m : ℕ) (p : (Option ℕ)) → cluster_place c (cluster_word x.endpoint x.cluster) ≡ Some m → entry_place c (key_word m x.attribute) ≡ p → at_entry m p ≡ Some (k, i) → Goes c x k i
    entry m (Some j) a b q =
        let (km, ji) = some_pair_parts m k j i q in
        record { cluster = a ∙ ap Some km; entry = ap (λ (n : ℕ). entry_place c (key_word n x.attribute)) (sym km) ∙ b ∙ ap Some ji }
    entry m None a b q = never (cc)

    go : (p : (Option ℕ)) → cluster_place c (cluster_word x.endpoint x.cluster) ≡ p → at_cluster c x.attribute p ≡ Some (k, i) → Goes c x k i
    go (Some m) a q = entry m (entry_place c (key_word m x.attribute)) a refl q
    go None a q = never (cc)

-- they are within the limits
pub record Below (k i : ℕ) : Type 0 where
  pub cluster : k < max_clusters
  pub entry : i < max_entries

pub position-below : (c : Cached) → c.cluster_count ≤ max_clusters → c.count ≤ max_entries → (x : NewEntry) (k i : ℕ) → position_of c x ≡ Some (k, i) → Below k i
unfolding cluster_place entry_place
position-below c few-clusters few-entries x k i e =
    let goes = position-goes c x k i e in
    record {
      cluster = placed_below c.clusters c.cluster_count max_clusters (cluster_word x.endpoint x.cluster) k few-clusters goes.cluster;
      entry = placed_below c.keys c.count max_entries (key_word k x.attribute) i few-entries goes.entry;
    }

-- a value: a text, or another, which leaves the page as it is
pub data Form (v : Value) : Type 0 where
  text : (a n : ℕ) → v ≡ value.Text a n → Form v
  plain : eqb (kind_v v) text_kind ≡ false → ((s page : List ℕ) (p : ℕ) → text_stored s page p v ≡ page) → Form v

pub form : (v : Value) → Form v
unfolding kind_v text_stored
form value.Null = plain refl (λ s page p. refl)
form (value.Boolean b) = plain refl (λ s page p. refl)
form (value.Unsigned n) = plain refl (λ s page p. refl)
form (value.Signed z) = plain refl (λ s page p. refl)
form (value.Float n) = plain refl (λ s page p. refl)
form (value.Text a n) = text a n refl
form value.Other = plain refl (λ s page p. refl)
