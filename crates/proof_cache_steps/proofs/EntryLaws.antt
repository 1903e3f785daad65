-- What stands where in the arrays of a cache, and what it has for a path.
use Rattle.std.specs.Prelude.{Some, None, Option}
use mathlib.Core.Path.{◌≡◌, refl, sym, ap, ◌∙◌}
use mathlib.Core.List.{List}
use Prim.Native.Nat.{ℕ, ◌%◌, ◌<◌}
use native.Mathlib.Omega.{arith}
use borrow.Author.Tests.{eqb-true}
use lib.Dec.{eqb}
use lib.ListN.{get_or}
use Rattle.im_blocks.proofs.BlockLaws.{never}
use Rattle.node_schema.proofs.SearchLaws.{found}
use Rattle.cache_entries.specs.declared.Cached.{Cached}
use Rattle.cache_entries.specs.Limits.{half}
use Rattle.cache_entries.specs.Entries.{CacheEntry, cluster_word, key_word, cluster_at, entry_at, entry_of, at_entry, in_cluster, path_at, lookup}
use Rattle.cache_order.specs.Order.{word_at}
use Rattle.cache_entries.specs.Coherent.{coherent_at, Of}
use Rattle.cache_ask.specs.Ask.{coherent_there, coherent_of}
use Rattle.proof_cache_parts.proofs.OnceLaws.{Once, found-once}

-- what is found for a word is the word
pub word-at : (l : List ℕ) (n x i : ℕ) → word_at l n x ≡ Some i → (i < n) × (get_or l i 0 ≡ x)
unfolding word_at
word-at l n x i q =
    let r = found (λ k. eqb (get_or l k 0) x) n 0 i q in
    (omega (arith, r.below), eqb-true (get_or l i 0) x r.holds)

-- a path that something is held for is of a cluster that is there
pub cluster-held : (c : Cached) (page : List ℕ) (e cl a : ℕ) {x : CacheEntry} → lookup c page e cl a ≡ Some x → (j : ℕ) × (cluster_at c (cluster_word e cl) ≡ Some j)
unfolding lookup path_at
cluster-held c page e cl a {x} h = go (cluster_at c (cluster_word e cl)) refl h
  where
    go : (f : (Option ℕ)) → cluster_at c (cluster_word e cl) ≡ f → at_entry c page (in_cluster c a f) ≡ Some x → (j : ℕ) × (cluster_at c (cluster_word e cl) ≡ Some j)
    go (Some j) q z = (j, q)
    go None q z = never (cc)

module _ (c : Cached) (page : List ℕ) (e cl j : ℕ) (at : cluster_at c (cluster_word e cl) ≡ Some j) where
  in-cluster : (a : ℕ) → lookup c page e cl a ≡ at_entry c page (entry_at c (key_word j a))
  unfolding lookup path_at
  in-cluster a = ap (λ (f : (Option ℕ)). at_entry c page (in_cluster c a f)) at

  -- what is held for a path stands at a place
  pub stands : (a : ℕ) {x : CacheEntry} → lookup c page e cl a ≡ Some x → (i : ℕ) × (i < c.count) × (get_or c.keys i 0 ≡ key_word j a) × (entry_of c page i ≡ x)
  stands a {x} h = go (entry_at c (key_word j a)) refl (sym (in-cluster a) ∙ h)
    where
      go : (f : (Option ℕ)) → entry_at c (key_word j a) ≡ f → at_entry c page f ≡ Some x → (i : ℕ) × (i < c.count) × (get_or c.keys i 0 ≡ key_word j a) × (entry_of c page i ≡ x)
      go None q z = never (cc)
      go (Some i) q z =
          let r = word-at c.keys c.count (key_word j a) i q in
          (i, r.0, r.1, cc)

  -- and what stands at a place is held for a path
  pub held-there : Once c.keys c.count → (i : ℕ) → i < c.count → Of c j i → lookup c page e cl (get_or c.keys i 0 % half) ≡ Some (entry_of c page i)
  held-there once i b o =
      in-cluster (get_or c.keys i 0 % half)
      ∙ ap (at_entry c page) (found-once c.keys c.count once (key_word j (get_or c.keys i 0 % half)) i b (omega (arith, o)))

-- a coherent cluster is there
pub coherent-held : (c : Cached) (word v : ℕ) → coherent_of c word ≡ Some v → (j : ℕ) × (cluster_at c word ≡ Some j) × (coherent_at c j ≡ Some v)
unfolding coherent_of
coherent-held c word v h = go (cluster_at c word) refl h
  where
    go : (f : (Option ℕ)) → cluster_at c word ≡ f → coherent_there c f ≡ Some v → (j : ℕ) × (cluster_at c word ≡ Some j) × (coherent_at c j ≡ Some v)
    go (Some j) q z = (j, q, z)
    go None q z = never (cc)

pub coherent-there : (c : Cached) (word j : ℕ) → cluster_at c word ≡ Some j → coherent_of c word ≡ coherent_at c j
unfolding coherent_of
coherent-there c word j e = ap (coherent_there c) e
