-- An item as the code sets it: its value in words, its place in the page, its cluster and then its entry.
use Rattle.std.specs.Prelude.{Some}
use mathlib.Core.Path.{◌≡◌, refl, sym, ap, subst, ◌∙◌}
use mathlib.Core.Bool.{Bool, true, false}
use mathlib.Core.List.{List}
use Prim.Native.Nat.{ℕ, ◌+◌, ◌*◌, ◌/◌, ◌%◌, ◌≤◌, ◌<◌}
use native.Mathlib.Omega.{arith}
use borrow.Author.Tests.{eq-eqb}
use lib.Dec.{eqb}
use lib.ListN.{set}
use Rattle.tlv_reader.specs.declared.Value.{Value}
use Rattle.tlv_reader.specs.declared.Value.TheVariants as value
use Rattle.tlv_reader.specs.Octet.{pick}
use Rattle.node_kinds.specs.Stored.{word_of}
use Rattle.node_schema.proofs.BoolLaws.{by-test}
use Rattle.cache_order.specs.Order.{order_right}
use Rattle.cache_entries.specs.declared.Cached.{Cached}
use Rattle.cache_entries.specs.Limits.{max_entries, max_clusters, text_places, half, text_kind}
use Rattle.cache_entries.specs.Entries.{cluster_order, cluster_word, key_word}
use Rattle.cache_entries.specs.Texts.{text_place, Marked, Own}
use Rattle.cache_entries.specs.Set.{cluster_place, entry_place, count_with, with_cluster, with_entry}
use Rattle.cache_entries.specs.Valid.{ColumnsSized, RightHeld}
use Rattle.cache_entries.proofs.OrderWithLaws.{cluster-orders}
use Rattle.cache_entries.proofs.SetLaws.{placed-next}
use Rattle.cache_entries.proofs.TextLaws.{place-own}
use Rattle.cache_entries.proofs.ValueLaws.{NoText}
use Rattle.cache_report.specs.Entry.{position_of, kind_v, word_as, with_item, text_stored}
use Rattle.cache_report.specs.Words.{item_words, length_v}
use Rattle.cache_report.proofs.EntryLaws.{position-goes, position-below, Form, form}
use Rattle.cache_report.proofs.EntryLaws.Form.{text, plain}
use Rattle.cache_report.proofs.RightLaws.{text-word}
use Rattle.cache_report.proofs.FrameLaws.{word_back}

-- a value that is no text has no length and leaves the page as it is
pub no_length : (v : Value) → NoText v → 0 ≡ length_v v
unfolding length_v
no_length value.Null h = refl
no_length (value.Boolean b) h = refl
no_length (value.Unsigned n) h = refl
no_length (value.Signed z) h = refl
no_length (value.Float n) h = refl
no_length (value.Text a n) h = absurd (h a n refl)
no_length value.Other h = refl

pub not-stored : (s page : List ℕ) (p : ℕ) (v : Value) → NoText v → page ≡ text_stored s page p v
not-stored s page p v h = go (form v)
  where
    go : Form v → page ≡ text_stored s page p v
    go (plain f same) = sym (same s page p)
    go (text a n e) = absurd (h a n e)

-- the word of a value that is no text are its bits
pub word-plain : (p : ℕ) (v : Value) → eqb (kind_v v) text_kind ≡ false → word_of v ≡ word_as p v
unfolding word_as
word-plain p v f = rw f refl

pub text-kind : {v : Value} (a n : ℕ) → v ≡ value.Text a n → eqb (kind_v v) text_kind ≡ true
unfolding kind_v
text-kind a n e = rw e refl

-- WHAT A BLOCK FINDS that goes to cluster k and entry i; its cluster is set first
pub record Ready (c : Cached) (k i word : ℕ) : Type 0 where
  pub few-clusters : c.cluster_count ≤ max_clusters
  pub few-entries : c.count ≤ max_entries
  pub cluster-next : k ≤ c.cluster_count
  pub cluster-low : k < max_clusters
  pub entry_next : i ≤ c.count
  pub entry-low : i < max_entries
  pub cluster-order : order_right c.clusters (cluster_order c.order) c.cluster_count ≡ true
  pub entry-order : order_right c.keys (with_cluster c k word).order c.count ≡ true
  pub own : Own c.kinds c.words c.count i (text_place c i)

pub ready : (page : List ℕ) (c : Cached) → RightHeld page c → ColumnsSized c → (a b : ℕ) (v : Value) (k i : ℕ) → position_of c (item_words a b v) ≡ Some (k, i) → Ready c k i a
unfolding cluster_place entry_place with_cluster
ready page c r w a b v k i position =
    let goes = position-goes c (item_words a b v) k i position in
    let low = position-below c r.few-clusters r.few-entries (item_words a b v) k i position in
    let cluster = ap (cluster_place c) (sym (word_back a)) ∙ goes.cluster in
    let orders = cluster-orders c (record { size = w.order; clusters = r.cluster-order; entries = r.entry-order }) w.clusters r.few-entries k a low.cluster cluster in
    record {
      few-clusters = r.few-clusters;
      few-entries = r.few-entries;
      cluster-next = placed-next c.clusters c.cluster_count max_clusters a k cluster;
      cluster-low = low.cluster;
      entry_next = placed-next c.keys c.count max_entries (key_word k (b / half)) i goes.entry;
      entry-low = low.entry;
      cluster-order = r.cluster-order;
      entry-order = orders.entries;
      own = place-own page c r i low.entry;
    }

-- the length that is kept is looked at where there is a text
length-kept : (d : Cached) (i key version word : ℕ) (v : Value) → with_entry d i key version (kind_v v) word (length_v v) ≡ with_entry d i key version (kind_v v) word (word_of v)
unfolding with_entry length_v word_of
length-kept d i key version word v = go (form v)
  where
    go : Form v → with_entry d i key version (kind_v v) word (length_v v) ≡ with_entry d i key version (kind_v v) word (word_of v)
    go (plain f same) = rw f refl
    go (text m n e) = rw e refl

-- A BLOCK SET, by what the calls give: kind and place of its value
module _ (c : Cached) (i : ℕ) (v : Value) (kind place : ℕ) (is-kind : kind ≡ kind_v v) (is-place : place ≡ pick (eqb kind text_kind) (text_place c i) 0) where
  place-text : eqb (kind_v v) text_kind ≡ true → place ≡ text_place c i
  place-text t = is-place ∙ ap (λ (b : Bool). pick b (text_place c i) 0) (ap (λ (m : ℕ). eqb m text_kind) is-kind ∙ t)

  pub place-below : Own c.kinds c.words c.count i (text_place c i) → eqb (kind_v v) text_kind ≡ true → place < text_places
  place-below own t = omega (arith, own.below, place-text t)

  pub stored_there : (s page : List ℕ) → text_stored s page place v ≡ text_stored s page (text_place c i) v
  stored_there s page = go (form v)
    where
      go : Form v → text_stored s page place v ≡ text_stored s page (text_place c i) v
      go (plain f same) = same s page place ∙ sym (same s page (text_place c i))
      go (text m n e) = ap (λ (p : ℕ). text_stored s page p v) (place-text (text-kind m n e))

  -- its word
  module _ (word : ℕ) (is_IsWord : word ≡ word_as place v) where
    pub word-place : kind ≡ text_kind → word ≡ place
    word-place e = is_IsWord ∙ text-word place v (eq-eqb (kind_v v) text_kind (sym is-kind ∙ e))

    pub word_below : Own c.kinds c.words c.count i (text_place c i) → kind ≡ text_kind → word < text_places
    word_below own e = omega (arith, place-below own (eq-eqb (kind_v v) text_kind (sym is-kind ∙ e)), word-place e)

    word-there : word ≡ word_as (text_place c i) v
    unfolding word_as
    word-there = is_IsWord ∙ by-test (eqb (kind_v v) text_kind) (λ t. ap (λ (p : ℕ). word_as p v) (place-text t)) (λ f. rw f refl)

    -- its cluster set, then its entry
    pub item-set : (k a b len : ℕ) → len ≡ length_v v → (d e : Cached) → d ≡ with_cluster c k a → e ≡ with_entry d i (k * half + b / half) (b % half) kind word len → e ≡ with_item c k i (item_words a b v)
    unfolding with_item
    item-set k a b len is-length d e one two =
        two
        ∙ (λ p. with_entry ((one ∙ ap (with_cluster c k) (sym (word_back a))) p) i (key_word k (b / half)) (b % half) (is-kind p) (word-there p) (is-length p))
        ∙ length-kept (with_cluster c k (cluster_word (a / half) (a % half))) i (key_word k (b / half)) (b % half) (word_as (text_place c i) v) v

-- the marks of the entries before it are those of the entries with it
pub marks-set : (d e : Cached) (i key version kind word len : ℕ) (marks : List ℕ) → e ≡ with_entry d i key version kind word len → Marked (set d.kinds i kind) (set d.words i word) (count_with d.count i) marks → Marked e.kinds e.words e.count marks
unfolding with_entry
marks-set d e i key version kind word len marks q m = subst (λ (x : Cached). Marked x.kinds x.words x.count marks) (sym q) m
