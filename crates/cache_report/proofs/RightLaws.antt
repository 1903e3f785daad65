-- A CACHE THAT KEEPS THE RULES STILL KEEPS THEM AFTER A BLOCK, whatever the block is.
use Rattle.std.specs.Prelude.{Some, None, Option, Ok, Err}
use mathlib.Core.Path.{◌≡◌, refl, sym, ap, subst, ◌∙◌}
use mathlib.Core.Bool.{Bool, true, false, ◌&&◌, false≢true}
use mathlib.Core.List.{List, [], ◌∷◌}
use Prim.Native.Nat.{ℕ, ◌-◌, ◌/◌, ◌^◌, ◌≤◌, ◌<◌}
use native.Mathlib.Omega.{arith}
use borrow.Author.Tests.{lt-ltb, le-leb, ltb-true, ltb-false, eqb-true, eqb-false}
use lib.Dec.{ltb, leb, eqb}
use lib.ListN.{length, get_or, set, take, drop, length-set, length-take, length-drop}
use lib.Seq.{get_or-set_same, get_or-set_other, length-take-le}
use Rattle.base_octets.specs.Store.{store}
use Rattle.base_octets.proofs.StoreLaws.{length-store, store-back, part-after, part-before}
use Rattle.tlv_reader.specs.declared.Value.{Value}
use Rattle.tlv_reader.specs.declared.Value.TheVariants as value
use Rattle.tlv_reader.specs.Octet.{pick}
use Rattle.tlv_reader.specs.Value.{value_in}
use Rattle.base_utf8.specs.WellFormed.{well_formed}
use Rattle.node_kinds.specs.Stored.{word_of, Sized}
use Rattle.node_kinds.proofs.SizedLaws.{value-in-sized}
use Rattle.im_blocks.specs.declared.Report.{Report}
use Rattle.im_blocks.specs.declared.Report.TheVariants as report
use Rattle.im_blocks.specs.Data.{ReportOf, report_struct}
use Rattle.node_schema.proofs.BoolLaws.{both, right, by-test}
use Rattle.node_schema.proofs.CheckLaws.{every-all}
use Rattle.cache_entries.specs.declared.Cached.{Cached}
use Rattle.cache_entries.specs.Limits.{max_entries, max_clusters, text_places, text_size, half, no_version, text_kind}
use Rattle.cache_entries.specs.Entries.{cluster_word, key_word, place_start, text_in}
use Rattle.cache_entries.specs.Texts.{is_text, text_place, Own}
use Rattle.cache_entries.specs.Set.{cluster_place, entry_place, count_with, with_cluster, with_entry}
use Rattle.cache_entries.specs.Valid.{word_right, entry_right, entry_right_at, entries_right, text_right_at, texts_right, clusters_right, ColumnsSized, RightHeld}
use Rattle.cache_entries.proofs.SetLaws.{placed-next, counted-here, counted-more, counted-other, counted-within}
use Rattle.cache_entries.proofs.ValidLaws.{below, cluster-below, key_below_lem, version-right, entry-word, TextRight, text-right, right-text}
use Rattle.cache_entries.proofs.OrderWithLaws.{Orders, cluster-orders, entry-orders}
use Rattle.cache_entries.proofs.TextLaws.{TextAt, unused, texts-apart, place-own}
use Rattle.cache_report.specs.declared.block.NewEntry.{NewEntry}
use Rattle.cache_report.specs.declared.block.Unfit.TheVariants.{Long, Unusable}
use Rattle.cache_entries.specs.Values.{usable_in, inside_usable, long_v}
use Rattle.im_responses.specs.Kept.{concrete_p}
use Rattle.cache_report.specs.Block.{Judgement, item_of, judgement_by, judgement_of}
use Rattle.cache_report.specs.Entry.{position_of, kind_v, word_as, with_item, held_at, held_for, text_stored, page_at, page_for, ItemRight, Good}
use Rattle.cache_report.specs.Part.{judgement_in, held_all, page_all}
use Rattle.im_responses.proofs.KeptLaws.{concrete-widths}
use Rattle.cache_entries.proofs.ValueLaws.{text-inside, text-short}
use Rattle.cache_report.proofs.EntryLaws.{Goes, position-goes, Below, position-below, Form, form}
use Rattle.cache_report.proofs.EntryLaws.Form.{text, plain}

never : {A : Type 0} → ◌≡◌ {A = ℕ} 0 1 → A
never e = absurd (omega arith)

pub item-right : (s : List ℕ) (r : Report) (x : NewEntry) → judgement_of s r ≡ Ok x → ItemRight s x
unfolding judgement_of judgement_by
item-right s (report.Refused a) x e = never (cc)
item-right s (report.Shown d) x e = go (concrete_p d.path) (ltb d.version no_version) (usable_in s v) (long_v v) refl refl refl refl e
  where
    v : Value
    v = value_in s d.place

    go : (a b u l : Bool) → concrete_p d.path ≡ a → ltb d.version no_version ≡ b → usable_in s v ≡ u → long_v v ≡ l → pick (a && (b && u)) (pick l (Err Long) (Ok (item_of d.path d.version v))) (Err Unusable) ≡ Ok x → ItemRight s x
    go true true true false pa pb pu pl e =
        let same : item_of d.path d.version v ≡ x = cc in
        let w = concrete-widths d.path pa in
        subst (ItemRight s) same
        (record { endpoint = w.endpoint; cluster = w.cluster; attribute = w.attribute; version = ltb-true _ _ pb; sized = value-in-sized s d.place; usable = pu; short = pl })
    go true true true true pa pb pu pl e = never (cc)
    go true true false l pa pb pu pl e = never (cc)
    go true false u l pa pb pu pl e = never (cc)
    go false b u l pa pb pu pl e = never (cc)

-- a usable text is UTF-8
text-formed : (s : List ℕ) (a n : ℕ) → usable_in s (value.Text a n) ≡ true → well_formed (take n (drop a s)) ≡ true
unfolding usable_in inside_usable
text-formed s a n h = right (leb a (length s - n)) _ (right (leb n (length s)) _ h)

-- a value that can be kept has its form; the word of a text is its place
word_kept : (p : ℕ) (v : Value) → Sized v → word_right (kind_v v) (word_as p v) ≡ true
unfolding word_right kind_v word_as word_of
word_kept p value.Null z = refl
word_kept p (value.Boolean true) z = refl
word_kept p (value.Boolean false) z = refl
word_kept p (value.Unsigned n) z = refl
word_kept p (value.Signed n) z = refl
word_kept p (value.Float n) z = lt-ltb n half z
word_kept p (value.Text a n) z = refl
word_kept p value.Other z = refl

pub text-word : (p : ℕ) (v : Value) → eqb (kind_v v) text_kind ≡ true → word_as p v ≡ p
unfolding word_as
text-word p v t = rw t refl

-- what stands in the columns at j
pub record Row (c : Cached) (j k v t b : ℕ) : Type 0 where
  pub key : get_or c.keys j 0 ≡ k
  pub version : get_or c.versions j 0 ≡ v
  pub kind : get_or c.kinds j 0 ≡ t
  pub word : get_or c.words j 0 ≡ b

module _ (s page : List ℕ) (c : Cached) (x : NewEntry) (k i : ℕ) (item : ItemRight s x) (r : RightHeld page c) (w : ColumnsSized c) (position : position_of c x ≡ Some (k, i)) where
  low : Below k i
  low = position-below c r.few-clusters r.few-entries x k i position

  goes : Goes c x k i
  goes = position-goes c x k i position

  k-next : k ≤ c.cluster_count
  unfolding cluster_place
  k-next = placed-next c.clusters c.cluster_count max_clusters _ k goes.cluster

  i-next : i ≤ c.count
  unfolding entry_place
  i-next = placed-next c.keys c.count max_entries _ i goes.entry

  abbrev word : ℕ
  word = cluster_word x.endpoint x.cluster

  abbrev key : ℕ
  key = key_word k x.attribute

  abbrev place : ℕ
  place = text_place c i

  abbrev next : Cached
  next = with_item c k i x

  abbrev after : List ℕ
  after = text_stored s page place x.value

  own : Own c.kinds c.words c.count i place
  own = place-own page c r i low.entry

  -- the entry set, and the others
  pub own_row : Row next i key x.version (kind_v x.value) (word_as place x.value)
  unfolding with_item with_entry with_cluster
  own_row = record {
    key = get_or-set_same c.keys i key 0 (omega (arith, low.entry, w.keys));
    version = get_or-set_same c.versions i x.version 0 (omega (arith, low.entry, w.versions));
    kind = get_or-set_same c.kinds i (kind_v x.value) 0 (omega (arith, low.entry, w.kinds));
    word = get_or-set_same c.words i (word_as place x.value) 0 (omega (arith, low.entry, w.words));
  }

  pub other_row : (j : ℕ) → (j ≡ i → ⊥) → Row next j (get_or c.keys j 0) (get_or c.versions j 0) (get_or c.kinds j 0) (get_or c.words j 0)
  unfolding with_item with_entry with_cluster
  other_row j apart = record {
    key = get_or-set_other c.keys i j key 0 apart;
    version = get_or-set_other c.versions i j x.version 0 apart;
    kind = get_or-set_other c.kinds i j (kind_v x.value) 0 apart;
    word = get_or-set_other c.words i j (word_as place x.value) 0 apart;
  }

  -- the lengths of texts, and the page
  text-lengths : (a n : ℕ) → x.value ≡ value.Text a n → next.lengths ≡ set c.lengths place n
  unfolding with_item with_entry with_cluster word_as kind_v word_of
  text-lengths a n e = ap (λ (v : Value). pick (eqb (kind_v v) text_kind) (set c.lengths (word_as place v) (word_of v)) c.lengths) e

  plain-lengths : eqb (kind_v x.value) text_kind ≡ false → next.lengths ≡ c.lengths
  unfolding with_item with_entry with_cluster
  plain-lengths f = rw f refl

  size-kept : length after ≡ length page
  unfolding text_stored
  size-kept = go (form x.value)
    where
      go : Form x.value → length after ≡ length page
      go (text a n e) = ap (λ (v : Value). length (text_stored s page place v)) e ∙ length-store page (place_start place) (take n (drop a s))
      go (plain f same) = ap length (same s page place)

  -- the text at another place
  length-stays : (q : ℕ) → (q ≡ place → ⊥) → get_or next.lengths q 0 ≡ get_or c.lengths q 0
  length-stays q apart = go (form x.value)
    where
      go : Form x.value → get_or next.lengths q 0 ≡ get_or c.lengths q 0
      go (text a n e) = ap (λ (l : List ℕ). get_or l q 0) (text-lengths a n e) ∙ get_or-set_other c.lengths place q n 0 apart
      go (plain f same) = ap (λ (l : List ℕ). get_or l q 0) (plain-lengths f)

  text-stays : (q : ℕ) → (q ≡ place → ⊥) → get_or c.lengths q 0 ≤ text_size → text_in after next.lengths q ≡ text_in page c.lengths q
  unfolding text_stored
  text-stays q apart l = ap (λ (n : ℕ). take n (drop (place_start q) after)) (length-stays q apart) ∙ go (form x.value)
    where
      go : Form x.value → take (get_or c.lengths q 0) (drop (place_start q) after) ≡ take (get_or c.lengths q 0) (drop (place_start q) page)
      go (plain f same) = ap (λ (p : List ℕ). take (get_or c.lengths q 0) (drop (place_start q) p)) (same s page place)
      go (text a n e) =
          let fits : length (take n (drop a s)) ≤ text_size = omega (arith, text-short a n e item.short, length-take n (drop a s)) in
          ap (λ (v : Value). take (get_or c.lengths q 0) (drop (place_start q) (text_stored s page place v))) e
          ∙ by-test (ltb q place)
          (λ t. part-before page (place_start place) (take n (drop a s)) (place_start q) (get_or c.lengths q 0) (omega (arith, l, ltb-true q place t)))
          (λ f. part-after page (place_start place) (take n (drop a s)) (place_start q) (get_or c.lengths q 0) (omega (arith, fits, apart, ltb-false q place f)))

  -- its own text
  own-length : (a n : ℕ) → x.value ≡ value.Text a n → get_or next.lengths place 0 ≡ n
  own-length a n e = ap (λ (l : List ℕ). get_or l place 0) (text-lengths a n e) ∙ get_or-set_same c.lengths place n 0 (omega (arith, own.below, w.lengths))

  pub text-set : (a n : ℕ) → x.value ≡ value.Text a n → text_in after next.lengths place ≡ take n (drop a s)
  unfolding text_stored
  text-set a n e =
      let b = text-short a n e item.short in
      let inside = text-inside s a n e item.usable in
      let len : length (take n (drop a s)) ≡ n = length-take-le n (drop a s) (omega (arith, inside.few, inside.before, length-drop a s)) in
      ap (λ (v : Value). take (get_or next.lengths place 0) (drop (place_start place) (text_stored s page place v))) e
      ∙ ap (λ (m : ℕ). take m (drop (place_start place) (store page (place_start place) (take n (drop a s))))) (own-length a n e ∙ sym len)
      ∙ store-back page (place_start place) (take n (drop a s)) (omega (arith, len, b, own.below, r.size))

  -- the clusters
  clusters-kept : clusters_right next.clusters next.cluster_count ≡ true
  unfolding with_item with_entry with_cluster clusters_right
  clusters-kept = every-all (below (set c.clusters k word)) (count_with c.cluster_count k) go
    where
      go : (j : ℕ) → j < count_with c.cluster_count k → below (set c.clusters k word) j ≡ true
      go j l = by-test (eqb j k)
          (λ t. let e : get_or (set c.clusters k word) j 0 ≡ word = ap (λ (n : ℕ). get_or (set c.clusters k word) n 0) (eqb-true j k t) ∙ get_or-set_same c.clusters k word 0 (omega (arith, low.cluster, w.clusters)) in
          lt-ltb (get_or (set c.clusters k word) j 0) (2 ^ 48) (omega (arith, e, item.endpoint, item.cluster)))
          (λ f. let e = get_or-set_other c.clusters k j word 0 (eqb-false j k f) in
          lt-ltb (get_or (set c.clusters k word) j 0) (2 ^ 48) (omega (arith, e, cluster-below page c r j (counted-other c.cluster_count k j k-next (eqb-false j k f) l))))

  -- both orders
  orders : Orders next
  unfolding with_item with_cluster entry_place
  orders =
      entry-orders (with_cluster c k word)
      (cluster-orders c (record { size = w.order; clusters = r.cluster-order; entries = r.entry-order }) w.clusters r.few-entries k word low.cluster goes.cluster)
      w.keys i key x.version (kind_v x.value) (word_as place x.value) (word_of x.value) low.entry goes.entry

  -- the entries
  entries-kept : entries_right next ≡ true
  unfolding entries_right entry_right with_item with_entry with_cluster
  entries-kept = every-all (entry_right_at next) (count_with c.count i) go
    where
      right-row : (j a v b d : ℕ) → Row next j a v b d → a / half < count_with c.cluster_count k → v ≤ no_version → word_right b d ≡ true → entry_right_at next j ≡ true
      right-row j a v b d q la lv h =
          (λ p. entry_right (count_with c.cluster_count k) (q.key p) (q.version p) (q.kind p) (q.word p))
          ∙ both _ _ (lt-ltb (a / half) (count_with c.cluster_count k) la) (both _ _ (le-leb v no_version lv) h)

      go : (j : ℕ) → j < count_with c.count i → entry_right_at next j ≡ true
      go j l = by-test (eqb j i)
          (λ t. ap (entry_right_at next) (eqb-true j i t)
          ∙ right-row i _ _ _ _ own_row (omega (arith, item.attribute, counted-here c.cluster_count k)) (omega (arith, item.version)) (word_kept place x.value item.sized))
          (λ f. let apart = eqb-false j i f in
          let u = counted-other c.count i j i-next apart l in
          right-row j _ _ _ _ (other_row j apart) (omega (arith, key_below_lem c r.entries j u, counted-more c.cluster_count k k-next)) (version-right c r.entries j u) (entry-word c r.entries j u))

  -- the texts: one of another entry was there, and has another place
  was-text : (n p q j : ℕ) → TextAt next.kinds next.words n p j → (j ≡ i → ⊥) → j < c.count → p ≡ q → TextAt c.kinds c.words c.count q j
  was-text n p q j t apart l e =
      let row = other_row j apart in
      record { below = l; text = ap (λ (m : ℕ). eqb m text_kind) (sym row.kind) ∙ t.text; place = sym row.word ∙ t.place ∙ e }

  other_place : (j : ℕ) → j < c.count → (j ≡ i → ⊥) → is_text c.kinds j ≡ true → get_or c.words j 0 ≡ place → ⊥
  other_place j l apart t e = own.apart j l apart t e

  own-kind : is_text next.kinds i ≡ true → eqb (kind_v x.value) text_kind ≡ true
  own-kind t = ap (λ (m : ℕ). eqb m text_kind) (sym own_row.kind) ∙ t

  own-place : is_text next.kinds i ≡ true → get_or next.words i 0 ≡ place
  own-place t = own_row.word ∙ text-word place x.value (own-kind t)

  own-text : is_text next.kinds i ≡ true → TextRight after next i
  own-text t = go (form x.value)
    where
      go : Form x.value → TextRight after next i
      go (plain f same) = absurd (false≢true (sym f ∙ own-kind t))
      go (text a n e) =
          let at = own-place t in
          record {
            place = omega (arith, at, own.below);
            own = unused next.kinds next.words i (get_or next.words i 0) (λ j u. let apart : j ≡ i → ⊥ = λ z. omega (arith, z, u.below) in let w = was-text i (get_or next.words i 0) place j u apart (omega (arith, u.below, i-next)) at in own.apart j w.below apart w.text w.place);
            short = omega (arith, ap (λ (q : ℕ). get_or next.lengths q 0) at, own-length a n e, text-short a n e item.short);
            formed = ap well_formed (ap (text_in after next.lengths) at ∙ text-set a n e) ∙ text-formed s a n (ap (usable_in s) (sym e) ∙ item.usable);
          }

  module _ (j : ℕ) (l : j < c.count) (apart : j ≡ i → ⊥) (t : is_text c.kinds j ≡ true) where
    -- what it shows stays
    pub shown-stays : text_in after next.lengths (get_or c.words j 0) ≡ text_in page c.lengths (get_or c.words j 0)
    shown-stays = text-stays (get_or c.words j 0) (other_place j l apart t) (text-right page c r.texts j l t).short

    lone : (m : ℕ) → TextAt next.kinds next.words j (get_or next.words j 0) m → ⊥
    lone m u = by-test (eqb m i)
        (λ e. let z = eqb-true m i e in
        other_place j l apart t (sym (other_row j apart).word ∙ sym u.place ∙ ap (λ (n : ℕ). get_or next.words n 0) z ∙ own-place (ap (is_text next.kinds) (sym z) ∙ u.text)))
        (λ f. let old = was-text j (get_or next.words j 0) (get_or c.words j 0) m u (eqb-false m i f) (omega (arith, u.below)) (other_row j apart).word in
        omega (arith, u.below, texts-apart page c r.texts m j old.below l old.text t old.place))

    other_text : TextRight after next j
    other_text =
        let old = text-right page c r.texts j l t in
        let at = (other_row j apart).word in
        record {
          place = omega (arith, at, old.place);
          own = unused next.kinds next.words j (get_or next.words j 0) lone;
          short = omega (arith, ap (λ (q : ℕ). get_or next.lengths q 0) at, length-stays (get_or c.words j 0) (other_place j l apart t), old.short);
          formed = ap well_formed (ap (text_in after next.lengths) at ∙ shown-stays) ∙ old.formed;
        }

  texts-kept : texts_right after next ≡ true
  unfolding texts_right with_item with_entry with_cluster
  texts-kept = every-all (text_right_at after next.kinds next.words next.lengths) (count_with c.count i) (λ j l. right-text after next j (go j l))
    where
      go : (j : ℕ) → j < count_with c.count i → is_text next.kinds j ≡ true → TextRight after next j
      go j l t = by-test (eqb j i)
          (λ e. let z = eqb-true j i e in subst (TextRight after next) (sym z) (own-text (ap (is_text next.kinds) (sym z) ∙ t)))
          (λ f. let apart = eqb-false j i f in
          other_text j (counted-other c.count i j i-next apart l) apart (ap (λ (m : ℕ). eqb m text_kind) (sym (other_row j apart).kind) ∙ t))

  -- ONE ENTRY SET
  pub set-right : RightHeld after next
  unfolding with_item with_entry with_cluster
  set-right = record {
    size = size-kept ∙ r.size;
    few-entries = counted-within c.count max_entries i r.few-entries low.entry;
    few-clusters = counted-within c.cluster_count max_clusters k r.few-clusters low.cluster;
    clusters = clusters-kept;
    cluster-order = orders.clusters;
    entry-order = orders.entries;
    entries = entries-kept;
    texts = texts-kept;
  }

  pub set-whole : ColumnsSized next
  unfolding with_item with_entry with_cluster
  set-whole = record {
    clusters = length-set c.clusters k word ∙ w.clusters;
    keys = length-set c.keys i key ∙ w.keys;
    versions = length-set c.versions i x.version ∙ w.versions;
    kinds = length-set c.kinds i (kind_v x.value) ∙ w.kinds;
    words = length-set c.words i (word_as place x.value) ∙ w.words;
    order = orders.size;
    lengths = go (form x.value);
  }
    where
      go : Form x.value → length next.lengths ≡ text_places
      go (text a n e) = ap length (text-lengths a n e) ∙ length-set c.lengths place n ∙ w.lengths
      go (plain f same) = ap length (plain-lengths f) ∙ w.lengths

-- A BLOCK, whatever it is
pub block-right : (s page : List ℕ) (c : Cached) → Good page c → (b : Report) → Good (page_for s c page (judgement_of s b)) (held_for c (judgement_of s b))
unfolding held_for page_for
block-right s page c g b = go (judgement_of s b) refl
  where
    there : (x : NewEntry) → judgement_of s b ≡ Ok x → (p : (Option (ℕ × ℕ))) → position_of c x ≡ p → Good (page_at s c page x p) (held_at c x p)
    there x e (Some (k, i)) q =
        let item = item-right s b x e in
        record { right = set-right s page c x k i item g.right g.whole q; whole = set-whole s page c x k i item g.right g.whole q }
    there x e None q = g

    go : (f : Judgement) → judgement_of s b ≡ f → Good (page_for s c page f) (held_for c f)
    go (Ok x) e = taken (there x e (position_of c x) refl)
      where
        taken : Good (page_at s c page x (position_of c x)) (held_at c x (position_of c x)) → Good (page_for s c page (Ok x)) (held_for c (Ok x))
        taken h = h
    go (Err Long) e = g
    go (Err Unusable) e = g

-- ALL BLOCKS of a part
pub part_right : (s page : List ℕ) (c : Cached) → Good page c → (l : List (ReportOf ℕ)) → Good (page_all s c page l) (held_all s c l)
unfolding held_all page_all
part_right s page c g [] = g
part_right s page c g (b ∷ l) = part_right s (page_for s c page (judgement_in s b)) (held_for c (judgement_in s b)) (block-right s page c g (report_struct b)) l
