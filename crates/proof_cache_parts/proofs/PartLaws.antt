-- A PART TAKEN SETS THE SAME ENTRIES AS IN THE PROTOCOL, and none of its blocks is refused: 6 and 7 never come.
-- There is room because HeldAs says that each cluster held is one of the schema's: its entries alone do not, as a cluster could stand there with none.
use Rattle.std.specs.Prelude.{Some}
use mathlib.Core.Path.{◌≡◌, refl, sym, ap, subst, ◌∙◌}
use mathlib.Core.Bool.{Bool, true, false, not}
use mathlib.Core.List.{List, [], ◌∷◌, map, Memᴰ}
use Prim.Native.Nat.{ℕ, ◌^◌, ◌<◌}
use borrow.Author.Tests.{eqb-true, eq-eqb}
use lib.Dec.{T, T_not, not_T, eqb, eqb→eq}
use Rattle.tlv_reader.specs.Octet.{pick}
use Rattle.tlv_reader.specs.Value.{Datum}
use Rattle.im_blocks.specs.Data.{ReportOf, report_struct}
use Rattle.im_blocks.proofs.BlockLaws.{never}
use Rattle.node_schema.specs.Rows.{count_of_attributes}
use Rattle.node_schema.specs.Rules.{AttributePath, path, path_at, Rules}
use Rattle.node_schema.proofs.BoolLaws.{left, right, both, by-test}
use Rattle.node_schema.proofs.PathLaws.{one-path}
use Rattle.im_writer.specs.Spelling.{Each}
use Rattle.im_writer.specs.Meaning.{Fits}
use Rattle.cache_entries.specs.declared.Cached.{Cached}
use Rattle.cache_entries.specs.Entries as cached
use Rattle.cache_entries.specs.Entries.{lookup}
use Rattle.cache_report.specs.declared.block.NewEntry.{NewEntry}
use Rattle.cache_report.specs.Block.{Judgement}
use Rattle.cache_report.specs.Entry.{position_of, held_for, number_for, page_for, worse, Good}
use Rattle.cache_report.specs.Part.{blocks_in, judgement_in, judged_all, held_all, page_all}
use Rattle.cache_report.proofs.RightLaws.{block-right}
use Rattle.proof_trip.specs.Exact.{Distinct}
use Rattle.proof_trip.specs.Taken.{Sent, TakenAs, Says, InStep}
use Rattle.proof_trip.specs.Held.{holding, same_path}
use Rattle.proof_trip.proofs.HeldLaws.{block_held}
use Rattle.proof_trip.proofs.TakenLaws.{report-taken}
use Rattle.proof_protocol.specs.Model.{Entry, Part, same_place, set_entry, set_entries}
use Rattle.proof_protocol.proofs.SmallLaws.{and_r, same_refl, select-mem, mem-select}
use Rattle.proof_refinement.specs.Terms.{place_at}
use Rattle.proof_refinement.specs.Bytes.{EntryRight, PartRight, block_as, part_payload}
use Rattle.proof_refinement.specs.Cache.{DistinctKeys, ClusterRows, Found, HeldAs}
use Rattle.proof_cache_parts.proofs.PositionLaws.{row_fits, position-there, set-once}

-- the test of paths
abbrev path_is : AttributePath → AttributePath → Bool
path_is p q = same_path p.endpoint p.cluster p.attribute q.endpoint q.cluster q.attribute

path-is : (p q : AttributePath) → path_is p q ≡ true → p ≡ q
path-is p q t =
    let rest = right (eqb p.endpoint q.endpoint) _ t in
    let endpoints = eqb-true p.endpoint q.endpoint (left _ _ t) in
    let clusters = eqb-true p.cluster q.cluster (left _ _ rest) in
    let attributes = eqb-true p.attribute q.attribute (right (eqb p.cluster q.cluster) _ rest) in
    λ j. path (endpoints j) (clusters j) (attributes j)

is-path : (p q : AttributePath) → p ≡ q → path_is p q ≡ true
is-path p q e =
    both _ _ (eq-eqb _ _ (ap (λ (x : AttributePath). x.endpoint) e)) (both _ _ (eq-eqb _ _ (ap (λ (x : AttributePath). x.cluster) e)) (eq-eqb _ _ (ap (λ (x : AttributePath). x.attribute) e)))

clash : {A : Type 0} {b : Bool} → b ≡ true → b ≡ false → A
clash t f = never (let z : true ≡ false = sym t ∙ f in cc)

module _ (w : List ℕ) (rules : Rules w) (s : List ℕ) where
  -- ONE BLOCK, of the entry e
  module _ (page : List ℕ) (c : Cached) (good : Good page c) (entries : List (Entry Datum)) (held : HeldAs w page c entries) (e : Entry Datum) (own : EntryRight w e) (r : ReportOf ℕ) (t : TakenAs s (block_as w e) r) where
    abbrev row : ℕ
    row = e.place.attribute

    abbrev c' : Cached
    c' = held_for c (judgement_in s r)

    abbrev page' : List ℕ
    page' = page_for s c page (judgement_in s r)

    says-path : (x : NewEntry) → Says s e.version (path_at w row).endpoint (path_at w row).cluster (path_at w row).attribute e.value x → path_at w row ≡ path x.endpoint x.cluster x.attribute
    says-path x says = λ j. path (sym says.endpoint-said j) (sym says.cluster-said j) (sym says.attribute-said j)

    pub block_room_lem : number_for c (judgement_in s r) ≡ 0
    unfolding TakenAs number_for
    block_room_lem =
        let (x, taken, says) = t in
        ap (number_for c) taken ∙ position-there w rules page c good entries held x row own.row (says-path x says)

    block-once : Distinct c' × DistinctKeys c' × ClusterRows w c'
    unfolding TakenAs held_for
    block-once =
        let (x, taken, says) = t in
        subst (λ (f : Judgement). Distinct (held_for c f) × DistinctKeys (held_for c f) × ClusterRows w (held_for c f)) (sym taken)
        (set-once w rules page c good entries held x row own.row (says-path x says) (position_of c x) refl)

    -- what is held then, of any path
    after : (p : AttributePath) → p.endpoint < 2 ^ 16 → p.cluster < 2 ^ 32 → p.attribute < 2 ^ 32 → lookup c' page' p.endpoint p.cluster p.attribute ≡ pick (path_is (path_at w row) p) (holding e.version e.value) (lookup c page p.endpoint p.cluster p.attribute)
    after p fe fl fa =
        block_held s p.endpoint p.cluster p.attribute fe fl fa c page good e.version (path_at w row).endpoint (path_at w row).cluster (path_at w row).attribute e.value r t block_room_lem

    after-row : (i : ℕ) → i < count_of_attributes w → lookup c' page' (path_at w i).endpoint (path_at w i).cluster (path_at w i).attribute ≡ pick (path_is (path_at w row) (path_at w i)) (holding e.version e.value) (lookup c page (path_at w i).endpoint (path_at w i).cluster (path_at w i).attribute)
    after-row i l = let f = row_fits w rules i l in after (path_at w i) f.endpoint-fits f.cluster-fits f.attribute-fits

    -- an entry of another place stays
    abbrev kept : Entry Datum → Bool
    kept d = not (same_place d.place e.place)

    right-next : (d : Entry Datum) → Memᴰ d (set_entry e entries) → EntryRight w d
    unfolding set_entry
    right-next d (Memᴰ.head q) = subst (EntryRight w) (sym q) own
    right-next d (Memᴰ.tail m) = held.right d (mem-select kept entries d m).0

    abbrev Has : Entry Datum → Type 0
    Has d = lookup c' page' (path_at w d.place.attribute).endpoint (path_at w d.place.attribute).cluster (path_at w d.place.attribute).attribute ≡ Some (record { version = d.version; value = d.value })

    has-next : (d : Entry Datum) → Memᴰ d (set_entry e entries) → Has d
    unfolding set_entry
    has-next d (Memᴰ.head q) = subst Has (sym q) (after-row row own.row ∙ rw (is-path (path_at w row) (path_at w row) refl) refl)
    has-next d (Memᴰ.tail m) =
        let (there, other) = mem-select kept entries d m in
        let is = held.right d there in
        after-row d.place.attribute is.row ∙ by-test (path_is (path_at w row) (path_at w d.place.attribute))
        (λ t. let rows = one-path w rules row d.place.attribute own.row is.row (path-is _ _ t) in
        absurd (T_not (same_place d.place e.place) other (same_refl d.place e.place (is.place ∙ ap (place_at w) (sym rows) ∙ sym own.place))))
        (λ f. rw f (held.has d there))

    only_next : (endpoint cluster attribute : ℕ) → endpoint < 2 ^ 16 → cluster < 2 ^ 32 → attribute < 2 ^ 32 → (x : cached.CacheEntry) → lookup c' page' endpoint cluster attribute ≡ Some x → Found w (set_entry e entries) endpoint cluster attribute x
    unfolding set_entry
    only_next endpoint cluster attribute fe fl fa x h = by-test (path_is (path_at w row) p)
        (λ t. let q : holding e.version e.value ≡ Some x = rw t at (sym (after p fe fl fa) ∙ h) in
        let same : record { version = e.version; value = e.value } ≡ x = cc in
        record { entry = e; there = Memᴰ.head refl; same = path-is _ _ t; version = ap (λ (y : cached.CacheEntry). y.version) same; value = ap (λ (y : cached.CacheEntry). y.value) same })
        (λ t. let q : lookup c page endpoint cluster attribute ≡ Some x = rw t at (sym (after p fe fl fa) ∙ h) in
        let f = held.only endpoint cluster attribute fe fl fa x q in
        record { entry = f.entry; there = Memᴰ.tail (select-mem kept entries f.entry f.there (not_T (same_place f.entry.place e.place) (apart t f.entry f.same))); same = f.same; version = f.version; value = f.value })
      where
        p : AttributePath
        p = path endpoint cluster attribute

        apart : path_is (path_at w row) p ≡ false → (d : Entry Datum) → path_at w d.place.attribute ≡ p → T (same_place d.place e.place) → ⊥
        apart f d same u =
            let rows = eqb→eq d.place.attribute row (and_r (eqb d.place.cluster e.place.cluster) _ u) in
            clash (is-path (path_at w row) p (ap (path_at w) (sym rows) ∙ same)) f

    pub block-held-as : HeldAs w page' c' (set_entry e entries)
    block-held-as = record {
      clusters-once = block-once.0;
      keys-once = block-once.1;
      cluster-rows = block-once.2;
      right = right-next;
      has = has-next;
      only = only_next;
    }

  -- ALL BLOCKS
  all_held : (es : List (Entry Datum)) → ((e : Entry Datum) → Memᴰ e es → EntryRight w e) → (m : List (ReportOf ℕ)) → InStep (TakenAs s) (map (block_as w) es) m → (page : List ℕ) (c : Cached) → Good page c → (entries : List (Entry Datum)) → HeldAs w page c entries → ((judged_all s (record { number = 0; held = c }) m).number ≡ 0) × HeldAs w (page_all s c page m) (held_all s c m) (set_entries es entries)
  unfolding InStep judged_all held_all page_all set_entries worse
  all_held [] own [] step page c good entries held = (refl, held)
  all_held [] own (r ∷ m) step page c good entries held = absurd step
  all_held (e ∷ es) own [] step page c good entries held = absurd step
  all_held (e ∷ es) own (r ∷ m) step page c good entries held =
      let first = own e (Memᴰ.head refl) in
      let here = block_room_lem page c good entries held e first r step.0 in
      let rest = all_held es (λ d i. own d (Memᴰ.tail i)) m step.1 (page_for s c page (judgement_in s r)) (held_for c (judgement_in s r)) (block-right s page c good (report_struct r)) (set_entry e entries) (block-held-as page c good entries held e first r step.0) in
      (ap (λ (n : ℕ). (judged_all s (record { number = worse 0 n; held = held_for c (judgement_in s r) }) m).number) here ∙ rest.0, rest.1)

module _ (w : List ℕ) (rules : Rules w) where
  pub each-sent : (es : List (Entry Datum)) → ((e : Entry Datum) → Memᴰ e es → EntryRight w e) → Each Sent (map (block_as w) es)
  unfolding Each Sent Fits
  each-sent [] own = tt
  each-sent (e ∷ es) own =
      let is = own e (Memᴰ.head refl) in
      (((is.version, (row_fits w rules e.place.attribute is.row, is.writable)), is.value), each-sent es (λ d i. own d (Memᴰ.tail i)))

  -- THE LAW
  pub part_held : (page : List ℕ) (c : Cached) → Good page c → (entries : List (Entry Datum)) → HeldAs w page c entries → (p : Part Datum) → PartRight w p → let s = part_payload w p in ((judged_all s (record { number = 0; held = c }) (blocks_in s)).number ≡ 0) × HeldAs w (page_all s c page (blocks_in s)) (held_all s c (blocks_in s)) (set_entries p.entries entries)
  part_held page c good entries held p is =
      let (part, here, more, step) = report-taken (map (block_as w) p.entries) p.more (each-sent p.entries is.entries) in
      all_held w rules (part_payload w p) p.entries is.entries (blocks_in (part_payload w p)) step page c good entries held
