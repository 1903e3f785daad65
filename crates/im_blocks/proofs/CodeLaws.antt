-- What the code of each reader goes on with: its frame, and each way that it may be refused.
use Rattle.std.specs.Prelude.{Some, None, Option}
use mathlib.Core.Path.{◌≡◌, refl, sym, ap, ◌∙◌}
use mathlib.Core.Bool.{Bool, true, false}
use mathlib.Core.List.{List}
use Prim.Native.Nat.{ℕ, ◌-◌, ◌<◌, ◌≤◌}
use borrow.Author.Tests.{eq-eqb, ne_eqb, lt-ltb, le-ltb, eqb-true, eqb-false}
use lib.ListN.{get_or}
use lib.Dec.{eqb}
use Rattle.tlv_reader.specs.Octet.{pick}
use Rattle.tlv_reader.specs.Walk.{Got}
use Rattle.tlv_reader.specs.Decode.{bind_o}
use Rattle.im_members.specs.Scalar.{ABSENT, WRONG, number_in, flag_in, wide_in}
use Rattle.im_members.specs.Array.{required_in}
use Rattle.im_blocks.specs.declared.Path.{Path}
use Rattle.im_blocks.specs.declared.ClusterPath.{ClusterPath}
use Rattle.im_blocks.specs.declared.Status.{Status}
use Rattle.im_blocks.specs.declared.Answer.{Answer}
use Rattle.im_blocks.specs.Path.{checked, sound_path, path_from, path_at}
use Rattle.im_blocks.specs.Filter.{sound_cluster, cluster_from, cluster_at, filter_of, filter_from}
use Rattle.im_blocks.specs.Status.{sound_status, status_from, status_at, answer_from, answer_at}
use Rattle.im_blocks.specs.Data.{DataOf, any_in, data_from, data_at, shown, refused, maybe_in, report_from}

-- what was checked
pub checked-no : {A : Type 0} (sound : A → Bool) (x : A) → sound x ≡ false → checked sound x ≡ None
checked-no sound x e = simp e

pub checked-yes : {A : Type 0} (sound : A → Bool) (x : A) → sound x ≡ true → checked sound x ≡ Some x
checked-yes sound x e = simp e

-- ---- flat schemas: what was gathered is what the schema makes of the places

module _ (s : List ℕ) (xs : List ℕ) where
  pub path-gathered : (p : Path) → p.compress ≡ flag_in s (get_or xs 0 0) → p.node ≡ wide_in s (get_or xs 1 0) → p.endpoint ≡ number_in 65535 false s (get_or xs 2 0) → p.cluster ≡ number_in 4294967295 false s (get_or xs 3 0) → p.attribute ≡ number_in 4294967295 false s (get_or xs 4 0) → p.index ≡ number_in 65535 true s (get_or xs 5 0) → path_from s xs ≡ checked sound_path p
  unfolding path_from
  path-gathered p e0 e1 e2 e3 e4 e5 = ap (checked sound_path) (λ j. record { compress = sym e0 j; node = sym e1 j; endpoint = sym e2 j; cluster = sym e3 j; attribute = sym e4 j; index = sym e5 j })

  pub cluster-gathered : (p : ClusterPath) → p.node ≡ wide_in s (get_or xs 0 0) → p.endpoint ≡ number_in 65535 false s (get_or xs 1 0) → p.cluster ≡ number_in 4294967295 false s (get_or xs 2 0) → cluster_from s xs ≡ checked sound_cluster p
  unfolding cluster_from
  cluster-gathered p e0 e1 e2 = ap (checked sound_cluster) (λ j. record { node = sym e0 j; endpoint = sym e1 j; cluster = sym e2 j })

  pub status-gathered : (p : Status) → p.code ≡ number_in 255 false s (get_or xs 0 0) → p.cluster ≡ number_in 255 false s (get_or xs 1 0) → status_from s xs ≡ checked sound_status p
  unfolding status_from
  status-gathered p e0 e1 = ap (checked sound_status) (λ j. record { code = sym e0 j; cluster = sym e1 j })

-- ---- nested schemas, by what their members read as

bind-none : {A B : Type 0} (o : Option A) → ◌≡◌ {A = Option B} (bind_o o (λ x. None)) None
bind-none None = refl
bind-none (Some x) = refl

module _ (d : ℕ) (s : List ℕ) (xs : List ℕ) where
  pub filter-lacks : required_in (cluster_at d s) (get_or xs 0 0) ≡ None → filter_from d s xs ≡ None
  unfolding filter_from
  filter-lacks e = simp e

  pub filter-has : {p : ClusterPath} {v : ℕ} → required_in (cluster_at d s) (get_or xs 0 0) ≡ Some p → v ≡ number_in 4294967295 false s (get_or xs 1 0) → filter_from d s xs ≡ filter_of p v
  unfolding filter_from
  filter-has {p} e f = simp e (ap (filter_of p) (sym f))

  pub answer-lacks-path : required_in (path_at d s) (get_or xs 0 0) ≡ None → answer_from d s xs ≡ None
  unfolding answer_from
  answer-lacks-path e = simp e

  pub answer-lacks-status : required_in (status_at d s) (get_or xs 1 0) ≡ None → answer_from d s xs ≡ None
  unfolding answer_from
  answer-lacks-status e = simp e (bind-none (required_in (path_at d s) (get_or xs 0 0)))

  pub answer-has : {p : Path} {x : Status} → required_in (path_at d s) (get_or xs 0 0) ≡ Some p → required_in (status_at d s) (get_or xs 1 0) ≡ Some x → answer_from d s xs ≡ Some (record { path = p; status = x })
  unfolding answer_from
  answer-has e f = simp (e, f)

  pub data-lacks-path : required_in (path_at d s) (get_or xs 1 0) ≡ None → data_from d s xs ≡ None
  unfolding data_from
  data-lacks-path e = simp e

  pub data-lacks-data : get_or xs 2 0 ≡ 0 → data_from d s xs ≡ None
  unfolding data_from any_in
  data-lacks-data e = simp (eq-eqb _ _ e) (bind-none (required_in (path_at d s) (get_or xs 1 0)))

  data-either : (v : ℕ) → v ≡ WRONG → (p : Option Path) (x : Option ℕ) → ◌≡◌ {A = Option (DataOf ℕ)} (bind_o p (λ q. bind_o x (λ y. pick (eqb v WRONG) None (Some (record { version = v; path = q; element = y }))))) None
  data-either v e None x = refl
  data-either v e (Some q) None = refl
  data-either v e (Some q) (Some y) = rw (eq-eqb v WRONG e) refl

  pub data-wrong : {v : ℕ} → v ≡ number_in 4294967295 false s (get_or xs 0 0) → v ≡ WRONG → data_from d s xs ≡ None
  unfolding data_from
  data-wrong e w = data-either (number_in 4294967295 false s (get_or xs 0 0)) (sym e ∙ w) (required_in (path_at d s) (get_or xs 1 0)) (any_in (get_or xs 2 0))

  pub data-has : {p : Path} {v : ℕ} → required_in (path_at d s) (get_or xs 1 0) ≡ Some p → (get_or xs 2 0 ≡ 0 → ⊥) → v ≡ number_in 4294967295 false s (get_or xs 0 0) → (v ≡ WRONG → ⊥) → data_from d s xs ≡ Some (record { version = v; path = p; element = get_or xs 2 0 - 1 })
  unfolding data_from any_in
  data-has e n f w = rw (e, ne_eqb (get_or xs 2 0) 0 n, ← f, ne_eqb _ WRONG w) refl

-- ---- reports

module _ (d : ℕ) (s : List ℕ) (xs : List ℕ) where
  maybe-none : {A : Type 0} (read : ℕ → Got A) (p : ℕ) → p ≡ 0 → maybe_in read p ≡ None
  unfolding maybe_in
  maybe-none read p e = simp (eq-eqb p 0 e)

  maybe-some : {A : Type 0} (read : ℕ → Got A) (p : ℕ) → (p ≡ 0 → ⊥) → {o : Option A} → required_in read p ≡ o → maybe_in read p ≡ Some o
  unfolding maybe_in
  maybe-some read p n e = simp (ne_eqb p 0 n, e)

  pub report-neither : get_or xs 0 0 ≡ 0 → get_or xs 1 0 ≡ 0 → report_from d s xs ≡ None
  unfolding report_from
  report-neither e f = rw (maybe-none (answer_at d s) (get_or xs 0 0) e, maybe-none (data_at d s) (get_or xs 1 0) f) refl

  pub report-data : get_or xs 0 0 ≡ 0 → (get_or xs 1 0 ≡ 0 → ⊥) → {o : Option (DataOf ℕ)} → required_in (data_at d s) (get_or xs 1 0) ≡ o → report_from d s xs ≡ bind_o o (λ x. Some (shown x))
  unfolding report_from
  report-data e n f = rw (maybe-none (answer_at d s) (get_or xs 0 0) e, maybe-some (data_at d s) (get_or xs 1 0) n f) refl

  pub report-both : (get_or xs 0 0 ≡ 0 → ⊥) → (get_or xs 1 0 ≡ 0 → ⊥) → report_from d s xs ≡ None
  unfolding report_from
  report-both n m = rw (maybe-some (answer_at d s) (get_or xs 0 0) n refl, maybe-some (data_at d s) (get_or xs 1 0) m refl) refl

  pub report-status : (get_or xs 0 0 ≡ 0 → ⊥) → get_or xs 1 0 ≡ 0 → {o : Option Answer} → required_in (answer_at d s) (get_or xs 0 0) ≡ o → report_from d s xs ≡ bind_o o (λ x. Some (refused x))
  unfolding report_from
  report-status n e f = rw (maybe-some (answer_at d s) (get_or xs 0 0) n f, maybe-none (data_at d s) (get_or xs 1 0) e) refl

  pub report-no-answer : (get_or xs 0 0 ≡ 0 → ⊥) → required_in (answer_at d s) (get_or xs 0 0) ≡ None → report_from d s xs ≡ None
  report-no-answer n f = go (eqb (get_or xs 1 0) 0) refl
    where
      go : (b : Bool) → eqb (get_or xs 1 0) 0 ≡ b → report_from d s xs ≡ None
      go true e = report-status n (eqb-true (get_or xs 1 0) 0 e) f
      go false e = report-both n (eqb-false (get_or xs 1 0) 0 e)

  pub report-no-data : (get_or xs 1 0 ≡ 0 → ⊥) → required_in (data_at d s) (get_or xs 1 0) ≡ None → report_from d s xs ≡ None
  report-no-data n f = go (eqb (get_or xs 0 0) 0) refl
    where
      go : (b : Bool) → eqb (get_or xs 0 0) 0 ≡ b → report_from d s xs ≡ None
      go true e = report-data (eqb-true (get_or xs 0 0) 0 e) n f
      go false e = report-both (eqb-false (get_or xs 0 0) 0 e) n

-- a filter's version is required
pub filter-over : (p : ClusterPath) (v : ℕ) → ABSENT ≤ v → filter_of p v ≡ None
filter-over p v l = rw (le-ltb v ABSENT l) refl

pub filter-under : (p : ClusterPath) (v : ℕ) → v < ABSENT → filter_of p v ≡ Some (record { path = p; version = v })
filter-under p v l = rw (lt-ltb v ABSENT l) refl
