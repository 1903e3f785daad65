-- Attribute data (chapter 10, 10.5.4) and attribute reports (10.5.5). In bytes the data is the place where it stands, in trees it is a tree.
use Rattle.std.specs.Prelude.{ℕ, ◌-◌, List, [], ◌∷◌, Bool, true, false, get_or, eqb, Some, None, Option}
use Rattle.tlv_reader.specs.Octet.{pick, structure}
use Rattle.tlv_reader.specs.Tree.{Tree}
use Rattle.tlv_reader.specs.Walk.{Got, bind_g}
use Rattle.tlv_reader.specs.Walk.Got.{got, bad}
use Rattle.tlv_reader.specs.Decode.{bind_o, place, tree_at}
use Rattle.tlv_reader.specs.declared.Element.{Element}
use Rattle.im_members.specs.Pass.{frame_on}
use Rattle.im_members.specs.Fields.{Slot, inside_at, inside_t, or_none}
use Rattle.im_members.specs.Fields.Slot.{absent, present}
use Rattle.im_members.specs.Scalar.{WRONG, number_in, number_t}
use Rattle.im_members.specs.Array.{required_in, required_t}
use Rattle.im_blocks.specs.declared.Path.{Path}
use Rattle.im_blocks.specs.declared.Answer.{Answer}
use Rattle.im_blocks.specs.declared.Data.{Data}
use Rattle.im_blocks.specs.declared.Report.{Report}
use Rattle.im_blocks.specs.declared.Report.TheVariants as report
use Rattle.im_blocks.specs.Path.{path_at, path_t}
use Rattle.im_blocks.specs.Filter.{pair_tags}
use Rattle.im_blocks.specs.Status.{answer_at, answer_t}
use Rattle.tlv_reader.specs.declared.Cursor.{Cursor}

-- what attribute data is, over what data is
pub record DataOf (D : Type 0) : Type 0 where
  pub version : ℕ
  pub path : Path
  pub element : D

abbrev pub triple_tags : List Bool
triple_tags = true ∷ true ∷ true ∷ false ∷ false ∷ false ∷ false ∷ false ∷ false ∷ false ∷ []

abbrev pub versioned : {D : Type 0} → ℕ → Path → D → Option (DataOf D)
versioned v p x = pick (eqb v WRONG) None (Some (record { version = v; path = p; element = x }))

-- path and data are required, the version is not
abbrev pub data_with : {A D : Type 0} → (A → Option Path) → (A → Option D) → (ℕ → Bool → A → ℕ) → (ℕ → A) → Option (DataOf D)
data_with path any number at = bind_o (path (at 1)) (λ p. bind_o (any (at 2)) (λ x. versioned (number 4294967295 false (at 0)) p x))

-- a member of any kind: its place, or its tree
unfoldable pub any_in : ℕ → Option ℕ
any_in p = pick (eqb p 0) None (Some (p - 1))

abbrev pub any_t : Slot → Option Tree
any_t absent = None
any_t (present t) = Some t

unfoldable pub data_from : ℕ → List ℕ → List ℕ → Option (DataOf ℕ)
data_from d s seen = data_with (required_in (path_at d s)) any_in (λ m b p. number_in m b s p) (λ i. get_or seen i 0)

unfoldable pub data_at : ℕ → List ℕ → ℕ → Got (DataOf ℕ)
data_at d s at = bind_g (inside_at structure d s triple_tags at) (λ seen n. place (data_from (d - 1) s seen) n)

unfoldable pub data_on : ℕ → List ℕ → Element → Got (DataOf ℕ)
data_on d s e = frame_on structure d s triple_tags (data_from (d - 1) s) e

abbrev pub data_struct : DataOf ℕ → Data
data_struct x = record { version = x.version; path = x.path; place = x.element }

abbrev pub data_read : Got (DataOf ℕ) → Option (Data × Cursor)
data_read bad = None
data_read (got x n) = Some ((data_struct x), record { at = n })

unfoldable pub data_of : List Slot → Option (DataOf Tree)
data_of xs = data_with (required_t path_t) any_t number_t (λ i. get_or xs i absent)

unfoldable pub data_t : Tree → Option (DataOf Tree)
data_t t = bind_o (inside_t structure triple_tags t) data_of

-- a block of a report, over what data is
pub data ReportOf (D : Type 0) : Type 0 where
  shown : DataOf D → ReportOf D
  refused : Answer → ReportOf D

-- status or data, not both
abbrev pub either : {D : Type 0} → Option (Option Answer) → Option (Option (DataOf D)) → Option (ReportOf D)
either None None = None
either None (Some d) = bind_o d (λ x. Some (shown x))
either (Some a) None = bind_o a (λ x. Some (refused x))
either (Some a) (Some d) = None

-- a member that may be absent, and what it reads as where it is not
unfoldable pub maybe_in : {A : Type 0} → (ℕ → Got A) → ℕ → Option (Option A)
maybe_in read p = pick (eqb p 0) None (Some (required_in read p))

abbrev pub maybe_t : {A : Type 0} → (Tree → Option A) → Slot → Option (Option A)
maybe_t means absent = None
maybe_t means (present t) = Some (means t)

unfoldable pub report_from : ℕ → List ℕ → List ℕ → Option (ReportOf ℕ)
report_from d s seen = either (maybe_in (answer_at d s) (get_or seen 0 0)) (maybe_in (data_at d s) (get_or seen 1 0))

unfoldable pub report_at : ℕ → List ℕ → ℕ → Got (ReportOf ℕ)
report_at d s at = bind_g (inside_at structure d s pair_tags at) (λ seen n. place (report_from (d - 1) s seen) n)

unfoldable pub report_on : ℕ → List ℕ → Element → Got (ReportOf ℕ)
report_on d s e = frame_on structure d s pair_tags (report_from (d - 1) s) e

abbrev pub report_struct : ReportOf ℕ → Report
report_struct (shown x) = report.Shown (data_struct x)
report_struct (refused x) = report.Refused x

abbrev pub report_read : Got (ReportOf ℕ) → Option (Report × Cursor)
report_read bad = None
report_read (got x n) = Some ((report_struct x), record { at = n })

unfoldable pub report_of : List Slot → Option (ReportOf Tree)
report_of xs = either (maybe_t answer_t (get_or xs 0 absent)) (maybe_t data_t (get_or xs 1 absent))

unfoldable pub report_t : Tree → Option (ReportOf Tree)
report_t t = bind_o (inside_t structure pair_tags t) report_of

-- the tree that stands at a place, for each place
abbrev pub data_tree : ℕ → List ℕ → DataOf ℕ → DataOf Tree
data_tree d s x = record { version = x.version; path = x.path; element = or_none (tree_at d s x.element) }

abbrev pub report_tree : ℕ → List ℕ → ReportOf ℕ → ReportOf Tree
report_tree d s (shown x) = shown (data_tree d s x)
report_tree d s (refused x) = refused x
