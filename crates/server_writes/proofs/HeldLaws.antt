-- What offering, changing and writing keep: whatever storing keeps.
use mathlib.Core.Path.{◌≡◌, refl}
use mathlib.Core.Bool.{true}
use mathlib.Core.List.{List, [], ◌∷◌}
use Prim.Native.Nat.{ℕ, ◌<◌}
use lib.Dec.{eqb}
use lib.ListN.{length}
use Rattle.tlv_reader.specs.declared.Value.{Value}
use Rattle.tlv_reader.specs.Value.{Datum, datum_in}
use Rattle.im_requests.specs.declared.write.WriteEntry.{WriteEntry}
use Rattle.node_kinds.specs.declared.Verdict.{Verdict}
use Rattle.node_kinds.specs.declared.Verdict.TheVariants.{Success, ConstraintError, InvalidDataType}
use Rattle.node_kinds.specs.Stored.{Sized}
use Rattle.node_schema.specs.Rows.{attribute_row, count_of_attributes}
use Rattle.node_schema.specs.Rules.{Rules}
use Rattle.node_schema.proofs.BoolLaws.{by-test}
use Rattle.node_access.specs.declared.Grants.{Grants}
use Rattle.node_plan.specs.Attributes.{kind_of}
use Rattle.server_values.specs.declared.Values.{Values}
use Rattle.server_values.specs.Change.{changes, stored_edits}
use Rattle.server_values.specs.Valid.{values_right}
use Rattle.server_values.proofs.AcceptedLaws.{accepted}
use Rattle.server_values.specs.Storing.{Whole, Storing}
use Rattle.server_values.proofs.StoreLaws.{edits-length, store_keeps, whole-kept}
use Rattle.server_selection.specs.declared.locate.Located.{Located}
use Rattle.server_selection.specs.declared.locate.Located.TheVariants.{Here, Refused}
use Rattle.server_selection.specs.Locate.{located}
use Rattle.server_selection.proofs.LocateLaws.{located_here}
use Rattle.server_writes.specs.Offer.{HeldValues, by_verdict, stored_in, verdict_on, offered, by_place, changed}
use Rattle.tlv_reader.specs.Value.{value_in}
use Rattle.server_writes.specs.Entry.{may_write, entry_written, held_after}
use Rattle.server_writes.proofs.EntryLaws.{may-index}
use Rattle.node_kinds.proofs.SizedLaws.{value-in-sized}

module _ (P : HeldValues → Type 0) (w defaults : List ℕ) where
  module _ (h : HeldValues) (src : List ℕ) (new : Value) (now : P h) where
    pub offered-holds : (i : ℕ) → (verdict_on w i src new ≡ Success → P (stored_in w defaults h i src new)) → P (offered w defaults h i src new).held
    unfolding offered
    offered-holds i f = go (verdict_on w i src new) refl
      where
        go : (x : Verdict) → verdict_on w i src new ≡ x → P (by_verdict h (stored_in w defaults h i src new) x).held
        go Success e = f e
        go ConstraintError e = now
        go InvalidDataType e = now

    pub placed-holds : (l : Located) → ((i : ℕ) → l ≡ Here i → verdict_on w i src new ≡ Success → P (stored_in w defaults h i src new)) → P (by_place w defaults h src new l).held
    placed-holds (Here i) f = offered-holds i (f i refl)
    placed-holds (Refused code) f = now

  pub writes-hold : (g : Grants) (s : List ℕ) → ((h : HeldValues) (x : WriteEntry) → P h → P (entry_written w g defaults s h x).held) → (h : HeldValues) (xs : List WriteEntry) → P h → P (held_after w g defaults s h xs)
  unfolding held_after
  writes-hold g s f h [] p = p
  writes-hold g s f h (x ∷ xs) p = writes-hold g s f (entry_written w g defaults s h x).held xs (f h x p)

-- ---- the page of edits keeps its length

stored-length : (w defaults edits : List ℕ) (v : Values) (i : ℕ) (d : Datum) → length (stored_edits w defaults edits v i d) ≡ length edits
unfolding stored_edits
stored-length w defaults edits v i d = by-test (changes w defaults edits v i d) (λ c. rw c (edits-length w edits i d)) (λ c. rw c)

module _ (w defaults : List ℕ) where
  -- what is held has a page of this length
  abbrev Paged : ℕ → HeldValues → Type 0
  Paged n h = length h.edits ≡ n

  module _ (h : HeldValues) where
    placed-length : (src : List ℕ) (new : Value) (l : Located) → length (by_place w defaults h src new l).held.edits ≡ length h.edits
    placed-length src new l =
        placed-holds (Paged (length h.edits)) w defaults h src new refl l (λ i e f. stored-length w defaults h.edits h.values i (datum_in src new))

    pub entry_length : (g : Grants) (s : List ℕ) (x : WriteEntry) → length (entry_written w g defaults s h x).held.edits ≡ length h.edits
    unfolding entry_written
    entry_length g s x = placed-length s (value_in s x.place) (may_write w g h.values.versions x)

-- ---- and what is held keeps the rules

pub record Right (w defaults : List ℕ) (h : HeldValues) : Type 0 where
  pub whole : Whole h.values
  pub right : values_right w defaults h.edits h.values ≡ true

module _ (w defaults : List ℕ) (rules : Rules w) where
  stored-keeps : (h : HeldValues) (i : ℕ) (src : List ℕ) (new : Value) → Right w defaults h → i < count_of_attributes w → Sized new → verdict_on w i src new ≡ Success → Right w defaults (stored_in w defaults h i src new)
  stored-keeps h i src new r there sized e =
      let d = datum_in src new in
      let st : Storing w defaults h.edits h.values i d = record {
        rules = rules;
        whole = r.whole;
        right = r.right;
        there = there;
        accepted = accepted src (eqb (attribute_row w i).nullable 1) (kind_of (attribute_row w i)) new sized e;
      } in
      record { whole = whole-kept w defaults h.edits h.values i d st; right = store_keeps w defaults h.edits h.values i d st }

  module _ (h : HeldValues) (right : Right w defaults h) where
    pub changed-keeps : (e c a : ℕ) (src : List ℕ) (new : Value) → Sized new → Right w defaults (changed w defaults h e c a src new).held
    unfolding changed
    changed-keeps e c a src new z =
        placed-holds (Right w defaults) w defaults h src new right (located w e c a)
        (λ i f. stored-keeps h i src new right (located_here w e c a i f).0 z)

    entry-keeps : (g : Grants) (s : List ℕ) (x : WriteEntry) → Right w defaults (entry_written w g defaults s h x).held
    unfolding entry_written
    entry-keeps g s x =
        placed-holds (Right w defaults) w defaults h s (value_in s x.place) right (may_write w g h.values.versions x)
        (λ i f. stored-keeps h i s (value_in s x.place) right (may-index w g h.values.versions x i f) (value-in-sized s x.place))

  pub writes-keep : (h : HeldValues) → Right w defaults h → (g : Grants) (s : List ℕ) (xs : List WriteEntry) → Right w defaults (held_after w g defaults s h xs)
  writes-keep h r g s xs = writes-hold (Right w defaults) w defaults g s (λ k x p. entry-keeps k p g s x) h xs r
