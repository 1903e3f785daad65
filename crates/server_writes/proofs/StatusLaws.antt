-- The statuses of a write: one for each entry, an octet each, and kept whole in the code's array.
use mathlib.Core.Path.{◌≡◌, refl, ap}
use mathlib.Core.List.{List, [], ◌∷◌}
use Prim.Native.Nat.{ℕ, zero, suc, ◌^◌, ◌≤◌, ◌<◌}
use native.Mathlib.Omega.{arith}
use lib.ListN.{length, get_or, take, length-take}
use Rattle.base_bounds.specs.Bounds.{payload_limit, write_limit}
use Rattle.tlv_reader.specs.declared.Value.{Value}
use Rattle.tlv_reader.proofs.Picks.{pick-elim}
use Rattle.im_requests.specs.Message.{first_of}
use Rattle.im_requests.specs.declared.write.WriteEntry.{WriteEntry}
use Rattle.im_requests.specs.Write.{no_entry}
use Rattle.node_kinds.specs.declared.Verdict.{Verdict}
use Rattle.node_kinds.specs.declared.Verdict.TheVariants.{Success, ConstraintError, InvalidDataType}
use Rattle.node_kinds.specs.Limits.{status_code}
use Rattle.node_schema.specs.Rows.{attribute_row}
use Rattle.node_access.specs.declared.Grants.{Grants}
use Rattle.server_selection.specs.declared.locate.Located.{Located}
use Rattle.server_selection.specs.declared.locate.Located.TheVariants.{Here, Refused}
use Rattle.server_selection.specs.declared.reach.Use.TheVariants.{Write}
use Rattle.server_selection.specs.Reach.{reached}
use Rattle.server_selection.proofs.ReachLaws.{Octet, and-then-octet, reached-octet}
use Rattle.server_writes.specs.Offer.{HeldValues, by_verdict, stored_in, verdict_on, offered, by_place}
use Rattle.tlv_reader.specs.Value.{value_in}
use Rattle.server_writes.specs.Entry.{version_fits, at_version, may_write, entry_written, codes_of, codes_in, InWidth}
use Rattle.server_writes.specs.Response.{response_payload}
use Rattle.server_writes.proofs.ResponseLaws.{response-length}

-- ---- a status is an octet

module _ (w : List ℕ) (g : Grants) (versions : List ℕ) where
  version-octet : (given i : ℕ) → Octet (at_version w versions given i)
  version-octet given i = pick-elim Octet (version_fits given (get_or versions (attribute_row w i).index_of_cluster 0)) _ _ (λ _. tt) (λ _. omega arith)

  may-octet : (x : WriteEntry) → Octet (may_write w g versions x)
  unfolding may_write
  may-octet x =
      and-then-octet (reached Write w g x.endpoint x.cluster x.attribute) (at_version w versions x.version)
      (reached-octet w Write g x.endpoint x.cluster x.attribute) (version-octet x.version)

module _ (w defaults : List ℕ) (h : HeldValues) (src : List ℕ) (new : Value) where
  pub offered-octet : (i : ℕ) → (offered w defaults h i src new).code < 2 ^ 8
  unfolding offered status_code
  offered-octet i = go (verdict_on w i src new)
    where
      go : (x : Verdict) → (by_verdict h (stored_in w defaults h i src new) x).code < 2 ^ 8
      go Success = omega arith
      go ConstraintError = omega arith
      go InvalidDataType = omega arith

  placed-octet : (l : Located) → Octet l → (by_place w defaults h src new l).code < 2 ^ 8
  placed-octet (Here i) o = offered-octet i
  placed-octet (Refused code) o = o

module _ (w : List ℕ) (g : Grants) (defaults s : List ℕ) where
  entry-octet : (h : HeldValues) (x : WriteEntry) → (entry_written w g defaults s h x).code < 2 ^ 8
  unfolding entry_written
  entry-octet h x = placed-octet w defaults h s (value_in s x.place) (may_write w g h.values.versions x) (may-octet w g h.values.versions x)

  pub codes-octets : (h : HeldValues) (xs : List WriteEntry) (i : ℕ) → i < length (codes_of w g defaults s h xs) → get_or (codes_of w g defaults s h xs) i 0 < 2 ^ 8
  unfolding codes_of
  codes-octets h [] i l = absurd (omega arith)
  codes-octets h (x ∷ xs) zero l = entry-octet h x
  codes-octets h (x ∷ xs) (suc i) l = codes-octets (entry_written w g defaults s h x).held xs i (omega arith)

  -- ---- each entry gets one

  pub one-status-each : (h : HeldValues) (xs : List WriteEntry) → length (codes_of w g defaults s h xs) ≡ length xs
  unfolding codes_of
  one-status-each h [] = refl
  one-status-each h (x ∷ xs) = ap suc (one-status-each (entry_written w g defaults s h x).held xs)

  -- the answer to a write of at most 16 entries fits one payload
  pub answer-length : (h : HeldValues) (xs : List WriteEntry) → length xs ≤ write_limit → ((i : ℕ) → i < length xs → InWidth (get_or xs i no_entry)) → length (response_payload xs (codes_of w g defaults s h xs)) ≤ payload_limit
  answer-length h xs l f = response-length xs (codes_of w g defaults s h xs) l f (codes-octets h xs)

-- ---- as the code keeps them

pub take-first : {A : Type 0} (n : ℕ) (z : A) (l : List A) (k : ℕ) → k ≡ length l → k ≤ n → take k (first_of n z l) ≡ l
unfolding first_of
take-first n z [] zero e h = refl
take-first n z [] (suc k) e h = absurd (omega arith)
take-first n z (x ∷ l) zero e h = absurd (omega arith)
take-first zero z (x ∷ l) (suc k) e h = absurd (omega arith)
take-first (suc n) z (x ∷ l) (suc k) e h = ap (λ r. x ∷ r) (take-first n z l k (omega arith) (omega arith))

pub codes-kept : (w : List ℕ) (g : Grants) (defaults s : List ℕ) (h : HeldValues) (xs : List WriteEntry) (n : ℕ) → n ≤ length xs → n ≤ write_limit → take n (codes_in (codes_of w g defaults s h (take n xs))) ≡ codes_of w g defaults s h (take n xs)
codes-kept w g defaults s h xs n l m =
    take-first write_limit 0 (codes_of w g defaults s h (take n xs)) n (omega (arith, one-status-each w g defaults s h (take n xs), length-take n xs)) m
