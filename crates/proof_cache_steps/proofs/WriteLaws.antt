-- A write of the cache is known by its exchange: no other message has it, and equal writes are of one path.
use Rattle.std.specs.Prelude.{Some, None, Option}
use mathlib.Core.Path.{◌≡◌, sym, ap, ◌∙◌}
use mathlib.Core.Logic.{◌⊎◌, inl, inr}
use mathlib.Core.Bool.{Bool}
use mathlib.Core.List.Memᴰ
use mathlib.Core.List.{List, [], ◌∷◌, Memᴰ}
use Prim.Native.Nat.{ℕ, ◌<◌}
use native.Mathlib.Omega.{arith}
use lib.ListN.{drop}
use Rattle.tlv_reader.specs.Tree.{Tree}
use Rattle.tlv_reader.specs.Value.{Datum}
use Rattle.im_members.specs.Array.{map_o}
use Rattle.im_requests.specs.Write.{EntryOf, WriteOf, write_in, write_tree}
use Rattle.proof_round_trip.specs.Meant.{write_means}
use Rattle.im_envelope.specs.Envelope.{envelope_in}
use Rattle.cache_messages.specs.Messages.{write_message}
use Rattle.proof_trip.proofs.BeginLaws.{read-envelope, write-envelope, success-envelope, write-meant}
use Rattle.proof_protocol.specs.Model.{Message, exchange_of}
use Rattle.proof_refinement.specs.Bytes.{MessageAs, reads, writes, succeeds, WriteFits, Wrote}
use Rattle.im_writer.specs.Envelope.{envelope_length, cache_edition, exchange_limit}
use Rattle.im_envelope.specs.declared.Fields.{Fields}

abbrev exchange_in : Option Fields → ℕ
exchange_in (Some e) = e.exchange
exchange_in None = 0

-- a message has its exchange in its envelope
message-exchange : (w m : List ℕ) (u : Message) → MessageAs w m u → exchange_in (envelope_in m) ≡ exchange_of u
message-exchange w m u (reads x fs e q fx fits few) = ap (λ (b : List ℕ). exchange_in (envelope_in b)) e ∙ ap exchange_in (read-envelope cache_edition x fs (omega arith) fx) ∙ ap exchange_of (sym q)
message-exchange w m u (writes x given version e c a d z q fx fits) = ap (λ (b : List ℕ). exchange_in (envelope_in b)) z ∙ ap exchange_in (write-envelope cache_edition x given version e c a d (omega arith) fx) ∙ ap exchange_of (sym q)
message-exchange w m u (succeeds x turn e q fx ft) = ap (λ (b : List ℕ). exchange_in (envelope_in b)) e ∙ ap exchange_in (success-envelope cache_edition x turn (omega arith) fx ft) ∙ ap exchange_of (sym q)

write-exchange : (x : ℕ) (given : Bool) (version e c a : ℕ) (d : Datum) → x < exchange_limit → (w : List ℕ) (u : Message) → MessageAs w (write_message cache_edition x given version e c a d) u → exchange_of u ≡ x
write-exchange x given version e c a d fx w u h =
    sym (message-exchange w (write_message cache_edition x given version e c a d) u h) ∙ ap exchange_in (write-envelope cache_edition x given version e c a d (omega arith) fx)

-- a number of the first entry of a write that was read
abbrev first_in : (EntryOf Tree → ℕ) → List (EntryOf Tree) → ℕ
first_in g [] = 0
first_in g (y ∷ l) = g y

abbrev first : (EntryOf Tree → ℕ) → Option (WriteOf Tree) → ℕ
first g None = 0
first g (Some r) = first_in g r.entries

module _ (x : ℕ) (given : Bool) (version e c a : ℕ) (d : Datum) where
  abbrev message : List ℕ
  message = write_message cache_edition x given version e c a d

  -- an equal one is of the same path
  one-path : WriteFits version e c a d → (given' : Bool) (version' e' c' a' : ℕ) (d' : Datum) → WriteFits version' e' c' a' d' → write_message cache_edition x given' version' e' c' a' d' ≡ message → (e ≡ e') × (c ≡ c') × (a ≡ a')
  one-path f given' version' e' c' a' d' f' q = (told (λ y. y.endpoint), told (λ y. y.cluster), told (λ y. y.attribute))
    where
      meant : List ℕ → Option (WriteOf Tree)
      meant m = map_o (write_tree 7 (drop envelope_length m)) (write_in (drop envelope_length m))

      same : Some (write_means given version e c a d) ≡ Some (write_means given' version' e' c' a' d')
      same =
          sym (write-meant cache_edition x given version e c a d f.version-fits f.path f.writable) ∙ ap meant (sym q)
          ∙ write-meant cache_edition x given' version' e' c' a' d' f'.version-fits f'.path f'.writable

      told : (g : EntryOf Tree → ℕ) → first g (Some (write_means given version e c a d)) ≡ first g (Some (write_means given' version' e' c' a' d'))
      told g = ap (first g) same

  -- A WRITE BEGUN: its exchange is new, so any write of it is this one
  pub own-path : x < exchange_limit → WriteFits version e c a d → (w : List ℕ) (old : List (List ℕ))
      → ((m : List ℕ) → Memᴰ m old → (u : Message) × MessageAs w m u × (exchange_of u < x))
      → (e' c' a' : ℕ) → Wrote (message ∷ old) x e' c' a' → (e ≡ e') × (c ≡ c') × (a ≡ a')
  own-path fx f w old older e' c' a' r = go (Memᴰ.cases_cons r.there)
    where
      go : (write_message cache_edition x r.given r.version e' c' a' r.value ≡ message) ⊎ Memᴰ (write_message cache_edition x r.given r.version e' c' a' r.value) old → (e ≡ e') × (c ≡ c') × (a ≡ a')
      go (inl q) = one-path f r.given r.version e' c' a' r.value r.fits q
      go (inr m) =
          let (u, is, low) = older (write_message cache_edition x r.given r.version e' c' a' r.value) m in
          absurd (omega (arith, low, write-exchange x r.given r.version e' c' a' r.value fx w u is))
