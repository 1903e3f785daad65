-- A fresh server and a local change, case by case for the code.
use mathlib.Core.Path.{◌≡◌, refl, sym, ap, ◌∙◌}
use mathlib.Core.Bool.{Bool, true, false}
use mathlib.Core.List.{List}
use Prim.Native.Nat.{ℕ}
use native.Mathlib.Omega.{arith}
use Rattle.tlv_reader.specs.declared.Value.{Value}
use Rattle.tlv_reader.specs.Octet.{pick}
use Rattle.node_schema.specs.Check as Schema
use Rattle.node_schema.proofs.BoolLaws.{left, by-test}
use Rattle.node_plan.specs.Check.{accepted, done, schema_refused, checked}
use Rattle.server_values.specs.declared.Values.{Values}
use Rattle.server_values.specs.Fresh.{fresh_values}
use Rattle.server_writes.specs.Offer.{StoreOutcome, changed}
use Rattle.server_replies.specs.Server.{Server, ServerReaction, held_by}
use Rattle.server.specs.State.{server_right}
use Rattle.server.specs.Start.{fresh_words, fresh_kept, started, Starts, altered, altered_by, Alters}
use Rattle.server.specs.Receive.{refusal}

-- ---- a fresh server

done-if : (b : Bool) → pick b done schema_refused ≡ done → b ≡ true
done-if true h = refl
done-if false h = absurd (omega arith)

module _ (w defaults : List ℕ) where
  pub accepted-schema : accepted w defaults ≡ true → Schema.well_formed w ≡ true
  unfolding accepted
  accepted-schema h = left (Schema.well_formed w) _ h

  -- as the code asks
  module _ {n : ℕ} (e : n ≡ checked w defaults) where
    pub is-accepted : n ≡ 0 → accepted w defaults ≡ true
    unfolding checked
    is-accepted z = done-if (accepted w defaults) (sym e ∙ z)

    pub is-refused : (n ≡ 0 → ⊥) → accepted w defaults ≡ false
    unfolding checked
    is-refused f = by-test (accepted w defaults) (λ t. absurd (f (e ∙ ap (λ (b : Bool). pick b done schema_refused) t))) (λ t. t)

  -- and what it leaves
  module _ (edits : List ℕ) {v : Values} {row kept : List ℕ} where
    pub none-started : accepted w defaults ≡ false → Starts (started w defaults edits) 11 v v row row kept kept
    unfolding started
    none-started h = rw h (record { code = refl; held = refl; words = refl; bytes = refl })

    pub is-started : accepted w defaults ≡ true → {new : Values} {new_row new_kept : List ℕ} → new ≡ fresh_values w → new_row ≡ fresh_words → new_kept ≡ fresh_kept → Starts (started w defaults edits) 0 v new row new_row kept new_kept
    unfolding started
    is-started h e p q = rw h (record { code = refl; held = e; words = p; bytes = q })

-- ---- a local change

module _ (s : Server) (e c a : ℕ) (src : List ℕ) (new : Value) where
  -- the change of what is held
  abbrev made : StoreOutcome
  made = changed s.schema s.defaults (held_by s.state) e c a src new

  pub altered-right : server_right s ≡ true → altered_by s e c a src new ≡ altered s.state made
  unfolding altered_by
  altered-right h = rw h

  altered-broken : server_right s ≡ false → altered_by s e c a src new ≡ refusal 2 s.state
  unfolding altered_by
  altered-broken h = rw h

  -- a broken server: 2, and nothing moves
  pub broken-alters : server_right s ≡ false → Alters (altered_by s e c a src new) 2 (held_by s.state)
  broken-alters h =
      let q = sym (altered-broken h) in
      record { code = ap (λ (x : ServerReaction). x.number) q; held = ap (λ (x : ServerReaction). held_by x.state) q }

  -- a right one
  pub right-alters : server_right s ≡ true → {o : StoreOutcome} → o ≡ made → Alters (altered_by s e c a src new) o.code o.held
  right-alters h {o} p =
      let q = sym (altered-right h) in
      record {
        code = ap (λ (x : StoreOutcome). x.code) p ∙ ap (λ (x : ServerReaction). x.number) q;
        held = ap (λ (x : StoreOutcome). x.held) p ∙ ap (λ (x : ServerReaction). held_by x.state) q;
      }
