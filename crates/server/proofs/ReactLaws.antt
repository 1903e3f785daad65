-- What the code answers is the reaction: number, state, length, page and buffer.
use mathlib.Core.Path.{◌≡◌, refl, sym, ap, ◌∙◌}
use mathlib.Core.Bool.{true}
use mathlib.Core.List.{List, [], ◌∷◌}
use Prim.Native.Nat.{ℕ, suc, ◌≤◌}
use native.Mathlib.Omega.{arith}
use borrow.Author.Tests.{ne_eqb}
use lib.Dec.{eqb}
use lib.ListN.{length}
use lib.Seq.{length-take-le}
use Rattle.base_octets.specs.Store.{store}
use Rattle.tlv_reader.specs.Octet.{pick}
use Rattle.server_replies.specs.declared.ExchangeRow.{ExchangeRow}
use Rattle.server_replies.specs.declared.RowStanding.{RowStanding}
use Rattle.server_replies.specs.Messages.{max_message}
use Rattle.server_replies.specs.Server.{ServerState, Server, held_by, with_row}
use Rattle.server_replies.specs.Row.{kept_reply, next_part, row_right, row_in, row_of, standing_in, standing_words, put_row}
use Rattle.server_replies.specs.Begin.{Begins, Wrote}
use Rattle.server_replies.proofs.RowLaws.{row-right, kept-short}
use Rattle.server_replies.proofs.KeptLaws.{keeping-whole}
use Rattle.server_replies.proofs.LentLaws.{request-same, row_same}
use Rattle.server_selection.specs.Request.{standing_at}
use Rattle.node_access.specs.declared.Grants.{Grants}
use Rattle.server_writes.specs.Offer.{HeldValues}
use Rattle.server.specs.declared.Outcome.{Outcome}
use Rattle.server.specs.State.{state_in}
use Rattle.server.specs.Receive.{refusal, number_for, answering, silence, replied, closing, outcome_with, ServerReacted}

-- a length says whether there is a reply
number-for : (l : List ℕ) → pick (eqb (length l) 0) 1 0 ≡ number_for l
number-for [] = refl
number-for (x ∷ l) = rw (ne_eqb (suc (length l)) 0 (λ z. omega arith)) refl

module _ {r : Outcome} {h : HeldValues} {row new_row kept old new : List ℕ} where
  -- a reply of which the code knows the length
  pub answering-as : (u : ServerState) (reply : List ℕ) (len : ℕ) → len ≡ length reply → r ≡ outcome_with len → h ≡ held_by u → new_row ≡ put_row row u.row → kept ≡ u.row.kept → new ≡ store old 0 reply → ServerReacted (answering u reply) r h row new_row kept old new
  answering-as u reply len q e p w k b = record {
    number = ap (λ (o : Outcome). o.number) e ∙ ap (λ (n : ℕ). pick (eqb n 0) 1 0) q ∙ number-for reply;
    len = ap (λ (o : Outcome). o.len) e ∙ q;
    held = p;
    words = w;
    bytes = k;
    buffer = b;
  }

  -- the exchange goes on by this row
  pub begins-as : (u : ServerState) {t : RowStanding} {stored : List ℕ} → Begins u.row t row stored kept old new → r ≡ outcome_with t.len → h ≡ held_by u → new_row ≡ store stored standing_at (standing_words t) → ServerReacted (replied u) r h row new_row kept old new
  unfolding put_row
  begins-as u {t} {stored} g e p w =
      answering-as u (kept_reply u.row) t.len (ap (λ (z : RowStanding). z.len) g.standing ∙ sym g.full) e p
      (w ∙ (λ j. store (g.request j) standing_at (standing_words (g.standing j)))) g.reply g.buffer

  pub wrote_as : (u : ServerState) {t : RowStanding} → Wrote u t h row row kept old new → r ≡ outcome_with t.len → new_row ≡ store row standing_at (standing_words t) → ServerReacted (replied u) r h row new_row kept old new
  wrote_as u g e w = begins-as u g.begins e g.held w

-- nothing moves
module _ {r : Outcome} (h : HeldValues) (row kept : List ℕ) {old new : List ℕ} where
  pub same-as : (reply : List ℕ) (len : ℕ) → len ≡ length reply → r ≡ outcome_with len → new ≡ store old 0 reply → ServerReacted (answering (state_in h row kept) reply) r h row row kept old new
  same-as reply len q e b = answering-as (state_in h row kept) reply len q e refl (sym (row_same row kept)) refl b

  pub silence-as : r ≡ outcome_with 0 → new ≡ old → ServerReacted (silence (state_in h row kept)) r h row row kept old new
  unfolding store
  silence-as e b = same-as [] 0 refl e b

  pub refused_as : (n : ℕ) → r ≡ record { number = n; len = 0 } → new ≡ old → ServerReacted (refusal n (state_in h row kept)) r h row row kept old new
  unfolding store
  refused_as n e b = record { number = ap (λ (o : Outcome). o.number) e; len = ap (λ (o : Outcome). o.len) e; held = refl; words = sym (row_same row kept); bytes = refl; buffer = b }

  -- the kept reply again
  pub repeat-as : length kept ≡ max_message → (standing_in row).len ≤ max_message → r ≡ outcome_with (standing_in row).len → new ≡ store old 0 (kept_reply (row_of row kept)) → ServerReacted (answering (state_in h row kept) (kept_reply (row_of row kept))) r h row row kept old new
  repeat-as whole few e b =
      same-as (kept_reply (row_of row kept)) (standing_in row).len (sym (length-take-le (standing_in row).len kept (omega (arith, whole)))) e b

  -- the exchange is closed
  pub closed-as : {t : RowStanding} {new_row : List ℕ} → row_in row t kept ≡ closing (row_of row kept) → r ≡ outcome_with 0 → new_row ≡ store row standing_at (standing_words t) → new ≡ old → ServerReacted (silence (with_row (state_in h row kept) (closing (row_of row kept)))) r h row new_row kept old new
  unfolding put_row store
  closed-as {t} q e w b =
      answering-as (with_row (state_in h row kept) (closing (row_of row kept))) [] 0 refl e refl
      (w ∙ (λ j. store (sym (request-same row t.asked) j) standing_at (standing_words t)) ∙ ap (λ (y : ExchangeRow). put_row row y) q) (ap (λ (y : ExchangeRow). y.kept) q) b

-- the kept reply is whole
pub kept-length : (x : ExchangeRow) → length x.kept ≡ max_message → x.len ≤ max_message → length (kept_reply x) ≡ x.len
kept-length x whole h = length-take-le x.len x.kept (omega (arith, whole))

pub next-whole : (s : Server) (g : Grants) → length (next_part s g).kept ≡ length s.state.row.kept
unfolding next_part
next-whole s g = keeping-whole s.state.row _ _ _ _

pub len_of : (x : ExchangeRow) → row_right x ≡ true → x.len ≤ max_message
len_of x h = kept-short x.len (row-right x h).kept
