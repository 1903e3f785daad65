-- After a promise a success gets a part: the next one, made of what is held then, which may have no block.
use Rattle.std.specs.Prelude.{Some}
use mathlib.Core.Path.{◌≡◌, refl, ap, ◌∙◌}
use mathlib.Core.Bool.{true}
use mathlib.Core.List.{List, [], ◌∷◌}
use Prim.Native.Nat.{ℕ, ◌≤◌}
use native.Mathlib.Omega.{arith}
use borrow.Author.Tests.{eq-eqb, lt-ltb}
use lib.ListN.{length, drop}
use Rattle.im_envelope.specs.declared.Fields.{Fields}
use Rattle.im_requests.specs.Status.{response_in}
use Rattle.im_exchange.specs.declared.Progress.{Progress}
use Rattle.im_exchange.specs.declared.Step.TheVariants.{Next}
use Rattle.im_exchange.specs.declared.Action.TheVariants.{Status}
use Rattle.im_exchange.specs.Rules.{max_turn, action_of, on_status}
use Rattle.im_exchange.proofs.ActionLaws.{status-action}
use Rattle.server_replies.specs.Messages.{envelope_length, max_message}
use Rattle.server_replies.specs.Server.{Server, Caller, with_row}
use Rattle.server_replies.specs.Row.{kept_reply, next_part}
use Rattle.server_replies.proofs.KeptLaws.{next-right, next-some}
use Rattle.im_writer.specs.Envelope.{cache_edition}
use Rattle.server.specs.State.{server_right}
use Rattle.server.specs.Receive.{number_for, replied, step_of, reacted, received, for_server}
use Rattle.server.specs.Promise.{Success, Promised}
use Rattle.server.proofs.ReactLaws.{kept-length, next-whole, len_of}
use Rattle.server.proofs.ReceiveLaws.{served, right-row-of}

step-next : (x : Progress) (e : Fields) (payload : List ℕ) → e.exchange ≡ x.last → e.turn ≡ x.turn → response_in payload ≡ Some 0 → Promised x → step_of x Status e payload ≡ Next
unfolding step_of on_status
step-next x e payload a b c p =
    rw (c, eq-eqb e.exchange x.last a, p.unclosed, eq-eqb e.turn x.turn b, p.promised, lt-ltb x.turn max_turn p.left) refl

for-status : (edition : ℕ) → edition ≡ cache_edition → for_server edition Status ≡ true
unfolding for_server
for-status edition e = rw e refl

some_number : (l : List ℕ) → envelope_length ≤ length l → number_for l ≡ 0
some_number [] h = absurd (omega arith)
some_number (x ∷ l) h = refl

module _ (s : Server) (c : Caller) (m : List ℕ) (room : ℕ) (h : server_right s ≡ true) (table : c.table ≡ true) (enough : max_message ≤ room) {e : Fields} (y : Success s c m e) (p : Promised s.state.row.progress) where
  pub promised-part : received s c m room ≡ replied (with_row s.state (next_part s c.grants))
  unfolding reacted
  promised-part =
      served s c m room h table enough y.found (ap action_of y.opcode ∙ status-action) y.fits (for-status e.edition y.edition) y.ours
      ∙ ap (reacted s c.grants e (drop envelope_length m) Status) (step-next s.state.row.progress e (drop envelope_length m) y.exchange y.turn y.status p)

  -- so it is never silence
  pub promised-answered : length s.state.row.kept ≡ max_message → (received s c m room).number ≡ 0
  promised-answered whole =
      let x = next_part s c.grants in
      ap (λ r. r.number) promised-part
      ∙ some_number (kept_reply x) (omega (arith, next-some s c.grants, kept-length x (next-whole s c.grants ∙ whole) (len_of x (next-right s c.grants (right-row-of s h) p.left (λ z. omega (arith, z, p.promised))))))
