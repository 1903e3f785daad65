-- An access table that breaks the rules: whatever else is wrong or right, the answer is 2 and nothing is touched.
use mathlib.Core.Path.{◌≡◌, refl, sym, ◌∙◌}
use mathlib.Core.Bool.{true, false, and-false, false≢true}
use mathlib.Core.List.{List, Memᴰ}
use Prim.Native.Nat.{ℕ, ◌<◌}
use native.Mathlib.Omega.{arith}
use borrow.Author.Tests.{lt-leb, le-leb}
use lib.ListN.{length}
use Rattle.base_bounds.specs.Bounds.{entry_limit}
use Rattle.node_schema.specs.Layout.{administer}
use Rattle.node_schema.proofs.BoolLaws.{by-test, both}
use Rattle.node_access.specs.declared.AccessEntry.{AccessEntry}
use Rattle.node_access.specs.Access.{view, privilege_ok, table_ok}
use Rattle.node_access.specs.Table.{table_right}
use Rattle.node_access.proofs.RuleLaws.{table-exactly}
use Rattle.server_replies.specs.Server.{Server, Caller}
use Rattle.server.specs.State.{server_right}
use Rattle.server.specs.Receive.{refusal, received}

module _ (s : Server) (c : Caller) (m : List ℕ) (room : ℕ) where
  broken-table : c.table ≡ false → received s c m room ≡ refusal 2 s.state
  unfolding received
  broken-table f = rw (f, and-false (server_right s)) refl

  -- more than 16 entries
  pub too_many : (es : List AccessEntry) → c.table ≡ table_ok es → entry_limit < length es → received s c m room ≡ refusal 2 s.state
  too_many es t l =
      broken-table (t ∙ by-test (table_ok es) (λ h. absurd (omega (arith, ((table-exactly es).0 h).0))) (λ h. h))

  -- an entry whose privilege there is none of: 0, or above Administer
  pub no-privilege : (es : List AccessEntry) (e : AccessEntry) → c.table ≡ table_ok es → Memᴰ e es → privilege_ok e.privilege ≡ false → received s c m room ≡ refusal 2 s.state
  unfolding privilege_ok
  no-privilege es e t i f =
      broken-table
      (t
      ∙ by-test (table_ok es)
      (λ h.
      let l = ((table-exactly es).0 h).1 e i in
      let p : privilege_ok e.privilege ≡ true = both _ _ (le-leb view e.privilege l.0) (le-leb e.privilege administer l.1) in
      absurd (false≢true (sym f ∙ p)))
      (λ h. h))

  -- a count above 16, whatever the entries are
  pub count-above : (n : ℕ) (es : List AccessEntry) → c.table ≡ table_right n es → entry_limit < n → received s c m room ≡ refusal 2 s.state
  unfolding table_right
  count-above n es t l = let q : table_right n es ≡ false = rw (lt-leb n entry_limit l) in broken-table (t ∙ q)
