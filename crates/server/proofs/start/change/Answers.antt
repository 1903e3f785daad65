use mathlib.Core.Path.{◌≡◌, sym, ap, ◌∙◌}
use mathlib.Core.List.{List, []}
use Prim.Native.Nat.{ℕ}
use Rattle.server_values.specs.Values.{values_of}
use Rattle.server_writes.specs.Offer.{held_of}
use Rattle.server_values.proofs.ValidLaws.{edits-size}
use Rattle.server_replies.specs.declared.RowStanding.{RowStanding}
use Rattle.server_replies.specs.Server.{server_with}
use Rattle.server_replies.specs.Row.{row_in}
use Rattle.server.specs.State.{server_right, server_in}
use Rattle.server.proofs.ServerLaws.{server-right, schema-of}
use Rattle.server.proofs.StartLaws.{broken-alters, right-alters}
use Rattle.server.proofs.start.change.Goals as goal
use Rattle.server.proofs.start.change.Goals.{After-server_ok}

-- what was tested is the server's state, whatever reply is kept
tested : (c : After-server_ok) (kept : List ℕ) → let a = c.args in c.server_ok.result ≡ server_right (server_in a.w.now a.defaults.now (held_of a.words.now a.nulls.now a.texts.now a.versions.now a.edits.now) a.row.now kept)
tested c kept =
    let a = c.args in
    c.server_ok.ensures a.versions.now a.row.now kept
    ∙ ap (λ (u : RowStanding). server_right (server_with a.w.now a.defaults.now (held_of a.words.now a.nulls.now a.texts.now a.versions.now a.edits.now) (row_in a.row.now u kept))) c.read_standing-t.ensures

pub returns-then-not-server_ok : goal.returns-then-not-server_ok
returns-then-not-server_ok c = let a = c.args in λ kept. broken-alters (server_in a.w.now a.defaults.now (held_of a.words.now a.nulls.now a.texts.now a.versions.now a.edits.now) a.row.now kept) a.endpoint a.cluster a.attribute a.src.now a.new (sym (tested (goal.at.returns-then-not-server_ok c).After-server_ok kept) ∙ c.if-not-server_ok.true)

pub change-requires : goal.change-requires
change-requires c = let a = c.args in let r = server-right (server_in a.w.now a.defaults.now (held_of a.words.now a.nulls.now a.texts.now a.versions.now a.edits.now) a.row.now []) (sym (tested (goal.at.change-requires c).After-server_ok []) ∙ c.if-not-server_ok.false) in (schema-of (server_in a.w.now a.defaults.now (held_of a.words.now a.nulls.now a.texts.now a.versions.now a.edits.now) a.row.now []) r, edits-size a.w.now a.defaults.now a.edits.now (values_of a.words.now a.nulls.now a.texts.now a.versions.now) r.values)

pub returns : goal.returns
returns c = let a = c.args in λ kept. right-alters (server_in a.w.now a.defaults.now (held_of a.words.now a.nulls.now a.texts.now a.versions.now a.edits.now) a.row.now kept) a.endpoint a.cluster a.attribute a.src.now a.new (sym (tested (goal.at.returns c).After-server_ok kept) ∙ c.if-not-server_ok.false) c.change.ensures
