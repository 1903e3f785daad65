use Rattle.server_values.proofs.ChangeLaws.{from_null, to-null, text-differs, word-differs}
use mathlib.Core.Path.{sym, ap, ◌∙◌}
use mathlib.Core.Bool.{not}
use lib.Dec.{eqb}
use Rattle.tlv_reader.specs.Value.{datum_in}
use Rattle.node_kinds.specs.Stored.{equal}
use Rattle.server_values.proofs.ChangeLaws.{null-in}
use Prim.Native.Nat.{ℕ}
use Rattle.server_values.proofs.change.differs_from.Goals as goal

pub returns-then-null : goal.returns-then-null
returns-then-null c = let a = c.args in let s = a.src.now in let n = c.is_null-new_null.ensures ∙ null-in s a.v in ap not n ∙ from_null a.word a.null a.text.now (datum_in s a.v) c.if-null.true

pub returns-then-new_null : goal.returns-then-new_null
returns-then-new_null c = let a = c.args in let s = a.src.now in let n = c.is_null-new_null.ensures ∙ null-in s a.v in to-null a.word a.null a.text.now (datum_in s a.v) c.if-null.false (sym n ∙ c.if-new_null.true)

pub returns-then-is_text : goal.returns-then-is_text
returns-then-is_text c = let a = c.args in let s = a.src.now in let n = c.is_null-new_null.ensures ∙ null-in s a.v in
    ap not (c.same_bytes.ensures ∙ ap (equal a.text.now) c.bytes_of.ensures)
    ∙ text-differs a.word a.null a.text.now (datum_in s a.v) c.if-null.false (sym n ∙ c.if-new_null.false) (sym (c.is_text.ensures s) ∙ c.if-is_text.true)

pub returns : goal.returns
returns c = let a = c.args in let s = a.src.now in let n = c.is_null-new_null.ensures ∙ null-in s a.v in
    ap (λ (x : ℕ). not (eqb a.word x)) (c.stored_word.ensures s)
    ∙ word-differs a.word a.null a.text.now (datum_in s a.v) c.if-null.false (sym n ∙ c.if-new_null.false) (sym (c.is_text.ensures s) ∙ c.if-is_text.false)
