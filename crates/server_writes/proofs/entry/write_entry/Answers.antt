use mathlib.Core.Path.{◌≡◌, refl, sym, ◌∙◌}
use Rattle.tlv_reader.specs.Value.{value_in}
use Rattle.server_writes.specs.Entry.{may_write, entry_written}
use Rattle.server_writes.proofs.EntryLaws.{may-index}
use Rattle.server_writes.proofs.entry.write_entry.Goals as goal

pub offer-requires : goal.offer-requires
offer-requires c = let a = c.args in let p = c.requires in (p.0, (may-index a.w.now a.g a.versions.now a.x _ (sym c.may_write.ensures ∙ c.in-Here.is), p.1.1))

pub returns-in-Here : goal.returns-in-Here
unfolding entry_written
returns-in-Here c = let a = c.args in
    let q : may_write a.w.now a.g a.versions.now a.x ≡ _ = sym c.may_write.ensures ∙ c.in-Here.is in
    let e : value_in a.s.now a.x.place ≡ _ = sym c.value_in.ensures in
    rw (q, e) c.offer.ensures

pub returns-in-Refused : goal.returns-in-Refused
unfolding entry_written
returns-in-Refused c = let a = c.args in
    let q : may_write a.w.now a.g a.versions.now a.x ≡ _ = sym c.may_write.ensures ∙ c.in-Refused.is in
    rw q refl
