use mathlib.Core.Path.{refl, ap, ◌∙◌}
use native.Mathlib.Omega.{arith}
use native.Mathlib.Nat.{zero-add}
use Rattle.base_octets.specs.Store.{store}
use Rattle.base_octets.proofs.StoreLaws.{then}
use Rattle.im_writer.specs.Envelope.{big_octets}
use Rattle.script_answer.specs.Messages.{answer}
use Rattle.script_cache.proofs.EntryLaws.{untagged-bound}
use Rattle.script_cache.proofs.ask.say_entry.Goals as goal

pub put_value-len-requires : goal.put_value-len-requires
put_value-len-requires c =
    let s = rw c.in-Here.is at c.requires in
    let e = c.held-shown.ensures.same s.0 in
    let b = rw (← e) at (untagged-bound _ s.1) in
    (c.held-shown.ensures.in_page, omega (arith, b))

pub returns-in-Broken : goal.returns-in-Broken
unfolding store
returns-in-Broken c = rw c.in-Broken.is (record { line = c.said.ensures; content = refl })

pub returns-in-Nothing : goal.returns-in-Nothing
unfolding store
returns-in-Nothing c = rw c.in-Nothing.is (record { line = c.said-in-Nothing.ensures; content = refl })

pub returns-in-Here : goal.returns-in-Here
unfolding big_octets
returns-in-Here c =
    let s = rw c.in-Here.is at c.requires in
    let w = rw (c.held-shown.ensures.same s.0) at c.put_value-len.ensures in
    let t = then (record { content = c.put_version.ensures; place = refl }) w in
    rw c.in-Here.is (record { line = c.said-in-Here.ensures ∙ ap (answer 0) (t.place ∙ zero-add _); content = t.content })
