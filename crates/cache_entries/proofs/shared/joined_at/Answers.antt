use Rattle.cache_entries.proofs.JoinLaws.{along-here, along-elsewhere, along-done}
use Rattle.cache_entries.proofs.shared.joined_at.Goals as goal
use Rattle.cache_entries.proofs.shared.joined_at.Goals.{then-keys-i, else-keys-i}

pub loop-i-preserved : goal.loop-i-preserved
loop-i-preserved c =
    let l = c.loop-i in
    elim c.if-keys-i.branch [
      | then-keys-i w ↦ rw (w.so-is, w.joined-so.ensures) (along-here _ _ _ _ l.i l.so c.loop-i-test.true w.if-keys-i.true l.invariant)
      | else-keys-i w ↦ rw w.so-is (along-elsewhere _ _ _ _ l.i l.so c.loop-i-test.true w.if-keys-i.false l.invariant)
    ]

pub returns : goal.returns
returns c = let l = c.loop-i in along-done _ _ _ _ l.i l.so c.loop-i-test.false l.invariant
