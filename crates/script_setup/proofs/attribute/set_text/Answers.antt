use mathlib.Core.Path.{refl}
use borrow.Author.Tests.{le-leb, lt-leb}
use Rattle.script_setup.proofs.attribute.set_text.Goals as goal

pub returns-then-bytes-texts : goal.returns-then-bytes-texts
returns-then-bytes-texts c = record { setup_after = refl; texts_after = rw (le-leb _ _ c.if-bytes-le-TEXT_SIZE.true, le-leb _ _ c.if-at-texts.true, le-leb _ _ c.if-bytes-texts.true) c.put_bytes.ensures.content }

pub returns-else-bytes-texts : goal.returns-else-bytes-texts
returns-else-bytes-texts c = record { setup_after = refl; texts_after = rw (le-leb _ _ c.if-bytes-le-TEXT_SIZE.true, le-leb _ _ c.if-at-texts.true, lt-leb _ _ c.if-bytes-texts.false) }

pub returns-else-at-texts : goal.returns-else-at-texts
returns-else-at-texts c = record { setup_after = refl; texts_after = rw (le-leb _ _ c.if-bytes-le-TEXT_SIZE.true, lt-leb _ _ c.if-at-texts.false) }

pub returns-else-bytes-le-TEXT_SIZE : goal.returns-else-bytes-le-TEXT_SIZE
returns-else-bytes-le-TEXT_SIZE c = record { setup_after = refl; texts_after = rw (lt-leb _ _ c.if-bytes-le-TEXT_SIZE.false) }
