use mathlib.Core.Path.{refl}
use borrow.Author.Tests.{lt-ltb, le-ltb}
use Rattle.cache_entries.proofs.shared.shared_in.Goals as goal

pub returns-then-so-lt-NO_VERSION : goal.returns-then-so-lt-NO_VERSION
returns-then-so-lt-NO_VERSION c = rw (lt-ltb _ _ c.if-so-lt-NO_VERSION.true) refl

pub returns : goal.returns
returns c = rw (le-ltb _ _ c.if-so-lt-NO_VERSION.false) refl
