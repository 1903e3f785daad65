use mathlib.Core.Path.{refl}
use Prim.Native.Nat.{◌/◌}
use borrow.Author.Tests.{le-ltb, lt-ltb, le-leb, lt-leb}
use Rattle.cache_entries.specs.Valid.{entry_right}
use Rattle.cache_entries.proofs.valid.entry_ok.Goals as goal

pub returns-then-clusters-key : goal.returns-then-clusters-key
unfolding entry_right
returns-then-clusters-key c = rw (le-ltb (c.args.key / 4294967296) c.args.clusters c.if-clusters-key.true) refl

pub returns-then-version-gt-NO_VERSION : goal.returns-then-version-gt-NO_VERSION
unfolding entry_right
returns-then-version-gt-NO_VERSION c = let a = c.args in rw (lt-ltb (a.key / 4294967296) a.clusters c.if-clusters-key.false, lt-leb _ _ c.if-version-gt-NO_VERSION.true) refl

pub returns : goal.returns
unfolding entry_right
returns c = let a = c.args in rw (lt-ltb (a.key / 4294967296) a.clusters c.if-clusters-key.false, le-leb _ _ c.if-version-gt-NO_VERSION.false) c.word_ok.ensures
