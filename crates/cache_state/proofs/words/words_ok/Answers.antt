use mathlib.Core.Path.{refl}
use Prim.Native.Nat.{◌^◌}
use borrow.Author.Tests.{lt-ltb, le-ltb, lt-leb, le-leb, eq-eqb, ne_eqb}
use Rattle.cache_state.specs.Words.{word, words_right}
use Rattle.cache_state.proofs.words.words_ok.Goals as goal

pub returns-then-asked-gt1 : goal.returns-then-asked-gt1
unfolding words_right
returns-then-asked-gt1 c = let w = c.args.asked.now in rw (lt-leb (word w 2) 1 c.if-asked-gt1.true) refl

pub returns-then-asked-ge65536 : goal.returns-then-asked-ge65536
unfolding words_right
returns-then-asked-ge65536 c = let w = c.args.asked.now in rw (le-leb (word w 2) 1 c.if-asked-gt1.false, le-ltb (word w 6) (2 ^ 16) c.if-asked-ge65536.true) refl

pub returns-then-asked-ge256 : goal.returns-then-asked-ge256
unfolding words_right
returns-then-asked-ge256 c = let w = c.args.asked.now in rw (le-leb (word w 2) 1 c.if-asked-gt1.false, lt-ltb (word w 6) (2 ^ 16) c.if-asked-ge65536.false, le-ltb (word w 7) 256 c.if-asked-ge256.true) refl

pub returns-then-asked-ge65536-2 : goal.returns-then-asked-ge65536-2
unfolding words_right
returns-then-asked-ge65536-2 c = let w = c.args.asked.now in rw (le-leb (word w 2) 1 c.if-asked-gt1.false, lt-ltb (word w 6) (2 ^ 16) c.if-asked-ge65536.false, lt-ltb (word w 7) 256 c.if-asked-ge256.false, le-ltb (word w 8) (2 ^ 16) c.if-asked-ge65536-2.true) refl

pub returns-then-asked-ge4294967296 : goal.returns-then-asked-ge4294967296
unfolding words_right
returns-then-asked-ge4294967296 c = let w = c.args.asked.now in rw (le-leb (word w 2) 1 c.if-asked-gt1.false, lt-ltb (word w 6) (2 ^ 16) c.if-asked-ge65536.false, lt-ltb (word w 7) 256 c.if-asked-ge256.false, lt-ltb (word w 8) (2 ^ 16) c.if-asked-ge65536-2.false, le-ltb (word w 9) (2 ^ 32) c.if-asked-ge4294967296.true) refl

pub returns-then-asked-ge4294967296-2 : goal.returns-then-asked-ge4294967296-2
unfolding words_right
returns-then-asked-ge4294967296-2 c = let w = c.args.asked.now in rw (le-leb (word w 2) 1 c.if-asked-gt1.false, lt-ltb (word w 6) (2 ^ 16) c.if-asked-ge65536.false, lt-ltb (word w 7) 256 c.if-asked-ge256.false, lt-ltb (word w 8) (2 ^ 16) c.if-asked-ge65536-2.false, lt-ltb (word w 9) (2 ^ 32) c.if-asked-ge4294967296.false, le-ltb (word w 10) (2 ^ 32) c.if-asked-ge4294967296-2.true) refl

pub returns-then-asked-ne0 : goal.returns-then-asked-ne0
unfolding words_right
returns-then-asked-ne0 c = let w = c.args.asked.now in rw (le-leb (word w 2) 1 c.if-asked-gt1.false, lt-ltb (word w 6) (2 ^ 16) c.if-asked-ge65536.false, lt-ltb (word w 7) 256 c.if-asked-ge256.false, lt-ltb (word w 8) (2 ^ 16) c.if-asked-ge65536-2.false, lt-ltb (word w 9) (2 ^ 32) c.if-asked-ge4294967296.false, lt-ltb (word w 10) (2 ^ 32) c.if-asked-ge4294967296-2.false, ne_eqb (word w 13) 0 c.if-asked-ne0.true) refl

pub returns-then-asked-ne0-2 : goal.returns-then-asked-ne0-2
unfolding words_right
returns-then-asked-ne0-2 c = let w = c.args.asked.now in rw (le-leb (word w 2) 1 c.if-asked-gt1.false, lt-ltb (word w 6) (2 ^ 16) c.if-asked-ge65536.false, lt-ltb (word w 7) 256 c.if-asked-ge256.false, lt-ltb (word w 8) (2 ^ 16) c.if-asked-ge65536-2.false, lt-ltb (word w 9) (2 ^ 32) c.if-asked-ge4294967296.false, lt-ltb (word w 10) (2 ^ 32) c.if-asked-ge4294967296-2.false, eq-eqb (word w 13) 0 c.if-asked-ne0.false, ne_eqb (word w 14) 0 c.if-asked-ne0-2.true) refl

pub returns : goal.returns
unfolding words_right
returns c = let w = c.args.asked.now in rw (le-leb (word w 2) 1 c.if-asked-gt1.false, lt-ltb (word w 6) (2 ^ 16) c.if-asked-ge65536.false, lt-ltb (word w 7) 256 c.if-asked-ge256.false, lt-ltb (word w 8) (2 ^ 16) c.if-asked-ge65536-2.false, lt-ltb (word w 9) (2 ^ 32) c.if-asked-ge4294967296.false, lt-ltb (word w 10) (2 ^ 32) c.if-asked-ge4294967296-2.false, eq-eqb (word w 13) 0 c.if-asked-ne0.false, eq-eqb (word w 14) 0 c.if-asked-ne0-2.false) refl
