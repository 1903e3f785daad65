-- A value that can be kept: what it has where it is a text.
use mathlib.Core.Path.{◌≡◌, refl}
use mathlib.Core.Bool.{true, false, ◌&&◌}
use mathlib.Core.List.{List}
use Prim.Native.Nat.{ℕ, ◌-◌, ◌≤◌}
use borrow.Author.Tests.{ltb-false, leb-true}
use lib.Dec.{leb}
use lib.ListN.{length}
use Rattle.tlv_reader.specs.declared.Value.{Value}
use Rattle.tlv_reader.specs.declared.Value.TheVariants as value
use Rattle.node_schema.proofs.BoolLaws.{left, right}
use Rattle.cache_entries.specs.Limits.{text_size}
use Rattle.cache_entries.specs.Values.{inside_usable, usable_in, long_v}

-- a value that is no text
abbrev pub NoText : Value → Type 0
NoText v = (a n : ℕ) → v ≡ value.Text a n → ⊥

pub not-long : (v : Value) → NoText v → false ≡ long_v v
unfolding long_v
not-long value.Null h = refl
not-long (value.Boolean b) h = refl
not-long (value.Unsigned n) h = refl
not-long (value.Signed z) h = refl
not-long (value.Float n) h = refl
not-long (value.Text a n) h = absurd (h a n refl)
not-long value.Other h = refl

-- a text that is usable lies in the message, and one that is not long fits its place
pub record Inside (s : List ℕ) (a n : ℕ) : Type 0 where
  pub few : n ≤ length s
  pub before : a ≤ length s - n

pub text-inside : (s : List ℕ) {v : Value} (a n : ℕ) → v ≡ value.Text a n → usable_in s v ≡ true → Inside s a n
unfolding usable_in inside_usable
text-inside s a n e h =
    let q : (leb n (length s) && _) ≡ true = rw e at h in
    record { few = leb-true _ _ (left _ _ q); before = leb-true _ _ (left _ _ (right (leb n (length s)) _ q)) }

pub text-short : {v : Value} (a n : ℕ) → v ≡ value.Text a n → long_v v ≡ false → n ≤ text_size
unfolding long_v
text-short a n e h = ltb-false text_size n (rw e at h)
