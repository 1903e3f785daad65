-- Versions count changes, and differ for fewer than 2^32 of them.
use mathlib.Core.Path.{◌≡◌}
use Prim.Native.Nat.{ℕ, suc, ◌+◌, ◌%◌, ◌^◌, ◌<◌}
use native.Mathlib.Omega.{arith}
use Rattle.proof_protocol.specs.Model.{next_version}

pub wrap-inj : (s n m : ℕ) → n < 2 ^ 32 → m < 2 ^ 32 → (s + n) % 2 ^ 32 ≡ (s + m) % 2 ^ 32 → n ≡ m
wrap-inj s n m hn hm e = omega arith

pub counts-on : (s n : ℕ) → next_version ((s + n) % 2 ^ 32) ≡ (s + suc n) % 2 ^ 32
counts-on s n = omega arith

pub counts-from : (s : ℕ) → s % 2 ^ 32 ≡ (s + 0) % 2 ^ 32
counts-from s = omega arith
