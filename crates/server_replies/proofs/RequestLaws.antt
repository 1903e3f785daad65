-- A refusal of a whole request: an octet; and what is not refused has its counts within the arrays.
use mathlib.Core.Path.{◌≡◌, refl}
use mathlib.Core.Bool.{Bool, true, false, ◌||◌}
use Prim.Native.Nat.{ℕ, ◌^◌, ◌≤◌, ◌<◌}
use native.Mathlib.Omega.{arith}
use borrow.Author.Tests.{ltb-false}
use lib.Dec.{eqb, ltb}
use Rattle.std.specs.Prelude.{Some}
use Rattle.base_bounds.specs.Bounds.{path_limit, filter_limit, write_limit}
use Rattle.tlv_reader.specs.Octet.{pick}
use Rattle.server_replies.specs.declared.refusal.Asks.{Asks}
use Rattle.server_replies.specs.Refusal.{refusal_code, whole_code}

abbrev code : Bool → Bool → Bool → Bool → ℕ
code timed paths filters writes = pick timed 0xC9 (pick paths 0xC8 (pick (filters || writes) 0x89 0))

octet : (t p f w : Bool) → code t p f w < 2 ^ 8
octet true p f w = omega arith
octet false true f w = omega arith
octet false false true w = omega arith
octet false false false true = omega arith
octet false false false false = omega arith

pub refusal-octet : (good : Bool) (a : Asks) → whole_code good a < 2 ^ 8
unfolding refusal_code
refusal-octet false a = omega arith
refusal-octet true a = octet (eqb a.timed 1) (ltb path_limit a.paths) (ltb filter_limit a.filters) (ltb write_limit a.writes)

-- what is not refused is within the limits
pub record Few (a : Asks) : Type 0 where
  pub paths : a.paths ≤ path_limit
  pub filters : a.filters ≤ filter_limit
  pub writes : a.writes ≤ write_limit

pub refusal-none : (a : Asks) → refusal_code (Some a) ≡ 0 → Few a
unfolding refusal_code
refusal-none a h = go (eqb a.timed 1) (ltb path_limit a.paths) (ltb filter_limit a.filters) (ltb write_limit a.writes) refl refl refl h
  where
    go : (t p f w : Bool) → ltb path_limit a.paths ≡ p → ltb filter_limit a.filters ≡ f → ltb write_limit a.writes ≡ w → code t p f w ≡ 0 → Few a
    go true p f w x y z e = absurd (omega (arith, e))
    go false true f w x y z e = absurd (omega (arith, e))
    go false false true w x y z e = absurd (omega (arith, e))
    go false false false true x y z e = absurd (omega (arith, e))
    go false false false false x y z e = record { paths = ltb-false _ _ x; filters = ltb-false _ _ y; writes = ltb-false _ _ z }

pub whole-none : (good : Bool) (a : Asks) → whole_code good a ≡ 0 → Few a
unfolding refusal_code
whole-none false a h = absurd (omega (arith, h))
whole-none true a h = refusal-none a h
