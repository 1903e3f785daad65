-- Tests joined by &&.
use Rattle.std.proofs.Common.{◌≡◌, Bool, true, false, ◌&&◌, sym, refl}
use mathlib.Core.Bool.{false≢true}

pub both : (a b : Bool) → a ≡ true → b ≡ true → (a && b) ≡ true
both a b p q = rw (p, q)

pub left : (a b : Bool) → (a && b) ≡ true → a ≡ true
left true b h = refl
left false b h = h

pub right : (a b : Bool) → (a && b) ≡ true → b ≡ true
right true b h = h
right false b h = absurd (false≢true h)

-- what is left of a row of tests once the first holds
pub past : (a b : Bool) → a ≡ true → b ≡ (a && b)
past a b p = rw p

pub fails : (a b : Bool) → a ≡ false → false ≡ (a && b)
fails a b p = rw p

-- a test is true or false
pub by-test {ℓ} : {P : Type ℓ} (b : Bool) → (b ≡ true → P) → (b ≡ false → P) → P
by-test true f g = f refl
by-test false f g = g refl

-- two tests that hold together are equal
pub same : (a b : Bool) → (a ≡ true → b ≡ true) → (b ≡ true → a ≡ true) → a ≡ b
same true b f g = sym (f refl)
same false true f g = g refl
same false false f g = refl

-- two pairs of tests, joined the other way
pub in-turn : (a x b y : Bool) → ((a && x) && (b && y)) ≡ ((a && b) && (x && y))
in-turn false x b y = refl
in-turn true true b y = refl
in-turn true false true y = refl
in-turn true false false y = refl
