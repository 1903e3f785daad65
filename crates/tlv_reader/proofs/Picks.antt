-- A property of one of two.
use mathlib.Core.Path.{◌≡◌, refl}
use mathlib.Core.Bool.{Bool, true, false}
use Rattle.tlv_reader.specs.Octet.{pick}
use Rattle.tlv_reader.specs.Walk.{choose}

pub pick-elim : {A : Type 0} (P : A → Type 0) (b : Bool) (x y : A) → (b ≡ true → P x) → (b ≡ false → P y) → P (pick b x y)
pick-elim P true x y f g = f refl
pick-elim P false x y f g = g refl

pub choose-elim : {A : Type 0} (P : A → Type 0) (b : Bool) (x y : Unit {0} → A) → (b ≡ true → P (x tt)) → (b ≡ false → P (y tt)) → P (choose b x y)
choose-elim P true x y f g = f refl
choose-elim P false x y f g = g refl

-- two choices by one test, taken to one type
pub choose-two : {A B C : Type 0} (F : A → C) (G : B → C) (b : Bool) (x y : Unit {0} → A) (x' y' : Unit {0} → B) → F (x tt) ≡ G (x' tt) → F (y tt) ≡ G (y' tt) → F (choose b x y) ≡ G (choose b x' y')
choose-two F G true x y x' y' p q = p
choose-two F G false x y x' y' p q = q
