-- A member that another schema reads, and an array of such.
use Rattle.std.specs.Prelude.{ℕ, ◌-◌, eqb, Some, None, Option}
use Rattle.tlv_reader.specs.declared.Element.{Element}
use Rattle.tlv_reader.specs.Octet.{pick}
use Rattle.tlv_reader.specs.Tree.{Tree}
use Rattle.tlv_reader.specs.Walk.{Got, map_g}
use Rattle.tlv_reader.specs.Walk.Got.{got, bad}
use Rattle.tlv_reader.specs.Decode.{bind_o}
use Rattle.im_members.specs.Fields.{Slot}
use Rattle.im_members.specs.Fields.Slot.{absent, present}

abbrev pub opt_of : {A : Type 0} → Got A → Option A
opt_of bad = None
opt_of (got a n) = Some a

abbrev pub map_o : {A B : Type 0} → (A → B) → Option A → Option B
map_o f None = None
map_o f (Some a) = Some (f a)

-- a required member: in bytes read at its place, in trees by its meaning
unfoldable pub required_in : {A : Type 0} → (ℕ → Got A) → ℕ → Option A
required_in read p = pick (eqb p 0) None (opt_of (read (p - 1)))

unfoldable pub required_t : {A : Type 0} → (Tree → Option A) → Slot → Option A
required_t means absent = None
required_t means (present t) = means t

-- an optional member, with what stands for its absence
unfoldable pub optional_in : {A : Type 0} → A → (ℕ → Got A) → ℕ → Option A
optional_in a read p = pick (eqb p 0) (Some a) (opt_of (read (p - 1)))

unfoldable pub optional_t : {A : Type 0} → A → (Tree → Option A) → Slot → Option A
optional_t a means absent = Some a
optional_t a means (present t) = means t

-- members that one reader reads, each added to what was seen
unfoldable pub each_step : {S A : Type 0} → (S → A → S) → (ℕ → Got A) → S → ℕ → Element → Got S
each_step add read x at e = map_g (add x) (read at)

unfoldable pub each_t : {S A : Type 0} → (S → A → S) → (Tree → Option A) → S → Tree → Option S
each_t add means x t = bind_o (means t) (λ a. Some (add x a))
