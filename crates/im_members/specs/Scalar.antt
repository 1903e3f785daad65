-- A member that is a number or a boolean, as one number: itself, or a code above 2^32.
use Rattle.std.specs.Prelude.{ℕ, ◌-◌, List, Bool, ltb, eqb}
use Rattle.tlv_reader.specs.declared.Element.{Element}
use Rattle.tlv_reader.specs.Octet.{pick}
use Rattle.tlv_reader.specs.Tree.{Primitive}
use Rattle.tlv_reader.specs.Tree.Primitive.{null, boolean, unsigned, signed, float32, float64, text, octets}
use Rattle.tlv_reader.specs.Tree.Tree.{primitive, container}
use Rattle.tlv_reader.specs.Head.{head_at}
use Rattle.tlv_reader.specs.Walk.{headed}
use Rattle.im_members.specs.Fields.{Slot}
use Rattle.im_members.specs.Fields.Slot.{absent, present}

-- no such member, null, a wrong type or range
abbrev pub ABSENT : ℕ
ABSENT = 4294967296

abbrev pub NULL : ℕ
NULL = 4294967297

abbrev pub WRONG : ℕ
WRONG = 4294967298

-- IN BYTES: what the head of the member at a place says
abbrev pub scalar_in : (Element → ℕ) → List ℕ → ℕ → ℕ
scalar_in f s p = pick (eqb p 0) ABSENT (headed WRONG f (head_at s (p - 1)))

unfoldable pub number_of : ℕ → Bool → ℕ → ℕ → ℕ
number_of most nullable kind n =
    pick (eqb kind 20) (pick nullable NULL WRONG)
    (pick (ltb kind 4) WRONG (pick (ltb 7 kind) WRONG (pick (ltb most n) WRONG n)))

unfoldable pub flag_of : ℕ → ℕ
flag_of kind = pick (eqb kind 8) 0 (pick (eqb kind 9) 1 WRONG)

unfoldable pub wide_of : ℕ → ℕ
wide_of kind = pick (ltb kind 4) WRONG (pick (ltb 7 kind) WRONG 0)

unfoldable pub number_in : ℕ → Bool → List ℕ → ℕ → ℕ
number_in most nullable s p = scalar_in (λ e. number_of most nullable e.kind e.number) s p

unfoldable pub flag_in : List ℕ → ℕ → ℕ
flag_in s p = scalar_in (λ e. flag_of e.kind) s p

unfoldable pub wide_in : List ℕ → ℕ → ℕ
wide_in s p = scalar_in (λ e. wide_of e.kind) s p

-- IN TREES
abbrev pub scalar_t : (Primitive → ℕ) → Slot → ℕ
scalar_t F absent = ABSENT
scalar_t F (present (primitive t x)) = F x
scalar_t F (present (container t k ts)) = WRONG

-- an unsigned number, at most so large; null where that is allowed
abbrev pub number_p : ℕ → Bool → Primitive → ℕ
number_p most nullable null = pick nullable NULL WRONG
number_p most nullable (boolean b) = WRONG
number_p most nullable (unsigned n) = pick (ltb most n) WRONG n
number_p most nullable (signed z) = WRONG
number_p most nullable (float32 n) = WRONG
number_p most nullable (float64 n) = WRONG
number_p most nullable (text b) = WRONG
number_p most nullable (octets b) = WRONG

abbrev pub flag_p : Primitive → ℕ
flag_p null = WRONG
flag_p (boolean b) = pick b 1 0
flag_p (unsigned n) = WRONG
flag_p (signed z) = WRONG
flag_p (float32 n) = WRONG
flag_p (float64 n) = WRONG
flag_p (text b) = WRONG
flag_p (octets b) = WRONG

abbrev pub wide_p : Primitive → ℕ
wide_p null = WRONG
wide_p (boolean b) = WRONG
wide_p (unsigned n) = 0
wide_p (signed z) = WRONG
wide_p (float32 n) = WRONG
wide_p (float64 n) = WRONG
wide_p (text b) = WRONG
wide_p (octets b) = WRONG

unfoldable pub number_t : ℕ → Bool → Slot → ℕ
number_t most nullable = scalar_t (number_p most nullable)

unfoldable pub flag_t : Slot → ℕ
flag_t = scalar_t flag_p

unfoldable pub wide_t : Slot → ℕ
wide_t = scalar_t wide_p
