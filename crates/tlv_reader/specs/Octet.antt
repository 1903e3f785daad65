-- The octets of an element's head: control octet, tag, number (Matter Core Specification, Appendix A; RULES 4.1, 4.2).
use Rattle.std.specs.Prelude.{ℕ, ◌+◌, ◌*◌, List, [], ◌∷◌, ◌++◌, Bool, true, false, ltb, get_or}
use Rattle.base_octets.specs.Number.{bytes_of}

-- one of two
abbrev pub pick : {A : Type 0} → Bool → A → A → A
pick true a b = a
pick false a b = b

-- tag forms: 0 anonymous, 1 context, 2 and 3 common profile, 4 and 5 implicit profile, 6 and 7 fully qualified;
-- and how many octets the tag of each takes
unfoldable pub tag_width : ℕ → ℕ
tag_width form = get_or (0 ∷ 1 ∷ 2 ∷ 4 ∷ 2 ∷ 4 ∷ 6 ∷ 8 ∷ []) form 0

-- element types: 0 to 3 signed, 4 to 7 unsigned, 8 false, 9 true, 10 and 11 float, 12 to 15 text, 16 to 19 octet string,
-- 20 null, then
abbrev pub structure : ℕ
structure = 21

abbrev pub array : ℕ
array = 22

abbrev pub list : ℕ
list = 23

abbrev pub end_of_container : ℕ
end_of_container = 24

-- how many octets the number after the tag takes, a value or a length, of each element type
unfoldable pub number_width : ℕ → ℕ
number_width kind = get_or (1 ∷ 2 ∷ 4 ∷ 8 ∷ 1 ∷ 2 ∷ 4 ∷ 8 ∷ 0 ∷ 0 ∷ 4 ∷ 8 ∷ 1 ∷ 2 ∷ 4 ∷ 8 ∷ 1 ∷ 2 ∷ 4 ∷ 8 ∷ 0 ∷ 0 ∷ 0 ∷ 0 ∷ 0 ∷ []) kind 0

-- an element type whose number is the length of the octets that follow
abbrev pub is_string : ℕ → Bool
is_string kind = pick (ltb kind 12) false (ltb kind 20)

-- the octets of a head: tag form in the upper three bits, element type in the lower five
unfoldable pub head_octets : ℕ → ℕ → ℕ → ℕ → List ℕ
head_octets form kind tag number = (form * 32 + kind) ∷ (bytes_of (tag_width form) tag ++ bytes_of (number_width kind) number)
