-- Examples that compute: what is accepted, and the kinds of what is not.
use mathlib.Core.Path.{◌≡◌, refl}
use mathlib.Core.Bool.{true, false}
use mathlib.Core.List.{[], ◌∷◌}
use Rattle.base_utf8.specs.WellFormed.{within, table, after, trailing, completes, well_formed}
use Rattle.base_utf8.specs.Bytewise.{trails}
use Rattle.base_utf8.specs.Boundary.{boundary, cut_well}
use Rattle.base_utf8.specs.Scalar.{encode, joined}

-- nothing, U+00FC, U+20AC, U+1F600, and all of them after an ASCII byte
accepted : (well_formed [] ≡ true) × (well_formed (0xC3 ∷ 0xBC ∷ []) ≡ true) × (well_formed (0xE2 ∷ 0x82 ∷ 0xAC ∷ []) ≡ true) × (well_formed (0xF0 ∷ 0x9F ∷ 0x98 ∷ 0x80 ∷ []) ≡ true) × (well_formed (0x41 ∷ 0xC3 ∷ 0xBC ∷ 0xE2 ∷ 0x82 ∷ 0xAC ∷ 0xF0 ∷ 0x9F ∷ 0x98 ∷ 0x80 ∷ []) ≡ true)
unfolding well_formed completes trailing after table within
accepted = (refl, refl, refl, refl, refl)

-- overlong forms of two and three bytes, a surrogate, past 10FFFF, a trailing byte alone, a sequence cut short at the end and before another
refused : (well_formed (0xC0 ∷ 0x80 ∷ []) ≡ false) × (well_formed (0xE0 ∷ 0x80 ∷ 0x80 ∷ []) ≡ false) × (well_formed (0xED ∷ 0xA0 ∷ 0x80 ∷ []) ≡ false) × (well_formed (0xF4 ∷ 0x90 ∷ 0x80 ∷ 0x80 ∷ []) ≡ false) × (well_formed (0x80 ∷ []) ≡ false) × (well_formed (0xE2 ∷ 0x82 ∷ []) ≡ false) × (well_formed (0xE2 ∷ 0x82 ∷ 0x41 ∷ []) ≡ false)
unfolding well_formed completes trailing after table within
refused = (refl, refl, refl, refl, refl, refl, refl)

-- U+0041, U+00FC, U+20AC, U+1F600 and their bytes
encoded : joined (0x41 ∷ 0xFC ∷ 0x20AC ∷ 0x1F600 ∷ []) ≡ 0x41 ∷ 0xC3 ∷ 0xBC ∷ 0xE2 ∷ 0x82 ∷ 0xAC ∷ 0xF0 ∷ 0x9F ∷ 0x98 ∷ 0x80 ∷ []
unfolding joined encode
encoded = refl

-- of A, U+00FC, B: the middle one, half of it, from its half on, and nothing in its middle
cut : (cut_well (0x41 ∷ 0xC3 ∷ 0xBC ∷ 0x42 ∷ []) 1 2 ≡ true) × (cut_well (0x41 ∷ 0xC3 ∷ 0xBC ∷ 0x42 ∷ []) 1 1 ≡ false) × (cut_well (0x41 ∷ 0xC3 ∷ 0xBC ∷ 0x42 ∷ []) 2 2 ≡ false) × (cut_well (0x41 ∷ 0xC3 ∷ 0xBC ∷ 0x42 ∷ []) 2 0 ≡ true)
unfolding cut_well boundary trails
cut = (refl, refl, refl, refl)
