-- An element as a tree, and what its legal spellings are (RULES 4). Nothing here reads.
use Rattle.std.specs.Prelude.{ℕ, suc, ◌+◌, ◌-◌, ◌/◌, ◌%◌, ◌^◌, ◌<◌, ◌≤◌, max, ◌≡◌, List, [], ◌∷◌, ◌++◌, Bool, true, false, not, ℤ, pos, negsuc, length, ltb, leb, eqb}
use Rattle.base_bounds.specs.Bounds.{depth_limit}
use Rattle.tlv_reader.specs.Octet.{pick, tag_width, number_width, is_string, head_octets, structure, array, end_of_container}

pub data Tag : Type 0 where
  anonymous : Tag
  context : ℕ → Tag
  common : ℕ → Tag
  implicit : ℕ → Tag
  full : (vendor profile number : ℕ) → Tag

pub data Primitive : Type 0 where
  null : Primitive
  boolean : Bool → Primitive
  unsigned : ℕ → Primitive
  signed : ℤ → Primitive
  float32 : ℕ → Primitive
  float64 : ℕ → Primitive
  text : List ℕ → Primitive
  octets : List ℕ → Primitive

-- a container has its element type
mutual
  pub data Tree : Type 0 where
    primitive : Tag → Primitive → Tree
    container : Tag → ℕ → Trees → Tree

  pub data Trees : Type 0 where
    none : Trees
    more : Tree → Trees → Trees

-- depth counts containers
unfoldable mutual
  pub depth : Tree → ℕ
  depth (primitive t v) = 0
  depth (container t k ts) = suc (depths ts)

  pub depths : Trees → ℕ
  depths none = 0
  depths (more t ts) = max (depth t) (depths ts)

abbrev pub tag_of_tree : Tree → Tag
tag_of_tree (primitive t v) = t
tag_of_tree (container t k ts) = t

-- the tag that a number in a tag form is; a fully qualified one has its vendor and profile in the lower 16 bits each
unfoldable pub tag_of : ℕ → ℕ → Tag
tag_of form n =
    pick (eqb form 0) anonymous
    (pick (eqb form 1) (context n)
    (pick (ltb form 4) (common n)
    (pick (ltb form 6) (implicit n)
    (full (n % 65536) (n / 65536 % 65536) (n / 4294967296)))))

-- the number that v is in two's complement, where the largest unsigned number of that width is top
unfoldable pub complement : ℕ → ℕ → ℤ
complement top v = pick (leb v (top / 2)) (pos v) (negsuc (top - v))

-- the value of an element type that is no string, with its number
unfoldable pub scalar_of : ℕ → ℕ → Primitive
scalar_of kind n =
    pick (ltb kind 4) (signed (complement (256 ^ number_width kind - 1) n))
    (pick (ltb kind 8) (unsigned n)
    (pick (eqb kind 8) (boolean false)
    (pick (eqb kind 9) (boolean true)
    (pick (eqb kind 10) (float32 n)
    (pick (eqb kind 11) (float64 n) null)))))

-- the value of an element type with its number and, of a string, its octets
unfoldable pub primitive_of : ℕ → ℕ → List ℕ → Primitive
primitive_of kind n body = pick (is_string kind) (pick (ltb kind 16) (text body) (octets body)) (scalar_of kind n)

abbrev pub tagged : Tag → Bool
tagged anonymous = false
tagged (context n) = true
tagged (common n) = true
tagged (implicit n) = true
tagged (full v p n) = true

-- in a structure every member has a tag, in an array none, in a list either
unfoldable pub stands : ℕ → Tag → Bool
stands kind t = pick (eqb kind structure) (tagged t) (pick (eqb kind array) (not (tagged t)) true)

-- octets of a primitive: its head in some tag form and some width that hold the tag and the number, and a string's octets
pub record SpellsPrimitive (tag : Tag) (x : Primitive) (bs : List ℕ) : Type 0 where
  pub form : ℕ
  pub kind : ℕ
  pub label : ℕ
  pub number : ℕ
  pub body : List ℕ
  pub form-fits : form < 8
  pub kind_fits : kind < structure
  pub label-fits : label < 256 ^ tag_width form
  pub number_fits : number < 256 ^ number_width kind
  pub body-fits : length body ≡ pick (is_string kind) number 0
  pub is-tag : tag ≡ tag_of form label
  pub is-value : x ≡ primitive_of kind number body
  pub is-bytes : bs ≡ head_octets form kind label number ++ body

-- octets of a container: its head in some tag form, and then the rest
pub record Opens (tag : Tag) (kind : ℕ) (Rest : List ℕ → Type 0) (bs : List ℕ) : Type 0 where
  pub form : ℕ
  pub label : ℕ
  pub rest : List ℕ
  pub form-fits : form < 8
  pub kind-low : structure ≤ kind
  pub kind-high : kind < end_of_container
  pub label-fits : label < 256 ^ tag_width form
  pub is-tag : tag ≡ tag_of form label
  pub is-bytes : bs ≡ head_octets form kind label 0 ++ rest
  pub rests : Rest rest

pub record Joins (First Rest : List ℕ → Type 0) (bs : List ℕ) : Type 0 where
  pub first : List ℕ
  pub rest : List ℕ
  pub is-bytes : bs ≡ first ++ rest
  pub firsts : First first
  pub rests : Rest rest

-- THE RELATION: these octets spell this tree
unfoldable mutual
  pub Spells : Tree → List ℕ → Type 0
  Spells (primitive tag x) bs = SpellsPrimitive tag x bs
  Spells (container tag kind ts) bs = Opens tag kind (λ r. SpellsAll ts kind r) bs

  -- and these octets spell the members of a container of this type, with its end
  pub SpellsAll : Trees → ℕ → List ℕ → Type 0
  SpellsAll none kind bs = bs ≡ end_of_container ∷ []
  SpellsAll (more t ts) kind bs = (stands kind (tag_of_tree t) ≡ true) × Joins (λ b. Spells t b) (λ c. SpellsAll ts kind c) bs

-- a whole message: an untagged structure, nested at most so deep
pub record SpellsMessage (ts : Trees) (bs : List ℕ) : Type 0 where
  pub spells : Spells (container anonymous structure ts) bs
  pub within : depth (container anonymous structure ts) ≤ depth_limit

-- bytes from one place to another that spell some tree, which nests at most so deep
pub record SpellsAt (d : ℕ) (s : List ℕ) (at n : ℕ) : Type 0 where
  pub tree : Tree
  pub before : List ℕ
  pub bytes : List ℕ
  pub after : List ℕ
  pub spells : Spells tree bytes
  pub within : depth tree ≤ d
  pub whole : s ≡ before ++ (bytes ++ after)
  pub starts : at ≡ length before
  pub ends : n ≡ at + length bytes
