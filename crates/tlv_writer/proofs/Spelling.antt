-- What is written spells the tree that is meant.
use mathlib.Core.Path.{◌≡◌, refl, sym, ap, ◌∙◌}
use mathlib.Core.Bool.{Bool, true, false}
use mathlib.Core.List.{List, [], ◌++◌, append-nil}
use Prim.Native.Nat.{ℕ, ◌-◌, ◌^◌, ◌<◌, ◌≤◌}
use native.Mathlib.Omega.{arith}
use borrow.Author.Tests.{lt-ltb, le-ltb}
use lib.IntN.{ℤ}
use lib.ListN.{length}
use lib.Signed.{mag}
use Rattle.tlv_reader.specs.Octet.{pick, tag_width, number_width, is_string, structure, end_of_container}
use Rattle.tlv_reader.specs.Tree.{Tree, Trees, Primitive, Spells, SpellsAll, complement, scalar_of, primitive_of, tag_of, stands, tag_of_tree}
use Rattle.tlv_reader.specs.Tree.Tree.{primitive, container}
use Rattle.tlv_reader.specs.Tree.Trees.{none, more}
use Rattle.tlv_reader.specs.Tree.Primitive.{null, boolean, unsigned, signed, float32, float64, text, octets}
use Rattle.tlv_reader.specs.Value.{datum_p}
use Rattle.tlv_writer.specs.declared.Tag.{Tag}
use Rattle.tlv_writer.specs.declared.Tag.TheVariants.{Anonymous, Context}
use Rattle.tlv_writer.specs.Width.{least_signed_width, twos}
use Rattle.tlv_writer.specs.Element.{form_of, label_of, head_for, signed_kind, unsigned_kind, text_kind, unsigned_octets, signed_octets, boolean_octets, null_octets, float_octets, text_octets, open_octets, end_octets, datum_octets}
use Rattle.tlv_writer.specs.Meaning.{tree_tag, Writable}
use Rattle.tlv_writer.proofs.Widths.{code-width, code-small, unsigned-is-width, signed-is-width, unsigned-fits, signed-fits, twos-fits, twos_back}

-- the value of an element type, in each range of types that differ in a width alone
module _ (kind n : ℕ) (body : List ℕ) where
  pub signed-value : kind < 4 → primitive_of kind n body ≡ signed (complement (256 ^ number_width kind - 1) n)
  unfolding primitive_of scalar_of
  signed-value h = rw (lt-ltb kind 12 (omega arith), lt-ltb kind 4 h) refl

  pub unsigned-value : 4 ≤ kind → kind < 8 → primitive_of kind n body ≡ unsigned n
  unfolding primitive_of scalar_of
  unsigned-value l h = rw (lt-ltb kind 12 (omega arith), le-ltb kind 4 l, lt-ltb kind 8 h) refl

  pub text-value : 12 ≤ kind → kind < 16 → primitive_of kind n body ≡ text body
  unfolding primitive_of
  text-value l h = rw (le-ltb kind 12 l, lt-ltb kind 20 (omega arith), lt-ltb kind 16 h) refl

plain : (kind : ℕ) → kind < 12 → is_string kind ≡ false
plain kind h = rw (lt-ltb kind 12 h) refl

form-fits : (tag : Tag) → form_of tag < 8
unfolding form_of
form-fits Anonymous = omega arith
form-fits (Context n) = omega arith

label-fits : (tag : Tag) → label_of tag < 256 → label_of tag < 256 ^ tag_width (form_of tag)
unfolding label_of form_of tag_width
label-fits Anonymous h = omega arith
label-fits (Context n) h = h

is-tag : (tag : Tag) → tree_tag tag ≡ tag_of (form_of tag) (label_of tag)
unfolding tree_tag tag_of form_of label_of
is-tag Anonymous = refl
is-tag (Context n) = refl

module _ (tag : Tag) (fits : label_of tag < 256) where
  -- a head and a body spell what the element type says
  head-spells : (x : Primitive) (kind n : ℕ) (body : List ℕ) → kind < structure → n < 256 ^ number_width kind → length body ≡ pick (is_string kind) n 0 → x ≡ primitive_of kind n body → Spells (primitive (tree_tag tag) x) (head_for tag kind n ++ body)
  unfolding Spells head_for
  head-spells x kind n body k f b e = record {
    form = form_of tag;
    kind = kind;
    label = label_of tag;
    number = n;
    body = body;
    form-fits = form-fits tag;
    kind_fits = k;
    label-fits = label-fits tag fits;
    number_fits = f;
    body-fits = b;
    is-tag = is-tag tag;
    is-value = e;
    is-bytes = refl;
  }

  -- a head alone
  bare-spells : (x : Primitive) (kind n : ℕ) → kind < structure → n < 256 ^ number_width kind → is_string kind ≡ false → x ≡ primitive_of kind n [] → Spells (primitive (tree_tag tag) x) (head_for tag kind n)
  bare-spells x kind n k f s e = rw append-nil at (head-spells x kind n [] k f (rw s refl) e)

  pub unsigned-spells : (v : ℕ) → v < 2 ^ 64 → Spells (primitive (tree_tag tag) (unsigned v)) (unsigned_octets tag v)
  unfolding unsigned_octets
  unsigned-spells v h =
      let i = unsigned-is-width v in
      let s = code-small i in
      bare-spells (unsigned v) (unsigned_kind v) v (omega arith) (rw (code-width i).1.0 (unsigned-fits v h)) (plain (unsigned_kind v) (omega arith)) (sym (unsigned-value (unsigned_kind v) v [] (omega arith) (omega arith)))

  pub signed-spells : (z : ℤ) → mag z < 2 ^ 63 → Spells (primitive (tree_tag tag) (signed z)) (signed_octets tag z)
  unfolding signed_octets
  signed-spells z h =
      let i = signed-is-width z in
      let s = code-small i in
      let f = signed-fits z h in
      let w = least_signed_width z in
      let e = (code-width i).0 in
      bare-spells (signed z) (signed_kind z) (twos w z) (omega arith) (rw e (twos-fits w z f)) (plain (signed_kind z) (omega arith)) (sym (signed-value (signed_kind z) (twos w z) [] s ∙ rw e (ap signed (twos_back w z f))))

  pub boolean-spells : (b : Bool) → Spells (primitive (tree_tag tag) (boolean b)) (boolean_octets tag b)
  unfolding boolean_octets number_width primitive_of scalar_of
  boolean-spells true = bare-spells (boolean true) 9 0 (omega arith) (omega arith) refl refl
  boolean-spells false = bare-spells (boolean false) 8 0 (omega arith) (omega arith) refl refl

  pub null-spells : Spells (primitive (tree_tag tag) null) (null_octets tag)
  unfolding null_octets number_width primitive_of scalar_of
  null-spells = bare-spells null 20 0 (omega arith) (omega arith) refl refl

  pub float-spells : (n : ℕ) → n < 2 ^ 32 → Spells (primitive (tree_tag tag) (float32 n)) (float_octets tag n)
  unfolding float_octets number_width primitive_of scalar_of
  float-spells n h = bare-spells (float32 n) 10 n (omega arith) h refl refl

  pub text-spells : (bs : List ℕ) → length bs < 2 ^ 64 → Spells (primitive (tree_tag tag) (text bs)) (text_octets tag bs)
  unfolding text_octets
  text-spells bs h =
      let n = length bs in
      let i = unsigned-is-width n in
      let s = code-small i in
      let k = text_kind n in
      head-spells (text bs) k n bs (omega arith) (rw (code-width i).1.1 (unsigned-fits n h)) (rw (le-ltb k 12 (omega arith), lt-ltb k 20 (omega arith)) refl) (sym (text-value k n bs (omega arith) (omega arith)))

  -- WHAT IS WRITTEN of any value that we write spells it
  pub spells : (x : Primitive) → Writable x → Spells (primitive (tree_tag tag) x) (datum_octets tag (datum_p x))
  unfolding Writable datum_octets
  spells null h = null-spells
  spells (boolean b) h = boolean-spells b
  spells (unsigned v) h = unsigned-spells v h
  spells (signed z) h = signed-spells z h
  spells (float32 n) h = float-spells n h
  spells (float64 n) h = absurd h
  spells (text bs) h = text-spells bs h
  spells (octets bs) h = absurd h

  -- an opening and then what spells the members, with the end, spell a container
  pub open-spells : (kind : ℕ) (ts : Trees) (rest : List ℕ) → structure ≤ kind → kind < end_of_container → SpellsAll ts kind rest → Spells (container (tree_tag tag) kind ts) (open_octets tag kind ++ rest)
  unfolding Spells open_octets head_for
  open-spells kind ts rest l h r = record {
    form = form_of tag;
    label = label_of tag;
    rest = rest;
    form-fits = form-fits tag;
    kind-low = l;
    kind-high = h;
    label-fits = label-fits tag fits;
    is-tag = is-tag tag;
    is-bytes = refl;
    rests = r;
  }

-- the end spells no more members
pub end-spells : (kind : ℕ) → SpellsAll none kind end_octets
unfolding Spells
end-spells kind = refl

-- a member that may stand there, and then the rest
pub member-spells : (kind : ℕ) (t : Tree) (ts : Trees) (a b : List ℕ) → stands kind (tag_of_tree t) ≡ true → Spells t a → SpellsAll ts kind b → SpellsAll (more t ts) kind (a ++ b)
unfolding Spells
member-spells kind t ts a b s x y = (s, record { first = a; rest = b; is-bytes = refl; firsts = x; rests = y })
