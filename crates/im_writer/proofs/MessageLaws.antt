-- The messages that we write: frame and blocks together spell the message's tree, within the depth of a message.
use mathlib.Core.Path.{◌≡◌, refl, sym, ap, ◌∙◌}
use mathlib.Core.Bool.{Bool, true, false}
use mathlib.Core.List.{List, [], ◌∷◌, ◌++◌, append_assoc, append-nil}
use Prim.Native.Nat.{ℕ, ◌+◌, ◌^◌, ◌<◌, ◌≤◌}
use native.Mathlib.Nat.{max-le}
use native.Mathlib.Omega.{arith}
use lib.ListN.{length, length-append}
use Rattle.base_bounds.specs.Bounds.{depth_limit}
use Rattle.base_octets.specs.Store.{store, Stored}
use Rattle.base_octets.proofs.StoreLaws.{then, store-over}
use Rattle.tlv_reader.specs.Octet.{structure, array}
use Rattle.tlv_reader.specs.Tree.{Tree, Trees, SpellsMessage, depth, depths, stands}
use Rattle.tlv_reader.specs.Tree.Tag.{context}
use Rattle.tlv_reader.specs.Tree.Tree.{container}
use Rattle.tlv_reader.specs.Walk.Got.{got}
use Rattle.tlv_reader.specs.Decode.{tree_at}
use Rattle.tlv_reader.proofs.Completeness.{tree-back}
use Rattle.tlv_writer.specs.declared.Tag.TheVariants.{Anonymous, Context}
use Rattle.tlv_writer.specs.Element.{open_octets, end_octets}
use Rattle.tlv_writer.specs.Meaning.{Writable}
use Rattle.im_writer.specs.Spelling.{writer_tag, spelling, spellings, joined, members, Each, OurTag, Ours, OursAll}
use Rattle.im_writer.specs.Message.{message_tree, revision, status_members, report_ending, report_members, report_opening, report_closing, response_members, response_opening, response_closing, ListedTree}
use Rattle.im_writer.proofs.SpellingLaws.{spelling-spells}
use Rattle.im_writer.proofs.LengthLaws.{length-opening, length-closing, length-empty-report, length-response-opening, length-response-closing}

-- blocks one after the other, and the end of their array
pub members-joined : (l : List Tree) → spellings (members l) ≡ joined l ++ end_octets
unfolding spelling joined members
members-joined [] = refl
members-joined (t ∷ l) = ap (λ (r : List ℕ). spelling t ++ r) (members-joined l) ∙ rw append_assoc refl

-- one block more
pub joined-more : (l : List Tree) (t : Tree) → joined (l ++ (t ∷ [])) ≡ joined l ++ spelling t
unfolding joined
joined-more [] t = append-nil (spelling t)
joined-more (u ∷ l) t = ap (λ (r : List ℕ). spelling u ++ r) (joined-more l t) ∙ rw append_assoc refl

-- an opening with its array's, blocks, the array's end, and the members after it
pub framed : (o p : List ℕ) (l : List Tree) (r : List ℕ) → (o ++ p) ++ (joined l ++ (end_octets ++ r)) ≡ o ++ ((p ++ spellings (members l)) ++ r)
framed o p l r = rw (members-joined l) (simp append_assoc)

pub report-octets : (t : Tree) (l : List Tree) (m : Bool) → report_opening ++ (joined (t ∷ l) ++ report_closing m) ≡ spelling (message_tree (report_members (t ∷ l) m))
unfolding spelling writer_tag report_members report_opening report_closing
report-octets t l m = framed (open_octets Anonymous structure) (open_octets (Context 1) array) (t ∷ l) (spellings (report_ending m))

pub response-octets : (l : List Tree) → response_opening ++ (joined l ++ response_closing) ≡ spelling (message_tree (response_members l))
unfolding spelling writer_tag response_members response_opening response_closing
response-octets l = framed (open_octets Anonymous structure) (open_octets (Context 0) array) l (spellings revision)

-- a frame's length is the same whatever it holds
pub length-report : (t : Tree) (l : List Tree) (m : Bool) → length (spelling (message_tree (report_members (t ∷ l) m))) ≡ 10 + length (joined (t ∷ l))
length-report t l m = rw (← (report-octets t l m)) (simp (length-append, length-opening, length-closing) (omega arith))

pub length-response : (l : List Tree) → length (spelling (message_tree (response_members l))) ≡ 8 + length (joined l)
length-response l = rw (← (response-octets l)) (simp (length-append, length-response-opening, length-response-closing) (omega arith))

-- a run of writers: opening, blocks, closing
module _ {o : List ℕ} {at : ℕ} {o₁ : List ℕ} {p : ℕ} {o₂ : List ℕ} {q : ℕ} {o₃ : List ℕ} {r : ℕ} where
  pub report-stored : (t : Tree) (l : List Tree) (m : Bool) → Stored o at report_opening o₁ p → Stored o₁ p (joined (t ∷ l)) o₂ q → Stored o₂ q (report_closing m) o₃ r → Stored o at (spelling (message_tree (report_members (t ∷ l) m))) o₃ r
  report-stored t l m x y z = rw (report-octets t l m) at (then x (then y z))

  pub response-stored : (l : List Tree) → Stored o at response_opening o₁ p → Stored o₁ p (joined l) o₂ q → Stored o₂ q response_closing o₃ r → Stored o at (spelling (message_tree (response_members l))) o₃ r
  response-stored l x y z = rw (response-octets l) at (then x (then y z))

-- a report with no block, written over an opening that was written
pub empty-stored : {o : List ℕ} {at : ℕ} {o₁ : List ℕ} {p : ℕ} {o₂ : List ℕ} {q : ℕ} (m : Bool) → Stored o at report_opening o₁ p → Stored o₁ at (spelling (message_tree (report_members [] m))) o₂ q → Stored o at (spelling (message_tree (report_members [] m))) o₂ q
empty-stored {o} {at} {o₁} {p} {o₂} {q} m x y = record {
  content = y.content ∙ ap (λ (b : List ℕ). store b at (spelling (message_tree (report_members [] m)))) x.content ∙ store-over o at report_opening (spelling (message_tree (report_members [] m))) (omega (arith, length-opening, length-empty-report m));
  place = y.place;
}

-- WHOLE MESSAGES
pub message-spells : (ts : Trees) → OursAll structure ts → depths ts ≤ 9 → SpellsMessage ts (spelling (message_tree ts))
unfolding Ours OurTag depth
message-spells ts h d =
    record { spells = spelling-spells (message_tree ts) (tt, (omega arith, (omega arith, h))); within = omega arith }

-- what is spelled is read back as its tree, and nothing is left
pub message-back : (ts : Trees) (s : List ℕ) → SpellsMessage ts s → tree_at depth_limit s 0 ≡ got (message_tree ts) (length s)
message-back ts s m =
    tree-back (message_tree ts) depth_limit s 0 [] [] s m.spells m.within (sym (append-nil s)) refl
    ∙ ap (λ (n : ℕ). got (message_tree ts) n) (omega arith)

pub ours-revision : OursAll structure revision
unfolding Ours OurTag Writable revision stands
ours-revision = (refl, ((omega arith, omega arith), tt))

ours-ending : (m : Bool) → OursAll structure (report_ending m)
unfolding Ours OurTag Writable report_ending stands
ours-ending true = (refl, ((omega arith, tt), ours-revision))
ours-ending false = (refl, ((omega arith, tt), ours-revision))

-- blocks in an array
ours-members : (l : List Tree) → Each ListedTree l → OursAll array (members l)
unfolding Ours members Each
ours-members [] h = tt
ours-members (t ∷ l) h = (h.0.untagged, (h.0.ours, ours-members l h.1))

pub members-depth : (l : List Tree) → Each ListedTree l → depths (members l) ≤ 8
unfolding depth members Each
members-depth [] h = omega arith
members-depth (t ∷ l) h = max-le h.0.shallow (members-depth l h.1)

pub ours-array : (tag : ℕ) (l : List Tree) → tag < 256 → Each ListedTree l → Ours (container (context tag) array (members l))
unfolding Ours OurTag
ours-array tag l f h = (f, (omega arith, (omega arith, ours-members l h)))

pub report-spells : (l : List Tree) (m : Bool) → Each ListedTree l → SpellsMessage (report_members l m) (spelling (message_tree (report_members l m)))
unfolding report_members report_ending revision Ours depth stands
report-spells [] m h = message-spells (report_members [] m) (ours-ending m) (omega arith)
report-spells (t ∷ l) m h =
    message-spells (report_members (t ∷ l) m) (refl, (ours-array 1 (t ∷ l) (omega arith) h, ours-ending m))
    (max-le (omega (arith, members-depth (t ∷ l) h)) (omega arith))

pub response-spells : (l : List Tree) → Each ListedTree l → SpellsMessage (response_members l) (spelling (message_tree (response_members l)))
unfolding response_members revision Ours depth stands
response-spells l h =
    message-spells (response_members l) (refl, (ours-array 0 l (omega arith) h, ours-revision))
    (max-le (omega (arith, members-depth l h)) (omega arith))

pub status-spells : (code : ℕ) → code < 2 ^ 8 → SpellsMessage (status_members code) (spelling (message_tree (status_members code)))
unfolding status_members revision Ours OurTag Writable depth stands
status-spells code h = message-spells (status_members code) (refl, ((omega arith, omega arith), ours-revision)) (omega arith)
