-- What the chunking promises: a part stays within its limit, nothing is lost between parts, and every part gets on.
use mathlib.Core.Path.{◌≡◌, refl, sym, ap, ◌∙◌}
use mathlib.Core.Bool.{Bool, true, false, false≢true}
use mathlib.Core.List.{List, [], ◌∷◌, ◌++◌, append_assoc, append-nil}
use Prim.Native.Nat.{ℕ, zero, suc, ◌+◌, ◌-◌, ◌≤◌, ◌<◌}
use native.Mathlib.Omega.{arith}
use borrow.Author.Tests.{leb-true, leb-false, le-leb, lt-leb}
use lib.Dec.{leb}
use lib.ListN.{length, length-append}
use Rattle.base_bounds.specs.Bounds.{payload_limit}
use Rattle.tlv_reader.specs.Octet.{pick}
use Rattle.im_writer.specs.Spelling.{spelling, joined, Each}
use Rattle.im_writer.specs.Block.{Block, block_tree}
use Rattle.im_writer.specs.Message.{message_tree, report_members}
use Rattle.im_writer.proofs.LengthLaws.{data-block-bound, status-block-bound, length-empty-report}
use Rattle.im_writer.proofs.MessageLaws.{length-report}
use Rattle.node_schema.proofs.BoolLaws.{by-test}
use Rattle.server_selection.specs.declared.asked.Asked.{Asked}
use Rattle.server_report.specs.declared.ReadPlace.{ReadPlace}
use Rattle.server_report.specs.Blocks.{View, PlacedBlock, blocks_from}
use Rattle.server_report.specs.Chunk.{frame_length, block_room, size, any, sizes, payload_length, fits, taken, left, taken_after, after, trees, Short}
use Rattle.server_report.specs.Part.{part_payload, parts, parts_from, together}
use Rattle.server_report.proofs.NextLaws.{blocks-after}
use Rattle.server_report.proofs.PartLaws.{taken-within}

-- THE PAYLOAD HAS EXACTLY payload_length BYTES
pub sizes-joined : (t : List PlacedBlock) → length (joined (trees t)) ≡ sizes t
unfolding joined sizes
sizes-joined [] = refl
sizes-joined (x ∷ t) = length-append (spelling (block_tree x.block)) (joined (trees t)) ∙ ap (λ (n : ℕ). size x + n) (sizes-joined t)

length-payload : (t : List PlacedBlock) (more : Bool) → length (spelling (message_tree (report_members (trees t) more))) ≡ payload_length t more
unfolding payload_length
length-payload [] more = length-empty-report more
length-payload (x ∷ t) more = length-report (block_tree x.block) (trees t) more ∙ ap (λ (n : ℕ). frame_length more + n) (sizes-joined (x ∷ t))

pub part-payload-length : (l : List PlacedBlock) → length (part_payload l) ≡ payload_length (taken block_room l) (any (left block_room l))
unfolding part_payload
part-payload-length l = length-payload (taken block_room l) (any (left block_room l))

-- A PART HAS AT MOST 1,024 BYTES
pub part_length : (l : List PlacedBlock) → length (part_payload l) ≤ payload_limit
unfolding payload_length
part_length l = omega (arith, part-payload-length l, go (taken block_room l) (taken-within block_room l))
  where
    go : (t : List PlacedBlock) → length (joined (trees t)) ≤ block_room → payload_length t (any (left block_room l)) ≤ payload_limit
    go [] h = omega arith
    go (x ∷ t) h = omega (arith, h, sizes-joined (x ∷ t))

-- A PART TAKES WHAT RULES 5.11 SAYS: a block that the payload has room for
sizes-more : (t : List PlacedBlock) (x : PlacedBlock) → sizes (t ++ (x ∷ [])) ≡ sizes t + size x
unfolding sizes
sizes-more [] x = omega arith
sizes-more (y ∷ t) x = omega (arith, sizes-more t x)

length_more : (t : List PlacedBlock) (x : PlacedBlock) (more : Bool) → payload_length (t ++ (x ∷ [])) more ≡ frame_length more + (sizes t + size x)
unfolding payload_length
length_more [] x more = ap (λ (n : ℕ). frame_length more + n) (sizes-more [] x)
length_more (y ∷ t) x more = ap (λ (n : ℕ). frame_length more + n) (sizes-more (y ∷ t) x)

-- the test with the room that those before the block leave
same_test : (t : List PlacedBlock) (x : PlacedBlock) (more : Bool) → sizes t ≤ block_room → fits (block_room - sizes t) x more ≡ leb (payload_length (t ++ (x ∷ [])) more) payload_limit
same_test t x more h =
    by-test (leb (size x) (block_room - sizes t))
    (λ b. b ∙ sym (le-leb (payload_length (t ++ (x ∷ [])) more) payload_limit (omega (arith, length_more t x more, leb-true (size x) (block_room - sizes t) b))))
    (λ b. b ∙ sym (lt-leb (payload_length (t ++ (x ∷ [])) more) payload_limit (omega (arith, length_more t x more, leb-false (size x) (block_room - sizes t) b))))

taken-from : (t l : List PlacedBlock) → sizes t ≤ block_room → taken (block_room - sizes t) l ≡ taken_after t l
unfolding taken taken_after
taken-from t [] h = refl
taken-from t (x ∷ l) h =
    by-test (fits (block_room - sizes t) x (any l))
    (λ b. let room : block_room - sizes t - size x ≡ block_room - sizes (t ++ (x ∷ [])) = omega (arith, sizes-more t x) in
    rw (b, sym (same_test t x (any l) h) ∙ b, room, taken-from (t ++ (x ∷ [])) l (omega (arith, sizes-more t x, leb-true (size x) (block_room - sizes t) b))))
    (λ b. rw (b, sym (same_test t x (any l) h) ∙ b))

pub taken-rule : (l : List PlacedBlock) → taken block_room l ≡ taken_after [] l
unfolding sizes
taken-rule l = taken-from [] l (omega arith)

-- WHAT IS TAKEN AND WHAT IS LEFT ARE THE LIST
pub split : (room : ℕ) (l : List PlacedBlock) → taken room l ++ left room l ≡ l
unfolding taken left
split room [] = refl
split room (x ∷ l) = go (leb (size x) room) (split (room - size x) l)
  where
    go : (b : Bool) → taken (room - size x) l ++ left (room - size x) l ≡ l → pick b (x ∷ taken (room - size x) l) [] ++ pick b (left (room - size x) l) (x ∷ l) ≡ x ∷ l
    go true h = ap (λ (m : List PlacedBlock). x ∷ m) h
    go false h = refl

-- OF TWO LISTS one after the other, l and m
pub joined-both : (l m : List PlacedBlock) → joined (trees (l ++ m)) ≡ joined (trees l) ++ joined (trees m)
unfolding joined
joined-both [] m = refl
joined-both (x ∷ l) m =
    ap (λ (b : List ℕ). spelling (block_tree x.block) ++ b) (joined-both l m)
    ∙ sym (append_assoc (spelling (block_tree x.block)) (joined (trees l)) (joined (trees m)))

pub after_both : (at : ReadPlace) (l m : List PlacedBlock) → after at (l ++ m) ≡ after (after at l) m
unfolding after
after_both at [] m = refl
after_both at (x ∷ l) m = after_both x.next l m

none_left : (l : List PlacedBlock) → any l ≡ false → l ≡ []
none_left [] h = refl
none_left (x ∷ l) h = absurd (false≢true (sym h))

pub taken-all : (room : ℕ) (l : List PlacedBlock) → any (left room l) ≡ false → taken room l ≡ l
taken-all room l h =
    sym (append-nil (taken room l)) ∙ ap (λ (m : List PlacedBlock). taken room l ++ m) (sym (none_left (left room l) h)) ∙ split room l

-- l is taken whole: then m, with the room that is left
pub taken-both : (room : ℕ) (l m : List PlacedBlock) → any (left room l) ≡ false →
    (taken room (l ++ m) ≡ l ++ taken (room - sizes l) m) × (left room (l ++ m) ≡ left (room - sizes l) m)
unfolding taken left sizes
taken-both room [] m h = let q : room - 0 ≡ room = omega arith in (ap (λ (n : ℕ). taken n m) (sym q), ap (λ (n : ℕ). left n m) (sym q))
taken-both room (x ∷ l) m h =
    by-test (leb (size x) room)
    (λ t. let q : room - size x - sizes l ≡ room - (size x + sizes l) = omega arith in
    let r = taken-both (room - size x) l m (rw t at h) in
    (rw (t, ← q) (ap (λ (k : List PlacedBlock). x ∷ k) r.0), rw (t, ← q) r.1))
    (λ t. absurd (false≢true (sym (rw t at h))))

-- it is not: then nothing of m
pub taken-full : (room : ℕ) (l m : List PlacedBlock) → any (left room l) ≡ true → (taken room (l ++ m) ≡ taken room l) × (any (left room (l ++ m)) ≡ true)
unfolding taken left
taken-full room [] m h = absurd (false≢true h)
taken-full room (x ∷ l) m h =
    by-test (leb (size x) room)
    (λ t. let r = taken-full (room - size x) l m (rw t at h) in (rw t (ap (λ (k : List PlacedBlock). x ∷ k) r.0), rw t r.1))
    (λ t. (rw t refl, rw t refl))

-- IN THE SAME VIEW, A READ GOES ON WITH WHAT WAS LEFT
pub goes_on_lem : (s : View) (ps : List Asked) (at : ReadPlace) (room : ℕ) → blocks_from s ps (after at (taken room (blocks_from s ps at))) ≡ left room (blocks_from s ps at)
goes_on_lem s ps at room = blocks-after s ps at (taken room (blocks_from s ps at)) (left room (blocks_from s ps at)) (sym (split room (blocks_from s ps at)))

-- THE PARTS TOGETHER CARRY THE LIST, if no block is longer than a part's room
-- what is left is no more than there was, and less if the first block fits
left-most : (room : ℕ) (l : List PlacedBlock) → length (left room l) ≤ length l
unfolding left
left-most room [] = omega arith
left-most room (x ∷ l) = go (leb (size x) room) (left-most (room - size x) l)
  where
    go : (b : Bool) → length (left (room - size x) l) ≤ length l → length (pick b (left (room - size x) l) (x ∷ l)) ≤ suc (length l)
    go true h = omega arith
    go false h = omega arith

left_less : (l : List PlacedBlock) → Each (λ (x : PlacedBlock). size x ≤ block_room) l → any (left block_room l) ≡ true → length (left block_room l) < length l
unfolding left Each
left_less [] h t = absurd (false≢true t)
left_less (x ∷ l) h t = let q : leb (size x) block_room ≡ true = le-leb _ _ h.0 in rw q (omega (arith, left-most (block_room - size x) l))

each_left : (P : PlacedBlock → Type 0) (room : ℕ) (l : List PlacedBlock) → Each P l → Each P (left room l)
unfolding left Each
each_left P room [] h = h
each_left P room (x ∷ l) h = go (leb (size x) room) (each_left P (room - size x) l h.1)
  where
    go : (b : Bool) → Each P (left (room - size x) l) → Each P (pick b (left (room - size x) l) (x ∷ l))
    go true g = g
    go false g = h

-- so many parts as blocks, and one, are enough
pub all-parts : (n : ℕ) (l : List PlacedBlock) → length l < n → Each (λ (x : PlacedBlock). size x ≤ block_room) l → together (parts n l) ≡ l
unfolding parts together
all-parts zero l h s = absurd (omega arith)
all-parts (suc n) l h s =
    by-test (any (left block_room l)) (λ t. rw t (ap (λ (m : List PlacedBlock). taken block_room l ++ m) (all-parts n (left block_room l) (omega (arith, left_less l s t)) (each_left _ block_room l s)) ∙ split block_room l))
    (λ t. rw t (ap (λ (m : List PlacedBlock). taken block_room l ++ m) (sym (none_left (left block_room l) t)) ∙ split block_room l))

-- and there are no more
pub few-parts : (n : ℕ) (l : List PlacedBlock) → Each (λ (x : PlacedBlock). size x ≤ block_room) l → length (parts n l) ≤ length l + 1
unfolding parts
few-parts zero l s = omega arith
few-parts (suc n) l s =
    by-test (any (left block_room l)) (λ t. rw t (omega (arith, left_less l s t, few-parts n (left block_room l) (each_left _ block_room l s))))
    (λ t. rw t (omega arith))

-- the parts of a read, each from the place where the one before it ended
pub same_parts : (s : View) (ps : List Asked) (n : ℕ) (at : ReadPlace) → parts_from s ps n at ≡ parts n (blocks_from s ps at)
unfolding parts parts_from
same_parts s ps zero at = refl
same_parts s ps (suc n) at =
    ap (λ (r : List (List PlacedBlock)). taken block_room (blocks_from s ps at) ∷ pick (any (left block_room (blocks_from s ps at))) r [])
    (same_parts s ps n (after at (taken block_room (blocks_from s ps at))) ∙ ap (parts n) (goes_on_lem s ps at block_room))

-- A BLOCK IS SMALL, so that there is room for it in a part of its own
pub block-small : (b : Block) → Short b → length (spelling (block_tree b)) ≤ 233
unfolding block_tree Short
block-small (Block.value version e c a d) (v, (p, s)) = data-block-bound e c a p.endpoint-fits p.cluster-fits p.attribute-fits version d v s
block-small (Block.status e c a code) (p, f) = omega (arith, status-block-bound e c a p.endpoint-fits p.cluster-fits p.attribute-fits code f)
