-- THE LAWS of whole messages: what is read of a payload is the meaning of the tree that it spells, and nothing where it spells none.
use Rattle.std.specs.Prelude.{Some, None, Option}
use mathlib.Core.Path.{◌≡◌, refl, sym, ap, ◌∙◌}
use mathlib.Core.Bool.{Bool, true, false}
use mathlib.Core.List.{List, [], ◌∷◌, ◌++◌, map, append-nil}
use Prim.Native.Nat.{ℕ, zero, suc, ◌-◌, ◌≤◌}
use native.Mathlib.Omega.{arith}
use borrow.Author.Tests.{eq-eqb, ne_eqb, eqb-true}
use lib.ListN.{length, get_or}
use lib.Dec.{eqb}
use Rattle.base_bounds.specs.Bounds.{depth_limit}
use Rattle.tlv_reader.specs.declared.Element.{Element}
use Rattle.tlv_reader.specs.Octet.{pick, structure, end_of_container}
use Rattle.tlv_reader.specs.Tree.{Tree, Trees, SpellsMessage, tag_of_tree}
use Rattle.tlv_reader.specs.Tree.Tag.{anonymous}
use Rattle.tlv_reader.specs.Tree.Tree.{container}
use Rattle.tlv_reader.specs.Tree.Trees.{none, more}
use Rattle.tlv_reader.specs.Head.{head_at}
use Rattle.tlv_reader.specs.Walk.{Got, map_g, bind_g, headed, members_end, ends_at, is_message}
use Rattle.tlv_reader.specs.Walk.Got.{got, bad}
use Rattle.tlv_reader.specs.Decode.{bind_o, place, trees_at, tree_at}
use Rattle.tlv_reader.proofs.Completeness.{tree-back}
use Rattle.tlv_reader.proofs.WalkLaws.{end-within, message-is}
use Rattle.tlv_reader.proofs.TreeLaws.{passed, end-of-trees}
use Rattle.tlv_reader.proofs.MessageLaws.{message-accepted, accepted}
use Rattle.im_members.specs.Fields.{Slot, slot_t, slot_in, inside_at, inside_t, inside_by, fields_at, fields_t, or_none}
use Rattle.im_members.specs.Fields.Slot.{absent}
use Rattle.im_members.specs.Array.{map_o, opt_of, required_in, required_t, optional_in, optional_t}
use Rattle.im_members.specs.Order.{Reordered}
use Rattle.im_members.proofs.OrderLaws.{any_order, unlisted}
use Rattle.im_members.proofs.MeaningLaws.{inside-law, fields-law, at_place}
use Rattle.im_members.proofs.ArrayLaws.{required-here, number-here, flag-here}
use Rattle.im_requests.specs.Message.{untagged, message_at, whole_in, whole_t, list_t, list_at}
use Rattle.im_requests.specs.Status.{response_tags, response_from, response_in, response_slots, response_t}
use Rattle.im_requests.specs.Read.{read_tags, read_from, read_in, read_slots, read_t, asked_at, asked_t, version_filter_at, version_filter_t}
use Rattle.im_requests.proofs.ListLaws.{list-plain}
use Rattle.im_requests.proofs.ReadLaws.{asked-law, version-filter-law}

never : {A : Type 0} → ◌≡◌ {A = ℕ} 0 1 → A
never e = absurd (omega arith)

untagged-spelled : (ts : Trees) (s : List ℕ) → SpellsMessage ts s → untagged s ≡ true
unfolding untagged
untagged-spelled ts s m = let a = accepted s (message-accepted ts s m) in rw (a.reads, eq-eqb _ _ a.untagged) refl

module _ {A : Type 0} (listed : List Bool) (F : List ℕ → Option A) (G : List Slot → Option A) (ts : Trees) (s : List ℕ) (m : SpellsMessage ts s) (same : (xs : List ℕ) → F xs ≡ G (map (slot_in 9 s) xs)) where
  inside-spelled : map_g (map (slot_in 9 s)) (inside_at structure depth_limit s listed 0) ≡ place (fields_t listed ts) (length s)
  unfolding inside_t
  inside-spelled =
      let whole : s ≡ [] ++ (s ++ []) = sym (append-nil s) in
      let back : tree_at depth_limit s 0 ≡ got (container anonymous structure ts) (length s) = tree-back (container anonymous structure ts) depth_limit s 0 [] [] s m.spells m.within whole refl ∙ ap (got (container anonymous structure ts)) (omega arith) in
      inside-law structure (omega arith) (omega arith) listed depth_limit s 0 ∙ ap (λ g. bind_g g (λ t n. place (inside_t structure listed t) n)) back

  from-inside : (g : Got (List ℕ)) (o : Option (List Slot)) → map_g (map (slot_in 9 s)) g ≡ place o (length s) → opt_of (bind_g (bind_g g (λ seen n. pick (eqb n (length s)) (got seen n) bad)) (λ seen n. place (F seen) n)) ≡ bind_o o G
  from-inside bad None e = refl
  from-inside bad (Some ys) e = never (cc)
  from-inside (got seen n) None e = never (cc)
  from-inside (got seen n) (Some ys) e =
      let en : n ≡ length s = cc in
      let ey : map (slot_in 9 s) seen ≡ ys = cc in
      rw (eq-eqb n (length s) en) (opened (F seen) n ∙ same seen ∙ ap G ey)
    where
      opened : (o : Option A) (k : ℕ) → opt_of (place o k) ≡ o
      opened None k = refl
      opened (Some a) k = refl

  -- any legal spelling of a message is read to its meaning
  pub whole-law : whole_in listed F s ≡ whole_t listed G ts
  unfolding message_at
  whole-law = rw (untagged-spelled ts s m) (from-inside (inside_at structure depth_limit s listed 0) (fields_t listed ts) inside-spelled)

-- ---- optional arrays

optional-law : {A : Type 0} (a : A) (d : ℕ) (s : List ℕ) (read : ℕ → Got A) (means : Tree → Option A) → ((at : ℕ) → read at ≡ bind_g (tree_at d s at) (λ t n. place (means t) n)) → means (container anonymous end_of_container none) ≡ None → (p : ℕ) → optional_in a read p ≡ optional_t a means (slot_in d s p)
unfolding optional_in optional_t slot_in required_in required_t
optional-law a d s read means law z zero = refl
optional-law a d s read means law z (suc p) =
    let n = ne_eqb (suc p) 0 (λ y. omega arith) in
    let r : pick (eqb (suc p) 0) None (opt_of (read (suc p - 1))) ≡ means (or_none (tree_at d s p)) = required-here d s read means law z (suc p ∷ []) 0 in
    rw n (rw n at r)

optional-here : {A : Type 0} (a : A) (d : ℕ) (s : List ℕ) (read : ℕ → Got A) (means : Tree → Option A) → ((at : ℕ) → read at ≡ bind_g (tree_at d s at) (λ t n. place (means t) n)) → means (container anonymous end_of_container none) ≡ None → (xs : List ℕ) (i : ℕ) → optional_in a read (get_or xs i 0) ≡ optional_t a means (get_or (map (slot_in d s) xs) i absent)
optional-here a d s read means law z xs i = optional-law a d s read means law z (get_or xs i 0) ∙ ap (optional_t a means) (sym (at_place d s xs i))

-- ---- THE MESSAGES

pub response-law : (ts : Trees) (s : List ℕ) → SpellsMessage ts s → response_in s ≡ response_t ts
unfolding response_in response_t response_from response_slots
response-law ts s m = whole-law response_tags (response_from s) response_slots ts s m (λ xs. rw (number-here 9 s xs 255 false 0, number-here 9 s xs 255 false 9) refl)

pub read-law : (ts : Trees) (s : List ℕ) → SpellsMessage ts s → read_in s ≡ read_t ts
unfolding read_in read_t read_from read_slots
read-law ts s m = whole-law read_tags (read_from s) read_slots ts s m
    (λ xs. rw (flag-here 9 s xs 3, number-here 9 s xs 255 false 9, optional-here [] 9 s (list_at asked_at 9 s) (list_t asked_t) (list-plain asked_at asked_t 8 s (asked-law 8 s)) refl xs 0, optional-here [] 9 s (list_at version_filter_at 9 s) (list_t version_filter_t) (list-plain version_filter_at version_filter_t 8 s (version-filter-law 8 s)) refl xs 4) refl)

-- ---- a payload that is no message is refused, whatever is asked of it

trees-there : (d : ℕ) (s : List ℕ) (kind at : ℕ) (listed : List Bool) {xs : List ℕ} {n : ℕ} → fields_at d s kind listed at ≡ got xs n → members_end d s kind at ≡ got tt n
trees-there d s kind at listed {xs} {n} e = end-of-trees d s kind at ∙ go (trees_at d s kind at) (sym (fields-law d s kind listed at) ∙ ap (map_g (map (slot_in d s))) e)
  where
    put : (o : Option (List Slot)) (k : ℕ) → place o k ≡ got (map (slot_in d s) xs) n → k ≡ n
    put None k q = never (cc)
    put (Some ys) k q = cc

    go : (g : Got Trees) → bind_g g (λ ts k. place (fields_t listed ts) k) ≡ got (map (slot_in d s) xs) n → passed g ≡ got tt n
    go bad q = never (cc)
    go (got ts k) q = ap (got tt) (put (fields_t listed ts) k q)

pub message-there : (listed : List Bool) (s : List ℕ) {xs : List ℕ} {n : ℕ} → message_at listed s ≡ got xs n → is_message s ≡ true
unfolding message_at untagged inside_at
message-there listed s {xs} {n} q = by-head (head_at s 0) refl q
  where
    ending : {e : Element} → head_at s 0 ≡ Some e → e.form ≡ 0 → e.kind ≡ structure → (g : Got (List ℕ)) → fields_at 9 s structure listed e.next.at ≡ g → bind_g g (λ seen k. pick (eqb k (length s)) (got seen k) bad) ≡ got xs n → is_message s ≡ true
    ending h f k bad w q = never (cc)
    ending {e} h f k (got ys m) w q = last (eqb m (length s)) refl q
      where
        last : (b : Bool) → eqb m (length s) ≡ b → pick b (got ys m) bad ≡ got xs n → is_message s ≡ true
        last true z q = message-is s h f k ∙ ap (ends_at (length s)) (end-within 10 s e (omega (arith, k)) (omega (arith, k)) (λ y. omega arith) ∙ ap (λ (j : ℕ). members_end 9 s j e.next.at) k ∙ trees-there 9 s structure e.next.at listed w) ∙ z
        last false z q = never (cc)

    by_kind : {e : Element} → head_at s 0 ≡ Some e → e.form ≡ 0 → (b : Bool) → eqb e.kind structure ≡ b → bind_g (pick b (fields_at 9 s structure listed e.next.at) bad) (λ seen k. pick (eqb k (length s)) (got seen k) bad) ≡ got xs n → is_message s ≡ true
    by_kind {e} h f true k q = ending h f (eqb-true e.kind structure k) (fields_at 9 s structure listed e.next.at) refl q
    by_kind h f false k q = never (cc)

    by_form : {e : Element} → head_at s 0 ≡ Some e → (b : Bool) → eqb e.form 0 ≡ b → pick b (bind_g (pick (eqb e.kind structure) (fields_at 9 s structure listed e.next.at) bad) (λ seen k. pick (eqb k (length s)) (got seen k) bad)) bad ≡ got xs n → is_message s ≡ true
    by_form {e} h true f q = by_kind h (eqb-true e.form 0 f) (eqb e.kind structure) refl q
    by_form h false f q = never (cc)

    by-head : (h : (Option Element)) → head_at s 0 ≡ h → pick (headed false (λ e. eqb e.form 0) h) (bind_g (headed bad (inside_by structure (λ k. fields_at 9 s structure listed k)) h) (λ seen k. pick (eqb k (length s)) (got seen k) bad)) bad ≡ got xs n → is_message s ≡ true
    by-head None h q = never (cc)
    by-head (Some e) h q = by_form h (eqb e.form 0) refl q

pub whole-none : {A : Type 0} (listed : List Bool) (F : List ℕ → Option A) (s : List ℕ) → is_message s ≡ false → whole_in listed F s ≡ None
whole-none listed F s q = go (message_at listed s) refl
  where
    go : (g : Got (List ℕ)) → message_at listed s ≡ g → opt_of (bind_g g (λ seen n. place (F seen) n)) ≡ None
    go bad e = refl
    go (got xs n) e = never (let z : true ≡ false = sym (message-there listed s e) ∙ q in sym (ap (λ (b : Bool). pick b 1 0) z))

-- what is read of a message, seen through a map
pub whole-mapped : {A B : Type 0} (listed : List Bool) (F : List ℕ → Option A) (β : A → B) (s : List ℕ) → map_o β (whole_in listed F s) ≡ whole_in listed (λ xs. map_o β (F xs)) s
whole-mapped listed F β s = go (message_at listed s)
  where
    put : (o : Option _) (n : ℕ) → map_o β (opt_of (place o n)) ≡ opt_of (place (map_o β o) n)
    put None n = refl
    put (Some a) n = refl

    go : (g : Got (List ℕ)) → map_o β (opt_of (bind_g g (λ seen n. place (F seen) n))) ≡ opt_of (bind_g g (λ seen n. place (map_o β (F seen)) n))
    go bad = refl
    go (got xs n) = put (F xs) n

-- ---- the order of fields does not matter, and members that are not listed are as if absent: said of any schema, and of each message

module _ {A : Type 0} (listed : List Bool) (G : List Slot → Option A) where
  pub whole-any-order : {ts us : Trees} → Reordered ts us → whole_t listed G ts ≡ whole_t listed G us
  whole-any-order r = ap (λ o. bind_o o G) (any_order listed r)

  pub whole-unlisted : (t : Tree) (ts : Trees) → 10 ≤ slot_t listed (tag_of_tree t) → whole_t listed G (more t ts) ≡ whole_t listed G ts
  whole-unlisted t ts l = ap (λ o. bind_o o G) (unlisted listed t ts l)

pub response-any-order : {ts us : Trees} → Reordered ts us → response_t ts ≡ response_t us
unfolding response_t
response-any-order r = whole-any-order response_tags response_slots r

pub response-unlisted : (t : Tree) (ts : Trees) → 10 ≤ slot_t response_tags (tag_of_tree t) → response_t (more t ts) ≡ response_t ts
unfolding response_t
response-unlisted t ts l = whole-unlisted response_tags response_slots t ts l

pub read-any-order : {ts us : Trees} → Reordered ts us → read_t ts ≡ read_t us
unfolding read_t
read-any-order r = whole-any-order read_tags read_slots r

pub read-unlisted : (t : Tree) (ts : Trees) → 10 ≤ slot_t read_tags (tag_of_tree t) → read_t (more t ts) ≡ read_t ts
unfolding read_t
read-unlisted t ts l = whole-unlisted read_tags read_slots t ts l
