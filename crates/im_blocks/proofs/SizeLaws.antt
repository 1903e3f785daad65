-- HOW MANY BYTES a block takes: the listed members of a container lie in it, one beside the other, each with its head and its end.
use Rattle.std.specs.Prelude.{Some, None, Option}
use mathlib.Core.Path.{◌≡◌, refl, sym, ap, subst, ◌∙◌}
use mathlib.Core.Bool.{Bool, true, false}
use mathlib.Core.List.{List, [], ◌∷◌}
use Prim.Native.Nat.{ℕ, zero, suc, ◌+◌, ◌-◌, ◌/◌, ◌%◌, ◌<◌, ◌≤◌}
use native.Mathlib.Omega.{arith}
use borrow.Author.Tests.{ne_eqb, ltb-true, eqb-true, eqb-false}
use lib.ListN.{length, get_or, set, replicate}
use lib.Dec.{ltb, eqb}
use Rattle.base_octets.specs.Number.{number_at}
use Rattle.tlv_reader.specs.declared.Element.{Element}
use Rattle.tlv_reader.specs.Octet.{pick, tag_width, number_width, is_string, structure, list, end_of_container}
use Rattle.tlv_reader.specs.Head.{head_at, closed_at, formed_at}
use Rattle.tlv_reader.specs.Walk.{Got, bind_g, allowed_in, fold_by, fold_at, headed, element_by, element_end}
use Rattle.tlv_reader.specs.Walk.Got.{got, bad}
use Rattle.tlv_reader.specs.Decode.{bind_o, place}
use Rattle.tlv_reader.proofs.Picks.{pick-elim, choose-elim}
use Rattle.tlv_reader.proofs.FoldLaws.{Ahead, fold-ahead}
use Rattle.tlv_reader.proofs.WalkLaws.{end-forward}
use Rattle.im_members.specs.Fields.{slot_of, place_of, put_at, put_end, field_step, fields_from, fields_at}
use Rattle.im_members.specs.Array.{opt_of, required_in}
use Rattle.im_members.specs.Pass.{inside_on, frame_on}
use Rattle.im_members.proofs.PassLaws.{Reads, within, on-other, on-deep, on_in}
use Rattle.im_blocks.specs.declared.Path.{Path}
use Rattle.im_blocks.specs.declared.Status.{Status}
use Rattle.im_blocks.specs.declared.Answer.{Answer}
use Rattle.im_blocks.specs.Path.{path_tags, path_from, path_at, path_on}
use Rattle.im_blocks.specs.Filter.{pair_tags}
use Rattle.im_blocks.specs.Status.{status_from, status_at, status_on, answer_from, answer_at, answer_on}
use Rattle.im_blocks.specs.Data.{DataOf, ReportOf, triple_tags, any_in, data_from, data_at, data_on, either, maybe_in, report_from, report_on}
use Rattle.im_blocks.proofs.BlockLaws.{never}
use Rattle.im_blocks.proofs.OnLaws.{path-reads, status-reads, answer-reads, data_reads}

-- ---- a head takes one byte and its tag

abbrev Tagged : ℕ → Option Element → Type 0
Tagged at None = Unit {0}
Tagged at (Some e) = at + 1 + tag_width e.form ≤ e.next.at

head-tagged : (s : List ℕ) (at : ℕ) → Tagged at (head_at s at)
unfolding head_at closed_at
head-tagged s at =
    let P : Option Element → Type 0 = Tagged at in
    let form = get_or s at 0 / 32 in
    let kind = get_or s at 0 % 32 in
    let tw = tag_width form in
    let nw = number_width kind in
    pick-elim P (ltb at (length s)) (formed_at s at form kind) None
    (λ _. pick-elim P (ltb end_of_container kind) None _ (λ _. tt)
    (λ _. pick-elim P (pick (eqb kind end_of_container) (ltb 0 form) false) None _ (λ _. tt)
    (λ _. pick-elim P (ltb (length s - (at + 1)) (tw + nw)) None _ (λ _. tt)
    (λ _. pick-elim P (is_string kind) _ _ (λ _. pick-elim P (ltb (length s - (at + 1 + tw + nw)) (number_at nw s (at + 1 + tw))) None _ (λ _. tt) (λ _. omega arith)) (λ _. omega arith)))))
    (λ _. tt)

-- an element ends where its head ends, or after that
abbrev From : ℕ → Got (Unit {0}) → Type 0
From at bad = Unit {0}
From at (got u n) = at ≤ n

from-ahead : (at n : ℕ) (g : Got (Unit {0})) → Ahead at n g → From at g
from-ahead at n bad h = tt
from-ahead at n (got u m) h = let l = h.0 in omega arith

end_after : (d : ℕ) (s : List ℕ) (e : Element) → From e.next.at (element_end d s e)
unfolding element_end element_by
end_after zero s e = choose-elim (From e.next.at) (ltb e.kind structure) _ _ (λ _. omega arith) (λ _. choose-elim (From e.next.at) (ltb list e.kind) _ _ (λ _. tt) (λ _. tt))
end_after (suc d) s e =
    choose-elim (From e.next.at) (ltb e.kind structure) _ _ (λ _. omega arith)
    (λ _. choose-elim (From e.next.at) (ltb list e.kind) _ _ (λ _. tt)
    (λ _. from-ahead e.next.at (length s) (fold_at (λ x at m. element_end d s m) (length s) s e.kind tt e.next.at) (fold-ahead (λ x at m. element_end d s m) s (λ x. end-forward d s) (length s) e.kind tt e.next.at)))

-- ---- members that each take as many bytes as they add to a measure take as many as all of them add, and one for the end

abbrev pub Grown : {S : Type 0} → (S → ℕ) → ℕ → ℕ → Got S → Type 0
Grown m at k bad = Unit {0}
Grown m at k (got y n) = at + m y ≤ n + k

module _ {S : Type 0} (m : S → ℕ) (step : S → ℕ → Element → Got S) (s : List ℕ) (grows : (x : S) (at : ℕ) (e : Element) → head_at s at ≡ Some e → Grown m at (m x) (step x at e)) (kind : ℕ) where
  further : (at k : ℕ) (g : Got S) (f : S → ℕ → Got S) → Grown m at k g → ((y : S) (n : ℕ) → Grown m (n + 1) (m y) (f y n)) → Grown m (at + 1) k (bind_g g f)
  further at k bad f h r = tt
  further at k (got y n) f h r = go (f y n) (r y n)
    where
      go : (g : Got S) → Grown m (n + 1) (m y) g → Grown m (at + 1) k g
      go bad q = tt
      go (got z i) q = omega (arith, h, q)

  grown-by : (x : S) (at : ℕ) (rest : S → ℕ → Got S) → ((y : S) (n : ℕ) → Grown m (n + 1) (m y) (rest y n)) → (h : (Option Element)) → head_at s at ≡ h → Grown m (at + 1) (m x) (fold_by kind x (step x at) rest h)
  unfolding fold_by
  grown-by x at rest r None h = tt
  grown-by x at rest r (Some e) h =
      choose-elim (Grown m (at + 1) (m x)) (eqb e.kind end_of_container) _ _ (λ _. (let w = (within s at h).0 in omega arith))
      (λ _. choose-elim (Grown m (at + 1) (m x)) (allowed_in kind e.form) _ _ (λ _. further at (m x) (step x at e) rest (grows x at e h) r) (λ _. tt))

  pub fold-grows : (f : ℕ) (x : S) (at : ℕ) → Grown m (at + 1) (m x) (fold_at step f s kind x at)
  unfolding fold_at
  fold-grows zero x at = tt
  fold-grows (suc f) x at = grown-by x at (λ y n. fold_at step f s kind y n) (λ y n. fold-grows f y n) (head_at s at) refl

-- ---- the bytes of the listed members, by where they stand

abbrev total : (ℕ → ℕ) → List ℕ → ℕ
total w [] = 0
total w (x ∷ l) = w x + total w l

total-set : (w : ℕ → ℕ) (l : List ℕ) (i v : ℕ) → total w (set l i v) ≤ total w l + w v
total-set w [] i v = omega arith
total-set w (x ∷ l) zero v = omega arith
total-set w (x ∷ l) (suc i) v = let h = total-set w l i v in omega arith

module _ (w : ℕ → ℕ) (z : w 0 ≡ 0) where
  total-none : (n : ℕ) → total w (replicate n 0) ≡ 0
  total-none zero = refl
  total-none (suc n) = omega (arith, z, total-none n)

  total-one : (l : List ℕ) (i : ℕ) → w (get_or l i 0) ≤ total w l
  total-one [] i = omega (arith, z)
  total-one (x ∷ l) zero = omega arith
  total-one (x ∷ l) (suc i) = let h = total-one l i in omega arith

  total-two : (l : List ℕ) (i j : ℕ) → i < j → w (get_or l i 0) + w (get_or l j 0) ≤ total w l
  total-two [] i j h = omega (arith, z)
  total-two (x ∷ l) i zero h = absurd (omega arith)
  total-two (x ∷ l) zero (suc j) h = let o = total-one l j in omega arith
  total-two (x ∷ l) (suc i) (suc j) h = let o = total-two l i j (omega arith) in omega arith

-- of the member at a place, counted from its head's end, and two for the head; a slot holds one more than the place, or 0
abbrev beyond : ℕ → Got (Unit {0}) → ℕ
beyond at bad = 0
beyond at (got u n) = n - at

unfoldable weight : ℕ → List ℕ → ℕ → ℕ
weight d s p = pick (eqb p 0) 0 (headed 2 (λ e. 2 + beyond e.next.at (element_end d s e)) (head_at s (p - 1)))

module _ (d : ℕ) (s : List ℕ) where
  weight-none : weight d s 0 ≡ 0
  unfolding weight
  weight-none = refl

  weight-here : (at : ℕ) {e : Element} → head_at s at ≡ Some e → weight d s (at + 1) ≡ 2 + beyond e.next.at (element_end d s e)
  unfolding weight
  weight-here at h = let q : at + 1 - 1 ≡ at = omega arith in simp (ne_eqb (at + 1) 0 (λ y. omega arith), q, h)

  weight-there : (p : ℕ) → (p ≡ 0 → ⊥) → 2 ≤ weight d s p
  unfolding weight
  weight-there p n = rw (ne_eqb p 0 n) (go (head_at s (p - 1)))
    where
      go : (h : (Option Element)) → 2 ≤ headed 2 (λ e. 2 + beyond e.next.at (element_end d s e)) h
      go None = omega arith
      go (Some e) = omega arith

  -- a listed member has a context tag
  listed-form : (tags : List Bool) (form tag : ℕ) → ltb (slot_of tags form tag) 10 ≡ true → form ≡ 1
  unfolding slot_of
  listed-form tags form tag h = go (eqb form 1) refl h
    where
      go : (b : Bool) → eqb form 1 ≡ b → ltb (pick b (place_of tags tag) 10) 10 ≡ true → form ≡ 1
      go true q r = eqb-true form 1 q
      go false q r = absurd (let y = ltb-true 10 10 r in omega arith)

  member-grows : (tags : List Bool) (seen : List ℕ) (at : ℕ) (e : Element) → head_at s at ≡ Some e → Grown (total (weight d s)) at (total (weight d s) seen) (field_step d s tags seen at e)
  unfolding field_step put_at tag_width
  member-grows tags seen at e h = go (element_end d s e) refl
    where
      i : ℕ
      i = slot_of tags e.form e.tag

      listed : (n : ℕ) → element_end d s e ≡ got tt n → e.form ≡ 1 → at + total (weight d s) (set seen i (at + 1)) ≤ n + total (weight d s) seen
      listed n w f =
          let a : at + 1 + tag_width 1 ≤ e.next.at = subst (λ (x : ℕ). at + 1 + tag_width x ≤ e.next.at) f (subst (Tagged at) h (head-tagged s at)) in
          let b : e.next.at ≤ n = subst (From e.next.at) w (end_after d s e) in
          let k : weight d s (at + 1) ≡ 2 + (n - e.next.at) = weight-here at h ∙ ap (λ g. 2 + beyond e.next.at g) w in
          omega (arith, total-set (weight d s) seen i (at + 1))

      put : (n : ℕ) → element_end d s e ≡ got tt n → Grown (total (weight d s)) at (total (weight d s) seen) (put_at seen i at n)
      put n w =
          pick-elim (Grown (total (weight d s)) at (total (weight d s) seen)) (ltb i 10) _ _
          (λ l. pick-elim (Grown (total (weight d s)) at (total (weight d s) seen)) (eqb (get_or seen i 0) 0) _ _ (λ _. listed n w (listed-form tags e.form e.tag l)) (λ _. tt))
          (λ _. (let a = (subst (Ahead at (length s)) w (end-forward d s at e h)).0 in omega arith))

      go : (g : Got (Unit {0})) → element_end d s e ≡ g → Grown (total (weight d s)) at (total (weight d s) seen) (put_end seen i at g)
      go bad w = tt
      go (got tt n) w = put n w

  fields-size : (kind : ℕ) (tags : List Bool) (at : ℕ) → Grown (total (weight d s)) (at + 1) 0 (fields_at d s kind tags at)
  unfolding fields_at fields_from
  fields-size kind tags at = subst (λ (k : ℕ). Grown (total (weight d s)) (at + 1) k (fields_at d s kind tags at)) (total-none (weight d s) weight-none 10) (fold-grows (total (weight d s)) (field_step d s tags) s (member-grows tags) kind (length s) (replicate 10 0) at)

-- ---- a frame: its members are in it

record Sized {A : Type 0} (d : ℕ) (s : List ℕ) (F : List ℕ → Option A) (at : ℕ) (x : A) (n : ℕ) : Type 0 where
  pub seen : List ℕ
  pub made : F seen ≡ Some x
  pub size : at + 1 + total (weight (d - 1) s) seen ≤ n

module _ (kind d : ℕ) (s : List ℕ) (tags : List Bool) (e : Element) where
  inside-size : Grown (total (weight (d - 1) s)) (e.next.at + 1) 0 (inside_on kind d s tags e)
  inside-size = go (eqb e.kind kind) refl (eqb d 0) refl
    where
      P : Got (List ℕ) → Type 0
      P g = Grown (total (weight (d - 1) s)) (e.next.at + 1) 0 g

      go : (a : Bool) → eqb e.kind kind ≡ a → (b : Bool) → eqb d 0 ≡ b → P (inside_on kind d s tags e)
      go false q b r = subst P (sym (on-other kind d s tags e (eqb-false e.kind kind q))) tt
      go true q true r = subst P (sym (on-deep kind d s tags e (eqb-true d 0 r))) tt
      go true q false r = subst P (sym (on_in kind d s tags e (eqb-true e.kind kind q) (eqb-false d 0 r))) (fields-size (d - 1) s kind tags e.next.at)

  frame-size : {A : Type 0} (F : List ℕ → Option A) {x : A} {n : ℕ} → frame_on kind d s tags F e ≡ got x n → Sized d s F e.next.at x n
  frame-size {A} F {x} {n} w = go (inside_on kind d s tags e) inside-size w
    where
      put : (xs : List ℕ) (m : ℕ) (o : Option A) → F xs ≡ o → e.next.at + 1 + total (weight (d - 1) s) xs ≤ m + 0 → place o m ≡ got x n → Sized d s F e.next.at x n
      put xs m None q l z = never (cc)
      put xs m (Some y) q l z =
          let f : y ≡ x = cc in
          let k : m ≡ n = cc in
          record { seen = xs; made = q ∙ ap Some f; size = omega arith }

      go : (g : Got (List ℕ)) → Grown (total (weight (d - 1) s)) (e.next.at + 1) 0 g → bind_g g (λ seen m. place (F seen) m) ≡ got x n → Sized d s F e.next.at x n
      go bad l z = never (cc)
      go (got xs m) l z = put xs m (F xs) refl l z

-- a member that its reader reads to so many bytes beyond its head
required-size : {B : Type 0} (d : ℕ) (s : List ℕ) {read : ℕ → Got B} {on : Element → Got B} → Reads d s read on → (k : ℕ) → ((e : Element) (x : B) (n : ℕ) → on e ≡ got x n → e.next.at + k ≤ n) → (p : ℕ) {x : B} → required_in read p ≡ Some x → 2 + k ≤ weight d s p
unfolding required_in weight
required-size {B} d s {read} {on} reads k least p {x} w = go (eqb p 0) w
  where
    found : (e : Element) → head_at s (p - 1) ≡ Some e → (g : Got B) → on e ≡ g → opt_of g ≡ Some x → 2 + k ≤ 2 + beyond e.next.at (element_end d s e)
    found e h bad q z = never (cc)
    found e h (got y n) q z = let a = least e y n q in rw (reads.ends e y n q) (omega arith)

    there : (h : (Option Element)) → head_at s (p - 1) ≡ h → opt_of (read (p - 1)) ≡ Some x → 2 + k ≤ headed 2 (λ e. 2 + beyond e.next.at (element_end d s e)) h
    there None h z = never (let y : None ≡ Some x = sym (ap opt_of (reads.none (p - 1) h)) ∙ z in cc)
    there (Some e) h z = found e h (on e) refl (sym (ap opt_of (reads.here (p - 1) e h)) ∙ z)

    go : (b : Bool) → pick b None (opt_of (read (p - 1))) ≡ Some x → 2 + k ≤ pick b 0 (headed 2 (λ e. 2 + beyond e.next.at (element_end d s e)) (head_at s (p - 1)))
    go true z = never (cc)
    go false z = there (head_at s (p - 1)) refl z

-- ---- the blocks

module _ (d : ℕ) (s : List ℕ) (e : Element) where
  path-size : (x : Path) (n : ℕ) → path_on d s e ≡ got x n → e.next.at + 1 ≤ n
  unfolding path_on
  path-size x n w = let z = frame-size list d s path_tags e (path_from s) w in omega (arith, z.size)

  status-size : (x : Status) (n : ℕ) → status_on d s e ≡ got x n → e.next.at + 1 ≤ n
  unfolding status_on
  status-size x n w = let z = frame-size structure d s pair_tags e (status_from s) w in omega (arith, z.size)

path-weight : (d : ℕ) (s : List ℕ) (p : ℕ) {x : Path} → required_in (path_at d s) p ≡ Some x → 3 ≤ weight d s p
path-weight d s p w = required-size d s (path-reads d s) 1 (path-size d s) p w

status-weight : (d : ℕ) (s : List ℕ) (p : ℕ) {x : Status} → required_in (status_at d s) p ≡ Some x → 3 ≤ weight d s p
status-weight d s p w = required-size d s (status-reads d s) 1 (status-size d s) p w

any-weight : (d : ℕ) (s : List ℕ) (p : ℕ) {x : ℕ} → any_in p ≡ Some x → 2 ≤ weight d s p
unfolding any_in
any-weight d s p {x} w = go (eqb p 0) refl w
  where
    go : (b : Bool) → eqb p 0 ≡ b → pick b None (Some (p - 1)) ≡ Some x → 2 ≤ weight d s p
    go true q z = never (cc)
    go false q z = weight-there d s p (eqb-false p 0 q)

-- what was made of parts was made of each
bound : {A B : Type 0} (o : Option A) {f : A → Option B} {y : B} → bind_o o f ≡ Some y → (x : A) × (o ≡ Some x) × (f x ≡ Some y)
bound None e = never (cc)
bound (Some x) e = (x, refl, e)

module _ (d : ℕ) (s : List ℕ) (e : Element) where
  answer-size : (x : Answer) (n : ℕ) → answer_on d s e ≡ got x n → e.next.at + 7 ≤ n
  unfolding answer_on answer_from
  answer-size x n w =
      let z = frame-size structure d s pair_tags e (answer_from (d - 1) s) w in
      let p = bound (required_in (path_at (d - 1) s) (get_or z.seen 0 0)) z.made in
      let q = bound (required_in (status_at (d - 1) s) (get_or z.seen 1 0)) p.2 in
      omega (arith, z.size, path-weight (d - 1) s _ p.1, status-weight (d - 1) s _ q.1, total-two (weight (d - 1) s) (weight-none (d - 1) s) z.seen 0 1 (omega arith))

  data-size : (x : DataOf ℕ) (n : ℕ) → data_on d s e ≡ got x n → e.next.at + 6 ≤ n
  unfolding data_on data_from
  data-size x n w =
      let z = frame-size structure d s triple_tags e (data_from (d - 1) s) w in
      let p = bound (required_in (path_at (d - 1) s) (get_or z.seen 1 0)) z.made in
      let q = bound (any_in (get_or z.seen 2 0)) p.2 in
      omega (arith, z.size, path-weight (d - 1) s _ p.1, any-weight (d - 1) s _ q.1, total-two (weight (d - 1) s) (weight-none (d - 1) s) z.seen 1 2 (omega arith))

answer-weight : (d : ℕ) (s : List ℕ) (p : ℕ) {x : Answer} → required_in (answer_at d s) p ≡ Some x → 9 ≤ weight d s p
answer-weight d s p w = required-size d s (answer-reads d s) 7 (answer-size d s) p w

data-weight : (d : ℕ) (s : List ℕ) (p : ℕ) {x : DataOf ℕ} → required_in (data_at d s) p ≡ Some x → 8 ≤ weight d s p
data-weight d s p w = required-size d s (data_reads d s) 6 (data-size d s) p w

-- a member that is there is what it reads as
there : {A : Type 0} (read : ℕ → Got A) (p : ℕ) {o : Option A} → maybe_in read p ≡ Some o → required_in read p ≡ o
unfolding maybe_in
there {A} read p {o} w = go (eqb p 0) w
  where
    go : (b : Bool) → pick b None (Some (required_in read p)) ≡ Some o → required_in read p ≡ o
    go true z = never (cc)
    go false z = cc

report-weight : (d : ℕ) (s : List ℕ) (xs : List ℕ) {x : ReportOf ℕ} → report_from d s xs ≡ Some x → 8 ≤ total (weight d s) xs
unfolding report_from
report-weight d s xs {x} w = go (maybe_in (answer_at d s) (get_or xs 0 0)) refl (maybe_in (data_at d s) (get_or xs 1 0)) refl w
  where
    go : (a : Option (Option Answer)) → maybe_in (answer_at d s) (get_or xs 0 0) ≡ a → (b : Option (Option (DataOf ℕ))) → maybe_in (data_at d s) (get_or xs 1 0) ≡ b → either a b ≡ Some x → 8 ≤ total (weight d s) xs
    go None q None r z = never (cc)
    go (Some a) q (Some b) r z = never (cc)
    go (Some a) q None r z = let y = bound a z in omega (arith, answer-weight d s (get_or xs 0 0) (there (answer_at d s) (get_or xs 0 0) q ∙ y.1), total-one (weight d s) (weight-none d s) xs 0)
    go None q (Some b) r z = let y = bound b z in omega (arith, data-weight d s (get_or xs 1 0) (there (data_at d s) (get_or xs 1 0) r ∙ y.1), total-one (weight d s) (weight-none d s) xs 1)

-- THE LAW: a block of a report takes nine bytes and more after its head
pub report-size : (d : ℕ) (s : List ℕ) (e : Element) (x : ReportOf ℕ) (n : ℕ) → report_on d s e ≡ got x n → e.next.at + 9 ≤ n
unfolding report_on
report-size d s e x n w = let z = frame-size structure d s pair_tags e (report_from (d - 1) s) w in omega (arith, z.size, report-weight (d - 1) s z.seen z.made)
