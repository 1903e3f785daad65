-- THE THEOREMS SAY SOMETHING: the computed run is a run of the ends, calm, and each of its messages arrives. The cluster that did not change is called whole, and stays so until the cache
-- begins something; it is as the server held it. The one that changed between the parts is not called whole.
use Rattle.std.specs.Prelude.{Some}
use mathlib.Core.Path.{◌≡◌, refl, sym, ap, ◌∙◌, subst}
use mathlib.Core.Logic.{inl, inr}
use mathlib.Core.List.Memᴰ
use mathlib.Core.List.{List, [], ◌∷◌, Memᴰ}
use Prim.Native.Nat.{ℕ, ◌^◌, ◌≤◌, ◌<◌}
use native.Mathlib.Omega.{arith}
use lib.ListN.{get_or}
use Rattle.tlv_reader.specs.declared.Value.TheVariants.{Text}
use Rattle.im_envelope.specs.Envelope.{max_message}
use Rattle.server_replies.specs.Row.{standing_in}
use Rattle.server.specs.Start.{fresh_row}
use Rattle.cache_ask.specs.Ask.{said, says_whole, entry_said, says_entry}
use Rattle.proof_promises.specs.World.{World}
use Rattle.proof_promises.specs.Runs.{Run, none, then, Reach, join, Visits, NoneBegun, Heard, Got, alters, begins_read, resends, hears, gets}
use Rattle.proof_promises.specs.Claims.{CallsWhole, version_of, changes_of, shown, entry_for, MayReadSome, Arrived, Taking, Making, Open, Ending, Stays}
use Rattle.proof_promises.proofs.Main.{first-half, second-half, once}
use Rattle.proof_promises.proofs.FirstLaws.{just-same}
use Rattle.proof_protocol.proofs.SmallLaws.{all_cons}
use Rattle.proof_example.specs.Plan.{plan}
use Rattle.proof_example.specs.Messages.{request, success, part1, part2, new}
use Rattle.proof_example.specs.Cache.{panel1, panel2, panel3}
use Rattle.proof_example.specs.Server.{sign0, sign1, row1}
use Rattle.proof_example.proofs.ServerCalls.{server-calls}
use Rattle.proof_example.proofs.CacheCalls.{cache-calls}
use Rattle.proof_example.proofs.Start.{start}
use Rattle.proof_example.proofs.Run.{begun, lost, resent, repeated, taken, refused, changed, sent, ended, begun-holds, lost-holds, resent-holds, repeated-holds, taken-holds, changed-holds, sent-holds, ended-holds}

-- one cluster ends whole, and one not
pub whole : CallsWhole ended 1 6 5
whole = rw (ended-holds.page-is, ended-holds.cache-is) cache-calls.whole

pub not-whole : says_whole ended.page ended.cache 1 8 ≡ said 1 []
not-whole = rw (ended-holds.page-is, ended-holds.cache-is) cache-calls.not-whole

-- from fresh ends to the read begun, and from there to its end
abbrev pub reach : Reach plan start begun
unfolding begun
reach = then none (begins_read max_message)

-- the newest of the messages made so far
pub newest : {m : List ℕ} {l r : List (List ℕ)} → l ≡ m ∷ r → Memᴰ m l
newest e = rw e (Memᴰ.head refl)

abbrev pub run : Run plan begun ended
unfolding lost resent repeated taken refused changed sent ended
run =
    then
    (then
    (then
    (then
    (then
    (then (then (then none (hears request max_message (newest begun-holds.requests-are))) (resends max_message)) (hears request max_message (newest resent-holds.requests-are)))
    (gets part1 max_message (newest repeated-holds.replies-are)))
    (gets part1 max_message (newest taken-holds.replies-are)))
    (alters 1 8 2 new (Text 0 3) (omega arith)))
    (hears success max_message (newest changed-holds.requests-are)))
    (gets part2 max_message (newest sent-holds.replies-are))

pub none-begun : NoneBegun run
unfolding lost resent repeated taken refused changed sent ended
none-begun = ((((((((tt, tt), tt), tt), tt), tt), tt), tt), tt)

each-of-three : (P : List ℕ → Type 0) {a b c : List ℕ} → P a → P b → P c → (m : List ℕ) → Memᴰ m (a ∷ b ∷ c ∷ []) → P m
each-of-three P x y z = all_cons P x (all_cons P y (all_cons P z (λ m i. absurd (Memᴰ.not-nil i))))

-- each message and each reply has arrived
pub arrived : Arrived run
unfolding lost resent repeated taken refused changed sent ended
arrived =
    record {
      requests = λ m i e. each-of-three (λ (m : List ℕ). Heard m run) (inl (inr (refl, full))) asked asked m (rw ended-holds.requests-are at i);
      replies = λ m i e. each-of-three (λ (m : List ℕ). Got m run) (inr (refl, full)) first first m (rw ended-holds.replies-are at i);
    }
  where
    full : max_message ≤ max_message
    full = omega arith

    asked : Heard request run
    asked = inl (inl (inl (inl (inl (inr (refl, full))))))

    first : Got part1 run
    first = inl (inl (inl (inr (refl, full))))

-- THE THREE STEPS that the second half speaks of, in this run: the request is taken when it arrives first, the last part is made after the change, and taken at the end
abbrev whole_run : Reach plan start ended
whole_run = join reach run

pub taking : Taking whole_run 1
unfolding lost resent repeated taken refused changed sent ended fresh_row standing_in sign0 sign1 row1
taking =
    record {
      at = begun;
      next = lost;
      passes = inl (inl (inl (inl (inl (inl (inl (inr (refl, refl))))))));
      before = rw begun-holds.server-is (omega arith);
      after = ap (λ s. s.row.progress.last) lost-holds.server-is;
    }

pub making : Making whole_run part2
unfolding lost resent repeated taken refused changed sent ended
making =
    record {
      at = changed;
      next = sent;
      passes = inl (inr (refl, refl));
      before = λ i. all_cons (λ (m : List ℕ). m ≡ part2 → ⊥) other (all_cons (λ (m : List ℕ). m ≡ part2 → ⊥) other (λ m i. absurd (Memᴰ.not-nil i))) part2 (rw changed-holds.replies-are at i) refl;
      after = newest sent-holds.replies-are;
    }
  where
    other : part1 ≡ part2 → ⊥
    other e = absurd (omega (arith, server-calls.turns.0, server-calls.turns.1, ap (λ (m : List ℕ). get_or m 7 0) e))

pub ending : Ending run 1 part2
unfolding lost resent repeated taken refused changed sent ended panel2 panel3
ending =
    record {
      at = sent;
      next = ended;
      passes = inr (refl, refl);
      before = (ap (λ c. c.asked.stage) sent-holds.cache-is, ap (λ c. c.asked.exchange) sent-holds.cache-is);
      after = (ap (λ c. c.asked.stage) ended-holds.cache-is, ap (λ c. c.asked.exchange) ended-holds.cache-is);
      made = newest sent-holds.replies-are;
      room = max_message;
      taken = refl;
    }

-- there are no others; so by the second half cluster 6, which did not change, stays whole until the cache begins something
pub stays-whole : Stays plan ended (λ z. CallsWhole z 1 6 5)
unfolding taking making ending
stays-whole =
    let (m, own, last, k, l, o, over, settled) = second-half plan start begun ended reach 1 opened run none-begun arrived in
    let (is, end) = once.ending plan start begun ended reach run 1 m part2 o ending in
    let begins : k.at ≡ begun = (once.taking plan start ended whole_run 1 k taking).from in
    let makes : l.at ≡ changed = made m is l in
    let (version, held, stays) = settled 1 6 (omega arith) (omega arith) (subst (λ (x : World). MayReadSome plan x 1 6) (sym makes) some)
    (ap (λ (x : World). changes_of plan x 1 6) begins ∙ uncounted begun begun-holds.unchanged ∙ sym (uncounted changed changed-holds.unchanged) ∙ ap (λ (x : World). changes_of plan x 1 6) (sym makes)) in
    let five : version ≡ 5 = just-same version 5 (sym held ∙ ap (λ (x : World). version_of plan x 1 6) makes ∙ version5) in
    subst (λ (x : World). Stays plan x (λ z. CallsWhole z 1 6 5)) end.to (subst (λ (n : ℕ). Stays plan o.next (λ z. CallsWhole z 1 6 n)) five stays)
  where
    opened : Open begun 1
    opened = unfold panel1 in (ap (λ c. c.asked.stage) begun-holds.cache-is, ap (λ c. c.asked.exchange) begun-holds.cache-is)

    made : (m : List ℕ) → m ≡ part2 → (l : Making whole_run m) → l.at ≡ changed
    made m e = subst (λ (m : List ℕ). (l : Making whole_run m) → l.at ≡ changed) (sym e) (λ l. (once.making plan start ended whole_run part2 l making).from)

    uncounted : (x : World) → x.changes 0 ≡ 0 → changes_of plan x 1 6 ≡ 0
    uncounted x e = rw server-calls.row6 e

    some : MayReadSome plan changed 1 6
    some = (0, server-calls.may-read6.0, omega arith, rw changed-holds.server-is server-calls.may-read6.1)

    version5 : version_of plan changed 1 6 ≡ Some 5
    version5 = rw (server-calls.row6, changed-holds.server-is) (ap Some server-calls.stands.2)

-- and by the first half the server has held version 5 of cluster 6, and the cache's entries are what it may read there, as held then
pub held : ((x : World) × Visits (join reach run) x × (version_of plan x 1 6 ≡ Some 5))
    × ((x : World) → Visits (join reach run) x → version_of plan x 1 6 ≡ Some 5
    → (attribute : ℕ) → attribute < 2 ^ 32 → says_entry ended.page ended.cache 1 6 attribute ≡ entry_said (entry_for (shown plan x 1 6 attribute)))
held = first-half plan start ended (join reach run) 1 6 5 (omega arith) (omega arith) few whole
  where
    few : changes_of plan ended 1 6 < 2 ^ 32
    few = rw (server-calls.row6, ended-holds.unchanged) (omega arith)
