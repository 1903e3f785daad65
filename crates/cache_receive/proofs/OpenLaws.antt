-- Taking a message, case by case for the code.
use Rattle.std.specs.Prelude.{Some, None, Option}
use mathlib.Core.Path.{◌≡◌, refl, sym, ap, ◌∙◌}
use mathlib.Core.Bool.{Bool, true, false, ◌&&◌}
use mathlib.Core.List.{List}
use Prim.Native.Nat.{ℕ, suc, ◌-◌, ◌≤◌}
use native.Mathlib.Omega.{arith}
use borrow.Author.Tests.{ne_eqb, leb-true, ltb-false}
use lib.Dec.{eqb, ltb, leb}
use lib.ListN.{length, drop, take, length-drop}
use lib.Seq.{take_all}
use Rattle.tlv_reader.specs.Octet.{pick}
use Rattle.node_schema.proofs.BoolLaws.{left, by-test}
use Rattle.im_envelope.specs.declared.Fields.{Fields}
use Rattle.im_envelope.specs.Envelope.{envelope_in, envelope_length, max_message}
use Rattle.cache_state.specs.declared.CacheState.{CacheState}
use Rattle.cache_state.specs.State.{cache_right}
use Rattle.cache_state.specs.Words.{words_right}
use Rattle.cache_state.specs.Reaction.{CacheReaction, refusal, unsent, of_cache}
use Rattle.cache_receive.specs.declared.Opened.{Opened}
use Rattle.cache_receive.specs.Receive.{for_cache, awaited, takes_part, takes, in_envelope, received}
use Rattle.cache_receive.specs.Steps.{shut, opened_by, opened_in, opened_of, by_reply}

never : {A : Type 0} {n : ℕ} → suc n ≡ 0 → A
never e = absurd (omega arith)

-- an envelope has its eight octets
long-enough : (m : List ℕ) {e : Fields} → envelope_in m ≡ Some e → envelope_length ≤ length m
unfolding envelope_in
long-enough m {e} h = by-test (ltb (length m) envelope_length) (λ t. absurd (let q : None ≡ Some e = rw t at h in apart q)) (λ f. ltb-false _ _ f)
  where
    tag : Option Fields → ℕ
    tag None = 1
    tag (Some x) = 0

    apart : None ≡ Some e → ⊥
    apart q = never (ap tag q)

-- what follows the envelope
pub payload-of : (m : List ℕ) → take (length m - envelope_length) (drop envelope_length m) ≡ drop envelope_length m
payload-of m = take_all (length m - envelope_length) (drop envelope_length m) (omega (arith, length-drop envelope_length m))

-- what a message that is taken has
pub record Open (asked page : List ℕ) (s : CacheState) (m : List ℕ) (room opcode : ℕ) : Type 0 where
  pub words : words_right asked ≡ true
  pub cache : cache_right page s ≡ true
  pub large : max_message ≤ room
  pub long : envelope_length ≤ length m
  pub short : length m ≤ max_message
  pub taken : of_cache asked page s (received page s m room) ≡ takes page s opcode (drop envelope_length m)

module _ (asked page : List ℕ) (s : CacheState) (m : List ℕ) (room : ℕ) where
  -- the number says why a message is not taken
  pub shut-as : {n : ℕ} → n ≡ (opened_of asked page s m room).number → (n ≡ 0 → ⊥) → of_cache asked page s (received page s m room) ≡ refusal n s page
  unfolding opened_of opened_in received
  shut-as {n} = go (words_right asked) (cache_right page s) (ltb room max_message) (envelope_in m)
    where
      same : {k : ℕ} → n ≡ k → refusal k s page ≡ refusal n s page
      same e = ap (λ (k : ℕ). refusal k s page) (sym e)

      inside : (a b : Bool) (o : Opened) (x : CacheReaction) → o.number ≡ 0 → n ≡ (pick a (pick b o (shut 5)) (shut 4)).number → (n ≡ 0 → ⊥) → pick a (pick b x (refusal 5 s page)) (refusal 4 s page) ≡ refusal n s page
      inside true true o x q e z = absurd (z (e ∙ q))
      inside true false o x q e z = same e
      inside false b o x q e z = same e

      go : (a b c : Bool) (v : (Option Fields)) → n ≡ (pick (a && b) (pick c (shut 3) (opened_by s.asked m v)) (shut 2)).number → (n ≡ 0 → ⊥) → pick a (pick b (pick c (refusal 3 s page) (in_envelope page s m v)) (refusal 2 s page)) (refusal 2 s page) ≡ refusal n s page
      go false b c v e z = same e
      go true false c v e z = same e
      go true true true v e z = same e
      go true true false None e z = same e
      go true true false (Some f) e z = inside (leb (length m) max_message && for_cache f.edition f.opcode) (awaited s.asked f) (record { number = 0; opcode = f.opcode }) (takes page s f.opcode (drop envelope_length m)) refl e z

  -- 0: it is
  pub is_open_lem : (opened_of asked page s m room).number ≡ 0 → Open asked page s m room (opened_of asked page s m room).opcode
  unfolding opened_of opened_in received
  is_open_lem = go (words_right asked) refl (cache_right page s) refl (ltb room max_message) refl (envelope_in m) refl
    where
      inside : (a b : Bool) (f : Fields) → ◌≡◌ {A = ℕ} (pick a (pick b (record { number = 0; opcode = f.opcode }) (shut 5)) (shut 4)).number 0 → (a ≡ true) × (b ≡ true)
      inside true true f e = (refl, refl)
      inside true false f e = never e
      inside false b f e = never e

      go : (a : Bool) → words_right asked ≡ a → (b : Bool) → cache_right page s ≡ b → (c : Bool) → ltb room max_message ≡ c → (v : (Option Fields)) → envelope_in m ≡ v → (pick (a && b) (pick c (shut 3) (opened_by s.asked m v)) (shut 2)).number ≡ 0 → Open asked page s m room (pick (a && b) (pick c (shut 3) (opened_by s.asked m v)) (shut 2)).opcode
      go false p b q c l v w e = never e
      go true p false q c l v w e = never e
      go true p true q true l v w e = never e
      go true p true q false l None w e = never e
      go true p true q false l (Some f) w e =
          let (k, a) = inside (leb (length m) max_message && for_cache f.edition f.opcode) (awaited s.asked f) f e in
          record {
            words = p;
            cache = q;
            large = ltb-false room max_message l;
            long = long-enough m w;
            short = leb-true (length m) max_message (left _ _ k);
            taken = rw (p, q, l, w, k, a) refl;
          }

-- which reply it is
pub takes-report : (page : List ℕ) (s : CacheState) {opcode : ℕ} (payload : List ℕ) → opcode ≡ 5 → takes page s opcode payload ≡ takes_part page s payload
unfolding takes
takes-report page s payload e = rw e refl

pub takes-reply : (page : List ℕ) (s : CacheState) (opcode : ℕ) (payload : List ℕ) → (opcode ≡ 5 → ⊥) → takes page s opcode payload ≡ unsent (by_reply s opcode payload) page
unfolding takes by_reply
takes-reply page s opcode payload h = by-test (eqb opcode 1) (λ t. rw t refl) (λ f. rw (f, ne_eqb opcode 5 h) refl)
