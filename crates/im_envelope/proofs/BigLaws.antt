-- Numbers with their most significant byte first, and THE LAW of the envelope: what is written is read back.
use Rattle.std.specs.Prelude.{Some}
use mathlib.Core.Path.{◌≡◌, sym, ap, ◌∙◌}
use mathlib.Core.List.{List, [], ◌∷◌, ◌++◌}
use Prim.Native.Nat.{ℕ, suc, ◌+◌, ◌*◌, ◌/◌, ◌%◌, ◌^◌, ◌<◌, ◌≤◌}
use native.Mathlib.Nat.{pow-suc, pow-zero, mul_assoc}
use native.Mathlib.Omega.{arith}
use borrow.Author.Tests.{le-ltb}
use lib.ListN.{length, get_or, take, length-append}
use lib.Seq.{take-suc, take_at}
use Rattle.im_writer.specs.Envelope.{big_number, exchange_limit, envelope_word, envelope_octets}
use Rattle.im_writer.proofs.EnvelopeLaws.{length-envelope, envelope-back}
use Rattle.im_envelope.specs.Envelope.{envelope_length, fields_of, envelope_in}

-- one byte more makes what stood before it 256 times as much
pub big-snoc : (l : List ℕ) (b : ℕ) → big_number (l ++ (b ∷ [])) ≡ big_number l * 256 + b
unfolding big_number
big-snoc [] b = omega (arith, pow-zero 256)
big-snoc (x ∷ l) b =
    let n : length (l ++ (b ∷ [])) ≡ suc (length l) = length-append l (b ∷ []) ∙ omega arith in
    let p : 256 ^ suc (length l) ≡ 256 ^ length l * 256 = pow-suc 256 (length l) in
    let m : x * (256 ^ length l * 256) ≡ x * 256 ^ length l * 256 = assoc x (256 ^ length l) in
    rw (n, big-snoc l b, p, m) (omega arith)
  where
    assoc : (x y : ℕ) → x * (y * 256) ≡ x * y * 256
    assoc x y = sym (mul_assoc x y 256)

pub big-turn : (s : List ℕ) (i v b : ℕ) → i < length s → v ≡ big_number (take i s) → b ≡ get_or s i 0 → v * 256 + b ≡ big_number (take (suc i) s)
big-turn s i v b l e f = rw (take-suc s i 0 l, e, f) (sym (big-snoc (take i s) (get_or s i 0)))

-- how large the number in so many bytes can be
pub big-below : (s : List ℕ) (i v b : ℕ) → v < 256 ^ i → b < 256 → v * 256 + b < 256 ^ suc i
big-below s i v b l k = rw pow-suc (omega arith)

-- THE LAW
pub envelope-read : (edition opcode exchange turn : ℕ) → edition < 16 → opcode < 16 → exchange < exchange_limit → turn < 2 ^ 16 → (q : List ℕ) → envelope_in (envelope_octets edition opcode exchange turn ++ q) ≡ Some (record { edition = edition; opcode = opcode; exchange = exchange; turn = turn })
unfolding envelope_in fields_of envelope_word
envelope-read edition opcode exchange turn fe fo fx ft q =
    let bs : List ℕ = envelope_octets edition opcode exchange turn in
    let n = length-envelope edition opcode exchange turn in
    let l : envelope_length ≤ length (bs ++ q) = omega (arith, length-append bs q) in
    let t : take envelope_length (bs ++ q) ≡ bs = take_at bs q envelope_length n in
    let w : ℕ = envelope_word edition opcode exchange turn in
    let e0 : w / 2 ^ 60 ≡ edition = omega arith in
    let e1 : w / 2 ^ 56 % 2 ^ 4 ≡ opcode = omega arith in
    let e2 : w / 2 ^ 16 % exchange_limit ≡ exchange = omega arith in
    let e3 : w % 2 ^ 16 ≡ turn = omega arith in
    rw (le-ltb (length (bs ++ q)) envelope_length l, t, envelope-back edition opcode exchange turn fe fo fx ft)
    (ap Some (λ j. record { edition = e0 j; opcode = e1 j; exchange = e2 j; turn = e3 j }))
