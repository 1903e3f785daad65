-- One pass over a container's members, which stops at a member that a reader of its own reads: where it stops, and what it has seen by
-- then; and what a scalar's head says, as one number.
use Rattle.std.specs.Prelude.{ℕ, zero, suc, ◌+◌, ◌-◌, List, Bool, true, false, length, get_or, set, replicate, ltb, eqb, Some, None, Option, is_some}
use Rattle.tlv_reader.specs.declared.Element.{Element}
use Rattle.tlv_reader.specs.Octet.{pick, end_of_container}
use Rattle.tlv_reader.specs.Head.{head_at}
use Rattle.tlv_reader.specs.Walk.{Got, bind_g, choose, allowed_in, headed, element_end}
use Rattle.tlv_reader.specs.Walk.Got.{got, bad}
use Rattle.tlv_reader.specs.Decode.{place}
use Rattle.im_members.specs.Fields.{slot_of, fields_at, inside_by}
use Rattle.im_members.specs.Scalar.{ABSENT, NULL, WRONG}
use Rattle.im_members.specs.declared.Stop.{Stop}

-- where the members stand of the container with this head
unfoldable pub inside_on : ℕ → ℕ → List ℕ → List Bool → Element → Got (List ℕ)
inside_on kind zero s listed e = bad
inside_on kind (suc d) s listed e = inside_by kind (λ n. fields_at d s kind listed n) e

-- what is made of the members; a frame: of the members of the container with a head
abbrev pub made : {A : Type 0} → (List ℕ → Option A) → Got (List ℕ) → Got A
made F g = bind_g g (λ seen n. place (F seen) n)

abbrev pub frame_on : {A : Type 0} → ℕ → ℕ → List ℕ → List Bool → (List ℕ → Option A) → Element → Got A
frame_on kind d s tags F e = made F (inside_on kind d s tags e)

-- where a pass stopped; what is malformed has stopped nowhere
abbrev pub stop_in : Option Stop → Stop
stop_in None = record { slot = 10; head = record { form = 0; kind = 0; tag = 0; number = 0; body = 0; next = record { at = 0 } } }
stop_in (Some r) = r

-- A PASS: where it stopped, and what it has seen, in ten slots
pub record Pass : Type 0 where
  pub good : Bool
  pub slot : ℕ
  pub head : Element
  pub at : List ℕ
  pub codes : List ℕ

abbrev pub pass_with : Option Stop → List ℕ → List ℕ → Pass
pass_with r at codes = record { good = is_some r; slot = (stop_in r).slot; head = (stop_in r).head; at = at; codes = codes }

-- no pass, and one that has seen nothing
abbrev pub no_pass : Pass
no_pass = pass_with None (replicate 10 0) (replicate 10 0)

-- THE CODE of a scalar: 0 absent, 1 null, 2 none of these, 3 an unsigned number over 2^32 - 1, 4 false, 5 true, 6 and up an unsigned number
unfoldable pub code_of : ℕ → ℕ → ℕ
code_of kind n =
    pick (eqb kind 20) 1
    (pick (ltb kind 4) 2
    (pick (ltb 7 kind) (pick (eqb kind 8) 4 (pick (eqb kind 9) 5 2)) (pick (ltb 4294967295 n) 3 (n + 6))))

-- WHERE IT STOPS: at a member of a slot, or at the container's end (slot 10), whose head it has read
abbrev pub pass_at : ℕ → Element → List ℕ → List ℕ → Pass
pass_at i e seen codes = record { good = true; slot = i; head = e; at = seen; codes = codes }

-- a member is walked, and the pass goes on after it
abbrev pub pass_on : (ℕ → Pass) → Got (Unit {0}) → Pass
pass_on rest bad = no_pass
pass_on rest (got u n) = rest n

-- a listed member: its place and its code are put in its slot, where there may be none yet
unfoldable pub pass_listed : ℕ → List ℕ → List Bool → (List ℕ → List ℕ → ℕ → Pass) → List ℕ → List ℕ → ℕ → Element → ℕ → Pass
pass_listed d s stops rest seen codes at e i =
    choose (eqb (get_or seen i 0) 0)
    (λ _. choose (get_or stops i false)
    (λ _. pass_at i e (set seen i (at + 1)) (set codes i (code_of e.kind e.number)))
    (λ _. pass_on (rest (set seen i (at + 1)) (set codes i (code_of e.kind e.number))) (element_end d s e)))
    (λ _. no_pass)

-- any member; one that is not listed is walked
unfoldable pub pass_member : ℕ → List ℕ → List Bool → (List ℕ → List ℕ → ℕ → Pass) → List ℕ → List ℕ → ℕ → Element → ℕ → Pass
pass_member d s stops rest seen codes at e i =
    choose (ltb i 10) (λ _. pass_listed d s stops rest seen codes at e i) (λ _. pass_on (rest seen codes) (element_end d s e))

-- by what stands at a position
unfoldable pub pass_by : ℕ → List ℕ → ℕ → List Bool → List Bool → (List ℕ → List ℕ → ℕ → Pass) → List ℕ → List ℕ → ℕ → Option Element → Pass
pass_by d s kind listed stops rest seen codes at None = no_pass
pass_by d s kind listed stops rest seen codes at (Some e) =
    choose (eqb e.kind end_of_container) (λ _. pass_at 10 e seen codes)
    (λ _. choose (allowed_in kind e.form) (λ _. pass_member d s stops rest seen codes at e (slot_of listed e.form e.tag)) (λ _. no_pass))

-- the bound on how many members are looked at does not matter where it is the message's length
unfoldable pub pass_in : ℕ → ℕ → List ℕ → ℕ → List Bool → List Bool → List ℕ → List ℕ → ℕ → Pass
pass_in zero d s kind listed stops seen codes at = no_pass
pass_in (suc f) d s kind listed stops seen codes at =
    pass_by d s kind listed stops (λ xs ks n. pass_in f d s kind listed stops xs ks n) seen codes at (head_at s at)

-- THE PASS from a position on, after what was seen; and over the container with a head
unfoldable pub pass_from : ℕ → List ℕ → ℕ → List Bool → List Bool → List ℕ → List ℕ → ℕ → Pass
pass_from d s kind listed stops seen codes at = pass_in (length s) d s kind listed stops seen codes at

unfoldable pub pass_of : ℕ → ℕ → List ℕ → List Bool → List Bool → Element → Pass
pass_of kind zero s listed stops e = no_pass
pass_of kind (suc d) s listed stops e = pick (eqb e.kind kind) (pass_from d s kind listed stops (replicate 10 0) (replicate 10 0) e.next.at) no_pass

-- of the member at a place; and what a code stands for
unfoldable pub code_in : List ℕ → ℕ → ℕ
code_in s p = pick (eqb p 0) 0 (headed 2 (λ e. code_of e.kind e.number) (head_at s (p - 1)))

unfoldable pub number_by : ℕ → Bool → ℕ → ℕ
number_by most nullable c =
    pick (ltb 5 c) (pick (ltb most (c - 6)) WRONG (c - 6)) (pick (eqb c 0) ABSENT (pick (eqb c 1) (pick nullable NULL WRONG) WRONG))

unfoldable pub flag_by : ℕ → ℕ
flag_by c = pick (eqb c 0) ABSENT (pick (eqb c 4) 0 (pick (eqb c 5) 1 WRONG))

unfoldable pub wide_by : ℕ → ℕ
wide_by c = pick (eqb c 0) ABSENT (pick (eqb c 3) 0 (pick (ltb 5 c) 0 WRONG))
