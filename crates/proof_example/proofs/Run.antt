-- THE STATES OF THE RUN: a read in two parts. The first part is lost, asked for again and arrives twice; the second cluster changes between the parts.
use mathlib.Core.Path.{refl, ap}
use mathlib.Core.List.{List, [], ◌∷◌}
use Prim.Native.Nat.{ℕ}
use Rattle.tlv_reader.specs.declared.Value.TheVariants.{Text}
use Rattle.im_envelope.specs.Envelope.{max_message}
use Rattle.cache_state.specs.Begin as begin
use Rattle.cache_state.specs.Begin.{fresh}
use Rattle.cache_receive.specs.Receive as receive
use Rattle.proof_promises.specs.World.{World, after_server, after_cache, altered}
use Rattle.proof_promises.specs.World as world
use Rattle.proof_example.specs.Plan.{plan, page}
use Rattle.proof_example.specs.Messages.{request, success, part1, part2, new}
use Rattle.proof_example.specs.Server.{sign0, sign1, sign2, sign3}
use Rattle.proof_example.specs.Cache.{panel1, panel2, panel3, page2, page3}
use Rattle.proof_example.specs.Calls.{renewed}
use Rattle.proof_example.proofs.ServerCalls.{server-calls}
use Rattle.proof_example.proofs.CacheCalls.{cache-calls}
use Rattle.proof_example.proofs.Holds.{Holds, heard, served, hearing, reacted}
use Rattle.proof_example.proofs.Start.{start}

-- a reply handed to the cache, with a buffer of full size
abbrev got : World → List ℕ → World
got u m = after_cache u (receive.received u.page u.cache m max_message)

-- THE STATES: the read begun; its first part sent, and lost; the request resent, and answered again
unfoldable pub begun : World
begun = after_cache (world.begin plan start) (begin.begins_read (world.begin plan start).page (world.begin plan start).cache max_message)

unfoldable pub lost : World
lost = heard begun request

unfoldable pub resent : World
resent = after_cache lost (begin.resends lost.page lost.cache max_message)

unfoldable pub repeated : World
repeated = heard resent request

-- the first part taken, and once more refused
unfoldable pub taken : World
taken = got repeated part1

unfoldable pub refused : World
refused = got taken part1

-- a text of cluster 8 changed; the second part sent, and taken
unfoldable pub changed : World
changed = after_server refused (altered plan refused 1 8 2 new (Text 0 3))

unfoldable pub sent : World
sent = heard changed success

unfoldable pub ended : World
ended = got sent part2

-- what stands in each
fresh_holds : Holds (world.begin plan start) sign0 fresh page [] []
unfolding start
fresh_holds =
    record {
      server-is = ap (λ x. x.state) server-calls.made;
      cache-is = refl;
      page-is = refl;
      requests-are = refl;
      replies-are = refl;
      unchanged = refl;
    }

pub begun-holds : Holds begun sign0 panel1 page (request ∷ []) []
unfolding begun
begun-holds = reacted fresh_holds (λ t c. begin.begins_read t c max_message) cache-calls.begins (cache-calls.request-sent [])

pub lost-holds : Holds lost sign1 panel1 page (request ∷ []) (part1 ∷ [])
unfolding lost
lost-holds = hearing begun-holds request server-calls.begins (server-calls.part1-sent []) server-calls.stands.0 server-calls.stands.1

pub resent-holds : Holds resent sign1 panel1 page (request ∷ request ∷ []) (part1 ∷ [])
unfolding resent
resent-holds = reacted lost-holds (λ t c. begin.resends t c max_message) cache-calls.resends (cache-calls.request-sent (request ∷ []))

pub repeated-holds : Holds repeated sign1 panel1 page (request ∷ request ∷ []) (part1 ∷ part1 ∷ [])
unfolding repeated
repeated-holds = hearing resent-holds request server-calls.repeats (server-calls.part1-sent (part1 ∷ [])) server-calls.stands.1 server-calls.stands.1

pub taken-holds : Holds taken sign1 panel2 page2 (success ∷ request ∷ request ∷ []) (part1 ∷ part1 ∷ [])
unfolding taken
taken-holds = reacted repeated-holds (λ t c. receive.received t c part1 max_message) cache-calls.takes (cache-calls.success-sent (request ∷ request ∷ []))

pub refused-holds : Holds refused sign1 panel2 page2 (success ∷ request ∷ request ∷ []) (part1 ∷ part1 ∷ [])
unfolding refused
refused-holds = reacted taken-holds (λ t c. receive.received t c part1 max_message) cache-calls.refuses refl

pub changed-holds : Holds changed sign2 panel2 page2 (success ∷ request ∷ request ∷ []) (part1 ∷ part1 ∷ [])
unfolding changed
changed-holds = served refused-holds renewed server-calls.alters refl server-calls.stands.1 server-calls.stands.2

pub sent-holds : Holds sent sign3 panel2 page2 (success ∷ request ∷ request ∷ []) (part2 ∷ part1 ∷ part1 ∷ [])
unfolding sent
sent-holds = hearing changed-holds success server-calls.goes_on (server-calls.part2-sent (part1 ∷ part1 ∷ [])) server-calls.stands.2 server-calls.stands.3

pub ended-holds : Holds ended sign3 panel3 page3 (success ∷ request ∷ request ∷ []) (part2 ∷ part1 ∷ part1 ∷ [])
unfolding ended
ended-holds = reacted sent-holds (λ t c. receive.received t c part2 max_message) cache-calls.ends refl
