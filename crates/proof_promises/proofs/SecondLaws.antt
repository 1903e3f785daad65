-- THE SECOND HALF: a read whose messages all arrive ends, and leaves every unchanged cluster whole.
use Rattle.std.specs.Prelude.{Some, None, Option}
use mathlib.Core.Path.{◌≡◌, refl, sym, ap, ◌∙◌, subst}
use mathlib.Core.Logic.{◌⊎◌, inl, inr}
use mathlib.Core.Bool.{Bool, true, false, true≢false}
use mathlib.Core.List.{List, map, Memᴰ}
use Prim.Native.Nat.{ℕ, ◌<◌}
use native.Mathlib.Omega.{arith}
use borrow.Author.Tests.{eq-eqb}
use lib.Dec.{eqb, eqb→eq}
use Rattle.tlv_reader.specs.Value.{Datum}
use Rattle.tlv_reader.specs.Octet.{pick}
use Rattle.im_members.specs.Scalar.{ABSENT}
use Rattle.node_schema.specs.Rows.{cluster_row, attribute_row, count_of_clusters, count_of_attributes}
use Rattle.node_schema.specs.Rules.{AttributePath, path, path_at}
use Rattle.node_schema.specs.Find.{find_cluster}
use Rattle.node_schema.proofs.RulesLaws.{path-word}
use Rattle.node_schema.proofs.PathLaws.{cluster-there}
use Rattle.im_responses.specs.Report.{part_in}
use Rattle.im_exchange.specs.Rules.{report_opcode}
use Rattle.im_envelope.specs.Envelope.{envelope_in}
use Rattle.cache_entries.specs.Entries.{cluster_word}
use Rattle.cache_state.specs.State.{reading, last_part}
use Rattle.cache_ask.specs.Ask.{coherent_of}
use Rattle.cache_receive.specs.Receive.{received}
use Rattle.proof_trip.proofs.BeginLaws.{after-envelope}
use Rattle.proof_trip.proofs.TakenLaws.{report-taken}
use Rattle.proof_protocol.specs.Model as model
use Rattle.proof_protocol.specs.Model.{ConcretePath, Message, Part, Cache, System, CoherentIn}
use Rattle.proof_protocol.specs.Steps as steps
use Rattle.proof_protocol.specs.Claims as claims
use Rattle.proof_protocol.proofs.Main as protocol
use Rattle.proof_protocol.proofs.SmallLaws.{T_of}
use Rattle.proof_protocol.proofs.CacheLaws.{awaited-is, last_taken}
use Rattle.proof_protocol.proofs.OnceLaws.{part-once, passes-more, passes-reach, cut}
use Rattle.proof_protocol.proofs.ProgressLaws.{none-begun-parts, none-begun-keeps}
use Rattle.proof_refinement.specs.Terms.{place_at, may_read}
use Rattle.proof_refinement.specs.Bytes.{block_as, part_payload, part_bytes, PartRight}
use Rattle.im_writer.specs.Envelope.{cache_edition}
use Rattle.proof_promises.specs.World.{Plan, World, Start, granted, after_cache}
use Rattle.proof_promises.specs.Runs.{Step, Run, Reach, none, then, join, Passes, BeginsNone, NoneBegun}
use Rattle.proof_promises.specs.Claims.{In, Last, exchange_of, Arrived, Taking, Making, Open, Ended, Ending, Stays, SecondHalf, MayReadSome, CallsWhole, version_of, changes_of}
use Rattle.proof_cache_parts.proofs.PartLaws.{each-sent}
use Rattle.proof_cache_steps.proofs.CoherentLaws.{coherent-as}
use Rattle.proof_promises.proofs.MessageLaws.{InExchange, message-in, part-envelope}
use Rattle.proof_promises.proofs.ReadableLaws.{readable-has}
use Rattle.proof_promises.specs.Follows.{ReplyOf, part, answer, Stands, node, Took, Follows}
use Rattle.proof_promises.proofs.StepLaws.{rules, other-reply}
use Rattle.proof_promises.proofs.RunLaws.{follow, passes-first, passes-second, model-passes}
use Rattle.proof_promises.proofs.AskLaws.{coherent-whole, row-found, version-at, changes-at, Sees, value, sees}
use Rattle.proof_promises.proofs.AskLaws as asks
use Rattle.proof_promises.proofs.StageLaws.{Goes, run-goes, Handed, begins-none-step}
use Rattle.proof_promises.proofs.FirstLaws.{nothing-just, from-fresh}
use Rattle.proof_promises.proofs.TakenLaws.{ended_by_lem}
use Rattle.im_envelope.specs.declared.Fields.{Fields}

-- a message of an exchange, as the claims have it and as the protocol has it
in-exchange : (x : ℕ) (e : (Option Fields)) → InExchange x e → exchange_of e ≡ Some x
in-exchange x None h = absurd h
in-exchange x (Some f) h = ap Some h

-- what was got in a run was there
last : {n : model.Node Datum} {s t : System Datum} (run : steps.Run n s t) → steps.Visits run t
last steps.none = refl
last (steps.then run x) = inr refl

step-there : {n : model.Node Datum} {s t : System Datum} (x : steps.Step n s t) (q : Part Datum) → steps.Gets q x → Memᴰ q s.parts
step-there (steps.alters stores) q g = absurd g
step-there (steps.begins_read fs f) q g = absurd g
step-there steps.begins_write q g = absurd g
step-there (steps.serves m n l i) q g = absurd g
step-there {n} {s} (steps.receives m i) q g = subst (λ (z : Part Datum). Memᴰ z s.parts) g i

got-there : {n : model.Node Datum} {s t : System Datum} (run : steps.Run n s t) (q : Part Datum) → steps.Got q run → (u : System Datum) × steps.Visits run u × Memᴰ q u.parts
got-there steps.none q g = absurd g
got-there {n} {s} (steps.then {t = t'} run x) q g = go (got-there run q) g
  where
    go : (steps.Got q run → (u : System Datum) × steps.Visits run u × Memᴰ q u.parts) → steps.Got q run ⊎ steps.Gets q x → (u : System Datum) × steps.Visits (steps.then run x) u × Memᴰ q u.parts
    go f (inl k) = let r = f k in (r.0, inl r.1, r.2)
    go f (inr k) = (t', inl (last run), step-there x q k)

-- the exchange and turn of a part are in its bytes
abbrev fields_in : Option Fields → ℕ × ℕ
fields_in None = (0, 0)
fields_in (Some f) = (f.exchange, f.turn)

same-part : (w : List ℕ) (q r : Part Datum) → PartRight w q → PartRight w r → part_bytes w q ≡ part_bytes w r → (q.exchange ≡ r.exchange) × (q.turn ≡ r.turn)
same-part w q r a c e =
    let z = ap fields_in (sym (part-envelope w q a) ∙ ap envelope_in e ∙ part-envelope w r c) in
    (ap (λ (y : ℕ × ℕ). y.0) z, ap (λ (y : ℕ × ℕ). y.1) z)

-- the run up to one of its steps, and the step
up_to : {p : Plan} {u v : World} (run : Run p u v) → NoneBegun run → (x y : World) → Passes run x y → (r : Run p u x) × (step : Step p x y) × NoneBegun r × BeginsNone step
up_to none c x y i = absurd i
up_to {p} {u} {v} (then {v = v'} run step) c x y i = go (up_to run c.0 x y) i
  where
    go : (Passes run x y → (r : Run p u x) × (s : Step p x y) × NoneBegun r × BeginsNone s) → Passes run x y ⊎ ((x ≡ v') × (y ≡ v)) → (r : Run p u x) × (s : Step p x y) × NoneBegun r × BeginsNone s
    go known (inl k) = known k
    go known (inr k) =
        subst (λ (z : World). (r : Run p u z) × (s : Step p z y) × NoneBegun r × BeginsNone s) (sym k.0)
        (subst (λ (z : World). (r : Run p u v') × (s : Step p v' z) × NoneBegun r × BeginsNone s) (sym k.1) (run, step, c.0, c.1))

module _ (p : Plan) (b : Start p) {u v : World} (reach : Reach p b u) (exchange : ℕ) (open-read : Open u exchange) (run : Run p u v) (none-begun : NoneBegun run) (arrived : Arrived run) where
  abbrev w : List ℕ
  w = p.words

  abbrev f : Follows p b reach (model.start (node p b))
  f = from-fresh p b reach

  abbrev s : System Datum
  s = f.end

  abbrev g : Follows p b run s
  g = follow p b run s f.stands f.follows

  abbrev t : System Datum
  t = g.end

  reads : s.cache.reading ≡ true
  reads = f.stands.cache.reading-is ∙ eq-eqb u.cache.asked.stage reading open-read.0

  own : s.cache.exchange ≡ u.cache.asked.exchange
  own = f.stands.cache.exchange

  none-begun-model : steps.NoneBegun g.follows
  none-begun-model = g.none-begun none-begun

  abbrev all-reach : steps.Reach (node p b) t
  all-reach = steps.join f.follows g.follows

  -- what arrived in bytes arrived in the protocol
  heard : (q : Message) → Memᴰ q t.messages → model.exchange_of q ≡ s.cache.exchange → steps.Heard q g.follows
  heard q i e =
      let r = g.stands.messages q i in
      g.heard r.0 (arrived.requests r.0 r.2 (in-exchange _ (envelope_in r.0) (subst (λ (x : ℕ). InExchange x (envelope_in r.0)) (e ∙ own) (message-in w r.0 q r.1)))) q r.1

  got : (q : Part Datum) → Memᴰ q t.parts → q.exchange ≡ s.cache.exchange → steps.Got q g.follows
  got q i e =
      let r = g.stands.parts q i in
      let here : In u.cache.asked.exchange (part_bytes w q) = ap exchange_of (part-envelope w q r.1) ∙ ap Some (e ∙ own) in
      let k : Took p b (part_bytes w q) g.follows = g.got (part_bytes w q) (arrived.replies (part_bytes w q) r.0 here) q r.1 refl in
      let at = got-there g.follows k.part-got k.got-it in
      let there : Memᴰ k.part-got t.parts = none-begun-parts (node p b) g.follows none-begun-model at.0 at.1 k.part-got at.2 in
      let same = same-part w q k.part-got r.1 k.right k.bytes in
      subst (λ (z : Part Datum). steps.Got z g.follows) (part-once (node p b) all-reach k.part-got q there i (sym same.0) (sym same.1)) k.got-it

  arrives : claims.Arrived g.follows
  arrives = record { messages = heard; parts = got }

  -- the read has ended on its last part, and that settles what it says
  rests : (k : claims.Ending g.follows) × claims.Settles (node p b) all-reach k.part k.next
  rests = protocol.second-half Datum (node p b) s t f.follows reads g.follows none-begun-model arrives

  abbrev over : claims.Ending g.follows
  over = rests.0

  abbrev took : claims.Taking all-reach over.part.exchange
  took = rests.1.0

  abbrev made : claims.Making all-reach over.part
  made = rests.1.1

  in-exchange-of : over.part.exchange ≡ exchange
  in-exchange-of = over.own ∙ own ∙ open-read.1

  -- a step of the protocol's run is one of the ends'
  passed : (a c : System Datum) → steps.Passes all-reach a c → (x : World) × (x' : World) × Passes (join reach run) x x' × Stands p x a × Stands p x' c
  passed a c i = go (model-passes (node p b) f.follows g.follows a c i)
    where
      go : steps.Passes f.follows a c ⊎ steps.Passes g.follows a c → (x : World) × (x' : World) × Passes (join reach run) x x' × Stands p x a × Stands p x' c
      go (inl k) = let r = f.passed a c k in (r.0, r.1, passes-first p b reach run r.0 r.1 r.2, r.3, r.4)
      go (inr k) = let r = g.passed a c k in (r.0, r.1, passes-second p b reach run r.0 r.1 r.2, r.3, r.4)

  -- THE PART, in bytes, and where its request was taken and it was made
  abbrev q : Part Datum
  q = over.part

  abbrev taken_at : (x : World) × (x' : World) × Passes (join reach run) x x' × Stands p x took.at × Stands p x' took.next
  taken_at = passed took.at took.next took.passes

  abbrev made_at : (x : World) × (x' : World) × Passes (join reach run) x x' × Stands p x made.at × Stands p x' made.next
  made_at = passed made.at made.next made.passes

  right : PartRight w q
  right = (made_at.4.parts q made.after).1

  -- it promises no more
  last_one : Last (part_bytes w q)
  unfolding part_bytes
  last_one =
      let (x, here, more, step) = report-taken (map (block_as w) q.entries) q.more (each-sent w (rules p b) q.entries right.entries) in
      (x, ap part_in (after-envelope cache_edition report_opcode q.exchange q.turn (part_payload w q)) ∙ here, λ z. omega (arith, sym z ∙ more ∙ ap (λ (m : Bool). pick m 1 ABSENT) over.last))

  taking : Taking (join reach run) exchange
  taking =
      record {
        at = taken_at.0;
        next = taken_at.1;
        passes = taken_at.2;
        before = omega (arith, took.before, taken_at.3.server.row.exchange, in-exchange-of);
        after = sym taken_at.4.server.row.exchange ∙ took.after ∙ in-exchange-of;
      }

  -- a reply with its bytes is this part
  made-once : Memᴰ (part_bytes w q) made_at.0.replies → Memᴰ q made.at.parts
  made-once j = go (made_at.3.replies (part_bytes w q) j)
    where
      go : ReplyOf w made_at.0.requests made.at.parts (part_bytes w q) → Memᴰ q made.at.parts
      go (part r k e) =
          let same = same-part w q r right (made_at.3.parts r k).1 e in
          subst (λ (z : Part Datum). Memᴰ z made.at.parts) (part-once (node p b) (passes-reach (node p b) all-reach made.at made.next made.passes) r q (passes-more (node p b) all-reach made.at made.next made.passes r k) made.after (sym same.0) (sym same.1)) k
      go (answer n o e fn fo z) = absurd (other-reply q right n o fn e)

  making : Making (join reach run) (part_bytes w q)
  making = record { at = made_at.0; next = made_at.1; passes = made_at.2; before = λ i. made.before (made-once i); after = (made_at.4.parts q made.after).0 }

  -- THE STEP that takes it
  abbrev ended_at : (x : World) × (x' : World) × Passes run x x' × Stands p x over.at × Stands p x' over.next
  ended_at = g.passed over.at over.next over.passes

  at-reach : steps.Reach (node p b) over.at
  at-reach = steps.join f.follows (cut (node p b) g.follows over.at over.next over.passes).before

  next-reach : steps.Reach (node p b) over.next
  next-reach = let c = cut (node p b) g.follows over.at over.next over.passes in steps.then (steps.join f.follows c.before) c.step

  -- before it the cache reads, after it no more
  wanted : (q.exchange ≡ over.at.cache.exchange) × (q.turn ≡ over.at.cache.next) × (over.at.cache.reading ≡ true)
  wanted = awaited-is over.at.cache q over.wanted

  shut : (over.next.cache.reading ≡ false) × (over.next.cache.exchange ≡ q.exchange)
  shut = subst (λ (z : System Datum). (z.cache.reading ≡ false) × (z.cache.exchange ≡ q.exchange)) (sym over.taken) (last_taken over.at q over.wanted over.last)

  -- so the protocol's cache does not stay as it was
  not-still : (z : System Datum) → Stands p ended_at.1 z → z.cache.reading ≡ true → ⊥
  not-still z h e = true≢false (sym e ∙ h.cache.reading-is ∙ sym ended_at.4.cache.reading-is ∙ shut.0)

  handed : Handed ended_at.0 ended_at.1
  handed = let r = up_to run none-begun ended_at.0 ended_at.1 ended_at.2 in go (begins-none-step r.1 r.3)
    where
      go : (ended_at.1.cache ≡ ended_at.0.cache) ⊎ Handed ended_at.0 ended_at.1 → Handed ended_at.0 ended_at.1
      go (inl e) = absurd (true≢false (sym wanted.2 ∙ ended_at.3.cache.reading-is ∙ ap (λ c. eqb c.asked.stage reading) (sym e) ∙ sym ended_at.4.cache.reading-is ∙ shut.0))
      go (inr k) = k

  -- the reply that is handed over is this part
  handed-part : handed.message ≡ part_bytes w q
  handed-part =
      let (r, j, is, t) = ended_by_lem p b ended_at.0 over.at ended_at.3 at-reach handed.message handed.room handed.made wanted.2 (λ z h. not-still z (subst (λ (x : World). Stands p x z) (sym handed.is) h)) in
      let a = awaited-is over.at.cache r t in
      is ∙ ap (part_bytes w) (part-once (node p b) at-reach r q j over.sent (a.0 ∙ sym wanted.0) (a.1 ∙ sym wanted.1))

  -- FROM THEN ON, while the cache begins nothing
  module _ (z : World) (on : Run p ended_at.1 z) (begins-none : NoneBegun on) where
    abbrev h : Follows p b on over.next
    h = follow p b on over.next ended_at.4 next-reach

    same-cache : h.end.cache ≡ over.next.cache
    same-cache = none-begun-keeps (node p b) h.follows (h.none-begun begins-none) shut.0

    -- the read has ended on its last part, if no status ended it
    ended-if : Goes z.cache → Ended z exchange
    ended-if (inl e) = absurd (true≢false (sym (h.stands.cache.reading-is ∙ eq-eqb z.cache.asked.stage reading e) ∙ ap (λ (c : Cache Datum). c.reading) same-cache ∙ shut.0))
    ended-if (inr e) = (e, sym h.stands.cache.exchange ∙ ap (λ (c : Cache Datum). c.exchange) same-cache ∙ shut.1 ∙ in-exchange-of)

    -- and a cluster with something readable that did not change is whole
    whole-then : (e c a i : ℕ) → i < count_of_attributes w → path_at w i ≡ path e c a → may_read w (granted p) i ≡ true → let k = (attribute_row w i).index_of_cluster in
        (took.at.clusters k).changes ≡ (made.at.clusters k).changes → CallsWhole z e c (made.at.clusters k).version
    whole-then e c a i l path-is may unchanged =
        let k = (attribute_row w i).index_of_cluster in
        let low : k < count_of_clusters w = cluster-there w (rules p b) i l in
        let word : path (cluster_row w k).endpoint (cluster_row w k).cluster (attribute_row w i).id ≡ path e c a = sym (path-word w i low) ∙ path-is in
        coherent-whole z.page z.cache h.stands.cache.valid e c (made.at.clusters k).version
        ((λ j. coherent_of z.cache.held (cluster_word (ap (λ (x : AttributePath). x.endpoint) (sym word) j) (ap (λ (x : AttributePath). x.cluster) (sym word) j)))
        ∙ (coherent-as w (rules p b) z.requests z.page z.cache h.end.cache h.stands.cache k low (made.at.clusters k).version).1 (rests.1.2 (place_at w i) (readable-has w (granted p) i l may) unchanged h.end h.follows (h.none-begun begins-none)))

  goes-next : Goes ended_at.1.cache
  goes-next =
      let r = up_to run none-begun ended_at.0 ended_at.1 ended_at.2 in
      run-goes p b s f.stands f.follows (then r.0 r.1) (r.2, r.3) (inl open-read.0)

  ending : Ending run exchange (part_bytes w q)
  ending =
      record {
        at = ended_at.0;
        next = ended_at.1;
        passes = ended_at.2;
        before = (
          eqb→eq ended_at.0.cache.asked.stage reading (T_of (eqb ended_at.0.cache.asked.stage reading) (sym ended_at.3.cache.reading-is ∙ wanted.2)),
          sym ended_at.3.cache.exchange ∙ sym wanted.0 ∙ in-exchange-of,
        );
        after = ended-if ended_at.1 none tt goes-next;
        made = subst (λ (m : List ℕ). Memᴰ m ended_at.0.replies) handed-part handed.made;
        room = handed.room;
        taken = handed.is ∙ ap (λ (m : List ℕ). after_cache ended_at.0 (received ended_at.0.page ended_at.0.cache m handed.room)) handed-part;
      }

  ended : Stays p ended_at.1 (λ z. Ended z exchange)
  ended z on begins-none = ended-if z on begins-none (run-goes p b over.next ended_at.4 next-reach on begins-none goes-next)

  -- THE CLUSTERS
  settled : (e c : ℕ) → MayReadSome p made_at.0 e c → changes_of p taken_at.0 e c ≡ changes_of p made_at.0 e c
      → (version : ℕ) × (version_of p made_at.0 e c ≡ Some version) × Stays p ended_at.1 (λ z. CallsWhole z e c version)
  settled e c some still = go (sees p (rules p b) made_at.0 e c some.0)
    where
      go : Sees p (rules p b) made_at.0 e c some.0 → (version : ℕ) × (version_of p made_at.0 e c ≡ Some version) × Stays p ended_at.1 (λ z. CallsWhole z e c version)
      go (asks.none is never) = absurd (nothing-just some.1 (sym is ∙ some.3))
      go (value i l path-is may is) = ((made.at.clusters k).version, version-at p (rules p b) k e c row made_at.0 ∙ ap Some (sym (made_at.3.server.held.versions k low)), λ z on begins-none. whole-then z on begins-none e c some.0 i l path-is may unchanged)
        where
          k : ℕ
          k = (attribute_row w i).index_of_cluster

          low : k < count_of_clusters w
          low = cluster-there w (rules p b) i l

          word : path (cluster_row w k).endpoint (cluster_row w k).cluster (attribute_row w i).id ≡ path e c some.0
          word = sym (path-word w i low) ∙ path-is

          row : find_cluster w e c ≡ Some k
          row = row-found p (rules p b) k low e c (ap (λ (x : AttributePath). x.endpoint) word) (ap (λ (x : AttributePath). x.cluster) word)

          unchanged : (took.at.clusters k).changes ≡ (made.at.clusters k).changes
          unchanged =
              sym (taken_at.3.counted k low) ∙ sym (changes-at p (rules p b) k e c row taken_at.0) ∙ still ∙ changes-at p (rules p b) k e c row made_at.0
              ∙ made_at.3.counted k low

pub second-half : SecondHalf
unfolding taking making ending
second-half p b u v reach exchange open-read run none-begun arrived = (
  part_bytes p.words (q p b reach exchange open-read run none-begun arrived),
  ap exchange_of (part-envelope p.words (q p b reach exchange open-read run none-begun arrived) (right p b reach exchange open-read run none-begun arrived)) ∙ ap Some (in-exchange-of p b reach exchange open-read run none-begun arrived),
  last_one p b reach exchange open-read run none-begun arrived,
  taking p b reach exchange open-read run none-begun arrived,
  making p b reach exchange open-read run none-begun arrived,
  ending p b reach exchange open-read run none-begun arrived,
  ended p b reach exchange open-read run none-begun arrived,
  λ e c _ _ some still. settled p b reach exchange open-read run none-begun arrived e c some still,
)
