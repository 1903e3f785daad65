-- ONE PART OF A READ OF EVERYTHING: it is, byte for byte, a part that the protocol makes, and leaves the same ahead.
use mathlib.Core.Path.{◌≡◌, refl, sym, ap, subst, ◌∙◌}
use mathlib.Core.Bool.{Bool, true, false≢true}
use mathlib.Core.List.Memᴰ
use mathlib.Core.List.{List, [], ◌∷◌, ◌++◌, Memᴰ}
use Prim.Native.Nat.{ℕ, zero, suc, ◌+◌, ◌-◌, ◌^◌, ◌≤◌, ◌<◌}
use native.Mathlib.Omega.{arith}
use borrow.Author.Tests.{le-leb}
use lib.ListN.{length, get_or}
use Rattle.base_bounds.specs.Bounds.{payload_limit}
use Rattle.tlv_reader.specs.Value.{Datum}
use Rattle.tlv_reader.proofs.Picks.{pick-elim}
use Rattle.im_blocks.proofs.BlockLaws.{never}
use Rattle.im_requests.specs.declared.VersionFilter.{VersionFilter}
use Rattle.im_writer.specs.Spelling.{spelling, Each}
use Rattle.im_writer.specs.Message.{message_tree, report_members}
use Rattle.im_writer.specs.Envelope.{envelope_octets, cache_edition, exchange_limit}
use Rattle.node_schema.specs.Layout.{high_column}
use Rattle.node_schema.specs.Rows.{attribute_row, count_of_attributes}
use Rattle.node_schema.specs.Check.{well_formed}
use Rattle.node_access.specs.declared.Grants.{Grants}
use Rattle.server_values.specs.declared.Values.{Values}
use Rattle.server_values.specs.Valid.{values_right}
use Rattle.im_exchange.specs.Rules.{report_opcode}
use Rattle.server_selection.specs.Asked.{asked_for}
use Rattle.server_selection.specs.Filters.{filter_words}
use Rattle.server_selection.proofs.AskedLaws.{cluster-of}
use Rattle.server_report.specs.declared.ReadPlace.{ReadPlace}
use Rattle.server_report.specs.Blocks.{View, view_of, start_of, PlacedBlock, blocks_from}
use Rattle.server_report.specs.Chunk.{block_room, size, taken, left, after, any, trees}
use Rattle.server_report.specs.Part as sent
use Rattle.server_report.proofs.ChunkLaws.{part_length, goes_on_lem}
use Rattle.server_report.proofs.ReadLaws.{blocks-small}
use Rattle.server_replies.specs.Messages.{report_message}
use Rattle.proof_protocol.specs.Model.{ConcretePath, Cluster, Part, reported, remaining, entry_at, skips, part_of}
use Rattle.proof_protocol.proofs.SmallLaws.{all_cons, reported-in}
use Rattle.proof_protocol.proofs.ServeLaws.{map-from}
use Rattle.proof_refinement.specs.Terms.{place_at, may_read, readable_from, filters_as, ClustersAs}
use Rattle.proof_refinement.specs.Bytes.{part_payload, part_bytes, EntryRight, PartRight}
use Rattle.proof_server_parts.proofs.ValueLaws.{value-takable, value-writable}
use Rattle.proof_server_parts.proofs.RowLaws.{paths, blocks_at, places_at}
use Rattle.proof_server_parts.proofs.TakenLaws.{any_shown, none-reported, trees_as, Takes, none, some, takes, more-ahead}

-- what holds of each row's place holds of those that may be read
all-readable : (w : List ℕ) (g : Grants) (P : ConcretePath → Type 0) → ((i : ℕ) → i < count_of_attributes w → P (place_at w i)) → (n i : ℕ) → n ≤ count_of_attributes w - i → (p : ConcretePath) → Memᴰ p (readable_from w g n i) → P p
unfolding readable_from
all-readable w g P f zero i l = λ p m. absurd (Memᴰ.not-nil m)
all-readable w g P f (suc n) i l =
    let rest = all-readable w g P f n (i + 1) (omega arith) in
    pick-elim (λ (q : List ConcretePath). (p : ConcretePath) → Memᴰ p q → P p) (may_read w g i) (place_at w i ∷ readable_from w g n (i + 1)) (readable_from w g n (i + 1))
    (λ _. all_cons P (f i (omega arith)) rest) (λ _. rest)

module _ (w defaults edits : List ℕ) (v : Values) (g : Grants) (fs : List VersionFilter) (clusters : ℕ → Cluster Datum)
    (formed : well_formed w ≡ true) (sound : values_right w defaults edits v ≡ true)
    (fit : (k : ℕ) → get_or v.versions k 0 < 2 ^ 32) (words-fit : (k : ℕ) → get_or w k 0 < 2 ^ 64)
    (held : ClustersAs w defaults edits v clusters) where
  abbrev view : View
  view = view_of w v defaults edits g (filter_words w fs)

  -- the blocks from row index on
  abbrev pub blocks : ℕ → List PlacedBlock
  blocks = blocks_at view

  -- the place after the part
  abbrev pub place : ℕ → ReadPlace
  place index = after (start_of 0 index) (taken block_room (blocks index))

  -- the message of a server from there on is the part p of the protocol
  pub record Makes (x turn index : ℕ) (p : Part Datum) : Type 0 where
    pub bytes : report_message cache_edition x turn (blocks index) ≡ part_bytes w p
    pub more : p.more ≡ any (left block_room (blocks index))
    pub right : PartRight w p
    pub path : p.more ≡ true → (place index).path ≡ 0
    pub ahead : p.more ≡ true → p.after ≡ readable_from w g (count_of_attributes w - (place index).index) (place index).index

  abbrev ahead : ℕ → List ConcretePath
  ahead = places_at w g

  abbrev skip : ConcretePath → Bool
  skip = skips (filters_as w fs) clusters

  -- EVERY BLOCK HAS ROOM in an empty part: where nothing is taken there is nothing
  all_small : (index : ℕ) → Each (λ (b : PlacedBlock). size b ≤ block_room) (blocks index)
  unfolding Each asked_for
  all_small index =
      blocks-small view (record { schema-right = formed; values-right = sound; version-fits = fit }) paths
      (record { endpoint-fits = omega arith; cluster-fits = omega arith; attribute-fits = omega arith }, tt) (start_of 0 index)

  nothing-there : (l : List PlacedBlock) → Each (λ (b : PlacedBlock). size b ≤ block_room) l → taken block_room l ≡ [] → l ≡ []
  unfolding taken Each
  nothing-there [] h e = refl
  nothing-there (b ∷ l) h e = let t : b ∷ taken (block_room - size b) l ≡ [] = rw (le-leb (size b) block_room h.0) at e in never (cc)

  -- THE NUMBER OF ENTRIES: a part of the protocol of n and one has the blocks that are taken, and leaves what is left
  record Matches (index n : ℕ) : Type 0 where
    same : trees (taken block_room (blocks index)) ≡ trees_as w clusters (reported skip n (ahead index))
    more : any_shown skip (remaining skip n (ahead index)) ≡ any (left block_room (blocks index))
    path : any_shown skip (remaining skip n (ahead index)) ≡ true → (place index).path ≡ 0
    leaves : any_shown skip (remaining skip n (ahead index)) ≡ true → remaining skip n (ahead index) ≡ ahead (place index).index

  matches : (index : ℕ) → (n : ℕ) × Matches index n
  unfolding left
  matches index = go (takes w defaults edits v g fs clusters formed fit held (count_of_attributes w - index) index block_room refl)
    where
      -- some place from row i on is not skipped exactly if there is a block
      shown-from : (i : ℕ) → any_shown skip (ahead i) ≡ any (blocks i)
      shown-from i = more-ahead w defaults edits v g fs clusters formed fit held (count_of_attributes w - i) i refl

      go : Takes w defaults edits v g fs clusters (ahead index) (taken block_room (blocks index)) → (n : ℕ) × Matches index n
      go (none e) =
          let z = nothing-there (blocks index) (all_small index) e in
          let q = none-reported skip (ahead index) (shown-from index ∙ ap any z) in (
            0,
            record {
              same = rw (e, q.0);
              more = rw (q.1, z);
              path = λ t. absurd (false≢true (rw q.1 at t));
              leaves = λ t. absurd (false≢true (rw q.1 at t));
            },
          )
      go (some n r) =
          let from : ReadPlace = start_of 0 index in
          let at = r.last from in
          let rest : blocks r.end ≡ left block_room (blocks index) = ap (blocks_from view paths) (sym at) ∙ goes_on_lem view paths from block_room in (
            n,
            record {
              same = r.same;
              more = rw r.leaves (shown-from r.end ∙ ap any rest);
              path = λ t. ap (λ (q : ReadPlace). q.path) at;
              leaves = λ t. r.leaves ∙ ap (λ (q : ReadPlace). ahead q.index) (sym at);
            },
          )

  -- THE PART: the entry of a row is one that a server can have sent
  entry-right : (i : ℕ) → i < count_of_attributes w → EntryRight w (entry_at clusters (place_at w i))
  entry-right i row =
      record {
        row = row;
        place = refl;
        version = rw (held.versions (attribute_row w i).index_of_cluster (cluster-of w formed i row)) (fit _);
        value = rw (held.values i row) (value-takable w defaults edits v sound i row);
        writable = rw (held.values i row) (value-writable w defaults edits v sound i row (words-fit (high_column + i)));
      }

  module _ (x turn index : ℕ) (since : ℕ → ℕ) (fx : x < exchange_limit) (ft : turn < 2 ^ 16) where
    abbrev part : ℕ → Part Datum
    part n = part_of clusters x turn (ahead index) (filters_as w fs) since n

    module _ (n : ℕ) (m : Matches index n) where
      same-payload : sent.part_payload (blocks index) ≡ part_payload w (part n)
      unfolding sent.part_payload part_of
      same-payload = λ j. spelling (message_tree (report_members (m.same j) (sym m.more j)))

      part_right : PartRight w (part n)
      unfolding part_of
      part_right =
          let of_row = all-readable w g (λ (p : ConcretePath). EntryRight w (entry_at clusters p)) entry-right (count_of_attributes w - index) index (omega arith) in
          record {
            entries = map-from (EntryRight w) (entry_at clusters) (reported skip n (ahead index)) (λ p i. of_row p (reported-in skip n (ahead index) p i));
            short = subst (λ (l : List ℕ). length l ≤ payload_limit) same-payload (part_length (blocks index));
            exchange = fx;
            turn = ft;
          }

      makes : Makes x turn index (part n)
      unfolding report_message part_bytes part_of
      makes =
          record {
            bytes = ap (λ (l : List ℕ). envelope_octets cache_edition report_opcode x turn ++ l) same-payload;
            more = m.more;
            right = part_right;
            path = m.path;
            ahead = m.leaves;
          }

  pub part-made : (x turn index : ℕ) (since : ℕ → ℕ) → x < exchange_limit → turn < 2 ^ 16
      → (n : ℕ) × Makes x turn index (part_of clusters x turn (readable_from w g (count_of_attributes w - index) index) (filters_as w fs) since n)
  part-made x turn index since fx ft = let (n, m) = matches index in (n, makes x turn index since fx ft n m)
