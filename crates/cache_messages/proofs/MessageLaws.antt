-- The cache's messages: an envelope, then a payload.
use mathlib.Core.Path.{◌≡◌, refl, ap, ◌∙◌}
use mathlib.Core.Bool.{true, false}
use mathlib.Core.List.{List, [], ◌∷◌, map}
use Prim.Native.Nat.{ℕ, ◌<◌}
use native.Mathlib.Omega.{arith}
use lib.ListN.{length, length-append}
use Rattle.base_octets.specs.Store.{Stored, store}
use Rattle.base_octets.proofs.StoreLaws.{then, same_length, store-over}
use Rattle.tlv_reader.specs.Octet.{number_width}
use Rattle.im_requests.specs.declared.VersionFilter.{VersionFilter}
use Rattle.im_writer.specs.Envelope.{envelope_octets, envelope_length}
use Rattle.im_writer.specs.Spelling.{spelling, joined, writer_tag}
use Rattle.im_writer.proofs.EnvelopeLaws.{length-envelope}
use Rattle.im_writer.proofs.LengthLaws.{anonymous-open, length-revision}
use Rattle.im_request_writer.specs.Request.{filter_tree, read_opening, filters_opening, read_closing}
use Rattle.im_request_writer.proofs.RequestLaws.{read_none, read_some, length-filters-opening}
use Rattle.im_exchange.specs.Rules.{read_opcode}
use Rattle.cache_messages.specs.Filters.{filter_tree_of}
use Rattle.cache_messages.specs.Messages.{read_message}

-- what follows an envelope: where it begins, and the room for it
pub after-envelope : (edition opcode exchange turn : ℕ) {o o₁ : List ℕ} {p : ℕ} → Stored o 0 (envelope_octets edition opcode exchange turn) o₁ p → (p ≡ envelope_length) × (length o₁ ≡ length o)
after-envelope edition opcode exchange turn e = (omega (arith, e.place, length-envelope edition opcode exchange turn), same_length e)

-- a filter has octets
filter-some : (f : VersionFilter) → 0 < length (spelling (filter_tree_of f))
unfolding spelling writer_tag filter_tree number_width
filter-some f = simp (length-append, anonymous-open 21 refl) (omega arith)

none : (l : List VersionFilter) → length (joined (map filter_tree_of l)) ≡ 0 → l ≡ []
unfolding joined
none [] z = refl
none (x ∷ l) z = absurd (omega (arith, z, filter-some x, length-append (spelling (filter_tree_of x)) (joined (map filter_tree_of l))))

closing-length : length (read_closing false) ≡ 4
unfolding read_closing
closing-length = length-revision

-- A READ, with filters and without
module _ (edition exchange : ℕ) {o o₁ o₂ o₃ o₄ : List ℕ} {p q start end : ℕ} (e : Stored o 0 (envelope_octets edition read_opcode exchange 0) o₁ p) (a : Stored o₁ p read_opening o₂ q) (b : Stored o₂ q filters_opening o₃ start) (fs : List VersionFilter) (f : Stored o₃ start (joined (map filter_tree_of fs)) o₄ end) where
  pub read-unfiltered : {o₅ : List ℕ} {r : ℕ} → end ≡ start → Stored o₄ q (read_closing false) o₅ r → Stored o 0 (read_message edition exchange fs) o₅ r
  unfolding read_message joined store
  read-unfiltered {o₅} {r} h c =
      let empty : fs ≡ [] = none fs (omega (arith, h, f.place)) in
      let left : o₄ ≡ o₃ = f.content ∙ ap (λ (l : List VersionFilter). store o₃ start (joined (map filter_tree_of l))) empty in
      let over : Stored o₂ q (read_closing false) o₅ r = record {
        content = c.content ∙ ap (λ (l : List ℕ). store l q (read_closing false)) (left ∙ b.content) ∙ store-over o₂ q filters_opening (read_closing false) (omega (arith, length-filters-opening, closing-length));
        place = c.place;
      } in
      rw (empty, ← read_none) (then e (then a over))

  pub read-filtered : {o₅ : List ℕ} {r : ℕ} → (end ≡ start → ⊥) → Stored o₄ end (read_closing true) o₅ r → Stored o 0 (read_message edition exchange fs) o₅ r
  unfolding read_message joined
  read-filtered {o₅} {r} h c = go fs f
    where
      go : (l : List VersionFilter) → Stored o₃ start (joined (map filter_tree_of l)) o₄ end → Stored o 0 (read_message edition exchange l) o₅ r
      go [] g = absurd (h (omega (arith, g.place)))
      go (x ∷ l) g = rw (← (read_some (filter_tree_of x) (map filter_tree_of l))) (then e (then a (then b (then g c))))
