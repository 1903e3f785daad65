-- What begins an exchange, case by case for the code.
use Rattle.std.specs.Prelude.{Some, None, Option}
use mathlib.Core.Path.{◌≡◌, sym, ap, subst, ◌∙◌}
use mathlib.Core.List.{List, [], map}
use Prim.Native.Nat.{ℕ, ◌*◌, ◌≤◌}
use native.Mathlib.Omega.{arith}
use borrow.Author.Tests.{eq-eqb, ne_eqb}
use lib.ListN.{length, get_or, take, length-take}
use Rattle.base_bounds.specs.Bounds.{path_limit, write_limit}
use Rattle.base_octets.specs.Store.{store, Stored}
use Rattle.im_requests.specs.Read.{ReadRequest}
use Rattle.im_requests.specs.Read.{nowhere, Read, read_in, read_read}
use Rattle.im_requests.proofs.KeepLaws.{length-first, first-none}
use Rattle.im_requests.specs.Write.{WriteRequest}
use Rattle.im_requests.specs.Write.{no_entry, entry_struct, WriteOf, write_in, write_read}
use Rattle.im_requests.proofs.WidthLaws.{kept-wide}
use Rattle.node_access.specs.declared.Grants.{Grants}
use Rattle.server_selection.specs.Request.{path_size, filters_at, paths_words}
use Rattle.server_selection.proofs.RequestLaws.{paths-length}
use Rattle.server_writes.specs.Offer.{HeldValues}
use Rattle.server_writes.specs.Entry.{InWidth, held_after, codes_of, codes_in}
use Rattle.server_writes.proofs.ResponseLaws.{of-taken}
use Rattle.server_writes.proofs.StatusLaws.{codes-octets, codes-kept}
use Rattle.im_writer.specs.Envelope.{cache_edition}
use Rattle.im_exchange.specs.Rules.{first_reply}
use Rattle.server_replies.specs.declared.RowStanding.{RowStanding}
use Rattle.server_replies.specs.Messages.{max_message, response_message}
use Rattle.server_replies.specs.Server.{ServerState, Server, held_by, state_with, with_row}
use Rattle.server_replies.specs.Row.{kept_reply, row_in, reported, blocks_of}
use Rattle.server_replies.specs.Refusal.{read_refusal, write_asks, write_refusal}
use Rattle.server_replies.specs.Begin.{once, beginning_place, request_of, read_by, read_begun, entries_of, response_to, write_by, write_begun, Wrote, refusal_of}
use Rattle.server_replies.proofs.MessageLaws.{answer-length}
use Rattle.server_replies.proofs.RequestLaws.{whole-none}
use Rattle.server_replies.proofs.LentLaws.{begins-same}

-- ---- a read

paths-whole : (o : Option Read) → length (read_read o).paths.kept ≡ path_limit
paths-whole None = ap length (sym (first-none path_limit nowhere)) ∙ length-first path_limit nowhere []
paths-whole (Some x) = length-first path_limit nowhere x.paths

module _ (s : List ℕ) {r : ReadRequest} (e : r ≡ read_read (read_in s)) where
  -- the words of its paths are as many as there is room for
  pub request-length : length (paths_words r.paths.kept) ≡ filters_at
  request-length = rw e (paths-length (read_read (read_in s)).paths.kept ∙ ap (λ (n : ℕ). n * path_size) (paths-whole (read_in s)))

  module _ (u : Server) (g : Grants) (exchange : ℕ) where
    by_read : read_begun u g exchange s ≡ read_by u g exchange r
    unfolding read_begun
    by_read = ap (read_by u g exchange) (sym e)

    pub read-refused : (read_refusal r ≡ 0 → ⊥) → read_begun u g exchange s ≡ once u.state.row exchange (refusal_of exchange (read_refusal r))
    read-refused n = by_read ∙ rw (ne_eqb (read_refusal r) 0 n)

    pub read-answered : read_refusal r ≡ 0 → read_begun u g exchange s ≡ reported u.state.row exchange first_reply (request_of u.schema r) beginning_place (blocks_of u g (request_of u.schema r) beginning_place)
    read-answered z = by_read ∙ rw (eq-eqb (read_refusal r) 0 z)

-- ---- a write

kept-length : (o : Option (WriteOf ℕ)) → length (write_read o).entries.kept ≡ write_limit
kept-length None = ap length (sym (first-none write_limit no_entry)) ∙ length-first write_limit no_entry []
kept-length (Some x) = length-first write_limit no_entry (map entry_struct x.entries)

-- what the code leaves, and what is meant
wrote_as : {l : ServerState} {k : HeldValues} {t : RowStanding} {row kept old new : List ℕ} → state_with k (row_in row t kept) ≡ l → (new ≡ store old 0 (kept_reply (row_in row t kept))) × (length (kept_reply (row_in row t kept)) ≡ t.len) → Wrote l t k row row kept old new
wrote_as p q = record { held = ap (λ (m : ServerState). held_by m) p; begins = begins-same (ap (λ (m : ServerState). m.row) p) q }

module _ (s : List ℕ) {r : WriteRequest} (e : r ≡ write_read (write_in s)) where
  pub writes-wide : (i : ℕ) → InWidth (get_or r.entries.kept i no_entry)
  writes-wide i = rw e (let h = kept-wide s i in record { endpoint = h.endpoint; cluster = h.cluster; attribute = h.attribute })

  writes-whole : length r.entries.kept ≡ write_limit
  writes-whole = rw e (kept-length (write_in s))

  module _ (u : Server) (g : Grants) (exchange : ℕ) where
    by-write : write_begun u g exchange s ≡ write_by u g exchange s r
    unfolding write_begun
    by-write = ap (write_by u g exchange s) (sym e)

    -- refused whole
    pub wrote-refused : (write_refusal r ≡ 0 → ⊥) → {t : RowStanding} {row kept old new : List ℕ} → (row_in row t kept ≡ once u.state.row exchange (refusal_of exchange (write_refusal r))) × ((new ≡ store old 0 (kept_reply (row_in row t kept))) × (length (kept_reply (row_in row t kept)) ≡ t.len)) → Wrote (write_begun u g exchange s) t (held_by u.state) row row kept old new
    wrote-refused n (p, q) =
        let l : write_begun u g exchange s ≡ with_row u.state (once u.state.row exchange (refusal_of exchange (write_refusal r))) = by-write ∙ rw (ne_eqb (write_refusal r) 0 n) in
        wrote_as ((λ j. with_row u.state (p j)) ∙ sym l) q

    module _ (z : write_refusal r ≡ 0) where
      -- stored
      pub wrote-done : {k : HeldValues} → k ≡ held_after u.schema g u.defaults s (held_by u.state) (entries_of r) → {reply : List ℕ} → response_to u g exchange s r ≡ reply → {t : RowStanding} {row kept old new : List ℕ} → (row_in row t kept ≡ once u.state.row exchange reply) × ((new ≡ store old 0 (kept_reply (row_in row t kept))) × (length (kept_reply (row_in row t kept)) ≡ t.len)) → Wrote (write_begun u g exchange s) t k row row kept old new
      wrote-done a c (p, q) =
          let l : write_begun u g exchange s ≡ state_with (held_after u.schema g u.defaults s (held_by u.state) (entries_of r)) (once u.state.row exchange (response_to u g exchange s r)) = by-write ∙ rw (eq-eqb (write_refusal r) 0 z) in
          wrote_as ((λ j. state_with (a j) ((p ∙ ap (once u.state.row exchange) (sym c)) j)) ∙ sym l) q

      -- its statuses
      pub response-sent : {codes old new : List ℕ} {end : ℕ} → codes ≡ codes_in (codes_of u.schema g u.defaults s (held_by u.state) (entries_of r)) → Stored old 0 (response_message cache_edition exchange first_reply (entries_of r) (take r.entries.count codes)) new end → Stored old 0 (response_message cache_edition exchange first_reply (entries_of r) (codes_of u.schema g u.defaults s (held_by u.state) (entries_of r))) new end
      response-sent {codes} {old} {new} {end} c y =
          let n = r.entries.count in
          let q : take n codes ≡ codes_of u.schema g u.defaults s (held_by u.state) (entries_of r) =
          ap (take n) c ∙ codes-kept u.schema g u.defaults s (held_by u.state) r.entries.kept n (omega (arith, (whole-none r.good (write_asks r) z).writes, writes-whole)) (whole-none r.good (write_asks r) z).writes in
          subst (λ (l : List ℕ). Stored old 0 (response_message cache_edition exchange first_reply (entries_of r) l) new end) q y

      pub response-short : length (response_message cache_edition exchange first_reply (entries_of r) (codes_of u.schema g u.defaults s (held_by u.state) (entries_of r))) ≤ max_message
      response-short =
          answer-length cache_edition exchange first_reply (entries_of r) (codes_of u.schema g u.defaults s (held_by u.state) (entries_of r)) (omega (arith, (whole-none r.good (write_asks r) z).writes, length-take r.entries.count r.entries.kept))
          (of-taken InWidth r.entries.kept r.entries.count no_entry (λ i l. writes-wide i)) (codes-octets u.schema g u.defaults s (held_by u.state) (entries_of r))

    pub silent : r.suppress ≡ 1 → response_to u g exchange s r ≡ []
    silent q = rw (eq-eqb r.suppress 1 q)

    pub spoken : (r.suppress ≡ 1 → ⊥) → response_to u g exchange s r ≡ response_message cache_edition exchange first_reply (entries_of r) (codes_of u.schema g u.defaults s (held_by u.state) (entries_of r))
    spoken n = rw (ne_eqb r.suppress 1 n)
