-- WHAT WAS SENT GROWS: a server that stands for the protocol's still does, whatever else the cache has sent.
use mathlib.Core.List.Memᴰ
use mathlib.Core.List.{List, ◌∷◌}
use Prim.Native.Nat.{ℕ}
use Rattle.tlv_reader.specs.Value.{Datum}
use Rattle.node_access.specs.declared.Grants.{Grants}
use Rattle.server_replies.specs.declared.ExchangeRow.{ExchangeRow}
use Rattle.server_replies.specs.Server.{Server}
use Rattle.proof_protocol.specs.Model.{Part, ServedExchange, Cluster}
use Rattle.proof_refinement.specs.Bytes.{Wrote, ReplyAs, silent, reports, answers}
use Rattle.proof_refinement.specs.Server.{RowAs, ServerAs}

module _ (sent : List (List ℕ)) (m : List ℕ) where
  wrote-still : {x e c a : ℕ} → Wrote sent x e c a → Wrote (m ∷ sent) x e c a
  wrote-still o = record { given = o.given; version = o.version; value = o.value; fits = o.fits; there = Memᴰ.tail o.there }

  reply-still : (w reply : List ℕ) (parts : List (Part Datum)) → ReplyAs w sent reply parts → ReplyAs w (m ∷ sent) reply parts
  reply-still w reply parts (silent a b) = silent a b
  reply-still w reply parts (reports p a b r) = reports p a b r
  reply-still w reply parts (answers x o a b l f h) = answers x o a b l f (wrote-still h)

  row-still : (w : List ℕ) (g : Grants) (x : ExchangeRow) (r : ServedExchange Datum) → RowAs w g sent x r → RowAs w g (m ∷ sent) x r
  row-still w g x r h =
      record {
        exchange = h.exchange;
        turn = h.turn;
        more = h.more;
        closed = h.closed;
        going = h.going;
        kept = reply-still w _ _ h.kept;
        whole = h.whole;
      }

  pub server-still : (n : Server) (g : Grants) (clusters : ℕ → Cluster Datum) (r : ServedExchange Datum) → ServerAs n g sent clusters r → ServerAs n g (m ∷ sent) clusters r
  server-still n g clusters r h =
      record { valid = h.valid; versions-fit = h.versions-fit; held = h.held; row = row-still n.schema g n.state.row r h.row }
