-- A server's state as it stands for the protocol's.
use Rattle.std.specs.Prelude.{◌≡◌, Bool, true, not, List, [], ◌∷◌, ◌++◌, ℕ, ◌+◌, ◌-◌, ◌^◌, ◌<◌, eqb, length, get_or}
use Rattle.base_bounds.specs.Bounds.{version_limit}
use Rattle.tlv_reader.specs.Value.{Datum}
use Rattle.node_schema.specs.Rows.{count_of_clusters, count_of_attributes}
use Rattle.node_access.specs.declared.Grants.{Grants}
use Rattle.im_requests.specs.declared.VersionFilter.{VersionFilter}
use Rattle.server_selection.specs.Asked.{asked_for}
use Rattle.server_selection.specs.Filters.{filter_words}
use Rattle.proof_round_trip.specs.Meant.{everything}
use Rattle.im_exchange.specs.declared.Progress.{Progress}
use Rattle.im_exchange.specs.Rules.{nothing}
use Rattle.server_replies.specs.declared.ExchangeRow.{ExchangeRow}
use Rattle.server_replies.specs.Messages.{max_message}
use Rattle.server_replies.specs.Server.{Server, ServerReaction, with_state}
use Rattle.server_replies.specs.Row.{kept_reply, paths_of}
use Rattle.proof_protocol.specs.Model.{Part, ServedExchange, Cluster, System}
use Rattle.proof_protocol.specs.Claims.{moved}
use Rattle.proof_refinement.specs.Terms.{readable_from, filters_as, ClustersAs}
use Rattle.proof_refinement.specs.Bytes.{ReplyAs}
use Rattle.server.specs.Valid.{ValidServer}

-- the read that is being answered: one full wildcard path, its filters, which were judged when it was asked, and what is ahead
pub record Going (w : List ℕ) (g : Grants) (x : ExchangeRow) (r : ServedExchange Datum) : Type 0 where
  pub paths : paths_of x.request ≡ asked_for everything ∷ []
  pub asked : List VersionFilter
  pub judged : x.request.filters ≡ filter_words w asked
  pub filters : r.filters ≡ filters_as w asked
  pub path : x.place.path ≡ 0
  pub ahead : r.ahead ≡ readable_from w g (count_of_attributes w - x.place.index) x.place.index

-- more was promised
abbrev pub promised : Progress → Bool
promised p = not (eqb p.next nothing)

pub record RowAs (w : List ℕ) (g : Grants) (sent : List (List ℕ)) (x : ExchangeRow) (r : ServedExchange Datum) : Type 0 where
  pub exchange : r.exchange ≡ x.progress.last
  pub turn : r.turn ≡ x.progress.turn
  pub more : r.more ≡ promised x.progress
  pub closed : r.closed ≡ not (eqb x.progress.closed 0)
  pub going : r.more ≡ true → Going w g x r
  pub kept : ReplyAs w sent (kept_reply x) r.kept
  pub whole : length x.kept ≡ max_message

pub record ServerAs (n : Server) (g : Grants) (sent : List (List ℕ)) (clusters : ℕ → Cluster Datum) (r : ServedExchange Datum) : Type 0 where
  pub valid : ValidServer n
  pub versions-fit : (k : ℕ) → get_or n.state.values.versions k 0 < version_limit
  pub held : ClustersAs n.schema n.defaults n.state.edits n.state.values clusters
  pub row : RowAs n.schema g sent n.state.row r

-- WHAT A CALL OF THE SERVER LEAVES: what the server holds after it, the reply, and the step that the protocol takes
pub record Serves (n : Server) (g : Grants) (sent : List (List ℕ)) (x : ServerReaction) (s t : System Datum) : Type 0 where
  pub server : ServerAs (with_state n x.state) g sent t.clusters t.row
  pub made : List (Part Datum)
  pub reply-is : ReplyAs n.schema sent x.reply made
  pub parts : t.parts ≡ made ++ s.parts
  pub cache : t.cache ≡ s.cache
  pub messages : t.messages ≡ s.messages
  pub counted : (k : ℕ) → k < count_of_clusters n.schema → (t.clusters k).changes ≡ (s.clusters k).changes + moved (get_or n.state.values.versions k 0) (get_or x.state.values.versions k 0)
