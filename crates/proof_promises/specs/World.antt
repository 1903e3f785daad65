-- BOTH ENDS AS THEY ARE, in bytes: what each holds, every message that was ever made, and what a call leaves. Each call is the definition that its contract cites.
use Rattle.std.specs.Prelude.{List, [], ◌∷◌, ℕ, ◌+◌, ◌-◌, ◌*◌, ◌%◌, ◌^◌, ◌<◌, ◌≡◌, true, length, get_or}
use Rattle.std.specs.Int.{w64}
use Rattle.std.proofs.Common.{SFits}
use Rattle.base_bounds.specs.Bounds.{version_limit}
use Rattle.tlv_reader.specs.declared.Value.{Value}
use Rattle.tlv_reader.specs.declared.Value.TheVariants as value
use Rattle.node_schema.specs.Layout.{subject_word, text_size}
use Rattle.node_schema.specs.Check.{count_of_texts}
use Rattle.node_plan.specs.Check.{accepted}
use Rattle.node_access.specs.declared.AccessEntry.{AccessEntry}
use Rattle.node_access.specs.declared.Grants.{Grants}
use Rattle.node_access.specs.Access.{grants_of, table_ok}
use Rattle.server_replies.specs.Server.{ServerState, Server, Caller, ServerReaction}
use Rattle.server.specs.Receive.{received}
use Rattle.server.specs.Start.{started, altered_by}
use Rattle.cache_entries.specs.Limits.{page_size}
use Rattle.cache_state.specs.declared.CacheState.{CacheState}
use Rattle.cache_state.specs.Reaction as cache
use Rattle.cache_state.specs.Begin.{fresh}

-- what stays the same throughout: the schema's words, the factory page and the access table
pub record Plan : Type 0 where
  pub words : List ℕ
  pub defaults : List ℕ
  pub table : List AccessEntry

-- the subject that the plan names (RULES 2.17)
abbrev pub subject_of : Plan → ℕ
subject_of p = get_or p.words subject_word 0

-- what the access table grants to the cache
abbrev pub granted : Plan → Grants
granted p = grants_of p.table (subject_of p) p.words

-- the server as it is lent to a call, and who calls
abbrev pub server_of : Plan → ServerState → Server
server_of p u = record { schema = p.words; defaults = p.defaults; state = u }

abbrev pub caller_of : Plan → ℕ → Caller
caller_of p subject = record { subject = subject; grants = grants_of p.table subject p.words; table = table_ok p.table }

-- what the server holds, the cache and its page of texts; every message that the cache has made, and every reply of the server, the newest first. How often each of
-- the schema's clusters has changed is for the statements alone
pub record World : Type 0 where
  pub server : ServerState
  pub cache : CacheState
  pub page : List ℕ
  pub requests : List (List ℕ)
  pub replies : List (List ℕ)
  pub changes : ℕ → ℕ

-- what a run begins with: a plan that no rule forbids, words of 64 bits, and pages of their sizes
pub record Start (p : Plan) : Type 0 where
  pub edits : List ℕ
  pub page : List ℕ
  pub accepts : accepted p.words p.defaults ≡ true
  pub table-right : table_ok p.table ≡ true
  pub words-fit : (k : ℕ) → get_or p.words k 0 < 2 ^ 64
  pub edits-size : length edits ≡ text_size * count_of_texts p.words
  pub page-size : length page ≡ page_size

-- fresh ends, nothing on the wire
abbrev pub begin : (p : Plan) → Start p → World
begin p b =
    record {
      server = (started p.words p.defaults b.edits).state;
      cache = fresh;
      page = b.page;
      requests = [];
      replies = [];
      changes = λ k. 0;
    }

-- a message, if there is one, beside those before it
abbrev pub with : List ℕ → List (List ℕ) → List (List ℕ)
with [] l = l
with (b ∷ m) l = (b ∷ m) ∷ l

-- how many changes lead from one version to another: each adds one, and 2^32 - 1 goes to 0. It is exact, as one call makes fewer than 2^32: at most one for
-- each entry of a write
abbrev pub moved : ℕ → ℕ → ℕ
moved old new = (new + version_limit - old) % version_limit

-- after a call of the server
unfoldable pub after_server : World → ServerReaction → World
after_server u x =
    record {
      server = x.state;
      cache = u.cache;
      page = u.page;
      requests = u.requests;
      replies = with x.reply u.replies;
      changes = λ k. u.changes k + moved (get_or u.server.values.versions k 0) (get_or x.state.values.versions k 0);
    }

-- after a call of the cache
unfoldable pub after_cache : World → cache.CacheReaction → World
after_cache u x =
    record {
      server = u.server;
      cache = x.state;
      page = x.page;
      requests = with x.reply u.requests;
      replies = u.replies;
      changes = u.changes;
    }

-- a message handed to the server, by anyone
abbrev pub answered : Plan → World → ℕ → List ℕ → ℕ → ServerReaction
answered p u subject m room = received (server_of p u.server) (caller_of p subject) m room

-- a change at the server
abbrev pub altered : Plan → World → ℕ → ℕ → ℕ → List ℕ → Value → ServerReaction
altered p u endpoint cluster attribute src new = altered_by (server_of p u.server) endpoint cluster attribute src new

-- a value as the code's types have it
abbrev pub Typed : Value → Type 0
Typed value.Null = Unit {0}
Typed (value.Boolean b) = Unit {0}
Typed (value.Unsigned n) = n < 2 ^ 64
Typed (value.Signed z) = SFits w64 z
Typed (value.Float n) = n < 2 ^ 32
Typed (value.Text a n) = n < 2 ^ 64
Typed value.Other = Unit {0}
