-- The server of the specimens: a small schema laid out as words, its page of defaults, its access table, and the state that a fresh server has.
use Rattle.std.specs.Prelude.{true, false, List, [], ◌∷◌, ◌++◌, ℕ, ◌+◌, ◌*◌, ◌-◌, ◌^◌, replicate}
use Rattle.base_bounds.specs.Bounds.{cluster_limit, attribute_limit}
use Rattle.node_schema.specs.Layout.{header_size, half, text_limit, text_size}
use Rattle.node_schema.specs.Rows.{column}
use Rattle.node_access.specs.declared.AccessEntry.{AccessEntry}
use Rattle.node_access.specs.Access.{grants_of, table_ok}
use Rattle.server_values.specs.Fresh.{fresh_values}
use Rattle.server_replies.specs.Server.{ServerState, Server, Caller}
use Rattle.server.specs.Start.{fresh_row}

-- readable with View, writable with Operate: the traits of a kind, 0 boolean, 1 unsigned, 2 signed, 3 float, 4 text
abbrev traits : ℕ → ℕ
traits kind = kind + 1 * 2 ^ 16 + 2 * 2 ^ 24

-- attribute `id` of the cluster at a place of the list of clusters
abbrev key : ℕ → ℕ → ℕ
key place id = place * half + id

-- the factory text of a rank
abbrev factory : ℕ → ℕ → ℕ
factory start len = start * half + len

-- a negative number of 64 bits
abbrev minus : ℕ → ℕ
minus n = 2 ^ 64 - n

-- subject 1. Endpoint 1 has clusters 6 and 8, at versions 5 and FFFFFFFF. Cluster 6: a boolean, true; a signed number from -1000 to 1000, -128; FFFD, 4.
-- Cluster 8: a float from 0.0 to 100.0, 0.0; a text, the 6 bytes of the page of defaults; FFFD, 6
unfoldable pub words : List ℕ
words =
    column header_size (2 ∷ 6 ∷ 1 ∷ [])
    ++ (column cluster_limit ((1 * half + 6) ∷ (1 * half + 8) ∷ [])
    ++ (column cluster_limit (5 ∷ 0xFFFF_FFFF ∷ [])
    ++ (column attribute_limit (key 0 0 ∷ key 0 1 ∷ key 0 0xFFFD ∷ key 1 0 ∷ key 1 1 ∷ key 1 0xFFFD ∷ [])
    ++ (column attribute_limit (traits 0 ∷ traits 2 ∷ traits 1 ∷ traits 3 ∷ traits 4 ∷ traits 1 ∷ [])
    ++ (column attribute_limit (0 ∷ minus 1000 ∷ 0 ∷ 0 ∷ 0 ∷ 0 ∷ [])
    ++ (column attribute_limit (0 ∷ 1000 ∷ 0xFFFF ∷ 0x42C8_0000 ∷ 0 ∷ 0xFFFF ∷ [])
    ++ (column attribute_limit (1 ∷ minus 128 ∷ 4 ∷ 0 ∷ 0 ∷ 6 ∷ [])
    ++ column text_limit (factory 0 6 ∷ []))))))))

-- the factory text "BORROW"
unfoldable pub defaults : List ℕ
defaults = 0x42 ∷ 0x4F ∷ 0x52 ∷ 0x52 ∷ 0x4F ∷ 0x57 ∷ []

-- a page for the edits of one text
unfoldable pub edits : List ℕ
edits = replicate text_size 0

-- subject 1 may operate every cluster of endpoint 1
abbrev operator : AccessEntry
operator =
    record {
      privilege = 2;
      any_subject = false;
      subject = 1;
      any_endpoint = false;
      endpoint = 1;
      any_cluster = true;
      cluster = 0;
    }

unfoldable pub access : List AccessEntry
access = operator ∷ []

unfoldable pub fresh : ServerState
fresh = record { values = fresh_values words; edits = edits; row = fresh_row }

-- the server as it is lent to a call
abbrev pub server_at : ServerState → Server
server_at s = record { schema = words; defaults = defaults; state = s }

-- subject 1 calls
abbrev pub caller : Caller
caller = record { subject = 1; grants = grants_of access 1 words; table = table_ok access }
