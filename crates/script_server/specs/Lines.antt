-- Which lines are for the server, and what it is lent before it is started.
use Rattle.std.specs.Prelude.{List, [], ◌∷◌, Bool, false, ℕ, ◌+◌, replicate}
use Rattle.base_bounds.specs.Bounds.{cluster_limit, attribute_limit}
use Rattle.node_schema.specs.Layout.{text_limit}
use Rattle.server_selection.specs.Request.{standing_at}
use Rattle.script_lines.specs.Words.{is_one_of}
use Rattle.script_answer.specs.Messages.{message_max}
use Rattle.server_values.specs.declared.Values.{Values}
use Rattle.server_values.specs.Values.{values_of}
use Rattle.server_replies.specs.Server.{ServerReaction}
use Rattle.server.specs.Start.{Starts}
use Rattle.script_server.specs.declared.ServerMemory.{ServerMemory}
use Rattle.script_server.specs.declared.ServerAnswered.{ServerAnswered}

-- sign, forward, change
abbrev pub sign_name : List ℕ
sign_name = 115 ∷ 105 ∷ 103 ∷ 110 ∷ []

abbrev pub forward_name : List ℕ
forward_name = 102 ∷ 111 ∷ 114 ∷ 119 ∷ 97 ∷ 114 ∷ 100 ∷ []

abbrev pub change_name : List ℕ
change_name = 99 ∷ 104 ∷ 97 ∷ 110 ∷ 103 ∷ 101 ∷ []

-- whether a line is for the server
abbrev pub is_server : List ℕ → Bool
is_server name = is_one_of name (sign_name ∷ forward_name ∷ change_name ∷ [])

-- the words of the exchange that is served
abbrev pub row_size : ℕ
row_size = standing_at + 10

unfoldable pub no_server : ServerMemory
no_server =
    record {
      words = replicate attribute_limit 0;
      nulls = replicate attribute_limit false;
      texts = replicate text_limit 0;
      versions = replicate cluster_limit 0;
      row = replicate row_size 0;
      kept = replicate message_max 0;
    }

-- the values that a memory holds
abbrev pub values_in : ServerMemory → Values
values_in m = values_of m.words m.nulls m.texts m.versions

-- what a start answers, and what is in the memory after it
abbrev pub StartsIn : ServerReaction → ServerMemory → ServerAnswered → Type 0
StartsIn x m r = Starts x r.outcome.number (values_in m) (values_in r.server) m.row r.server.row m.kept r.server.kept
