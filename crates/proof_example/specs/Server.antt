-- What the server holds in the run: fresh, after part 1, after the change, and after part 2.
use Rattle.std.specs.Prelude.{false, List, ◌∷◌, ◌++◌, ℕ, ◌-◌, ◌*◌, length, replicate}
use Rattle.base_bounds.specs.Bounds.{cluster_limit, attribute_limit}
use Rattle.im_members.specs.Scalar.{ABSENT}
use Rattle.im_envelope.specs.Envelope.{max_message}
use Rattle.node_schema.specs.Layout.{text_limit, text_size}
use Rattle.server_selection.specs.Request.{path_size, filters_at}
use Rattle.server_selection.specs.Filters.{unfiltered}
use Rattle.im_exchange.specs.Rules.{nothing, part}
use Rattle.server_report.specs.declared.part.OpenRead.{OpenRead}
use Rattle.server_report.specs.Blocks.{start_of}
use Rattle.server_values.specs.declared.Values.{Values}
use Rattle.server_values.specs.Fresh.{fresh_values}
use Rattle.server_replies.specs.declared.ExchangeRow.{ExchangeRow}
use Rattle.server_replies.specs.Server.{ServerState}
use Rattle.server.specs.Start.{fresh_row}
use Rattle.proof_example.specs.Plan.{words, edits}
use Rattle.proof_example.specs.Messages.{part1, part2, new, kept_over}

-- every attribute of every cluster is asked for, without a filter
abbrev everything : OpenRead
everything =
    record { paths = ABSENT ∷ ABSENT ∷ ABSENT ∷ replicate (filters_at - path_size) 0; asked = 1; filters = replicate cluster_limit unfiltered }

-- after reply number `turn`: the next part, if more was promised, goes on from an attribute
abbrev row_after : List ℕ → ℕ → ℕ → ℕ → List ℕ → ExchangeRow
row_after kept turn next index reply =
    record {
      progress = record { last = 1; turn = turn; next = next; closed = 0 };
      request = everything;
      place = start_of 0 index;
      kept = kept_over reply kept;
      len = length reply;
    }

unfoldable pub row1 : ExchangeRow
row1 = row_after (replicate max_message 0) 1 part 4 part1

unfoldable pub row2 : ExchangeRow
unfolding row1
row2 = row_after row1.kept 2 nothing 5 part2

-- the last text of cluster 8 is changed: its version goes from FFFFFFFF to 0
unfoldable pub changed_values : Values
changed_values =
    record {
      words = replicate attribute_limit 0;
      nulls = replicate attribute_limit false;
      texts = 0 ∷ 0 ∷ 0 ∷ 0 ∷ 4 ∷ replicate (text_limit - 5) 0;
      versions = 5 ∷ 0 ∷ replicate (cluster_limit - 2) 0;
    }

unfoldable pub changed_edits : List ℕ
changed_edits = replicate (4 * text_size) 0 ++ (new ++ replicate (text_size - 3) 0)

unfoldable pub sign0 : ServerState
sign0 = record { values = fresh_values words; edits = edits; row = fresh_row }

unfoldable pub sign1 : ServerState
sign1 = record { values = fresh_values words; edits = edits; row = row1 }

unfoldable pub sign2 : ServerState
sign2 = record { values = changed_values; edits = changed_edits; row = row1 }

unfoldable pub sign3 : ServerState
sign3 = record { values = changed_values; edits = changed_edits; row = row2 }
