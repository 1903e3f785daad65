-- The calls of a server as a benchmark makes them: one access entry that grants everything, and a value by a code.
use Rattle.std.specs.Prelude.{true, not, List, ℕ, ◌%◌, ◌^◌, eqb, replicate}
use Rattle.std.specs.Int.{w64}
use Rattle.std.proofs.Common.{to_z}
use Rattle.base_bounds.specs.Bounds.{entry_limit}
use Rattle.tlv_reader.specs.Octet.{pick}
use Rattle.tlv_reader.specs.declared.Value.{Value}
use Rattle.tlv_reader.specs.declared.Value.TheVariants.{Null, Boolean, Unsigned, Signed, Float, Text}
use Rattle.node_access.specs.declared.AccessEntry.{AccessEntry}
use Rattle.server.specs.declared.Outcome.{Outcome}
use Rattle.bench_server.specs.declared.calls.Last.{Last}

-- one access entry: every privilege, for anyone, everywhere
abbrev pub open_entry : AccessEntry
open_entry =
    record { privilege = 4; any_subject = true; subject = 0; any_endpoint = true; endpoint = 0; any_cluster = true; cluster = 0 }

unfoldable pub open_entries : List AccessEntry
open_entries = replicate entry_limit open_entry

abbrev pub outcome_of : Last → Outcome
outcome_of r = record { number = r.number; len = r.len }

-- a value by its code: 1 boolean, 2 unsigned, 3 signed, 4 float, 5 the text, any other null
unfoldable pub given_value : ℕ → ℕ → ℕ → Value
given_value code word len =
    pick (eqb code 1) (Boolean (not (eqb word 0)))
    (pick (eqb code 2) (Unsigned word)
    (pick (eqb code 3) (Signed (to_z w64 word))
    (pick (eqb code 4) (Float (word % 2 ^ 32)) (pick (eqb code 5) (Text 0 len) Null))))
