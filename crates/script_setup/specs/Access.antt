-- The access table as the lines give it: a line is a privilege, then a subject, an endpoint and a cluster, * for any (docs/SCRIPTS.md).
use Rattle.std.specs.Prelude.{List, Bool, true, false, ℕ, ◌+◌, ◌-◌, ◌^◌, ltb, set, replicate, is_none}
use Rattle.std.specs.Option.{unwrap_or}
use Rattle.base_bounds.specs.Bounds.{entry_limit}
use Rattle.tlv_reader.specs.Octet.{pick}
use Rattle.node_access.specs.declared.AccessEntry.{AccessEntry}
use Rattle.script_lines.specs.declared.Scan.{Scan}
use Rattle.script_lines.specs.declared.number.Number.{Number as NumberRead}
use Rattle.script_lines.specs.declared.number.MarkedNumber.{MarkedNumber}
use Rattle.script_lines.specs.Words.{is_done}
use Rattle.script_lines.specs.Numbers.{number_at, marked_at}
use Rattle.script_lines.specs.Paths.{endpoint_max, id_max}
use Rattle.script_setup.specs.declared.access.Table.{Table}
use Rattle.script_setup.specs.declared.access.Given.{Given}

-- what stands at places that are not in use
abbrev pub anybody : AccessEntry
anybody =
    record { privilege = 0; any_subject = true; subject = 0; any_endpoint = true; endpoint = 0; any_cluster = true; cluster = 0 }

abbrev pub no_entries : Table
no_entries = record { entries = replicate entry_limit anybody; count = 0 }

-- a table with one entry more; one past the limit is counted and not kept
unfoldable pub with_entry : Table → AccessEntry → Table
with_entry t e =
    pick (ltb t.count entry_limit)
    (record { entries = set t.entries t.count e; count = t.count + 1 })
    (record { entries = t.entries; count = entry_limit + 1 })

abbrev pub entry_of : NumberRead → MarkedNumber → MarkedNumber → MarkedNumber → AccessEntry
entry_of p s e c =
    record {
      privilege = p.value;
      any_subject = is_none s.value;
      subject = unwrap_or s.value 0;
      any_endpoint = is_none e.value;
      endpoint = unwrap_or e.value 0;
      any_cluster = is_none c.value;
      cluster = unwrap_or c.value 0;
    }

abbrev pub given : Table → Bool → Given
given t ok = record { table = t; ok = ok }

-- the byte of *
abbrev pub any_mark : ℕ
any_mark = 42

-- the table after an access line; as it was where the line can't be read
unfoldable pub access_at : List ℕ → Scan → Table → Given
access_at line s t =
    let p = number_at line s 255 in
    let subject = marked_at line p.next any_mark (2 ^ 64 - 1) in
    let e = marked_at line subject.next any_mark endpoint_max in
    let c = marked_at line e.next any_mark id_max in
    pick (is_done c.next) (given (with_entry t (entry_of p subject e c)) true) (given t false)
