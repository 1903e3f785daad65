-- WHY A WHOLE REQUEST IS REFUSED, in the order of RULES 6.10: 80, C9, C8, 89.
use Rattle.std.specs.Prelude.{◌||◌, ℕ, Bool, Some, None, Option, ltb, eqb}
use Rattle.base_bounds.specs.Bounds.{path_limit, filter_limit, write_limit}
use Rattle.tlv_reader.specs.Octet.{pick}
use Rattle.im_requests.specs.Read.{ReadRequest}
use Rattle.im_requests.specs.Write.{WriteRequest}
use Rattle.server_replies.specs.declared.refusal.Asks.{Asks}

-- the status of a request by what it asks for, or 0 if none applies; None is one that is not well-formed
unfoldable pub refusal_code : Option Asks → ℕ
refusal_code None = 0x80
refusal_code (Some a) =
    pick (eqb a.timed 1) 0xC9
    (pick (ltb path_limit a.paths) 0xC8
    (pick (ltb filter_limit a.filters || ltb write_limit a.writes) 0x89 0))

-- the same, by whether it is well-formed and what it would ask for
abbrev pub whole_code : Bool → Asks → ℕ
whole_code good a = refusal_code (pick good (Some a) None)

-- what a read and a write ask for
abbrev pub read_asks : ReadRequest → Asks
read_asks r = record { timed = 0; paths = r.paths.count; filters = r.filters.count; writes = 0 }

abbrev pub write_asks : WriteRequest → Asks
write_asks r = record { timed = r.timed; paths = 0; filters = 0; writes = r.entries.count }

abbrev pub read_refusal : ReadRequest → ℕ
read_refusal r = whole_code r.good (read_asks r)

abbrev pub write_refusal : WriteRequest → ℕ
write_refusal r = whole_code r.good (write_asks r)
