-- THE LIMITS of the rules (docs/RULES.md), each named once, with the rule that it is from. The code has the same (src/lib.rt).
-- Those of the envelope stand with it: its eight bytes, the 40 bits of an exchange, and a message of an envelope and a payload, 1,032 bytes.
use Rattle.std.specs.Prelude.{ℕ, ◌^◌}
use Rattle.base_bounds.specs.declared.Limits.{Limits}

-- RULES 2.1: endpoints, clusters, attributes and access entries of a plan
abbrev pub endpoint_limit : ℕ
endpoint_limit = 8

abbrev pub cluster_limit : ℕ
cluster_limit = 32

abbrev pub attribute_limit : ℕ
attribute_limit = 256

abbrev pub entry_limit : ℕ
entry_limit = 16

-- RULES 2.6: bytes of a text
abbrev pub text_bytes_limit : ℕ
text_bytes_limit = 200

-- RULES 2.5 and 2.25: how many data versions there are
abbrev pub version_limit : ℕ
version_limit = 2 ^ 32

-- RULES 3.1: bytes of a payload
abbrev pub payload_limit : ℕ
payload_limit = 1024

-- RULES 4.9: depth, of which the message's structure is 1
abbrev pub depth_limit : ℕ
depth_limit = 10

-- RULES 6.10: paths (else C8), filters and writes (else 89) of a request
abbrev pub path_limit : ℕ
path_limit = 16

abbrev pub filter_limit : ℕ
filter_limit = 32

abbrev pub write_limit : ℕ
write_limit = 16

-- all of them, as the code has them
abbrev pub limits : Limits
limits =
    record {
      endpoints = endpoint_limit;
      clusters = cluster_limit;
      attributes = attribute_limit;
      access_entries = entry_limit;
      text_max = text_bytes_limit;
      versions = version_limit;
      max_payload = payload_limit;
      max_depth = depth_limit;
      max_paths = path_limit;
      max_filters = filter_limit;
      max_writes = write_limit;
    }
