-- The status codes that a path or an entry gets (RULES 5.6, 5.14).
use Rattle.std.specs.Prelude.{ℕ}

abbrev pub success : ℕ
success = 0x00

abbrev pub unsupported_access : ℕ
unsupported_access = 0x7E

abbrev pub unsupported_endpoint : ℕ
unsupported_endpoint = 0x7F

abbrev pub unsupported_attribute : ℕ
unsupported_attribute = 0x86

abbrev pub unsupported_write : ℕ
unsupported_write = 0x88

abbrev pub unsupported_read : ℕ
unsupported_read = 0x8F

abbrev pub data_version_mismatch : ℕ
data_version_mismatch = 0x92

abbrev pub unsupported_cluster : ℕ
unsupported_cluster = 0xC3
