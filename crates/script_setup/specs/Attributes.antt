-- What the line of an attribute makes of what is set up (docs/SCRIPTS.md): a row of the schema's words, and a factory text.
use Rattle.std.specs.Prelude.{List, Bool, false, ◌&&◌, ℕ, ◌+◌, ◌*◌, ◌-◌, ◌^◌, min, ltb, leb, eqb, length, take, get_or, set, replicate, Some, None, Option}
use Rattle.base_bounds.specs.Bounds.{attribute_limit}
use Rattle.base_octets.specs.Store.{store}
use Rattle.tlv_reader.specs.Octet.{pick}
use Rattle.node_kinds.specs.Stored.{equal}
use Rattle.node_schema.specs.Layout.{text_size, text_kind, attribute_count_word, key_column, traits_column, low_column, high_column, first_column, word_count}
use Rattle.script_lines.specs.declared.Scan.{Scan}
use Rattle.script_lines.specs.declared.hex.Bytes.{Bytes}
use Rattle.script_lines.specs.declared.number.Number.{Number as NumberRead}
use Rattle.script_lines.specs.declared.number.MarkedNumber.{MarkedNumber}
use Rattle.script_lines.specs.Words.{is_done, next_word, word_bytes}
use Rattle.script_lines.specs.Numbers.{number_at, signed_at, float_at, flag_at, marked_at}
use Rattle.script_lines.specs.Paths.{path_at}
use Rattle.script_lines.specs.Bytes.{rest_at, rest_kept}
use Rattle.script_lines.specs.Values.{bool_word, unsigned_word, signed_word, float_word, text_word}
use Rattle.script_setup.specs.declared.attribute.KindWords.{KindWords}
use Rattle.script_setup.specs.declared.attribute.AttributeLine.{AttributeLine}
use Rattle.script_setup.specs.Setup.{count_up}

-- one of these by the word of a kind
abbrev pub by_kind_word : {A : Type 0} → List ℕ → A → A → A → A → A → A → A
by_kind_word kind b u s f t none =
    pick (equal kind bool_word) b
    (pick (equal kind unsigned_word) u
    (pick (equal kind signed_word) s (pick (equal kind float_word) f (pick (equal kind text_word) t none))))

abbrev pub kind_words : ℕ → ℕ → ℕ → ℕ → Bool → KindWords
kind_words code low high first ok = record { code = code; low = low; high = high; first = first; ok = ok }

-- a boolean's first value
abbrev pub first_of : NumberRead → KindWords
first_of f = kind_words 0 0 0 f.value (is_done f.next)

-- lowest, highest and first value, read alike
abbrev pub limits_of : ℕ → NumberRead → NumberRead → NumberRead → KindWords
limits_of code low high first = kind_words code low.value high.value first.value (is_done first.next)

abbrev pub limits_by : ℕ → (Scan → NumberRead) → Scan → KindWords
limits_by code reads s =
    let low = reads s in
    let high = reads low.next in
    limits_of code low high (reads high.next)

-- a text's length
abbrev pub text_of : Bytes → KindWords
text_of b = kind_words text_kind 0 b.len 0 b.ok

-- what follows the word of a kind; with room for a text
unfoldable pub limits_in : List ℕ → List ℕ → Scan → ℕ → KindWords
limits_in kind line s room =
    by_kind_word kind (first_of (flag_at line s)) (limits_by 1 (λ t. number_at line t (2 ^ 64 - 1)) s) (limits_by 2 (signed_at line) s) (limits_by 3 (float_at line) s)
    (text_of (rest_at line s room)) (kind_words 0 0 0 0 false)

unfoldable pub kept_in : List ℕ → List ℕ → Scan → List ℕ → List ℕ
kept_in kind line s old = by_kind_word kind old old old old (rest_kept line s old) old

abbrev pub limits_at : List ℕ → Scan → ℕ → KindWords
limits_at line s room = limits_in (word_bytes line (next_word line s)) line (next_word line s).next room

abbrev pub limits_kept : List ℕ → Scan → List ℕ → List ℕ
limits_kept line s old = kept_in (word_bytes line (next_word line s)) line (next_word line s).next old

-- a privilege as the schema has it, 0 for none; a line's 0 is no privilege, and becomes 5, which is none either
abbrev pub privilege_of : Option ℕ → ℕ
privilege_of None = 0
privilege_of (Some n) = pick (eqb n 0) 5 n

-- the places of a line's words, one after the other: path, privileges to read and to write, nullable, kind
abbrev pub read_at : List ℕ → Scan → MarkedNumber
read_at line s = marked_at line (path_at line s).next 45 255

abbrev pub write_at : List ℕ → Scan → MarkedNumber
write_at line s = marked_at line (read_at line s).next 45 255

abbrev pub nullable_at : List ℕ → Scan → NumberRead
nullable_at line s = flag_at line (write_at line s).next

-- kind, nullable, privilege to read, privilege to write: eight bits each
abbrev pub traits_of : KindWords → NumberRead → MarkedNumber → MarkedNumber → ℕ
traits_of k n r w = k.code + n.value * 2 ^ 8 + privilege_of r.value * 2 ^ 16 + privilege_of w.value * 2 ^ 24

-- what a line says of an attribute
unfoldable pub row_at : List ℕ → Scan → ℕ → AttributeLine
row_at line s room =
    let p = path_at line s in
    let limits = limits_at line (nullable_at line s).next room in
    record {
      path = p.endpoint * 2 ^ 32 + p.cluster;
      id = p.attribute;
      traits = traits_of limits (nullable_at line s) (read_at line s) (write_at line s);
      limits = limits;
    }

-- the bytes of its text
unfoldable pub row_kept : List ℕ → Scan → List ℕ → List ℕ
row_kept line s old = limits_kept line (nullable_at line s).next old

-- the column of the attributes' paths, behind the schema's words
abbrev pub paths_column : ℕ
paths_column = word_count

abbrev pub attributes_counted : List ℕ → List ℕ
attributes_counted setup = set setup attribute_count_word (count_up (get_or setup attribute_count_word 0) (attribute_limit + 1))

-- the row that the next attribute takes; attribute_limit where there is none left
abbrev pub next_row : List ℕ → ℕ
next_row setup = min (get_or setup attribute_count_word 0) attribute_limit

-- the words of a row
unfoldable pub row_set : List ℕ → ℕ → AttributeLine → List ℕ
row_set setup i row =
    let limits = row.limits in
    let named = set (set (set setup (paths_column + i) row.path) (key_column + i) row.id) (traits_column + i) row.traits in
    set (set (set named (low_column + i) limits.low) (high_column + i) limits.high) (first_column + i) limits.first

-- a factory text goes to the place of its row, which the row has as its lowest; an overlong one is not kept
abbrev pub text_placed : List ℕ → ℕ → List ℕ
text_placed setup i = set setup (low_column + i) (text_size * i)

abbrev pub text_stored : List ℕ → ℕ → List ℕ → List ℕ
text_stored texts i bytes =
    pick (leb (length bytes) text_size && (leb (text_size * i) (length texts) && leb (length bytes) (length texts - text_size * i)))
    (store texts (text_size * i) bytes) texts

-- the row of an attribute after it was counted: kept if there is a place left, and a text beside it
abbrev pub text_bytes : AttributeLine → List ℕ → List ℕ
text_bytes row bytes = take (min row.limits.high (length bytes)) bytes

abbrev pub setup_row : List ℕ → ℕ → AttributeLine → List ℕ
setup_row setup i row =
    pick (ltb i attribute_limit) (pick (eqb row.limits.code text_kind) (text_placed (row_set setup i row) i) (row_set setup i row)) setup

abbrev pub texts_row : List ℕ → ℕ → AttributeLine → List ℕ → List ℕ
texts_row texts i row bytes = pick (ltb i attribute_limit && eqb row.limits.code text_kind) (text_stored texts i (text_bytes row bytes)) texts

unfoldable pub setup_added : List ℕ → AttributeLine → List ℕ
setup_added setup row = setup_row (attributes_counted setup) (next_row setup) row

unfoldable pub texts_added : List ℕ → List ℕ → AttributeLine → List ℕ → List ℕ
texts_added setup texts row bytes = texts_row texts (next_row setup) row bytes

-- a message's longest spelling and one byte more, which a text is read into
abbrev pub spelled_max : ℕ
spelled_max = 2049

unfoldable pub zeros : List ℕ
zeros = replicate spelled_max 0

-- whether the line can be read, and what is set up after it
abbrev pub attribute_read : List ℕ → Scan → Bool
attribute_read line s = (row_at line s spelled_max).limits.ok

unfoldable pub attribute_setup : List ℕ → Scan → List ℕ → List ℕ
attribute_setup line s setup = pick (attribute_read line s) (setup_added setup (row_at line s spelled_max)) setup

unfoldable pub attribute_texts : List ℕ → Scan → List ℕ → List ℕ → List ℕ
attribute_texts line s setup texts =
    pick (attribute_read line s) (texts_added setup texts (row_at line s spelled_max) (row_kept line s zeros)) texts
