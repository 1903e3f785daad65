-- A change of an attribute, and the version after it (RULES 2.24, 2.25).
use Rattle.std.specs.Prelude.{◌≡◌, Bool, true, false, not, List, [], ℕ, ◌+◌, ◌≤◌, ◌<◌, eqb, length, get_or, set, cond}
use Rattle.std.specs.Int.{w64}
use Rattle.std.proofs.Common.{of_z}
use Rattle.base_octets.specs.Store.{store}
use Rattle.tlv_reader.specs.Octet.{pick}
use Rattle.tlv_reader.specs.Value.{Datum, null, boolean, unsigned, signed, float, text, other}
use Rattle.node_kinds.specs.Limits.{is_null}
use Rattle.node_kinds.specs.Stored.{equal, next_version}
use Rattle.node_schema.specs.Layout.{text_limit, text_size}
use Rattle.node_schema.specs.Rows.{attribute_row}
use Rattle.node_plan.specs.Pages.{place, padded}
use Rattle.server_values.specs.declared.Values.{Values}
use Rattle.server_values.specs.Values.{shown_of}

-- a value's text; other values have none
abbrev pub text_of : Datum → List ℕ
text_of null = []
text_of (boolean b) = []
text_of (unsigned n) = []
text_of (signed z) = []
text_of (float n) = []
text_of (text b) = b
text_of other = []

abbrev pub is_text : Datum → Bool
is_text null = false
is_text (boolean b) = false
is_text (unsigned n) = false
is_text (signed z) = false
is_text (float n) = false
is_text (text b) = true
is_text other = false

-- the 64 bits that a value is stored as; a text's are 0
unfoldable pub word_for : Datum → ℕ
word_for null = 0
word_for (boolean b) = cond b 1 0
word_for (unsigned n) = n
word_for (signed z) = of_z w64 z
word_for (float n) = n
word_for (text b) = 0
word_for other = 0

-- whether a value differs from what is held as 64 bits and a null mark, a text from what is shown
unfoldable pub differs_from : ℕ → Bool → List ℕ → Datum → Bool
differs_from word held shown d =
    pick held (not (is_null d)) (pick (is_null d) true (not (pick (is_text d) (equal shown (text_of d)) (eqb word (word_for d)))))

unfoldable pub changes : List ℕ → List ℕ → List ℕ → Values → ℕ → Datum → Bool
unfolding differs_from
changes w defaults edits v i d = differs_from (get_or v.words i 0) (get_or v.nulls i false) (shown_of w defaults edits v i) d

-- a stored text's mark has its length
abbrev pub mark_for : Datum → ℕ
mark_for d = length (text_of d) + 1

-- attribute i holds another value from now on; a changed text is shown from the page of edits
unfoldable pub set_at : List ℕ → Values → ℕ → Datum → Values
set_at w v i d =
    record {
      words = set v.words i (word_for d);
      nulls = set v.nulls i (is_null d);
      texts = pick (is_text d) (set v.texts (attribute_row w i).first (mark_for d)) v.texts;
      versions = set v.versions (attribute_row w i).index_of_cluster (next_version (get_or v.versions (attribute_row w i).index_of_cluster 0));
    }

-- the page of edits then: the text's bytes at its place and zeros behind them; null writes nothing
unfoldable pub edits_set : List ℕ → List ℕ → ℕ → Datum → List ℕ
edits_set w edits i d = pick (is_text d) (store edits (place (attribute_row w i).first) (padded (text_of d))) edits

-- what storing a text needs: a rank that there is, at most 200 bytes, and a place that the page has
abbrev pub MarkFits : ℕ → Datum → Type 0
MarkFits r d = is_text d ≡ true → (r < text_limit) × (length (text_of d) ≤ text_size)

abbrev pub TextFits : List ℕ → ℕ → Datum → Type 0
TextFits edits r d = MarkFits r d × (is_text d ≡ true → place r + text_size ≤ length edits)

-- STORING a value: nothing moves unless it is a change
unfoldable pub stored_values : List ℕ → List ℕ → List ℕ → Values → ℕ → Datum → Values
unfolding changes set_at
stored_values w defaults edits v i d = pick (changes w defaults edits v i d) (set_at w v i d) v

unfoldable pub stored_edits : List ℕ → List ℕ → List ℕ → Values → ℕ → Datum → List ℕ
unfolding changes edits_set
stored_edits w defaults edits v i d = pick (changes w defaults edits v i d) (edits_set w edits i d) edits
