-- What stands at a position of a message: the head of an element.
use Rattle.std.specs.Prelude.{ℕ, ◌+◌, ◌-◌, ◌/◌, ◌%◌, List, false, length, get_or, ltb, eqb, Some, None, Option}
use Rattle.base_octets.specs.Number.{number_at}
use Rattle.tlv_reader.specs.declared.Element.{Element}
use Rattle.tlv_reader.specs.Octet.{pick, tag_width, number_width, is_string, end_of_container}

abbrev pub element_of : ℕ → ℕ → ℕ → ℕ → ℕ → ℕ → Element
element_of form kind tag number body next =
    record { form = form; kind = kind; tag = tag; number = number; body = body; next = record { at = next } }

-- in a message of len octets the body starts at body: a string's octets must be there
unfoldable pub closed_at : ℕ → ℕ → ℕ → ℕ → ℕ → ℕ → Option Element
closed_at len form kind tag number body =
    pick (is_string kind)
    (pick (ltb (len - body) number) None (Some (element_of form kind tag number body (body + number))))
    (Some (element_of form kind tag number body body))

-- tw octets of tag and nw of number must stand after the control octet
abbrev pub sized_at : List ℕ → ℕ → ℕ → ℕ → ℕ → ℕ → Option Element
sized_at s at form kind tw nw =
    pick (ltb (length s - (at + 1)) (tw + nw)) None
    (closed_at (length s) form kind (number_at tw s (at + 1)) (number_at nw s (at + 1 + tw)) (at + 1 + tw + nw))

-- a reserved element type and a tagged end are malformed
abbrev pub formed_at : List ℕ → ℕ → ℕ → ℕ → Option Element
formed_at s at form kind =
    pick (ltb end_of_container kind) None
    (pick (pick (eqb kind end_of_container) (ltb 0 form) false) None
    (sized_at s at form kind (tag_width form) (number_width kind)))

unfoldable pub head_at : List ℕ → ℕ → Option Element
head_at s at = pick (ltb at (length s)) (formed_at s at (get_or s at 0 / 32) (get_or s at 0 % 32)) None
