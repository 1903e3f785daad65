-- What a path of a read asks for (RULES 5.3, 5.4): each part a number, or any.
use Rattle.std.specs.Prelude.{Bool, true, not, ◌&&◌, ℕ, ◌^◌, eqb, ltb, leb}
use Rattle.tlv_reader.specs.Octet.{pick}
use Rattle.node_schema.specs.Rules.{AttributePath}
use Rattle.im_requests.specs.declared.Target.{Target}
use Rattle.server_selection.specs.declared.asked.Asked.{Asked}

-- a part as it was read: a number of its width, or any
abbrev pub named : ℕ → ℕ → ℕ
named width x = pick (ltb x width) x 0

abbrev pub unnamed : ℕ → ℕ → Bool
unnamed width x = leb width x

unfoldable pub asked_for : Target → Asked
asked_for t =
    record {
      any_endpoint = unnamed (2 ^ 16) t.endpoint;
      endpoint = named (2 ^ 16) t.endpoint;
      any_cluster = unnamed (2 ^ 32) t.cluster;
      cluster = named (2 ^ 32) t.cluster;
      any_attribute = unnamed (2 ^ 32) t.attribute;
      attribute = named (2 ^ 32) t.attribute;
    }

abbrev pub part_is : Bool → ℕ → ℕ → Bool
part_is any id x = pick any true (eqb id x)

-- the path asks for the attribute with this path
unfoldable pub asks_for : Asked → AttributePath → Bool
asks_for p q =
    part_is p.any_endpoint p.endpoint q.endpoint
    && (part_is p.any_cluster p.cluster q.cluster && part_is p.any_attribute p.attribute q.attribute)

-- every part is named
unfoldable pub concrete : Asked → Bool
concrete p = not p.any_endpoint && (not p.any_cluster && not p.any_attribute)

-- none is
unfoldable pub unbound : Asked → Bool
unbound p = (p.any_endpoint && p.any_cluster) && p.any_attribute
