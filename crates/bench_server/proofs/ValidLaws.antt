-- The rules of a server as the code tests them: ranks, first values, factory texts and values together.
use mathlib.Core.Path.{◌≡◌, refl}
use mathlib.Core.Bool.{Bool, true, false, ◌&&◌}
use mathlib.Core.List.{List}
use Prim.Native.Nat.{ℕ}
use Rattle.node_schema.specs.Check.{columns_right, ranks_right, well_formed}
use Rattle.node_plan.specs.Check.{numbers_right, texts_right, accepted}
use Rattle.server_values.specs.declared.Values.{Values}
use Rattle.server_values.specs.Valid.{held_right, values_right}
use Rattle.bench_server.specs.Server.{server_right}

grouped : (a b c d e : Bool) → (((a && b) && (c && d)) && e) ≡ (a && (b && (c && (d && e))))
grouped false b c d e = refl
grouped true false c d e = refl
grouped true true false d e = refl
grouped true true true d e = refl

pub as-tested : (w defaults edits : List ℕ) (v : Values) → server_right w defaults edits v ≡ (columns_right w && (ranks_right w && (numbers_right w && (texts_right w defaults && held_right w defaults edits v.words v.nulls v.texts))))
unfolding server_right accepted well_formed values_right
as-tested w defaults edits v =
    grouped (columns_right w) (ranks_right w) (numbers_right w) (texts_right w defaults) (held_right w defaults edits v.words v.nulls v.texts)
