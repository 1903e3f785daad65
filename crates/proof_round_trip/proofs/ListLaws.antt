-- Lists of blocks: what holds of each of them, and what an array of them means.
use Rattle.std.specs.Prelude.{Some, Option}
use mathlib.Core.Path.{◌≡◌, sym, ap, ◌∙◌}
use mathlib.Core.List.{List, [], ◌∷◌, ◌++◌, map, append_assoc, append-nil}
use Rattle.tlv_reader.specs.Tree.{Tree}
use Rattle.tlv_reader.specs.Decode.{fold_t}
use Rattle.im_members.specs.Array.{each_t}
use Rattle.im_requests.specs.Message.{snoc}
use Rattle.im_writer.specs.Spelling.{members, Each}

module _ {A : Type 0} (P : A → Type 0) (f : A → Tree) where
  pub each_map : (Q : Tree → Type 0) → ((x : A) → P x → Q (f x)) → (l : List A) → Each P l → Each Q (map f l)
  unfolding Each
  each_map Q law [] h = tt
  each_map Q law (x ∷ l) h = (law x h.0, each_map Q law l h.1)

  module _ {B : Type 0} (means : Tree → Option B) (g : A → B) (law : (x : A) → P x → means (f x) ≡ Some (g x)) where
    list-from : (l : List A) → Each P l → (seen : List B) → fold_t (each_t snoc means) seen (members (map f l)) ≡ Some (seen ++ map g l)
    unfolding fold_t each_t members Each
    list-from [] h seen = ap Some (sym (append-nil seen))
    list-from (x ∷ l) h seen = rw (law x h.0) (list-from l h.1 (snoc seen (g x)) ∙ ap Some (append_assoc seen (g x ∷ []) (map g l)))

    -- an array of blocks that each mean something means the list of it
    pub list_of : (l : List A) → Each P l → fold_t (each_t snoc means) [] (members (map f l)) ≡ Some (map g l)
    list_of l h = list-from l h []
