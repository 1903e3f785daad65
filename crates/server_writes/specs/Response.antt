-- The Write Response: one status for each entry (RULES 5.15).
use Rattle.std.specs.Prelude.{List, [], ◌∷◌, ℕ}
use Rattle.tlv_reader.specs.Tree.{Tree}
use Rattle.im_requests.specs.declared.write.WriteEntry.{WriteEntry}
use Rattle.im_writer.specs.Spelling.{spelling}
use Rattle.im_writer.specs.Block.{answer_tree}
use Rattle.im_writer.specs.Message.{message_tree, response_members}

-- the status of each entry, for the path that it named
unfoldable pub answer_trees : List WriteEntry → List ℕ → List Tree
answer_trees [] codes = []
answer_trees (x ∷ xs) [] = []
answer_trees (x ∷ xs) (code ∷ codes) = answer_tree x.endpoint x.cluster x.attribute code ∷ answer_trees xs codes

unfoldable pub response_payload : List WriteEntry → List ℕ → List ℕ
response_payload xs codes = spelling (message_tree (response_members (answer_trees xs codes)))
