-- The same members in another order (RULES 4.6).
use Rattle.tlv_reader.specs.Tree.{Tree, Trees}
use Rattle.tlv_reader.specs.Tree.Trees.{more}

pub data Reordered : Trees → Trees → Type 0 where
  same : (ts : Trees) → Reordered ts ts
  swap : (a b : Tree) (ts : Trees) → Reordered (more a (more b ts)) (more b (more a ts))
  skip : (t : Tree) {ts us : Trees} → Reordered ts us → Reordered (more t ts) (more t us)
  both : {ts us vs : Trees} → Reordered ts us → Reordered us vs → Reordered ts vs
