use Rattle.entity_id.specs.Identifiers.{is_same}
use Rattle.entity_id.proofs.PackedListLemmas.{any_by_position}
use Rattle.sparse_set.proofs.sparse_set.SparseSet.contains.Goals as goal

pub returns : goal.returns
returns c = let e = any_by_position (is_same c.args.entity) c.args.self.now.list 0 in cc (c.is_some.ensures, c.index_of.ensures.place, e)
