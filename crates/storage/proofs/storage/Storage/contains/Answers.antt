use Rattle.std.proofs.Common.{ap, ◌∙◌}
use Rattle.entity_id.specs.FiniteMap as entries
use Rattle.entity_id.proofs.PackedMapLemmas.{absent_unchanged}
use Rattle.std.specs.Prelude.{is_some}
use Rattle.storage.proofs.storage.Storage.contains.Goals as goal

pub returns-clause-absent : goal.returns-clause-absent
returns-clause-absent g c = absent_unchanged (entries.map_of c.args.self.now.pairs) c.args.entity c.is_some.result (c.is_some.ensures ∙ ap is_some c.get.ensures.map)
