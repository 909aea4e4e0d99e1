use Rattle.std.proofs.Common.{rules}
use Rattle.entity_id.proofs.ZipLemmas.{second-zip}
use Rattle.storage.proofs.storage.Storage.values.Goals as goal

pub returns : goal.returns
returns g c = rw (← c.self.view_is, second-zip c.self.inside.index.list c.self.inside.values.items c.self.invariant.one_each) (search rules)
