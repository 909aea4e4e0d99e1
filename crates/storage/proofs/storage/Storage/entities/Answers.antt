use Rattle.entity_id.proofs.ZipLemmas.{first-zip}
use Rattle.storage.proofs.storage.Storage.entities.Goals as goal

pub returns : goal.returns
returns g c = rw (← c.self.view_is, first-zip c.self.inside.index.list c.self.inside.values.items c.self.invariant.one_each) c.packed.ensures.list
