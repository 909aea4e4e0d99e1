use Rattle.std.proofs.Common.{refl}
use Rattle.entity_id.proofs.ZipLemmas.{first-zip}
use Rattle.storage.proofs.PairLemmas.{once-zip}
use Rattle.storage.proofs.storage.Storage.index.Goals as goal

pub returns-clause-list : goal.returns-clause-list
returns-clause-list g c = rw (← c.self.view_is, first-zip c.self.inside.index.list c.self.inside.values.items c.self.invariant.one_each) refl

pub returns-clause-once : goal.returns-clause-once
returns-clause-once g c = rw (← c.self.view_is) (once-zip c.self.inside.index.list c.self.inside.values.items c.self.invariant.distinct)
