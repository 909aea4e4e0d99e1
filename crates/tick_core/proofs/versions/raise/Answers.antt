use Rattle.std.proofs.Common.{arith}
use Rattle.tick_core.proofs.VersionLemmas.{old_version, raised, raised-pools}
use Rattle.tick_core.proofs.versions.raise.Goals as goal

pub overflow_add-index_mut : goal.overflow_add-index_mut
overflow_add-index_mut c =
    let at = c.place_of-at in
    let version = old_version c.args.versions.now.items c.deref.result.now c.deref.ensures.value at.result c.args.pool c.index_mut.result.now c.index_mut.ensures.value at.ensures.within at.ensures.pool at.ensures.first in
    omega (arith, version)

pub returns-clause-versions : goal.returns-clause-versions
returns-clause-versions c =
    let at = c.place_of-at in
    raised c.args.versions.now.items c.deref.result.now c.deref.ensures.value at.result c.args.pool c.index_mut.result.now c.index_mut.ensures.value at.ensures.within at.ensures.pool at.ensures.first

pub returns-clause-pools : goal.returns-clause-pools
returns-clause-pools c =
    let at = c.place_of-at in
    raised-pools c.args.versions.now.items c.deref.result.now c.deref.ensures.value at.result c.args.pool c.index_mut.result.now c.index_mut.ensures.value at.ensures.within at.ensures.pool at.ensures.first
