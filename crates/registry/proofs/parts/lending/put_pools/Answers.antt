use Rattle.std.proofs.Common.{ap, sym, subst}
use Rattle.std.specs.Global.{Vec}
use Rattle.storage.specs.Stored.{Stored}
use Rattle.world_model.specs.declared.component.Row.{Row}
use Rattle.registry.specs.Emptying.{emptied_of}
use Rattle.registry.specs.Layout.{IsKept}
use Rattle.registry.specs.Lending.{refilled}
use Rattle.registry.proofs.LendingLemmas.{with_pools, kept_again, came_back}
use Rattle.registry.proofs.parts.lending.put_pools.Goals as goal

pub returns-clause-consistent : goal.returns-clause-consistent
returns-clause-consistent g c =
    let parts = c.args.parts.now in
    subst (λ (v : Vec (Stored Row)). IsKept (with_pools parts v)) (sym c.replace-none.ensures.after)
    (kept_again parts c.args.pools c.requires.shell (came_back (emptied_of parts) c.args.pools.items c.requires.back))

pub returns-clause-held : goal.returns-clause-held
returns-clause-held g c =
    ap (λ (v : Vec (Stored Row)). refilled (emptied_of c.args.parts.now) v.items) c.replace-none.ensures.after
