use Rattle.std.proofs.Common.{ap, sym, subst}
use Rattle.std.specs.Global.{Vec}
use Rattle.storage.specs.Stored.{Stored}
use Rattle.world_model.specs.declared.component.Row.{Row}
use Rattle.registry.specs.Emptying.{emptied_of}
use Rattle.registry.specs.Lending.{refilled, IsLent}
use Rattle.registry.proofs.LendingLemmas.{with_pools, shell_left, taken_out}
use Rattle.registry.proofs.parts.lending.take_pools.Goals as goal

pub returns-clause-shell : goal.returns-clause-shell
returns-clause-shell g c = shell_left c.args.parts.now c.replace.new.dest c.requires

pub returns-clause-lent : goal.returns-clause-lent
returns-clause-lent g c =
    let left = with_pools c.args.parts.now c.replace.new.dest in
    subst (λ (v : Vec (Stored Row)). IsLent (emptied_of left) v.items) (sym c.replace.ensures.value) (taken_out c.args.parts.now c.replace.new.dest c.requires)

pub returns-clause-same : goal.returns-clause-same
returns-clause-same g c =
    ap (λ (v : Vec (Stored Row)). refilled (emptied_of (with_pools c.args.parts.now c.replace.new.dest)) v.items) c.replace.ensures.value
