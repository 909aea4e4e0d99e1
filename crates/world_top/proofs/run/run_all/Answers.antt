use Rattle.std.proofs.Common.{List, subst, sym}
use Rattle.entity_id.specs.declared.entity.Profile.{Profile}
use Rattle.system_eval.specs.declared.row_system.RowSystem.{RowSystem}
use Rattle.world_model.specs.Ticks.{System}
use Rattle.world_top.specs.Running.{AreFit, AreReady, IsAfter}
use Rattle.world_top.proofs.LiveLemmas.{map_if}
use Rattle.world_top.proofs.RunningLemmas.{all_runnable, ready_effects, ready_fit}
use Rattle.world_top.proofs.run.run_all.Goals as goal

pub systems_of-requires : goal.systems_of-requires
systems_of-requires c = all_runnable c.args.registry.world.decls c.args.defs.now c.requires.declared c.requires.systems

pub run_ticks-requires-clause-fit : goal.run_ticks-requires-clause-fit
run_ticks-requires-clause-fit c =
    let decls = c.args.registry.world.decls in
    let ready = c.deref.result.now in
    let are = subst (λ (there : List RowSystem). AreReady c.args.profile c.args.defs.now there) (sym c.deref.ensures.value) c.in_ok-systems.ensures in
    subst (λ (profile : Profile). AreFit profile decls ready) (sym c.requires.profile) (ready_fit c.args.profile decls c.args.defs.now ready c.requires.systems are)

pub returns : goal.returns
returns c =
    let are = subst (λ (there : List RowSystem). AreReady c.args.profile c.args.defs.now there) (sym c.deref.ensures.value) c.in_ok-systems.ensures in
    let effects = ready_effects c.args.profile c.args.defs.now c.deref.result.now are in
    map_if c.run_ticks.result (λ new after. subst (λ (systems : List System). IsAfter c.args.registry new systems c.args.tick c.args.ticks) effects after) c.run_ticks.ensures
