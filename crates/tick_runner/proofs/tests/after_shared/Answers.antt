use Rattle.std.proofs.Common.{List, sym, subst}
use Rattle.std.specs.List.{AllByRecursion}
use Rattle.world_model.specs.declared.component.Decl.{Decl}
use Rattle.world_model.specs.Frames.{IsFitSystem}
use Rattle.tick_runner.specs.declared.tests.Giver.{Giver}
use Rattle.tick_runner.specs.Giving.{gives}
use Rattle.tick_runner.proofs.tests.after_shared.Goals as goal

pub tick_shared-requires-clause-fit : goal.tick_shared-requires-clause-fit
tick_shared-requires-clause-fit g c κs within =
    let w = c.in_ok-empty_registry.field-0.world in
    subst (λ (decls : List Decl). AllByRecursion (λ (system : Giver). IsFitSystem w.profile decls system.access (gives system.order)) c.in_ok-systems.systems)
    (sym c.in_ok-empty_registry.ensures) (c.in_ok-systems.ensures w.profile)
