use Rattle.std.proofs.Common.{List, [], ◌∷◌, ◌++◌, refl, ap, ◌∙◌}
use Rattle.system_api.specs.Emissions.{Emission}
use Rattle.tick_runner.proofs.GivingLemmas.{one_settles}
use Rattle.tick_runner.proofs.tests.GiverSystem.run.Goals as goal

pub returns-clause-orders : goal.returns-clause-orders
returns-clause-orders c = λ maps shown.
    let e : Emission = record { index = 0; order = c.args.self.now.order } in
    one_settles c.push_reserved.new.self.list e c.args.self.now.order (c.push_reserved.ensures.list ∙ ap (λ (list : List Emission). list ++ e ∷ []) c.requires.empty) refl
