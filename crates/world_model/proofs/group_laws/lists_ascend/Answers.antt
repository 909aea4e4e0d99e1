use Rattle.std.proofs.Common.{◌++◌}
use Rattle.world_model.specs.Contents.{group_at}
use Rattle.world_model.proofs.KeyLemmas.{ascending_keys, ascending_view}
use Rattle.world_model.proofs.group_laws.lists_ascend.Goals as goal

pub returns-clause-components : goal.returns-clause-components
returns-clause-components c = ascending_keys

pub returns-clause-views : goal.returns-clause-views
returns-clause-views c = ascending_view

pub returns-clause-groups : goal.returns-clause-groups
returns-clause-groups c = λ limit w group lawful.
    let decl = group_at w group in
    ascending_view limit w (decl.own ++ decl.get) decl.without lawful
