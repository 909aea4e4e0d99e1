use Rattle.std.proofs.Common.{List, IsPermutation, sym, ap, ◌∙◌, subst}
use Rattle.storage.specs.Stored.{Stored}
use Rattle.world_model.specs.declared.component.Row.{Row}
use Rattle.group_engine.specs.Engine.{prefix_at}
use Rattle.group_engine.specs.Grouped.{packed_of}
use Rattle.group_engine.proofs.EngineLemmas.{decl_there}
use Rattle.world_model.specs.Contents.{keys_of, group_at}
use Rattle.world_model.specs.Groups.{members, group_prefix}
use Rattle.registry.specs.Layout.{world_of}
use Rattle.registry.proofs.parts.members.members_of.Goals as goal

pub returns-clause-matching : goal.returns-clause-matching
returns-clause-matching g c =
    let parts = c.args.parts.now in
    let w = world_of parts in
    let group = c.args.group in
    let decl = group_at w group in
    let lawful = c.know_law.ensures.lawful.groups group decl (decl_there parts.groups group c.requires.group) in
    let is = c.members.ensures.list ∙ ap (λ (pools : List (Stored Row)). prefix_at parts.groups (packed_of pools) group) c.deref.ensures.value in
    subst (λ list. IsPermutation list (members (keys_of w) decl)) (sym is)
    (subst (λ n. IsPermutation (group_prefix (packed_of parts.pools.items) decl n) (members (keys_of w) decl)) (sym (c.know_law.ensures.counted group c.requires.group)) lawful.matching)
