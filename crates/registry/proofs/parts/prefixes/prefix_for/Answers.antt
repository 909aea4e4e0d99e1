use Rattle.std.proofs.Common.{[], sym, ap, ◌∙◌}
use Rattle.std.specs.List.{position_from}
use Rattle.registry.specs.Lending.{has_members_of}
use Rattle.registry.proofs.PrefixLemmas.{found_within, found_passes}
use Rattle.registry.proofs.parts.prefixes.prefix_for.Goals as goal

pub prefix_of-requires-clause-group : goal.prefix_of-requires-clause-group
prefix_of-requires-clause-group g c =
    let test = has_members_of c.args.access.now in
    found_within test c.args.parts.now.groups.decls c.in_ok-group.group (sym (c.group_for.ensures ∙ ap (position_from test 0) c.decls.ensures.decls) ∙ c.in_ok-group.was)

pub prefix_of-requires-clause-members : goal.prefix_of-requires-clause-members
prefix_of-requires-clause-members g c =
    let test = has_members_of c.args.access.now in
    found_passes test c.args.parts.now.groups.decls c.in_ok-group.group (record { own = []; get = []; without = [] }) (sym (c.group_for.ensures ∙ ap (position_from test 0) c.decls.ensures.decls) ∙ c.in_ok-group.was)
