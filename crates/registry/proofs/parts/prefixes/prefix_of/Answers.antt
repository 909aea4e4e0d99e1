use Rattle.std.proofs.Common.{◌≡◌, ℕ, true, [], length, Some, slice_get, map, get_or, List, sym, ap, ◌∙◌, subst, arith}
use Rattle.std.proofs.lemmas.Option.{slice_get-get_or}
use Rattle.entity_id.specs.FiniteMap as entries
use Rattle.entity_id.proofs.ListLemmas.{all_at}
use Rattle.world_model.specs.declared.group.GroupDecl.{GroupDecl}
use Rattle.world_model.specs.Groups.{is_well_formed, IsLawfulGroup}
use Rattle.group_engine.specs.Engine.{decl_at, len_at}
use Rattle.group_engine.specs.Grouped.{packed_of}
use Rattle.registry.specs.Layout.{maps_of}
use Rattle.registry.specs.Lending.{BeginsWithMembers}
use Rattle.registry.proofs.LawLemmas.{packed_lists}
use Rattle.registry.proofs.PrefixLemmas.{begins}
use Rattle.registry.proofs.parts.prefixes.prefix_of.Goals as goal

pub returns-clause-begins : goal.returns-clause-begins
returns-clause-begins g c =
    let groups = c.args.parts.now.groups in
    let pools = c.args.pools.now in
    let n = c.args.group in
    let decl = decl_at groups n in
    let at : slice_get groups.decls n ≡ Some decl = slice_get-get_or groups.decls n (record { own = []; get = []; without = [] }) c.requires.group in
    let long : slice_get groups.lens n ≡ Some (len_at groups n) = slice_get-get_or groups.lens n 0 (omega (arith, c.decls.ensures.each, c.requires.group)) in
    let formed : is_well_formed decl ≡ true = all_at (λ (d : GroupDecl). is_well_formed d ≡ true) groups.decls n decl c.requires.lent.lawful.groups.well_formed at in
    let lawful : IsLawfulGroup (map entries.keys (maps_of pools)) (packed_of pools) decl (len_at groups n)
    = c.groups_are_lawful.ensures.each (length c.args.parts.now.decls) (map entries.keys (maps_of pools)) (packed_of pools) groups.decls groups.lens n decl (len_at groups n) c.requires.lent.lawful.groups
    (packed_lists pools c.know_each_once.ensures) c.requires.lent.grouped at long in
    let own : c.as_slice.result.now ≡ decl.own = c.as_slice.ensures ∙ ap (λ (d : GroupDecl). d.own) c.decl.ensures in
    subst (λ count. BeginsWithMembers c.args.access.now pools (get_or c.as_slice.result.now 0 0) count) (sym c.members.ensures.len)
    (subst (λ (list : List ℕ). BeginsWithMembers c.args.access.now pools (get_or list 0 0) (len_at groups n)) (sym own)
    (begins c.args.access.now decl pools (len_at groups n) c.requires.members (c.pools_of_groups.ensures.owns decl formed) lawful))
