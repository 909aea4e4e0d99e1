use Rattle.std.proofs.Common.{List, [], length, replicate, ap, ◌∙◌}
use Rattle.world_model.specs.declared.component.Decl.{Decl}
use Rattle.registry.specs.Held.{no_room}
use Rattle.world_model.proofs.LawfulLemmas.{empty_lawful}
use Rattle.registry.proofs.FreshLemmas.{fresh_new}
use Rattle.registry.proofs.ResultLemmas.{if_ok}
use Rattle.registry.proofs.parts.making.new.Goals as goal

pub returns-clause-consistent : goal.returns-clause-consistent
returns-clause-consistent g c =
    let a = c.args in
    let lawful = empty_lawful a.slot_limit a.profile a.decls c.requires.profile c.requires.addressable c.requires.few c.requires.decls in
    if_ok c.unheard_parts.result c.unheard_parts.ensures (λ parts made. (fresh_new parts a.profile a.slot_limit a.decls c.new-slots.result c.in_ok-pools.pools.items c.new-groups.result made c.new-slots.ensures (c.in_ok-pools.ensures.rows ∙ ap (λ (decls : List Decl). replicate (length decls) []) c.as_slice-count.ensures) (c.in_ok-pools.ensures.spare ∙ ap (λ (decls : List Decl). replicate (length decls) no_room) c.as_slice-count.ensures) c.new-groups.ensures.decls (c.new-groups.ensures.pools ∙ ap length c.as_slice-count.ensures) lawful).0)

pub returns-clause-held : goal.returns-clause-held
returns-clause-held g c =
    let a = c.args in
    let lawful = empty_lawful a.slot_limit a.profile a.decls c.requires.profile c.requires.addressable c.requires.few c.requires.decls in
    if_ok c.unheard_parts.result c.unheard_parts.ensures (λ parts made. (fresh_new parts a.profile a.slot_limit a.decls c.new-slots.result c.in_ok-pools.pools.items c.new-groups.result made c.new-slots.ensures (c.in_ok-pools.ensures.rows ∙ ap (λ (decls : List Decl). replicate (length decls) []) c.as_slice-count.ensures) (c.in_ok-pools.ensures.spare ∙ ap (λ (decls : List Decl). replicate (length decls) no_room) c.as_slice-count.ensures) c.new-groups.ensures.decls (c.new-groups.ensures.pools ∙ ap length c.as_slice-count.ensures) lawful).1)
