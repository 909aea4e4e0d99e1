use Rattle.std.proofs.Common.{sym, ap, subst, ◌∙◌}
use Rattle.world_text.specs.declared.document.Document.{Document}
use Rattle.world_maker.specs.MadeWorlds.{IsMade}
use Rattle.world_maker.specs.Making.{pools_listed}
use Rattle.world_maker.proofs.FrameLemmas.{the_frame}
use Rattle.world_maker.proofs.RowLawfulness.{is_made}
use Rattle.world_maker.proofs.making.make_world.Goals as goal

pub returns : goal.returns
returns c =
    let number = c.args.number in
    let count = c.args.count in
    let same = sym (the_frame c.in_ok-document.document c.in_ok-document.ensures) in
    let slots = sym (c.from_vec.ensures ∙ c.in_ok-slots.ensures) in
    let pools = sym (c.from_vec-2.ensures ∙ c.in_ok-pools.ensures ∙ ap pools_listed c.in_ok-draw_pools.ensures) in
    subst (λ (d : Document). IsMade number count d)
    (λ i. record {
      world = record {
        profile = (same i).world.profile;
        decls = (same i).world.decls;
        groups = (same i).world.groups;
        tick = (same i).world.tick;
        slots = slots i;
        free = (same i).world.free;
        pools = pools i;
      };
      systems = (same i).systems;
    })
    (is_made number count c.requires)
