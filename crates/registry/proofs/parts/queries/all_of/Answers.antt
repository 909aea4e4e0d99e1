use Rattle.std.proofs.Common.{◌≡◌, [], ◌∷◌, None, sym, ap, ◌∙◌}
use Rattle.std.specs.List.{list_all}
use Rattle.world_model.specs.declared.command.Command.TheVariants.{AllOf}
use Rattle.world_model.specs.declared.command.Reply.TheVariants.{Truth}
use Rattle.world_model.specs.Contents.{has_row}
use Rattle.world_model.specs.Outcomes.{Outcome}
use Rattle.world_model.specs.Refusing.{first_refusal, when_no_pool, when_dead}
use Rattle.registry.specs.Held.{refusal_to}
use Rattle.registry.specs.Layout.{world_of, held_of}
use Rattle.registry.proofs.DoneLemmas.{accepted}
use Rattle.registry.proofs.parts.queries.all_of.Goals as goal

pub returns-in-None-clause-ok : goal.returns-in-None-clause-ok
returns-in-None-clause-ok g c =
    let parts = c.args.parts.now in
    let e = c.args.entity in
    let passes : refusal_to (held_of parts) (AllOf e c.args.pools.now) ≡ None = ap (λ pools. first_refusal (when_no_pool (world_of parts) pools ∷ when_dead (world_of parts) e ∷ [])) (sym c.as_slice.ensures) ∙ sym c.in-None.ensures in
    ap (λ (o : Outcome). o.reply) (accepted parts.slots.limit (world_of parts) (AllOf e c.args.pools.now) passes)
    ∙ ap Truth (ap (list_all (λ pool. has_row (world_of parts) pool e)) (sym c.as_slice-in-None.ensures) ∙ sym c.is_in_all.ensures)
