use Rattle.std.proofs.Common.{◌≡◌, refl, sym, ap, ◌∙◌, subst, true, w64, to_z, of_z, rules}
use Rattle.std.specs.Int.{int_wrapping_add}
use Rattle.std.proofs.lemmas.Int.{to_z-of_z}
use Rattle.world_model.specs.declared.command.Command.TheVariants.{Patch}
use Rattle.world_model.specs.declared.command.Reply.TheVariants.{Done}
use Rattle.world_model.specs.declared.component.Row.{Row}
use Rattle.world_model.specs.Components.{value_at}
use Rattle.world_model.specs.Contents.{row_at}
use Rattle.world_model.specs.Steps.{step}
use Rattle.registry.specs.Applying.{IsCarriedOut}
use Rattle.registry.specs.Layout.{world_of, held_of}
use Rattle.registry.proofs.ApplyLemmas.{carried_done, entry_skipped, row_skipped}
use Rattle.registry.specs.Spending.{nowhere, once_in}
use Rattle.registry.proofs.PatchLemmas.{row_found}
use Rattle.registry.proofs.SpendLemmas.{spends_nothing}
use Rattle.registry.proofs.parts.one_order.add.Goals as goal

pub returns-then-is_some-clause-ok : goal.returns-then-is_some-clause-ok
returns-then-is_some-clause-ok g c = entry_skipped (held_of c.args.parts.now) c.args.entity c.args.pool c.args.field _ c.entry_refusal.result (sym c.if-is_some.ensures) c.entry_refusal.ensures.cause

pub returns-in-None-clause-ok : goal.returns-in-None-clause-ok
returns-in-None-clause-ok g c = row_skipped (held_of c.args.parts.now) c.args.entity c.args.pool c.args.field _ c.entry_refusal.result (sym c.if-is_some.ensures) c.entry_refusal.ensures.cause c.in-None.ensures

pub returns-in-Ok-clause-ok : goal.returns-in-Ok-clause-ok
returns-in-Ok-clause-ok g c =
    let a = c.args in
    let old = a.parts.now in
    let sum = c.sum_in-sum.result in
    let sum_is : to_z w64 (of_z w64 sum) ≡ int_wrapping_add w64 (value_at (row_at (world_of old) a.pool a.entity) a.field) a.value
    = to_z-of_z w64 sum (search (rules, c.sum_in-sum.type_inv)) ∙ c.sum_in-sum.ensures ∙ ap (λ z. int_wrapping_add w64 (value_at c.in-Some.row a.field) z) (to_z-of_z w64 a.value (search (rules, c.ranges.value)))
    ∙ ap (λ (r : Row). int_wrapping_add w64 (value_at r a.field) a.value) (sym (row_found (world_of old) a.pool a.entity c.in-Some.row (sym c.in-Some.ensures))) in
    subst (λ z. IsCarriedOut (held_of old) (held_of c.patch_found.new.parts) (step old.slots.limit (world_of old) (Patch a.entity a.pool a.field z)) true) sum_is
    (carried_done (held_of old) (held_of c.patch_found.new.parts) (Patch a.entity a.pool a.field (to_z w64 (of_z w64 sum))) Done refl c.in-Ok.ensures.ok c.in-Ok.ensures.reply)

pub returns-then-is_some-clause-spends : goal.returns-then-is_some-clause-spends
returns-then-is_some-clause-spends g c = spends_nothing nowhere (once_in c.args.pool) (held_of c.args.parts.now)

pub returns-in-None-clause-spends : goal.returns-in-None-clause-spends
returns-in-None-clause-spends g c = spends_nothing nowhere (once_in c.args.pool) (held_of c.args.parts.now)
