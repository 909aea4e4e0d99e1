use Rattle.std.proofs.Common.{◌≡◌, refl, subst, true, w64, to_z, of_z, rules}
use Rattle.std.proofs.lemmas.Int.{to_z-of_z}
use Rattle.world_model.specs.declared.command.Command.TheVariants.{Patch}
use Rattle.world_model.specs.declared.command.Reply.TheVariants.{Done}
use Rattle.world_model.specs.Steps.{step}
use Rattle.registry.specs.Applying.{IsCarriedOut}
use Rattle.registry.specs.Layout.{world_of, held_of}
use Rattle.registry.proofs.ApplyLemmas.{carried_done, carried_refused}
use Rattle.registry.proofs.ResultLemmas.{if_ok, all_err}
use Rattle.registry.proofs.parts.one_order.send.Goals as goal

pub returns-in-Ok-clause-ok : goal.returns-in-Ok-clause-ok
returns-in-Ok-clause-ok g c =
    let a = c.args in
    let old = a.parts.now in
    let value_is : to_z w64 (of_z w64 a.value) ≡ a.value = to_z-of_z w64 a.value (search (rules, c.ranges.value)) in
    subst (λ z. IsCarriedOut (held_of old) (held_of c.patch.new.parts) (step old.slots.limit (world_of old) (Patch a.entity a.pool a.field z)) true) value_is
    (carried_done (held_of old) (held_of c.patch.new.parts) (Patch a.entity a.pool a.field (to_z w64 (of_z w64 a.value))) Done refl c.in-Ok.ensures.ok c.in-Ok.ensures.reply)

pub returns-in-Err-clause-ok : goal.returns-in-Err-clause-ok
returns-in-Err-clause-ok g c =
    let a = c.args in
    let old = a.parts.now in
    let value_is : to_z w64 (of_z w64 a.value) ≡ a.value = to_z-of_z w64 a.value (search (rules, c.ranges.value)) in
    if_ok c.skipped.result c.skipped.ensures.ok (λ done is. subst (λ z. IsCarriedOut (held_of old) (held_of c.patch.new.parts) (step old.slots.limit (world_of old) (Patch a.entity a.pool a.field z)) done) value_is
    (carried_refused (held_of old) (held_of c.patch.new.parts) (Patch a.entity a.pool a.field (to_z w64 (of_z w64 a.value))) c.in-Err.refused done c.in-Err.ensures.cause c.in-Err.ensures.err is))

pub returns-in-Err-clause-err : goal.returns-in-Err-clause-err
returns-in-Err-clause-err g c = all_err c.skipped.result c.in-Err.ensures.err

pub returns-in-Err-clause-never : goal.returns-in-Err-clause-never
returns-in-Err-clause-never g c stands = c.skipped.ensures.never (c.in-Err.ensures.never stands)
