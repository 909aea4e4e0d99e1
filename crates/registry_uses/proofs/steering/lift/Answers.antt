use Rattle.std.proofs.Common.{◌≡◌, ◌∙◌, ℤ, rules, refl, subst, ap, ap₂, OnOk}
use Rattle.world_model.specs.declared.command.Command.TheVariants.{Patch}
use Rattle.world_model.specs.declared.command.Reply.TheVariants.{Done}
use Rattle.world_model.specs.Components.{with_field}
use Rattle.world_model.specs.Contents.{row_at}
use Rattle.world_model.specs.Orders.{is_refused}
use Rattle.world_model.specs.Refusing.{when_absent}
use Rattle.registry.specs.Held.{Does, reply_to}
use Rattle.registry.proofs.DoneLemmas.{same}
use Rattle.registry.proofs.ResultLemmas.{all_err, both_ok, then_ok}
use Rattle.registry_uses.specs.declared.beginning.TheConstants.{POSITION}
use Rattle.registry_uses.specs.Moving.{lifted_height}
use Rattle.registry_uses.proofs.RowLemmas.{given, set_is_told}
use Rattle.registry_uses.proofs.SceneLemmas.{scene_by, told_is, was_done}
use Rattle.registry_uses.proofs.steering.lift.Goals as goal

pub returns-in_err-place-clause-err : goal.returns-in_err-place-clause-err
returns-in_err-place-clause-err g c = all_err _ (same c.args.registry.now)

pub returns-clause-scene : goal.returns-clause-scene
returns-clause-scene g c =
    let old = c.args.registry.now in
    let value = given c.lifted.result (search (rules, c.lifted.type_inv)) in
    scene_by old c.patch.new.self (Patch c.args.entity POSITION 1 c.lifted.result) c.patch.result c.requires refl
    (subst (λ (z : ℤ). OnOk c.patch.result (Does old c.patch.new.self (Patch c.args.entity POSITION 1 z))) value c.patch.ensures.ok) c.patch.ensures.err

pub returns-clause-does : goal.returns-clause-does
returns-clause-does g c =
    let old = c.args.registry.now in
    let place : c.in_ok-place.place ≡ row_at old.world POSITION c.args.entity = told_is old.limit old.world c.args.entity POSITION c.in_ok-place.place c.in_ok-place.ensures.ok in
    let height = given c.lifted.result (search (rules, c.lifted.type_inv)) ∙ c.lifted.ensures.value ∙ ap₂ lifted_height place (given c.args.by c.ranges.by) in
    subst (λ (z : ℤ). OnOk c.patch.result (Does old c.patch.new.self (Patch c.args.entity POSITION 1 z))) height c.patch.ensures.ok

pub returns-clause-lifted : goal.returns-clause-lifted
returns-clause-lifted g c =
    let old = c.args.registry.now in
    let place : c.in_ok-place.place ≡ row_at old.world POSITION c.args.entity = told_is old.limit old.world c.args.entity POSITION c.in_ok-place.place c.in_ok-place.ensures.ok in
    let height = given c.lifted.result (search (rules, c.lifted.type_inv)) ∙ c.lifted.ensures.value ∙ ap₂ lifted_height place (given c.args.by c.ranges.by) in
    let lifted : ℤ = lifted_height (row_at old.world POSITION c.args.entity) c.args.by in
    both_ok c.patch.result (subst (λ (z : ℤ). OnOk c.patch.result (Does old c.patch.new.self (Patch c.args.entity POSITION 1 z))) height c.patch.ensures.ok)
    (subst (λ (z : ℤ). OnOk c.patch.result (reply_to old (Patch c.args.entity POSITION 1 z) ≡ Done)) height c.patch.ensures.reply) (λ does reply.
    let done = was_done old c.patch.new.self (Patch c.args.entity POSITION 1 lifted) does (ap is_refused reply) in
    set_is_told old c.patch.new.self c.args.entity POSITION (with_field (row_at old.world POSITION c.args.entity) 1 lifted) (when_absent old.world POSITION c.args.entity) c.law.ensures.world done.passes done.world)

pub returns-clause-packed : goal.returns-clause-packed
returns-clause-packed g c =
    then_ok c.patch.result c.patch.ensures.packed (c.packing_without_groups.ensures c.args.registry.now c.patch.new.self _ (λ pool. refl))
