use Rattle.std.proofs.Common.{refl, sym, ap, subst, ◌∙◌}
use Rattle.world_model.specs.declared.command.Command.{Command}
use Rattle.world_model.specs.declared.command.Command.TheVariants.{Valid, Get, AllOf, AnyOf, Orphan, Alive, Size, View, Members}
use Rattle.world_model.specs.declared.command.Reply.TheVariants.{Truth, Number, Values, Listed}
use Rattle.registry.specs.Layout.{held_of}
use Rattle.registry.specs.Running.{IsRun}
use Rattle.registry.proofs.DoneLemmas.{same}
use Rattle.registry.proofs.ResultLemmas.{all_ok, all_err}
use Rattle.registry.proofs.RunLemmas.{ran, asked, done_run, answered, repacked}
use Rattle.registry.proofs.parts.commands.ask.Goals as goal

pub returns-in-Valid : goal.returns-in-Valid
returns-in-Valid g c =
    let held = held_of c.args.parts.now in
    let command : Command = Valid c.in-Valid.entity in
    subst (λ v. IsRun held held v (Truth c.valid.result)) (sym c.in-Valid.is) (done_run held held command (Truth c.valid.result) (λ cause q. cc) (asked held command (same held).unchanged) (repacked held command refl) (ap Truth (sym c.valid.ensures)))

pub returns-in-Get : goal.returns-in-Get
returns-in-Get g c =
    let held = held_of c.args.parts.now in
    let command : Command = Get c.in-Get.entity c.in-Get.pool in
    subst (λ v. IsRun held held v c.values.result) (sym c.in-Get.is) (subst (λ r. IsRun held held command r) (sym c.values.ensures) (answered held command c.get.result (λ x. Values x) (λ x cause q. cc) (same held).unchanged (repacked held command refl) c.get.ensures.ok c.get.ensures.err))

pub returns-in-AllOf : goal.returns-in-AllOf
returns-in-AllOf g c =
    let held = held_of c.args.parts.now in
    let command : Command = AllOf c.in-AllOf.entity c.in-AllOf.pools in
    subst (λ v. IsRun held held v c.truth.result) (sym c.in-AllOf.is) (subst (λ r. IsRun held held command r) (sym c.truth.ensures) (answered held command c.all_of.result (λ x. Truth x) (λ x cause q. cc) (same held).unchanged (repacked held command refl) c.all_of.ensures.ok c.all_of.ensures.err))

pub returns-in-AnyOf : goal.returns-in-AnyOf
returns-in-AnyOf g c =
    let held = held_of c.args.parts.now in
    let command : Command = AnyOf c.in-AnyOf.entity c.in-AnyOf.pools in
    subst (λ v. IsRun held held v c.truth-in-AnyOf.result) (sym c.in-AnyOf.is) (subst (λ r. IsRun held held command r) (sym c.truth-in-AnyOf.ensures) (answered held command c.any_of.result (λ x. Truth x) (λ x cause q. cc) (same held).unchanged (repacked held command refl) c.any_of.ensures.ok c.any_of.ensures.err))

pub returns-in-Orphan : goal.returns-in-Orphan
returns-in-Orphan g c =
    let held = held_of c.args.parts.now in
    let command : Command = Orphan c.in-Orphan.entity in
    subst (λ v. IsRun held held v c.truth-in-Orphan.result) (sym c.in-Orphan.is) (subst (λ r. IsRun held held command r) (sym c.truth-in-Orphan.ensures) (answered held command c.orphan.result (λ x. Truth x) (λ x cause q. cc) (same held).unchanged (repacked held command refl) c.orphan.ensures.ok c.orphan.ensures.err))

pub returns-in-Alive : goal.returns-in-Alive
returns-in-Alive g c =
    let held = held_of c.args.parts.now in
    let command : Command = Alive in
    subst (λ v. IsRun held held v (Number c.from.result)) (sym c.in-Alive.is) (done_run held held command (Number c.from.result) (λ cause q. cc) (asked held command (same held).unchanged) (repacked held command refl) (ap Number (sym (c.from.ensures ∙ c.alive.ensures))))

pub returns-in-Size : goal.returns-in-Size
returns-in-Size g c =
    let held = held_of c.args.parts.now in
    let command : Command = Size in
    subst (λ v. IsRun held held v (Number c.from-in-Size.result)) (sym c.in-Size.is) (done_run held held command (Number c.from-in-Size.result) (λ cause q. cc) (asked held command (same held).unchanged) (repacked held command refl) (ap Number (sym (c.from-in-Size.ensures ∙ c.len.ensures.len))))

pub returns-in-View : goal.returns-in-View
returns-in-View g c =
    let held = held_of c.args.parts.now in
    let command : Command = View c.in-View.all c.in-View.without in
    subst (λ v. IsRun held held v c.listed.result) (sym c.in-View.is) (subst (λ r. IsRun held held command r) (sym c.listed.ensures)
    (ran held held command c.view.result (λ x. Listed x) (λ x cause q. cc) (all_err c.view.result refl) (all_ok c.view.result (asked held command (same held).unchanged)) (all_ok c.view.result (repacked held command refl)) c.view.ensures.ok (all_err c.view.result (same held)) c.view.ensures.cause c.view.ensures.refused))

pub returns-in-Members : goal.returns-in-Members
returns-in-Members g c =
    let held = held_of c.args.parts.now in
    let command : Command = Members c.in-Members.group in
    subst (λ v. IsRun held held v c.listed-in-Members.result) (sym c.in-Members.is) (subst (λ r. IsRun held held command r) (sym c.listed-in-Members.ensures)
    (ran held held command c.list_members.result (λ x. Listed x) (λ x cause q. cc) (all_err c.list_members.result refl) (all_ok c.list_members.result (asked held command (same held).unchanged)) (all_ok c.list_members.result (repacked held command refl)) c.list_members.ensures.ok (all_err c.list_members.result (same held)) c.list_members.ensures.cause c.list_members.ensures.refused))
