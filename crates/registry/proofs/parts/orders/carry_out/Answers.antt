use Rattle.std.proofs.Common.{refl, ap, ◌∙◌, subst}
use Rattle.std.proofs.lemmas.Bool.{eq-eqb}
use Rattle.world_model.specs.declared.deferred.Deferred.{Deferred}
use Rattle.world_model.specs.declared.deferred.Deferred.TheVariants.{Kill, Give, Take, Send, Add, Spawn, Bear}
use Rattle.world_model.specs.Orders.{IsFitting, is_add, is_update}
use Rattle.registry.specs.Layout.{held_of}
use Rattle.registry.specs.Spending.{adds_of, updates_of, Spends}
use Rattle.registry.proofs.ApplyLemmas.{bear_skipped}
use Rattle.registry.proofs.ReadyLemmas.{room_to_give, room_to_send, spends_as}
use Rattle.registry.proofs.SpendLemmas.{spends_nothing}
use Rattle.registry.proofs.parts.orders.carry_out.Goals as goal

pub returns-in-None-clause-ok : goal.returns-in-None-clause-ok
returns-in-None-clause-ok g c = bear_skipped (held_of c.args.parts.now) c.args.last.now c.args.order.now c.in-Bear.pool c.in-Bear.row c.in-Bear.is c.in-None.is

pub returns-in-None-clause-spends : goal.returns-in-None-clause-spends
returns-in-None-clause-spends g c = spends_nothing (adds_of c.args.order.now) (updates_of c.args.order.now) (held_of c.args.parts.now)

pub give-requires-clause-room : goal.give-requires-clause-room
give-requires-clause-room g c stands =
    let old = held_of c.args.parts.now in
    let pool = c.in-Give.pool in
    let fit = subst (IsFitting old.world.profile old.world.decls) c.in-Give.is c.requires.fitting in
    room_to_give old c.args.order.now pool (c.requires.room stands) fit.0 (ap (λ (o : Deferred). is_add pool o) c.in-Give.is ∙ eq-eqb pool pool refl) (ap (λ (o : Deferred). is_update pool o) c.in-Give.is ∙ eq-eqb pool pool refl) c.requires.consistent.lawful.slots.few

pub send-requires-clause-heard : goal.send-requires-clause-heard
send-requires-clause-heard g c stands =
    let old = held_of c.args.parts.now in
    let pool = c.in-Send.pool in
    let fit = subst (IsFitting old.world.profile old.world.decls) c.in-Send.is c.requires.fitting in
    room_to_send old c.args.order.now pool (c.requires.room stands) fit.0 (ap (λ (o : Deferred). is_update pool o) c.in-Send.is ∙ eq-eqb pool pool refl)

pub add-requires-clause-heard : goal.add-requires-clause-heard
add-requires-clause-heard g c stands =
    let old = held_of c.args.parts.now in
    let pool = c.in-Add.pool in
    let fit = subst (IsFitting old.world.profile old.world.decls) c.in-Add.is c.requires.fitting in
    room_to_send old c.args.order.now pool (c.requires.room stands) fit.0 (ap (λ (o : Deferred). is_update pool o) c.in-Add.is ∙ eq-eqb pool pool refl)

pub give-requires-in-Some-clause-room : goal.give-requires-in-Some-clause-room
give-requires-in-Some-clause-room g c stands =
    let old = held_of c.args.parts.now in
    let pool = c.in-Bear.pool in
    let fit = subst (IsFitting old.world.profile old.world.decls) c.in-Bear.is c.requires.fitting in
    room_to_give old c.args.order.now pool (c.requires.room stands) fit.0 (ap (λ (o : Deferred). is_add pool o) c.in-Bear.is ∙ eq-eqb pool pool refl) (ap (λ (o : Deferred). is_update pool o) c.in-Bear.is ∙ eq-eqb pool pool refl) c.requires.consistent.lawful.slots.few

pub returns-in-Kill-clause-spends : goal.returns-in-Kill-clause-spends
returns-in-Kill-clause-spends g c = spends_as (held_of c.args.parts.now) (held_of c.destroy.new.parts) c.args.order.now (Kill c.in-Kill.entity) c.in-Kill.is c.destroy.ensures.spends

pub returns-in-Give-clause-spends : goal.returns-in-Give-clause-spends
returns-in-Give-clause-spends g c = spends_as (held_of c.args.parts.now) (held_of c.give.new.parts) c.args.order.now (Give c.in-Give.entity c.in-Give.pool c.in-Give.row) c.in-Give.is c.give.ensures.spends

pub returns-in-Take-clause-spends : goal.returns-in-Take-clause-spends
returns-in-Take-clause-spends g c = spends_as (held_of c.args.parts.now) (held_of c.erase.new.parts) c.args.order.now (Take c.in-Take.entity c.in-Take.pool) c.in-Take.is c.erase.ensures.spends

pub returns-in-Send-clause-spends : goal.returns-in-Send-clause-spends
returns-in-Send-clause-spends g c = spends_as (held_of c.args.parts.now) (held_of c.send.new.parts) c.args.order.now (Send c.in-Send.entity c.in-Send.pool c.in-Send.field c.in-Send.value) c.in-Send.is c.send.ensures.spends

pub returns-in-Add-clause-spends : goal.returns-in-Add-clause-spends
returns-in-Add-clause-spends g c = spends_as (held_of c.args.parts.now) (held_of c.add.new.parts) c.args.order.now (Add c.in-Add.entity c.in-Add.pool c.in-Add.field c.in-Add.value) c.in-Add.is c.add.ensures.spends

pub returns-in-Spawn-clause-spends : goal.returns-in-Spawn-clause-spends
returns-in-Spawn-clause-spends g c = spends_as (held_of c.args.parts.now) (held_of c.spawn.new.parts) c.args.order.now (Spawn) c.in-Spawn.is c.spawn.ensures.spends

pub returns-in-Some-clause-spends : goal.returns-in-Some-clause-spends
returns-in-Some-clause-spends g c = spends_as (held_of c.args.parts.now) (held_of c.give-in-Some.new.parts) c.args.order.now (Bear c.in-Bear.pool c.in-Bear.row) c.in-Bear.is c.give-in-Some.ensures.spends
