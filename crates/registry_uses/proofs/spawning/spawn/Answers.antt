use Rattle.std.proofs.Common.{◌≡◌, ◌∙◌, true, [], ◌∷◌, inr, refl, sym, subst, ap}
use Rattle.std.proofs.lemmas.Option.{none-some}
use Rattle.entity_id.specs.declared.entity.Entity.{Entity}
use Rattle.world_model.specs.declared.command.Command.TheVariants.{Create, Destroy, Emplace}
use Rattle.world_model.specs.declared.command.Reply.TheVariants.{Values}
use Rattle.world_model.specs.declared.world.World.{World}
use Rattle.world_model.specs.declared.component.Row.{Row}
use Rattle.world_model.specs.Orders.{is_refused}
use Rattle.world_model.specs.Refusing.{when_present}
use Rattle.world_model.specs.Slots.{is_live}
use Rattle.world_model.specs.Steps.{step}
use Rattle.world_model.proofs.LivingLemmas.{lives_on}
use Rattle.registry_uses.specs.declared.beginning.TheConstants.{POSITION}
use Rattle.registry_uses.specs.Scenes.{next_made, pair, DoesAll, IsScene}
use Rattle.registry.proofs.ResultLemmas.{then_ok}
use Rattle.registry.specs.Packing.{appended_in}
use Rattle.registry_uses.proofs.SequenceLemmas.{does_alone, does_both}
use Rattle.registry_uses.proofs.PackedLemmas.{same_order, nothing_moves}
use Rattle.registry_uses.proofs.RenewalLemmas.{made_is, new_may_enter, same_live, same_rows}
use Rattle.registry_uses.proofs.RowLemmas.{pair_given, set_is_told}
use Rattle.registry_uses.proofs.SceneLemmas.{is_declared, lawful_after, scene_after, scene_as_before, was_done}
use Rattle.registry_uses.proofs.spawning.spawn.Goals as goal

pub returns-in-Ok-clause-scene : goal.returns-in-Ok-clause-scene
returns-in-Ok-clause-scene g c =
    let made : IsScene c.create.new.self = scene_after c.args.registry.now c.create.new.self Create c.requires refl c.in_ok-entity.ensures.ok in
    scene_after c.create.new.self c.emplace.new.self (Emplace c.in_ok-entity.entity POSITION c.pair_of.result) made refl c.in-Ok.ensures.ok

pub returns-in-Ok-clause-place : goal.returns-in-Ok-clause-place
returns-in-Ok-clause-place g c =
    let lawful = lawful_after c.args.registry.now c.create.new.self Create c.law.ensures.world tt c.in_ok-entity.ensures.ok in
    let row : c.pair_of.result ≡ pair c.args.x c.args.y = c.pair_of.ensures.row ∙ pair_given c.args.x c.args.y c.ranges.x c.ranges.y in
    let done = was_done c.create.new.self c.emplace.new.self (Emplace c.in_ok-entity.entity POSITION c.pair_of.result) c.in-Ok.ensures.ok (ap is_refused c.in-Ok.ensures.reply) in
    set_is_told c.create.new.self c.emplace.new.self c.in_ok-entity.entity POSITION c.pair_of.result (when_present c.create.new.self.world POSITION c.in_ok-entity.entity) lawful done.passes done.world ∙ ap Values row

pub returns-in-Err-clause-scene : goal.returns-in-Err-clause-scene
returns-in-Err-clause-scene g c =
    let made : IsScene c.create.new.self = scene_after c.args.registry.now c.create.new.self Create c.requires refl c.in_ok-entity.ensures.ok in
    scene_after c.emplace.new.self c.destroy.new.self (Destroy c.in_ok-entity.entity) (scene_as_before c.create.new.self c.emplace.new.self made c.in-Err.ensures.err) refl c.destroy.ensures.does

pub returns-in-Err-clause-cause : goal.returns-in-Err-clause-cause
returns-in-Err-clause-cause g c other =
    let made : IsScene c.create.new.self = scene_after c.args.registry.now c.create.new.self Create c.requires refl c.in_ok-entity.ensures.ok in
    let enters = new_may_enter c.args.registry.now.limit c.args.registry.now.world c.create.new.self.world POSITION c.in_ok-entity.entity c.law.ensures.world c.in_ok-entity.ensures.ok.world c.in_ok-entity.ensures.reply (is_declared c.create.new.self POSITION made refl) in
    absurd (none-some c.in-Err.refused (sym enters ∙ c.in-Err.ensures.cause other))

pub returns-in-Err-clause-unchanged : goal.returns-in-Err-clause-unchanged
returns-in-Err-clause-unchanged g c other =
    same_live c.args.registry.now.limit c.emplace.new.self.limit c.args.registry.now.world c.create.new.self.world c.destroy.new.self.world c.in_ok-entity.entity other c.law.ensures.world c.in_ok-entity.ensures.ok.world c.in_ok-entity.ensures.reply
    (c.destroy.ensures.does.world ∙ ap (λ (w : World). (step c.emplace.new.self.limit w (Destroy c.in_ok-entity.entity)).world) c.in-Err.ensures.err.unchanged.world)

pub returns-in-Ok-clause-others : goal.returns-in-Ok-clause-others
returns-in-Ok-clause-others g c other live =
    let lawful = lawful_after c.args.registry.now c.create.new.self Create c.law.ensures.world tt c.in_ok-entity.ensures.ok in
    let still : is_live c.create.new.self.world.slots other ≡ true = ap (λ (w : World). is_live w.slots other) c.in_ok-entity.ensures.ok.world ∙ lives_on c.args.registry.now.limit c.args.registry.now.world Create other c.law.ensures.world live (λ same. cc) in
    ap (λ (w : World). is_live w.slots other) c.in-Ok.ensures.ok.world ∙ lives_on c.create.new.self.limit c.create.new.self.world (Emplace c.in_ok-entity.entity POSITION c.pair_of.result) other lawful still (λ same. cc)

pub returns-in-Ok-clause-does : goal.returns-in-Ok-clause-does
returns-in-Ok-clause-does g c =
    let old = c.args.registry.now in
    let entity = c.in_ok-entity.entity in
    let row : c.pair_of.result ≡ pair c.args.x c.args.y = c.pair_of.ensures.row ∙ pair_given c.args.x c.args.y c.ranges.x c.ranges.y in
    subst (λ (r : Row). DoesAll old c.emplace.new.self (Create ∷ Emplace entity POSITION r ∷ [])) row
    (does_both old c.create.new.self c.emplace.new.self Create (Emplace entity POSITION c.pair_of.result) c.in_ok-entity.ensures.ok c.in-Ok.ensures.ok)

pub returns-in-Err-clause-full : goal.returns-in-Err-clause-full
returns-in-Err-clause-full g c full =
    let made : IsScene c.create.new.self = scene_after c.args.registry.now c.create.new.self Create c.requires refl c.in_ok-entity.ensures.ok in
    let enters = new_may_enter c.args.registry.now.limit c.args.registry.now.world c.create.new.self.world POSITION c.in_ok-entity.entity c.law.ensures.world c.in_ok-entity.ensures.ok.world c.in_ok-entity.ensures.reply (is_declared c.create.new.self POSITION made refl) in
    absurd (none-some c.in-Err.refused (sym enters ∙ c.in-Err.ensures.cause (λ memory. cc)))

pub returns-in-Err-clause-err : goal.returns-in-Err-clause-err
returns-in-Err-clause-err g c =
    let old = c.args.registry.now in
    let entity = c.in_ok-entity.entity in
    let next : entity ≡ next_made old.world = (made_is old.limit old.world entity c.in_ok-entity.ensures.reply).0 in
    let made = does_alone old c.create.new.self c.emplace.new.self Create c.in_ok-entity.ensures.ok c.in-Err.ensures.err in
    inr (subst (λ (q : Entity). DoesAll old c.destroy.new.self (Create ∷ Destroy q ∷ [])) next
    (does_both old c.emplace.new.self c.destroy.new.self Create (Destroy entity) made c.destroy.ensures.does))

pub returns-in-Err-clause-rows : goal.returns-in-Err-clause-rows
returns-in-Err-clause-rows g c =
    same_rows c.args.registry.now.limit c.emplace.new.self.limit c.args.registry.now.world c.create.new.self.world c.destroy.new.self.world c.in_ok-entity.entity c.law.ensures.world c.in_ok-entity.ensures.ok.world c.in_ok-entity.ensures.reply
    (c.destroy.ensures.does.world ∙ ap (λ (w : World). (step c.emplace.new.self.limit w (Destroy c.in_ok-entity.entity)).world) c.in-Err.ensures.err.unchanged.world)

pub returns-in-Err-clause-same_order : goal.returns-in-Err-clause-same_order
returns-in-Err-clause-same_order g c =
    let old = c.args.registry.now in
    let entity = c.in_ok-entity.entity in
    let made : IsScene c.create.new.self = scene_after old c.create.new.self Create c.requires refl c.in_ok-entity.ensures.ok in
    let back : IsScene c.emplace.new.self = scene_as_before c.create.new.self c.emplace.new.self made c.in-Err.ensures.err in
    let stays = c.packing_without_groups.ensures old c.create.new.self Create (λ pool. refl) c.in_ok-entity.ensures.packed in
    let gone = then_ok c.destroy.result c.destroy.ensures.packed (c.packing_without_groups.ensures c.emplace.new.self c.destroy.new.self (Destroy entity) (nothing_moves c.emplace.new.self (Destroy entity) back.groups refl)) in
    same_order old c.emplace.new.self c.destroy.new.self entity c.destroy.result c.law.ensures c.in_ok-entity.ensures.reply (c.in-Err.ensures.err.packed ∙ stays) gone c.destroy.ensures.unchanged

pub returns-in-Ok-clause-refused : goal.returns-in-Ok-clause-refused
returns-in-Ok-clause-refused g c cause is =
    let old = c.args.registry.now in
    absurd (none-some cause (sym (made_is old.limit old.world c.in_ok-entity.entity c.in_ok-entity.ensures.reply).1 ∙ is))

pub returns-in-Err-clause-refused : goal.returns-in-Err-clause-refused
returns-in-Err-clause-refused g c cause is =
    let old = c.args.registry.now in
    absurd (none-some cause (sym (made_is old.limit old.world c.in_ok-entity.entity c.in_ok-entity.ensures.reply).1 ∙ is))

pub returns-in-Ok-clause-packed : goal.returns-in-Ok-clause-packed
returns-in-Ok-clause-packed g c =
    let old = c.args.registry.now in
    let entity = c.in_ok-entity.entity in
    let command = Emplace entity POSITION c.pair_of.result in
    let made : IsScene c.create.new.self = scene_after old c.create.new.self Create c.requires refl c.in_ok-entity.ensures.ok in
    let stays = c.packing_without_groups.ensures old c.create.new.self Create (λ pool. refl) c.in_ok-entity.ensures.packed in
    c.packing_without_groups.ensures c.create.new.self c.emplace.new.self command (nothing_moves c.create.new.self command made.groups refl) c.in-Ok.ensures.packed
    ∙ ap (appended_in POSITION entity) stays
