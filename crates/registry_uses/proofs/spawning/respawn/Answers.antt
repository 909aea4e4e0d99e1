use Rattle.std.proofs.Common.{◌≡◌, ◌∙◌, true, OnErr, refl, sym, ap}
use Rattle.entity_id.specs.declared.entity.Entity.{Entity}
use Rattle.world_model.specs.declared.command.Command.TheVariants.{Create, Destroy}
use Rattle.world_model.specs.declared.command.Reply.TheVariants.{Truth}
use Rattle.world_model.specs.declared.world.World.{World}
use Rattle.world_model.specs.Orders.{is_refused}
use Rattle.world_model.specs.Slots.{is_live, plain_creation}
use Rattle.world_model.specs.Steps.{step}
use Rattle.world_model.proofs.AcceptedLemmas.{alive}
use Rattle.world_model.proofs.LivingLemmas.{lives_on}
use Rattle.world_model.proofs.ReplyLemmas.{made_is_known}
use Rattle.registry.proofs.ResultLemmas.{if_ok, then_err, then_ok}
use Rattle.registry_uses.specs.Scenes.{IsScene}
use Rattle.registry_uses.proofs.PackedLemmas.{nothing_moves}
use Rattle.registry_uses.proofs.RenewalLemmas.{made_world, never_refused, other_version, renewed, still_dead}
use Rattle.registry_uses.proofs.SequenceLemmas.{does_both}
use Rattle.registry_uses.proofs.SceneLemmas.{always_ok, done_by, if_both, lawful_after, no_refusal, of_destroys, on_both, scene_after, scene_by, was_done}
use Rattle.registry_uses.proofs.spawning.respawn.Goals as goal

pub returns-clause-scene : goal.returns-clause-scene
returns-clause-scene g c =
    let gone : IsScene c.destroy.new.self = scene_after c.args.registry.now c.destroy.new.self (Destroy c.args.entity) c.requires refl c.destroy.ensures.does in
    scene_by c.destroy.new.self c.create.new.self Create c.create.result gone refl c.create.ensures.ok c.create.ensures.err

pub returns-clause-version : goal.returns-clause-version
returns-clause-version g c =
    let old = c.args.registry.now in
    let mid = c.destroy.new.self in
    let done = was_done old mid (Destroy c.args.entity) c.destroy.ensures.does (ap is_refused c.in_ok-destroy.ensures.ok) in
    if_ok c.create.result c.create.ensures.reply (λ made reply same.
    let is = renewed mid.limit old.world c.args.entity made (alive old.world c.args.entity done.passes) (sym (ap (λ (w : World). (step mid.limit w Create).reply) done.world) ∙ reply) in
    other_version old.world.profile c.args.entity.version c.law.ensures.world.profile (sym (ap (λ (e : Entity). e.version) is) ∙ same))

pub returns-clause-live : goal.returns-clause-live
returns-clause-live g c =
    let lawful = lawful_after c.args.registry.now c.destroy.new.self (Destroy c.args.entity) c.law.ensures.world tt c.destroy.ensures.does in
    if_both c.create.result c.create.ensures.ok c.create.ensures.reply (λ made does reply.
    ap Truth (ap (λ (w : World). is_live w.slots made) does.world ∙ (made_is_known c.destroy.new.self.limit c.destroy.new.self.world Create made lawful reply).live))

pub returns-clause-stale : goal.returns-clause-stale
returns-clause-stale g c =
    let old = c.args.registry.now in
    let mid = c.destroy.new.self in
    let done = was_done old mid (Destroy c.args.entity) c.destroy.ensures.does (ap is_refused c.in_ok-destroy.ensures.ok) in
    let never : OnErr c.create.result ⊥ = never_refused old mid c.args.entity c.create.result done c.create.ensures.reuse in
    ap Truth (done_by c.create.result never
    (on_both c.create.result c.create.ensures.ok c.create.ensures.reply (λ made does reply.
    ap (λ (w : World). is_live w.slots c.args.entity) (does.world ∙ made_world mid.limit mid.world made reply)
    ∙ ap (λ (w : World). is_live (plain_creation w.slots w.free).slots c.args.entity) done.world
    ∙ still_dead old.world c.args.entity c.law.ensures.world.profile (alive old.world c.args.entity done.passes))))

pub returns-clause-others : goal.returns-clause-others
returns-clause-others g c other apart live =
    let old = c.args.registry.now in
    let mid = c.destroy.new.self in
    let done = was_done old mid (Destroy c.args.entity) c.destroy.ensures.does (ap is_refused c.in_ok-destroy.ensures.ok) in
    let never : OnErr c.create.result ⊥ = never_refused old mid c.args.entity c.create.result done c.create.ensures.reuse in
    let lawful = lawful_after old mid (Destroy c.args.entity) c.law.ensures.world tt c.destroy.ensures.does in
    let still : is_live mid.world.slots other ≡ true = ap (λ (w : World). is_live w.slots other) c.destroy.ensures.does.world ∙ lives_on old.limit old.world (Destroy c.args.entity) other c.law.ensures.world live (λ same. apart (of_destroys _ _ same)) in
    done_by c.create.result never
    (then_ok c.create.result c.create.ensures.ok (λ does. ap (λ (w : World). is_live w.slots other) does.world ∙ lives_on mid.limit mid.world Create other lawful still (λ same. cc)))

pub returns-clause-does : goal.returns-clause-does
returns-clause-does g c =
    then_ok c.create.result c.create.ensures.ok (λ does. does_both c.args.registry.now c.destroy.new.self c.create.new.self (Destroy c.args.entity) Create c.destroy.ensures.does does)

pub returns-clause-packed : goal.returns-clause-packed
returns-clause-packed g c =
    let old = c.args.registry.now in
    let mid = c.destroy.new.self in
    let gone = c.packing_without_groups.ensures old mid (Destroy c.args.entity) (nothing_moves old (Destroy c.args.entity) c.requires.groups refl) c.in_ok-destroy.ensures.packed in
    then_ok c.create.result c.create.ensures.packed (λ stays. c.packing_without_groups.ensures mid c.create.new.self Create (λ pool. refl) stays ∙ gone)

pub returns-clause-answer : goal.returns-clause-answer
returns-clause-answer g c =
    let old = c.args.registry.now in
    let mid = c.destroy.new.self in
    let done = was_done old mid (Destroy c.args.entity) c.destroy.ensures.does (ap is_refused c.in_ok-destroy.ensures.ok) in
    always_ok c.create.result (never_refused old mid c.args.entity c.create.result done c.create.ensures.reuse)
    ∙ sym (alive old.world c.args.entity done.passes)

pub returns-clause-err : goal.returns-clause-err
returns-clause-err g c =
    let old = c.args.registry.now in
    let mid = c.destroy.new.self in
    let done = was_done old mid (Destroy c.args.entity) c.destroy.ensures.does (ap is_refused c.in_ok-destroy.ensures.ok) in
    no_refusal _ c.create.result (never_refused old mid c.args.entity c.create.result done c.create.ensures.reuse)

pub returns-clause-unchanged : goal.returns-clause-unchanged
returns-clause-unchanged g c =
    let old = c.args.registry.now in
    let mid = c.destroy.new.self in
    let done = was_done old mid (Destroy c.args.entity) c.destroy.ensures.does (ap is_refused c.in_ok-destroy.ensures.ok) in
    then_err c.create.result (never_refused old mid c.args.entity c.create.result done c.create.ensures.reuse) (λ never. absurd never)
