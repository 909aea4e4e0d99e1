use Rattle.std.proofs.Common.{◌≡◌, ◌+◌, List, [], ◌∷◌, take, get_or, slice_get, Some, refl, sym, ap, subst, ◌∙◌, inl, inr, rules, true}
use Rattle.std.proofs.lemmas.List.{take_all, take_more}
use Rattle.std.proofs.lemmas.Option.{none-some, slice_get-get_or}
use Rattle.entity_id.specs.declared.entity.Entity.{Entity}
use Rattle.entity_id.specs.FiniteMap.{AreAscending}
use Rattle.entity_id.specs.FiniteMap as rows
use Rattle.entity_id.specs.Identifiers.{is_same}
use Rattle.entity_id.specs.Matching.{matches}
use Rattle.entity_id.proofs.MatchLemmas.{any-matches}
use Rattle.std.specs.List.{list_any}
use Rattle.world_model.specs.declared.command.Command.TheVariants.{Replace}
use Rattle.world_model.specs.declared.world.World.{World}
use Rattle.world_model.specs.Contents.{keys_of, pool_at, with_pool}
use Rattle.world_model.specs.Orders.{is_refused}
use Rattle.world_model.proofs.KeyLemmas.{ascending_view}
use Rattle.registry.proofs.ResultLemmas.{all_err}
use Rattle.registry_uses.specs.declared.beginning.TheConstants.{POSITION, VELOCITY, FROZEN}
use Rattle.registry_uses.specs.Moving.{is_moving, next_place, IsPartlyMoved}
use Rattle.registry_uses.proofs.MovingLemmas.{HaveMoved, all_moved, among, among_first, some_moved, fresh_at, may_move, moved_more, only_memory}
use Rattle.registry_uses.proofs.SceneLemmas.{is_declared, was_done}
use Rattle.registry_uses.proofs.moving.advance_all.Goals as goal

pub loop-entity-preserved : goal.loop-entity-preserved
loop-entity-preserved g c =
    let old = c.args.registry.now.world in
    let now = c.loop-entity.registry in
    let items : List Entity = c.as_slice-entity-items.result.now in
    let k = c.loop-entity.entity-index in
    let x : Entity = get_or items k (record { index = 0; version = 0 }) in
    let so_far = c.loop-entity.invariant in
    let ascending : AreAscending items = subst AreAscending (sym so_far.listed) (ascending_view c.args.registry.now.limit old (POSITION ∷ VELOCITY ∷ []) (FROZEN ∷ []) c.law.ensures.world) in
    let here : slice_get items k ≡ Some x = slice_get-get_or items k (record { index = 0; version = 0 }) c.loop-entity-test.true in
    let done = was_done now c.advance.new.registry (Replace x POSITION (next_place now.world x)) c.in_ok-advance.ensures.ok (ap is_refused c.in_ok-advance.ensures.reply) in
    record {
      scene = c.in_ok-advance.ensures.scene;
      listed = so_far.listed;
      packed = c.advance.ensures.packed ∙ so_far.packed;
      moved = subst (λ (w : World). HaveMoved old w (take (k + 1) items)) (sym done.world)
          (subst (HaveMoved old (with_pool now.world POSITION (rows.put (pool_at now.world POSITION) x (next_place now.world x)))) (sym (take_more items k (record { index = 0; version = 0 }) c.loop-entity-test.true))
          (moved_more now.limit old now.world (take k items) x c.law-in-loop-entity.ensures.world so_far.moved (fresh_at items k x ascending here) done.passes));
    }

pub returns-clause-ok : goal.returns-clause-ok
returns-clause-ok g c =
    let so_far = c.loop-entity.invariant in
    let whole = take_all c.loop-entity.entity-index c.as_slice-entity-items.result.now c.loop-entity-test.false ∙ so_far.listed in
    let old = c.args.registry.now.world in
    all_moved old c.loop-entity.registry.world (matches (keys_of old) (POSITION ∷ VELOCITY ∷ []) (FROZEN ∷ [])) (subst (HaveMoved old c.loop-entity.registry.world) whole so_far.moved) (any-matches (keys_of old) POSITION (VELOCITY ∷ []) (FROZEN ∷ []))

pub returns-in_err-advance-clause-cause : goal.returns-in_err-advance-clause-cause
returns-in_err-advance-clause-cause g c =
    let old = c.args.registry.now.world in
    let now = c.loop-entity.registry in
    let items : List Entity = c.as_slice-entity-items.result.now in
    let k = c.loop-entity.entity-index in
    let x : Entity = get_or items k (record { index = 0; version = 0 }) in
    let so_far = c.loop-entity.invariant in
    let ascending : AreAscending items = subst AreAscending (sym so_far.listed) (ascending_view c.args.registry.now.limit old (POSITION ∷ VELOCITY ∷ []) (FROZEN ∷ []) c.law.ensures.world) in
    let here : slice_get items k ≡ Some x = slice_get-get_or items k (record { index = 0; version = 0 }) c.loop-entity-test.true in
    let fresh = fresh_at items k x ascending here in
    let moves : is_moving old x ≡ true = sym (any-matches (keys_of old) POSITION (VELOCITY ∷ []) (FROZEN ∷ []) x) ∙ ap (list_any (is_same x)) (sym so_far.listed) ∙ among items k x here in
    let place = may_move c.args.registry.now.limit old now.world (take k items) x POSITION c.law.ensures.world so_far.moved fresh moves (is_declared now POSITION so_far.scene refl) (inl refl) in
    let velocity = may_move c.args.registry.now.limit old now.world (take k items) x VELOCITY c.law.ensures.world so_far.moved fresh moves (is_declared now VELOCITY so_far.scene refl) (inr refl) in
    let cause = only_memory c.in_err-advance.field-0.0 (λ other. elim (c.in_err-advance.ensures.cause other) [
      | inl refused ↦ none-some c.in_err-advance.field-0.0 (sym place ∙ refused)
      | inr refused ↦ none-some c.in_err-advance.field-0.0 (sym velocity ∙ refused)
    ]) in
    search (rules, cause)

pub returns-in_err-advance-clause-err : goal.returns-in_err-advance-clause-err
returns-in_err-advance-clause-err g c =
    let old = c.args.registry.now.world in
    let items : List Entity = c.as_slice-entity-items.result.now in
    let k = c.loop-entity.entity-index in
    let so_far = c.loop-entity.invariant in
    let some = some_moved old c.loop-entity.registry.world (take k items) so_far.moved (λ e there.
    sym (any-matches (keys_of old) POSITION (VELOCITY ∷ []) (FROZEN ∷ []) e) ∙ ap (list_any (is_same e)) (sym so_far.listed) ∙ among_first items k e there) in
    all_err c.from_residual-in_err-advance.result (subst (λ (w : World). IsPartlyMoved old w) (sym c.in_err-advance.ensures.err.unchanged.world) some)
