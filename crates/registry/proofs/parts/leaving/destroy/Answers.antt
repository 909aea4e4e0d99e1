use Rattle.std.proofs.Common.{◌≡◌, not, None, true, length, sym, ap, ◌∙◌, arith, length-set}
use Rattle.world_model.specs.declared.command.Command.TheVariants.{Destroy}
use Rattle.world_model.specs.declared.refusal.Refusal.TheVariants as refusal
use Rattle.world_model.specs.Refusing.{refuse}
use Rattle.world_model.specs.Slots.{is_live}
use Rattle.registry.specs.Held.{refusal_to}
use Rattle.registry.specs.Layout.{held_of}
use Rattle.std.proofs.lemmas.List.{length-map}
use Rattle.entity_id.specs.FiniteMap as entries
use Rattle.storage.specs.Stored.{Stored}
use Rattle.world_model.specs.declared.component.Row.{Row}
use Rattle.registry.proofs.DestroyLemmas.{destroyed}
use Rattle.registry.specs.Spending.{nowhere}
use Rattle.registry.proofs.SpendLemmas.{no_events, spends_nothing}
use Rattle.registry.proofs.DoneLemmas.{same, refused, did}
use Rattle.registry.proofs.ResultLemmas.{on_ok}
use Rattle.registry.proofs.parts.leaving.destroy.Goals as goal

pub returns-then-not-valid-clause-does : goal.returns-then-not-valid-clause-does
returns-then-not-valid-clause-does g c =
    (refused (held_of c.args.parts.now) (Destroy c.args.entity) refusal.Dead (ap (λ b. refuse (not b) refusal.Dead) (sym c.if-not-valid.ensures))).0

pub returns-then-not-valid-clause-unchanged : goal.returns-then-not-valid-clause-unchanged
returns-then-not-valid-clause-unchanged g c = same (held_of c.args.parts.now)

pub returns-clause-steps : goal.returns-clause-steps
returns-clause-steps g c = c.leave_all.ensures.steps

pub returns-clause-packed : goal.returns-clause-packed
returns-clause-packed g c = record {
  each = length-map c.leave_all.new.pools.items (λ (s : Stored Row). entries.keys s.pairs) ∙ c.leave_all.ensures.pool_each ∙ sym (length-map c.args.parts.now.pools.items (λ (s : Stored Row). entries.keys s.pairs));
  lists = c.leave_all.ensures.packed;
}

pub returns-clause-consistent : goal.returns-clause-consistent
returns-clause-consistent g c =
    let old = c.args.parts.now in
    let live : is_live old.slots.slots c.args.entity ≡ true = sym c.if-not-valid.ensures in
    let fine : refusal_to (held_of old) (Destroy c.args.entity) ≡ None = ap (λ b. refuse (not b) refusal.Dead) live in
    let lists = on_ok c.destroy.result (c.destroy.ensures.live ∙ live) c.destroy.ensures.lists in
    let all = c.leave_all.ensures in
    (did old _ (Destroy c.args.entity) c.requires tt fine (destroyed old c.destroy.new.self c.leave_all.new.pools c.leave_all.new.groups c.leave_all.new.signals c.args.entity c.requires lists all.maps all.hearings all.signal_each all.room all.groups)).0

pub returns-clause-does : goal.returns-clause-does
returns-clause-does g c =
    let old = c.args.parts.now in
    let live : is_live old.slots.slots c.args.entity ≡ true = sym c.if-not-valid.ensures in
    let fine : refusal_to (held_of old) (Destroy c.args.entity) ≡ None = ap (λ b. refuse (not b) refusal.Dead) live in
    let lists = on_ok c.destroy.result (c.destroy.ensures.live ∙ live) c.destroy.ensures.lists in
    let all = c.leave_all.ensures in
    (did old _ (Destroy c.args.entity) c.requires tt fine (destroyed old c.destroy.new.self c.leave_all.new.pools c.leave_all.new.groups c.leave_all.new.signals c.args.entity c.requires lists all.maps all.hearings all.signal_each all.room all.groups)).1

pub returns-then-not-valid-clause-spends : goal.returns-then-not-valid-clause-spends
returns-then-not-valid-clause-spends g c = spends_nothing nowhere nowhere (held_of c.args.parts.now)

pub returns-clause-spends : goal.returns-clause-spends
returns-clause-spends g c =
    let old = c.args.parts.now in
    let live : is_live old.slots.slots c.args.entity ≡ true = sym c.if-not-valid.ensures in
    let lists = on_ok c.destroy.result (c.destroy.ensures.live ∙ live) c.destroy.ensures.lists in
    let long : length c.destroy.new.self.slots ≡ length old.slots.slots = ap length lists.slots ∙ length-set old.slots.slots c.args.entity.index _ in
    record {
      slots = omega (arith, long, c.destroy.ensures.spare);
      rows = c.leave_all.ensures.spends;
      construct = no_events nowhere old.construct.items;
      update = no_events nowhere old.update.items;
    }
