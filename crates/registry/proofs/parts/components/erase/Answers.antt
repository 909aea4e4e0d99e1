use Rattle.std.proofs.Common.{◌≡◌, not, None, sym, ap, ◌∙◌}
use Rattle.world_model.specs.declared.command.Command.TheVariants.{Erase}
use Rattle.world_model.specs.declared.refusal.Refusal.TheVariants as refusal
use Rattle.world_model.specs.Refusing.{refuse}
use Rattle.registry.specs.Held.{refusal_to}
use Rattle.registry.specs.Layout.{held_of}
use Rattle.registry.specs.Spending.{nowhere}
use Rattle.registry.proofs.DoneLemmas.{same, refused, did}
use Rattle.registry.proofs.SpendLemmas.{spends_nothing}
use Rattle.registry.proofs.parts.components.erase.Goals as goal

pub returns-in-Some-clause-does : goal.returns-in-Some-clause-does
returns-in-Some-clause-does g c = (refused (held_of c.args.parts.now) (Erase c.args.entity c.args.pool) c.in-Some.refused (c.in-Some.ensures.cause _)).0

pub returns-in-Some-clause-unchanged : goal.returns-in-Some-clause-unchanged
returns-in-Some-clause-unchanged g c = same (held_of c.args.parts.now)

pub returns-in-None-clause-consistent : goal.returns-in-None-clause-consistent
returns-in-None-clause-consistent g c =
    let fine : refusal_to (held_of c.args.parts.now) (Erase c.args.entity c.args.pool) ≡ None = c.in-None.ensures.cause _ ∙ ap (λ b. refuse (not b) refusal.Absent) (sym c.if-drop_row.ensures.was) in
    (did c.args.parts.now c.drop_row.new.parts (Erase c.args.entity c.args.pool) c.requires tt fine c.if-drop_row.ensures.gone).0

pub returns-in-None-clause-does : goal.returns-in-None-clause-does
returns-in-None-clause-does g c =
    let fine : refusal_to (held_of c.args.parts.now) (Erase c.args.entity c.args.pool) ≡ None = c.in-None.ensures.cause _ ∙ ap (λ b. refuse (not b) refusal.Absent) (sym c.if-drop_row.ensures.was) in
    (did c.args.parts.now c.drop_row.new.parts (Erase c.args.entity c.args.pool) c.requires tt fine c.if-drop_row.ensures.gone).1

pub returns-in-Some-clause-spends : goal.returns-in-Some-clause-spends
returns-in-Some-clause-spends g c = spends_nothing nowhere nowhere (held_of c.args.parts.now)
