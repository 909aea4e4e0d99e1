use Rattle.std.proofs.Common.{◌≡◌, Some, Err, sym, ap, ◌∙◌}
use Rattle.std.proofs.lemmas.Option.{same_Some}
use Rattle.group_rules.specs.Families.{same_in}
use Rattle.registry.specs.Layout.{held_of}
use Rattle.world_model.specs.declared.command.Command.TheVariants.{Group}
use Rattle.registry.specs.Held.{refusal_to}
use Rattle.registry.proofs.DoneLemmas.{same}
use Rattle.registry.proofs.GroupingLemmas.{AreOfWorlds, group_found, refusal_is}
use Rattle.registry.proofs.parts.grouping.group_by_ref.Goals as goal

pub returns-in-Ok-Some-clause-ok : goal.returns-in-Ok-Some-clause-ok
returns-in-Ok-Some-clause-ok g c =
    let laws : AreOfWorlds = record { refusals = c.answers_are_those_of_worlds.ensures.refusals; outcomes = c.answers_are_those_of_worlds.ensures.outcomes } in
    let found : same_in c.args.parts.now.groups.decls c.args.decl.now ≡ Some c.in-Ok-Some.number = sym c.in-Ok-Some.ensures.ok ∙ c.in-Ok-Some.field-0-is in
    (group_found c.args.parts.now c.args.decl.now c.in-Ok-Some.number laws c.requires c.in-Ok-Some.ensures.accepted found).does

pub returns-in-Err-clause-err : goal.returns-in-Err-clause-err
returns-in-Err-clause-err g c = same (held_of c.args.parts.now)

pub returns-in-Err-clause-cause : goal.returns-in-Err-clause-cause
returns-in-Err-clause-cause g c =
    let laws : AreOfWorlds = record { refusals = c.answers_are_those_of_worlds.ensures.refusals; outcomes = c.answers_are_those_of_worlds.ensures.outcomes } in
    λ _. refusal_is c.args.parts.now c.args.decl.now laws c.requires ∙ c.in-Err.ensures.refused

pub returns-in-Err-clause-refused : goal.returns-in-Err-clause-refused
returns-in-Err-clause-refused g c =
    let laws : AreOfWorlds = record { refusals = c.answers_are_those_of_worlds.ensures.refusals; outcomes = c.answers_are_those_of_worlds.ensures.outcomes } in
    let is : refusal_to (held_of c.args.parts.now) (Group c.args.decl.now) ≡ Some c.in-Err.refused = refusal_is c.args.parts.now c.args.decl.now laws c.requires ∙ c.in-Err.ensures.refused in
    λ cause at. ap Err (same_Some c.in-Err.refused cause (sym is ∙ at))
