use Rattle.std.proofs.Common.{◌≢◌, length, [], ap, sym, ◌∙◌, rules}
use Rattle.entity_id.specs.Identifiers.{HasLimits}
use Rattle.entity_id.proofs.FrontLemmas.{same_entity, entity_alone}
use Rattle.entity_id.proofs.text.parse_entity.Goals as goal

pub returns-else-is_empty-clause-none : goal.returns-else-is_empty-clause-none
returns-else-is_empty-clause-none c = λ entity within e.
    let limits : HasLimits c.args.profile = record { index = search rules; version = search rules } in
    let first = c.in_ok-entity.ensures.some in
    let alone = entity_alone c.args.profile entity c.args.text.now within e in
    let same = same_entity c.args.profile c.in_ok-entity.entity entity c.in_ok-entity.rest.now [] limits first.of_profile within first.ended tt (sym first.whole ∙ alone.whole) in
    let some : length c.in_ok-entity.rest.now ≢ 0 = search rules in
    some (ap length same.1)
