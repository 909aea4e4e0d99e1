use Rattle.std.proofs.Common.{rules}
use Rattle.entity_id.specs.Identifiers.{HasLimits}
use Rattle.entity_id.proofs.FrontLemmas.{limits_are_null}
use Rattle.entity_id.proofs.text.take_entity.Goals as goal

pub returns-then-entity-profile-2-clause-none : goal.returns-then-entity-profile-2-clause-none
returns-then-entity-profile-2-clause-none c = λ entity rest first.
    let limits : HasLimits c.args.profile = record { index = search rules; version = search rules } in
    limits_are_null c.args.profile c.args.text.now c.in_ok-entity.entity entity c.in_ok-entity.rest.now rest limits c.in_ok-entity.ensures.some c.if-entity-profile.true c.if-entity-profile-2.true (c.in_default.ensures.none rest first.ended) first
