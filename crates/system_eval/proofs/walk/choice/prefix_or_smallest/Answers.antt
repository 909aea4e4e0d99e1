use Rattle.std.proofs.Common.{◌≡◌, ℕ, Option, Some, sym, ◌∙◌, subst}
use Rattle.std.specs.Prelude.{IfSome}
use Rattle.system_api.specs.Registers.{HasMembersFirst}
use Rattle.system_eval.proofs.ChoiceLemmas.{chosen-prefix, chosen-whole}
use Rattle.system_eval.proofs.walk.choice.prefix_or_smallest.Goals as goal

pub returns-in_default-clause-chosen : goal.returns-in_default-clause-chosen
returns-in_default-clause-chosen c = λ maps shows.
    chosen-whole c.args.access.now c.args.lent.now c.as_slice-reads.result.now maps c.smallest_own.result.at c.smallest_own.result.end c.as_slice-reads.ensures c.requires.pools shows c.requires.some
    c.smallest_own.ensures.at c.smallest_own.ensures.end c.smallest_own.ensures.least

pub returns-in-Some-own_place-clause-chosen : goal.returns-in-Some-own_place-clause-chosen
returns-in-Some-own_place-clause-chosen c = λ maps shows.
    let access = c.args.access.now in
    let prefix : c.args.lent.now.prefix ≡ Some (c.in-Some.pool, c.in-Some.count) = sym c.prefix.ensures ∙ c.in-Some.is in
    let first : HasMembersFirst access maps c.args.lent.now c.in-Some.pool c.in-Some.count =
    subst (λ (o : Option (ℕ × ℕ)). IfSome o (λ p. HasMembersFirst access maps c.args.lent.now p.0 p.1)) prefix (c.requires.prefix maps shows) in
    chosen-prefix access c.args.lent.now maps c.in-Some.pool c.in-Some.count c.in-Some-own_place.at c.requires.some first (c.in-Some-own_place.ensures.pool c.args.lent.now c.requires.pools)

pub returns-in-None-clause-chosen : goal.returns-in-None-clause-chosen
returns-in-None-clause-chosen c = λ maps shows.
    chosen-whole c.args.access.now c.args.lent.now c.as_slice-reads.result.now maps c.smallest_own-in-None.result.at c.smallest_own-in-None.result.end c.as_slice-reads.ensures c.requires.pools shows c.requires.some
    c.smallest_own-in-None.ensures.at c.smallest_own-in-None.ensures.end c.smallest_own-in-None.ensures.least
