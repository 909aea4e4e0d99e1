use Rattle.std.proofs.Common.{ℕ, ◌<◌, length, ◌∙◌, subst, rules}
use Rattle.std.proofs.lemmas.List.{length-set}
use Rattle.std.proofs.lemmas.Option.{slice_get_within}
use Rattle.pool_slots.specs.Tags.{IsAdmitted}
use Rattle.pool_slots.proofs.TagLemmas.{set_more}
use Rattle.pool_slots.proofs.slots.Slots.close.Goals as goal

pub loop-pool-preserved : goal.loop-pool-preserved
loop-pool-preserved g c =
    let k = c.loop-pool.pool in
    let pools = c.loop-pool.pools.items in
    let got = c.take_for_good.result in
    let low : k < length pools = search rules in
    record {
      each = length-set pools k got ∙ c.loop-pool.invariant.each;
      back = set_more (IsAdmitted g.F.PoolFact.admits c.args.self) pools k got low c.take_for_good.ensures c.loop-pool.invariant.back;
    }

pub returns-clause-back : goal.returns-clause-back
returns-clause-back g c = λ pool stored at.
    c.loop-pool.invariant.back pool stored (subst (λ (n : ℕ). pool < n) (search rules) (slice_get_within c.loop-pool.pools.items pool stored at)) at
