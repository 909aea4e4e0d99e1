use Rattle.std.proofs.Common.{◌++◌, ◌∷◌, [], Some, refl, sym, ap, ◌∙◌, subst}
use Rattle.std.specs.Prelude.{IsTrue, is_some}
use Rattle.std.specs.List.{AllByRecursion}
use Rattle.entity_id.proofs.ListLemmas.{all-append}
use Rattle.tick_runner.proofs.TurnLemmas.{found_more}
use Rattle.tick_runner.proofs.turns.reading.read_all.Goals as goal

pub loop-pool-preserved : goal.loop-pool-preserved
loop-pool-preserved g c =
    let tags = c.args.slots.now in
    record {
      found = c.push.ensures.items ∙ ap (λ ts. ts ++ Some c.read.result ∷ []) c.loop-pool.invariant.found
          ∙ sym (found_more tags c.args.needs.now c.loop-pool.pool-index c.args.pools.now c.read.result c.loop-pool-test.true c.read.ensures.turn);
      there = subst (λ ts. AllByRecursion (λ turn. IsTrue (is_some turn)) ts) (sym c.push.ensures.items)
          (all-append (λ turn. IsTrue (is_some turn)) c.loop-pool.turns.items (Some c.read.result ∷ []) c.loop-pool.invariant.there (refl, tt));
    }
