use Rattle.std.proofs.Common.{◌≡◌, length, subst, arith}
use Rattle.entity_id.specs.FiniteMap as entries
use Rattle.storage.specs.Stored.{Stored}
use Rattle.world_model.specs.declared.component.Row.{Row}
use Rattle.system_api.specs.Registers.{pool_at}
use Rattle.system_eval.specs.Walks.{own_lent}
use Rattle.system_eval.proofs.CoverLemmas.{once-keys, once-take, length-keys}
use Rattle.system_eval.proofs.walk.batch.find_batch.Goals as goal

pub returns-clause-once : goal.returns-clause-once
returns-clause-once c =
    let stored = (pool_at (own_lent (length c.args.access.now.read) c.args.lent.now) c.args.at).storage in
    let walked = subst (λ reads. c.own_pool-walked.result.now ≡ (pool_at (own_lent (length reads) c.args.lent.now) c.args.at).storage) c.as_slice-reads.ensures c.own_pool-walked.ensures in
    let once : entries.HasEachOnce stored.pairs = subst (λ (s : Stored Row). entries.HasEachOnce s.pairs) walked c.index-index.ensures.once in
    once-take c.args.end (entries.keys stored.pairs) (omega (arith, c.requires.end, length-keys stored.pairs)) (once-keys stored.pairs once)
