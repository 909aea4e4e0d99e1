use Rattle.std.proofs.Common.{◌≡◌, ◌+◌, List, length, ◌∙◌, subst, arith}
use Rattle.entity_id.specs.declared.entity.Entity.{Entity}
use Rattle.system_eval.specs.Walks.{walked_in, Rewrites, Gives, AreOnce}
use Rattle.system_eval.proofs.CoverLemmas.{walked-count}
use Rattle.system_eval.proofs.LaneLemmas.{walked-same}
use Rattle.system_eval.proofs.PieceLemmas.{rewrites-both, gives-both, rewrites-end, gives-end}
use Rattle.system_eval.proofs.walk.walk.Goals as goal

pub loop-from-preserved : goal.loop-from-preserved
loop-from-preserved c =
    let task = c.args.task.now in
    let reads = length task.system.access.read in
    let r0 = c.args.lent.now in
    let r1 = c.loop-from.lent in
    let r2 = c.run_batch.new.lent in
    let from = c.loop-from.from in
    let inv = c.loop-from.invariant in
    let list = walked_in reads r0 c.args.at c.args.end in
    let same : walked_in reads r1 c.args.at c.args.end ≡ list = walked-same reads r0 r1 c.args.at c.args.end inv.rewrites.pools in
    let once : AreOnce list = subst (λ (es : List Entity). AreOnce es) same c.run_batch.ensures.once in
    let rows : Rewrites task list from (from + 64) r1 r2 = subst (λ (es : List Entity). Rewrites task es from (from + 64) r1 r2) same c.run_batch.ensures.rows in
    let orders : Gives task list from (from + 64) r1 c.loop-from.out.list c.run_batch.new.out.list = subst (λ (es : List Entity). Gives task es from (from + 64) r1 c.loop-from.out.list c.run_batch.new.out.list) same c.run_batch.ensures.orders in
    record {
      many_places = c.run_batch.ensures.places ∙ inv.many_places;
      many_columns = c.run_batch.ensures.columns ∙ inv.many_columns;
      rewrites = rewrites-both task list once 0 from (from + 64) (omega arith) (omega arith) r0 r1 r2 inv.rewrites.pools inv.rewrites rows;
      gives = gives-both task list once 0 from (from + 64) (omega arith) (omega arith) r0 r1 r2 inv.rewrites.pools c.args.out.now.list c.loop-from.out.list c.run_batch.new.out.list inv.rewrites inv.gives orders;
      spare = c.run_batch.ensures.spare ∙ inv.spare;
      room = c.run_batch.ensures.room;
    }

pub returns-clause-rows : goal.returns-clause-rows
returns-clause-rows c =
    let task = c.args.task.now in
    let list = walked_in (length task.system.access.read) c.args.lent.now c.args.at c.args.end in
    let long : length list ≡ c.args.end = walked-count (length task.system.access.read) c.args.lent.now c.args.at c.args.end c.requires.end in
    rewrites-end task list 0 c.loop-from.from c.args.end (omega (arith, long)) (omega (arith, c.loop-from-test.false)) c.args.lent.now c.loop-from.lent c.loop-from.invariant.rewrites

pub returns-clause-orders : goal.returns-clause-orders
returns-clause-orders c =
    let task = c.args.task.now in
    let list = walked_in (length task.system.access.read) c.args.lent.now c.args.at c.args.end in
    let long : length list ≡ c.args.end = walked-count (length task.system.access.read) c.args.lent.now c.args.at c.args.end c.requires.end in
    gives-end task list 0 c.loop-from.from c.args.end (omega (arith, long)) (omega (arith, c.loop-from-test.false)) c.args.lent.now c.args.out.now.list c.loop-from.out.list c.loop-from.invariant.gives
