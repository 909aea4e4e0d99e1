use Rattle.std.proofs.Common.{◌≡◌, ◌++◌, ◌∷◌, [], length, sym, ap, ◌∙◌, subst, arith, get_or, set}
use Rattle.std.proofs.lemmas.List.{length-set, take_more, length-map, length-take}
use Rattle.storage.specs.Stored.{Stored}
use Rattle.world_model.specs.declared.component.Row.{Row}
use Rattle.system_api.specs.declared.lent.LentPool.{LentPool}
use Rattle.system_api.specs.Registers.{numbers}
use Rattle.tick_runner.specs.Putting.{put_back}
use Rattle.tick_runner.proofs.ListLemmas.{declared_at}
use Rattle.tick_runner.proofs.PutLemmas.{put_back-taken, numbers-snoc}
use Rattle.tick_runner.proofs.lending.lend_written.Goals as goal

pub index_mut-requires : goal.index_mut-requires
index_mut-requires c =
    let low = declared_at (length c.args.pools.now.items) c.args.list.now c.loop-number.number-index 0 c.requires.declared c.loop-number-test.true in
    omega (arith, low, c.loop-number.invariant.count)

pub add_write-requires : goal.add_write-requires
add_write-requires c =
    omega (arith, length-map c.loop-number.lent.writes (λ (pool : LentPool). pool.number), ap length c.loop-number.invariant.numbers, length-take c.loop-number.number-index c.args.list.now, c.requires.few, c.loop-number-test.true)

pub loop-number-preserved : goal.loop-number-preserved
loop-number-preserved c =
    let k = c.loop-number.number-index in
    let n = get_or c.args.list.now k 0 in
    let s = c.replace-storage.result in
    let w : LentPool = record { number = n; storage = s } in
    let is : s ≡ get_or c.loop-number.pools.items n s = subst (λ (x : Stored Row). x ≡ get_or c.loop-number.pools.items n x) (sym c.replace-storage.ensures.value) c.index_mut.ensures.value in
    record {
      count = length-set _ _ _ ∙ c.loop-number.invariant.count;
      numbers = ap numbers c.add_write.ensures.writes ∙ numbers-snoc c.loop-number.lent.writes w ∙ ap (λ ns. ns ++ n ∷ []) c.loop-number.invariant.numbers ∙ sym (take_more c.args.list.now k 0 c.loop-number-test.true);
      reads = c.add_write.ensures.reads ∙ c.loop-number.invariant.reads;
      prefix = c.add_write.ensures.prefix ∙ c.loop-number.invariant.prefix;
      back = ap (λ ws. put_back ws (set c.loop-number.pools.items n c.replace-storage.new.dest)) c.add_write.ensures.writes ∙ put_back-taken c.loop-number.lent.writes c.loop-number.pools.items w c.replace-storage.new.dest is ∙ c.loop-number.invariant.back;
    }
