use Rattle.std.proofs.Common.{◌≡◌, ◌++◌, ◌∷◌, [], List, Some, length, take, sym, ap, ◌∙◌, subst, arith, get_or, slice_get, append_assoc}
use Rattle.std.specs.List.{AllByRecursion}
use Rattle.std.proofs.lemmas.List.{take_more, length-map, length-take, length-append}
use Rattle.std.proofs.lemmas.Option.{slice_get-get_or}
use Rattle.entity_id.proofs.ListLemmas.{all-append}
use Rattle.system_api.specs.declared.lent.LentPool.{LentPool}
use Rattle.system_api.specs.Registers.{numbers}
use Rattle.tick_runner.specs.Putting.{IsPoolOf}
use Rattle.tick_runner.proofs.ListLemmas.{declared_at}
use Rattle.tick_runner.proofs.PutLemmas.{numbers-snoc}
use Rattle.tick_runner.proofs.lending.lend_list.Goals as goal

pub bounds-pools-number : goal.bounds-pools-number
bounds-pools-number c = declared_at (length c.args.pools.now) c.args.list.now c.loop-number.number-index 0 c.requires.declared c.loop-number-test.true

pub add_read-requires : goal.add_read-requires
add_read-requires c =
    let numbered = ap length c.loop-number.invariant.numbers in
    omega (
      arith,
      numbered,
      length-map c.loop-number.lent.reads (λ (pool : LentPool). pool.number),
      length-map c.args.lent.now.reads (λ (pool : LentPool). pool.number),
      length-append (numbers c.args.lent.now.reads) (take c.loop-number.number-index c.args.list.now),
      length-take c.loop-number.number-index c.args.list.now,
      c.requires.few,
      c.loop-number-test.true,
    )

pub loop-number-preserved : goal.loop-number-preserved
loop-number-preserved c =
    let k = c.loop-number.number-index in
    let n = get_or c.args.list.now k 0 in
    let s = c.index-pools-number.result in
    let w : LentPool = record { number = n; storage = s } in
    let low = declared_at (length c.args.pools.now) c.args.list.now k 0 c.requires.declared c.loop-number-test.true in
    let here : slice_get c.args.pools.now n ≡ Some s = slice_get-get_or c.args.pools.now n s low ∙ ap Some (sym c.index-pools-number.is) in
    record {
      numbers = ap numbers c.add_read.ensures.reads ∙ numbers-snoc c.loop-number.lent.reads w ∙ ap (λ ns. ns ++ n ∷ []) c.loop-number.invariant.numbers
          ∙ append_assoc (numbers c.args.lent.now.reads) (take k c.args.list.now) (n ∷ []) ∙ ap (λ ns. numbers c.args.lent.now.reads ++ ns) (sym (take_more c.args.list.now k 0 c.loop-number-test.true));
      reads = subst (λ (reads : List LentPool). AllByRecursion (IsPoolOf c.args.pools.now) reads) (sym c.add_read.ensures.reads) (all-append (IsPoolOf c.args.pools.now) c.loop-number.lent.reads (w ∷ []) c.loop-number.invariant.reads (here, tt));
      writes = c.add_read.ensures.writes ∙ c.loop-number.invariant.writes;
      prefix = c.add_read.ensures.prefix ∙ c.loop-number.invariant.prefix;
    }
