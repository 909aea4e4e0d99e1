use Rattle.std.proofs.Common.{◌++◌, ◌∷◌, [], take, get_or, length, Some, sym, ap, ◌∙◌, subst, arith}
use Rattle.std.specs.List.{AllZip}
use Rattle.std.proofs.lemmas.List.{length-map, length-take}
use Rattle.system_api.specs.declared.lent.LentPool.{LentPool}
use Rattle.tick_runner.proofs.ListLemmas.{all_zip_length, all_zip_more}
use Rattle.tick_runner.specs.Turns.{IsOf, turn_found}
use Rattle.tick_runner.proofs.TurnLemmas.{found_more, turn_number}
use Rattle.tick_runner.proofs.turns.writing.write_all.Goals as goal

pub add_write-requires : goal.add_write-requires
add_write-requires g c =
    let k = c.loop-pool.pool-index in
    let each = all_zip_length (IsOf g.F.PoolFact.admits) c.loop-pool.places.items c.loop-pool.lent.writes c.loop-pool.invariant.writes in
    let many = ap length c.loop-pool.invariant.places ∙ length-map (take k c.args.list.now) (turn_found c.args.slots.now c.args.needs.now) ∙ length-take k c.args.list.now in
    omega (arith, each, many, c.loop-pool-test.true, c.requires.few)

pub loop-pool-preserved : goal.loop-pool-preserved
loop-pool-preserved g c =
    let k = c.loop-pool.pool-index in
    let tags = c.args.slots.now in
    let needs = c.args.needs.now in
    let n = get_or c.args.list.now k 0 in
    let turn = c.write-place.result in
    let said = c.write-place.ensures in
    let pool : LentPool = record { number = n; storage = turn.storage } in
    let admits = g.F.PoolFact.admits in
    record {
      places = c.push.ensures.items ∙ ap (λ ts. ts ++ Some turn.place ∷ []) c.loop-pool.invariant.places ∙ sym (found_more tags needs k c.args.list.now turn.place c.loop-pool-test.true said.place);
      writes = subst (λ ts. AllZip (IsOf admits) ts c.add_write.new.self.writes) (sym c.push.ensures.items)
          (subst (λ (ws : _). AllZip (IsOf admits) (c.loop-pool.places.items ++ Some turn.place ∷ []) ws) (sym c.add_write.ensures.writes)
          (all_zip_more (IsOf admits) c.loop-pool.places.items c.loop-pool.lent.writes (Some turn.place) pool c.loop-pool.invariant.writes (record {
            number = sym (turn_number tags n (get_or needs n 0) turn.place c.requires.numbered said.place);
            admitted = said.admitted;
            shape = said.shape;
          })));
      reads = c.add_write.ensures.reads ∙ c.loop-pool.invariant.reads;
      prefix = c.add_write.ensures.prefix ∙ c.loop-pool.invariant.prefix;
    }
