use Rattle.std.proofs.Common.{rules, ◌≡◌, ◌≢◌, ℕ, ◌<◌, ◌&&◌, List, [], length, sym, ◌∙◌, subst, arith, get_or, slice_set, get_or-set_other, get_or-set_same, below_more}
use Rattle.std.specs.Prelude.{IsTrue}
use Rattle.std.proofs.lemmas.Bool.{and_parts}
use Rattle.world_model.specs.declared.component.Row.{Row}
use Rattle.storage.specs.Stored.{Stored}
use Rattle.system_api.specs.Batches.{lanes, entity_at, is_marked}
use Rattle.system_api.specs.Registers.{pool_at}
use Rattle.system_eval.specs.Finding.{has_lane, AreLocated, AreLoaded}
use Rattle.system_eval.specs.Walks.{own_lent}
use Rattle.system_eval.proofs.LaneLemmas.{marked-more, own-length}
use Rattle.system_eval.proofs.walk.own.find_own.Goals as goal

pub loop-at-preserved : goal.loop-at-preserved
loop-at-preserved c =
    let reads = c.args.reads in
    let lent = c.args.lent.now in
    let at = c.loop-at.at in
    let own = own_lent reads lent in
    let entities = c.args.entities.now in
    let inv = c.loop-at.invariant in
    let before = λ (lane : ℕ) (low : lane < lanes) (marked : IsTrue (is_marked c.find_one.new.marks lane)). (and_parts (is_marked c.loop-at.marks lane) (has_lane entities c.own_pool.result.now lane) (sym (c.find_one.ensures.marks lane low) ∙ marked)).0 in
    let within_places : at < length c.loop-at.places = omega (arith, c.requires.places, inv.many_places, c.loop-at-test.true, c.writes.ensures) in
    let within_columns : at < length c.loop-at.columns = omega (arith, c.requires.columns, inv.many_columns, c.loop-at-test.true, c.writes.ensures) in
    record {
      many_places = search rules;
      many_columns = search rules;
      marked = λ lane low. marked-more (is_marked c.args.marks.now lane) (is_marked c.loop-at.marks lane) (is_marked c.find_one.new.marks lane) (entity_at entities lane) reads lent at
          (omega (arith, own-length reads lent c.requires.reads, c.loop-at-test.true, c.writes.ensures))
          (subst (λ (s : Stored Row). is_marked c.find_one.new.marks lane ≡ (is_marked c.loop-at.marks lane && has_lane entities s lane)) c.own_pool.ensures (c.find_one.ensures.marks lane low))
          (inv.marked lane low);
      located = below_more (λ k. AreLocated c.find_one.new.marks entities (pool_at own k).storage (get_or (slice_set c.loop-at.places at c.find_one.new.places) k [])) at
          (λ k less lane low marked.
          let ne : k ≢ at = omega (arith, less) in
          subst (λ (ps : List ℕ). AreLocated c.loop-at.marks entities (pool_at own k).storage ps) (sym (get_or-set_other c.loop-at.places at k c.find_one.new.places [] ne)) (inv.located k less) lane low (before lane low marked))
          (subst (λ (ps : List ℕ). AreLocated c.find_one.new.marks entities (pool_at own at).storage ps) (sym (get_or-set_same c.loop-at.places at c.find_one.new.places [] within_places))
          (subst (λ (s : Stored Row). AreLocated c.find_one.new.marks entities s c.find_one.new.places) c.own_pool.ensures c.find_one.ensures.places));
      loaded = below_more (λ k. AreLoaded c.find_one.new.marks entities (pool_at own k).storage (get_or (slice_set c.loop-at.columns at c.find_one.new.column) k [])) at
          (λ k less lane low marked.
          let ne : k ≢ at = omega (arith, less) in
          subst (λ (column : List Row). AreLoaded c.loop-at.marks entities (pool_at own k).storage column) (sym (get_or-set_other c.loop-at.columns at k c.find_one.new.column [] ne)) (inv.loaded k less) lane low (before lane low marked))
          (subst (λ (column : List Row). AreLoaded c.find_one.new.marks entities (pool_at own at).storage column) (sym (get_or-set_same c.loop-at.columns at c.find_one.new.column [] within_columns))
          (subst (λ (s : Stored Row). AreLoaded c.find_one.new.marks entities s c.find_one.new.column) c.own_pool.ensures c.find_one.ensures.rows));
    }
