use Rattle.std.proofs.Common.{◌≡◌, ◌≢◌, ℕ, ◌+◌, ◌≤◌, ◌<◌, ◌++◌, ◌∷◌, [], List, length, map, take, set, get_or, Option, Some, None, slice_get, refl, sym, ap, ap₂, ◌∙◌, subst, arith, add-one, take_all, le_refl}
use Rattle.std.proofs.lemmas.List.{take_more, map-append, length-set}
use Rattle.std.proofs.lemmas.Option.{slice_get-get_or, slice_get_read}
use Rattle.entity_id.specs.FiniteMap as entries
use Rattle.entity_id.proofs.ListLemmas.{slice_get-set_other}
use Rattle.system_api.specs.Emissions.{Emissions}
use Rattle.system_api.specs.Running.{sizes_of}
use Rattle.world_model.specs.Frames.{IsLawfulAccess}
use Rattle.world_model.specs.Ticks.{maps_after_systems, orders_of}
use Rattle.registry.specs.Layout.{maps_of}
use Rattle.tick_runner.specs.Running.{orders_in, IsReady}
use Rattle.tick_runner.proofs.FoldLemmas.{rows-snoc, orders-snoc}
use Rattle.tick_runner.proofs.ListLemmas.{all_zip_length, all_zip_at, take_set}
use Rattle.tick_runner.proofs.RunLemmas.{same_sizes}
use Rattle.tick_runner.proofs.PutLemmas.{shape_count}
use Rattle.tick_runner.specs.Walking.{IsPrefixFor}
use Rattle.tick_runner.proofs.WalkLemmas.{prefix_again}
use Rattle.tick_runner.proofs.running.run_all.Goals as goal

pub index_mut-requires : goal.index_mut-requires
index_mut-requires g c =
    let each = all_zip_length (λ system buffer. IsReady (g.S.System.limit system (sizes_of (maps_of c.args.pools.now.items))) buffer) c.args.systems.now c.args.buffers.now.items c.requires.ready in
    omega (arith, each, c.loop-place.invariant.each, c.loop-place-test.true)

pub run_one-requires-clause-lists : goal.run_one-requires-clause-lists
run_one-requires-clause-lists g c =
    let place = c.loop-place.place in
    let s = c.index-systems-place.result in
    let at : slice_get c.args.systems.now place ≡ Some s = slice_get_read c.args.systems.now (length c.args.systems.now) place s refl c.loop-place-test.true c.index-systems-place.is in
    subst (λ n. IsLawfulAccess n (g.S.System.lists s)) (sym c.loop-place.invariant.count) (c.requires.lists place s at)

pub run_one-requires-clause-prefix : goal.run_one-requires-clause-prefix
run_one-requires-clause-prefix g c =
    let place = c.loop-place.place in
    let systems = c.args.systems.now in
    let prefixes = c.args.prefixes.now in
    let old = c.args.pools.now.items in
    let now = c.loop-place.pools.items in
    let lists = g.S.System.lists in
    let s = c.index-systems-place.result in
    let known : Option (ℕ × ℕ) = get_or prefixes place None in
    let each = all_zip_length (λ system prefix. IsPrefixFor (lists system) old prefix) systems prefixes c.requires.prefixes in
    let low : place < length prefixes = omega (arith, each, c.loop-place-test.true) in
    let at : slice_get systems place ≡ Some s = slice_get_read systems (length systems) place s refl c.loop-place-test.true c.index-systems-place.is in
    let begins : IsPrefixFor (lists s) old known = all_zip_at (λ system prefix. IsPrefixFor (lists system) old prefix) systems prefixes place s known c.requires.prefixes at (slice_get-get_or prefixes place None low) in
    subst (λ (prefix : Option (ℕ × ℕ)). IsPrefixFor (lists s) now prefix) (sym c.prefix_at.ensures) (prefix_again (lists s) now old known c.loop-place.invariant.shapes c.loop-place.invariant.keys begins)

pub run_one-requires-clause-ready : goal.run_one-requires-clause-ready
run_one-requires-clause-ready g c =
    let place = c.loop-place.place in
    let systems = c.args.systems.now in
    let old = maps_of c.args.pools.now.items in
    let s = c.index-systems-place.result in
    let b : Emissions = c.index_mut.result.now in
    let limit = g.S.System.limit in
    let each = all_zip_length (λ system buffer. IsReady (limit system (sizes_of old)) buffer) systems c.args.buffers.now.items c.requires.ready in
    let at : slice_get systems place ≡ Some s = slice_get_read systems (length systems) place s refl c.loop-place-test.true c.index-systems-place.is in
    let low : place < length c.loop-place.buffers.items = omega (arith, each, c.loop-place.invariant.each, c.loop-place-test.true) in
    let here : slice_get c.loop-place.buffers.items place ≡ Some b = slice_get_read c.loop-place.buffers.items (length c.loop-place.buffers.items) place b refl low c.index_mut.ensures.value in
    let first : slice_get c.args.buffers.now.items place ≡ Some b = sym (c.loop-place.invariant.rest place (le_refl place)) ∙ here in
    let ready : IsReady (limit s (sizes_of old)) b = all_zip_at (λ system buffer. IsReady (limit system (sizes_of old)) buffer) systems c.args.buffers.now.items place s b c.requires.ready at first in
    subst (λ (sizes : List ℕ). IsReady (limit s sizes) b) (same_sizes old (maps_of c.loop-place.pools.items) (sym c.loop-place.invariant.keys)) ready

pub loop-place-preserved : goal.loop-place-preserved
loop-place-preserved g c =
    let k = c.loop-place.place in
    let systems = c.args.systems.now in
    let s = c.index-systems-place.result in
    let tick = c.args.tick in
    let effect = g.S.System.effect in
    let old = maps_of c.args.pools.now.items in
    let mid = maps_of c.loop-place.pools.items in
    let buffers = c.loop-place.buffers.items in
    let out = c.run_one.new.out in
    let front = map effect (take k systems) in
    let each = all_zip_length (λ system buffer. IsReady (g.S.System.limit system (sizes_of old)) buffer) systems c.args.buffers.now.items c.requires.ready in
    let more : map effect (take (k + 1) systems) ≡ front ++ effect s ∷ [] =
    ap (map effect) (take_more systems k s c.loop-place-test.true ∙ ap (λ x. take k systems ++ x ∷ []) (sym c.index-systems-place.is)) ∙ map-append effect (take k systems) (s ∷ []) in
    let low : k < length buffers = omega (arith, each, c.loop-place.invariant.each, c.loop-place-test.true) in
    let filled : take (k + 1) (set buffers k out) ≡ take k buffers ++ out ∷ [] = ap (λ n. take n (set buffers k out)) (add-one k) ∙ take_set buffers k out low in
    let made : orders_in out ≡ (effect s tick (maps_after_systems front tick old)).orders = c.run_one.ensures.orders ∙ ap (λ m. (effect s tick m).orders) c.loop-place.invariant.rows in
    record {
      rows = c.run_one.ensures.rows ∙ ap (λ m. (effect s tick m).maps) c.loop-place.invariant.rows ∙ sym (ap (λ fs. maps_after_systems fs tick old) more ∙ rows-snoc front (effect s) tick old);
      keys = ap (map entries.keys) c.run_one.ensures.rows ∙ (g.met.S.System.frame s).identifiers tick mid ∙ c.loop-place.invariant.keys;
      shapes = c.run_one.ensures.shapes ∙ c.loop-place.invariant.shapes;
      count = shape_count c.run_one.new.pools.items c.loop-place.pools.items c.run_one.ensures.shapes ∙ c.loop-place.invariant.count;
      list = c.run_one.ensures.list;
      room = c.run_one.ensures.room;
      each = length-set buffers k out ∙ c.loop-place.invariant.each;
      orders = ap (map orders_in) filled ∙ map-append orders_in (take k buffers) (out ∷ []) ∙ ap₂ (λ ls o. ls ++ o ∷ []) c.loop-place.invariant.orders made ∙ sym (ap (λ fs. orders_of fs tick old) more ∙ orders-snoc front (effect s) tick old);
      rest = λ j after. let apart : j ≢ k = omega (arith, after) in let late : k ≤ j = omega (arith, after) in slice_get-set_other buffers k j out apart ∙ c.loop-place.invariant.rest j late;
    }

pub returns-clause-orders : goal.returns-clause-orders
returns-clause-orders g c =
    let k = c.loop-place.place in
    let systems = c.args.systems.now in
    let old = maps_of c.args.pools.now.items in
    let buffers = c.loop-place.buffers.items in
    let each = all_zip_length (λ system buffer. IsReady (g.S.System.limit system (sizes_of old)) buffer) systems c.args.buffers.now.items c.requires.ready in
    let last : length systems ≤ k = c.loop-place-test.false in
    let all : length buffers ≤ k = omega (arith, each, c.loop-place.invariant.each, last) in
    ap (map orders_in) (sym (take_all k buffers all)) ∙ c.loop-place.invariant.orders ∙ ap (λ xs. orders_of (map g.S.System.effect xs) c.args.tick old) (take_all k systems last)
