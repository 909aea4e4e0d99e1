use Rattle.std.proofs.Common.{◌≡◌, ℕ, ◌<◌, ◌++◌, ◌∷◌, [], List, map, length, Some, slice_get, refl, sym, ap, ◌∙◌, subst, arith, zero-add}
use Rattle.std.specs.Prelude.{IsTrue, is_some}
use Rattle.std.specs.List.{AllZip}
use Rattle.std.proofs.lemmas.Bool.{false≢true}
use Rattle.std.proofs.lemmas.List.{map-append, length-map}
use Rattle.std.proofs.lemmas.Option.{slice_get_read, slice_get_within, none-some, same_Some}
use Rattle.entity_id.proofs.ListLemmas.{all_at}
use Rattle.system_api.specs.declared.lent.LentPool.{LentPool}
use Rattle.tick_runner.specs.Turns.{IsOf}
use Rattle.tick_runner.proofs.ListLemmas.{all_zip_more}
use Rattle.tick_runner.proofs.NamingLemmas.{place_found, found_there}
use Rattle.tick_runner.proofs.turns.reading.lend_one.Goals as goal

abbrev same : ℕ → ℕ
same n = n

pub unreachable-requires : goal.unreachable-requires
unreachable-requires g c =
    let placed = place_found same c.args.pool c.args.pools.now 0 c.requires.named in
    none-some placed.at (sym c.in_default.is ∙ c.place_in.ensures ∙ placed.is ∙ ap Some (zero-add placed.at))

pub offset_bounds-turns-at : goal.offset_bounds-turns-at
offset_bounds-turns-at g c =
    let low = slice_get_within (map same c.args.pools.now) c.in-Some.at c.args.pool (found_there same c.args.pool c.args.pools.now c.in-Some.at c.requires.named (sym c.in-Some.is ∙ c.place_in.ensures)) in
    omega (arith, low, length-map c.args.pools.now same, c.requires.each, c.requires.turned)

pub bounds-turns-at : goal.bounds-turns-at
bounds-turns-at g c =
    let low = slice_get_within (map same c.args.pools.now) c.in-Some.at c.args.pool (found_there same c.args.pool c.args.pools.now c.in-Some.at c.requires.named (sym c.in-Some.is ∙ c.place_in.ensures)) in
    omega (arith, low, length-map c.args.pools.now same, c.requires.each)

pub unreachable-requires-in_default-turns : goal.unreachable-requires-in_default-turns
unreachable-requires-in_default-turns g c =
    let low = slice_get_within (map same c.args.pools.now) c.in-Some.at c.args.pool (found_there same c.args.pool c.args.pools.now c.in-Some.at c.requires.named (sym c.in-Some.is ∙ c.place_in.ensures)) in
    let at : slice_get c.args.turns.now c.in-Some.at ≡ Some c.index-turns-at.result =
    slice_get_read c.args.turns.now (length c.args.turns.now) c.in-Some.at c.index-turns-at.result refl (omega (arith, low, length-map c.args.pools.now same, c.requires.each)) c.index-turns-at.is in
    let some = all_at (λ o. IsTrue (is_some o)) c.args.turns.now c.in-Some.at c.index-turns-at.result c.requires.there at in
    false≢true (ap is_some (sym c.in_default-turns.is) ∙ some)

pub returns-clause-reads : goal.returns-clause-reads
returns-clause-reads g c = λ found lists are lent.
    let admits = g.F.PoolFact.admits in
    let turns = c.args.turns.now in
    let turn = c.in-Some-turns.turn in
    let there = found_there found c.args.pool c.args.pools.now c.in-Some.at c.requires.named (sym c.in-Some.is ∙ c.place_in.ensures) in
    let low = slice_get_within (map found c.args.pools.now) c.in-Some.at (found c.args.pool) there in
    let at : slice_get turns c.in-Some.at ≡ Some c.index-turns-at.result =
    slice_get_read turns (length turns) c.in-Some.at c.index-turns-at.result refl (subst (λ (n : ℕ). c.in-Some.at < n) (sym (ap length are)) low) c.index-turns-at.is in
    let is : Some turn ≡ found c.args.pool = sym c.in-Some-turns.is ∙ same_Some c.index-turns-at.result (found c.args.pool) (sym at ∙ ap (λ (ts : List _). slice_get ts c.in-Some.at) are ∙ there) in
    let pool : LentPool = record { number = c.pool.result; storage = c.storage.result.now } in
    subst (λ (ts : List _). AllZip (IsOf admits) ts c.add_read.new.self.reads) (sym (map-append found lists (c.args.pool ∷ [])))
    (subst (λ (ps : List LentPool). AllZip (IsOf admits) (map found lists ++ found c.args.pool ∷ []) ps) (sym c.add_read.ensures.reads)
    (all_zip_more (IsOf admits) (map found lists) c.args.lent.now.reads (found c.args.pool) pool lent
    (subst (λ o. IsOf admits o pool) is (record { number = c.pool.ensures; admitted = c.storage.ensures.admitted; shape = c.storage.ensures.shape }))))
