use Rattle.std.proofs.Common.{◌≡◌, ℕ, ◌++◌, List, [], map, true, sym, ◌∙◌, subst}
use Rattle.std.specs.List.{AllByRecursion, AllZip}
use Rattle.world_model.specs.Groups.{has_pool}
use Rattle.tick_runner.specs.Turns.{IsOf}
use Rattle.tick_runner.proofs.NamingLemmas.{all-named, read_named, look_named, without_named}
use Rattle.tick_runner.proofs.turns.reading.lend_turns.Goals as goal

pub lend_list-requires-clause-named : goal.lend_list-requires-clause-named
lend_list-requires-clause-named g c =
    subst (λ (list : List ℕ). AllByRecursion (λ (pool : ℕ). has_pool c.args.pools.now pool ≡ true) list) (sym c.as_slice.ensures)
    (all-named c.args.pools.now c.args.access.now.read (λ n named. c.requires.named n ∙ read_named c.args.access.now n named))

pub lend_list-requires-2-clause-named : goal.lend_list-requires-2-clause-named
lend_list-requires-2-clause-named g c =
    subst (λ (list : List ℕ). AllByRecursion (λ (pool : ℕ). has_pool c.args.pools.now pool ≡ true) list) (sym c.as_slice-2.ensures)
    (all-named c.args.pools.now c.args.access.now.look (λ n named. c.requires.named n ∙ look_named c.args.access.now n named))

pub lend_list-requires-3-clause-named : goal.lend_list-requires-3-clause-named
lend_list-requires-3-clause-named g c =
    subst (λ (list : List ℕ). AllByRecursion (λ (pool : ℕ). has_pool c.args.pools.now pool ≡ true) list) (sym c.as_slice-3.ensures)
    (all-named c.args.pools.now c.args.access.now.without (λ n named. c.requires.named n ∙ without_named c.args.access.now n named))

pub returns-clause-reads : goal.returns-clause-reads
returns-clause-reads g c = λ found are.
    let R = IsOf g.F.PoolFact.admits in
    let none : AllZip R (map found []) c.args.lent.now.reads = subst (λ (ps : List _). AllZip R [] ps) (sym c.requires.empty) tt in
    let read = c.lend_list.ensures.reads found [] are none in
    let looked = c.lend_list-2.ensures.reads found c.as_slice.result.now are read in
    let all = c.lend_list-3.ensures.reads found (c.as_slice.result.now ++ c.as_slice-2.result.now) are looked in
    subst (λ (list : List ℕ). AllZip R (map found list) c.lend_list-3.new.lent.reads)
    (λ i. (c.as_slice.ensures i ++ c.as_slice-2.ensures i) ++ c.as_slice-3.ensures i) all
