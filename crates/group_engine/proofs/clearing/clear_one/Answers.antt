use Rattle.std.proofs.Common.{◌≡◌, ◌++◌, eqb, false, sym, ap, ◌∙◌}
use Rattle.std.proofs.lemmas.Bool.{or_left, or_right, or_from}
use Rattle.std.proofs.lemmas.List.Folds.{list_any-append}
use Rattle.world_model.specs.Groups.{has_pool}
use Rattle.group_engine.specs.Grouped.{packed_of}
use Rattle.group_engine.proofs.ClearLemmas.{held_empty, unnamed_stays}
use Rattle.group_engine.proofs.clearing.clear_one.Goals as goal
use Rattle.group_engine.proofs.clearing.clear_one.Goals.{then-has_pool-via-then-has_pool, then-has_pool-via-else-has_pool+then-has_pool-2}

pub returns-then-has_pool-clause-grouped : goal.returns-then-has_pool-clause-grouped
returns-then-has_pool-clause-grouped g c =
    let d = c.args.decl.now in
    let p = c.args.pool in
    held_empty (packed_of c.args.pools.now) p d (list_any-append (λ o. eqb o p) d.own d.get ∙ elim c.then-has_pool.branch [
      | then-has_pool-via-then-has_pool w ↦ or_left (has_pool d.own p) (has_pool d.get p) (ap (λ l. has_pool l p) (sym c.as_slice.ensures) ∙ sym c.has_pool.ensures ∙ w.if-has_pool.true)
      | then-has_pool-via-else-has_pool+then-has_pool-2 w ↦ or_right (has_pool d.own p) (has_pool d.get p) (ap (λ l. has_pool l p) (sym w.as_slice-else-has_pool.ensures) ∙ sym w.has_pool-else-has_pool.ensures ∙ w.if-has_pool-2.true)
    ])

pub returns-then-not-has_pool-clause-grouped : goal.returns-then-not-has_pool-clause-grouped
returns-then-not-has_pool-clause-grouped g c =
    let d = c.args.decl.now in
    let p = c.args.pool in
    let own : has_pool d.own p ≡ false = ap (λ l. has_pool l p) (sym c.as_slice.ensures) ∙ sym c.has_pool.ensures ∙ c.if-has_pool.false in
    let get : has_pool d.get p ≡ false = ap (λ l. has_pool l p) (sym c.as_slice-else-has_pool.ensures) ∙ sym c.has_pool-else-has_pool.ensures ∙ c.if-has_pool-2.false in
    let without : has_pool d.without p ≡ false = ap (λ l. has_pool l p) (sym c.as_slice-2.ensures) ∙ sym c.has_pool-2.ensures ∙ c.if-not-has_pool.true in
    let front : has_pool (d.own ++ d.get) p ≡ false = list_any-append (λ o. eqb o p) d.own d.get ∙ or_from (has_pool d.own p) (has_pool d.get p) own get in
    unnamed_stays (packed_of c.args.pools.now) p d c.args.count (list_any-append (λ o. eqb o p) (d.own ++ d.get) d.without ∙ or_from (has_pool (d.own ++ d.get) p) (has_pool d.without p) front without) c.requires.grouped
