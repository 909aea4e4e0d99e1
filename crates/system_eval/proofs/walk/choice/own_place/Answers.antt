use Rattle.std.proofs.Common.{◌≡◌, ℕ, ◌+◌, ◌<◌, ◌==◌, List, length, Some, None, sym, ap, ◌∙◌, subst, arith}
use Rattle.std.specs.List.{position_from}
use Rattle.world_model.specs.Frames.{own_pools}
use Rattle.system_api.specs.Registers.{pool_at, pool_of}
use Rattle.system_eval.specs.Walks.{own_lent}
use Rattle.std.proofs.lemmas.List.{length-append}
use Rattle.system_eval.proofs.ChoiceLemmas.{if-some, pool-written, pool-read, written-within, read-within}
use Rattle.system_eval.proofs.walk.choice.own_place.Goals as goal

pub overflow_add-result : goal.overflow_add-result
overflow_add-result c =
    let access = c.args.access.now in
    let is : position_from (λ (other : ℕ). other == c.args.pool) 0 access.write ≡ Some c.in-Some.at = ap (position_from (λ (other : ℕ). other == c.args.pool) 0) (sym c.as_slice.ensures) ∙ sym c.in-Some.ensures in
    record { fits = omega (arith, c.requires, length-append access.read access.write, written-within c.args.pool access c.in-Some.at is, ap length c.as_slice-in-Some.ensures) }

pub returns-in-Some-clause-there : goal.returns-in-Some-clause-there
returns-in-Some-clause-there c =
    let access = c.args.access.now in
    let is : position_from (λ (other : ℕ). other == c.args.pool) 0 access.write ≡ Some c.in-Some.at = ap (position_from (λ (other : ℕ). other == c.args.pool) 0) (sym c.as_slice.ensures) ∙ sym c.in-Some.ensures in
    omega (arith, length-append access.read access.write, written-within c.args.pool access c.in-Some.at is, ap length c.as_slice-in-Some.ensures)

pub returns-in-Some-clause-pool : goal.returns-in-Some-clause-pool
returns-in-Some-clause-pool c = λ register lent.
    let access = c.args.access.now in
    let is : position_from (λ (other : ℕ). other == c.args.pool) 0 access.write ≡ Some c.in-Some.at = ap (position_from (λ (other : ℕ). other == c.args.pool) 0) (sym c.as_slice.ensures) ∙ sym c.in-Some.ensures in
    subst (λ (ns : List ℕ). pool_of register c.args.pool ≡ pool_at (own_lent (length access.read) register) (length ns + c.in-Some.at)) (sym c.as_slice-in-Some.ensures)
    (pool-written access register lent c.args.pool c.in-Some.at is)

pub returns-in-None-clause-there : goal.returns-in-None-clause-there
returns-in-None-clause-there c =
    let access = c.args.access.now in
    if-some c.place_in-in-None.result (λ at. at < length (own_pools access)) (λ p found.
    let is : position_from (λ (other : ℕ). other == c.args.pool) 0 access.read ≡ Some p = ap (position_from (λ (other : ℕ). other == c.args.pool) 0) (sym c.as_slice-in-None.ensures) ∙ sym c.place_in-in-None.ensures ∙ found in
    omega (arith, length-append access.read access.write, read-within c.args.pool access p is))

pub returns-in-None-clause-pool : goal.returns-in-None-clause-pool
returns-in-None-clause-pool c = λ register lent.
    let access = c.args.access.now in
    if-some c.place_in-in-None.result (λ at. pool_of register c.args.pool ≡ pool_at (own_lent (length access.read) register) at) (λ p found.
    let is : position_from (λ (other : ℕ). other == c.args.pool) 0 access.read ≡ Some p = ap (position_from (λ (other : ℕ). other == c.args.pool) 0) (sym c.as_slice-in-None.ensures) ∙ sym c.place_in-in-None.ensures ∙ found in
    let none : position_from (λ (other : ℕ). other == c.args.pool) 0 access.write ≡ None = ap (position_from (λ (other : ℕ). other == c.args.pool) 0) (sym c.as_slice.ensures) ∙ sym c.in-None.ensures in
    pool-read access register lent c.args.pool p none is)
