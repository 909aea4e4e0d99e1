use Rattle.std.proofs.Common.{◌≡◌, ℕ, true, List, length, get_or, eqb, refl, sym, ap, subst, ◌∙◌, arith, eq-eqb}
use Rattle.std.specs.FinSet as sets
use Rattle.std.specs.List.{list_any}
use Rattle.std.proofs.lemmas.Bool.{both_ways, eqb-true, false≢true}
use Rattle.std.proofs.lemmas.List.Folds.{list_any_at}
use Rattle.world_model.specs.Groups.{has_pool}
use Rattle.tick_core.specs.declared.turns.Turn.{Turn}
use Rattle.tick_core.specs.Layout.{fresh, pools_in, state_of}
use Rattle.tick_core.proofs.PlaceLemmas.{any-map, any_place}
use Rattle.tick_core.proofs.progress.Progress.has_taken_all.Goals as goal

pub returns-then-not-has_taken : goal.returns-then-not-has_taken
returns-then-not-has_taken c =
    let turns = c.args.self.now.turns.items in
    let turn : Turn = get_or c.deref-turn-items.result.now c.loop-turn.turn-index (fresh 0) in
    let named : has_pool (pools_in turns) turn.pool ≡ true =
    sym (any-map (λ (t : Turn). t.pool) turns turn.pool)
    ∙ subst (λ (ts : List Turn). list_any (λ t. eqb t.pool turn.pool) ts ≡ true) c.deref-turn-items.ensures.value
    (list_any_at (λ (t : Turn). eqb t.pool turn.pool) c.deref-turn-items.result.now c.loop-turn.turn-index (fresh 0) c.loop-turn-test.true (eq-eqb turn.pool turn.pool refl))
    in
    (λ is. absurd (false≢true is), λ all. absurd (both_ways (sets.contains (state_of c.args.self.now).taken turn.pool) (sym c.has_taken.ensures ∙ c.if-not-has_taken.true) (all turn.pool named)))

pub returns : goal.returns
returns c =
    let turns = c.args.self.now.turns.items in (
      λ is pool named.
          let found = any_place (λ (t : Turn). eqb t.pool pool) turns (fresh 0) (any-map (λ (t : Turn). t.pool) turns pool ∙ named) in
          subst (λ (n : ℕ). sets.contains (state_of c.args.self.now).taken n ≡ true) (eqb-true _ pool found.2)
          (c.loop-turn.invariant found.0 (fresh 0) (let low = found.1 in let same = ap (λ (ts : List Turn). length ts) c.deref-turn-items.ensures.value in omega arith)),
      λ all. refl,
    )
