use Rattle.std.proofs.Common.{true, get_or, refl}
use Rattle.tick_core.specs.declared.turns.Turn.{Turn}
use Rattle.tick_core.specs.Layout.{fresh}
use Rattle.tick_core.proofs.TurnLemmas.{pools-set, where-set, where-set_same}
use Rattle.tick_core.proofs.turns.mark_given.Goals as goal

pub returns-clause-given : goal.returns-clause-given
returns-clause-given c =
    let at = c.place_of-at in
    let old : Turn = get_or c.args.turns.now at.result (fresh 0) in
    where-set (λ turn. turn.given) c.args.turns.now at.result c.args.pool (record old { given = true }) (fresh 0)
    at.ensures.within (at.ensures.pool (fresh 0)) (at.ensures.pool (fresh 0)) refl

pub returns-clause-taken : goal.returns-clause-taken
returns-clause-taken c =
    let old : Turn = get_or c.args.turns.now c.place_of-at.result (fresh 0) in
    where-set_same (λ turn. turn.taken) c.args.turns.now c.place_of-at.result c.args.pool (record old { given = true }) (fresh 0) refl refl

pub returns-clause-pools : goal.returns-clause-pools
returns-clause-pools c =
    let old : Turn = get_or c.args.turns.now c.place_of-at.result (fresh 0) in
    pools-set (λ turn. turn.given) c.args.turns.now c.place_of-at.result c.args.pool (record old { given = true }) (fresh 0) refl
