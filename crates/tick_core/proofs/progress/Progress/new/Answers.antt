use Rattle.std.proofs.Common.{◌≡◌, ◌++◌, List, map, false, ap, ap₂, ◌∙◌, refl}
use Rattle.world_model.specs.Frames.{system_pools}
use Rattle.tick_core.specs.declared.turns.Turn.{Turn}
use Rattle.tick_core.specs.Layout.{fresh, given_in, pools_in, taken_in}
use Rattle.tick_core.specs.States.{PoolSet, SystemState}
use Rattle.tick_core.proofs.TurnLemmas.{fresh-append, pools-fresh, where-fresh}
use Rattle.tick_core.proofs.progress.Progress.new.Goals as goal

-- the turns, list by list
items : (c : goal.In_ok-push_turns-4) → c.push_turns-4.new.turns.items ≡ map fresh (system_pools c.args.access.now)
items c =
    let a = c.args.access.now in
    let read : c.push_turns.new.turns.items ≡ c.new-turns.result.items ++ map fresh c.as_slice.result.now = c.in_ok-push_turns.ensures in
    let write : c.push_turns-2.new.turns.items ≡ c.push_turns.new.turns.items ++ map fresh c.as_slice-2.result.now = c.in_ok-push_turns-2.ensures in
    let look : c.push_turns-3.new.turns.items ≡ c.push_turns-2.new.turns.items ++ map fresh c.as_slice-3.result.now = c.in_ok-push_turns-3.ensures in
    let without : c.push_turns-4.new.turns.items ≡ c.push_turns-3.new.turns.items ++ map fresh c.as_slice-4.result.now = c.in_ok-push_turns-4.ensures in
    let first = read ∙ ap₂ (λ (turns : List Turn) pools. turns ++ map fresh pools) c.new-turns.ensures.items c.as_slice.ensures in
    let second = write ∙ ap₂ (λ (turns : List Turn) pools. turns ++ map fresh pools) first c.as_slice-2.ensures in
    let third = look ∙ ap₂ (λ (turns : List Turn) pools. turns ++ map fresh pools) second c.as_slice-3.ensures in
    without ∙ ap₂ (λ (turns : List Turn) pools. turns ++ map fresh pools) third c.as_slice-4.ensures
    ∙ fresh-append a.read a.write a.look a.without

pub returns-clause-pools : goal.returns-clause-pools
returns-clause-pools c = ap pools_in (items c) ∙ pools-fresh (system_pools c.args.access.now)

pub returns-clause-idle : goal.returns-clause-idle
returns-clause-idle c =
    let pools = system_pools c.args.access.now in
    let state = λ (taken given : PoolSet). let s : SystemState = record { claimed = false; done = false; taken = taken; given = given } in s in
    ap₂ state (ap taken_in (items c) ∙ where-fresh (λ turn. turn.taken) (λ _. refl) pools) (ap given_in (items c) ∙ where-fresh (λ turn. turn.given) (λ _. refl) pools)
