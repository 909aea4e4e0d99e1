use Rattle.std.proofs.Common.{◌<◌, true, length, refl, sym, ap, ◌∙◌, arith}
use Rattle.std.specs.FinSet as set
use Rattle.std.proofs.lemmas.List.{length-map}
use Rattle.world_model.specs.Groups.{has_pool}
use Rattle.tick_core.specs.declared.step.Step.TheVariants.{Claim, Take, Leave, Put, Finish}
use Rattle.tick_core.specs.Keeping.{state_in}
use Rattle.tick_core.specs.Layout.{state_of}
use Rattle.tick_core.specs.States.{CoreState, SystemState}
use Rattle.tick_core.specs.Steps.{after}
use Rattle.tick_core.proofs.KeepingLemmas.{can_so, few_versions, kept_after, kept_raised, pools-at, state_after, state_raised, written-at}
use Rattle.tick_core.proofs.machine.Core.take.Goals as goal

pub take-requires : goal.take-requires
take-requires c =
    let can = can_so c.args.self.now (state_in c.self.inside.accesses c.self.inside.systems.items c.self.inside.versions.items) c.args.step.now (Take c.in-Take.system c.in-Take.pool) c.self.view_is c.in-Take.is c.requires in
    let low : c.in-Take.system < length c.self.inside.systems.items = let counted = length-map c.self.inside.systems.items state_of in omega (arith, can.there) in
    ap (λ list. has_pool list c.in-Take.pool) (pools-at c.self.inside.accesses c.self.inside.systems.items c.in-Take.system c.index_mut-in-Take.result.now c.self.invariant.named c.index_mut-in-Take.ensures.value low)
    ∙ can.own

pub give-requires : goal.give-requires
give-requires c =
    let can = can_so c.args.self.now (state_in c.self.inside.accesses c.self.inside.systems.items c.self.inside.versions.items) c.args.step.now (Leave c.in-Leave.system c.in-Leave.pool) c.self.view_is c.in-Leave.is c.requires in
    let low : c.in-Leave.system < length c.self.inside.systems.items = let counted = length-map c.self.inside.systems.items state_of in omega (arith, can.0.there) in
    ap (λ list. has_pool list c.in-Leave.pool) (pools-at c.self.inside.accesses c.self.inside.systems.items c.in-Leave.system c.index_mut-in-Leave.result.now c.self.invariant.named c.index_mut-in-Leave.ensures.value low)
    ∙ c.self.invariant.facts.own c.in-Leave.system c.in-Leave.pool can.0.holds.taken

pub give-requires-in-Put : goal.give-requires-in-Put
give-requires-in-Put c =
    let can = can_so c.args.self.now (state_in c.self.inside.accesses c.self.inside.systems.items c.self.inside.versions.items) c.args.step.now (Put c.in-Put.system c.in-Put.pool) c.self.view_is c.in-Put.is c.requires in
    let low : c.in-Put.system < length c.self.inside.systems.items = let counted = length-map c.self.inside.systems.items state_of in omega (arith, can.0.there) in
    ap (λ list. has_pool list c.in-Put.pool) (pools-at c.self.inside.accesses c.self.inside.systems.items c.in-Put.system c.index_mut-in-Put.result.now c.self.invariant.named c.index_mut-in-Put.ensures.value low)
    ∙ c.self.invariant.facts.own c.in-Put.system c.in-Put.pool can.0.holds.taken

pub invariant_of-self : goal.invariant_of-self
invariant_of-self c =
    let can = can_so c.args.self.now (state_in c.self.inside.accesses c.self.inside.systems.items c.self.inside.versions.items) c.args.step.now (Claim c.in-Claim.system) c.self.view_is c.in-Claim.is c.requires in
    kept_after c.self.inside.accesses c.self.inside.systems.items c.self.inside.versions.items c.self.invariant c.in-Claim.system c.index_mut.result.now c.claim.new.self
    (λ (s : SystemState). record s { claimed = true }) c.index_mut.ensures.value can.there c.claim.ensures.pools c.claim.ensures.state (Claim c.in-Claim.system) (λ _. refl) can

pub returns-in-Claim : goal.returns-in-Claim
returns-in-Claim c =
    let can = can_so c.args.self.now (state_in c.self.inside.accesses c.self.inside.systems.items c.self.inside.versions.items) c.args.step.now (Claim c.in-Claim.system) c.self.view_is c.in-Claim.is c.requires in
    state_after c.self.inside.accesses c.self.inside.systems.items c.self.inside.versions.items c.self.invariant c.in-Claim.system c.index_mut.result.now c.claim.new.self
    (λ (s : SystemState). record s { claimed = true }) c.index_mut.ensures.value can.there c.claim.ensures.pools c.claim.ensures.state (Claim c.in-Claim.system) (λ _. refl)
    ∙ ap (λ (s : CoreState). after s (Claim c.in-Claim.system)) c.self.view_is ∙ ap (after c.args.self.now) (sym c.in-Claim.is)

pub invariant_of-self-in-Take : goal.invariant_of-self-in-Take
invariant_of-self-in-Take c =
    let can = can_so c.args.self.now (state_in c.self.inside.accesses c.self.inside.systems.items c.self.inside.versions.items) c.args.step.now (Take c.in-Take.system c.in-Take.pool) c.self.view_is c.in-Take.is c.requires in
    kept_after c.self.inside.accesses c.self.inside.systems.items c.self.inside.versions.items c.self.invariant c.in-Take.system c.index_mut-in-Take.result.now c.take.new.self
    (λ (s : SystemState). record s { taken = set.insert s.taken c.in-Take.pool }) c.index_mut-in-Take.ensures.value can.there c.take.ensures.pools c.take.ensures.state (Take c.in-Take.system c.in-Take.pool) (λ _. refl) can

pub returns-in-Take : goal.returns-in-Take
returns-in-Take c =
    let can = can_so c.args.self.now (state_in c.self.inside.accesses c.self.inside.systems.items c.self.inside.versions.items) c.args.step.now (Take c.in-Take.system c.in-Take.pool) c.self.view_is c.in-Take.is c.requires in
    state_after c.self.inside.accesses c.self.inside.systems.items c.self.inside.versions.items c.self.invariant c.in-Take.system c.index_mut-in-Take.result.now c.take.new.self
    (λ (s : SystemState). record s { taken = set.insert s.taken c.in-Take.pool }) c.index_mut-in-Take.ensures.value can.there c.take.ensures.pools c.take.ensures.state (Take c.in-Take.system c.in-Take.pool) (λ _. refl)
    ∙ ap (λ (s : CoreState). after s (Take c.in-Take.system c.in-Take.pool)) c.self.view_is ∙ ap (after c.args.self.now) (sym c.in-Take.is)

pub invariant_of-self-in-Leave : goal.invariant_of-self-in-Leave
invariant_of-self-in-Leave c =
    let can = can_so c.args.self.now (state_in c.self.inside.accesses c.self.inside.systems.items c.self.inside.versions.items) c.args.step.now (Leave c.in-Leave.system c.in-Leave.pool) c.self.view_is c.in-Leave.is c.requires in
    kept_after c.self.inside.accesses c.self.inside.systems.items c.self.inside.versions.items c.self.invariant c.in-Leave.system c.index_mut-in-Leave.result.now c.give.new.self
    (λ (s : SystemState). record s { given = set.insert s.given c.in-Leave.pool }) c.index_mut-in-Leave.ensures.value can.0.there c.give.ensures.pools c.give.ensures.state (Leave c.in-Leave.system c.in-Leave.pool) (λ _. refl) can

pub returns-in-Leave : goal.returns-in-Leave
returns-in-Leave c =
    let can = can_so c.args.self.now (state_in c.self.inside.accesses c.self.inside.systems.items c.self.inside.versions.items) c.args.step.now (Leave c.in-Leave.system c.in-Leave.pool) c.self.view_is c.in-Leave.is c.requires in
    state_after c.self.inside.accesses c.self.inside.systems.items c.self.inside.versions.items c.self.invariant c.in-Leave.system c.index_mut-in-Leave.result.now c.give.new.self
    (λ (s : SystemState). record s { given = set.insert s.given c.in-Leave.pool }) c.index_mut-in-Leave.ensures.value can.0.there c.give.ensures.pools c.give.ensures.state (Leave c.in-Leave.system c.in-Leave.pool) (λ _. refl)
    ∙ ap (λ (s : CoreState). after s (Leave c.in-Leave.system c.in-Leave.pool)) c.self.view_is ∙ ap (after c.args.self.now) (sym c.in-Leave.is)

pub invariant_of-self-in-Finish : goal.invariant_of-self-in-Finish
invariant_of-self-in-Finish c =
    let can = can_so c.args.self.now (state_in c.self.inside.accesses c.self.inside.systems.items c.self.inside.versions.items) c.args.step.now (Finish c.in-Finish.system) c.self.view_is c.in-Finish.is c.requires in
    kept_after c.self.inside.accesses c.self.inside.systems.items c.self.inside.versions.items c.self.invariant c.in-Finish.system c.index_mut-in-Finish.result.now c.finish.new.self
    (λ (s : SystemState). record s { done = true }) c.index_mut-in-Finish.ensures.value can.there c.finish.ensures.pools c.finish.ensures.state (Finish c.in-Finish.system) (λ _. refl) can

pub returns-in-Finish : goal.returns-in-Finish
returns-in-Finish c =
    let can = can_so c.args.self.now (state_in c.self.inside.accesses c.self.inside.systems.items c.self.inside.versions.items) c.args.step.now (Finish c.in-Finish.system) c.self.view_is c.in-Finish.is c.requires in
    state_after c.self.inside.accesses c.self.inside.systems.items c.self.inside.versions.items c.self.invariant c.in-Finish.system c.index_mut-in-Finish.result.now c.finish.new.self
    (λ (s : SystemState). record s { done = true }) c.index_mut-in-Finish.ensures.value can.there c.finish.ensures.pools c.finish.ensures.state (Finish c.in-Finish.system) (λ _. refl)
    ∙ ap (λ (s : CoreState). after s (Finish c.in-Finish.system)) c.self.view_is ∙ ap (after c.args.self.now) (sym c.in-Finish.is)

pub raise-requires-clause-there : goal.raise-requires-clause-there
raise-requires-clause-there c =
    let can = can_so c.args.self.now (state_in c.self.inside.accesses c.self.inside.systems.items c.self.inside.versions.items) c.args.step.now (Put c.in-Put.system c.in-Put.pool) c.self.view_is c.in-Put.is c.requires in
    ap (λ list. has_pool list c.in-Put.pool) c.self.invariant.written ∙ written-at c.self.inside.accesses c.in-Put.system c.in-Put.pool can.1

pub raise-requires-clause-room : goal.raise-requires-clause-room
raise-requires-clause-room c =
    let few = few_versions c.self.inside.accesses c.self.inside.systems.items c.self.inside.versions.items c.self.invariant c.in-Put.pool in omega (arith, few)

pub invariant_of-self-in-Put : goal.invariant_of-self-in-Put
invariant_of-self-in-Put c =
    let can = can_so c.args.self.now (state_in c.self.inside.accesses c.self.inside.systems.items c.self.inside.versions.items) c.args.step.now (Put c.in-Put.system c.in-Put.pool) c.self.view_is c.in-Put.is c.requires in
    kept_raised c.self.inside.accesses c.self.inside.systems.items c.self.inside.versions.items c.self.invariant c.in-Put.system c.index_mut-in-Put.result.now c.give-in-Put.new.self
    (λ (s : SystemState). record s { given = set.insert s.given c.in-Put.pool }) c.index_mut-in-Put.ensures.value can.0.there c.give-in-Put.ensures.pools c.give-in-Put.ensures.state
    c.in-Put.pool c.raise.new.versions.items c.raise.ensures.pools c.raise.ensures.versions (Put c.in-Put.system c.in-Put.pool) (λ _. refl) can

pub returns-in-Put : goal.returns-in-Put
returns-in-Put c =
    let can = can_so c.args.self.now (state_in c.self.inside.accesses c.self.inside.systems.items c.self.inside.versions.items) c.args.step.now (Put c.in-Put.system c.in-Put.pool) c.self.view_is c.in-Put.is c.requires in
    state_raised c.self.inside.accesses c.self.inside.systems.items c.self.inside.versions.items c.self.invariant c.in-Put.system c.index_mut-in-Put.result.now c.give-in-Put.new.self
    (λ (s : SystemState). record s { given = set.insert s.given c.in-Put.pool }) c.index_mut-in-Put.ensures.value can.0.there c.give-in-Put.ensures.pools c.give-in-Put.ensures.state
    c.in-Put.pool c.raise.new.versions.items c.raise.ensures.pools c.raise.ensures.versions (Put c.in-Put.system c.in-Put.pool) (λ _. refl)
    ∙ ap (λ (s : CoreState). after s (Put c.in-Put.system c.in-Put.pool)) c.self.view_is ∙ ap (after c.args.self.now) (sym c.in-Put.is)
