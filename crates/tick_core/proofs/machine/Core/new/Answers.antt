use Rattle.std.proofs.Common.{◌≡◌, ◌≤◌, List, map, length, sym, ap, ap₂, subst, ◌∙◌}
use Rattle.world_model.specs.declared.access.Access.{Access}
use Rattle.world_model.specs.Frames.{system_pools}
use Rattle.tick_core.specs.Facts.{HasFacts}
use Rattle.tick_core.specs.Keeping.{state_in}
use Rattle.tick_core.specs.Layout.{at_zero, state_of, versioned, versions_in}
use Rattle.tick_core.specs.States.{CoreState, SystemState, Versions, start, written_pools}
use Rattle.tick_core.proofs.KeepLemmas.{start_has}
use Rattle.tick_core.proofs.VersionLemmas.{versioned-zeros, versions-zeros}
use Rattle.tick_core.proofs.machine.Core.new.Goals as goal

copies : (c : goal.In_ok-first_versions) → c.in_ok-copy_all.field-0 ≡ c.args.accesses.now
copies c = c.in_ok-copy_all.ensures

zeros : (c : goal.In_ok-first_versions) → c.in_ok-first_versions.field-0.items ≡ map at_zero (written_pools c.args.accesses.now)
zeros c = c.in_ok-first_versions.ensures

-- the fields stand for the state before the first step
starts : (c : goal.In_ok-first_versions) → state_in c.in_ok-copy_all.field-0 c.in_ok-idle_systems.field-0.items c.in_ok-first_versions.field-0.items ≡ start c.args.accesses.now
starts c =
    let state = λ (accesses : List Access) (systems : List SystemState) (versions : Versions). let s : CoreState = record { accesses = accesses; systems = systems; versions = versions } in s in
    ap (λ accesses. state accesses (map state_of c.in_ok-idle_systems.field-0.items) (versions_in c.in_ok-first_versions.field-0.items)) (copies c)
    ∙ ap₂ (state c.args.accesses.now) c.in_ok-idle_systems.ensures.states (ap versions_in (zeros c) ∙ versions-zeros (written_pools c.args.accesses.now))

pub invariant_of-result : goal.invariant_of-result
invariant_of-result c = record {
  few = subst (λ (accesses : List Access). length accesses ≤ 64) (sym (copies c)) c.requires;
  named = c.in_ok-idle_systems.ensures.pools ∙ ap (map system_pools) (sym (copies c));
  written = ap versioned (zeros c) ∙ versioned-zeros (written_pools c.args.accesses.now) ∙ ap written_pools (sym (copies c));
  facts = subst HasFacts (sym (starts c)) (start_has c.args.accesses.now);
}

pub returns : goal.returns
returns c = starts c
