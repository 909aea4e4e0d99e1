-- What a core's fields keep when one system goes on.
use Rattle.std.proofs.Common.{◌≡◌, ℕ, zero, suc, ◌+◌, ◌<◌, ◌≤◌, true, List, [], ◌∷◌, set, map, drop, length, get_or, sym, ap, subst, ◌∙◌, arith}
use Rattle.std.specs.FinMap as entries
use Rattle.std.proofs.lemmas.Bool.{or_left, or_right, false≢true}
use Rattle.std.proofs.lemmas.List.{length-map, map-set}
use Rattle.std.proofs.Math.Seq.{map-set_same}
use Rattle.world_model.specs.declared.access.Access.{Access}
use Rattle.world_model.specs.Frames.{system_pools}
use Rattle.world_model.specs.Groups.{has_pool}
use Rattle.access_graph.specs.Conflicts.{access_at}
use Rattle.tick_core.specs.declared.progress.Progress.{Progress}
use Rattle.tick_core.specs.declared.step.Step.{Step}
use Rattle.tick_core.specs.declared.versions.PoolVersion.{PoolVersion}
use Rattle.tick_core.specs.Facts.{HasFacts}
use Rattle.tick_core.specs.Keeping.{IsKept, state_in}
use Rattle.tick_core.specs.Layout.{pools_of, state_of, version_in, versioned, versions_in}
use Rattle.tick_core.specs.States.{CoreState, SystemState, Versions, idle, system_at, written_pools}
use Rattle.tick_core.specs.Steps.{CanStep, after, with_next_version, with_system}
use Rattle.tick_core.proofs.ConflictLemmas.{named-append}
use Rattle.tick_core.proofs.FactLemmas.{given_count-le}
use Rattle.tick_core.proofs.KeepLemmas.{step_keeps}

-- a step that can be taken in a state, by another name of either
pub can_so : (now state : CoreState) (step named : Step) → state ≡ now → step ≡ named → CanStep now step → CanStep state named
can_so now state step named view is can = subst (λ (s : CoreState). CanStep s named) (sym view) (subst (CanStep now) is can)

state-at : (systems : List Progress) (i : ℕ) (p : Progress) → p ≡ get_or systems i p → i < length systems → get_or (map state_of systems) i idle ≡ state_of p
state-at [] i p is low = absurd (omega (arith, low))
state-at (x ∷ systems) zero p is low = ap state_of (sym is)
state-at (x ∷ systems) (suc i) p is low = state-at systems i p is (omega (arith, low))

-- a system has a turn for each pool that it names
pub pools-at : (accesses : List Access) (systems : List Progress) (i : ℕ) (p : Progress) → map pools_of systems ≡ map system_pools accesses → p ≡ get_or systems i p → i < length systems
    → pools_of p ≡ system_pools (access_at accesses i)
pools-at accesses [] i p named is low = absurd (omega (arith, low))
pools-at [] (x ∷ systems) i p named is low = absurd (omega (arith, ap (λ (lists : List (List ℕ)). length lists) named))
pools-at (a ∷ accesses) (x ∷ systems) zero p named is low = ap pools_of is ∙ ap (λ (lists : List (List ℕ)). get_or lists 0 []) named
pools-at (a ∷ accesses) (x ∷ systems) (suc i) p named is low = pools-at accesses systems i p (ap (λ (lists : List (List ℕ)). drop 1 lists) named) is (omega (arith, low))

-- what a system writes is written
pub written-at : (accesses : List Access) (i pool : ℕ) → has_pool (access_at accesses i).write pool ≡ true → has_pool (written_pools accesses) pool ≡ true
written-at [] i pool w = absurd (false≢true w)
written-at (a ∷ accesses) zero pool w = named-append a.write (written_pools accesses) pool ∙ or_left (has_pool a.write pool) _ w
written-at (a ∷ accesses) (suc i) pool w = named-append a.write (written_pools accesses) pool ∙ or_right (has_pool a.write pool) _ (written-at accesses i pool w)

module _ (accesses : List Access) (systems : List Progress) (versions : List PoolVersion) (kept : IsKept accesses systems versions) where
  abbrev state : CoreState
  state = state_in accesses systems versions

  -- versions are small
  pub few_versions : (pool : ℕ) → version_in versions pool ≤ 64
  few_versions pool =
      let facts = kept.facts in
      let few = given_count-le accesses (map state_of systems) pool in
      omega (arith, facts.versions pool, facts.counted, kept.few, few)

  module _ (i : ℕ) (p next : Progress) (change : SystemState → SystemState) (is : p ≡ get_or systems i p) (there : i < length state.systems) (pools : pools_of next ≡ pools_of p) (goes : state_of next ≡ change (state_of p)) where
    low : i < length systems
    low = omega (arith, there, length-map systems state_of)

    state-set : state_in accesses (set systems i next) versions ≡ with_system state i (change (system_at state i))
    state-set = ap (λ (list : List SystemState). let s : CoreState = record { accesses = accesses; systems = list; versions = versions_in versions } in s)
        (map-set state_of systems i next ∙ ap (set (map state_of systems) i) (goes ∙ ap change (sym (state-at systems i p is low))))

    named-set : map pools_of (set systems i next) ≡ map system_pools accesses
    named-set = map-set_same pools_of systems i next p (pools ∙ ap pools_of is) ∙ kept.named

    -- a step that raises no version
    pub state_after : (step : Step) → ((s : CoreState) → with_system s i (change (system_at s i)) ≡ after s step) → state_in accesses (set systems i next) versions ≡ after state step
    state_after step does = state-set ∙ does state

    pub kept_after : (step : Step) → ((s : CoreState) → with_system s i (change (system_at s i)) ≡ after s step) → CanStep state step → IsKept accesses (set systems i next) versions
    kept_after step does can = record {
      few = kept.few;
      named = named-set;
      written = kept.written;
      facts = subst HasFacts (sym (state_after step does)) (step_keeps state step kept.facts can);
    }

    -- a step that raises the version of a pool
    module _ (pool : ℕ) (raised : List PoolVersion) (same : versioned raised ≡ versioned versions) (raises : versions_in raised ≡ entries.insert (versions_in versions) pool (version_in versions pool + 1)) where
      pub state_raised : (step : Step) → ((s : CoreState) → with_next_version (with_system s i (change (system_at s i))) pool ≡ after s step) → state_in accesses (set systems i next) raised ≡ after state step
      state_raised step does =
          ap (λ (list : Versions). let s : CoreState = record { accesses = accesses; systems = map state_of (set systems i next); versions = list } in s) raises
          ∙ ap (λ (s : CoreState). with_next_version s pool) state-set ∙ does state

      pub kept_raised : (step : Step) → ((s : CoreState) → with_next_version (with_system s i (change (system_at s i))) pool ≡ after s step) → CanStep state step → IsKept accesses (set systems i next) raised
      kept_raised step does can = record {
        few = kept.few;
        named = named-set;
        written = same ∙ kept.written;
        facts = subst HasFacts (sym (state_raised step does)) (step_keeps state step kept.facts can);
      }
