use Rattle.std.proofs.Common.{◌≡◌, ◌+◌, ◌*◌, ◌≤◌, List, length, get_or, sym, ap, ◌∙◌, subst, OnOk, OnErr}
use Rattle.std.specs.Vec.{with_items}
use Rattle.std.proofs.lemmas.List.{with_items_is}
use Rattle.group_engine.specs.Grouped.{packed_of, cores_of, AreGrouped, AreStill}
use Rattle.group_rules.specs.Families.{groups_with}
use Rattle.storage.specs.Stored.{Stored}
use Rattle.world_model.specs.declared.component.Row.{Row}
use Rattle.world_model.specs.Groups.{has_pool, packed_at}
use Rattle.registry.proofs.CoreLemmas.{core_count}
use Rattle.registry.proofs.GroupingLemmas.{AreOfWorlds, AreBuilt, with_groups, group_done, group_answered, group_cause, group_refused, group_repacks, rows_as_long}
use Rattle.registry.proofs.ResultLemmas.{all_ok, both_err, then_ok}
use Rattle.registry.proofs.parts.grouping.group.Goals as goal

pub returns : goal.returns
returns g c =
    let old = c.args.parts.now in
    let decl = c.args.decl in
    let groups = c.build.new.self in
    let pools = with_items old.pools c.build.new.pools in
    let built = c.build.ensures in
    let laws : AreOfWorlds = record { refusals = c.answers_are_those_of_worlds.ensures.refusals; outcomes = c.answers_are_those_of_worlds.ensures.outcomes } in
    let back : pools.items ≡ c.build.new.pools = with_items_is old.pools c.build.new.pools (core_count c.build.new.pools c.deref_mut.result.now built.cores ∙ c.deref_mut.ensures.len) in
    let cores : cores_of pools.items ≡ cores_of old.pools.items = ap cores_of back ∙ built.cores ∙ ap cores_of c.deref_mut.ensures.value in
    let grouped : AreGrouped groups.decls groups.lens (packed_of pools.items) = subst (λ (items : List (Stored Row)). AreGrouped groups.decls groups.lens (packed_of items)) (sym back) built.grouped in
    let as_built : OnOk c.build.result (AreBuilt old pools groups (groups_with old.groups.decls decl)) = then_ok c.build.result built.decls (λ decls. record { decls_are = decls; count = built.pools; grouped = grouped; cores = cores }) in
    let stays : OnErr c.build.result ((pools.items ≡ old.pools.items) × (groups ≡ old.groups)) = both_err c.build.result built.err built.pools_err (λ same items. (back ∙ items ∙ c.deref_mut.ensures.value, same)) in
    let done = group_done old pools groups decl c.build.result laws c.requires built.refused as_built stays in
    let first = get_or decl.own 0 0 in
    record {
      consistent = done.kept;
      ok = done.does;
      reply = group_answered old (with_groups old pools groups) decl c.build.result laws done built.ok;
      err = done.as_before;
      cause = group_cause old decl c.build.result laws c.requires built.cause;
      refused = group_refused old decl c.build.result laws c.requires built.refused;
      memory = built.memory;
      packed = all_ok c.build.result (group_repacks old pools groups decl cores (λ found. back ∙ (built.found found).1 ∙ c.deref_mut.ensures.value)
          (subst (λ (items : List (Stored Row)). AreStill (has_pool decl.own) (packed_of old.pools.items) (packed_of items)) (sym back)
          (subst (λ (items : List (Stored Row)). AreStill (has_pool decl.own) (packed_of items) (packed_of c.build.new.pools)) c.deref_mut.ensures.value built.still)));
      steps = subst (λ n. c.build.new.steps ≤ c.args.steps.now + n * length decl.own)
          (ap (λ (items : List (Stored Row)). length (packed_at (packed_of items) first)) c.deref_mut.ensures.value ∙ rows_as_long old first c.know_law.ensures.lawful.packed) built.steps;
    }
