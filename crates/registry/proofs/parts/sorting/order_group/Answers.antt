use Rattle.std.proofs.Common.{◌≡◌, ◌+◌, ◌*◌, ◌≤◌, length, sym, ◌∙◌, subst}
use Rattle.std.specs.Vec.{with_items}
use Rattle.std.proofs.lemmas.List.Sorted.{length_permutation}
use Rattle.group_engine.specs.Engine.{len_at, prefix_at}
use Rattle.group_engine.specs.Grouped.{packed_of}
use Rattle.world_model.specs.Contents.{keys_of, group_at}
use Rattle.world_model.specs.Groups.{members}
use Rattle.registry.specs.Layout.{world_of, held_of}
use Rattle.registry.proofs.CoreLemmas.{came_back, back_cores}
use Rattle.registry.proofs.DoneLemmas.{same, stayed}
use Rattle.registry.proofs.ReorderLemmas.{with_pools, put_back}
use Rattle.registry.proofs.SortedLemmas.{group_listed, group_sorted}
use Rattle.registry.proofs.parts.sorting.order_group.Goals as goal

pub returns-in_default-clause-err : goal.returns-in_default-clause-err
returns-in_default-clause-err g c = same (held_of c.args.parts.now)

pub returns-in-Ok-sort_group-clause-consistent : goal.returns-in-Ok-sort_group-clause-consistent
returns-in-Ok-sort_group-clause-consistent g c =
    let old = c.args.parts.now in
    let h = c.requires.consistent in
    let lent = c.deref_mut.result.now in
    let new = c.sort_group.new.pools in
    let pools = with_items old.pools new in
    let back = came_back old.pools.items lent new old.pools.len c.deref_mut.ensures.value c.deref_mut.ensures.len c.sort_group.ensures.cores in
    let is = group_listed old pools lent new c.deref_mut.ensures.value back c.args.group c.args.pool c.args.field c.deref.result.now c.in-Ok.values.items c.deref.ensures.value h c.requires.accepted c.in-Ok.ensures.matching c.in-Ok.ensures.values c.in-Ok-sort_group.ensures.order in
    (group_sorted old pools lent new c.deref_mut.ensures.value back c.args.group c.args.pool c.args.field c.deref.result.now c.in-Ok.values.items c.deref.ensures.value h c.requires.accepted is
    (back_cores old.pools.items lent new old.pools.len c.deref_mut.ensures.value c.deref_mut.ensures.len c.sort_group.ensures.cores) c.sort_group.ensures.grouped c.in-Ok-sort_group.ensures.arranged).kept

pub returns-in-Ok-sort_group-clause-ok : goal.returns-in-Ok-sort_group-clause-ok
returns-in-Ok-sort_group-clause-ok g c =
    let old = c.args.parts.now in
    let h = c.requires.consistent in
    let lent = c.deref_mut.result.now in
    let new = c.sort_group.new.pools in
    let pools = with_items old.pools new in
    let back = came_back old.pools.items lent new old.pools.len c.deref_mut.ensures.value c.deref_mut.ensures.len c.sort_group.ensures.cores in
    let is = group_listed old pools lent new c.deref_mut.ensures.value back c.args.group c.args.pool c.args.field c.deref.result.now c.in-Ok.values.items c.deref.ensures.value h c.requires.accepted c.in-Ok.ensures.matching c.in-Ok.ensures.values c.in-Ok-sort_group.ensures.order in
    (group_sorted old pools lent new c.deref_mut.ensures.value back c.args.group c.args.pool c.args.field c.deref.result.now c.in-Ok.values.items c.deref.ensures.value h c.requires.accepted is
    (back_cores old.pools.items lent new old.pools.len c.deref_mut.ensures.value c.deref_mut.ensures.len c.sort_group.ensures.cores) c.sort_group.ensures.grouped c.in-Ok-sort_group.ensures.arranged).does

pub returns-in-Ok-sort_group-clause-packed : goal.returns-in-Ok-sort_group-clause-packed
returns-in-Ok-sort_group-clause-packed g c =
    let old = c.args.parts.now in
    let h = c.requires.consistent in
    let lent = c.deref_mut.result.now in
    let new = c.sort_group.new.pools in
    let pools = with_items old.pools new in
    let back = came_back old.pools.items lent new old.pools.len c.deref_mut.ensures.value c.deref_mut.ensures.len c.sort_group.ensures.cores in
    let is = group_listed old pools lent new c.deref_mut.ensures.value back c.args.group c.args.pool c.args.field c.deref.result.now c.in-Ok.values.items c.deref.ensures.value h c.requires.accepted c.in-Ok.ensures.matching c.in-Ok.ensures.values c.in-Ok-sort_group.ensures.order in
    (group_sorted old pools lent new c.deref_mut.ensures.value back c.args.group c.args.pool c.args.field c.deref.result.now c.in-Ok.values.items c.deref.ensures.value h c.requires.accepted is
    (back_cores old.pools.items lent new old.pools.len c.deref_mut.ensures.value c.deref_mut.ensures.len c.sort_group.ensures.cores) c.sort_group.ensures.grouped c.in-Ok-sort_group.ensures.arranged).packs

pub returns-in-Ok-sort_group-clause-order : goal.returns-in-Ok-sort_group-clause-order
returns-in-Ok-sort_group-clause-order g c =
    let old = c.args.parts.now in
    let h = c.requires.consistent in
    let lent = c.deref_mut.result.now in
    let new = c.sort_group.new.pools in
    let pools = with_items old.pools new in
    let back = came_back old.pools.items lent new old.pools.len c.deref_mut.ensures.value c.deref_mut.ensures.len c.sort_group.ensures.cores in
    group_listed old pools lent new c.deref_mut.ensures.value back c.args.group c.args.pool c.args.field c.deref.result.now c.in-Ok.values.items c.deref.ensures.value h c.requires.accepted c.in-Ok.ensures.matching c.in-Ok.ensures.values c.in-Ok-sort_group.ensures.order

pub returns-in-Ok-sort_group-clause-steps : goal.returns-in-Ok-sort_group-clause-steps
returns-in-Ok-sort_group-clause-steps g c =
    let w = world_of c.args.parts.now in
    let groups = c.args.parts.now.groups in
    let listed = prefix_at groups (packed_of c.args.parts.now.pools.items) c.args.group in
    let count : length (members (keys_of w) (group_at w c.args.group)) ≡ len_at groups c.args.group = length_permutation listed (members (keys_of w) (group_at w c.args.group)) c.member_values.ensures.matching ∙ c.member_values.ensures.len in
    subst (λ n. c.sort_group.new.steps ≤ c.args.steps.now + length (group_at w c.args.group).own * n) (sym count) c.sort_group.ensures.steps

pub returns-clause-consistent : goal.returns-clause-consistent
returns-clause-consistent g c =
    let old = c.args.parts.now in
    let h = c.requires.consistent in
    let lent = c.deref_mut.result.now in
    let new = c.sort_group.new.pools in
    let pools = with_items old.pools new in
    let back = came_back old.pools.items lent new old.pools.len c.deref_mut.ensures.value c.deref_mut.ensures.len c.sort_group.ensures.cores in
    (stayed old (with_pools old pools h) h (put_back old pools h (back ∙ c.in-Err.ensures.err ∙ c.deref_mut.ensures.value))).0

pub returns-clause-err : goal.returns-clause-err
returns-clause-err g c =
    let old = c.args.parts.now in
    let h = c.requires.consistent in
    let lent = c.deref_mut.result.now in
    let new = c.sort_group.new.pools in
    let pools = with_items old.pools new in
    let back = came_back old.pools.items lent new old.pools.len c.deref_mut.ensures.value c.deref_mut.ensures.len c.sort_group.ensures.cores in
    (stayed old (with_pools old pools h) h (put_back old pools h (back ∙ c.in-Err.ensures.err ∙ c.deref_mut.ensures.value))).1

pub returns-clause-steps : goal.returns-clause-steps
returns-clause-steps g c =
    let w = world_of c.args.parts.now in
    let groups = c.args.parts.now.groups in
    let listed = prefix_at groups (packed_of c.args.parts.now.pools.items) c.args.group in
    let count : length (members (keys_of w) (group_at w c.args.group)) ≡ len_at groups c.args.group = length_permutation listed (members (keys_of w) (group_at w c.args.group)) c.member_values.ensures.matching ∙ c.member_values.ensures.len in
    subst (λ n. c.sort_group.new.steps ≤ c.args.steps.now + length (group_at w c.args.group).own * n) (sym count) c.sort_group.ensures.steps
