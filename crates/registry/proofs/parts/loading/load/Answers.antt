use Rattle.std.proofs.Common.{◌≡◌, ◌≤◌, List, length, replicate, sym, ap, ◌∙◌, subst, arith}
use Rattle.std.specs.Vec.{with_items}
use Rattle.std.proofs.lemmas.List.{with_items_is}
use Rattle.entity_id.specs.declared.entity.Entity.{Entity}
use Rattle.group_engine.specs.Grouped.{packed_of, cores_of, AreGrouped, AreStill}
use Rattle.storage.specs.Stored.{Stored}
use Rattle.world_model.specs.declared.component.Row.{Row}
use Rattle.world_model.specs.declared.group.GroupDecl.{GroupDecl}
use Rattle.world_model.specs.Groups.{AreLawfulGroups}
use Rattle.registry.specs.declared.parts.Parts.{Parts}
use Rattle.registry.specs.Held.{no_room}
use Rattle.registry.specs.Layout.{AreMadeOf}
use Rattle.registry.specs.Packing.{is_owned}
use Rattle.registry.proofs.CoreLemmas.{core_count}
use Rattle.registry.proofs.FreshLemmas.{IsLoaded, IsOfWorld, count_loaded, fresh_load}
use Rattle.registry.proofs.ResultLemmas.{if_ok}
use Rattle.registry.proofs.parts.loading.load.Goals as goal

pub load_groups-requires : goal.load_groups-requires
load_groups-requires g c =
    let count : length c.deref_mut.result.now ≡ length c.args.world.now.decls
    = ap length c.deref_mut.ensures.value ∙ count_loaded c.args.slot_limit c.args.world.now c.in_ok-pools.pools.items (c.in_ok-pools.ensures.rows ∙ c.as_slice-3.ensures) c.requires in
    record {
      few = let low : length c.args.world.now.decls ≤ 64 = c.requires.few_decls in omega (arith, count);
      lawful = subst (λ (decls : List GroupDecl). AreLawfulGroups (length c.deref_mut.result.now) decls) (sym c.as_slice-4.ensures)
          (subst (λ n. AreLawfulGroups n c.args.world.now.groups) (sym count) c.requires.groups);
    }

pub returns : goal.returns
returns g c =
    let world = c.args.world.now in
    let loaded = c.in_ok-pools.pools in
    let pools = with_items loaded c.load_groups.new.pools in
    let groups = c.in_ok-groups.groups in
    let put = c.in_ok-groups.ensures in
    let back : pools.items ≡ c.load_groups.new.pools = with_items_is loaded c.load_groups.new.pools (core_count c.load_groups.new.pools c.deref_mut.result.now put.cores ∙ c.deref_mut.ensures.len) in
    let of_rows : IsLoaded world groups loaded.items pools.items = record {
      decls = put.decls ∙ c.as_slice-4.ensures;
      count = put.pools ∙ ap length c.deref_mut.ensures.value;
      grouped = subst (λ (items : List (Stored Row)). AreGrouped groups.decls groups.lens (packed_of items)) (sym back) put.grouped;
      rows = c.in_ok-pools.ensures.rows ∙ c.as_slice-3.ensures;
      spare = c.in_ok-pools.ensures.spare ∙ ap (λ (rows : List (List (Entity × Row))). replicate (length rows) no_room) c.as_slice-3.ensures;
      cores = ap cores_of back ∙ put.cores ∙ ap cores_of c.deref_mut.ensures.value;
      still = subst (λ (decls : List GroupDecl). AreStill (is_owned decls) (packed_of loaded.items) (packed_of pools.items)) c.as_slice-4.ensures
          (subst (λ (items : List (Stored Row)). AreStill (is_owned c.as_slice-4.result.now) (packed_of loaded.items) (packed_of items)) (sym back)
          (subst (λ (items : List (Stored Row)). AreStill (is_owned c.as_slice-4.result.now) (packed_of items) (packed_of c.load_groups.new.pools)) c.deref_mut.ensures.value put.still));
    } in
    let of_world : (parts : Parts g.row.L.Denot) → AreMadeOf parts world.profile c.in_ok-decls.decls c.in_ok-slots.slots pools.items groups → IsOfWorld parts c.args.slot_limit world
    = λ parts made. fresh_load parts c.args.slot_limit world c.in_ok-decls.decls c.in_ok-slots.slots c.as_slice.result.now c.as_slice-2.result.now loaded.items pools.items groups made
    c.in_ok-decls.ensures c.in_ok-slots.ensures c.as_slice.ensures c.as_slice-2.ensures of_rows c.requires in
    record {
      consistent = if_ok c.unheard_parts.result c.unheard_parts.ensures (λ parts made. (of_world parts made).kept);
      held = if_ok c.unheard_parts.result c.unheard_parts.ensures (λ parts made. (of_world parts made).held);
      still = if_ok c.unheard_parts.result c.unheard_parts.ensures (λ parts made. (of_world parts made).still);
    }
