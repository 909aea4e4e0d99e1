use Rattle.std.proofs.Common.{length, subst}
use Rattle.world_model.specs.Contents.{keys_of}
use Rattle.group_engine.specs.Grouped.{packed_of}
use Rattle.registry.specs.Layout.{world_of}
use Rattle.registry.proofs.LawLemmas.{HaveEachOnce, AreKnown, counted_groups, packed_of_maps, lawful_registry}
use Rattle.registry.proofs.parts.lawful.know_law.Goals as goal

pub returns : goal.returns
returns g c =
    let parts = c.args.parts.now in
    let once : HaveEachOnce parts.pools.items = subst HaveEachOnce c.deref.ensures.value c.know_each_once.ensures in
    let known : AreKnown (keys_of (world_of parts)) (packed_of parts.pools.items) parts.groups = record {
      each = c.decls.ensures.each;
      owns = c.pools_of_groups.ensures.owns;
      lawful = λ group decl count at long. c.groups_are_lawful.ensures.each (length parts.decls) (keys_of (world_of parts)) (packed_of parts.pools.items) parts.groups.decls parts.groups.lens group decl count c.requires.lawful.groups (packed_of_maps parts once) c.requires.grouped at long;
    } in
    record {
      lawful = lawful_registry parts c.requires once known;
      counted = counted_groups parts c.requires known;
      once = once;
    }
