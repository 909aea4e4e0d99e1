use Rattle.std.proofs.Common.{◌≡◌, take}
use Rattle.std.specs.Prelude.{filter}
use Rattle.entity_id.specs.Matching.{is_match}
use Rattle.world_model.specs.Contents.{keys_of}
use Rattle.registry.specs.Layout.{world_of}
use Rattle.registry.proofs.parts.viewing.matching.Given as goal

abbrev pub invariant-loop-entity : goal.invariant-loop-entity
invariant-loop-entity g l = l.found.items ≡ filter (is_match (keys_of (world_of l.parts)) l.all l.without) (take l.entity-index l.list)
