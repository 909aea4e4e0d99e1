use Rattle.std.proofs.Common.{◌≡◌, [], ◌∷◌, take}
use Rattle.entity_id.specs.Matching.{matches}
use Rattle.world_model.specs.Contents.{keys_of}
use Rattle.registry_uses.specs.declared.beginning.TheConstants.{POSITION, VELOCITY, FROZEN}
use Rattle.registry_uses.specs.Scenes.{IsScene}
use Rattle.registry_uses.proofs.MovingLemmas.{HaveMoved}
use Rattle.registry_uses.proofs.moving.advance_all.Given as goal

abbrev pub invariant-loop-entity : goal.invariant-loop-entity
invariant-loop-entity g l = record {
  scene : IsScene l.registry;
  listed : l.entity-items ≡ matches (keys_of l.fn.registry.world) (POSITION ∷ VELOCITY ∷ []) (FROZEN ∷ []);
  packed : l.registry.packed ≡ l.fn.registry.packed;
  moved : HaveMoved l.fn.registry.world l.registry.world (take l.entity-index l.entity-items);
}
