-- Worked rows of made worlds, computed.
use Rattle.std.proofs.Common.{◌≡◌, pos, negsuc, List, [], ◌∷◌, replicate, refl}
use Rattle.entity_id.specs.declared.entity.Entity.{Entity}
use Rattle.world_model.specs.declared.component.Row.{Row}
use Rattle.world_model.specs.Components.{zero_row}
use Rattle.world_maker.specs.MadeWorlds.{first_owner, one_field, two_fields, made_pools, rows_of_frozen}

abbrev pub both : Row → Row → List (Entity × Row)
both first second = (first_owner 0, first) ∷ (first_owner 1, second) ∷ []

pub two_entities_of_1 : made_pools 1 2
    ≡ both (two_fields (pos 149) (pos 249)) (two_fields (pos 742) (pos 836))
    ∷ both (two_fields (pos 1) (pos 1)) (two_fields (negsuc 3) (pos 4))
    ∷ both (one_field (pos 84)) (one_field (pos 79))
    ∷ both (one_field (pos 3)) (one_field (pos 0))
    ∷ both (one_field (pos 1)) (one_field (pos 0))
    ∷ both (one_field (pos 4)) (one_field (pos 2))
    ∷ both (one_field (pos 22)) (one_field (pos 34))
    ∷ []
    ∷ both zero_row zero_row
    ∷ []
two_entities_of_1 = refl

pub no_entities : made_pools 1 0 ≡ replicate 9 []
no_entities = refl

-- of the number 65536 the tenth draws of the first three entities can be divided by 8
pub frozen_ones : rows_of_frozen 65536 3 ≡ (first_owner 0, zero_row) ∷ (first_owner 1, zero_row) ∷ (first_owner 2, zero_row) ∷ []
frozen_ones = refl
