-- Storages with other values, and pairs in another order.
use Rattle.std.specs.Prelude.{List, [], ◌∷◌, ◌++◌, map, take, drop, length}
use Rattle.std.specs.List.{zip}
use Rattle.std.specs.Option.{option_map, option_to_list}
use Rattle.entity_id.specs.declared.entity.Entity.{Entity}
use Rattle.entity_id.specs.FiniteMap as entries
use Rattle.storage.specs.Stored.{Stored}

-- the storage with the value of one identifier set
abbrev pub with_value : {T : Type 0} → Stored T → Entity → T → Stored T
with_value s entity value = record { pairs = entries.with_value s.pairs entity value; spare = s.spare; index_bound = s.index_bound }

-- the storage with other values, in packed order; it has no more than it has identifiers, and keeps its last ones where there are fewer
abbrev pub with_values : {T : Type 0} → Stored T → List T → Stored T
with_values s values = record { pairs = zip (entries.keys s.pairs) (take (length s.pairs) (values ++ drop (length values) (map (λ pair. pair.1) s.pairs))); spare = s.spare; index_bound = s.index_bound }

-- the pairs of these identifiers, in this order; one that has no value has no pair
abbrev pub in_order : {T : Type 0} → List Entity → List (Entity × T) → List (Entity × T)
in_order [] pairs = []
in_order (entity ∷ rest) pairs = option_to_list (option_map (λ value. (entity, value)) (entries.get pairs entity)) ++ in_order rest pairs
