-- Which identifiers are in all of some maps and in none of some others. A map is given by the list of its identifiers, and named
-- by its number.
use Rattle.std.specs.Prelude.{ℕ, Bool, not, ◌&&◌, List, [], ◌∷◌, filter, slice_index_or}
use Rattle.std.specs.List.{list_any, list_all}
use Rattle.entity_id.specs.declared.entity.Entity.{Entity}
use Rattle.entity_id.specs.Identifiers.{is_same}

-- whether the map of this number has the identifier; a map that isn't there has none
abbrev pub is_in : List (List Entity) → Entity → ℕ → Bool
is_in maps entity pool = list_any (is_same entity) (slice_index_or maps pool [])

-- whether the identifier is in every map of all and in no map of none
abbrev pub is_match : List (List Entity) → List ℕ → List ℕ → Entity → Bool
is_match maps all none entity = list_all (is_in maps entity) all && not (list_any (is_in maps entity) none)

-- the identifiers that match, in the order of the first map of all: where that map ascends in index, so do they. Of no map at all
-- nothing matches; whoever asks names one
abbrev pub matches : List (List Entity) → List ℕ → List ℕ → List Entity
matches maps [] none = []
matches maps (first ∷ rest) none = filter (is_match maps (first ∷ rest) none) (slice_index_or maps first [])
