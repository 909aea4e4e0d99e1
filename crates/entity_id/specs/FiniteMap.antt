-- A finite map from identifiers, as the list of its entries in ascending index: a component's rows.
use Rattle.std.specs.Prelude.{◌≡◌, ℕ, ◌<◌, Bool, not, ◌==◌, nat_lt, if◌then◌else◌, List, [], ◌∷◌, ◌++◌, map, filter, Option, Some, is_some, slice_get}
use Rattle.std.specs.List.{AllByRecursion, list_any}
use Rattle.std.specs.Map.{lookup}
use Rattle.entity_id.specs.declared.entity.Entity.{Entity}
use Rattle.entity_id.specs.Identifiers.{is_same}

-- the value of an identifier
abbrev pub get : {X : Type 0} → List (Entity × X) → Entity → Option X
get entries entity = lookup (is_same entity) entries

-- whether an identifier has a value
abbrev pub contains : {X : Type 0} → List (Entity × X) → Entity → Bool
contains entries entity = is_some (get entries entity)

-- the identifiers that have a value
abbrev pub keys : {X : Type 0} → List (Entity × X) → List Entity
keys entries = map (λ entry. entry.0) entries

-- the value set, in its place by index: the entries of smaller index, this one, and those of greater index; the entry of
-- another version of this index, which no lawful world has, goes
abbrev pub put : {X : Type 0} → List (Entity × X) → Entity → X → List (Entity × X)
put entries entity value =
    filter (λ entry. nat_lt entry.0.index entity.index) entries
    ++ (entity, value) ∷ filter (λ entry. nat_lt entity.index entry.0.index) entries

-- the value of this identifier gone
abbrev pub remove : {X : Type 0} → List (Entity × X) → Entity → List (Entity × X)
remove entries entity = filter (λ entry. not (is_same entity entry.0)) entries

-- ascending by a number, so that no number comes twice
abbrev pub IsAscendingBy : {X : Type 0} → (X → ℕ) → List X → Type 0
IsAscendingBy number [] = Unit {0}
IsAscendingBy number (x ∷ xs) = AllByRecursion (λ y. number x < number y) xs × IsAscendingBy number xs

-- entries in ascending index, so that no index comes twice
abbrev pub IsAscending : {X : Type 0} → List (Entity × X) → Type 0
IsAscending entries = IsAscendingBy (λ entry. entry.0.index) entries

-- identifiers in ascending index
abbrev pub AreAscending : List Entity → Type 0
AreAscending entities = IsAscendingBy (λ entity. entity.index) entities

-- a number stands at one place at most
abbrev pub AreDistinctBy : {X : Type 0} → (X → ℕ) → List X → Type 0
AreDistinctBy {X} number xs = (i j : ℕ) (x y : X) → slice_get xs i ≡ Some x → slice_get xs j ≡ Some y → number x ≡ number y → i ≡ j

-- no two entries of one index, in whatever order they stand
abbrev pub HasEachOnce : {X : Type 0} → List (Entity × X) → Type 0
HasEachOnce entries = AreDistinctBy (λ entry. entry.0.index) entries

-- whether an identifier with this index has a value
abbrev pub has_index : {X : Type 0} → List (Entity × X) → ℕ → Bool
has_index entries index = list_any (λ entry. entry.0.index == index) entries

-- the entries in their places, with the value of one identifier set
abbrev pub with_value : {X : Type 0} → List (Entity × X) → Entity → X → List (Entity × X)
with_value entries entity value = map (λ entry. (entry.0, if is_same entity entry.0 then value else entry.1)) entries

-- the finite map that entries in any order stand for
abbrev pub map_of : {X : Type 0} → List (Entity × X) → List (Entity × X)
map_of [] = []
map_of (entry ∷ entries) = put (map_of entries) entry.0 entry.1
