-- Lists of components in a line: how their names are spelled, and which lists a line may have.
use Rattle.std.specs.Prelude.{ℕ, ◌<◌, ◌≤◌, ◌==◌, List, [], ◌∷◌, ◌++◌, map, length, slice_get, count_by, All}
use Rattle.std.specs.List.{flat_map}
use Rattle.std.specs.List.Sorted.{IsNonDecreasing}
use Rattle.std.specs.Option.{option_map_or}
use Rattle.world_model.specs.declared.component.Decl.{Decl}
use Rattle.world_model.specs.Tokens.{IsNameToken}

-- ---- spelling

-- names, each behind a space
abbrev pub spaced_names : List (List ℕ) → List ℕ
spaced_names names = flat_map (λ name. 32 ∷ name) names

-- names behind a word: nothing where there are none
abbrev pub names_behind : List ℕ → List (List ℕ) → List ℕ
names_behind word [] = []
names_behind word (name ∷ names) = word ++ spaced_names (name ∷ names)

-- the name of a component
abbrev pub name_at : List Decl → ℕ → List ℕ
name_at decls pool = option_map_or (λ decl. decl.name) (slice_get decls pool) []

-- names of components, each behind a space
abbrev pub names_text : List Decl → List ℕ → List ℕ
names_text decls pools = spaced_names (map (name_at decls) pools)

-- a part of a line that is left out where it lists nothing: a word and the names of components
abbrev pub part_text : List ℕ → List Decl → List ℕ → List ℕ
part_text word decls pools = names_behind word (map (name_at decls) pools)

-- ---- which lists there are

-- a declared component that its name tells: the name has the form of names, and no component before it has the same
pub record IsCalled (decls : List Decl) (pool : ℕ) : Type 0 where
  pub declared : pool < length decls
  pub named : IsNameToken decls (name_at decls pool) pool

-- components that their names tell, in ascending number
pub record AreKept (decls : List Decl) (pools : List ℕ) : Type 0 where
  pub called : All (IsCalled decls) pools
  pub ascending : IsNonDecreasing pools

-- no component is named twice
abbrev pub AreNamedOnce : List ℕ → Type 0
AreNamedOnce pools = (pool : ℕ) → count_by (λ other. other == pool) pools ≤ 1
