-- Components and their names.
use Rattle.std.specs.Prelude.{◌≡◌, ℕ, ◌≤◌, Bool, true, not, ◌&&◌, List, [], ◌∷◌, map, length}
use Rattle.std.specs.List.{list_any, AllByRecursion}
use Rattle.world_model.specs.declared.component.Decl.{Decl}
use Rattle.world_model.specs.Components.{IsDecl, has_name}
use Rattle.world_model.specs.Names.{is_name}
use Rattle.world_model.specs.Worlds.{component_limit}

-- a component with at most 4 fields, and a name of the form of a name
pub record IsNamedDecl (decl : Decl) : Type 0 where
  pub name : is_name decl.name ≡ true
  pub fields : IsDecl decl

-- no two components have one name
abbrev pub are_named_apart : List Decl → Bool
are_named_apart [] = true
are_named_apart (decl ∷ decls) = not (list_any (λ other. has_name other.name decl) decls) && are_named_apart decls

-- components that their names tell apart: no more than the limit, each with a name of the form of names, no two with the same
pub record AreNamedDecls (decls : List Decl) : Type 0 where
  pub few : length decls ≤ component_limit
  pub each : AllByRecursion IsNamedDecl decls
  pub apart : are_named_apart decls ≡ true

-- the names of components, by number
abbrev pub names_of : List Decl → List (List ℕ)
names_of decls = map (λ decl. decl.name) decls
