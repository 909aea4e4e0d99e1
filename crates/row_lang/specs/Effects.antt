-- What a system of the language does: its body, for each of its entities.
use Rattle.std.specs.Prelude.{◌≡◌, ℕ, ◌+◌, true, if◌then◌else◌, List, [], ◌∷◌, map, length, unwrap_or}
use Rattle.std.specs.List.{flat_map, AllByRecursion}
use Rattle.entity_id.specs.declared.entity.Entity.{Entity}
use Rattle.entity_id.specs.declared.entity.Profile.{Profile}
use Rattle.entity_id.specs.FiniteMap as entries
use Rattle.world_model.specs.declared.access.Access.{Access}
use Rattle.world_model.specs.declared.component.Decl.{Decl}
use Rattle.world_model.specs.declared.component.Row.{Row}
use Rattle.world_model.specs.Components.{zero_row}
use Rattle.world_model.specs.Groups.{has_pool}
use Rattle.world_model.specs.Ticks.{Maps, Effect}
use Rattle.row_lang.specs.declared.token.Token.{Token}
use Rattle.row_lang.specs.Bodies.{Done, body_done}
use Rattle.world_model.specs.Frames.{IsLawfulAccess, own_pools, map_at, is_member, members}
use Rattle.row_lang.specs.Naming.{names_of}
use Rattle.row_lang.specs.Places.{is_statement}
use Rattle.row_lang.specs.Spelling.{IsToken}
use Rattle.row_lang.specs.Systems.{System}
use Rattle.row_lang.specs.Values.{Setting, own_row}

-- the own rows of an entity, each behind its component's number
abbrev pub own_rows : Access → Maps → Entity → List (ℕ × Row)
own_rows access maps entity = map (λ pool. (pool, unwrap_or (entries.get (map_at maps pool) entity) zero_row)) (own_pools access)

-- what the body finds for an entity: the components that it looks at as they are
abbrev pub setting_of : Profile → Access → ℕ → Maps → Entity → Setting
setting_of profile access tick maps entity =
    record { profile = profile; tick = tick; entity = entity; looked_at = map (λ pool. (pool, map_at maps pool)) access.look }

-- what the body does for an entity
abbrev pub done_for : Profile → System → ℕ → Maps → Entity → Done
done_for profile system tick maps entity =
    body_done (setting_of profile system.access tick maps entity) (own_rows system.access maps entity) system.statements

-- the rows of a written component: each of the system's entities has the row that the body leaves, each other identifier the one it had
abbrev pub rewritten : Profile → System → ℕ → Maps → ℕ → List (Entity × Row) → List (Entity × Row)
rewritten profile system tick maps pool rows = map (λ entry.
    (entry.0, if is_member system.access maps entry.0 then own_row (done_for profile system tick maps entry.0).rows pool else entry.1)) rows

-- items changed, each by its number and itself; the first one has this number
abbrev pub changed_from : {X : Type 0} → ℕ → (ℕ → X → X) → List X → List X
changed_from number change [] = []
changed_from number change (x ∷ xs) = change number x ∷ changed_from (number + 1) change xs

-- what a system does, for all of its entities from the rows before it. The components that it writes are rewritten, and all others
-- stay; the orders are those of its entities in ascending index, of each in the order of its statements
abbrev pub system_effect : Profile → System → ℕ → Maps → Effect
system_effect profile system tick maps = record {
  maps = changed_from 0 (λ pool rows. if has_pool system.access.write pool then rewritten profile system tick maps pool rows else rows) maps;
  orders = flat_map (λ entity. (done_for profile system tick maps entity).orders) (members system.access maps);
}

-- ---- checked systems

-- statements of a system with these lists, of tokens that a text can spell by these names
abbrev pub AreStatements : List (List ℕ) → List Decl → Access → List (List Token) → Type 0
AreStatements names decls access statements = AllByRecursion (λ tokens. AllByRecursion (IsToken names) tokens × (is_statement decls access tokens ≡ true)) statements

-- a system of lawful lists, of whose statements each is one under these components
pub record IsChecked (decls : List Decl) (system : System) : Type 0 where
  pub lists : IsLawfulAccess (length decls) system.access
  pub statements : AreStatements (names_of decls) decls system.access system.statements
