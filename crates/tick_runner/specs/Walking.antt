-- Pools along which systems may walk: first identifiers of a pool that are a system's entities.
use Rattle.std.specs.Prelude.{ℕ, List, Option, IfSome}
use Rattle.std.specs.List.{AllZip}
use Rattle.storage.specs.Stored.{Stored}
use Rattle.world_model.specs.declared.access.Access.{Access}
use Rattle.world_model.specs.declared.component.Row.{Row}
use Rattle.registry.specs.Lending.{BeginsWithMembers}

-- if there is a prefix, so many first identifiers of its pool are a system's entities
abbrev pub IsPrefixFor : Access → List (Stored Row) → Option (ℕ × ℕ) → Type 0
IsPrefixFor access pools prefix = IfSome prefix (λ prefix. BeginsWithMembers access pools prefix.0 prefix.1)

-- the same of each system
abbrev pub ArePrefixesFor : {S : Type 0} → (S → Access) → List (Stored Row) → List S → List (Option (ℕ × ℕ)) → Type 0
ArePrefixesFor lists pools systems prefixes = AllZip (λ system prefix. IsPrefixFor (lists system) pools prefix) systems prefixes
