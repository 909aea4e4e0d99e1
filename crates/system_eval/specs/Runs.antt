-- Systems of the language that may run, and how many orders one gives at most.
use Rattle.std.specs.Prelude.{ℕ, ◌*◌, List, [], ◌∷◌, map, nat_lt, slice_index_or, if◌then◌else◌}
use Rattle.std.specs.List.{AllByRecursion}
use Rattle.world_model.specs.declared.component.Decl.{Decl}
use Rattle.world_model.specs.Components.{IsDecl}
use Rattle.world_model.specs.Frames.{own_pools}
use Rattle.row_lang.specs.Effects.{IsChecked}
use Rattle.row_lang.specs.Systems.{System, command_count}

-- a system that is checked under some components of at most 4 fields each
pub record IsRunnable (system : System) : Type 0 where
  pub decls : List Decl
  pub declared : AllByRecursion IsDecl decls
  pub checked : IsChecked decls system

-- the smaller of two sizes
abbrev pub smaller : ℕ → ℕ → ℕ
smaller a b = if nat_lt b a then b else a

-- the smallest of some sizes, of which the first is this one
abbrev pub least_of : ℕ → List ℕ → ℕ
least_of first [] = first
least_of first (size ∷ sizes) = least_of (smaller first size) sizes

-- how many rows a component has; one that isn't there has none
abbrev pub size_at : List ℕ → ℕ → ℕ
size_at sizes pool = slice_index_or sizes pool 0

-- the sizes of these components
abbrev pub sizes_at : List ℕ → List ℕ → List ℕ
sizes_at sizes pools = map (size_at sizes) pools

-- the smallest size of these components
abbrev pub least_size : List ℕ → List ℕ → ℕ
least_size sizes [] = 0
least_size sizes (pool ∷ pools) = least_of (size_at sizes pool) (sizes_at sizes pools)

-- how many orders a system gives at most: one for each of its command statements and each row of the smallest component of its own
abbrev pub order_limit : System → List ℕ → ℕ
order_limit system sizes = command_count system.statements * least_size sizes (own_pools system.access)
