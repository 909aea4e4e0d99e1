-- Owning groups: which declarations are lawful, how two of them stand to each other, and what a group is in packed lists.
use Rattle.std.specs.Prelude.{◌≡◌, ℕ, ◌≤◌, Bool, true, not, ◌&&◌, ◌==◌, nat_lt, nat_le, List, [], ◌∷◌, ◌++◌, length, take, slice_index_or, IsTrue, AllPairs, IsPermutation}
use Rattle.std.specs.List.{list_any, list_all, AllByRecursion, AllZip}
use Rattle.entity_id.specs.declared.entity.Entity.{Entity}
use Rattle.entity_id.specs.Matching.{matches}
use Rattle.world_model.specs.declared.group.GroupDecl.{GroupDecl}

-- how many groups a world has at most
abbrev pub group_limit : ℕ
group_limit = 32

-- how many pools a group names at most
abbrev pub group_pool_limit : ℕ
group_pool_limit = 8

-- ---- lists of pools

-- whether a list of pools has this one
abbrev pub has_pool : List ℕ → ℕ → Bool
has_pool pools pool = list_any (λ other. other == pool) pools

-- whether every pool of the second list is in the first
abbrev pub includes : List ℕ → List ℕ → Bool
includes pools others = list_all (has_pool pools) others

-- whether no pool is named twice
abbrev pub are_distinct : List ℕ → Bool
are_distinct [] = true
are_distinct (pool ∷ pools) = not (has_pool pools pool) && are_distinct pools

-- whether every pool is below the number of components
abbrev pub are_declared : ℕ → List ℕ → Bool
are_declared count pools = list_all (λ pool. nat_lt pool count) pools

-- ---- declarations

-- the pools that a group names, in its three lists
abbrev pub group_pools : GroupDecl → List ℕ
group_pools decl = decl.own ++ decl.get ++ decl.without

-- whether a group owns a pool, names none twice and not more than the limit
abbrev pub is_well_formed : GroupDecl → Bool
is_well_formed decl = nat_lt 0 (length decl.own) && are_distinct (group_pools decl) && nat_le (length (group_pools decl)) group_pool_limit

-- whether a group is inner to another: each list of the outer one is contained in its own. So a group is inner to itself
abbrev pub is_inner : GroupDecl → GroupDecl → Bool
is_inner inner outer = includes inner.own outer.own && includes inner.get outer.get && includes inner.without outer.without

-- whether two groups have the same lists, as sets
abbrev pub is_same_group : GroupDecl → GroupDecl → Bool
is_same_group a b = is_inner a b && is_inner b a

-- whether two groups own no pool in common
abbrev pub is_apart : GroupDecl → GroupDecl → Bool
is_apart a b = not (list_any (has_pool a.own) b.own)

-- whether two groups own a pool in common, and neither is inner to the other
abbrev pub groups_conflict : GroupDecl → GroupDecl → Bool
groups_conflict a b = not (is_apart a b) && not (is_inner a b) && not (is_inner b a)

-- whether two groups may stand beside each other: they are not the same, and they are apart or nested
abbrev pub may_coexist : GroupDecl → GroupDecl → Bool
may_coexist a b = not (is_same_group a b) && not (groups_conflict a b)

-- lawful groups over this many components: no more than the limit, each of declared components and well-formed, any two
-- different, and apart or nested
pub record AreLawfulGroups (count : ℕ) (groups : List GroupDecl) : Type 0 where
  pub few : length groups ≤ group_limit
  pub declared : AllByRecursion (λ decl. IsTrue (are_declared count (group_pools decl))) groups
  pub well_formed : AllByRecursion (λ decl. IsTrue (is_well_formed decl)) groups
  pub coexist : AllPairs (λ earlier later. IsTrue (may_coexist later earlier)) groups

-- ---- packed lists

-- the identifiers of a group in the maps: those in every owned and observed pool and in no excluded one
abbrev pub members : List (List Entity) → GroupDecl → List Entity
members maps decl = matches maps (decl.own ++ decl.get) decl.without

-- one packed list for each map, which holds the map's identifiers in some order
abbrev pub ArePackedListsOf : List (List Entity) → List (List Entity) → Type 0
ArePackedListsOf maps packed = AllZip IsPermutation maps packed

-- the packed list of this number
abbrev pub packed_at : List (List Entity) → ℕ → List Entity
packed_at packed pool = slice_index_or packed pool []

-- the first so many identifiers of the first owned pool
abbrev pub group_prefix : List (List Entity) → GroupDecl → ℕ → List Entity
group_prefix packed decl count = take count (packed_at packed (slice_index_or decl.own 0 0))

-- a lawful group of this length in packed lists of these maps: no owned list is shorter, the first so many identifiers of all owned
-- lists are equal place by place, and they are those that match in the maps, in some order
pub record IsLawfulGroup (maps packed : List (List Entity)) (decl : GroupDecl) (count : ℕ) : Type 0 where
  pub within : AllByRecursion (λ pool. count ≤ length (packed_at packed pool)) decl.own
  pub common : AllByRecursion (λ pool. take count (packed_at packed pool) ≡ group_prefix packed decl count) decl.own
  pub matching : IsPermutation (group_prefix packed decl count) (members maps decl)

-- the same in a form that computes, without the maps: each owned list begins with the group's members in the packed lists, in the
-- order of the first owned one
pub record IsPacked (packed : List (List Entity)) (decl : GroupDecl) (count : ℕ) : Type 0 where
  pub counted : length (members packed decl) ≡ count
  pub begins : AllByRecursion (λ pool. take count (packed_at packed pool) ≡ members packed decl) decl.own
