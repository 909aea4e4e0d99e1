-- How groups stand to each other, which are lawful together, and why one more is refused.
use Rattle.std.specs.Prelude.{if◌then◌else◌, ◌≤◌, ◌&&◌, not, nat_lt, Bool, ℕ, length, List, [], ◌∷◌, ◌++◌, Option, Some, None, is_some, IsTrue}
use Rattle.std.specs.Prelude.{IsFalse, AllPairs}
use Rattle.std.specs.List.{AllByRecursion, position_from}
use Rattle.std.specs.Option.{option_map, option_or, unwrap_or}
use Rattle.world_model.specs.declared.group.GroupDecl.{GroupDecl}
use Rattle.world_model.specs.Groups.{group_limit, group_pools, are_declared, is_well_formed, is_inner, is_same_group, is_apart, groups_conflict, may_coexist}
use Rattle.group_rules.specs.declared.relation.Relation.{Relation}
use Rattle.group_rules.specs.declared.relation.Relation.TheVariants.{Same, Apart, Inner, Outer, Conflict}
use Rattle.group_rules.specs.declared.refused.DeclRefused.{DeclRefused}
use Rattle.group_rules.specs.declared.refused.DeclRefused.TheVariants.{NoPool, BadDecl}
use Rattle.group_rules.specs.declared.refused.FamilyRefused.{FamilyRefused}
use Rattle.group_rules.specs.declared.refused.FamilyRefused.TheVariants as refused

-- ---- two groups

-- how the first group stands to the second: the first of the five relations that holds
abbrev pub relation_of : GroupDecl → GroupDecl → Relation
relation_of a b =
    if is_same_group a b then Same
    else (if is_apart a b then Apart
    else (if is_inner a b then Inner
    else (if is_inner b a then Outer else Conflict)))

-- what each relation says of the two
abbrev pub Stands : Relation → GroupDecl → GroupDecl → Type 0
Stands Same a b = IsTrue (is_same_group a b)
Stands Apart a b = IsTrue (is_apart a b)
Stands Inner a b = IsTrue (is_inner a b) × IsFalse (is_inner b a)
Stands Outer a b = IsTrue (is_inner b a) × IsFalse (is_inner a b)
Stands Conflict a b = IsTrue (groups_conflict a b)

-- the same relation, seen from the second group
abbrev pub mirrored : Relation → Relation
mirrored Same = Same
mirrored Apart = Apart
mirrored Inner = Outer
mirrored Outer = Inner
mirrored Conflict = Conflict

-- how one group stands to another that it may stand beside: apart, inner or outer
pub data StandsBeside (a b : GroupDecl) : Type 0 where
  apart_from : Stands Apart a b → StandsBeside a b
  inner_to : Stands Inner a b → StandsBeside a b
  outer_to : Stands Outer a b → StandsBeside a b

-- ---- one declaration

-- whether a declaration is a group's, over so many pools
abbrev pub is_admitted : ℕ → GroupDecl → Bool
is_admitted pools decl = are_declared pools (group_pools decl) && is_well_formed decl

-- why a declaration is no group's over so many pools: it names one that isn't there; or else it owns none, names one twice, or
-- names too many
abbrev pub decl_refusal : ℕ → GroupDecl → Option DeclRefused
decl_refusal pools decl =
    if not (are_declared pools (group_pools decl)) then Some NoPool
    else (if not (is_well_formed decl) then Some BadDecl else None)

-- ---- families

-- groups that are lawful together: no more than the limit, each well-formed, any two different, and apart or nested
pub record AreLawfulTogether (groups : List GroupDecl) : Type 0 where
  pub few : length groups ≤ group_limit
  pub well_formed : AllByRecursion (λ decl. IsTrue (is_well_formed decl)) groups
  pub coexist : AllPairs (λ earlier later. IsTrue (may_coexist later earlier)) groups

-- the number of the group that is the same as this one, if there is one
abbrev pub same_in : List GroupDecl → GroupDecl → Option ℕ
same_in groups decl = position_from (is_same_group decl) 0 groups

-- the number of the least group that conflicts with this one, if there is one
abbrev pub conflict_in : List GroupDecl → GroupDecl → Option ℕ
conflict_in groups decl = position_from (groups_conflict decl) 0 groups

-- why a group is not added: one conflicts with it, and the least is named; or else there are as many as may be. Neither where
-- the same group stands
abbrev pub add_refusal : List GroupDecl → GroupDecl → Option FamilyRefused
add_refusal groups decl =
    if is_some (same_in groups decl) then None
    else option_or (option_map (λ group. refused.Conflict group) (conflict_in groups decl))
    (if nat_lt (length groups) group_limit then None else Some refused.TooMany)

-- the number that a group has once it is added: that of the same one, or the next
abbrev pub number_of : List GroupDecl → GroupDecl → ℕ
number_of groups decl = unwrap_or (same_in groups decl) (length groups)

-- the groups with this one added, where the same one doesn't stand
abbrev pub groups_with : List GroupDecl → GroupDecl → List GroupDecl
groups_with groups decl = if is_some (same_in groups decl) then groups else groups ++ decl ∷ []
