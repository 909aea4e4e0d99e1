-- The numbers of refusals.
use Rattle.std.specs.Prelude.{ℕ}
use Rattle.world_model.specs.declared.refusal.Refusal.{Refusal}
use Rattle.world_model.specs.declared.refusal.Refusal.TheVariants.{Dead, Present, Absent, Full, Conflict, Owned, TooMany, NoPool, BadDecl, OutOfMemory, NoGroup, HasInner, BadKey, Unknown}

-- the number of a refusal
abbrev pub number_of : Refusal → ℕ
number_of Dead = 1
number_of Present = 2
number_of Absent = 3
number_of Full = 4
number_of (Conflict group) = 5
number_of (Owned group) = 6
number_of TooMany = 7
number_of NoPool = 8
number_of BadDecl = 9
number_of OutOfMemory = 10
number_of NoGroup = 11
number_of (HasInner group) = 12
number_of BadKey = 13
number_of Unknown = 14
