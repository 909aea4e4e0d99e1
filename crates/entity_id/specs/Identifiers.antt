-- Identifiers and profiles.
use Rattle.std.specs.Prelude.{ℕ, ◌+◌, ◌≤◌, ◌<◌, ◌^◌, Bool, ◌&&◌, ◌||◌, ◌==◌, if◌then◌else◌}
use Rattle.entity_id.specs.declared.entity.Profile.{Profile}
use Rattle.entity_id.specs.declared.entity.Entity.{Entity}

-- 20 bits of index and 12 of version
abbrev pub p20_12 : Profile
p20_12 = record { index_limit = 1048575; version_limit = 4095 }

-- 32 bits of each
abbrev pub p32_32 : Profile
p32_32 = record { index_limit = 4294967295; version_limit = 4294967295 }

-- whether two profiles have the same limits
abbrev pub is_same_profile : Profile → Profile → Bool
is_same_profile a b = (a.index_limit == b.index_limit) && (a.version_limit == b.version_limit)

-- whether this is one of the two profiles
abbrev pub is_profile : Profile → Bool
is_profile profile = is_same_profile profile p20_12 || is_same_profile profile p32_32

-- the limits of a profile are numbers of 32 bits
pub record HasLimits (profile : Profile) : Type 0 where
  pub index : profile.index_limit < 2 ^ 32
  pub version : profile.version_limit < 2 ^ 32

-- neither part of an identifier is above the profile's limit
pub record IsOfProfile (profile : Profile) (entity : Entity) : Type 0 where
  pub index : entity.index ≤ profile.index_limit
  pub version : entity.version ≤ profile.version_limit

-- the identifier whose parts are both the limits
abbrev pub null : Profile → Entity
null profile = record { index = profile.index_limit; version = profile.version_limit }

-- whether two identifiers are the same, in index and version
abbrev pub is_same : Entity → Entity → Bool
is_same a b = (a.index == b.index) && (a.version == b.version)

-- the version after one: the next number, or 0 where that is the version limit, which no entity gets
abbrev pub next_version : Profile → ℕ → ℕ
next_version profile version = if version + 1 == profile.version_limit then 0 else version + 1
