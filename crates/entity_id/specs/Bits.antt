-- Identifiers as one number: the index in the low bits, the version in the high ones.
use Rattle.std.specs.Prelude.{ℕ, ◌+◌, ◌*◌, ◌/◌, ◌%◌}
use Rattle.entity_id.specs.declared.entity.Profile.{Profile}
use Rattle.entity_id.specs.declared.entity.Entity.{Entity}

-- how many indices a profile has; its limit is all index bits set
abbrev pub index_span : Profile → ℕ
index_span profile = profile.index_limit + 1

-- how many identifiers a profile has, null among them: the bits of each are a number of their own below this one
abbrev pub bit_span : Profile → ℕ
bit_span profile = (profile.version_limit + 1) * index_span profile

-- the bits of an identifier
abbrev pub bits_of : Profile → Entity → ℕ
bits_of profile entity = entity.index + entity.version * index_span profile

-- the identifier of these bits
abbrev pub entity_of_bits : Profile → ℕ → Entity
entity_of_bits profile bits = record { index = bits % index_span profile; version = bits / index_span profile }
