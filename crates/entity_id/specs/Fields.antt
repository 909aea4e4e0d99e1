-- Identifiers as the fields of rows hold them.
use Rattle.std.specs.Prelude.{◌+◌, ◌*◌, ◌/◌, ◌%◌, ◌^◌, if◌then◌else◌, ℤ, negsuc}
use Rattle.std.specs.Int.{w64, cast_signed, cast_unsigned}
use Rattle.std.specs.Ordering.{int_eq}
use Rattle.entity_id.specs.declared.entity.Profile.{Profile}
use Rattle.entity_id.specs.declared.entity.Entity.{Entity}
use Rattle.entity_id.specs.Identifiers.{null, is_same}

-- the field of an identifier: -1 for null, and else 64 bits with the index in the low 32 and the version in the high ones
abbrev pub field_of : Profile → Entity → ℤ
field_of profile entity = if is_same entity (null profile) then negsuc 0 else cast_signed w64 (entity.index + entity.version * 2 ^ 32)

-- the identifier in a field
abbrev pub entity_in : Profile → ℤ → Entity
entity_in profile field =
    if int_eq field (negsuc 0) then null profile
    else record { index = cast_unsigned w64 field % 2 ^ 32; version = cast_unsigned w64 field / 2 ^ 32 }
