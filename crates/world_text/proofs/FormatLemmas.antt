-- What a format's limits are.
use Rattle.std.proofs.Common.{◌≡◌, ◌<◌, ◌^◌, true, inl, inr, arith}
use Rattle.std.proofs.lemmas.Bool.{and_parts, or_cases, eqb-true}
use Rattle.entity_id.specs.declared.entity.Profile.{Profile}
use Rattle.entity_id.specs.Identifiers.{HasLimits, is_same_profile, p20_12, p32_32}
use Rattle.world_text.specs.declared.format.Format.{Format}
use Rattle.world_text.specs.Formats.{IsFormat}

limits_of : (profile like : Profile) → HasLimits like → is_same_profile profile like ≡ true → HasLimits profile
limits_of profile like limits e =
    let parts = and_parts _ _ e in
    let index = eqb-true profile.index_limit like.index_limit parts.0 in
    let version = eqb-true profile.version_limit like.version_limit parts.1 in
    record { index = omega arith; version = omega arith }

-- the limits of a format's profile are numbers of 32 bits
pub format_limits : (format : Format) → IsFormat format → HasLimits format.profile
format_limits format is =
    elim (or_cases _ _ is.profile) [
      | inl small ↦ limits_of format.profile p20_12 (record { index = omega arith; version = omega arith }) small
      | inr large ↦ limits_of format.profile p32_32 (record { index = omega arith; version = omega arith }) large
    ]

-- the slots of a format are numbered in 32 bits
pub format_slots : (format : Format) → IsFormat format → format.slot_limit < 2 ^ 32
format_slots format is = let limits = format_limits format is in omega (arith, limits.index, is.addressable)
