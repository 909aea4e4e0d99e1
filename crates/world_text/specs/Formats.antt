-- Versions of the document's format.
use Rattle.std.specs.Prelude.{ℕ, ◌≤◌, ◌<◌, ◌^◌, IsTrue}
use Rattle.entity_id.specs.Identifiers.{p20_12, is_profile}
use Rattle.world_text.specs.declared.format.Format.{Format}

-- the greatest tick number
abbrev pub tick_limit : ℕ
tick_limit = 1000000000000

-- version 1: identifiers of 20 and 12 bits
abbrev pub version_1 : Format
version_1 = record { version = 1; profile = p20_12; slot_limit = 1048575 }

-- what every version has: a number of 64 bits, one of the two profiles, and room for its slots among the indices
pub record IsFormat (format : Format) : Type 0 where
  pub number : format.version < 2 ^ 64
  pub profile : IsTrue (is_profile format.profile)
  pub addressable : format.slot_limit ≤ format.profile.index_limit
