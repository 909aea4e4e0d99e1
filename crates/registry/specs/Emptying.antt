-- How a registry is laid out while its pools are lent. No public clause cites this file.
use Rattle.std.specs.Prelude.{◌≡◌, length}
use Rattle.registry.specs.declared.parts.Parts.{Parts}
use Rattle.registry.specs.Layout.{held_of}
use Rattle.registry.specs.Lending.{Emptied}

-- what a contract sees of parts whose pools are lent
abbrev pub emptied_of : {L : Type 0} → Parts L → Emptied
emptied_of parts = record { rest = held_of parts; lens = parts.groups.lens }

-- what parts keep whose pools are lent: three signals for each component, and groups over as many pools
pub record IsShell {L : Type 0} (parts : Parts L) : Type 0 where
  pub profile : parts.profile ≡ parts.slots.profile
  pub construct_each : length parts.construct.items ≡ length parts.decls
  pub update_each : length parts.update.items ≡ length parts.decls
  pub destroy_each : length parts.destroy.items ≡ length parts.decls
  pub group_pools : parts.groups.pools ≡ length parts.decls
