-- The refusals of groups among those of all commands.
use Rattle.world_model.specs.declared.refusal.Refusal.{Refusal}
use Rattle.world_model.specs.declared.refusal.Refusal.TheVariants as refusal
use Rattle.group_rules.specs.declared.refused.DeclRefused.{DeclRefused}
use Rattle.group_rules.specs.declared.refused.DeclRefused.TheVariants.{NoPool, BadDecl}
use Rattle.group_rules.specs.declared.refused.FamilyRefused.{FamilyRefused}
use Rattle.group_rules.specs.declared.refused.FamilyRefused.TheVariants.{Conflict, TooMany, OutOfMemory}

-- the refusal of a command for which a declaration is no group's
abbrev pub of_decl : DeclRefused → Refusal
of_decl NoPool = refusal.NoPool
of_decl BadDecl = refusal.BadDecl

-- the refusal of a command for which a group was not added
abbrev pub of_family : FamilyRefused → Refusal
of_family (Conflict group) = refusal.Conflict group
of_family TooMany = refusal.TooMany
of_family OutOfMemory = refusal.OutOfMemory
