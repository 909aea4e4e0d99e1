-- What a group that is not refused tells of the groups that it joins.
use Rattle.std.proofs.Common.{◌≡◌, ◌<◌, ℕ, Bool, true, false, List, length, Option, Some, None, refl, sym}
use Rattle.std.specs.Prelude.{if◌then◌else◌, nat_lt, is_some}
use Rattle.std.specs.Option.{option_map, option_or}
use Rattle.std.proofs.lemmas.Bool.{ltb-true}
use Rattle.std.proofs.lemmas.Option.{none-some}
use Rattle.world_model.specs.declared.group.GroupDecl.{GroupDecl}
use Rattle.world_model.specs.Groups.{group_limit}
use Rattle.group_rules.specs.declared.refused.FamilyRefused.TheVariants as refused
use Rattle.group_rules.specs.Families.{same_in, conflict_in, add_refusal}

parts_of : (same with : Option ℕ) (room : Bool) → same ≡ None → (if is_some same then None else option_or (option_map (λ group. refused.Conflict group) with) (if room then None else Some refused.TooMany)) ≡ None → (with ≡ None) × (room ≡ true)
parts_of (Some group) with room fresh fits = absurd (none-some group (sym fresh))
parts_of None (Some group) room fresh fits = absurd (none-some (refused.Conflict group) (sym fits))
parts_of None None true fresh fits = (refl, refl)
parts_of None None false fresh fits = absurd (none-some refused.TooMany (sym fits))

pub none_conflicts : (groups : List GroupDecl) (decl : GroupDecl) → same_in groups decl ≡ None → add_refusal groups decl ≡ None → conflict_in groups decl ≡ None
none_conflicts groups decl fresh fits = (parts_of (same_in groups decl) (conflict_in groups decl) (nat_lt (length groups) group_limit) fresh fits).0

pub there_is_room : (groups : List GroupDecl) (decl : GroupDecl) → same_in groups decl ≡ None → add_refusal groups decl ≡ None → length groups < group_limit
there_is_room groups decl fresh fits = ltb-true (length groups) group_limit (parts_of (same_in groups decl) (conflict_in groups decl) (nat_lt (length groups) group_limit) fresh fits).1
