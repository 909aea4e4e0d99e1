-- The answers of check and family, and the command that adds a group.
use Rattle.std.proofs.Common.{◌≡◌, ℕ, Bool, true, false, not, [], ◌∷◌, ◌++◌, length, Option, Some, None, unwrap_or, refl}
use Rattle.std.specs.Prelude.{if◌then◌else◌, is_some, nat_lt}
use Rattle.std.specs.Option.{option_map, option_map_or, option_or}
use Rattle.world_model.specs.declared.command.Command.TheVariants.{Group}
use Rattle.world_model.specs.declared.command.Reply.TheVariants.{GroupNumber}
use Rattle.world_model.specs.declared.group.GroupDecl.{GroupDecl}
use Rattle.world_model.specs.declared.refusal.Refusal.TheVariants as refusal
use Rattle.world_model.specs.declared.world.World.{World}
use Rattle.world_model.specs.Groups.{group_limit, group_pools, are_declared, is_well_formed}
use Rattle.world_model.specs.Outcomes.{answers, outcome_of}
use Rattle.world_model.specs.Refusing.{refuse, refusal_of}
use Rattle.group_rules.specs.declared.refused.DeclRefused.TheVariants.{NoPool, BadDecl}
use Rattle.group_rules.specs.declared.refused.FamilyRefused.TheVariants.{Conflict, TooMany}
use Rattle.group_rules.specs.Families.{decl_refusal, same_in, conflict_in, add_refusal, number_of, groups_with}
use Rattle.group_rules.specs.Refusals.{of_decl, of_family}

pub refusals_agree : (limit : ℕ) (w : World) (decl : GroupDecl) → refusal_of limit w (Group decl) ≡ option_or (option_map of_decl (decl_refusal (length w.decls) decl)) (option_map of_family (add_refusal w.groups decl))
refusals_agree limit w decl =
    agree (are_declared (length w.decls) (group_pools decl)) (is_well_formed decl) (nat_lt (length w.groups) group_limit) (same_in w.groups decl) (conflict_in w.groups decl)
  where
    agree : (declared formed room : Bool) (same with : Option ℕ)
        → option_or (refuse (not declared) refusal.NoPool) (option_or (refuse (not formed) refusal.BadDecl) (option_or (if is_some same then None else option_or (option_map (λ group. refusal.Conflict group) with) (refuse (not room) refusal.TooMany)) None))
        ≡ option_or (option_map of_decl (if not declared then Some NoPool else (if not formed then Some BadDecl else None)))
        (option_map of_family (if is_some same then None else option_or (option_map (λ group. Conflict group) with) (if room then None else Some TooMany)))
    agree false formed room same with = refl
    agree true false room same with = refl
    agree true true room (Some group) with = refl
    agree true true room None (Some group) = refl
    agree true true true None None = refl
    agree true true false None None = refl

pub outcomes_agree : (limit : ℕ) (w : World) (decl : GroupDecl) → outcome_of limit w (Group decl) ≡ answers (record w { groups = groups_with w.groups decl }) (GroupNumber (number_of w.groups decl))
outcomes_agree limit w decl = agree (same_in w.groups decl)
  where
    agree : (same : Option ℕ)
        → option_map_or (λ group. answers w (GroupNumber group)) same (answers (record w { groups = w.groups ++ decl ∷ [] }) (GroupNumber (length w.groups)))
        ≡ answers (record w { groups = if is_some same then w.groups else w.groups ++ decl ∷ [] }) (GroupNumber (unwrap_or same (length w.groups)))
    agree None = refl
    agree (Some group) = refl
