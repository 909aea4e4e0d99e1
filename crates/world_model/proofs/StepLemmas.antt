-- What commands leave as it was, and commands one after another.
use Rattle.std.proofs.Common.{arith, ◌≡◌, ℕ, true, false, cond, List, [], ◌∷◌, ◌++◌, length, Some, None, sym, refl, ap, ◌∙◌, subst, append_assoc}
use Rattle.std.specs.List.{AllByRecursion}
use Rattle.std.specs.Option.{option_map_or}
use Rattle.entity_id.specs.declared.entity.Entity.{Entity}
use Rattle.entity_id.specs.declared.entity.Profile.{Profile}
use Rattle.entity_id.proofs.ListLemmas.{all_weaker}
use Rattle.world_model.specs.declared.command.Command.{Command}
use Rattle.world_model.specs.declared.command.Reply.TheVariants.{Number, GroupNumber, Refused}
use Rattle.world_model.specs.declared.component.Decl.{Decl}
use Rattle.world_model.specs.declared.group.GroupDecl.{GroupDecl}
use Rattle.world_model.specs.declared.refusal.Refusal.{Refusal}
use Rattle.world_model.specs.declared.world.World.{World}
use Rattle.world_model.specs.Conditions.{IsAllowed}
use Rattle.world_model.specs.Contents.{has_row, group_where}
use Rattle.world_model.specs.Groups.{is_same_group}
use Rattle.world_model.specs.Outcomes.{Outcome, answers, drops, outcome_of}
use Rattle.world_model.specs.Refusing.{refusal_of}
use Rattle.world_model.specs.Steps.{step, run, unless_refused}
use Rattle.world_model.specs.Worlds.{IsLawful}
use Rattle.world_model.proofs.StepLaw.{step_lawful}

-- ---- by cases

-- what the step of a command is, whether or not it is refused
pub step_cases : (P : Outcome → Type 0) (limit : ℕ) (w : World) (command : Command) → ((cause : Refusal) → refusal_of limit w command ≡ Some cause → P (answers w (Refused cause))) → (refusal_of limit w command ≡ None → P (outcome_of limit w command)) → P (step limit w command)
step_cases P limit w command refused accepted =
    elim (refusal_of limit w command) as (λ r. refusal_of limit w command ≡ r → P (unless_refused w r (outcome_of limit w command))) [
      | None ↦ accepted
      | Some cause ↦ refused cause
    ] refl

-- what a Remove and a Group give, by their two cases
pub remove_cases : (P : Outcome → Type 0) (w : World) (e : Entity) (pool : ℕ) → P (drops w e pool (Number 1)) → P (answers w (Number 0)) → P (cond (has_row w pool e) (drops w e pool (Number 1)) (answers w (Number 0)))
remove_cases P w e pool gone none = elim (has_row w pool e) as (λ b. P (cond b (drops w e pool (Number 1)) (answers w (Number 0)))) [ true ↦ gone | false ↦ none ]

pub group_cases : (P : Outcome → Type 0) (w : World) (decl : GroupDecl) → ((group : ℕ) → P (answers w (GroupNumber group))) → P (answers (record w { groups = w.groups ++ decl ∷ [] }) (GroupNumber (length w.groups)))
    → P (option_map_or (λ group. answers w (GroupNumber group)) (group_where w (is_same_group decl)) (answers (record w { groups = w.groups ++ decl ∷ [] }) (GroupNumber (length w.groups))))
group_cases P w decl found added =
    elim (group_where w (is_same_group decl)) as (λ f. P (option_map_or (λ group. answers w (GroupNumber group)) f (answers (record w { groups = w.groups ++ decl ∷ [] }) (GroupNumber (length w.groups))))) [
      | Some group ↦ found group
      | None ↦ added
    ]

-- ---- what stays

-- the same profile, components and tick number
pub record SameComponents (w v : World) : Type 0 where
  pub profile : v.profile ≡ w.profile
  pub decls : v.decls ≡ w.decls
  pub tick : v.tick ≡ w.tick

pub same : (w : World) → SameComponents w w
same w = record { profile = refl; decls = refl; tick = refl }

pub both : {w v u : World} → SameComponents w v → SameComponents v u → SameComponents w u
both one next = record { profile = next.profile ∙ one.profile; decls = next.decls ∙ one.decls; tick = next.tick ∙ one.tick }

pub step_same : (limit : ℕ) (w : World) (command : Command) → SameComponents w (step limit w command).world
step_same limit w command = record { profile = grind arith; decls = grind arith; tick = grind arith }

-- ---- one after another

-- what is allowed in one world is allowed in every world of the same profile and components
pub allowed_after : (w v : World) (command : Command) → SameComponents w v → IsAllowed w command → IsAllowed v command
allowed_after w v command is h =
    of_parts command
    (subst (λ (d : List Decl). IsAllowed (record w { profile = v.profile; decls = d }) command) (sym is.decls)
    (subst (λ (p : Profile). IsAllowed (record w { profile = p }) command) (sym is.profile) h))
  where
    of_parts : (command : Command) → IsAllowed (record w { profile = v.profile; decls = v.decls }) command → IsAllowed v command
    of_parts _ h = h

-- allowed commands one after another keep a lawful world
pub run_lawful : (limit : ℕ) (w : World) (commands : List Command) → IsLawful limit w → AllByRecursion (IsAllowed w) commands → IsLawful limit (run limit w commands).world
run_lawful limit w [] h ok = h
run_lawful limit w (command ∷ commands) h ok =
    run_lawful limit (step limit w command).world commands (step_lawful limit w command h ok.0)
    (all_weaker _ _ (λ later. allowed_after w (step limit w command).world later (step_same limit w command)) commands ok.1)

-- commands in two parts
pub run-append_world : (limit : ℕ) (w : World) (xs ys : List Command) → (run limit w (xs ++ ys)).world ≡ (run limit (run limit w xs).world ys).world
run-append_world limit w [] ys = refl
run-append_world limit w (x ∷ xs) ys = run-append_world limit (step limit w x).world xs ys

pub run-append_replies : (limit : ℕ) (w : World) (xs ys : List Command) → (run limit w (xs ++ ys)).replies ≡ (run limit w xs).replies ++ (run limit (run limit w xs).world ys).replies
run-append_replies limit w [] ys = refl
run-append_replies limit w (x ∷ xs) ys = ap (λ later. (step limit w x).reply ∷ later) (run-append_replies limit (step limit w x).world xs ys)

pub run-append_events : (limit : ℕ) (w : World) (xs ys : List Command) → (run limit w (xs ++ ys)).events ≡ (run limit w xs).events ++ (run limit (run limit w xs).world ys).events
run-append_events limit w [] ys = refl
run-append_events limit w (x ∷ xs) ys =
    ap (λ later. (step limit w x).events ++ later) (run-append_events limit (step limit w x).world xs ys)
    ∙ sym (append_assoc (step limit w x).events _ _)
