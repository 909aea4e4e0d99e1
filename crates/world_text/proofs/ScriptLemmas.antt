-- What scripts leave.
use Rattle.std.proofs.Common.{◌≡◌, ℕ, ◌≤◌, Bool, true, false, cond, ltb, List, [], ◌∷◌, ◌++◌, slice_get, Option, Some, None, count_by, refl, sym, ap, ◌∙◌, subst, append_assoc}
use Rattle.std.specs.List.{AllByRecursion}
use Rattle.std.proofs.lemmas.List.{append-nil}
use Rattle.entity_id.proofs.ListLemmas.{all-append}
use Rattle.entity_id.specs.declared.entity.Profile.{Profile}
use Rattle.world_model.specs.declared.command.Command.{Command}
use Rattle.world_model.specs.declared.command.Command.TheVariants as command
use Rattle.world_model.specs.declared.component.Decl.{Decl}
use Rattle.world_model.specs.declared.event.EventKind.{EventKind}
use Rattle.world_model.specs.declared.world.World.{World}
use Rattle.world_model.specs.Conditions.{IsAllowed}
use Rattle.world_model.specs.Outcomes.{outcome_of}
use Rattle.world_model.specs.Steps.{step}
use Rattle.world_model.specs.Worlds.{IsLawful}
use Rattle.world_model.proofs.StepLaw.{step_lawful}
use Rattle.world_model.proofs.StepLemmas.{step_cases, remove_cases, group_cases, SameComponents, same, both, step_same}
use Rattle.world_text.specs.declared.document.Document.{Document}
use Rattle.world_text.specs.declared.script.ScriptLine.{ScriptLine}
use Rattle.world_text.specs.declared.script.ScriptLine.TheVariants.{Run, Watch, Unwatch}
use Rattle.row_lang.specs.Naming.{AreNamedDecls}
use Rattle.world_text.specs.Documents.{HasAscendingLists, IsLawfulDocument, AreLawfulSystems}
use Rattle.world_text.specs.Formats.{version_1}
use Rattle.world_text.specs.Playing.{Watching, ScriptOutcome, is_watch_of, watch_limit, watch_outcome, unwatch_outcome, line_outcome, outcome_from, document_after}
use Rattle.world_text.specs.Scripts.{IsCommandLine, IsScriptLine}

-- a line of a script is allowed
pub line_allowed : (w : World) (c : Command) → IsCommandLine w.profile w.decls c → IsAllowed w c
line_allowed w (command.Emplace e pool row) is = is.1
line_allowed w (command.EmplaceOrReplace e pool row) is = is.1
line_allowed w (command.Replace e pool row) is = is.1
line_allowed w (command.Patch e pool field value) is = is.1
line_allowed w (command.View all without) is = is.bounds
line_allowed w _ is = tt

-- ---- what lines of scripts keep

-- lines of a script stay lines of a script
pub each_after : (w v : World) (lines : List ScriptLine) → SameComponents w v → AllByRecursion (IsScriptLine w.profile w.decls) lines → AllByRecursion (IsScriptLine v.profile v.decls) lines
each_after w v lines kept each =
    subst (λ (p : Profile). AllByRecursion (IsScriptLine p v.decls) lines) (sym kept.profile) (subst (λ (d : List Decl). AllByRecursion (IsScriptLine w.profile d) lines) (sym kept.decls) each)

-- the groups of a world have ascending lists
abbrev pub Ascends : World → Type 0
Ascends w = AllByRecursion HasAscendingLists w.groups

accepted_ascends : (limit : ℕ) (w : World) (c : Command) → IsCommandLine w.profile w.decls c → Ascends w → Ascends (outcome_of limit w c).world
accepted_ascends limit w (command.Remove e pool) is h = remove_cases (λ o. Ascends o.world) w e pool h h
accepted_ascends limit w (command.Group decl) is h =
    group_cases (λ o. Ascends o.world) w decl (λ _. h)
    (all-append HasAscendingLists w.groups (decl ∷ []) h (record { own = is.own.kept.ascending; get = is.get.kept.ascending; without = is.without.kept.ascending }, tt))
accepted_ascends limit w _ is h = h

pub step_ascends : (limit : ℕ) (w : World) (c : Command) → IsCommandLine w.profile w.decls c → Ascends w → Ascends (step limit w c).world
step_ascends limit w c is h = step_cases (λ o. Ascends o.world) limit w c (λ _ _. h) (λ _. accepted_ascends limit w c is h)

-- ---- lines about watches

either_world : (w : World) (b : Bool) (x y : ScriptOutcome) → x.world ≡ w → y.world ≡ w → (cond b x y).world ≡ w
either_world w true x y p q = p
either_world w false x y p q = q

-- lines about watches leave the world
watch_world : (w : World) (watches : List Watching) (kind : EventKind) (pool : ℕ) → (watch_outcome w watches kind pool).world ≡ w
watch_world w watches kind pool = either_world w (ltb (count_by (is_watch_of kind pool) watches) watch_limit) _ _ refl refl

unwatch_world : (w : World) (watches : List Watching) (number : ℕ) (found : Option Watching) → (unwatch_outcome w watches number found).world ≡ w
unwatch_world w watches number None = refl
unwatch_world w watches number (Some watch) = either_world w watch.stands _ _ refl refl

-- ---- lines one after another

pub line_keeps : (limit : ℕ) (w : World) (watches : List Watching) (line : ScriptLine) → SameComponents w (line_outcome limit w watches line).world
line_keeps limit w watches (Run c) = step_same limit w c
line_keeps limit w watches (Watch kind pool) = subst (SameComponents w) (sym (watch_world w watches kind pool)) (same w)
line_keeps limit w watches (Unwatch number) = subst (SameComponents w) (sym (unwatch_world w watches number (slice_get watches number))) (same w)

line_ascends : (limit : ℕ) (w : World) (watches : List Watching) (line : ScriptLine) → IsScriptLine w.profile w.decls line → Ascends w → Ascends (line_outcome limit w watches line).world
line_ascends limit w watches (Run c) is h = step_ascends limit w c is h
line_ascends limit w watches (Watch kind pool) is h = subst Ascends (sym (watch_world w watches kind pool)) h
line_ascends limit w watches (Unwatch number) is h = subst Ascends (sym (unwatch_world w watches number (slice_get watches number))) h

pub line_lawful : (limit : ℕ) (w : World) (watches : List Watching) (line : ScriptLine) → IsLawful limit w → IsScriptLine w.profile w.decls line → IsLawful limit (line_outcome limit w watches line).world
line_lawful limit w watches (Run c) lawful is = step_lawful limit w c lawful (line_allowed w c is)
line_lawful limit w watches (Watch kind pool) lawful is = subst (IsLawful limit) (sym (watch_world w watches kind pool)) lawful
line_lawful limit w watches (Unwatch number) lawful is = subst (IsLawful limit) (sym (unwatch_world w watches number (slice_get watches number))) lawful

pub script_keeps : (limit : ℕ) (w : World) (watches : List Watching) (lines : List ScriptLine) → SameComponents w (outcome_from limit w watches lines).world
script_keeps limit w watches [] = same w
script_keeps limit w watches (line ∷ lines) =
    let now = line_outcome limit w watches line in
    both (line_keeps limit w watches line) (script_keeps limit now.world now.watches lines)

script_ascends : (limit : ℕ) (w : World) (watches : List Watching) (lines : List ScriptLine) → AllByRecursion (IsScriptLine w.profile w.decls) lines → Ascends w → Ascends (outcome_from limit w watches lines).world
script_ascends limit w watches [] each h = h
script_ascends limit w watches (line ∷ lines) each h =
    let now = line_outcome limit w watches line in
    script_ascends limit now.world now.watches lines (each_after w now.world lines (line_keeps limit w watches line) each.1) (line_ascends limit w watches line each.0 h)

pub script_lawful : (limit : ℕ) (w : World) (watches : List Watching) (lines : List ScriptLine) → IsLawful limit w → AllByRecursion (IsScriptLine w.profile w.decls) lines → IsLawful limit (outcome_from limit w watches lines).world
script_lawful limit w watches [] lawful each = lawful
script_lawful limit w watches (line ∷ lines) lawful each =
    let now = line_outcome limit w watches line in
    script_lawful limit now.world now.watches lines (line_lawful limit w watches line lawful each.0)
    (each_after w now.world lines (line_keeps limit w watches line) each.1)

-- the document that a script leaves of a lawful one is lawful
pub after_is_lawful : (document : Document) (script : List ScriptLine) → IsLawfulDocument document → AllByRecursion (IsScriptLine version_1.profile document.world.decls) script → IsLawfulDocument (document_after document script)
after_is_lawful document script lawful each =
    let w = document.world in
    let lines = subst (λ (p : Profile). AllByRecursion (IsScriptLine p w.decls) script) (sym lawful.profile) each in
    let kept = script_keeps version_1.slot_limit w [] script in
    record {
      world = script_lawful version_1.slot_limit w [] script lawful.world lines;
      profile = kept.profile ∙ lawful.profile;
      tick = subst (λ (tick : ℕ). tick ≤ 1000000000000) (sym kept.tick) lawful.tick;
      ascending = script_ascends version_1.slot_limit w [] script lines lawful.ascending;
      named = subst AreNamedDecls (sym kept.decls) lawful.named;
      systems = subst (λ (decls : List Decl). AreLawfulSystems decls document.systems) (sym kept.decls) lawful.systems;
    }

-- one line more
pub outcome-push : (limit : ℕ) (w : World) (watches : List Watching) (lines : List ScriptLine) (line : ScriptLine) → let before = outcome_from limit w watches lines in let now = line_outcome limit before.world before.watches line in
    ((outcome_from limit w watches (lines ++ line ∷ [])).world ≡ now.world) × ((outcome_from limit w watches (lines ++ line ∷ [])).watches ≡ now.watches)
outcome-push limit w watches [] line = (refl, refl)
outcome-push limit w watches (first ∷ lines) line =
    let now = line_outcome limit w watches first in
    outcome-push limit now.world now.watches lines line

pub printed-push : (limit : ℕ) (w : World) (watches : List Watching) (lines : List ScriptLine) (line : ScriptLine) → let before = outcome_from limit w watches lines in
    (outcome_from limit w watches (lines ++ line ∷ [])).printed ≡ before.printed ++ (line_outcome limit before.world before.watches line).printed
printed-push limit w watches [] line = append-nil (line_outcome limit w watches line).printed
printed-push limit w watches (first ∷ lines) line =
    let now = line_outcome limit w watches first in
    ap (λ (later : List ℕ). now.printed ++ later) (printed-push limit now.world now.watches lines line)
    ∙ sym (append_assoc now.printed (outcome_from limit now.world now.watches lines).printed _)
