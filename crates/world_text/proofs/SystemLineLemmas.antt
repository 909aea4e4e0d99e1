-- Lines of systems at the front of a text: which lines may stand there, and what one adds.
use Rattle.std.proofs.Common.{◌≡◌, inl, inr, ℕ, Bool, true, false, not, ◌&&◌, List, [], ◌∷◌, ◌++◌, drop, codes, refl, sym, ap, subst, ◌∙◌}
use Rattle.std.specs.Prelude.{Option, Some, None, is_some}
use Rattle.std.specs.List.{flat_map}
use Rattle.std.specs.Option.{option_map_or}
use Rattle.std.proofs.lemmas.Bool.{cases_Bool, and_parts}
use Rattle.entity_id.specs.Cuts.{IsCut, Lacks}
use Rattle.entity_id.proofs.CutLemmas.{same_cut, no_cut}
use Rattle.world_model.specs.declared.component.Decl.{Decl}
use Rattle.world_model.specs.Names.{is_name}
use Rattle.row_lang.specs.BodyLines.{BodyLine, Lists, Do, Close}
use Rattle.row_lang.specs.Drafts.{IsFirstLine}
use Rattle.row_lang.specs.Naming.{names_of}
use Rattle.row_lang.specs.Spelling.{IsBodyLine, body_line_text}
use Rattle.row_lang.specs.Systems as systems
use Rattle.row_lang.specs.declared.access_list.AccessList.TheVariants as list
use Rattle.world_text.specs.SystemLines as lines
use Rattle.world_text.specs.declared.format.Format.{Format}
use Rattle.world_text.specs.declared.draft.Draft.{Draft}
use Rattle.world_text.specs.declared.section.Section.{Section}
use Rattle.world_text.specs.declared.section.Section.TheVariants as section
use Rattle.world_text.specs.LineKinds.{Line}
use Rattle.world_text.specs.LineKinds as line
use Rattle.world_text.specs.Lines.{line_text}
use Rattle.world_text.specs.Sections.{is_between}
use Rattle.world_text.specs.Meaning.{decl_in}
use Rattle.world_text.specs.SystemLines.{SystemsSoFar, systems_in}
use Rattle.world_text.specs.Fitting.{last_section, is_unfinished, are_names_of, leaves_commands_few, fits}
use Rattle.world_text.specs.Drafts.{Stands, goes_on, TakesBody, RefusesBody, Refuses, RefusesLine, RefusesOthers, IsNoBody, TakesLine}
use Rattle.world_text.proofs.AddingLemmas.{and_false_left, and_false_right}
use Rattle.world_text.proofs.WordLemmas.{lacks_behind, name_lacks}
use Rattle.world_text.proofs.BodyTextLemmas.{body_lacks, decls_names}
use Rattle.world_text.proofs.SystemLemmas.{names_are}

-- ---- which lines may stand next

-- the part of the systems is no other
only_systems : (first last s : Section) → is_between section.Systems section.Systems s ≡ true → is_between first last section.Systems ≡ false → is_between first last s ≡ false
only_systems first last section.Systems here none = none
only_systems first last section.Start here none = absurd cc
only_systems first last section.End here none = absurd cc
only_systems first last _ here none = absurd cc

-- where a system stands unfinished, only a line of one fits
pub only_body : (format : Format) (before : List Line) (l : Line) → IsNoBody l → is_between section.Systems section.Systems (last_section before) ≡ true → is_unfinished (systems_in before) ≡ true → fits format before l ≡ false
only_body format before line.Version no_body here going = only_systems section.Start section.Start (last_section before) here refl
only_body format before (line.Component decl) no_body here going = and_false_left _ _ (only_systems section.Version section.Components (last_section before) here refl)
only_body format before (line.Group named) no_body here going = and_false_left _ _ (only_systems section.Version section.Groups (last_section before) here refl)
only_body format before (line.System name) no_body here going = and_false_right (is_between section.Version section.Systems (last_section before)) _ (and_false_left _ _ (ap not going))
only_body format before (line.Body names body) no_body here going = absurd no_body
only_body format before (line.Tick tick) no_body here going = and_false_right (is_between section.Version section.Systems (last_section before)) _ (ap not going)
only_body format before (line.Slot slot) no_body here going = and_false_left _ _ (only_systems section.Tick section.Slots (last_section before) here refl)
only_body format before (line.Next index) no_body here going = and_false_left _ _ (only_systems section.Tick section.FreeList (last_section before) here refl)
only_body format before (line.Pool name) no_body here going = and_false_left _ _ (only_systems section.Tick section.Pools (last_section before) here refl)
only_body format before (line.Row entity values) no_body here going = and_false_left _ _ (only_systems section.Pools section.Pools (last_section before) here refl)
only_body format before line.End no_body here going = and_false_left _ _ (only_systems section.Tick section.Pools (last_section before) here refl)

-- where none does, no line of one fits
needs_one : (placed named few : Bool) (unfinished : Option systems.Draft) (admitted : systems.Draft → Bool) → (placed && is_some unfinished) ≡ false → (placed && (named && (option_map_or admitted unfinished false && few))) ≡ false
needs_one false named few unfinished admitted none = refl
needs_one true named few None admitted none = and_false_right named _ refl
needs_one true named few (Some draft) admitted none = absurd cc

-- the draft goes on a system where the lines do
going_on : (draft : Draft) (before : List Line) → Stands draft before → goes_on draft ≡ (is_between section.Systems section.Systems (last_section before) && is_unfinished (systems_in before))
going_on draft before s i = is_between section.Systems section.Systems (s.section i) && is_unfinished (s.systems i)

-- a text that no other line begins where none of a system may stand
pub refuses_all : (draft : Draft) (bytes : List ℕ) → goes_on draft ≡ false → RefusesOthers draft bytes → RefusesLine draft bytes
refuses_all draft bytes none others (line.Body names body) more is e before s =
    let decls = flat_map decl_in before in
    needs_one _ (are_names_of decls names) (leaves_commands_few (systems_in before) body) (systems_in before).unfinished (λ (d : systems.Draft). systems.admits (flat_map decl_in before) d body) (sym (going_on draft before s) ∙ none)
refuses_all draft bytes none others line.End more is e before s = others line.End more tt is e before s
refuses_all draft bytes none others l more is e before s = others l more tt is e before s

-- ---- a line of the unfinished system

body_refused_by : (draft : Draft) (front : List ℕ) (names : List (List ℕ)) (body : BodyLine) → RefusesBody draft front → IsBodyLine names body → front ≡ body_line_text names body → names ≡ names_of draft.decls.items → Refuses draft (line.Body names body)
body_refused_by draft front names body none is e same =
    subst (λ (ns : List (List ℕ)). Refuses draft (line.Body ns body)) (sym same)
    (none body (subst (λ (ns : List (List ℕ)). IsBodyLine ns body) same is) (e ∙ ap (λ (ns : List (List ℕ)). body_line_text ns body) same))

names_refused : (draft : Draft) (names : List (List ℕ)) (body : BodyLine) → are_names_of draft.decls.items names ≡ false → Refuses draft (line.Body names body)
names_refused draft names body others before s =
    and_false_right (is_between section.Systems section.Systems (last_section before)) _
    (and_false_left _ _ (ap (λ (decls : List Decl). are_names_of decls names) (sym s.decls) ∙ others))

-- a text whose first line is none of the unfinished system
pub refuses_body : (draft : Draft) (bytes front back : List ℕ) → goes_on draft ≡ true → IsCut bytes 10 front back → RefusesBody draft front → RefusesLine draft bytes
refuses_body draft bytes front back going cut none (line.Body names body) more is e before s =
    let same : front ≡ body_line_text names body = (same_cut 10 front (body_line_text names body) back more cut.first (body_lacks names body is.named) (sym cut.whole ∙ e)).0 in
    elim (cases_Bool (are_names_of draft.decls.items names)) [
      | inl own ↦ body_refused_by draft front names body none is.is same (names_are draft.decls.items names own) before s
      | inr others ↦ names_refused draft names body others before s
    ]
refuses_body draft bytes front back going cut none line.End more is e before s =
    let here = and_parts _ _ (sym (going_on draft before s) ∙ going) in
    only_body draft.format before line.End tt here.0 here.1
refuses_body draft bytes front back going cut none l more is e before s =
    let here = and_parts _ _ (sym (going_on draft before s) ∙ going) in
    only_body draft.format before l tt here.0 here.1

-- a text without a line end
pub refuses_endless : (draft : Draft) (bytes : List ℕ) → Lacks 10 bytes → RefusesLine draft bytes
refuses_endless draft bytes endless l more is e = absurd (no_cut 10 (line_text draft.format l) more (subst (Lacks 10) e endless))

-- a text whose first line is added
pub takes_body : (old new : Draft) (bytes front back : List ℕ) → IsCut bytes 10 front back → TakesBody old front new → TakesLine old bytes back new
takes_body old new bytes front back cut t = record {
  line = line.Body (names_of old.decls.items) t.body;
  is = record { named = decls_names old.decls.items old.named.each; is = t.is };
  spelled = cut.whole ∙ ap (λ (text : List ℕ). text ++ 10 ∷ back) t.spelled;
  taken = t.taken;
}

-- ---- the first line of a system

-- what the first line of a text names is what a system begins with
pub first_line : (text name : List ℕ) (draft : systems.Draft) → text ≡ codes "system " ++ name → IsFirstLine text draft → (draft ≡ systems.begun name) × (is_name name ≡ true)
first_line text name draft e first =
    let same : first.name ≡ name = ap (drop 7) (sym first.spelled ∙ e) in
    (first.stands ∙ ap systems.begun same, ap is_name (sym same) ∙ first.named)

-- a text cut at its first line end begins with one such line
pub system_is_front : (text front back rest name more : List ℕ) → IsCut text 10 front back → text ≡ codes "system " ++ rest → is_name name ≡ true → rest ≡ name ++ 10 ∷ more → front ≡ codes "system " ++ name
system_is_front text front back rest name more cut e named f =
    (same_cut 10 front (codes "system " ++ name) back more cut.first (lacks_behind 10 (codes "system ") name refl (name_lacks 10 refl name named)) (sym cut.whole ∙ e ∙ ap (λ (t : List ℕ). codes "system " ++ t) f)).0

-- ---- what a line of a system adds

pub with_body_more : (decls : List Decl) (closed : List systems.System) (draft : systems.Draft) (body : BodyLine) → systems.is_closed (systems.after_line decls draft body) ≡ false → lines.with_body decls closed draft body ≡ record { closed = closed; unfinished = Some (systems.after_line decls draft body) }
with_body_more decls closed draft Close more = absurd cc
with_body_more decls closed draft (Lists of pools) more = refl
with_body_more decls closed draft (Do tokens) more = refl

pub with_body_closed : (decls : List Decl) (closed : List systems.System) (draft : systems.Draft) (body : BodyLine) → systems.is_closed (systems.after_line decls draft body) ≡ true → lines.with_body decls closed draft body ≡ record { closed = closed ++ (systems.after_line decls draft body).system ∷ []; unfinished = None }
with_body_closed decls closed draft Close done = refl
with_body_closed decls closed draft (Lists list.Read pools) done = absurd cc
with_body_closed decls closed draft (Lists list.Write pools) done = absurd cc
with_body_closed decls closed draft (Lists list.Look pools) done = absurd cc
with_body_closed decls closed draft (Lists list.Without pools) done = absurd cc
with_body_closed decls closed draft (Do tokens) done = absurd cc
