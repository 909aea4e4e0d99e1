-- The systems that lines stand for are lawful, the closed ones and the one that isn't closed, and a line that fits keeps them so.
use Rattle.std.proofs.Common.{◌≡◌, ℕ, ◌+◌, ◌<◌, ◌≤◌, Bool, true, false, not, ◌||◌, leb, List, [], ◌∷◌, ◌++◌, length, map, refl, sym, ap, subst, ◌∙◌, arith, cond, inl, inr}
use Rattle.std.specs.Prelude.{Option, Some, None, MatchOption, nat_lt, count_by}
use Rattle.std.specs.List.{AllByRecursion, flat_map, list_any}
use Rattle.std.specs.Option.{option_map_or}
use Rattle.std.specs.Str.{bytes_eq}
use Rattle.std.proofs.lemmas.List.{length-append, map-append}
use Rattle.std.proofs.lemmas.List.Sums.{sum_by-append}
use Rattle.std.proofs.lemmas.List.Folds.{list_any-append}
use Rattle.std.proofs.lemmas.Bool.{cases_Bool, and_parts, and_from, or_parts, or_from, ltb-true, leb-true, not-true, not_from_false}
use Rattle.entity_id.proofs.ListLemmas.{all-append}
use Rattle.world_model.specs.declared.component.Decl.{Decl}
use Rattle.world_model.specs.Names.{is_name}
use Rattle.row_lang.specs.declared.token.Token.{Token}
use Rattle.row_lang.specs.BodyLines.{BodyLine, Lists, Do, Close}
use Rattle.row_lang.specs.Naming.{names_of}
use Rattle.row_lang.specs.Spelling.{IsBodyLine}
use Rattle.row_lang.specs.Systems.{System, Draft, IsDraftOf, IsSystem, begun, admits, after_line, after_lines, are_admitted, is_closed, is_command, command_count}
use Rattle.world_text.specs.declared.format.Format.{Format}
use Rattle.world_text.specs.declared.section.Section.TheVariants as section
use Rattle.world_text.specs.LineKinds.{Line}
use Rattle.world_text.specs.LineKinds as line
use Rattle.world_text.specs.Lines.{IsLine}
use Rattle.world_text.specs.Sections.{order, is_between}
use Rattle.world_text.specs.Meaning.{decl_in}
use Rattle.world_text.specs.SystemLines.{SystemsSoFar, no_systems, with_body, with_line, systems_in, commands_of, unfinished_commands, commands_so_far}
use Rattle.world_text.specs.Fitting.{last_section, are_different, is_unfinished, may_begin, are_names_of, goes_on_system, leaves_commands_few, fits}
use Rattle.world_text.specs.Documents.{AreLawfulSystems}
use Rattle.world_text.proofs.MeaningLemmas.{keeps}
use Rattle.world_text.proofs.SystemLemmas.{systems_push, no_systems_yet, systems_before, names_are}

-- ---- one line more of a system taken by itself

pub after_push : (decls : List Decl) (draft : Draft) (lines : List BodyLine) (l : BodyLine) → after_lines decls draft (lines ++ l ∷ []) ≡ after_line decls (after_lines decls draft lines) l
after_push decls draft [] l = refl
after_push decls draft (m ∷ lines) l = after_push decls (after_line decls draft m) lines l

admitted_push : (decls : List Decl) (draft : Draft) (lines : List BodyLine) (l : BodyLine) → are_admitted decls draft lines ≡ true → admits decls (after_lines decls draft lines) l ≡ true → are_admitted decls draft (lines ++ l ∷ []) ≡ true
admitted_push decls draft [] l are one = and_from _ _ one refl
admitted_push decls draft (m ∷ lines) l are one =
    let parts = and_parts (admits decls draft m) (are_admitted decls (after_line decls draft m) lines) are in
    and_from _ _ parts.0 (admitted_push decls (after_line decls draft m) lines l parts.1 one)

pub draft_push : (decls : List Decl) (name : List ℕ) (lines : List BodyLine) (draft : Draft) (l : BodyLine) → IsDraftOf decls name lines draft → IsBodyLine (names_of decls) l → admits decls draft l ≡ true → IsDraftOf decls name (lines ++ l ∷ []) (after_line decls draft l)
draft_push decls name lines draft l of is fit = record {
  named = of.named;
  each = all-append (IsBodyLine (names_of decls)) lines (l ∷ []) of.each (is, tt);
  admitted = admitted_push decls (begun name) lines l of.admitted (ap (λ (d : Draft). admits decls d l) (sym of.reached) ∙ fit);
  reached = ap (λ (d : Draft). after_line decls d l) of.reached ∙ sym (after_push decls (begun name) lines l);
}

-- lines up to the last stand for a system
closed_is_system : (decls : List Decl) (name : List ℕ) (lines : List BodyLine) (draft : Draft) → IsDraftOf decls name lines draft → IsBodyLine (names_of decls) Close → admits decls draft Close ≡ true → IsSystem decls draft.system
closed_is_system decls name lines draft of is fit =
    let closed = draft_push decls name lines draft Close of is fit in (
      name,
      lines ++ Close ∷ [],
      record {
        named = closed.named;
        each = closed.each;
        admitted = closed.admitted;
        closed = ap is_closed (sym closed.reached);
        stands = ap (λ (d : Draft). d.system) closed.reached;
      },
    )

-- ---- what is lawful so far

-- the unfinished system: lines lead to it, there is room for it beside the closed ones, and none of them has its name
pub record IsSoundDraft (decls : List Decl) (closed : List System) (draft : Draft) : Type 0 where
  pub name : List ℕ
  pub lines : List BodyLine
  pub led_to : IsDraftOf decls name lines draft
  pub room : length closed < 64
  pub is_new : list_any (λ system. bytes_eq system.name draft.system.name) closed ≡ false

abbrev pub IsSoundUnfinished : List Decl → List System → Option Draft → Type 0
IsSoundUnfinished decls closed unfinished = MatchOption unfinished (Unit {0}) (λ draft. IsSoundDraft decls closed draft)

pub record AreSoundSystems (decls : List Decl) (systems : SystemsSoFar) : Type 0 where
  pub few : length systems.closed ≤ 64
  pub each : AllByRecursion (IsSystem decls) systems.closed
  pub apart : are_different (map (λ system. system.name) systems.closed) ≡ true
  pub going : IsSoundUnfinished decls systems.closed systems.unfinished
  pub commands : commands_so_far systems ≤ 64

pub no_systems_sound : (decls : List Decl) → AreSoundSystems decls no_systems
no_systems_sound decls = record { few = omega arith; each = tt; apart = refl; going = tt; commands = omega arith }

-- ---- a first line

first_line_sound : (decls : List Decl) (systems : SystemsSoFar) (name : List ℕ) → is_name name ≡ true → may_begin systems name ≡ true → AreSoundSystems decls systems → AreSoundSystems decls (record { closed = systems.closed; unfinished = Some (begun name) })
first_line_sound decls systems name named fit sound =
    let tests = and_parts (nat_lt (length systems.closed) 64) (not (list_any (λ system. bytes_eq system.name name) systems.closed)) (and_parts (not (is_unfinished systems)) _ fit).1 in
    let room : length systems.closed < 64 = ltb-true _ _ tests.0 in
    record {
      few = sound.few;
      each = sound.each;
      apart = sound.apart;
      going = record {
        name = name;
        lines = [];
        led_to = record { named = named; each = tt; admitted = refl; reached = refl };
        room = room;
        is_new = not-true _ tests.1;
      };
      commands = omega (arith, sound.commands);
    }

-- ---- a further line

-- one more command statement at most
more_commands : (decls : List Decl) (systems : SystemsSoFar) (draft : Draft) (l : BodyLine) → systems.unfinished ≡ Some draft → leaves_commands_few systems l ≡ true → commands_so_far systems ≤ 64 → commands_of systems.closed + command_count (after_line decls draft l).system.statements ≤ 64
more_commands decls systems draft (Lists of pools) here few low = omega (arith, low, ap unfinished_commands here)
more_commands decls systems draft Close here few low = omega (arith, low, ap unfinished_commands here)
more_commands decls systems draft (Do tokens) here few low =
    let counted : command_count (draft.system.statements ++ tokens ∷ []) ≡ command_count draft.system.statements + command_count (tokens ∷ []) = sum_by-append _ draft.system.statements (tokens ∷ []) in
    let now : unfinished_commands systems.unfinished ≡ command_count draft.system.statements = ap unfinished_commands here in
    elim (cases_Bool (is_command tokens)) [
      | inl is ↦
          let one : command_count (tokens ∷ []) ≡ 1 = one_of tokens true is in
          let room : commands_so_far systems < 64 = ltb-true _ _ (ap (λ (b : Bool). not b || nat_lt (commands_so_far systems) 64) (sym is) ∙ few) in
          omega (arith, counted, now, one, room)
      | inr is_not ↦
          let none : command_count (tokens ∷ []) ≡ 0 = one_of tokens false is_not in
          omega (arith, counted, now, none, low)
    ]
  where
    one_of : (tokens : List Token) (b : Bool) → is_command tokens ≡ b → command_count (tokens ∷ []) ≡ cond b 1 0
    one_of tokens true e = ap (λ (b : Bool). count_by (λ (_ : List Token). b) (tokens ∷ [])) e
    one_of tokens false e = ap (λ (b : Bool). count_by (λ (_ : List Token). b) (tokens ∷ [])) e

-- a name that is new stays so
different_push : (systems : List System) (name : List ℕ) → are_different (map (λ system. system.name) systems) ≡ true → list_any (λ system. bytes_eq system.name name) systems ≡ false → are_different (map (λ system. system.name) systems ++ name ∷ []) ≡ true
different_push [] name apart is_new = refl
different_push (s ∷ systems) name apart is_new =
    let names = map (λ (system : System). system.name) systems in
    let parts = and_parts (not (list_any (bytes_eq s.name) names)) (are_different names) apart in
    let new_parts = or_parts (bytes_eq s.name name) (list_any (λ system. bytes_eq system.name name) systems) is_new in
    and_from _ _
    (not_from_false _ (list_any-append (bytes_eq s.name) names (name ∷ []) ∙ or_from _ _ (not-true _ parts.0) (or_from _ _ new_parts.0 refl)))
    (different_push systems name parts.1 new_parts.1)

body_sound : (decls : List Decl) (systems : SystemsSoFar) (draft : Draft) (l : BodyLine) → systems.unfinished ≡ Some draft → IsSoundDraft decls systems.closed draft → IsBodyLine (names_of decls) l → admits decls draft l ≡ true → leaves_commands_few systems l ≡ true → AreSoundSystems decls systems → AreSoundSystems decls (with_body decls systems.closed draft l)
body_sound decls systems draft Close here going is fit few sound =
    let name_of : System → List ℕ = λ system. system.name in
    record {
      few = omega (arith, length-append systems.closed (draft.system ∷ []), going.room);
      each = all-append (IsSystem decls) systems.closed (draft.system ∷ []) sound.each (closed_is_system decls going.name going.lines draft going.led_to is fit, tt);
      apart = ap are_different (map-append name_of systems.closed (draft.system ∷ [])) ∙ different_push systems.closed draft.system.name sound.apart going.is_new;
      going = tt;
      commands =
          let added : commands_of (systems.closed ++ draft.system ∷ []) ≡ commands_of systems.closed + commands_of (draft.system ∷ []) = sum_by-append _ systems.closed (draft.system ∷ []) in
          omega (arith, added, sound.commands, ap unfinished_commands here);
    }
body_sound decls systems draft (Lists of pools) here going is fit few sound = record {
  few = sound.few;
  each = sound.each;
  apart = sound.apart;
  going = record { name = going.name; lines = going.lines ++ Lists of pools ∷ []; led_to = draft_push decls going.name going.lines draft (Lists of pools) going.led_to is fit; room = going.room; is_new = going.is_new };
  commands = more_commands decls systems draft (Lists of pools) here few sound.commands;
}
body_sound decls systems draft (Do tokens) here going is fit few sound = record {
  few = sound.few;
  each = sound.each;
  apart = sound.apart;
  going = record { name = going.name; lines = going.lines ++ Do tokens ∷ []; led_to = draft_push decls going.name going.lines draft (Do tokens) going.led_to is fit; room = going.room; is_new = going.is_new };
  commands = more_commands decls systems draft (Do tokens) here few sound.commands;
}

-- what goes on is there
there : (decls : List Decl) (systems : SystemsSoFar) (l : BodyLine) (unfinished : Option Draft) → systems.unfinished ≡ unfinished → IsBodyLine (names_of decls) l → option_map_or (λ draft. admits decls draft l) unfinished false ≡ true → leaves_commands_few systems l ≡ true → IsSoundUnfinished decls systems.closed unfinished → AreSoundSystems decls systems → AreSoundSystems decls (option_map_or (λ draft. with_body decls systems.closed draft l) unfinished systems)
there decls systems l None here is fit few going sound = absurd cc
there decls systems l (Some draft) here is fit few going sound = body_sound decls systems draft l here going is fit few sound

-- ---- any line

early_enough : (before : List Line) → is_between section.Version section.Components (last_section before) ≡ true → order (last_section before) < 4
early_enough before placed =
    let low : order (last_section before) ≤ 2 = leb-true (order (last_section before)) 2 (and_parts (leb 1 (order (last_section before))) (leb (order (last_section before)) 2) placed).1 in
    omega arith

component_keeps : (before : List Line) (decl : Decl) → order (last_section before) < 4 → AreSoundSystems (flat_map decl_in (before ++ line.Component decl ∷ [])) (systems_in (before ++ line.Component decl ∷ []))
component_keeps before decl early =
    let decls = flat_map decl_in (before ++ line.Component decl ∷ []) in
    subst (AreSoundSystems decls) (sym (no_systems_yet (flat_map decl_in before) no_systems before early) ∙ systems_before before decl early) (no_systems_sound decls)

system_pushed : (before : List Line) (l : Line) → decl_in l ≡ [] → AreSoundSystems (flat_map decl_in before) (with_line (flat_map decl_in before) (systems_in before) l) → AreSoundSystems (flat_map decl_in (before ++ l ∷ [])) (systems_in (before ++ l ∷ []))
system_pushed before l no_decl sound =
    subst (λ (decls : List Decl). AreSoundSystems decls (systems_in (before ++ l ∷ []))) (keeps decl_in before l _ no_decl refl)
    (subst (AreSoundSystems (flat_map decl_in before)) (sym (systems_push before l no_decl)) sound)

pub systems_after : (format : Format) (before : List Line) (l : Line) → IsLine format l → fits format before l ≡ true → AreSoundSystems (flat_map decl_in before) (systems_in before) → AreSoundSystems (flat_map decl_in (before ++ l ∷ [])) (systems_in (before ++ l ∷ []))
systems_after format before (line.Component decl) is fit sound =
    component_keeps before decl (early_enough before (and_parts _ _ fit).0)
systems_after format before (line.System name) is fit sound =
    system_pushed before (line.System name) refl (first_line_sound (flat_map decl_in before) (systems_in before) name is (and_parts _ _ fit).1 sound)
systems_after format before (line.Body names body) is fit sound =
    let decls = flat_map decl_in before in
    let tests = and_parts (are_names_of (flat_map decl_in before) names) (goes_on_system (flat_map decl_in before) (systems_in before) body) (and_parts _ _ fit).1 in
    let goes = and_parts (option_map_or (λ draft. admits (flat_map decl_in before) draft body) (systems_in before).unfinished false) (leaves_commands_few (systems_in before) body) tests.1 in
    let is_body : IsBodyLine (names_of decls) body = subst (λ (ns : List (List ℕ)). IsBodyLine ns body) (names_are decls names tests.0) is.is in
    system_pushed before (line.Body names body) refl (there decls (systems_in before) body (systems_in before).unfinished refl is_body goes.0 goes.1 sound.going sound)
systems_after format before line.End is fit sound = system_pushed before line.End refl sound
systems_after format before l is fit sound = system_pushed before l refl sound

-- ---- the whole

pub sound_is_lawful : (decls : List Decl) (systems : SystemsSoFar) → AreSoundSystems decls systems → AreLawfulSystems decls systems.closed
sound_is_lawful decls systems sound = record { few = sound.few; each = sound.each; apart = sound.apart; commands = omega (arith, sound.commands) }
