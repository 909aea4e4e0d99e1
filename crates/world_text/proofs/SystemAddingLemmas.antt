-- A line of a system that is added to a draft: where it fits, and what it adds.
use Rattle.std.proofs.Common.{◌≡◌, inl, inr, ℕ, ◌+◌, ◌<◌, ◌≤◌, Bool, true, false, not, ◌&&◌, ◌||◌, List, [], ◌∷◌, ◌++◌, refl, sym, ap, subst, ◌∙◌, arith, cond, nat_lt}
use Rattle.std.specs.Prelude.{Option, Some, count_by, if◌then◌else◌}
use Rattle.std.specs.List.{flat_map}
use Rattle.std.specs.Option.{option_map_or}
use Rattle.std.proofs.lemmas.Bool.{cases_Bool, and_parts, and_from, lt-ltb}
use Rattle.std.proofs.lemmas.Bool.Decides.{nat_tests}
use Rattle.std.proofs.lemmas.List.Sums.{sum_by-append}
use Rattle.world_model.specs.declared.component.Decl.{Decl}
use Rattle.row_lang.specs.declared.token.Token.{Token}
use Rattle.row_lang.specs.BodyLines.{BodyLine, Lists, Do, Close}
use Rattle.row_lang.specs.declared.added.Added.TheVariants.{More, Closed}
use Rattle.row_lang.specs.Drafts.{TakesLine, RefusesLineWithin}
use Rattle.row_lang.specs.Naming.{names_of}
use Rattle.row_lang.specs.Systems.{System, is_command, command_count, admits, after_line}
use Rattle.row_lang.specs.Systems as systems
use Rattle.world_text.specs.declared.draft.Draft.{Draft}
use Rattle.world_text.specs.declared.format.Format.{Format}
use Rattle.world_text.specs.declared.section.Section.{Section}
use Rattle.world_text.specs.declared.section.Section.TheVariants as section
use Rattle.world_text.specs.LineKinds.{Line}
use Rattle.world_text.specs.LineKinds as line
use Rattle.world_text.specs.Sections.{is_between}
use Rattle.world_text.specs.Meaning.{decl_in, slot_in, next_in, pools_in}
use Rattle.world_text.specs.SystemLines.{SystemsSoFar, with_body, with_line, systems_in, commands_of, commands_so_far}
use Rattle.world_text.specs.Fitting.{last_section, are_names_of, goes_on_system, leaves_commands_few, fits}
use Rattle.world_text.specs.Drafts.{Stands, systems_so_far, goes_on, Refuses, TakesBody, RefusesBody}
use Rattle.world_text.proofs.AddingLemmas.{and_false_left, and_false_right, placed_at, kept_tick}
use Rattle.world_text.proofs.MeaningLemmas.{keeps, groups_keep, last_section_push, pools_in-other}
use Rattle.world_text.proofs.SettledLemmas.{settled_same}
use Rattle.world_text.proofs.SystemLemmas.{systems_push, own_names}

-- these systems, and an unfinished one
abbrev pub with_unfinished : List System → systems.Draft → SystemsSoFar
with_unfinished closed draft = record { closed = closed; unfinished = Some draft }

-- ---- command statements

one_of : (tokens : List Token) (b : Bool) → is_command tokens ≡ b → command_count (tokens ∷ []) ≡ 0 + cond b 1 0
one_of tokens b e = ap (λ (c : Bool). count_by (λ (_ : List Token). c) (tokens ∷ [])) e

pub counted_push : (statements : List (List Token)) (tokens : List Token) (b : Bool) → is_command tokens ≡ b → command_count (statements ++ tokens ∷ []) ≡ command_count statements + (0 + cond b 1 0)
counted_push statements tokens b e = sum_by-append _ statements (tokens ∷ []) ∙ ap (λ (n : ℕ). command_count statements + n) (one_of tokens b e)

-- where the commands are few behind a line, it is none too many
pub few_enough : (decls : List Decl) (closed : List System) (draft : systems.Draft) (l : BodyLine) → commands_of closed + command_count (after_line decls draft l).system.statements ≤ 64 → leaves_commands_few (with_unfinished closed draft) l ≡ true
few_enough decls closed draft (Lists of pools) few = refl
few_enough decls closed draft Close few = refl
few_enough decls closed draft (Do tokens) few = elim (cases_Bool (is_command tokens)) [
  | inl is ↦
      let counted = counted_push draft.system.statements tokens true is in
      let room : nat_lt (commands_so_far (with_unfinished closed draft)) 64 ≡ true = lt-ltb (commands_so_far (with_unfinished closed draft)) 64 (omega (arith, counted)) in
      (λ i. not (is i) || room i)
  | inr is_not ↦ ap (λ (b : Bool). not b || nat_lt (commands_so_far (with_unfinished closed draft)) 64) is_not
]

not_below : (m n : ℕ) → n ≤ m → nat_lt m n ≡ false
not_below m n low = grind (arith, nat_tests)

-- and where they aren't, it is one
too_many : (decls : List Decl) (closed : List System) (draft : systems.Draft) (l : BodyLine) → 64 < commands_of closed + command_count (after_line decls draft l).system.statements → commands_of closed + command_count draft.system.statements ≤ 64 → leaves_commands_few (with_unfinished closed draft) l ≡ false
too_many decls closed draft (Lists of pools) many few = absurd (omega arith)
too_many decls closed draft Close many few = absurd (omega arith)
too_many decls closed draft (Do tokens) many few = elim (cases_Bool (is_command tokens)) [
  | inl is ↦
      let counted = counted_push draft.system.statements tokens true is in
      let full : nat_lt (commands_so_far (with_unfinished closed draft)) 64 ≡ false = not_below (commands_so_far (with_unfinished closed draft)) 64 (omega (arith, counted)) in
      (λ i. not (is i) || full i)
  | inr is_not ↦ absurd (omega (arith, counted_push draft.system.statements tokens false is_not))
]

-- ---- a line of the unfinished system

-- two drafts that differ in nothing but their systems
pub record IsSameBeside (old new : Draft) : Type 0 where
  pub format : new.format ≡ old.format
  pub section : new.section ≡ old.section
  pub decls : new.decls.items ≡ old.decls.items
  pub groups : new.groups.items ≡ old.groups.items
  pub tick : new.tick ≡ old.tick
  pub slots : new.slots.items ≡ old.slots.items
  pub free : new.free.items ≡ old.free.items
  pub settled : new.settled.items ≡ old.settled.items
  pub pools : new.pools.items ≡ old.pools.items

only_systems : (s : Section) → is_between section.Systems section.Systems s ≡ true → s ≡ section.Systems
only_systems section.Systems here = refl
only_systems section.Start here = absurd cc
only_systems section.End here = absurd cc
only_systems _ here = absurd cc

module _ (old : Draft) (draft : systems.Draft) (here : old.unfinished ≡ Some draft) where
  -- what the lines say of it is what the draft says
  goes : (body : BodyLine) (before : List Line) → Stands old before → goes_on_system (flat_map decl_in before) (systems_in before) body ≡ (admits old.decls.items draft body && leaves_commands_few (with_unfinished old.systems.items draft) body)
  goes body before s =
      (λ i. goes_on_system (sym s.decls i) (sym s.systems i) body)
      ∙ (λ i. option_map_or (λ d. admits old.decls.items d body) (here i) false && leaves_commands_few (record { closed = old.systems.items; unfinished = here i }) body)

  -- a line that it admits fits where the commands stay few
  pub body_fits : (body : BodyLine) → goes_on old ≡ true → admits old.decls.items draft body ≡ true → commands_of old.systems.items + command_count (after_line old.decls.items draft body).system.statements ≤ 64 → (before : List Line) → Stands old before → fits old.format before (line.Body (names_of old.decls.items) body) ≡ true
  body_fits body going fit few before s =
      let placed : is_between section.Systems section.Systems old.section ≡ true = (and_parts _ _ going).0 in
      and_from _ _ (ap (is_between section.Systems section.Systems) (sym s.section) ∙ placed)
      (and_from _ _ (ap (λ (decls : List Decl). are_names_of decls (names_of old.decls.items)) (sym s.decls) ∙ own_names old.decls.items)
      (goes body before s ∙ and_from _ _ fit (few_enough old.decls.items old.systems.items draft body few)))

  refused_by : (body : BodyLine) → (admits old.decls.items draft body && leaves_commands_few (with_unfinished old.systems.items draft) body) ≡ false → Refuses old (line.Body (names_of old.decls.items) body)
  refused_by body none before s =
      and_false_right (is_between section.Systems section.Systems (last_section before)) _
      (and_false_right (are_names_of (flat_map decl_in before) (names_of old.decls.items)) _ (goes body before s ∙ none))

  -- no line fits that it doesn't admit, or that is a command statement too many
  pub refuses : (text : List ℕ) (budget : ℕ) → budget + commands_of old.systems.items ≡ 64 → command_count draft.system.statements ≤ budget → RefusesLineWithin old.decls.items budget draft text → RefusesBody old text
  refuses text budget whole within none body is e = elim (cases_Bool (admits old.decls.items draft body)) [
    | inl fit ↦
        let many = none body is e fit in
        refused_by body (and_false_right _ _ (too_many old.decls.items old.systems.items draft body (omega arith) (omega arith)))
    | inr unfit ↦ refused_by body (and_false_left _ _ unfit)
  ]

  -- what a line adds, it adds to the systems of the lines
  pub body_added : (body : BodyLine) (new : SystemsSoFar) → new ≡ with_body old.decls.items old.systems.items draft body → (before : List Line) → Stands old before → new ≡ systems_in (before ++ line.Body (names_of old.decls.items) body ∷ [])
  body_added body new is before s =
      let l : Line = line.Body (names_of old.decls.items) body in
      is
      ∙ ap (λ (unfinished : Option systems.Draft). option_map_or (λ d. with_body old.decls.items old.systems.items d body) unfinished (systems_so_far old)) (sym here)
      ∙ (λ i. with_line (s.decls i) (s.systems i) l)
      ∙ sym (systems_push before l refl)

  -- a line that is taken goes to the unfinished system, and nothing else changes
  pub takes : (text : List ℕ) (after : systems.Draft) (new : Draft) → goes_on old ≡ true → (taken : TakesLine old.decls.items draft text after) → commands_of old.systems.items + command_count after.system.statements ≤ 64 → IsSameBeside old new → systems_so_far new ≡ with_body old.decls.items old.systems.items draft taken.line → TakesBody old text new
  takes text after new going taken few same is =
      let l : Line = line.Body (names_of old.decls.items) taken.line in
      let placed : is_between section.Systems section.Systems old.section ≡ true = (and_parts _ _ going).0 in
      record {
        body = taken.line;
        is = taken.is;
        spelled = taken.spelled;
        taken = record {
          format = same.format;
          fit = body_fits taken.line going taken.admitted (subst (λ (d : systems.Draft). commands_of old.systems.items + command_count d.system.statements ≤ 64) taken.stands few);
          stands = λ before s.
              let p = placed_at section.Systems section.Systems old before s placed in
              record {
                section = same.section ∙ only_systems old.section placed ∙ sym (last_section_push before l p.high);
                decls = same.decls ∙ keeps decl_in before l _ refl s.decls;
                groups = same.groups ∙ s.groups ∙ groups_keep before l refl refl;
                systems = body_added taken.line (systems_so_far new) is before s;
                tick = same.tick ∙ s.tick ∙ kept_tick before l refl;
                slots = same.slots ∙ keeps slot_in before l _ refl s.slots;
                free = same.free ∙ keeps next_in before l _ refl s.free;
                settled = same.settled ∙ s.settled ∙ settled_same before l refl refl;
                pools = same.pools ∙ s.pools ∙ ap (λ (f : Format). pools_in f.profile before) (sym same.format) ∙ sym (pools_in-other _ before l tt);
              };
        };
      }

-- ---- what a line was

pub more_open : (b : Bool) → More ≡ (if b then Closed else More) → b ≡ false
more_open true e = absurd cc
more_open false e = refl

pub closed_done : (b : Bool) → Closed ≡ (if b then Closed else More) → b ≡ true
closed_done true e = refl
closed_done false e = absurd cc
