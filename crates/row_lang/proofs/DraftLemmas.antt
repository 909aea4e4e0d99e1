-- Lines of a system one behind another.
use Rattle.std.proofs.Common.{◌≡◌, inl, inr, ℕ, ◌≤◌, ltb, true, not, ◌||◌, List, [], ◌∷◌, ◌++◌, refl, sym, ap, ◌∙◌, arith}
use Rattle.std.specs.List.{AllByRecursion}
use Rattle.std.proofs.lemmas.Bool.{and_parts, and_from, cases_Bool, ltb-true}
use Rattle.world_model.specs.declared.component.Decl.{Decl}
use Rattle.row_lang.specs.BodyLines.{BodyLine, Lists, Do, Close}
use Rattle.row_lang.specs.Drafts.{TakesLine, RefusesLine, RefusesLineWithin}
use Rattle.row_lang.specs.Naming.{names_of}
use Rattle.row_lang.specs.Spelling.{IsBodyLine}
use Rattle.row_lang.specs.Systems.{Draft, IsDraftOf, admits, after_line, after_lines, are_admitted, begun, command_count, is_command}
use Rattle.row_lang.proofs.DoLineLemmas.{admissible, bit, count_more, one_command}

-- ---- one line more

pub after_more : (decls : List Decl) (draft : Draft) (lines : List BodyLine) (line : BodyLine) → after_lines decls draft (lines ++ line ∷ []) ≡ after_line decls (after_lines decls draft lines) line
after_more decls draft [] line = refl
after_more decls draft (first ∷ lines) line = after_more decls (after_line decls draft first) lines line

pub admitted_more : (decls : List Decl) (draft : Draft) (lines : List BodyLine) (line : BodyLine) → are_admitted decls draft lines ≡ true → admits decls (after_lines decls draft lines) line ≡ true → are_admitted decls draft (lines ++ line ∷ []) ≡ true
admitted_more decls draft [] line before fit = and_from (admits decls draft line) true fit refl
admitted_more decls draft (first ∷ lines) line before fit =
    let parts = and_parts (admits decls draft first) (are_admitted decls (after_line decls draft first) lines) before in
    and_from (admits decls draft first) (are_admitted decls (after_line decls draft first) (lines ++ line ∷ [])) parts.0
    (admitted_more decls (after_line decls draft first) lines line parts.1 fit)

pub each_more : (P : BodyLine → Type 0) (lines : List BodyLine) (line : BodyLine) → AllByRecursion P lines → P line → AllByRecursion P (lines ++ line ∷ [])
each_more P [] line each is = (is, tt)
each_more P (first ∷ lines) line each is = (each.0, each_more P lines line each.1 is)

pub draft_more : (decls : List Decl) (old new : Draft) (text : List ℕ) → TakesLine decls old text new → (name : List ℕ) (lines : List BodyLine) → IsDraftOf decls name lines old → (line : BodyLine) × IsDraftOf decls name (lines ++ line ∷ []) new
draft_more decls old new text t name lines h = (
  t.line,
  record {
    named = h.named;
    each = each_more (IsBodyLine (names_of decls)) lines t.line h.each t.is;
    admitted = admitted_more decls (begun name) lines t.line h.admitted (ap (λ (d : Draft). admits decls d t.line) (sym h.reached) ∙ t.admitted);
    reached = t.stands ∙ ap (λ (d : Draft). after_line decls d t.line) h.reached ∙ sym (after_more decls (begun name) lines t.line);
  },
)

-- ---- command statements

-- an admissible line leaves no more command statements than a system may have
pub commands_kept : (decls : List Decl) (draft : Draft) (line : BodyLine) → admits decls draft line ≡ true → command_count draft.system.statements ≤ 8 → command_count (after_line decls draft line).system.statements ≤ 8
commands_kept decls draft (Lists of pools) fit few = few
commands_kept decls draft (Do tokens) fit few =
    let h = admissible decls draft tokens fit in
    let more = count_more draft.system.statements tokens in
    elim (cases_Bool (is_command tokens)) [
      | inr other ↦ (let none : one_command tokens ≡ 0 = ap bit other in omega (arith, more, none, few))
      | inl command ↦
          let low = ltb-true (command_count draft.system.statements) 8 (sym (ap (λ b. not b || ltb (command_count draft.system.statements) 8) command) ∙ h.commands) in
          let one : one_command tokens ≡ 1 = ap bit command in
          omega (arith, more, one, low)
    ]
commands_kept decls draft Close fit few = few

pub refuses_within : (decls : List Decl) (draft : Draft) (text : List ℕ) → command_count draft.system.statements ≤ 8 → RefusesLineWithin decls 8 draft text → RefusesLine decls draft text
refuses_within decls draft text few refused line is e = elim (cases_Bool (admits decls draft line)) [
  | inr other ↦ other
  | inl fit ↦ absurd (omega (arith, refused line is e fit, commands_kept decls draft line fit few))
]
