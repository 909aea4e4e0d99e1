-- A system that lines stand for is checked: its lists are lawful, and its statements are ones under these lists.
use Rattle.std.proofs.Common.{◌≡◌, ℕ, ◌<◌, true, List, [], ◌∷◌, length, sym, subst, arith}
use Rattle.std.specs.List.{AllByRecursion}
use Rattle.std.proofs.lemmas.Bool.{and_parts}
use Rattle.entity_id.specs.declared.entity.Profile.{Profile}
use Rattle.entity_id.proofs.ListLemmas.{all-append}
use Rattle.world_model.specs.declared.component.Decl.{Decl}
use Rattle.row_lang.specs.declared.access_list.AccessList.{AccessList}
use Rattle.row_lang.specs.declared.access_list.AccessList.TheVariants as list
use Rattle.row_lang.specs.declared.part.Part.TheVariants as part
use Rattle.row_lang.specs.BodyLines.{BodyLine, Lists, Do, Close}
use Rattle.row_lang.specs.Effects.{AreStatements, IsChecked, system_effect}
use Rattle.world_model.specs.Frames.{IsFitSystem}
use Rattle.row_lang.specs.Naming.{names_of}
use Rattle.row_lang.specs.Places.{is_statement}
use Rattle.row_lang.specs.Spelling.{IsBodyLine, IsToken}
use Rattle.row_lang.specs.Systems.{Draft, IsSystem, IsSystemOf, System, admits, after_line, after_lines, are_admitted, ascending, begun, order, part_of, with_list}
use Rattle.row_lang.proofs.AccessLemmas.{AreListsBehind, added, lawful_lists, lists_past, lists_with, low_behind, no_lists}
use Rattle.row_lang.proofs.CanonicalLemmas.{IsOrdered, before_list, ordered_after, ordered_begun}
use Rattle.row_lang.proofs.DoLineLemmas as do_line
use Rattle.row_lang.proofs.FitLemmas.{is_fit}
use Rattle.row_lang.proofs.ListLineLemmas.{admissible}

-- ---- drafts

-- what holds of a draft behind each line: its parts that were not reached are empty, its lists are lawful so far, and its statements are
-- ones under these lists
record IsSound (decls : List Decl) (draft : Draft) : Type 0 where
  ordered : IsOrdered draft
  lists : AreListsBehind (length decls) draft.part draft.system.access
  statements : AreStatements (names_of decls) decls draft.system.access draft.system.statements

sound_begun : (decls : List Decl) (name : List ℕ) → IsSound decls (begun name)
sound_begun decls name = record { ordered = ordered_begun name; lists = no_lists (length decls); statements = tt }

before_do : (of : AccessList) → order (part_of of) < 5
before_do list.Read = omega arith
before_do list.Write = omega arith
before_do list.Look = omega arith
before_do list.Without = omega arith

sound_line : (decls : List Decl) (draft : Draft) (line : BodyLine) → IsBodyLine (names_of decls) line → admits decls draft line ≡ true → IsSound decls draft → IsSound decls (after_line decls draft line)
sound_line decls draft (Lists of pools) is fit h =
    let fits = admissible decls draft of pools fit in
    let low : order draft.part < 5 = omega (arith, before_list draft.part of fits.behind, before_do of) in
    let access = with_list draft.system.access of (ascending (length decls) pools) in
    record {
      ordered = ordered_after decls draft (Lists of pools) fit h.ordered;
      lists = lists_with (length decls) draft of (ascending (length decls) pools) h.ordered h.lists (added decls draft of pools fits);
      statements = subst (AreStatements (names_of decls) decls access) (sym (h.ordered.statements low)) tt;
    }
sound_line decls draft (Do tokens) is fit h =
    let fits = do_line.admissible decls draft tokens fit in
    record {
      ordered = ordered_after decls draft (Do tokens) fit h.ordered;
      lists = lists_past (length decls) draft.part part.Do draft.system.access h.lists fits.behind (omega arith);
      statements = all-append (λ tokens. AllByRecursion (IsToken (names_of decls)) tokens × (is_statement decls draft.system.access tokens ≡ true)) draft.system.statements (tokens ∷ []) h.statements ((is.spelled, fits.statement), tt);
    }
sound_line decls draft Close is fit h = record {
  ordered = ordered_after decls draft Close fit h.ordered;
  lists = lists_past (length decls) draft.part part.Closed draft.system.access h.lists fit (omega arith);
  statements = h.statements;
}

sound_lines : (decls : List Decl) (draft : Draft) (lines : List BodyLine) → AllByRecursion (IsBodyLine (names_of decls)) lines → are_admitted decls draft lines ≡ true → IsSound decls draft → IsSound decls (after_lines decls draft lines)
sound_lines decls draft [] each fit h = h
sound_lines decls draft (line ∷ lines) each fit h =
    let parts = and_parts (admits decls draft line) (are_admitted decls (after_line decls draft line) lines) fit in
    sound_lines decls (after_line decls draft line) lines each.1 parts.1 (sound_line decls draft line each.0 parts.0 h)

-- ---- systems

checked_lines : (decls : List Decl) (name : List ℕ) (lines : List BodyLine) (system : System) → IsSystemOf decls name lines system → IsChecked decls system
checked_lines decls name lines system is =
    let draft = after_lines decls (begun name) lines in
    let h = sound_lines decls (begun name) lines is.each is.admitted (sound_begun decls name) in
    let high = (low_behind part.Closed part.Closed draft.part is.closed).0 in
    subst (IsChecked decls) (sym is.stands) (record {
      lists = lawful_lists (length decls) draft.part draft.system.access h.lists (omega (arith, high));
      statements = h.statements;
    })

pub checked_system : (decls : List Decl) (system : System) → IsSystem decls system → IsChecked decls system
checked_system decls system is = checked_lines decls is.0 is.1 system is.2

pub fit_system : (profile : Profile) (decls : List Decl) (system : System) → IsSystem decls system → IsFitSystem profile decls system.access (system_effect profile system)
fit_system profile decls system is = is_fit profile decls system (checked_system decls system is)
