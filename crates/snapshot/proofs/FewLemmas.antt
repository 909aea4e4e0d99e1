-- How many fields of each kind a lawful document has at most.
use Rattle.std.proofs.Common.{◌≡◌, ◌⊎◌, inl, inr, ℕ, suc, ◌+◌, ◌*◌, ◌-◌, ◌^◌, ◌<◌, ◌≤◌, true, false, ◌&&◌, eqb, cond, List, [], ◌∷◌, ◌++◌, map, length, Option, Some, None, slice_get, nat_lt, refl, sym, ap, subst, ◌∙◌, arith, length-append}
use Rattle.std.specs.Prelude.{IsTrue}
use Rattle.std.specs.List.{flat_map, count_by, AllByRecursion, AllZip}
use Rattle.std.specs.Option.{option_map_or}
use Rattle.std.proofs.lemmas.Bool.{and_parts}
use Rattle.std.proofs.lemmas.Bool.Decides.{nat_tests}
use Rattle.std.proofs.lemmas.List.{length-map}
use Rattle.std.proofs.lemmas.List.Sums.{sum_by-cons}
use Rattle.entity_id.specs.declared.entity.Entity.{Entity}
use Rattle.entity_id.specs.declared.entity.Profile.{Profile}
use Rattle.entity_id.specs.FiniteMap.{IsAscending}
use Rattle.entity_id.proofs.ListLemmas.{all_weaker}
use Rattle.world_model.specs.declared.component.Decl.{Decl}
use Rattle.world_model.specs.declared.component.Row.{Row}
use Rattle.world_model.specs.declared.slot.Slot.{Slot}
use Rattle.world_model.specs.Slots.{is_live, is_live_at}
use Rattle.world_model.specs.Worlds.{AreLawfulRows}
use Rattle.row_lang.specs.declared.access_list.AccessList.{AccessList}
use Rattle.row_lang.specs.Naming.{names_of}
use Rattle.row_lang.specs.BodyLines.{BodyLine, Lists, Do, Close}
use Rattle.row_lang.specs.Systems.{System, Draft, IsSystem, begun, may_do_behind, may_do, admits, after_line, after_lines, are_admitted, list_lines, access_lines, body_lines}
use Rattle.row_lang.specs.declared.access_list.AccessList.TheVariants as list
use Rattle.world_text.specs.declared.document.Document.{Document}
use Rattle.world_text.specs.LineKinds.{Line}
use Rattle.world_text.specs.LineKinds as line
use Rattle.world_text.specs.Documents.{IsLawfulDocument, header_of, system_lines, group_line}
use Rattle.snapshot.specs.Fields.{header_limit}

-- ---- rows

live_in : (slots : List Slot) (entity : Entity) → is_live slots entity ≡ true → is_live_at slots entity.index ≡ true
live_in slots entity h =
    elim (slice_get slots entity.index) as (λ (found : Option Slot). option_map_or (λ (slot : Slot). slot.live && eqb slot.version entity.version) found false ≡ true → option_map_or (λ (slot : Slot). slot.live) found false ≡ true) [
      | None ↦ λ e. e
      | Some slot ↦ λ e. (and_parts slot.live _ e).0
    ] h

live_cons : (slot : Slot) (slots : List Slot) → count_by (λ s. s.live) (slot ∷ slots) ≡ cond slot.live 1 0 + count_by (λ s. s.live) slots
live_cons slot slots = sum_by-cons (λ (s : Slot). cond s.live 1 0) slot slots

-- an index is that of the first slot, or behind it
first_or_behind : (first index : ℕ) → first ≤ index → (index - first ≡ 0) ⊎ ((first < index) × (index - first ≡ suc (index - suc first)))
first_or_behind first index from = elim (eqb first index) as (λ b. eqb first index ≡ b → (index - first ≡ 0) ⊎ ((first < index) × (index - first ≡ suc (index - suc first)))) [
  | true ↦ λ same. inl (grind (arith, nat_tests))
  | false ↦ λ other. let more : first < index = grind (arith, nat_tests) in inr (more, omega arith)
] refl

-- behind the first slot, an index that is live is live among the others
live_behind : (first index : ℕ) (slot : Slot) (slots : List Slot) → first < index → is_live_at (slot ∷ slots) (index - first) ≡ true → is_live_at slots (index - suc first) ≡ true
live_behind first index slot slots more live =
    let one_less : index - first ≡ suc (index - suc first) = omega arith in
    subst (λ n. is_live_at (slot ∷ slots) n ≡ true) one_less live

all_behind : (first : ℕ) (slot : Slot) (slots : List Slot) (rows : List (Entity × Row)) → AllByRecursion (λ entry. first < entry.0.index) rows → AllByRecursion (λ entry. is_live_at (slot ∷ slots) (entry.0.index - first) ≡ true) rows → AllByRecursion (λ entry. is_live_at slots (entry.0.index - suc first) ≡ true) rows
all_behind first slot slots [] more live = tt
all_behind first slot slots (entry ∷ rows) more live = (live_behind first entry.0.index slot slots more.0 live.0, all_behind first slot slots rows more.1 live.1)

nothing_live : (n : ℕ) → is_live_at [] n ≡ false
nothing_live n = refl

-- from this index on, no more rows than live slots
rows_from : (first : ℕ) (slots : List Slot) (rows : List (Entity × Row)) → IsAscending rows → AllByRecursion (λ entry. first ≤ entry.0.index) rows → AllByRecursion (λ entry. is_live_at slots (entry.0.index - first) ≡ true) rows → length rows ≤ count_by (λ slot. slot.live) slots
rows_from first slots [] ascending from live = omega arith
rows_from first [] (entry ∷ rows) ascending from live = absurd (let e : false ≡ true = sym (nothing_live (entry.0.index - first)) ∙ live.0 in cc)
rows_from first (slot ∷ slots) (entry ∷ rows) ascending from live =
    elim (first_or_behind first entry.0.index from.0) as (λ _. length (entry ∷ rows) ≤ count_by (λ (s : Slot). s.live) (slot ∷ slots)) [
      | inl here ↦
          let is_live_here : slot.live ≡ true = subst (λ n. is_live_at (slot ∷ slots) n ≡ true) here live.0 in
          let behind = all_weaker (λ (other : Entity × Row). entry.0.index < other.0.index) (λ (other : Entity × Row). first < other.0.index) (λ other more. omega arith) rows ascending.0 in
          let others = rows_from (suc first) slots rows ascending.1 behind (all_behind first slot slots rows behind live.1) in
          let counted : count_by (λ (s : Slot). s.live) (slot ∷ slots) ≡ 1 + count_by (λ (s : Slot). s.live) slots = live_cons slot slots ∙ ap (λ b. cond b 1 0 + count_by (λ (s : Slot). s.live) slots) is_live_here in
          omega (arith, counted, others)
      | inr more ↦
          let behind = all_weaker (λ (other : Entity × Row). entry.0.index < other.0.index) (λ (other : Entity × Row). first < other.0.index) (λ other past. omega (arith, more.0)) rows ascending.0 in
          let others = rows_from (suc first) slots (entry ∷ rows) ascending (more.0, behind) (all_behind first slot slots (entry ∷ rows) (more.0, behind) live) in
          omega (arith, others, live_cons slot slots)
    ]

-- a component has no more rows than there are live slots
pub rows_few : (profile : Profile) (slots : List Slot) (decl : Decl) (rows : List (Entity × Row)) → AreLawfulRows profile slots decl rows → length rows ≤ count_by (λ slot. slot.live) slots
rows_few profile slots decl rows lawful =
    rows_from 0 slots rows lawful.ascending
    (all_weaker (λ (entry : Entity × Row). IsTrue (is_live slots entry.0)) (λ (entry : Entity × Row). 0 ≤ entry.0.index) (λ entry live. omega arith) rows lawful.live)
    (all_weaker (λ (entry : Entity × Row). IsTrue (is_live slots entry.0)) (λ (entry : Entity × Row). is_live_at slots (entry.0.index - 0) ≡ true)
    (λ entry live. let same : entry.0.index - 0 ≡ entry.0.index = omega arith in subst (λ n. is_live_at slots n ≡ true) (sym same) (live_in slots entry.0 live)) rows lawful.live)

pub live_few : (slots : List Slot) → count_by (λ slot. slot.live) slots ≤ length slots
live_few [] = omega arith
live_few (slot ∷ slots) =
    let few = live_few slots in
    let one : cond slot.live 1 0 ≤ 1 = elim slot.live as (λ b. cond b 1 0 ≤ 1) [ true ↦ omega arith | false ↦ omega arith ] in
    omega (arith, few, one, live_cons slot slots)

-- each component has so few rows that 32 bits count them
pub pools_few : (profile : Profile) (slots : List Slot) (decls : List Decl) (pools : List (List (Entity × Row))) → length slots ≤ 1048575 → AllZip (AreLawfulRows profile slots) decls pools → AllByRecursion (λ rows. length rows < 2 ^ 32) pools
pools_few profile slots decls [] few lawful = tt
pools_few profile slots [] (rows ∷ pools) few lawful = absurd lawful
pools_few profile slots (decl ∷ decls) (rows ∷ pools) few lawful =
    (omega (arith, few, rows_few profile slots decl rows lawful.0, live_few slots), pools_few profile slots decls pools few lawful.1)

-- ---- header lines

statements_few : (decls : List Decl) (draft : Draft) (lines : List BodyLine) → length draft.system.statements ≤ 64 → are_admitted decls draft lines ≡ true → length (after_lines decls draft lines).system.statements ≤ 64
statements_few decls draft [] few admitted = few
statements_few decls draft (Lists of pools ∷ lines) few admitted = statements_few decls (after_line decls draft (Lists of pools)) lines few (and_parts (admits decls draft (Lists of pools)) _ admitted).1
statements_few decls draft (Close ∷ lines) few admitted = statements_few decls (after_line decls draft Close) lines few (and_parts (admits decls draft Close) _ admitted).1
statements_few decls draft (Do tokens ∷ lines) few admitted =
    let both = and_parts (admits decls draft (Do tokens)) _ admitted in
    let may : may_do draft.system.statements tokens ≡ true = (and_parts (may_do_behind draft.part) _ (and_parts _ _ both.0).0).1 in
    let room : nat_lt (length draft.system.statements) 64 ≡ true = (and_parts (nat_lt (length draft.system.statements) 64) _ may).0 in
    let less : length draft.system.statements < 64 = grind (arith, nat_tests) in
    statements_few decls (after_line decls draft (Do tokens)) lines (omega (arith, less, length-append draft.system.statements (tokens ∷ []))) both.1

list_short : (of : AccessList) (pools : List ℕ) → length (list_lines of pools) ≤ 1
list_short of [] = omega arith
list_short of (pool ∷ pools) = omega arith

system_short : (decls : List Decl) (system : System) → IsSystem decls system → length (system_lines decls system) ≤ 70
system_short decls system is =
    let access = system.access in
    let few : length system.statements ≤ 64 = subst (λ (s : System). length s.statements ≤ 64) (sym is.2.stands) (statements_few decls (begun is.0) is.1 (omega arith) is.2.admitted) in
    omega (
      arith,
      length-map (body_lines system) (line.Body (names_of decls)),
      length-append (access_lines access) (map Do system.statements ++ Close ∷ []),
      length-append (map Do system.statements) (Close ∷ []),
      length-map system.statements Do,
      length-append (list_lines list.Read access.read) (list_lines list.Write access.write ++ (list_lines list.Look access.look ++ list_lines list.Without access.without)),
      length-append (list_lines list.Write access.write) (list_lines list.Look access.look ++ list_lines list.Without access.without),
      length-append (list_lines list.Look access.look) (list_lines list.Without access.without),
      list_short list.Read access.read,
      list_short list.Write access.write,
      list_short list.Look access.look,
      list_short list.Without access.without,
      few,
    )

systems_short : (decls : List Decl) (systems : List System) → AllByRecursion (IsSystem decls) systems → length (flat_map (system_lines decls) systems) ≤ 70 * length systems
systems_short decls [] each = omega arith
systems_short decls (system ∷ systems) each =
    omega (arith, length-append (system_lines decls system) (flat_map (system_lines decls) systems), system_short decls system each.0, systems_short decls systems each.1)

-- a lawful document has no more header lines than a snapshot may have
pub header_few : (document : Document) → IsLawfulDocument document → length (header_of document) ≤ header_limit
header_few document lawful =
    let w = document.world in
    let systems = flat_map (system_lines w.decls) document.systems in
    omega (
      arith,
      length-append (map line.Component w.decls) (map (group_line w.decls) w.groups ++ systems),
      length-append (map (group_line w.decls) w.groups) systems,
      length-map w.decls line.Component,
      length-map w.groups (group_line w.decls),
      lawful.world.few_decls,
      lawful.world.groups.few,
      lawful.systems.few,
      systems_short w.decls document.systems lawful.systems.each,
    )
