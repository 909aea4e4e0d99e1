-- Printed systems: their lines are admissible behind those before them, and stand for them.
use Rattle.std.proofs.Common.{◌≡◌, ℕ, ◌+◌, ◌<◌, ◌≤◌, true, false, not, ◌||◌, List, [], ◌∷◌, ◌++◌, length, map, refl, sym, ap, ◌∙◌, arith, append_assoc}
use Rattle.std.specs.Prelude.{None}
use Rattle.std.specs.List.{AllByRecursion, flat_map, list_any}
use Rattle.std.specs.Str.{bytes_eq}
use Rattle.std.proofs.lemmas.List.{length-append, map-append, append-nil}
use Rattle.std.proofs.lemmas.List.Sums.{sum_by-append}
use Rattle.std.proofs.lemmas.List.Folds.{list_any-append}
use Rattle.std.proofs.lemmas.Grind.{flat_map-append}
use Rattle.std.proofs.lemmas.Bool.{and_parts, and_from, or_parts, lt-ltb, not-true, not_from_false}
use Rattle.entity_id.proofs.ListLemmas.{all-append}
use Rattle.world_model.specs.declared.component.Decl.{Decl}
use Rattle.row_lang.specs.declared.access_list.AccessList.{AccessList}
use Rattle.row_lang.specs.declared.access_list.AccessList.TheVariants as list
use Rattle.row_lang.specs.declared.part.Part.TheVariants as part
use Rattle.row_lang.specs.BodyLines.{BodyLine, Lists, Do, Close}
use Rattle.row_lang.specs.Naming.{AreNamedDecls, names_of}
use Rattle.row_lang.specs.Spelling.{IsBodyLine}
use Rattle.row_lang.specs.Systems.{System, Draft, IsSystemOf, begun, admits, after_line, after_lines, are_admitted, is_closed, command_count, body_lines}
use Rattle.world_text.specs.declared.format.Format.{Format}
use Rattle.world_text.specs.declared.section.Section.TheVariants as section
use Rattle.world_text.specs.LineKinds.{Line}
use Rattle.world_text.specs.LineKinds as line
use Rattle.world_text.specs.Lines.{IsLine}
use Rattle.world_text.specs.Sections.{order}
use Rattle.world_text.specs.Meaning.{decl_in}
use Rattle.world_text.specs.SystemLines.{SystemsSoFar, no_systems, with_line, with_lines, systems_in, commands_of}
use Rattle.world_text.specs.Fitting.{last_section, are_different, may_begin, are_names_of, goes_on_system, fits, fit_after}
use Rattle.world_text.specs.Documents.{system_lines}
use Rattle.world_text.proofs.MeaningLemmas.{keeps, order_later, order_last_section-append, last_section_push}
use Rattle.world_text.proofs.PrintedFits.{between, fit_append}
use Rattle.world_text.proofs.BodyTextLemmas.{decls_names}
use Rattle.world_text.proofs.SystemAddingLemmas.{with_unfinished, few_enough}
use Rattle.world_text.proofs.SystemLemmas.{IsBesideSystems, same_systems, systems_push, with_lines-append, own_names}

-- the systems of these lines, none of them unfinished
abbrev pub closed_only : List System → SystemsSoFar
closed_only closed = record { closed = closed; unfinished = None }

-- ---- a system behind its last line

-- nothing follows the last line of a system
no_more : (decls : List Decl) (system : System) (l : BodyLine) → admits decls (record { part = part.Closed; system = system }) l ≡ true → ⊥
no_more decls system (Lists list.Read pools) fit = cc
no_more decls system (Lists list.Write pools) fit = cc
no_more decls system (Lists list.Look pools) fit = cc
no_more decls system (Lists list.Without pools) fit = cc
no_more decls system (Do tokens) fit = cc
no_more decls system Close fit = cc

list_goes_on : (decls : List Decl) (draft : Draft) (of : AccessList) (pools : List ℕ) → is_closed (after_line decls draft (Lists of pools)) ≡ false
list_goes_on decls draft list.Read pools = refl
list_goes_on decls draft list.Write pools = refl
list_goes_on decls draft list.Look pools = refl
list_goes_on decls draft list.Without pools = refl

-- lines up to the last close a system
lines_close : (decls : List Decl) (names : List (List ℕ)) (closed : List System) (draft : Draft) (lines : List BodyLine) (rest : List Line) → are_admitted decls draft lines ≡ true → is_closed (after_lines decls draft lines) ≡ true → is_closed draft ≡ false → with_lines decls (with_unfinished closed draft) (map (line.Body names) lines ++ rest) ≡ with_lines decls (closed_only (closed ++ (after_lines decls draft lines).system ∷ [])) rest
lines_close decls names closed draft [] rest are done going = absurd cc
lines_close decls names closed draft (Close ∷ []) rest are done going = refl
lines_close decls names closed draft (Close ∷ l ∷ lines) rest are done going = absurd (no_more decls draft.system l (and_parts _ _ (and_parts _ _ are).1).0)
lines_close decls names closed draft (Lists of pools ∷ lines) rest are done going = lines_close decls names closed (after_line decls draft (Lists of pools)) lines rest (and_parts _ _ are).1 done (list_goes_on decls draft of pools)
lines_close decls names closed draft (Do tokens ∷ lines) rest are done going = lines_close decls names closed (after_line decls draft (Do tokens)) lines rest (and_parts _ _ are).1 done refl

-- what canonical lines of each of these systems are
abbrev pub AreCanonical : List Decl → List System → Type 0
AreCanonical decls systems = AllByRecursion (λ system. IsSystemOf decls system.name (body_lines system) system) systems

system_closes : (decls : List Decl) (closed : List System) (system : System) (rest : List Line) → IsSystemOf decls system.name (body_lines system) system → with_lines decls (closed_only closed) (system_lines decls system ++ rest) ≡ with_lines decls (closed_only (closed ++ system ∷ [])) rest
system_closes decls closed system rest is =
    lines_close decls (names_of decls) closed (begun system.name) (body_lines system) rest is.admitted is.closed refl
    ∙ ap (λ (s : System). with_lines decls (closed_only (closed ++ s ∷ [])) rest) (sym is.stands)

-- lines of systems stand for them
pub systems_close : (decls : List Decl) (closed systems : List System) (rest : List Line) → AreCanonical decls systems → with_lines decls (closed_only closed) (flat_map (system_lines decls) systems ++ rest) ≡ with_lines decls (closed_only (closed ++ systems)) rest
systems_close decls closed [] rest are = ap (λ (all : List System). with_lines decls (closed_only all) rest) (sym (append-nil closed))
systems_close decls closed (system ∷ systems) rest are =
    ap (with_lines decls (closed_only closed)) (append_assoc (system_lines decls system) (flat_map (system_lines decls) systems) rest)
    ∙ system_closes decls closed system (flat_map (system_lines decls) systems ++ rest) are.0
    ∙ systems_close decls (closed ++ system ∷ []) systems rest are.1
    ∙ ap (λ (all : List System). with_lines decls (closed_only all) rest) (append_assoc closed (system ∷ []) systems)

-- other lines leave the systems
pub beside_systems : {X : Type 0} (decls : List Decl) (g : X → Line) → ((x : X) → IsBesideSystems (g x)) → (xs : List X) (systems : SystemsSoFar) (rest : List Line) → with_lines decls systems (map g xs ++ rest) ≡ with_lines decls systems rest
beside_systems decls g beside [] systems rest = refl
beside_systems decls g beside (x ∷ xs) systems rest = ap (λ (s : SystemsSoFar). with_lines decls s (map g xs ++ rest)) (same_systems decls systems (g x) (beside x)) ∙ beside_systems decls g beside xs systems rest

-- ---- lines of systems hold nothing else

-- nothing that no line of a system has
pub none_in_systems : {Y : Type 0} (f : Line → List Y) → ((name : List ℕ) → f (line.System name) ≡ []) → ((names : List (List ℕ)) (body : BodyLine) → f (line.Body names body) ≡ []) → (decls : List Decl) (systems : List System) → flat_map f (flat_map (system_lines decls) systems) ≡ []
none_in_systems f no_first no_body decls [] = refl
none_in_systems f no_first no_body decls (system ∷ systems) =
    flat_map-append f (system_lines decls system) (flat_map (system_lines decls) systems)
    ∙ (λ i. (no_first system.name i ++ none_in_bodies f no_body (names_of decls) (body_lines system) i) ++ none_in_systems f no_first no_body decls systems i)
  where
    none_in_bodies : {Y : Type 0} (f : Line → List Y) → ((names : List (List ℕ)) (body : BodyLine) → f (line.Body names body) ≡ []) → (names : List (List ℕ)) (bodies : List BodyLine) → flat_map f (map (line.Body names) bodies) ≡ []
    none_in_bodies f none names [] = refl
    none_in_bodies f none names (b ∷ bodies) = ap (λ ys. ys ++ flat_map f (map (line.Body names) bodies)) (none names b) ∙ none_in_bodies f none names bodies

bodies_order : (names : List (List ℕ)) (bodies : List BodyLine) → order (last_section (map (line.Body names) bodies)) ≤ 4
bodies_order names [] = omega arith
bodies_order names (b ∷ bodies) = omega (arith, order_later section.Systems (last_section (map (line.Body names) bodies)), bodies_order names bodies)

system_order : (decls : List Decl) (system : System) → order (last_section (system_lines decls system)) ≡ 4
system_order decls system = omega (arith, order_later section.Systems (last_section (map (line.Body (names_of decls)) (body_lines system))), bodies_order (names_of decls) (body_lines system))

pub systems_order : (decls : List Decl) (systems : List System) → order (last_section (flat_map (system_lines decls) systems)) ≤ 4
systems_order decls [] = omega arith
systems_order decls (system ∷ systems) = omega (arith, order_last_section-append (system_lines decls system) (flat_map (system_lines decls) systems), system_order decls system, systems_order decls systems)

-- ---- each is a line

bodies_spelled : (format : Format) (decls : List Decl) (draft : Draft) (bodies : List BodyLine) → AreNamedDecls decls → AllByRecursion (IsBodyLine (names_of decls)) bodies → are_admitted decls draft bodies ≡ true → AllByRecursion (IsLine format) (map (line.Body (names_of decls)) bodies)
bodies_spelled format decls draft [] named each are = tt
bodies_spelled format decls draft (b ∷ bodies) named each are =
    let parts = and_parts (admits decls draft b) (are_admitted decls (after_line decls draft b) bodies) are in
    (record { named = decls_names decls named.each; is = each.0 }, bodies_spelled format decls (after_line decls draft b) bodies named each.1 parts.1)

pub systems_spelled : (format : Format) (decls : List Decl) (systems : List System) → AreNamedDecls decls → AreCanonical decls systems → AllByRecursion (IsLine format) (flat_map (system_lines decls) systems)
systems_spelled format decls [] named are = tt
systems_spelled format decls (system ∷ systems) named are =
    all-append (IsLine format) (system_lines decls system) (flat_map (system_lines decls) systems)
    (are.0.named, bodies_spelled format decls (begun system.name) (body_lines system) named are.0.each are.0.admitted)
    (systems_spelled format decls systems named are.1)

-- ---- each fits

-- lines take no command statement away
commands_rise : (decls : List Decl) (draft : Draft) (bodies : List BodyLine) → command_count draft.system.statements ≤ command_count (after_lines decls draft bodies).system.statements
commands_rise decls draft [] = omega arith
commands_rise decls draft (Lists of pools ∷ bodies) = commands_rise decls (after_line decls draft (Lists of pools)) bodies
commands_rise decls draft (Close ∷ bodies) = commands_rise decls (after_line decls draft Close) bodies
commands_rise decls draft (Do tokens ∷ bodies) =
    let counted : command_count (draft.system.statements ++ tokens ∷ []) ≡ command_count draft.system.statements + command_count (tokens ∷ []) = sum_by-append _ draft.system.statements (tokens ∷ []) in
    omega (arith, counted, commands_rise decls (after_line decls draft (Do tokens)) bodies)

-- a line that an unfinished system admits fits
body_fits : (format : Format) (before : List Line) (decls : List Decl) (closed : List System) (draft : Draft) (l : BodyLine) → order (last_section before) ≡ 4 → flat_map decl_in before ≡ decls → systems_in before ≡ with_unfinished closed draft → admits decls draft l ≡ true → commands_of closed + command_count (after_line decls draft l).system.statements ≤ 64 → fits format before (line.Body (names_of decls) l) ≡ true
body_fits format before decls closed draft l place are here fit few =
    and_from _ _ (between section.Systems section.Systems (last_section before) (omega arith) (omega arith))
    (and_from _ _ (ap (λ (ds : List Decl). are_names_of ds (names_of decls)) are ∙ own_names decls)
    ((λ i. goes_on_system (are i) (here i) l) ∙ and_from _ _ fit (few_enough decls closed draft l few)))

-- behind a line of a system
body_keeps : (before : List Line) (decls : List Decl) (l : BodyLine) → flat_map decl_in before ≡ decls → flat_map decl_in (before ++ line.Body (names_of decls) l ∷ []) ≡ decls
body_keeps before decls l are = sym (keeps decl_in before (line.Body (names_of decls) l) _ refl refl) ∙ are

behind_body : (before : List Line) (decls : List Decl) (systems : SystemsSoFar) (l : BodyLine) → flat_map decl_in before ≡ decls → systems_in before ≡ systems → systems_in (before ++ line.Body (names_of decls) l ∷ []) ≡ with_line decls systems (line.Body (names_of decls) l)
behind_body before decls systems l are here = systems_push before (line.Body (names_of decls) l) refl ∙ (λ i. with_line (are i) (here i) (line.Body (names_of decls) l))

bodies_fit : (format : Format) (before : List Line) (decls : List Decl) (closed : List System) (draft : Draft) (bodies : List BodyLine) → order (last_section before) ≡ 4 → flat_map decl_in before ≡ decls → systems_in before ≡ with_unfinished closed draft → are_admitted decls draft bodies ≡ true → commands_of closed + command_count (after_lines decls draft bodies).system.statements ≤ 64 → fit_after format before (map (line.Body (names_of decls)) bodies) ≡ true
bodies_fit format before decls closed draft [] place are here fit few = refl
bodies_fit format before decls closed draft (Close ∷ []) place are here fit few =
    and_from _ _ (body_fits format before decls closed draft Close place are here (and_parts _ _ fit).0 few) refl
bodies_fit format before decls closed draft (Close ∷ l ∷ bodies) place are here fit few = absurd (no_more decls draft.system l (and_parts _ _ (and_parts _ _ fit).1).0)
bodies_fit format before decls closed draft (Lists of pools ∷ bodies) place are here fit few =
    let l : BodyLine = Lists of pools in
    let after = after_line decls draft (Lists of pools) in
    let next : Line = line.Body (names_of decls) (Lists of pools) in
    and_from _ _ (body_fits format before decls closed draft l place are here (and_parts _ _ fit).0 (omega (arith, few, commands_rise decls (after_line decls draft (Lists of pools)) bodies)))
    (bodies_fit format (before ++ next ∷ []) decls closed after bodies (ap order (last_section_push before next (omega (arith, place)))) (body_keeps before decls l are) (behind_body before decls (with_unfinished closed draft) l are here) (and_parts _ _ fit).1 few)
bodies_fit format before decls closed draft (Do tokens ∷ bodies) place are here fit few =
    let l : BodyLine = Do tokens in
    let after = after_line decls draft (Do tokens) in
    let next : Line = line.Body (names_of decls) (Do tokens) in
    and_from _ _ (body_fits format before decls closed draft l place are here (and_parts _ _ fit).0 (omega (arith, few, commands_rise decls (after_line decls draft (Do tokens)) bodies)))
    (bodies_fit format (before ++ next ∷ []) decls closed after bodies (ap order (last_section_push before next (omega (arith, place)))) (body_keeps before decls l are) (behind_body before decls (with_unfinished closed draft) l are here) (and_parts _ _ fit).1 few)

-- ---- a system fits

abbrev name_of : System → List ℕ
name_of system = system.name

-- of different names none before another is that
is_new : (closed : List System) (name : List ℕ) (rest : List (List ℕ)) → are_different (map name_of closed ++ name ∷ rest) ≡ true → list_any (λ system. bytes_eq system.name name) closed ≡ false
is_new [] name rest apart = refl
is_new (s ∷ closed) name rest apart =
    let parts = and_parts (not (list_any (bytes_eq s.name) (map name_of closed ++ name ∷ rest))) (are_different (map name_of closed ++ name ∷ rest)) apart in
    let none : (list_any (bytes_eq s.name) (map name_of closed) || list_any (bytes_eq s.name) (name ∷ rest)) ≡ false = sym (list_any-append (bytes_eq s.name) (map name_of closed) (name ∷ rest)) ∙ not-true _ parts.0 in
    let here = or_parts (bytes_eq s.name name) (list_any (bytes_eq s.name) rest) (or_parts (list_any (bytes_eq s.name) (map name_of closed)) _ none).1 in
    (λ i. here.0 i || is_new closed name rest parts.1 i)

begins : (closed : List System) (name : List ℕ) → length closed < 64 → list_any (λ system. bytes_eq system.name name) closed ≡ false → may_begin (closed_only closed) name ≡ true
begins closed name room new = and_from _ _ (lt-ltb (length closed) 64 room) (not_from_false _ new)

system_fits : (format : Format) (before : List Line) (decls : List Decl) (closed : List System) (system : System) → 1 ≤ order (last_section before) → order (last_section before) ≤ 4 → flat_map decl_in before ≡ decls → systems_in before ≡ closed_only closed → length closed < 64 → list_any (λ other. bytes_eq other.name system.name) closed ≡ false → commands_of closed + command_count system.statements ≤ 64 → IsSystemOf decls system.name (body_lines system) system → fit_after format before (system_lines decls system) ≡ true
system_fits format before decls closed system low high are here room new few is =
    let first : Line = line.System system.name in
    let counted : command_count (after_lines decls (begun system.name) (body_lines system)).system.statements ≡ command_count system.statements = ap (λ (s : System). command_count s.statements) (sym is.stands) in
    and_from _ _ (and_from _ _ (between section.Version section.Systems (last_section before) low high) (ap (λ (s : SystemsSoFar). may_begin s system.name) here ∙ begins closed system.name room new))
    (bodies_fit format (before ++ first ∷ []) decls closed (begun system.name) (body_lines system)
    (ap order (last_section_push before first high))
    (sym (keeps decl_in before first _ refl refl) ∙ are)
    (systems_push before first refl ∙ (λ i. with_line (are i) (here i) first))
    is.admitted (omega (arith, few, counted)))

-- systems fit, one after another
pub systems_fit : (format : Format) (before : List Line) (decls : List Decl) (closed systems : List System) → 1 ≤ order (last_section before) → order (last_section before) ≤ 4 → flat_map decl_in before ≡ decls → systems_in before ≡ closed_only closed → length closed + length systems ≤ 64 → are_different (map name_of closed ++ map name_of systems) ≡ true → commands_of closed + commands_of systems ≤ 64 → AreCanonical decls systems → fit_after format before (flat_map (system_lines decls) systems) ≡ true
systems_fit format before decls closed [] low high are here room apart few canonical = refl
systems_fit format before decls closed (system ∷ systems) low high are here room apart few canonical =
    let lines = system_lines decls system in
    let counted : commands_of (system ∷ systems) ≡ command_count system.statements + commands_of systems = sum_by-append (λ (s : System). command_count s.statements) (system ∷ []) systems ∙ omega arith in
    let grown : commands_of (closed ++ system ∷ []) ≡ commands_of closed + commands_of (system ∷ []) = sum_by-append _ closed (system ∷ []) in
    let ordered = order_last_section-append before lines in
    let same_decls : flat_map decl_in (before ++ lines) ≡ decls = flat_map-append decl_in before lines ∙ ap (λ ds. flat_map decl_in before ++ ds) (ap (flat_map decl_in) (sym (append-nil lines)) ∙ none_in_systems decl_in (λ _. refl) (λ _ _. refl) decls (system ∷ [])) ∙ append-nil _ ∙ are in
    let after : systems_in (before ++ lines) ≡ closed_only (closed ++ system ∷ []) =
    ap (λ (ds : List Decl). with_lines ds no_systems (before ++ lines)) same_decls
    ∙ with_lines-append decls no_systems before lines
    ∙ ap (λ (s : SystemsSoFar). with_lines decls s lines) (ap (λ (ds : List Decl). with_lines ds no_systems before) (sym are) ∙ here)
    ∙ ap (with_lines decls (closed_only closed)) (sym (append-nil lines))
    ∙ system_closes decls closed system [] canonical.0 in
    fit_append format before lines _
    (system_fits format before decls closed system low high are here (omega arith) (is_new closed system.name (map name_of systems) apart) (omega (arith, counted)) canonical.0)
    (systems_fit format (before ++ lines) decls (closed ++ system ∷ []) systems (omega (arith, ordered, system_order decls system)) (omega (arith, ordered, system_order decls system)) same_decls after
    (omega (arith, length-append closed (system ∷ [])))
    (ap are_different (ap (λ ns. ns ++ map name_of systems) (map-append name_of closed (system ∷ [])) ∙ append_assoc (map name_of closed) (system.name ∷ []) (map name_of systems)) ∙ apart)
    (omega (arith, counted, grown)) canonical.1)
