-- What one line more changes in the systems that lines stand for.
use Rattle.std.proofs.Common.{◌≡◌, ℕ, ◌<◌, true, List, [], ◌∷◌, ◌++◌, refl, sym, ap, ◌∙◌, arith}
use Rattle.std.specs.List.{flat_map}
use Rattle.std.specs.Str.{bytes_eq}
use Rattle.std.proofs.lemmas.Bool.{and_parts, and_from}
use Rattle.std.proofs.lemmas.Slice.Eq.{bytes_eq-Decides}
use Rattle.world_model.specs.declared.component.Decl.{Decl}
use Rattle.row_lang.specs.Naming.{names_of}
use Rattle.world_text.specs.LineKinds.{Line}
use Rattle.world_text.specs.LineKinds as line
use Rattle.world_text.specs.Sections.{order}
use Rattle.world_text.specs.Meaning.{decl_in}
use Rattle.world_text.specs.SystemLines.{SystemsSoFar, no_systems, with_line, with_lines, systems_in}
use Rattle.world_text.specs.Fitting.{section_of, last_section, are_names_of}
use Rattle.world_text.proofs.MeaningLemmas.{keeps, order_later}

-- ---- one line more

pub with_lines-append : (decls : List Decl) (systems : SystemsSoFar) (a b : List Line) → with_lines decls systems (a ++ b) ≡ with_lines decls (with_lines decls systems a) b
with_lines-append decls systems [] b = refl
with_lines-append decls systems (l ∷ a) b = with_lines-append decls (with_line decls systems l) a b

-- a line that declares no component goes on the systems of those before it
pub systems_push : (before : List Line) (l : Line) → decl_in l ≡ [] → systems_in (before ++ l ∷ []) ≡ with_line (flat_map decl_in before) (systems_in before) l
systems_push before l no_decl =
    ap (λ (decls : List Decl). with_lines decls no_systems (before ++ l ∷ [])) (sym (keeps decl_in before l _ no_decl refl))
    ∙ with_lines-append (flat_map decl_in before) no_systems before (l ∷ [])

-- a line that is none of a system
abbrev pub IsBesideSystems : Line → Type 0
IsBesideSystems (line.System name) = ⊥
IsBesideSystems (line.Body names body) = ⊥
IsBesideSystems _ = Unit {0}

pub same_systems : (decls : List Decl) (systems : SystemsSoFar) (l : Line) → IsBesideSystems l → with_line decls systems l ≡ systems
same_systems decls systems (line.System name) beside = absurd beside
same_systems decls systems (line.Body names body) beside = absurd beside
same_systems decls systems line.End beside = refl
same_systems decls systems _ beside = refl

-- and leaves them
pub systems_keep : (before : List Line) (l : Line) → decl_in l ≡ [] → IsBesideSystems l → systems_in before ≡ systems_in (before ++ l ∷ [])
systems_keep before l no_decl beside = sym (systems_push before l no_decl ∙ same_systems (flat_map decl_in before) (systems_in before) l beside)

beside_early : (l : Line) → order (section_of l) < 4 → IsBesideSystems l
beside_early (line.System name) early = absurd (omega arith)
beside_early (line.Body names body) early = absurd (omega arith)
beside_early line.End early = tt
beside_early _ early = tt

-- before the systems there is none, under any components
pub no_systems_yet : (decls : List Decl) (systems : SystemsSoFar) (before : List Line) → order (last_section before) < 4 → with_lines decls systems before ≡ systems
no_systems_yet decls systems [] early = refl
no_systems_yet decls systems (l ∷ before) early =
    let later_on = order_later (section_of l) (last_section before) in
    ap (λ (s : SystemsSoFar). with_lines decls s before) (same_systems decls systems l (beside_early l (omega (arith, later_on))))
    ∙ no_systems_yet decls systems before (omega (arith, later_on))

-- so a component line leaves them
pub systems_before : (before : List Line) (decl : Decl) → order (last_section before) < 4 → systems_in before ≡ systems_in (before ++ line.Component decl ∷ [])
systems_before before decl early =
    let decls = flat_map decl_in (before ++ line.Component decl ∷ []) in
    no_systems_yet (flat_map decl_in before) no_systems before early
    ∙ sym (with_lines-append decls no_systems before (line.Component decl ∷ []) ∙ no_systems_yet decls no_systems before early)

-- ---- the names of the components

-- names that the test takes are those of the components
pub names_are : (decls : List Decl) (names : List (List ℕ)) → are_names_of decls names ≡ true → names ≡ names_of decls
names_are [] [] same = refl
names_are [] (name ∷ names) same = absurd cc
names_are (decl ∷ decls) [] same = absurd cc
names_are (decl ∷ decls) (name ∷ names) same =
    let parts = and_parts (bytes_eq decl.name name) (are_names_of decls names) same in
    λ i. sym ((bytes_eq-Decides decl.name name).0 parts.0) i ∷ names_are decls names parts.1 i

-- and it takes them
pub own_names : (decls : List Decl) → are_names_of decls (names_of decls) ≡ true
own_names [] = refl
own_names (decl ∷ decls) = and_from _ _ ((bytes_eq-Decides decl.name decl.name).1 refl) (own_names decls)
