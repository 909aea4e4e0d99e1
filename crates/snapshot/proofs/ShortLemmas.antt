-- The header lines of a lawful document are no longer than a line may be.
use Rattle.std.proofs.Common.{◌≡◌, ℕ, ◌+◌, ◌*◌, ◌≤◌, true, List, [], ◌∷◌, ◌++◌, map, length, codes, nat_le, refl, sym, subst, arith, length-append}
use Rattle.std.specs.Prelude.{IsTrue}
use Rattle.std.specs.List.{flat_map, AllByRecursion}
use Rattle.std.proofs.lemmas.Bool.{and_parts}
use Rattle.std.proofs.lemmas.Bool.Decides.{nat_tests}
use Rattle.std.proofs.lemmas.List.{length-map, length-take}
use Rattle.entity_id.proofs.ListLemmas.{all-append}
use Rattle.world_model.specs.declared.component.Decl.{Decl}
use Rattle.world_model.specs.declared.component.Kind.{Kind}
use Rattle.world_model.specs.declared.component.Kind.TheVariants as kind
use Rattle.world_model.specs.declared.group.GroupDecl.{GroupDecl}
use Rattle.world_model.specs.Components.{kinds_of}
use Rattle.world_model.specs.Groups.{is_well_formed, group_pools}
use Rattle.world_model.specs.Names.{is_name}
use Rattle.row_lang.specs.BodyLines.{BodyLine}
use Rattle.row_lang.specs.Naming.{names_of}
use Rattle.row_lang.specs.NameLists.{name_at, spaced_names, names_behind}
use Rattle.row_lang.specs.Systems.{System}
use Rattle.world_text.specs.declared.document.Document.{Document}
use Rattle.world_text.specs.LineKinds.{Line, NamedGroup}
use Rattle.world_text.specs.LineKinds as line
use Rattle.world_text.specs.Formats.{version_1}
use Rattle.world_text.specs.Lines.{IsLine, kind_text, line_text}
use Rattle.world_text.specs.Documents.{IsLawfulDocument, header_of, named_of, group_line, system_lines}
use Rattle.world_text.proofs.PrintedLemmas.{header_spelled}
use Rattle.snapshot.specs.Fields.{line_limit}

-- a line whose bytes are no more than the limit
abbrev pub IsShort : Line → Type 0
IsShort l = length (line_text version_1 l) ≤ line_limit

name_short : (name : List ℕ) → is_name name ≡ true → length name ≤ 32
name_short name is =
    let short : nat_le (length name) 32 ≡ true = (and_parts _ _ (and_parts _ _ (and_parts _ _ is).0).0).1 in
    grind (arith, nat_tests)

kinds_short : (kinds : List Kind) → length (flat_map kind_text kinds) ≤ 7 * length kinds
kinds_short [] = omega arith
kinds_short (kind.Int ∷ kinds) = omega (arith, kinds_short kinds)
kinds_short (kind.Ref ∷ kinds) = omega (arith, kinds_short kinds)

component_short : (decl : Decl) → IsLine version_1 (line.Component decl) → IsShort (line.Component decl)
component_short decl is =
    omega (arith, length-append decl.name (flat_map kind_text (kinds_of decl)), name_short decl.name is.name, kinds_short (kinds_of decl), length-take decl.count decl.kinds, is.fields.few)

names_short : (names : List (List ℕ)) → AllByRecursion (λ name. is_name name ≡ true) names → length (spaced_names names) ≤ 33 * length names
names_short [] each = omega arith
names_short (name ∷ names) each = omega (arith, length-append name (spaced_names names), name_short name each.0, names_short names each.1)

part_short : (word : List ℕ) (names : List (List ℕ)) → length word ≤ 4 → AllByRecursion (λ name. is_name name ≡ true) names → length (names_behind word names) ≤ 4 + 33 * length names
part_short word [] few each = omega arith
part_short word (name ∷ names) few each = omega (arith, length-append word (spaced_names (name ∷ names)), names_short (name ∷ names) each)

group_short : (decls : List Decl) (decl : GroupDecl) → is_well_formed decl ≡ true → IsLine version_1 (group_line decls decl) → IsShort (group_line decls decl)
group_short decls decl formed is =
    let few : nat_le (length (group_pools decl)) 8 ≡ true = (and_parts _ _ formed).1 in
    let pools : length (group_pools decl) ≤ 8 = grind (arith, nat_tests) in
    let named = named_of decls decl in
    let behind = names_behind (codes " get") named.get ++ names_behind (codes " not") named.without in
    omega (
      arith,
      pools,
      length-append (decl.own ++ decl.get) decl.without,
      length-append decl.own decl.get,
      length-map decl.own (name_at decls),
      length-map decl.get (name_at decls),
      length-map decl.without (name_at decls),
      length-append (spaced_names named.own) behind,
      length-append (names_behind (codes " get") named.get) (names_behind (codes " not") named.without),
      names_short named.own is.own,
      part_short (codes " get") named.get (omega arith) is.get,
      part_short (codes " not") named.without (omega arith) is.without,
    )

-- of a group, that it is well-formed, and of the other header lines what their own form says
abbrev pub IsHeaderForm : List Decl → Line → Type 0
IsHeaderForm decls (line.Group named) = (decl : GroupDecl) × (named ≡ named_of decls decl) × (is_well_formed decl ≡ true)
IsHeaderForm decls (line.Component decl) = Unit {0}
IsHeaderForm decls (line.System name) = Unit {0}
IsHeaderForm decls (line.Body names body) = Unit {0}
IsHeaderForm decls _ = ⊥

form_short : (decls : List Decl) (l : Line) → IsHeaderForm decls l → IsLine version_1 l → IsShort l
form_short decls (line.Component decl) form is = component_short decl is
form_short decls (line.Group named) form is = subst (λ n. IsShort (line.Group n)) (sym form.1) (group_short decls form.0 form.2 (subst (λ n. IsLine version_1 (line.Group n)) form.1 is))
form_short decls (line.System name) form is = omega (arith, name_short name is)
form_short decls (line.Body names body) form is = is.is.short
form_short decls _ form is = absurd form

all_short : (decls : List Decl) (lines : List Line) → AllByRecursion (IsHeaderForm decls) lines → AllByRecursion (IsLine version_1) lines → AllByRecursion IsShort lines
all_short decls [] forms each = tt
all_short decls (l ∷ lines) forms each = (form_short decls l forms.0 each.0, all_short decls lines forms.1 each.1)

components_formed : (decls all : List Decl) → AllByRecursion (IsHeaderForm all) (map line.Component decls)
components_formed [] all = tt
components_formed (decl ∷ decls) all = (tt, components_formed decls all)

groups_formed : (decls : List Decl) (groups : List GroupDecl) → AllByRecursion (λ decl. IsTrue (is_well_formed decl)) groups → AllByRecursion (IsHeaderForm decls) (map (group_line decls) groups)
groups_formed decls [] formed = tt
groups_formed decls (decl ∷ groups) formed = ((decl, refl, formed.0), groups_formed decls groups formed.1)

bodies_formed : (decls : List Decl) (lines : List BodyLine) → AllByRecursion (IsHeaderForm decls) (map (line.Body (names_of decls)) lines)
bodies_formed decls [] = tt
bodies_formed decls (body ∷ lines) = (tt, bodies_formed decls lines)

systems_formed : (decls : List Decl) (systems : List System) → AllByRecursion (IsHeaderForm decls) (flat_map (system_lines decls) systems)
systems_formed decls [] = tt
systems_formed decls (system ∷ systems) =
    all-append (IsHeaderForm decls) (system_lines decls system) _ (tt, bodies_formed decls _) (systems_formed decls systems)

pub header_formed : (document : Document) → IsLawfulDocument document → AllByRecursion (IsHeaderForm document.world.decls) (header_of document)
header_formed document lawful =
    let w = document.world in
    all-append (IsHeaderForm w.decls) (map line.Component w.decls) _ (components_formed w.decls w.decls)
    (all-append (IsHeaderForm w.decls) (map (group_line w.decls) w.groups) _ (groups_formed w.decls w.groups lawful.world.groups.well_formed)
    (systems_formed w.decls document.systems))

pub header_short : (document : Document) → IsLawfulDocument document → AllByRecursion IsShort (header_of document)
header_short document lawful = all_short document.world.decls (header_of document) (header_formed document lawful) (header_spelled document lawful)
