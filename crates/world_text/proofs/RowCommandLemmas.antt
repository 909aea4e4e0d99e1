-- What the text of a script's line with a row, or with a value of a field, says.
use Rattle.std.proofs.Common.{◌≡◌, ◌≢◌, inl, ℕ, zero, suc, ◌<◌, ◌≤◌, true, false, Bool, List, [], ◌∷◌, ◌++◌, drop, get_or, length, map, Option, Some, None, slice_get, codes, refl, sym, ap, ap₂, subst, ◌∙◌, arith, ℤ}
use Rattle.std.specs.List.{AllByRecursion, list_all, zip}
use Rattle.std.specs.Option.{option_map_or, option_and_then}
use Rattle.std.proofs.lemmas.Bool.{and_parts, eqb-true, false≢true}
use Rattle.std.proofs.lemmas.Option.{none-some, same_Some}
use Rattle.std.specs.Prelude.{◌==◌}
use Rattle.entity_id.specs.declared.entity.Profile.{Profile}
use Rattle.entity_id.specs.declared.entity.Entity.{Entity}
use Rattle.entity_id.specs.Identifiers.{HasLimits}
use Rattle.entity_id.specs.Texts.{entity_text}
use Rattle.world_model.specs.declared.component.Decl.{Decl}
use Rattle.world_model.specs.declared.component.Kind.{Kind}
use Rattle.world_model.specs.declared.component.Kind.TheVariants as kind
use Rattle.world_model.specs.declared.component.Row.{Row}
use Rattle.world_model.specs.Components.{kinds_of, IsDecl, IsRow, fits, fits_kind, has_field}
use Rattle.world_model.specs.Integers.{IsI64}
use Rattle.world_text.specs.FieldValues.{FieldValue}
use Rattle.world_text.specs.FieldValues as value
use Rattle.world_text.specs.Documents.{value_in, values_in}
use Rattle.world_text.specs.Lines.{IsValue, value_text, values_text}
use Rattle.world_text.specs.Meaning.{field_of_value, row_of}
use Rattle.world_text.specs.Fitting.{is_of_kind, are_of_kinds}
use Rattle.world_text.specs.Reading.{AreValuesOf, IsRowOf, IsValueFirst, IsFieldFirst}
use Rattle.row_lang.specs.FieldNames.{field_text, kind_at}
use Rattle.world_text.specs.Scripts.{row_text, field_value_text}
use Rattle.row_lang.specs.Reading.{EndsName}
use Rattle.world_text.specs.ScriptReading.{HasFewFields, IsEntityNext, IsEntryNext, IsFieldNext, IsRowLast, IsFieldLast}
use Rattle.world_text.proofs.FieldLemmas.{one_field}
use Rattle.world_text.proofs.LinePartLemmas.{one_entity, one_entry}
use Rattle.world_text.proofs.LawfulRows.{field_holds, fields_beside, value_within, value_is_i64, kind_fits, row_fits, row_is_row}
use Rattle.world_text.proofs.PrintedValues.{row_of_kinds, row_spelled, value_spelled, value_of_kind}
use Rattle.world_text.proofs.TakingLemmas.{of_kinds, same_length, same_first}

-- ---- the component

-- what stands at its place
pub found_at : {X : Type 0} (xs : List X) (place : ℕ) (x : X) → place < length xs → x ≡ get_or xs place x → slice_get xs place ≡ Some x
found_at [] place x within e = absurd (omega arith)
found_at (y ∷ xs) zero x within e = ap Some (sym e)
found_at (y ∷ xs) (suc place) x within e = found_at xs place x (omega arith) e

pub decl_at : (decls : List Decl) (pool : ℕ) (decl : Decl) → AllByRecursion IsDecl decls → slice_get decls pool ≡ Some decl → IsDecl decl
decl_at [] pool decl each e = absurd (none-some decl e)
decl_at (d ∷ ds) zero decl each e = subst IsDecl (same_Some d decl e) each.0
decl_at (d ∷ ds) (suc pool) decl each e = decl_at ds pool decl each.1 e

-- ---- the values

value_kept : (profile : Profile) (k : Kind) (v : FieldValue) → HasLimits profile → IsValue profile v → is_of_kind k v ≡ true → value_in profile k (field_of_value profile v) ≡ v
value_kept profile kind.Int (value.Int number) limits of_value of_kind = refl
value_kept profile kind.Int (value.Ref entity) limits of_value of_kind = absurd (false≢true of_kind)
value_kept profile kind.Ref (value.Int number) limits of_value of_kind = absurd (false≢true of_kind)
value_kept profile kind.Ref (value.Ref entity) limits of_value of_kind = ap value.Ref (field_holds profile entity limits (value_within profile entity of_value))

fields_valued : (profile : Profile) (kinds : List Kind) (values : List FieldValue) → HasLimits profile → AllByRecursion (IsValue profile) values → length kinds ≡ length values → list_all (λ pair. is_of_kind pair.0 pair.1) (zip kinds values) ≡ true → map (λ pair. value_in profile pair.0 pair.1) (zip kinds (map (field_of_value profile) values)) ≡ values
fields_valued profile [] [] limits each long all = refl
fields_valued profile [] (v ∷ values) limits each long all = absurd (omega arith)
fields_valued profile (k ∷ kinds) [] limits each long all = absurd (omega arith)
fields_valued profile (k ∷ kinds) (v ∷ values) limits each long all =
    let parts = and_parts (is_of_kind k v) _ all in
    ap₂ (λ x xs. x ∷ xs) (value_kept profile k v limits each.0 parts.0) (fields_valued profile kinds values limits each.1 (omega arith) parts.1)

-- the values in the row of a component's values
values_kept : (profile : Profile) (decl : Decl) (values : List FieldValue) → HasLimits profile → AllByRecursion (IsValue profile) values → are_of_kinds (kinds_of decl) values ≡ true → values_in profile decl (row_of profile values) ≡ values
values_kept profile decl values limits each all =
    let parts = and_parts (length (kinds_of decl) == length values) _ all in
    let long : length (kinds_of decl) ≡ length values = eqb-true _ _ parts.0 in
    ap (map (λ pair. value_in profile pair.0 pair.1)) (fields_beside profile decl values long)
    ∙ fields_valued profile (kinds_of decl) values limits each long parts.1

-- the text of a row of a component that is there
pub row_text_at : (profile : Profile) (decls : List Decl) (pool : ℕ) (decl : Decl) (row : Row) → slice_get decls pool ≡ Some decl → row_text profile decls pool row ≡ values_text profile (values_in profile decl row)
row_text_at profile decls pool decl row at = ap (λ d. values_text profile (option_map_or (λ (decl : Decl). values_in profile decl row) d [])) at

-- values end a name
values_end : (profile : Profile) (values : List FieldValue) (rest : List ℕ) → EndsName (values_text profile values ++ 10 ∷ rest)
values_end profile [] rest = refl
values_end profile (v ∷ values) rest = refl

pub row_ends : (profile : Profile) (decls : List Decl) (pool : ℕ) (row : Row) (rest : List ℕ) → EndsName (row_text profile decls pool row ++ 10 ∷ rest)
row_ends profile decls pool row rest = values_end profile (option_map_or (λ decl. values_in profile decl row) (slice_get decls pool) []) rest

-- ---- lines with a row

-- no values behind the entry, no row
pub no_row : (profile : Profile) (decls : List Decl) (text behind : List ℕ) (entity : Entity) (pool : ℕ) (decl : Decl) (kinds : List Kind) → HasLimits profile → IsEntryNext profile decls text entity pool behind → slice_get decls pool ≡ Some decl → kinds ≡ kinds_of decl → length kinds ≤ 4 → ((values : List FieldValue) (more : List ℕ) → AreValuesOf profile kinds behind values more → ⊥) → (other : Entity) (number : ℕ) (row : Row) (rest : List ℕ) → IsRowLast profile decls text other number row rest → ⊥
no_row profile decls text behind entity pool decl kinds limits first at is_kinds few none other number row rest h =
    let same = one_entry profile decls text behind (row_text profile decls number row ++ 10 ∷ rest) entity other pool number limits first h.entry in
    let there : slice_get decls number ≡ Some decl = ap (slice_get decls) (sym same.1) ∙ at in
    let fit : fits profile decl row ≡ true = sym (ap (λ d. option_map_or (λ (decl : Decl). fits profile decl row) d true) there) ∙ h.may_set.fit in
    none (values_in profile decl row) rest (record {
      of_kinds = subst (λ ks. are_of_kinds ks (values_in profile decl row) ≡ true) (sym is_kinds) (row_of_kinds profile decl row (subst (λ (ks : List Kind). length ks ≤ 4) is_kinds few) h.may_set.wide);
      each = row_spelled profile decl row h.may_set.wide fit;
      whole = same.2 ∙ ap (λ x. x ++ 10 ∷ rest) (row_text_at profile decls number decl row there);
    })

-- an entry and the values of a row behind it
pub row_last : (profile : Profile) (decls : List Decl) (text behind after : List ℕ) (entity : Entity) (pool : ℕ) (decl : Decl) (kinds : List Kind) (row : Row) → HasLimits profile → IsEntryNext profile decls text entity pool behind → slice_get decls pool ≡ Some decl → kinds ≡ kinds_of decl → length kinds ≤ 4 → IsRowOf profile kinds behind row after → IsRowLast profile decls text entity pool row after
row_last profile decls text behind after entity pool decl kinds row limits first at is_kinds short of =
    let kinds_fit : are_of_kinds (kinds_of decl) of.values ≡ true = subst (λ ks. are_of_kinds ks of.values ≡ true) is_kinds of.spelled.of_kinds in
    let count = same_length (kinds_of decl) of.values (of_kinds (kinds_of decl) of.values kinds_fit) in
    let few : length of.values ≤ 4 = omega (arith, count, ap length is_kinds) in
    let fit : fits profile decl row ≡ true = ap (fits profile decl) of.held ∙ row_fits profile decl of.values limits of.spelled.each kinds_fit in
    let spelled : row_text profile decls pool row ≡ values_text profile of.values =
    row_text_at profile decls pool decl row at ∙ ap (values_text profile) (ap (values_in profile decl) of.held ∙ values_kept profile decl of.values limits of.spelled.each kinds_fit) in
    let whole : behind ≡ row_text profile decls pool row ++ 10 ∷ after = of.spelled.whole ∙ ap (λ x. x ++ 10 ∷ after) (sym spelled) in
    record {
      entry = subst (λ (t : List ℕ). IsEntryNext profile decls text entity pool t) whole first;
      may_set = record {
        wide = subst IsRow (sym of.held) (row_is_row profile of.values limits few of.spelled.each);
        fit = ap (λ d. option_map_or (λ (decl : Decl). fits profile decl row) d true) at ∙ fit;
      };
    }

-- ---- lines with a value of a field

-- the kind of a field that is there
pub kind_there : (decls : List Decl) (pool field : ℕ) (decl : Decl) (kinds : List Kind) → slice_get decls pool ≡ Some decl → kinds ≡ kinds_of decl → kind_at decls pool field ≡ slice_get kinds field
kind_there decls pool field decl kinds at is_kinds =
    ap (option_and_then (λ (decl : Decl). slice_get (kinds_of decl) field)) at
    ∙ ap (λ ks. slice_get ks field) (sym is_kinds)

field_at : (test : Kind → Bool) (decls : List Decl) (pool field : ℕ) (k : Kind) → kind_at decls pool field ≡ Some k → has_field test decls pool field ≡ test k
field_at test decls pool field k at = go (slice_get decls pool) at
  where
    go : (d : Option Decl) → option_and_then (λ (decl : Decl). slice_get (kinds_of decl) field) d ≡ Some k → option_map_or (λ (decl : Decl). option_map_or test (slice_get (kinds_of decl) field) false) d false ≡ test k
    go None e = absurd (none-some k e)
    go (Some decl) e = ap (λ o. option_map_or test o false) e

value_text_at : (profile : Profile) (decls : List Decl) (pool field : ℕ) (v : ℤ) (k : Kind) → kind_at decls pool field ≡ Some k → field_value_text profile decls pool field v ≡ value_text profile (value_in profile k v)
value_text_at profile decls pool field v k at = ap (λ o. option_map_or (λ (k : Kind). value_text profile (value_in profile k v)) o []) at

-- an identifier, a field and a value of its kind up to the end of the line
pub field_last : (profile : Profile) (decls : List Decl) (text behind valued rest after : List ℕ) (entity : Entity) (pool field : ℕ) (k : Kind) (v : ℤ) → HasLimits profile → IsEntityNext profile text entity behind → IsFieldNext decls behind pool field k valued → IsFieldFirst profile k valued v rest → rest ≡ codes "\n" ++ after → IsFieldLast profile decls text entity pool field v after
field_last profile decls text behind valued rest after entity pool field k v limits first next of ends =
    let same : value_in profile k v ≡ of.value = ap (value_in profile k) of.held ∙ value_kept profile k of.value limits of.first.is of.first.of_kind in
    let spelled : valued ≡ 32 ∷ (field_value_text profile decls pool field v ++ 10 ∷ after) =
    of.first.whole ∙ (λ i. 32 ∷ (value_text profile (sym same i) ++ ends i)) ∙ ap (λ (t : List ℕ). 32 ∷ (t ++ 10 ∷ after)) (sym (value_text_at profile decls pool field v k next.of_kind)) in
    record {
      is = record { of_profile = first.of_profile; called = next.called };
      may_set = record {
        wide = subst IsI64 (sym of.held) (value_is_i64 profile of.value limits of.first.is);
        fit = λ _. field_at (λ kind. fits_kind profile kind v) decls pool field k next.of_kind
            ∙ ap (fits_kind profile k) of.held ∙ kind_fits profile k of.value limits of.first.is of.first.of_kind;
      };
      whole = first.whole ∙ ap (λ (t : List ℕ). 32 ∷ (entity_text profile entity ++ t)) (next.whole ∙ ap (λ (t : List ℕ). 32 ∷ (field_text decls pool field ++ t)) spelled);
    }

-- what a line with a field says: its identifier, its field, and a value of the field's kind
pub record IsFieldParts (profile : Profile) (decls : List Decl) (behind : List ℕ) (pool field : ℕ) (v : ℤ) (rest : List ℕ) : Type 0 where
  pub k : Kind
  pub passes : fits_kind profile k v ≡ true
  pub valued : List ℕ
  pub next : IsFieldNext decls behind pool field k valued
  pub first : IsValueFirst profile k valued (value_in profile k v) (10 ∷ rest)

-- a field that passes a test is there, and its kind passes it
record HasKind (test : Kind → Bool) (decls : List Decl) (pool field : ℕ) : Type 0 where
  pub k : Kind
  pub at : kind_at decls pool field ≡ Some k
  pub passes : test k ≡ true

has_kind : (test : Kind → Bool) (decls : List Decl) (pool field : ℕ) → has_field test decls pool field ≡ true → HasKind test decls pool field
has_kind test decls pool field has = go (slice_get decls pool) refl has
  where
    go : (d : Option Decl) → slice_get decls pool ≡ d → option_map_or (λ (decl : Decl). option_map_or test (slice_get (kinds_of decl) field) false) d false ≡ true → HasKind test decls pool field
    go None at h = absurd (false≢true h)
    go (Some decl) at h = inner (slice_get (kinds_of decl) field) refl h
      where
        inner : (o : Option Kind) → slice_get (kinds_of decl) field ≡ o → option_map_or test o false ≡ true → HasKind test decls pool field
        inner None there g = absurd (false≢true g)
        inner (Some k) there g = record {
          k = k;
          at = ap (option_and_then (λ (decl : Decl). slice_get (kinds_of decl) field)) at ∙ there;
          passes = g;
        }

-- the parts of a line with a field, behind its identifier
pub field_parts : (profile : Profile) (decls : List Decl) (text behind : List ℕ) (entity other : Entity) (pool field : ℕ) (v : ℤ) (rest : List ℕ) → HasLimits profile → IsEntityNext profile text entity behind → IsFieldLast profile decls text other pool field v rest → IsFieldParts profile decls behind pool field v rest
field_parts profile decls text behind entity other pool field v rest limits first h =
    let valued = 32 ∷ (field_value_text profile decls pool field v ++ 10 ∷ rest) in
    let same = one_entity profile text behind (32 ∷ (field_text decls pool field ++ valued)) entity other limits first (record { of_profile = h.is.of_profile; whole = h.whole; ended = inl (omega arith) }) in
    let kind = has_kind (λ kind. fits_kind profile kind v) decls pool field (h.may_set.fit h.is.called.declared) in
    record {
      k = kind.k;
      passes = kind.passes;
      valued = valued;
      next = record { called = h.is.called; of_kind = kind.at; whole = same.1; ended = refl };
      first = record {
        is = value_spelled profile kind.k v h.may_set.wide kind.passes;
        of_kind = value_of_kind profile kind.k v;
        whole = ap (λ (t : List ℕ). 32 ∷ (t ++ 10 ∷ rest)) (value_text_at profile decls pool field v kind.k kind.at);
        ended = inl (omega arith);
      };
    }

-- no field behind the identifier
pub no_field : (profile : Profile) (decls : List Decl) (text behind : List ℕ) (entity : Entity) → HasLimits profile → IsEntityNext profile text entity behind → ((pool field : ℕ) (kind : Kind) (more : List ℕ) → IsFieldNext decls behind pool field kind more → ⊥) → (other : Entity) (pool field : ℕ) (v : ℤ) (rest : List ℕ) → IsFieldLast profile decls text other pool field v rest → ⊥
no_field profile decls text behind entity limits first none other pool field v rest h =
    let parts = field_parts profile decls text behind entity other pool field v rest limits first h in
    none pool field parts.k parts.valued parts.next

-- the value behind a field that was read
same_value : (profile : Profile) (decls : List Decl) (behind valued : List ℕ) (a m : ℕ) (k : Kind) (pool field : ℕ) (v : ℤ) (rest : List ℕ) → HasFewFields decls a → IsFieldNext decls behind a m k valued → IsFieldParts profile decls behind pool field v rest → IsValueFirst profile k valued (value_in profile k v) (10 ∷ rest)
same_value profile decls behind valued a m k pool field v rest few next parts =
    let same = one_field decls behind valued parts.valued a pool m field k parts.k few next parts.next in
    subst (λ (t : List ℕ). IsValueFirst profile k t (value_in profile k v) (10 ∷ rest)) (sym same.3)
    (subst (λ (j : Kind). IsValueFirst profile j parts.valued (value_in profile j v) (10 ∷ rest)) (sym same.2) parts.first)

-- no value of its kind behind the field
pub no_value : (profile : Profile) (decls : List Decl) (text behind valued : List ℕ) (entity : Entity) (a m : ℕ) (k : Kind) → HasLimits profile → IsEntityNext profile text entity behind → HasFewFields decls a → IsFieldNext decls behind a m k valued → ((value : FieldValue) (more : List ℕ) → IsValueFirst profile k valued value more → ⊥) → (other : Entity) (pool field : ℕ) (v : ℤ) (rest : List ℕ) → IsFieldLast profile decls text other pool field v rest → ⊥
no_value profile decls text behind valued entity a m k limits first few next none other pool field v rest h =
    none (value_in profile k v) (10 ∷ rest) (same_value profile decls behind valued a m k pool field v rest few next (field_parts profile decls text behind entity other pool field v rest limits first h))

-- something else than the line's end behind the value
pub no_value_end : (profile : Profile) (decls : List Decl) (text behind valued after : List ℕ) (entity : Entity) (a m : ℕ) (k : Kind) (z : ℤ) → HasLimits profile → IsEntityNext profile text entity behind → HasFewFields decls a → IsFieldNext decls behind a m k valued → IsFieldFirst profile k valued z after → ((more : List ℕ) → after ≢ codes "\n" ++ more) → (other : Entity) (pool field : ℕ) (v : ℤ) (rest : List ℕ) → IsFieldLast profile decls text other pool field v rest → ⊥
no_value_end profile decls text behind valued after entity a m k z limits first few next of none other pool field v rest h =
    let its = same_value profile decls behind valued a m k pool field v rest few next (field_parts profile decls text behind entity other pool field v rest limits first h) in
    none rest (same_first profile k of.value (value_in profile k v) after (10 ∷ rest) limits of.first.is its.is of.first.of_kind its.of_kind of.first.ended its.ended (ap (drop 1) (sym of.first.whole ∙ its.whole))).1
