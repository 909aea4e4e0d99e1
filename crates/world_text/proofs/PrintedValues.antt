-- The values in a printed row: each has a spelling and is of its field's kind, and they stand for the row.
use Rattle.std.proofs.Common.{◌≡◌, ℕ, zero, suc, ◌+◌, ◌-◌, ◌*◌, ◌/◌, ◌%◌, ◌^◌, ◌≤◌, Bool, true, false, cond, ◌||◌, List, [], ◌∷◌, ◌++◌, map, length, take, drop, replicate, refl, sym, ap, ◌∙◌, arith, ℤ, pos, negsuc, w64, to_z, of_z, to_z-of_z, SFits, IsTrue, length-take, length-drop}
use Rattle.std.specs.List.{list_all, zip, AllByRecursion}
use Rattle.std.specs.Ordering.{int_eq}
use Rattle.std.proofs.lemmas.List.{take-append-drop, length-map}
use Rattle.std.proofs.lemmas.Bool.{and_parts, and_from, eq-eqb, ltb-true, or_left, or_right}
use Rattle.std.proofs.lemmas.Bool.Decides.{Decides-int_eq}
use Rattle.std.proofs.lemmas.Slice.Zip.{length-zip}
use Rattle.entity_id.specs.declared.entity.Profile.{Profile}
use Rattle.entity_id.specs.declared.entity.Entity.{Entity}
use Rattle.entity_id.specs.Identifiers.{null, is_same}
use Rattle.entity_id.specs.Fields.{field_of}
use Rattle.entity_id.proofs.MapLemmas.{same_itself, same_false}
use Rattle.world_model.specs.declared.component.Decl.{Decl}
use Rattle.world_model.specs.declared.component.Kind.{Kind}
use Rattle.world_model.specs.declared.component.Kind.TheVariants as kind
use Rattle.world_model.specs.declared.component.Row.{Row}
use Rattle.world_model.specs.Components.{IsDecl, IsRow, kinds_of, is_below, fits_kind, fits}
use Rattle.world_model.specs.Integers.{IsI64}
use Rattle.world_text.specs.FieldValues.{FieldValue}
use Rattle.world_text.specs.Lines.{IsValue}
use Rattle.world_text.specs.Meaning.{field_of_value, row_of}
use Rattle.world_text.specs.Fitting.{is_of_kind, are_of_kinds}
use Rattle.world_text.specs.Documents.{value_in, values_in}

-- ---- one value

fits_64 : (v : ℤ) → IsI64 v → SFits w64 v
fits_64 (pos n) small = record { sfits = small }
fits_64 (negsuc n) small = record { sfits = small }

-- the identifier that the bits of a field hold
abbrev parts_of : ℤ → Entity
parts_of v = record { index = of_z w64 v % 2 ^ 32; version = of_z w64 v / 2 ^ 32 }

field_of-null : (profile : Profile) → field_of profile (null profile) ≡ negsuc 0
field_of-null profile = ap (λ b. cond b (negsuc 0) (to_z w64 (profile.index_limit + profile.version_limit * 2 ^ 32))) (same_itself (null profile))

below_not_null : (profile : Profile) (entity : Entity) → is_below profile entity ≡ true → is_same entity (null profile) ≡ false
below_not_null profile entity below =
    let index = ltb-true entity.index profile.index_limit (and_parts _ _ below).0 in
    same_false entity (null profile) (λ e. omega (arith, index, e))

field_of-parts : (profile : Profile) (v : ℤ) → IsI64 v → is_below profile (parts_of v) ≡ true → field_of profile (parts_of v) ≡ v
field_of-parts profile v small below =
    let bits = of_z w64 v in
    let joined : bits % 2 ^ 32 + bits / 2 ^ 32 * 2 ^ 32 ≡ bits = omega arith in
    ap (λ b. cond b (negsuc 0) (to_z w64 (bits % 2 ^ 32 + bits / 2 ^ 32 * 2 ^ 32))) (below_not_null profile (parts_of v) below)
    ∙ ap (to_z w64) joined
    ∙ to_z-of_z (fits_64 v small)

field_case : (profile : Profile) (v : ℤ) (t : Bool) → int_eq v (negsuc 0) ≡ t → IsI64 v → (t || is_below profile (cond t (null profile) (parts_of v))) ≡ true → field_of profile (cond t (null profile) (parts_of v)) ≡ v
field_case profile v true same small fit = field_of-null profile ∙ sym ((Decides-int_eq v (negsuc 0)).0 same)
field_case profile v false apart small fit = field_of-parts profile v small fit

-- a field that fits its kind is what its value stands for
pub field_kept : (profile : Profile) (k : Kind) (v : ℤ) → IsI64 v → fits_kind profile k v ≡ true → field_of_value profile (value_in profile k v) ≡ v
field_kept profile kind.Int v small fit = refl
field_kept profile kind.Ref v small fit = field_case profile v (int_eq v (negsuc 0)) refl small fit

value_case : (profile : Profile) (v : ℤ) (t : Bool) → (t || is_below profile (cond t (null profile) (parts_of v))) ≡ true → (is_same (cond t (null profile) (parts_of v)) (null profile) || is_below profile (cond t (null profile) (parts_of v))) ≡ true
value_case profile v true fit = or_left _ _ (same_itself (null profile))
value_case profile v false fit = or_right _ _ fit

pub value_spelled : (profile : Profile) (k : Kind) (v : ℤ) → IsI64 v → fits_kind profile k v ≡ true → IsValue profile (value_in profile k v)
value_spelled profile kind.Int v small fit = small
value_spelled profile kind.Ref v small fit = value_case profile v (int_eq v (negsuc 0)) fit

pub value_of_kind : (profile : Profile) (k : Kind) (v : ℤ) → is_of_kind k (value_in profile k v) ≡ true
value_of_kind profile kind.Int v = refl
value_of_kind profile kind.Ref v = refl

-- ---- the values of a row

abbrev valued : Profile → List Kind → List ℤ → List FieldValue
valued profile kinds fields = map (λ pair. value_in profile pair.0 pair.1) (zip kinds fields)

fields_kept : (profile : Profile) (kinds : List Kind) (fields : List ℤ) → length kinds ≡ length fields → AllByRecursion IsI64 fields → list_all (λ pair. fits_kind profile pair.0 pair.1) (zip kinds fields) ≡ true → map (field_of_value profile) (valued profile kinds fields) ≡ fields
fields_kept profile [] [] long small fit = refl
fields_kept profile [] (v ∷ fields) long small fit = absurd (omega arith)
fields_kept profile (k ∷ kinds) [] long small fit = absurd (omega arith)
fields_kept profile (k ∷ kinds) (v ∷ fields) long small fit =
    let h = and_parts (fits_kind profile k v) _ fit in
    λ i. field_kept profile k v small.0 h.0 i ∷ fields_kept profile kinds fields (omega arith) small.1 h.1 i

values_spelled : (profile : Profile) (kinds : List Kind) (fields : List ℤ) → AllByRecursion IsI64 fields → list_all (λ pair. fits_kind profile pair.0 pair.1) (zip kinds fields) ≡ true → AllByRecursion (IsValue profile) (valued profile kinds fields)
values_spelled profile [] fields small fit = tt
values_spelled profile (k ∷ kinds) [] small fit = tt
values_spelled profile (k ∷ kinds) (v ∷ fields) small fit =
    let h = and_parts (fits_kind profile k v) _ fit in
    (value_spelled profile k v small.0 h.0, values_spelled profile kinds fields small.1 h.1)

values_of_kinds : (profile : Profile) (kinds : List Kind) (fields : List ℤ) → list_all (λ pair. is_of_kind pair.0 pair.1) (zip kinds (valued profile kinds fields)) ≡ true
values_of_kinds profile [] fields = refl
values_of_kinds profile (k ∷ kinds) [] = refl
values_of_kinds profile (k ∷ kinds) (v ∷ fields) = and_from _ _ (value_of_kind profile k v) (values_of_kinds profile kinds fields)

zeros : (fields : List ℤ) → list_all (λ v. int_eq v (pos 0)) fields ≡ true → fields ≡ replicate (length fields) (pos 0)
zeros [] all = refl
zeros (v ∷ fields) all =
    let h = and_parts (int_eq v (pos 0)) _ all in
    λ i. (Decides-int_eq v (pos 0)).0 h.0 i ∷ zeros fields h.1 i

all-take : {X : Type 0} (P : X → Type 0) (n : ℕ) (xs : List X) → AllByRecursion P xs → AllByRecursion P (take n xs)
all-take P zero xs each = tt
all-take P (suc n) [] each = tt
all-take P (suc n) (x ∷ xs) each = (each.0, all-take P n xs each.1)

count_of : (decl : Decl) (row : Row) → IsDecl decl → IsRow row → (length (kinds_of decl) ≡ decl.count) × (length (take decl.count row.f) ≡ decl.count)
count_of decl row is_decl is_row = (omega (arith, length-take decl.count decl.kinds, is_decl.few, is_decl.long), omega (arith, length-take decl.count row.f, is_decl.few, is_row.long))

length-values : (profile : Profile) (decl : Decl) (row : Row) → IsDecl decl → IsRow row → length (values_in profile decl row) ≡ decl.count
length-values profile decl row is_decl is_row =
    let h = count_of decl row is_decl is_row in
    length-map (zip (kinds_of decl) (take decl.count row.f)) _ ∙ length-zip (kinds_of decl) (take decl.count row.f) ∙ omega (arith, h.0, h.1)

-- a row that fits its component is what its values stand for
pub row_kept : (profile : Profile) (decl : Decl) (row : Row) → IsDecl decl → IsRow row → IsTrue (fits profile decl row) → row_of profile (values_in profile decl row) ≡ row
row_kept profile decl row is_decl is_row fit =
    let h = count_of decl row is_decl is_row in
    let both = and_parts _ _ fit in
    let same : length (kinds_of decl) ≡ length (take decl.count row.f) = h.0 ∙ sym h.1 in
    let front = fields_kept profile (kinds_of decl) (take decl.count row.f) same (all-take IsI64 decl.count row.f is_row.wide) both.0 in
    let missing : 4 - length (values_in profile decl row) ≡ length (drop decl.count row.f) = omega (arith, length-values profile decl row is_decl is_row, length-drop decl.count row.f, is_row.long) in
    let back : replicate (4 - length (values_in profile decl row)) (pos 0) ≡ drop decl.count row.f = ap (λ n. replicate n (pos 0)) missing ∙ sym (zeros (drop decl.count row.f) both.1) in
    let whole : map (field_of_value profile) (values_in profile decl row) ++ replicate (4 - length (values_in profile decl row)) (pos 0) ≡ row.f = (λ i. front i ++ back i) ∙ take-append-drop decl.count row.f in
    λ i. record { f = whole i }

pub few_kinds : (decl : Decl) → IsDecl decl → length (kinds_of decl) ≤ 4
few_kinds decl is_decl = omega (arith, length-take decl.count decl.kinds, is_decl.few)

-- its values are as many as the component has fields, and of their kinds
pub row_of_kinds : (profile : Profile) (decl : Decl) (row : Row) → length (kinds_of decl) ≤ 4 → IsRow row → are_of_kinds (kinds_of decl) (values_in profile decl row) ≡ true
row_of_kinds profile decl row few is_row =
    let kinds = kinds_of decl in
    let fields = take decl.count row.f in
    let enough : length kinds ≤ length fields = omega (arith, few, length-take decl.count decl.kinds, length-take decl.count row.f, is_row.long) in
    let as_many : length kinds ≡ length (values_in profile decl row) = sym (length-map (zip kinds fields) _ ∙ length-zip kinds fields ∙ omega (arith, enough)) in
    and_from _ _ (eq-eqb (length kinds) (length (values_in profile decl row)) as_many) (values_of_kinds profile kinds fields)

-- at most 4
pub row_short : (profile : Profile) (decl : Decl) (row : Row) → IsDecl decl → IsRow row → length (values_in profile decl row) ≤ 4
row_short profile decl row is_decl is_row = omega (arith, length-values profile decl row is_decl is_row, is_decl.few)

-- and each has a spelling
pub row_spelled : (profile : Profile) (decl : Decl) (row : Row) → IsRow row → IsTrue (fits profile decl row) → AllByRecursion (IsValue profile) (values_in profile decl row)
row_spelled profile decl row is_row fit = values_spelled profile (kinds_of decl) (take decl.count row.f) (all-take IsI64 decl.count row.f is_row.wide) (and_parts _ _ fit).0
