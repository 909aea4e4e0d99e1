-- Fields that may hold identifiers: each is the field of the identifier that it holds, so that no two of them hold the same one.
use Rattle.std.proofs.Common.{◌≡◌, inl, inr, ◌+◌, ◌*◌, ◌/◌, ◌%◌, ◌^◌, Bool, true, false, ◌||◌, ltb, refl, sym, ap, subst, ◌∙◌, arith, ℤ, pos, negsuc, SFits, if◌then◌else◌}
use Rattle.std.specs.Int.{w64, cast_signed, cast_unsigned}
use Rattle.std.specs.Ordering.{int_eq}
use Rattle.std.proofs.lemmas.Bool.{and_parts, cases_Bool, false≢true, false_from_ne_true, ltb-true}
use Rattle.std.proofs.lemmas.Bool.Decides.{Decides-int_eq}
use Rattle.std.proofs.lemmas.Int.{to_z-of_z}
use Rattle.entity_id.specs.declared.entity.Entity.{Entity}
use Rattle.entity_id.specs.declared.entity.Profile.{Profile}
use Rattle.entity_id.specs.Fields.{entity_in, field_of}
use Rattle.entity_id.specs.Identifiers.{is_same, null}
use Rattle.entity_id.proofs.MapLemmas.{same_false, same_itself, same_true}
use Rattle.world_model.specs.declared.component.Kind.TheVariants.{Ref}
use Rattle.world_model.specs.Components.{fits_kind, is_below}
use Rattle.world_model.specs.Integers.{IsI64}
use Rattle.row_lang.specs.Arithmetic.{truth}
use Rattle.row_lang.specs.Values.{same_entity}

-- the identifier that the bits of a field hold
abbrev in_bits : ℤ → Entity
in_bits x = record { index = cast_unsigned w64 x % 2 ^ 32; version = cast_unsigned w64 x / 2 ^ 32 }

-- the field of an identifier, where it is told whether this is null
abbrev field_if : Bool → Entity → ℤ
field_if is_null entity = if is_null then negsuc 0 else cast_signed w64 (entity.index + entity.version * 2 ^ 32)

wide : (x : ℤ) → IsI64 x → SFits w64 x
wide (pos n) small = record { sfits = small }
wide (negsuc n) small = record { sfits = small }

not_null : (profile : Profile) (e : Entity) → is_below profile e ≡ true → is_same e (null profile) ≡ false
not_null profile e below =
    let parts = and_parts (ltb e.index profile.index_limit) _ below in
    same_false e (null profile) (λ same. omega (arith, ltb-true e.index profile.index_limit parts.0, same))

module _ (profile : Profile) where
  field_of-bits : (x : ℤ) → IsI64 x → is_below profile (in_bits x) ≡ true → field_of profile (in_bits x) ≡ x
  field_of-bits x is below =
      let bits = cast_unsigned w64 x in
      let joined : bits % 2 ^ 32 + bits / 2 ^ 32 * 2 ^ 32 ≡ bits = omega arith in
      ap (λ b. field_if b (in_bits x)) (not_null profile (in_bits x) below) ∙ ap (cast_signed w64) joined ∙ to_z-of_z w64 x (wide x is)

  -- a field that may hold an identifier is that identifier's
  pub field_of-entity_in : (x : ℤ) → IsI64 x → fits_kind profile Ref x ≡ true → field_of profile (entity_in profile x) ≡ x
  field_of-entity_in x is fits = split (int_eq x (negsuc 0)) refl fits
    where
      split : (b : Bool) → int_eq x (negsuc 0) ≡ b → (b || is_below profile (if b then null profile else in_bits x)) ≡ true → field_of profile (if b then null profile else in_bits x) ≡ x
      split true here fits = ap (λ b. field_if b (null profile)) (same_itself (null profile)) ∙ sym ((Decides-int_eq x (negsuc 0)).0 here)
      split false here fits = field_of-bits x is fits

  -- an identifier stands in one field
  pub one_field : (x y : ℤ) → IsI64 x → IsI64 y → fits_kind profile Ref x ≡ true → fits_kind profile Ref y ≡ true → entity_in profile x ≡ entity_in profile y → x ≡ y
  one_field x y is other fits fit same = sym (field_of-entity_in x is fits) ∙ ap (field_of profile) same ∙ field_of-entity_in y other fit

  -- the word `same` compares fields
  pub same_compares : (x y : ℤ) → IsI64 x → IsI64 y → fits_kind profile Ref x ≡ true → fits_kind profile Ref y ≡ true → same_entity profile x y ≡ truth (int_eq x y)
  same_compares x y is other fits fit = ap truth (elim (cases_Bool (int_eq x y)) [
    | inl equal ↦ subst (λ (z : ℤ). is_same (entity_in profile x) (entity_in profile z) ≡ true) ((Decides-int_eq x y).0 equal) (same_itself (entity_in profile x)) ∙ sym equal
    | inr differ ↦
        false_from_ne_true (is_same (entity_in profile x) (entity_in profile y))
        (λ same. false≢true (sym differ ∙ (Decides-int_eq x y).1 (one_field x y is other fits fit (same_true (entity_in profile x) (entity_in profile y) same))))
        ∙ sym differ
  ])
