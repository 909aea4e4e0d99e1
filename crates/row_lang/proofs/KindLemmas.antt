-- Values of the kinds: what the operators give, and what rows that fit hold.
use Rattle.std.proofs.Common.{◌≡◌, ℕ, zero, suc, ◌+◌, ◌*◌, ◌/◌, ◌%◌, ◌^◌, ◌<◌, ◌≤◌, Bool, true, false, ◌||◌, List, [], ◌∷◌, get_or, length, take, slice_get, Some, refl, sym, ◌∙◌, subst, arith, ℤ, pos, negsuc, neg_ℤ, nat_abs, if◌then◌else◌}
use Rattle.std.specs.Prelude.{int_rem, int_lt}
use Rattle.std.specs.Int.{w64, cast_signed, cast_unsigned, int_min, int_max}
use Rattle.std.specs.List.{AllByRecursion, list_all, zip}
use Rattle.std.specs.Ordering.{int_eq}
use Rattle.std.proofs.Math.Nat.{mod-le}
use Rattle.std.proofs.lemmas.Bool.{and_parts, ltb-true}
use Rattle.std.proofs.lemmas.Bool.Decides.{nat_tests}
use Rattle.std.proofs.lemmas.Int.{of_z-to_z}
use Rattle.entity_id.specs.declared.entity.Entity.{Entity}
use Rattle.entity_id.specs.declared.entity.Profile.{Profile}
use Rattle.entity_id.specs.Fields.{field_of}
use Rattle.entity_id.specs.Identifiers.{HasLimits, is_same, null}
use Rattle.world_model.specs.declared.component.Decl.{Decl}
use Rattle.world_model.specs.declared.component.Kind.{Kind}
use Rattle.world_model.specs.declared.component.Kind.TheVariants.{Ref}
use Rattle.world_model.specs.declared.component.Row.{Row}
use Rattle.world_model.specs.Components.{IsDecl, IsRow, kinds_of, is_below, fits_kind, fits, value_at}
use Rattle.world_model.specs.Integers.{IsI64}
use Rattle.row_lang.specs.Arithmetic.{truth, is_zero, quotient, remainder}

-- a field of this kind may hold the value
abbrev pub Holds : Profile → Kind → ℤ → Type 0
Holds profile kind x = IsI64 x × (fits_kind profile kind x ≡ true)

-- a row may stand in a component
abbrev pub Stands : Profile → Decl → Row → Type 0
Stands profile decl row = IsRow row × (fits profile decl row ≡ true)

-- ---- numbers

pub bits_are : (n : ℕ) → IsI64 (cast_signed w64 n)
bits_are n = grind (arith, nat_tests)

pub either_is : {X : Type 0} (P : X → Type 0) (b : Bool) (x y : X) → P x → P y → P (if b then x else y)
either_is P true x y p q = p
either_is P false x y p q = q

zero_is : IsI64 (pos 0)
zero_is = omega arith

one_is : IsI64 (pos 1)
one_is = omega arith

pub truth_is : (b : Bool) → IsI64 (truth b)
truth_is b = either_is IsI64 b (pos 1) (pos 0) one_is zero_is

pub quotient_is : (x y : ℤ) → IsI64 (quotient x y)
quotient_is x y = either_is IsI64 (is_zero y) (pos 0) _ zero_is (bits_are _)

negated_is : (n : ℕ) → n ≤ 2 ^ 63 → IsI64 (neg_ℤ (pos n))
negated_is zero small = zero_is
negated_is (suc n) small = omega (arith, small)

rem_is : (x y : ℤ) → IsI64 x → IsI64 (int_rem x y)
rem_is (pos a) y small = omega (arith, small, mod-le a (nat_abs y))
rem_is (negsuc a) y small = negated_is (suc a % nat_abs y) (omega (arith, small, mod-le (suc a) (nat_abs y)))

pub remainder_is : (x y : ℤ) → IsI64 x → IsI64 (remainder x y)
remainder_is x y small = either_is IsI64 (is_zero y) (pos 0) (int_rem x y) zero_is (rem_is x y small)

pub min_is : (x y : ℤ) → IsI64 x → IsI64 y → IsI64 (int_min x y)
min_is x y p q = either_is IsI64 (int_lt y x) y x q p

pub max_is : (x y : ℤ) → IsI64 x → IsI64 y → IsI64 (int_max x y)
max_is x y p q = either_is IsI64 (int_lt y x) x y p q

-- ---- fields that hold identifiers

pub null_holds : (profile : Profile) → Holds profile Ref (negsuc 0)
null_holds profile = (omega arith, refl)

below_parts : (profile : Profile) (e : Entity) → is_below profile e ≡ true → HasLimits profile →
    is_below profile (record { index = cast_unsigned w64 (cast_signed w64 (e.index + e.version * 2 ^ 32)) % 2 ^ 32; version = cast_unsigned w64 (cast_signed w64 (e.index + e.version * 2 ^ 32)) / 2 ^ 32 }) ≡ true
below_parts profile e below limits =
    let parts = and_parts _ _ below in
    let index = ltb-true e.index profile.index_limit parts.0 in
    let version = ltb-true e.version profile.version_limit parts.1 in
    let small : e.index + e.version * 2 ^ 32 < 2 ^ 64 = omega (arith, index, version, limits.index, limits.version) in
    let low : (e.index + e.version * 2 ^ 32) % 2 ^ 32 ≡ e.index = omega (arith, index, limits.index) in
    let high : (e.index + e.version * 2 ^ 32) / 2 ^ 32 ≡ e.version = omega (arith, index, limits.index) in
    rw (of_z-to_z w64 (e.index + e.version * 2 ^ 32) small, low, high) below

-- the identifier that the bits of a field hold
abbrev parts_of : ℤ → Entity
parts_of v = record { index = cast_unsigned w64 v % 2 ^ 32; version = cast_unsigned w64 v / 2 ^ 32 }

null_or_below : (profile : Profile) (v : ℤ) (b : Bool) → is_below profile (parts_of v) ≡ true → (b || is_below profile (if b then null profile else parts_of v)) ≡ true
null_or_below profile v true is = refl
null_or_below profile v false is = is

-- the field of an identifier whose parts are below the limits
pub self_holds : (profile : Profile) (e : Entity) → is_below profile e ≡ true → HasLimits profile → Holds profile Ref (field_of profile e)
self_holds profile e below limits =
    let v : ℤ = cast_signed w64 (e.index + e.version * 2 ^ 32) in
    either_is (Holds profile Ref) (is_same e (null profile)) (negsuc 0) v (null_holds profile)
    (bits_are (e.index + e.version * 2 ^ 32), null_or_below profile v (int_eq v (negsuc 0)) (below_parts profile e below limits))

-- ---- fields of rows

module _ (profile : Profile) where
  abbrev test : Kind × ℤ → Bool
  test pair = fits_kind profile pair.0 pair.1

  held_at : (count : ℕ) (ks : List Kind) (vs : List ℤ) (i : ℕ) (kind : Kind) → length ks ≡ length vs → slice_get (take count ks) i ≡ Some kind →
      list_all test (zip (take count ks) (take count vs)) ≡ true → fits_kind profile kind (get_or vs i (pos 0)) ≡ true
  held_at zero ks vs i kind long at all = absurd (cc)
  held_at (suc count) [] vs i kind long at all = absurd (cc)
  held_at (suc count) (k ∷ ks) [] i kind long at all = absurd (omega (arith, long))
  held_at (suc count) (k ∷ ks) (v ∷ vs) zero kind long at all =
      let same : k ≡ kind = some_same at in subst (λ k. fits_kind profile k v ≡ true) same (and_parts (test (k, v)) (list_all test (zip (take count ks) (take count vs))) all).0
    where
      some_same : Some k ≡ Some kind → k ≡ kind
      some_same e = grind arith
  held_at (suc count) (k ∷ ks) (v ∷ vs) (suc i) kind long at all =
      held_at count ks vs i kind (omega (arith, long)) at (and_parts (test (k, v)) (list_all test (zip (take count ks) (take count vs))) all).1

wide_at : (vs : List ℤ) (i : ℕ) → AllByRecursion IsI64 vs → IsI64 (get_or vs i (pos 0))
wide_at [] i wide = zero_is
wide_at (v ∷ vs) zero wide = wide.0
wide_at (v ∷ vs) (suc i) wide = wide_at vs i wide.1

-- a field of a row that stands in a component
pub field_holds : (profile : Profile) (decl : Decl) (row : Row) (field : ℕ) (kind : Kind) → IsDecl decl → Stands profile decl row → slice_get (kinds_of decl) field ≡ Some kind → Holds profile kind (value_at row field)
field_holds profile decl row field kind is stands at =
    (wide_at row.f field stands.0.wide, held_at profile decl.count decl.kinds row.f field kind (is.long ∙ sym stands.0.long) at (and_parts _ _ stands.1).0)
