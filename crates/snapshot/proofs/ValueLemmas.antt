-- Numbers and values at the front of bytes: the bytes tell them.
use Rattle.std.proofs.Common.{◌≡◌, ◌⊎◌, inl, inr, ℕ, suc, ◌<◌, ◌^◌, ℤ, pos, negsuc, SFits, true, false, ◌&&◌, ◌||◌, cond, eqb, List, [], ◌∷◌, ◌++◌, drop, length, refl, sym, ap, ap₂, ◌∙◌, arith, append_assoc, to_z-of_z}
use Rattle.std.specs.List.{flat_map, AllByRecursion}
use Rattle.std.specs.Int.{w64, cast_signed, cast_unsigned}
use Rattle.std.proofs.lemmas.Bool.{cases_Bool, and_parts}
use Rattle.std.proofs.lemmas.Bool.Decides.{nat_tests}
use Rattle.entity_id.specs.declared.entity.Entity.{Entity}
use Rattle.entity_id.specs.Identifiers.{null, is_same}
use Rattle.world_model.specs.declared.component.Kind.{Kind}
use Rattle.world_model.specs.declared.component.Kind.TheVariants as kind
use Rattle.world_model.specs.Components.{is_below, is_target}
use Rattle.world_model.specs.Integers.{IsI64}
use Rattle.world_text.specs.FieldValues.{FieldValue}
use Rattle.world_text.specs.FieldValues.{Int, Ref}
use Rattle.world_text.specs.Formats.{version_1}
use Rattle.world_text.specs.Fitting.{is_of_kind, are_of_kinds}
use Rattle.world_text.specs.Lines.{IsValue}
use Rattle.world_text.proofs.TakingLemmas.{of_kinds}
use Rattle.snapshot.specs.Fields.{u16_bytes, u32_bytes, u64_bytes, all_set, shown_part, entity_bytes, value_bytes}
use Rattle.snapshot.proofs.NumberLemmas.{same_number}

-- ---- numbers

pub same_u16 : (a b : ℕ) (x y : List ℕ) → a < 2 ^ 16 → b < 2 ^ 16 → u16_bytes a ++ x ≡ u16_bytes b ++ y → (a ≡ b) × (x ≡ y)
same_u16 a b x y p q e = (same_number 2 a b x y (omega arith) (omega arith) e, ap (drop 2) e)

pub same_u32 : (a b : ℕ) (x y : List ℕ) → a < 2 ^ 32 → b < 2 ^ 32 → u32_bytes a ++ x ≡ u32_bytes b ++ y → (a ≡ b) × (x ≡ y)
same_u32 a b x y p q e = (same_number 4 a b x y (omega arith) (omega arith) e, ap (drop 4) e)

pub same_u64 : (a b : ℕ) (x y : List ℕ) → a < 2 ^ 64 → b < 2 ^ 64 → u64_bytes a ++ x ≡ u64_bytes b ++ y → (a ≡ b) × (x ≡ y)
same_u64 a b x y p q e = (same_number 8 a b x y (omega arith) (omega arith) e, ap (drop 8) e)

-- ---- identifiers

-- an identifier that a field may hold is null, or below the limits and so not null
pub null_or_below : (entity : Entity) → is_target version_1.profile entity ≡ true → (is_same entity (null version_1.profile) ≡ true) ⊎ ((is_same entity (null version_1.profile) ≡ false) × (entity.index < 1048575) × (entity.version < 4095))
null_or_below entity is =
    elim (cases_Bool (is_same entity (null version_1.profile))) as (λ _. (is_same entity (null version_1.profile) ≡ true) ⊎ ((is_same entity (null version_1.profile) ≡ false) × (entity.index < 1048575) × (entity.version < 4095))) [
      | inl same ↦ inl same
      | inr other ↦
          let below : is_below version_1.profile entity ≡ true = sym (ap (λ b. b || is_below version_1.profile entity) other) ∙ is in
          inr (other, grind (arith, nat_tests), grind (arith, nat_tests))
    ]

null_is : (entity : Entity) → is_same entity (null version_1.profile) ≡ true → entity ≡ null version_1.profile
null_is entity same =
    let parts = and_parts (eqb entity.index 1048575) (eqb entity.version 4095) same in
    let index : entity.index ≡ 1048575 = grind (arith, nat_tests) in
    let version : entity.version ≡ 4095 = grind (arith, nat_tests) in
    λ i. record { index = index i; version = version i }

shown_null : (entity : Entity) (part : ℕ) → is_same entity (null version_1.profile) ≡ true → shown_part entity part ≡ all_set
shown_null entity part same = ap (λ b. cond b all_set part) same

shown_other : (entity : Entity) (part : ℕ) → is_same entity (null version_1.profile) ≡ false → shown_part entity part ≡ part
shown_other entity part other = ap (λ b. cond b all_set part) other

shown_small : (entity : Entity) (part : ℕ) → part < 2 ^ 32 → shown_part entity part < 2 ^ 32
shown_small entity part small = elim (is_same entity (null version_1.profile)) as (λ b. cond b all_set part < 2 ^ 32) [ true ↦ omega arith | false ↦ small ]

small_parts : (entity : Entity) → is_target version_1.profile entity ≡ true → (entity.index < 2 ^ 32) × (entity.version < 2 ^ 32)
small_parts entity is = elim (null_or_below entity is) as (λ _. (entity.index < 2 ^ 32) × (entity.version < 2 ^ 32)) [
  | inl same ↦ (omega (arith, ap (λ (e : Entity). e.index) (null_is entity same)), omega (arith, ap (λ (e : Entity). e.version) (null_is entity same)))
  | inr below ↦ (omega (arith, below.1), omega (arith, below.2))
]

-- the bytes of an identifier tell it
pub same_entity : (a b : Entity) (x y : List ℕ) → is_target version_1.profile a ≡ true → is_target version_1.profile b ≡ true → entity_bytes a ++ x ≡ entity_bytes b ++ y → (a ≡ b) × (x ≡ y)
same_entity a b x y p q e =
    let small_a = small_parts a p in
    let small_b = small_parts b q in
    let whole = sym (append_assoc (u32_bytes (shown_part a a.index)) (u32_bytes (shown_part a a.version)) x) ∙ e ∙ append_assoc (u32_bytes (shown_part b b.index)) (u32_bytes (shown_part b b.version)) y in
    let first = same_u32 (shown_part a a.index) (shown_part b b.index) (u32_bytes (shown_part a a.version) ++ x) (u32_bytes (shown_part b b.version) ++ y) (shown_small a a.index small_a.0) (shown_small b b.index small_b.0) whole in
    let second = same_u32 (shown_part a a.version) (shown_part b b.version) x y (shown_small a a.version small_a.1) (shown_small b b.version small_b.1) first.1 in (
      elim (null_or_below a p) as (λ _. a ≡ b) [
        | inl null_a ↦ elim (null_or_below b q) as (λ _. a ≡ b) [
          | inl null_b ↦ null_is a null_a ∙ sym (null_is b null_b)
          | inr below_b ↦ absurd (omega (arith, sym (shown_null a a.index null_a) ∙ first.0 ∙ shown_other b b.index below_b.0, below_b.1))
        ]
        | inr below_a ↦ elim (null_or_below b q) as (λ _. a ≡ b) [
          | inl null_b ↦ absurd (omega (arith, sym (shown_other a a.index below_a.0) ∙ first.0 ∙ shown_null b b.index null_b, below_a.1))
          | inr below_b ↦
              let index = sym (shown_other a a.index below_a.0) ∙ first.0 ∙ shown_other b b.index below_b.0 in
              let version = sym (shown_other a a.version below_a.0) ∙ second.0 ∙ shown_other b b.version below_b.0 in
              λ i. record { index = index i; version = version i }
        ]
      ],
      second.1,
    )

-- ---- values

fits_64 : (z : ℤ) → IsI64 z → SFits w64 z
fits_64 (pos n) is = record { sfits = is }
fits_64 (negsuc n) is = record { sfits = is }

bits_small : (z : ℤ) → IsI64 z → cast_unsigned w64 z < 2 ^ 64
bits_small (pos n) is = omega arith
bits_small (negsuc n) is = omega arith

same_bits : (m n : ℤ) → IsI64 m → IsI64 n → cast_unsigned w64 m ≡ cast_unsigned w64 n → m ≡ n
same_bits m n p q e = sym (to_z-of_z (fits_64 m p)) ∙ ap (cast_signed w64) e ∙ to_z-of_z (fits_64 n q)

-- the bytes of a value of a kind tell it
pub same_value : (k : Kind) (a b : FieldValue) (x y : List ℕ) → is_of_kind k a ≡ true → is_of_kind k b ≡ true → IsValue version_1.profile a → IsValue version_1.profile b → value_bytes a ++ x ≡ value_bytes b ++ y → (a ≡ b) × (x ≡ y)
same_value kind.Int (Int m) (Int n) x y of_a of_b p q e =
    let bits = same_u64 (cast_unsigned w64 m) (cast_unsigned w64 n) x y (bits_small m p) (bits_small n q) e in
    (ap Int (same_bits m n p q bits.0), bits.1)
same_value kind.Ref (Ref a) (Ref b) x y of_a of_b p q e =
    let same = same_entity a b x y p q e in
    (ap Ref same.0, same.1)
same_value kind.Int (Ref a) b x y of_a of_b p q e = absurd cc
same_value kind.Int a (Ref b) x y of_a of_b p q e = absurd cc
same_value kind.Ref (Int m) b x y of_a of_b p q e = absurd cc
same_value kind.Ref a (Int n) x y of_a of_b p q e = absurd cc

kinds_more : (k : Kind) (kinds : List Kind) (v : FieldValue) (values : List FieldValue) → are_of_kinds (k ∷ kinds) (v ∷ values) ≡ true → (is_of_kind k v ≡ true) × (are_of_kinds kinds values ≡ true)
kinds_more k kinds v values of =
    let parts = and_parts (eqb (suc (length kinds)) (suc (length values))) _ of in
    let tests = and_parts (is_of_kind k v) _ parts.1 in
    let counted : length kinds ≡ length values = grind (arith, nat_tests) in
    let count : eqb (length kinds) (length values) ≡ true = grind (arith, nat_tests) in
    (tests.0, λ i. count i && tests.1 i)

-- the bytes of values of kinds tell them
pub same_values : (kinds : List Kind) (a b : List FieldValue) (x y : List ℕ) → are_of_kinds kinds a ≡ true → are_of_kinds kinds b ≡ true → AllByRecursion (IsValue version_1.profile) a → AllByRecursion (IsValue version_1.profile) b → flat_map value_bytes a ++ x ≡ flat_map value_bytes b ++ y → (a ≡ b) × (x ≡ y)
same_values [] [] [] x y of_a of_b p q e = (refl, e)
same_values [] (v ∷ a) b x y of_a of_b p q e = absurd (of_kinds [] (v ∷ a) of_a)
same_values [] a (v ∷ b) x y of_a of_b p q e = absurd (of_kinds [] (v ∷ b) of_b)
same_values (k ∷ kinds) [] b x y of_a of_b p q e = absurd (of_kinds (k ∷ kinds) [] of_a)
same_values (k ∷ kinds) a [] x y of_a of_b p q e = absurd (of_kinds (k ∷ kinds) [] of_b)
same_values (k ∷ kinds) (v ∷ a) (w ∷ b) x y of_a of_b p q e =
    let more_a = kinds_more k kinds v a of_a in
    let more_b = kinds_more k kinds w b of_b in
    let whole = sym (append_assoc (value_bytes v) (flat_map value_bytes a) x) ∙ e ∙ append_assoc (value_bytes w) (flat_map value_bytes b) y in
    let first = same_value k v w (flat_map value_bytes a ++ x) (flat_map value_bytes b ++ y) more_a.0 more_b.0 p.0 q.0 whole in
    let others = same_values kinds a b x y more_a.1 more_b.1 p.1 q.1 first.1 in
    (ap₂ (λ (u : FieldValue) us. u ∷ us) first.0 others.0, others.1)
