-- Values at a place of bytes.
use Rattle.std.proofs.Common.{◌≡◌, ◌⊎◌, inl, inr, ℕ, ◌+◌, ◌<◌, ◌^◌, ℤ, pos, negsuc, SFits, Fits, Bool, true, false, ◌&&◌, ◌||◌, cond, eqb, List, ◌++◌, drop, length, refl, sym, ap, ◌∙◌, arith, append_assoc}
use Rattle.std.specs.Int.{w64, cast_signed}
use Rattle.std.proofs.lemmas.Int.{of_z-to_z}
use Rattle.std.proofs.Math.Facts.{sfits_to_z}
use Rattle.entity_id.specs.declared.entity.Entity.{Entity}
use Rattle.entity_id.specs.Fields.{field_of}
use Rattle.entity_id.specs.Identifiers.{null, is_same}
use Rattle.world_model.specs.declared.component.Kind.{Kind}
use Rattle.world_model.specs.declared.component.Kind.TheVariants as kind
use Rattle.world_model.specs.Components.{is_target}
use Rattle.world_model.specs.Integers.{IsI64}
use Rattle.world_text.specs.FieldValues.{FieldValue}
use Rattle.world_text.specs.FieldValues.{Int, Ref}
use Rattle.world_text.specs.Formats.{version_1}
use Rattle.world_text.proofs.AddingLemmas.{and_false_left, below_test, unequal_test}
use Rattle.snapshot.specs.Fields.{u32_bytes, u64_bytes, all_set, shown_part, value_bytes}
use Rattle.snapshot.specs.Reading.{IsNumberAt, IsValueAt, IsNoValueAt}
use Rattle.snapshot.proofs.PlaceLemmas.{too_short, the_u32}
use Rattle.snapshot.proofs.ValueLemmas.{null_or_below}

pub value_size : (v : FieldValue) → length (value_bytes v) ≡ 8
value_size (Int number) = refl
value_size (Ref entity) = refl

-- fewer bytes than a value has
pub short_value : (k : Kind) (bytes : List ℕ) (at : ℕ) → length bytes < at + 8 → IsNoValueAt k bytes at
short_value k bytes at short v more of is e = too_short 8 at bytes (value_bytes v) more short (omega arith) (omega (arith, value_size v)) e

-- ---- whole numbers

in_64_bits : (z : ℤ) → SFits w64 z → IsI64 z
in_64_bits (pos n) h = h.sfits
in_64_bits (negsuc n) h = h.sfits

-- 64 bits are a whole number
pub integer_here : (bytes : List ℕ) (at n : ℕ) → n < 2 ^ 64 → IsNumberAt 8 bytes at n (u64_bytes n) → IsValueAt kind.Int bytes at (cast_signed w64 n)
integer_here bytes at n small here =
    let fits : Fits w64 n = record { fits = small } in
    record {
      value = Int (cast_signed w64 n);
      of_kind = refl;
      is = in_64_bits (cast_signed w64 n) (sfits_to_z fits);
      spelled = here.spelled ∙ ap (λ (m : ℕ). u64_bytes m ++ drop (at + 8) bytes) (sym (of_z-to_z w64 n small));
      held_is = refl;
    }

-- ---- identifiers

-- the parts of an identifier that a field may hold, as they are written
shown_parts : (entity : Entity) → is_target version_1.profile entity ≡ true → ((shown_part entity entity.index ≡ all_set) × (shown_part entity entity.version ≡ all_set)) ⊎ ((shown_part entity entity.index ≡ entity.index) × (shown_part entity entity.version ≡ entity.version) × (entity.index < 1048575) × (entity.version < 4095))
shown_parts entity is = elim (null_or_below entity is) as (λ _. ((shown_part entity entity.index ≡ all_set) × (shown_part entity entity.version ≡ all_set)) ⊎ ((shown_part entity entity.index ≡ entity.index) × (shown_part entity entity.version ≡ entity.version) × (entity.index < 1048575) × (entity.version < 4095))) [
  | inl same ↦ inl (ap (λ (b : Bool). cond b all_set entity.index) same, ap (λ (b : Bool). cond b all_set entity.version) same)
  | inr below ↦ inr (ap (λ (b : Bool). cond b all_set entity.index) below.0, ap (λ (b : Bool). cond b all_set entity.version) below.0, below.1, below.2)
]

two_here : (bytes : List ℕ) (at index version : ℕ) → IsNumberAt 4 bytes at index (u32_bytes index) → IsNumberAt 4 bytes (at + 4) version (u32_bytes version) → drop at bytes ≡ (u32_bytes index ++ u32_bytes version) ++ drop (at + 8) bytes
two_here bytes at index version first second =
    let place : at + 4 + 4 ≡ at + 8 = omega arith in
    first.spelled
    ∙ ap (λ (x : List ℕ). u32_bytes index ++ x) (second.spelled ∙ ap (λ (n : ℕ). u32_bytes version ++ drop n bytes) place)
    ∙ sym (append_assoc (u32_bytes index) (u32_bytes version) (drop (at + 8) bytes))

-- null stands where all bits are set in both parts
pub null_here : (bytes : List ℕ) (at index version : ℕ) → IsNumberAt 4 bytes at index (u32_bytes index) → IsNumberAt 4 bytes (at + 4) version (u32_bytes version) → index ≡ 4294967295 → version ≡ 4294967295 → IsValueAt kind.Ref bytes at (negsuc 0)
null_here bytes at index version first second all_index all_version = record {
  value = Ref (null version_1.profile);
  of_kind = refl;
  is = refl;
  spelled = two_here bytes at index version first second ∙ (λ i. (u32_bytes (all_index i) ++ u32_bytes (all_version i)) ++ drop (at + 8) bytes);
  held_is = refl;
}

not_null : (entity : Entity) → entity.index < 1048575 → is_same entity (null version_1.profile) ≡ false
not_null entity small = and_false_left (eqb entity.index 1048575) (eqb entity.version 4095) (unequal_test entity.index 1048575 (λ same. omega (arith, small, same)))

-- an identifier below the limits in both parts stands where they do
pub target_here : (bytes : List ℕ) (at : ℕ) (entity : Entity) → IsNumberAt 4 bytes at entity.index (u32_bytes entity.index) → IsNumberAt 4 bytes (at + 4) entity.version (u32_bytes entity.version) → entity.index < 1048575 → entity.version < 4095 → IsValueAt kind.Ref bytes at (field_of version_1.profile entity)
target_here bytes at entity first second low_index low_version =
    let other = not_null entity low_index in
    let index : entity.index ≡ shown_part entity entity.index = sym (ap (λ (b : Bool). cond b all_set entity.index) other) in
    let version : entity.version ≡ shown_part entity entity.version = sym (ap (λ (b : Bool). cond b all_set entity.version) other) in
    record {
      value = Ref entity;
      of_kind = refl;
      is = λ i. other i || (below_test entity.index 1048575 low_index i && below_test entity.version 4095 low_version i);
      spelled = two_here bytes at entity.index entity.version first second ∙ (λ i. (u32_bytes (index i) ++ u32_bytes (version i)) ++ drop (at + 8) bytes);
      held_is = refl;
    }

-- the parts at a place, where they are not those of null and one is not below its limit, are those of no identifier that a field may hold
pub no_target_here : (bytes : List ℕ) (at index version : ℕ) → index < 2 ^ 32 → version < 2 ^ 32 → IsNumberAt 4 bytes at index (u32_bytes index) → IsNumberAt 4 bytes (at + 4) version (u32_bytes version) → (index ≡ 4294967295 → version ≡ 4294967295 → ⊥) → (index < 1048575 → version < 4095 → ⊥) → IsNoValueAt kind.Ref bytes at
no_target_here bytes at index version small_index small_version first second other high (Int number) more of is e = absurd cc
no_target_here bytes at index version small_index small_version first second other high (Ref entity) more of is e =
    let whole = e ∙ append_assoc (u32_bytes (shown_part entity entity.index)) (u32_bytes (shown_part entity entity.version)) more in
    elim (shown_parts entity is) as (λ _. ⊥) [
      | inl all ↦
          let i = the_u32 bytes at index (shown_part entity entity.index) (u32_bytes (shown_part entity entity.version) ++ more) first small_index (omega (arith, all.0)) whole in
          let v = the_u32 bytes (at + 4) version (shown_part entity entity.version) more second small_version (omega (arith, all.1)) i.1 in
          other (i.0 ∙ all.0) (v.0 ∙ all.1)
      | inr low ↦
          let i = the_u32 bytes at index (shown_part entity entity.index) (u32_bytes (shown_part entity entity.version) ++ more) first small_index (omega (arith, low.0, low.2)) whole in
          let v = the_u32 bytes (at + 4) version (shown_part entity entity.version) more second small_version (omega (arith, low.1, low.3)) i.1 in
          high (omega (arith, i.0, low.0, low.2)) (omega (arith, v.0, low.1, low.3))
    ]
