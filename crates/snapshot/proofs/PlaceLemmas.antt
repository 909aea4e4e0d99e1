-- Numbers, slots and lines at a place of bytes.
use Rattle.std.proofs.Common.{◌≡◌, ◌⊎◌, inl, inr, ℕ, ◌+◌, ◌<◌, ◌≤◌, ◌^◌, true, false, cond, ◌&&◌, eqb, Option, None, slice_get, List, ◌∷◌, ◌++◌, length, drop, take, refl, sym, ap, subst, ◌∙◌, arith, length-append, length-drop}
use Rattle.std.specs.Prelude.{slice_index}
use Rattle.std.specs.Option.{option_map_or}
use Rattle.std.proofs.lemmas.Bool.{true≢false}
use Rattle.std.proofs.lemmas.Bool.Decides.{nat_tests}
use Rattle.std.proofs.lemmas.List.{drop-drop, get_or-drop, take-append-drop, length-take-le}
use Rattle.byteorder.specs.Endian.{little_number, little_bytes}
use Rattle.world_model.specs.declared.slot.Slot.{Slot}
use Rattle.world_model.specs.Slots.{is_live}
use Rattle.snapshot.specs.Fields.{IsField, line_limit, u8_bytes, u16_bytes, u32_bytes, u64_bytes, line_bytes, state_of, field_bytes}
use Rattle.snapshot.specs.Fields as field
use Rattle.snapshot.specs.Reading.{IsNumberAt, IsFieldAt, IsNoEntityAt, IsLineAt, IsNoLineAt}
use Rattle.snapshot.proofs.NumberLemmas.{number_bytes}
use Rattle.snapshot.proofs.ValueLemmas.{same_u16, same_u32, same_u64}

-- ---- numbers

-- the number that the bytes at a place spell stands there
pub number_at : (n at : ℕ) (bytes : List ℕ) → at + n ≤ length bytes → ((k : ℕ) → slice_index bytes k < 256) → IsNumberAt n bytes at (little_number n (drop at bytes)) (little_bytes n (little_number n (drop at bytes)))
number_at n at bytes within small = record {
  within = within;
  spelled =
      sym (number_bytes n (drop at bytes) (omega (arith, length-drop at bytes)) (λ k. subst (λ (x : ℕ). x < 256) (sym (get_or-drop at bytes k 0)) (small (at + k))))
      ∙ ap (λ (x : List ℕ). little_bytes n (little_number n (drop at bytes)) ++ x) (drop-drop n at bytes);
}

-- too few bytes stand at a place to begin with these
pub too_short : (n at : ℕ) (bytes front more : List ℕ) → length bytes < at + n → 0 < n → n ≤ length front → drop at bytes ≡ front ++ more → ⊥
too_short n at bytes front more short some long e = omega (arith, ap length e, length-drop at bytes, length-append front more)

-- the bytes at a place spell the one number that stands there
pub the_u16 : (bytes : List ℕ) (at a b : ℕ) (more : List ℕ) → IsNumberAt 2 bytes at a (u16_bytes a) → a < 2 ^ 16 → b < 2 ^ 16 → drop at bytes ≡ u16_bytes b ++ more → (a ≡ b) × (drop (at + 2) bytes ≡ more)
the_u16 bytes at a b more here p q e = same_u16 a b (drop (at + 2) bytes) more p q (sym here.spelled ∙ e)

pub the_u32 : (bytes : List ℕ) (at a b : ℕ) (more : List ℕ) → IsNumberAt 4 bytes at a (u32_bytes a) → a < 2 ^ 32 → b < 2 ^ 32 → drop at bytes ≡ u32_bytes b ++ more → (a ≡ b) × (drop (at + 4) bytes ≡ more)
the_u32 bytes at a b more here p q e = same_u32 a b (drop (at + 4) bytes) more p q (sym here.spelled ∙ e)

pub the_u64 : (bytes : List ℕ) (at a b : ℕ) (more : List ℕ) → IsNumberAt 8 bytes at a (u64_bytes a) → a < 2 ^ 64 → b < 2 ^ 64 → drop at bytes ≡ u64_bytes b ++ more → (a ≡ b) × (drop (at + 8) bytes ≡ more)
the_u64 bytes at a b more here p q e = same_u64 a b (drop (at + 8) bytes) more p q (sym here.spelled ∙ e)

-- ---- slots

-- a state of 8 bits and a version of 32 bits are a slot
pub slot_here : (bytes : List ℕ) (at state version : ℕ) → IsNumberAt 1 bytes at state (u8_bytes state) → IsNumberAt 4 bytes (at + 1) version (u32_bytes version) → state ≤ 1 → version < 4095 → IsFieldAt bytes at (field.Slot (record { version = version; live = eqb state 1 })) (at + 5)
slot_here bytes at state version first second low small =
    let same : cond (eqb state 1) 1 0 ≡ state = grind (arith, nat_tests) in
    let place : at + 1 + 4 ≡ at + 5 = omega arith in
    record {
      is = record { line = (small, tt); within = tt };
      spelled =
          first.spelled
          ∙ ap (λ (x : List ℕ). state ∷ x) (second.spelled ∙ ap (λ (n : ℕ). u32_bytes version ++ drop n bytes) place)
          ∙ ap (λ (s : ℕ). s ∷ (u32_bytes version ++ drop (at + 5) bytes)) (sym same);
      size = refl;
    }

-- the state at a place is 0 or 1 where a slot stands there
pub state_low : (bytes : List ℕ) (at state : ℕ) (slot : Slot) (more : List ℕ) → IsNumberAt 1 bytes at state (u8_bytes state) → drop at bytes ≡ field_bytes (field.Slot slot) ++ more → state ≤ 1
state_low bytes at state slot more here e =
    let same : state ≡ state_of slot = (let whole = sym here.spelled ∙ e in cc) in
    let low : state_of slot ≤ 1 = elim slot.live as (λ b. cond b 1 0 ≤ 1) [ true ↦ omega arith | false ↦ omega arith ] in
    omega (arith, same, low)

-- and the version behind it is the slot's
pub version_low : (bytes : List ℕ) (at state version : ℕ) (slot : Slot) (more : List ℕ) → IsNumberAt 1 bytes at state (u8_bytes state) → IsNumberAt 4 bytes (at + 1) version (u32_bytes version) → version < 2 ^ 32 → IsField (field.Slot slot) → drop at bytes ≡ field_bytes (field.Slot slot) ++ more → version < 4095
version_low bytes at state version slot more first second small is e =
    let behind = ap (drop 1) (sym first.spelled ∙ e) in
    let same = the_u32 bytes (at + 1) version slot.version more second small (omega (arith, is.line.0)) behind in
    omega (arith, same.0, is.line.0)

-- ---- identifiers

-- the index of no slot is that of no live identifier
pub no_entity_here : (slots : List Slot) (bytes : List ℕ) (at index : ℕ) → IsNumberAt 4 bytes at index (u32_bytes index) → index < 2 ^ 32 → slice_get slots index ≡ None → IsNoEntityAt slots bytes at
no_entity_here slots bytes at index here small none entity more live fits e =
    let same = the_u32 bytes at index entity.index more here small fits e in
    let gone : is_live slots entity ≡ false = ap (λ (found : Option Slot). option_map_or (λ (slot : Slot). slot.live && eqb slot.version entity.version) found false) (ap (slice_get slots) (sym same.0) ∙ none) in
    absurd (true≢false (sym live ∙ gone))

-- ---- lines

-- a length and so many bytes behind it are a line
pub line_here : (bytes : List ℕ) (at size : ℕ) → IsNumberAt 2 bytes at size (u16_bytes size) → size ≤ 4096 → size ≤ length (drop (at + 2) bytes) → IsLineAt bytes at (take size (drop (at + 2) bytes))
line_here bytes at size here short long =
    let text = take size (drop (at + 2) bytes) in
    let count : length (take size (drop (at + 2) bytes)) ≡ size = length-take-le size (drop (at + 2) bytes) long in
    let place : at + 2 + size ≡ at + 2 + length (take size (drop (at + 2) bytes)) = omega (arith, count) in
    record {
      within = omega (arith, count, length-drop (at + 2) bytes, here.within);
      spelled =
          here.spelled
          ∙ ap (λ (x : List ℕ). u16_bytes size ++ x) (sym (take-append-drop size (drop (at + 2) bytes)) ∙ ap (λ (x : List ℕ). text ++ x) (drop-drop size (at + 2) bytes))
          ∙ (λ i. u16_bytes (sym count i) ++ (text ++ drop (place i) bytes));
      short = omega (arith, count);
    }

-- no line stands where its length is too great, or fewer bytes are left
pub no_line_here : (bytes : List ℕ) (at size : ℕ) → IsNumberAt 2 bytes at size (u16_bytes size) → size < 2 ^ 16 → (4096 < size) ⊎ (length (drop (at + 2) bytes) < size) → IsNoLineAt bytes at
no_line_here bytes at size here small long text more short e =
    let same = the_u16 bytes at size (length text) (text ++ more) here small (omega (arith, short)) e in
    elim long as (λ _. ⊥) [
      | inl big ↦ omega (arith, same.0, big, short)
      | inr few ↦ omega (arith, same.0, few, ap length same.1, length-append text more)
    ]
