-- Made documents are lawful.
use Rattle.std.proofs.Common.{◌≡◌, ℕ, zero, suc, ◌+◌, ◌%◌, ◌<◌, ◌≤◌, ◌^◌, Bool, true, false, ◌&&◌, ◌||◌, List, [], ◌∷◌, ℤ, pos, negsuc, ◌+ℤ◌, map, length, replicate, Option, Some, slice_get, eqb, nat_lt, cond, refl, sym, ap, arith}
use Rattle.std.specs.Prelude.{IsTrue}
use Rattle.std.specs.List.{filter, range_with_len, AllByRecursion, AllZip}
use Rattle.std.specs.Option.{option_map_or}
use Rattle.std.proofs.lemmas.Bool.Decides.{nat_tests}
use Rattle.std.proofs.lemmas.Int.{ints}
use Rattle.std.proofs.lemmas.List.{length-replicate}
use Rattle.entity_id.specs.declared.entity.Entity.{Entity}
use Rattle.entity_id.specs.FiniteMap.{IsAscendingBy}
use Rattle.entity_id.specs.Identifiers.{HasLimits, p20_12, is_same, null}
use Rattle.entity_id.proofs.ListLemmas.{all_weaker, all-map, all-filter, ascending-map, ascending-filter}
use Rattle.world_model.specs.declared.component.Decl.{Decl}
use Rattle.world_model.specs.declared.component.Row.{Row}
use Rattle.world_model.specs.declared.slot.Slot.{Slot}
use Rattle.world_model.specs.declared.component.Kind.{Kind}
use Rattle.world_model.specs.declared.component.Kind.TheVariants.{Ref}
use Rattle.world_model.specs.Components.{IsRow, fits, is_target, kinds_of, zero_row}
use Rattle.world_model.specs.Integers.{IsI64}
use Rattle.world_model.specs.Slots.{AreLawfulSlots, is_free_at, is_live, live_slot}
use Rattle.world_model.specs.Worlds.{AreLawfulRows}
use Rattle.world_text.specs.declared.document.Document.{Document}
use Rattle.world_text.specs.Documents.{IsLawfulDocument}
use Rattle.world_text.specs.FieldValues.{FieldValue}
use Rattle.world_text.specs.FieldValues as value
use Rattle.world_text.specs.Fitting.{are_of_kinds}
use Rattle.world_text.specs.Lines.{IsValue}
use Rattle.world_text.specs.Meaning.{row_of}
use Rattle.world_text.proofs.LawfulRows.{row_fits, row_is_row}
use Rattle.world_maker.specs.Draws.{draw_of}
use Rattle.world_maker.specs.MadeWorlds.{IsMade, first_owner, speed, position, velocity, health, team, target, damage, timer, is_frozen, rows_of_all, rows_of_frozen, made_pools}
use Rattle.world_maker.proofs.FrameLemmas.{frame_is_lawful, header_spelled}
use Rattle.world_maker.proofs.FrameValue.{frame, frame_decls, frame_world}

-- ---- slots

abbrev made_slots : ℕ → List Slot
made_slots count = replicate count (live_slot 0)

slot_at : (n k : ℕ) → k < n → slice_get (made_slots n) k ≡ Some (live_slot 0)
slot_at zero k h = absurd (omega arith)
slot_at (suc n) zero h = refl
slot_at (suc n) (suc k) h = slot_at n k (omega arith)

live : (n k : ℕ) → k < n → is_live (made_slots n) (first_owner k) ≡ true
live n k h = ap (λ (o : Option Slot). option_map_or (λ (slot : Slot). slot.live && eqb slot.version 0) o false) (slot_at n k h)

none_free : (n k : ℕ) → is_free_at (made_slots n) k ≡ false
none_free zero k = refl
none_free (suc n) zero = refl
none_free (suc n) (suc k) = none_free n k

versions : (n : ℕ) → AllByRecursion (λ slot. slot.version < 4095) (made_slots n)
versions zero = tt
versions (suc n) = (omega arith, versions n)

slots_lawful : (n : ℕ) → n ≤ 1000000 → AreLawfulSlots p20_12 1048575 (made_slots n) []
slots_lawful n few = record {
  few = omega (arith, length-replicate n (live_slot 0));
  addressable = omega arith;
  versions = versions n;
  listed = λ index. sym (ap (λ (b : Bool). cond b 1 0) (none_free n index));
}

-- ---- rows

-- a row of 4 fields that fits a component
record IsGood (decl : Decl) (row : Row) : Type 0 where
  pub is : IsRow row
  pub fit : IsTrue (fits p20_12 decl row)

limits : HasLimits p20_12
limits = record { index = omega arith; version = omega arith }

-- the row of values of a component's kinds
good : (decl : Decl) (values : List FieldValue) → length values ≤ 4 → AllByRecursion (IsValue p20_12) values → are_of_kinds (kinds_of decl) values ≡ true → IsGood decl (row_of p20_12 values)
good decl values few each kinds = record { is = row_is_row p20_12 values limits few each; fit = row_fits p20_12 decl values limits each kinds }

range_within : (a n : ℕ) → AllByRecursion (λ k. (a ≤ k) × (k < a + n)) (range_with_len a n)
range_within a zero = tt
range_within a (suc n) =
    ((omega arith, omega arith), all_weaker (λ (k : ℕ). (a + 1 ≤ k) × (k < a + 1 + n)) (λ (k : ℕ). (a ≤ k) × (k < a + suc n)) (λ k h. (omega (arith, h.0), omega (arith, h.1))) (range_with_len (a + 1) n) (range_within (a + 1) n))

range_ascends : (a n : ℕ) → IsAscendingBy (λ k. k) (range_with_len a n)
range_ascends a zero = tt
range_ascends a (suc n) =
    (all_weaker (λ (k : ℕ). (a + 1 ≤ k) × (k < a + 1 + n)) (λ (k : ℕ). a < k) (λ k h. omega (arith, h.0)) (range_with_len (a + 1) n) (range_within (a + 1) n), range_ascends (a + 1) n)

below_count : (n : ℕ) → AllByRecursion (λ k. k < n) (range_with_len 0 n)
below_count n = all_weaker (λ (k : ℕ). (0 ≤ k) × (k < 0 + n)) (λ (k : ℕ). k < n) (λ k h. omega (arith, h.1)) (range_with_len 0 n) (range_within 0 n)

-- entities in ascending index, each with a good row
rows_lawful : (count : ℕ) (decl : Decl) (row_at : ℕ → Row) (xs : List ℕ) → ((k : ℕ) → k < count → IsGood decl (row_at k)) → IsAscendingBy (λ k. k) xs → AllByRecursion (λ k. k < count) xs → AreLawfulRows p20_12 (made_slots count) decl (map (λ k. (first_owner k, row_at k)) xs)
rows_lawful count decl row_at xs each up within =
    let entry : ℕ → Entity × Row = λ k. (first_owner k, row_at k) in
    record {
      ascending = ascending-map (λ (e : Entity × Row). e.0.index) entry xs up;
      live = all-map (λ (e : Entity × Row). IsTrue (is_live (made_slots count) e.0)) entry xs (all_weaker (λ (k : ℕ). k < count) (λ (k : ℕ). IsTrue (is_live (made_slots count) (first_owner k))) (live count) xs within);
      wide = all-map (λ (e : Entity × Row). IsRow e.1) entry xs (all_weaker (λ (k : ℕ). k < count) (λ (k : ℕ). IsRow (row_at k)) (λ k h. (each k h).is) xs within);
      fitting = all-map (λ (e : Entity × Row). IsTrue (fits p20_12 decl e.1)) entry xs (all_weaker (λ (k : ℕ). k < count) (λ (k : ℕ). IsTrue (fits p20_12 decl (row_at k))) (λ k h. (each k h).fit) xs within);
    }

all_lawful : (number count : ℕ) (decl : Decl) (its_row : (ℕ → ℕ) → Row) → ((k : ℕ) → k < count → IsGood decl (its_row (draw_of number k))) → AreLawfulRows p20_12 (made_slots count) decl (rows_of_all number count its_row)
all_lawful number count decl its_row each = rows_lawful count decl (λ k. its_row (draw_of number k)) (range_with_len 0 count) each (range_ascends 0 count) (below_count count)

frozen_lawful : (number count : ℕ) (decl : Decl) → IsGood decl zero_row → AreLawfulRows p20_12 (made_slots count) decl (rows_of_frozen number count)
frozen_lawful number count decl is =
    let p : ℕ → Bool = λ k. is_frozen (draw_of number k) in
    rows_lawful count decl (λ k. zero_row) (filter p (range_with_len 0 count)) (λ k h. is) (ascending-filter (λ k. k) p (range_with_len 0 count) (range_ascends 0 count)) (all-filter (λ k. k < count) p (range_with_len 0 count) (below_count count))

-- ---- the rows of each component

-- a remainder is a number of 64 bits
rest_wide : (n limit : ℕ) → 0 < limit → limit ≤ 1000 → n % limit < 2 ^ 63
rest_wide n limit some few = omega arith

health_wide : (n : ℕ) → n % 100 + 1 < 2 ^ 63
health_wide n = omega arith

speed_wide : (z : ℤ) (m : ℕ) → z +ℤ pos 5 ≡ pos m → m < 11 → IsI64 z
speed_wide (pos n) m e small = omega (arith, ints, e)
speed_wide (negsuc n) m e small = omega (arith, ints, e)

speed_is_wide : (n : ℕ) → IsI64 (speed n)
speed_is_wide n = let m : ℕ = n % 11 in let small : n % 11 < 11 = omega arith in speed_wide (speed n) (n % 11) (omega (arith, ints)) small

or_true : (a b : Bool) → b ≡ true → (a || b) ≡ true
or_true true b h = refl
or_true false b h = h

below_true : (t limit : ℕ) → t < limit → nat_lt t limit ≡ true
below_true t limit h = grind (arith, nat_tests)

target_is_target : (t : ℕ) → t < 1048575 → IsTrue (is_target p20_12 (first_owner t))
target_is_target t h = or_true (is_same (first_owner t) (null p20_12)) (nat_lt t 1048575 && nat_lt 0 4095) (ap (λ (b : Bool). b && true) (below_true t 1048575 h))

abbrev ints_in : List ℤ → List FieldValue
ints_in numbers = map value.Int numbers

module _ (number count : ℕ) (few : count ≤ 1000000) where
  abbrev d : ℕ → ℕ → ℕ
  d k = draw_of number k

  targets_good : (decl : Decl) → (kinds_of decl ≡ Ref ∷ []) → (k : ℕ) → k < count → IsGood decl (target count (d k))
  targets_good decl kinds k h =
      let t : ℕ = d k 7 % count in
      let within : d k 7 % count < count = omega arith in
      good decl (value.Ref (first_owner (d k 7 % count)) ∷ []) (omega arith) (target_is_target (d k 7 % count) (omega arith), tt) (ap (λ (ks : List Kind). are_of_kinds ks (value.Ref (first_owner (d k 7 % count)) ∷ [])) kinds)

  pools_lawful : AllZip (AreLawfulRows p20_12 (made_slots count)) frame_decls (made_pools number count)
  pools_lawful = (
    all_lawful number count _ position (λ k h. good _ (value.Int (pos (d k 1 % 1000)) ∷ value.Int (pos (d k 2 % 1000)) ∷ []) (omega arith) (rest_wide (d k 1) 1000 (omega arith) (omega arith), (rest_wide (d k 2) 1000 (omega arith) (omega arith), tt)) refl),
    (
      all_lawful number count _ velocity (λ k h. good _ (value.Int (speed (d k 3)) ∷ value.Int (speed (d k 4)) ∷ []) (omega arith) (speed_is_wide (d k 3), (speed_is_wide (d k 4), tt)) refl),
      (
        all_lawful number count _ health (λ k h. good _ (value.Int (pos (d k 5 % 100 + 1)) ∷ []) (omega arith) (health_wide (d k 5), tt) refl),
        (
          all_lawful number count _ team (λ k h. good _ (value.Int (pos (d k 6 % 4)) ∷ []) (omega arith) (rest_wide (d k 6) 4 (omega arith) (omega arith), tt) refl),
          (
            all_lawful number count _ (target count) (targets_good _ refl),
            (
              all_lawful number count _ damage (λ k h. good _ (value.Int (pos (d k 8 % 5)) ∷ []) (omega arith) (rest_wide (d k 8) 5 (omega arith) (omega arith), tt) refl),
              (
                all_lawful number count _ timer (λ k h. good _ (value.Int (pos (d k 9 % 50)) ∷ []) (omega arith) (rest_wide (d k 9) 50 (omega arith) (omega arith), tt) refl),
                (
                  frozen_lawful number count _ (good _ [] (omega arith) tt refl),
                  (all_lawful number count _ (λ d. zero_row) (λ k h. good _ (value.Int (pos 0) ∷ []) (omega arith) (omega arith, tt) refl), tt),
                ),
              ),
            ),
          ),
        ),
      ),
    ),
  )

  -- the made document
  abbrev pub made : Document
  made = record frame { world = record frame_world { slots = made_slots count; pools = made_pools number count } }

  made_lawful : IsLawfulDocument made
  made_lawful = record {
    world = record {
      profile = frame_is_lawful.world.profile;
      few_decls = frame_is_lawful.world.few_decls;
      decls = frame_is_lawful.world.decls;
      slots = slots_lawful count few;
      pools = pools_lawful;
      groups = frame_is_lawful.world.groups;
    };
    profile = refl;
    tick = frame_is_lawful.tick;
    ascending = frame_is_lawful.ascending;
    named = frame_is_lawful.named;
    systems = frame_is_lawful.systems;
  }

  pub is_made : IsMade number count made
  is_made = record { lawful = made_lawful; header = header_spelled; tick = refl; slots = refl; free = refl; pools = refl }
