-- Sums and counts over the rows of a registry.
use Rattle.std.proofs.Common.{◌≡◌, ℕ, zero, suc, ◌+◌, ◌-◌, ◌%◌, ◌^◌, ◌<◌, ◌≤◌, Bool, true, false, ◌&&◌, not, List, [], ◌∷◌, ◌++◌, ℤ, map, length, take, get_or, Option, Some, None, slice_get, eqb, nat_lt, refl, sym, ap, subst, ◌∙◌, append_assoc, add-one, arith}
use Rattle.std.specs.Prelude.{IsPermutation, IsTrue, is_some, sum_by, unwrap_or}
use Rattle.std.specs.Int.{w64, cast_unsigned}
use Rattle.std.specs.List.{All, AllByRecursion, AllZip, flat_map, zip}
use Rattle.std.specs.Option.{option_map_or}
use Rattle.std.proofs.Math.Nat.{add-mod}
use Rattle.std.proofs.lemmas.Bool.Decides.{nat_tests}
use Rattle.std.proofs.lemmas.List.{append-nil, length-map}
use Rattle.std.proofs.lemmas.Option.{slice_get_within}
use Rattle.std.proofs.lemmas.List.Sorted.{All-permutation, length_permutation, sum_by-IsPermutation}
use Rattle.std.proofs.lemmas.List.Sums.{sum_by-append, sum_by-cons}
use Rattle.entity_id.specs.declared.entity.Entity.{Entity}
use Rattle.entity_id.specs.FiniteMap as rows
use Rattle.entity_id.specs.FiniteMap.{IsAscending}
use Rattle.entity_id.specs.declared.entity.Profile.{Profile}
use Rattle.entity_id.proofs.ListLemmas.{all-map, all_at, all_weaker}
use Rattle.entity_id.proofs.MatchLemmas.{distinct_ascending}
use Rattle.entity_id.proofs.PackedMapLemmas.{get_here}
use Rattle.world_model.specs.declared.component.Decl.{Decl}
use Rattle.world_model.specs.declared.component.Row.{Row}
use Rattle.world_model.specs.declared.slot.Slot.{Slot}
use Rattle.world_model.specs.declared.world.World.{World}
use Rattle.world_model.specs.declared.command.Command.TheVariants.{Get}
use Rattle.world_model.specs.declared.command.Reply.TheVariants.{Values}
use Rattle.world_model.specs.declared.refusal.Refusal.TheVariants as refusal
use Rattle.world_model.specs.Components.{zero_row}
use Rattle.world_model.specs.Contents.{pool_at, row_at, has_row}
use Rattle.world_model.specs.Outcomes.{Outcome, outcome_of}
use Rattle.world_model.specs.Refusing.{first_refusal, refuse}
use Rattle.world_model.specs.Slots.{is_live}
use Rattle.world_model.specs.Steps.{step, unless_refused}
use Rattle.world_model.specs.Worlds.{AreLawfulRows, IsLawful}
use Rattle.world_text.proofs.LawfulRows.{profile_limits}
use Rattle.world_maker.specs.Summaries.{bits_sum, ints_of, ints_of_pool}

-- ---- lists

-- one more of two lists beside each other
beside_suc : {A B C : Type 0} (f : A × B → List C) (xs : List A) (ys : List B) (i : ℕ) (a : A) (b : B) → i < length xs → i < length ys → flat_map f (zip (take (suc i) xs) ys) ≡ flat_map f (zip (take i xs) ys) ++ f (get_or xs i a, get_or ys i b)
beside_suc f [] ys i a b h k = absurd (omega arith)
beside_suc f (x ∷ xs) [] i a b h k = absurd (omega arith)
beside_suc f (x ∷ xs) (y ∷ ys) zero a b h k = append-nil (f (x, y))
beside_suc f (x ∷ xs) (y ∷ ys) (suc i) a b h k =
    ap (λ rest. f (x, y) ++ rest) (beside_suc f xs ys i a b (omega arith) (omega arith))
    ∙ sym (append_assoc (f (x, y)) (flat_map f (zip (take i xs) ys)) (f (get_or xs i a, get_or ys i b)))

pub beside_more : {A B C : Type 0} (f : A × B → List C) (xs : List A) (ys : List B) (i : ℕ) (a : A) (b : B) → i < length xs → i < length ys → flat_map f (zip (take (i + 1) xs) ys) ≡ flat_map f (zip (take i xs) ys) ++ f (get_or xs i a, get_or ys i b)
beside_more f xs ys i a b h k = ap (λ (n : ℕ). flat_map f (zip (take n xs) ys)) (add-one i) ∙ beside_suc f xs ys i a b h k

-- each packed list has the identifiers of its component's rows
pub packed_of_pool : (pools : List (List (Entity × Row))) (packed : List (List Entity)) (i : ℕ) → AllZip IsPermutation (map rows.keys pools) packed → i < length pools → IsPermutation (rows.keys (get_or pools i [])) (get_or packed i [])
packed_of_pool [] packed i all h = absurd (omega arith)
packed_of_pool (p ∷ pools) [] i all h = absurd all
packed_of_pool (p ∷ pools) (q ∷ packed) zero all h = all.0
packed_of_pool (p ∷ pools) (q ∷ packed) (suc i) all h = packed_of_pool pools packed i all.1 (omega arith)

pub packed_length : (pools : List (List (Entity × Row))) (packed : List (List Entity)) (i : ℕ) → AllZip IsPermutation (map rows.keys pools) packed → i < length pools → length (get_or packed i []) ≡ length (get_or pools i [])
packed_length pools packed i all h = length_permutation (rows.keys (get_or pools i [])) (get_or packed i []) (packed_of_pool pools packed i all h) ∙ length-map (get_or pools i []) (λ (e : Entity × Row). e.0)

pub all_places : {X : Type 0} (P : X → Type 0) (xs : List X) → ((k : ℕ) (x : X) → slice_get xs k ≡ Some x → P x) → AllByRecursion P xs
all_places P [] h = tt
all_places P (x ∷ xs) h = (h zero x refl, all_places P xs (λ k. h (suc k)))

pub all_by_index : {X : Type 0} (P : X → Type 0) (xs : List X) → AllByRecursion P xs → All P xs
all_by_index P [] h k d within = absurd (omega arith)
all_by_index P (x ∷ xs) h zero d within = h.0
all_by_index P (x ∷ xs) h (suc k) d within = all_by_index P xs h.1 k d (omega arith)

all_both : {X : Type 0} (P Q R : X → Type 0) → ((x : X) → P x → Q x → R x) → (xs : List X) → AllByRecursion P xs → AllByRecursion Q xs → AllByRecursion R xs
all_both P Q R both [] p q = tt
all_both P Q R both (x ∷ xs) p q = (both x p.0 q.0, all_both P Q R both xs p.1 q.1)

pub some_at : {X : Type 0} (xs : List X) (k : ℕ) → k < length xs → (x : X) × (slice_get xs k ≡ Some x)
some_at [] k h = absurd (omega arith)
some_at (x ∷ xs) zero h = (x, refl)
some_at (x ∷ xs) (suc k) h = some_at xs k (omega arith)

pub same_length : {A B : Type 0} (R : A → B → Type 0) (xs : List A) (ys : List B) → AllZip R xs ys → length ys ≡ length xs
same_length R [] [] all = refl
same_length R [] (y ∷ ys) all = absurd all
same_length R (x ∷ xs) [] all = absurd all
same_length R (x ∷ xs) (y ∷ ys) all = ap suc (same_length R xs ys all.1)

-- ---- 64 bits of a sum

-- what is left of a part of a sum may stand for the part
pub add_rest : (a b : ℕ) → (a % 2 ^ 64 + b % 2 ^ 64) % 2 ^ 64 ≡ (a + b) % 2 ^ 64
add_rest a b = sym (add-mod a b (2 ^ 64))

pub bits_sum-append : (xs ys : List ℤ) → bits_sum (xs ++ ys) ≡ (bits_sum xs + bits_sum ys) % 2 ^ 64
bits_sum-append xs ys = ap (λ n. n % 2 ^ 64) (sum_by-append (cast_unsigned w64) xs ys) ∙ add-mod (sum_by (cast_unsigned w64) xs) (sum_by (cast_unsigned w64) ys) (2 ^ 64)

-- the bits of a sum, and those of what is behind it
pub add_bits : (a b : ℕ) (xs ys zs : List ℤ) → a ≡ bits_sum xs → b ≡ bits_sum ys → zs ≡ xs ++ ys → (a + b) % 2 ^ 64 ≡ bits_sum zs
add_bits a b xs ys zs p q e = (λ i. (p i + q i) % 2 ^ 64) ∙ sym (bits_sum-append xs ys) ∙ ap bits_sum (sym e)

-- ---- the rows of one component

-- where what is said of two lists holds place by place
at_place : {A B : Type 0} (R : A → B → Type 0) (xs : List A) (ys : List B) (i : ℕ) (x : A) (d : B) → AllZip R xs ys → slice_get xs i ≡ Some x → R x (get_or ys i d)
at_place R [] ys i x d all at = absurd (cc)
at_place R (a ∷ xs) [] i x d all at = absurd all
at_place R (a ∷ xs) (b ∷ ys) zero x d all at = let same : a ≡ x = cc in subst (λ z. R z b) same all.0
at_place R (a ∷ xs) (b ∷ ys) (suc i) x d all at = at_place R xs ys i x d all.1 at

-- rows in ascending index below a number are no more than it
ascending_few : {X : Type 0} (xs : List (Entity × X)) (a n : ℕ) → IsAscending xs → AllByRecursion (λ e. (a ≤ e.0.index) × (e.0.index < n)) xs → length xs ≤ n - a
ascending_few [] a n up within = omega arith
ascending_few (x ∷ xs) a n up within =
    let above = all_both (λ e. x.0.index < e.0.index) (λ e. (a ≤ e.0.index) × (e.0.index < n)) (λ e. (x.0.index + 1 ≤ e.0.index) × (e.0.index < n)) (λ e more h. (omega (arith, more), h.1)) xs up.0 within.1 in
    omega (arith, ascending_few xs (x.0.index + 1) n up.1 above, within.0.0, within.0.1)

live_within : (slots : List Slot) (entity : Entity) → is_live slots entity ≡ true → entity.index < length slots
live_within slots entity is =
    elim (slice_get slots entity.index) as (λ (o : Option Slot). slice_get slots entity.index ≡ o → option_map_or (λ (slot : Slot). slot.live && eqb slot.version entity.version) o false ≡ true → entity.index < length slots) [
      | None ↦ λ at h. absurd (cc)
      | Some slot ↦ λ at h. slice_get_within slots entity.index slot at
    ] refl is

pub rows_few : (profile : Profile) (slots : List Slot) (decl : Decl) (rows : List (Entity × Row)) → AreLawfulRows profile slots decl rows → length rows ≤ length slots
rows_few profile slots decl rows lawful =
    omega (arith, ascending_few rows 0 (length slots) lawful.ascending (all_weaker (λ (e : Entity × Row). IsTrue (is_live slots e.0)) (λ (e : Entity × Row). (0 ≤ e.0.index) × (e.0.index < length slots)) (λ e h. (omega arith, live_within slots e.0 h)) rows lawful.live))

-- what a look-up of a row that is there is answered
answered : (a b c : Bool) (w : World) (o : Outcome) → a ≡ true → b ≡ true → c ≡ true
    → (unless_refused w (first_refusal (refuse (not (a && true)) refusal.NoPool ∷ refuse (not b) refusal.Dead ∷ refuse (not c) refusal.Absent ∷ [])) o).reply ≡ o.reply
answered true true true w o p q r = refl
answered false b c w o p q r = absurd (cc)
answered true false c w o p q r = absurd (cc)
answered true true false w o p q r = absurd (cc)

module _ (w : World) (limit pool : ℕ) (decl : Decl) (lawful : IsLawful limit w) (declared : slice_get w.decls pool ≡ Some decl) where
  pub its_rows : AreLawfulRows w.profile w.slots decl (pool_at w pool)
  its_rows = at_place (AreLawfulRows w.profile w.slots) w.decls w.pools pool decl [] lawful.pools declared

  -- they are no more than 32 bits count
  pub pool_few : length (pool_at w pool) ≤ 2 ^ 32
  pool_few = omega (arith, rows_few w.profile w.slots decl (pool_at w pool) its_rows, lawful.slots.few, lawful.slots.addressable, (profile_limits w.profile lawful.profile).index)

  -- what an identifier's row adds
  abbrev pub part_of : Entity → ℕ
  part_of entity = sum_by (cast_unsigned w64) (ints_of decl (row_at w pool entity))

  -- an identifier's row is looked up
  abbrev pub IsFound : Entity → Type 0
  IsFound entity = (step limit w (Get entity pool)).reply ≡ Values (row_at w pool entity)

  found_at : (k : ℕ) (entry : Entity × Row) → slice_get (pool_at w pool) k ≡ Some entry → rows.get (pool_at w pool) entry.0 ≡ Some entry.1
  found_at k entry at = get_here (pool_at w pool) k entry.0 entry.1 (distinct_ascending (λ (e : Entity × Row). e.0.index) (pool_at w pool) its_rows.ascending) at

  each_found : AllByRecursion (λ entry. IsFound entry.0) (pool_at w pool)
  each_found = all_places (λ (entry : Entity × Row). IsFound entry.0) (pool_at w pool) (λ k entry at.
      let within : pool < length w.decls = slice_get_within w.decls pool decl declared in
      let there : nat_lt pool (length w.decls) ≡ true = grind (arith, nat_tests) in
      answered (nat_lt pool (length w.decls)) (is_live w.slots entry.0) (has_row w pool entry.0) w (outcome_of limit w (Get entry.0 pool)) there
      (all_at (λ (e : Entity × Row). IsTrue (is_live w.slots e.0)) (pool_at w pool) k entry its_rows.live at)
      (ap (λ (o : Option Row). is_some o) (found_at k entry at)))

  each_row : AllByRecursion (λ entry. row_at w pool entry.0 ≡ entry.1) (pool_at w pool)
  each_row = all_places (λ (entry : Entity × Row). row_at w pool entry.0 ≡ entry.1) (pool_at w pool) (λ k entry at. ap (λ (o : Option Row). unwrap_or o zero_row) (found_at k entry at))

  -- every identifier of the packed list is found
  pub packed_found : (packed : List Entity) → IsPermutation (rows.keys (pool_at w pool)) packed → All IsFound packed
  packed_found packed same =
      All-permutation IsFound (rows.keys (pool_at w pool)) packed same
      (all_by_index IsFound (rows.keys (pool_at w pool)) (all-map IsFound (λ (e : Entity × Row). e.0) (pool_at w pool) each_found))

  parts_are : (xs : List (Entity × Row)) → AllByRecursion (λ entry. row_at w pool entry.0 ≡ entry.1) xs → sum_by part_of (rows.keys xs) ≡ sum_by (cast_unsigned w64) (ints_of_pool decl xs)
  parts_are [] each = refl
  parts_are (x ∷ xs) each =
      sum_by-cons part_of x.0 (rows.keys xs)
      ∙ (λ i. sum_by (cast_unsigned w64) (ints_of decl (each.0 i)) + parts_are xs each.1 i)
      ∙ sym (sum_by-append (cast_unsigned w64) (ints_of decl x.1) (ints_of_pool decl xs))

  -- the parts in packed order add up to the sum of the component's fields
  pub packed_sum : (packed : List Entity) → IsPermutation (rows.keys (pool_at w pool)) packed → sum_by part_of packed % 2 ^ 64 ≡ bits_sum (ints_of_pool decl (pool_at w pool))
  packed_sum packed same = ap (λ n. n % 2 ^ 64) (sum_by-IsPermutation part_of (rows.keys (pool_at w pool)) packed same ∙ parts_are (pool_at w pool) each_row)
