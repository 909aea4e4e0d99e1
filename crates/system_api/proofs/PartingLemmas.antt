-- What the tests rest on: their system, run on pools, and a batch with one mark.
use Rattle.std.proofs.Common.{◌≡◌, ℕ, zero, suc, ◌<◌, ◌&&◌, Bool, true, false, List, [], ◌∷◌, map, length, Option, Some, None, replicate, slice_set, is_some, refl, sym, ap, ◌∙◌, subst, arith}
use Rattle.std.specs.Prelude.{slice_get, slice_index_or, unwrap_or}
use Rattle.std.specs.List.{AllByRecursion}
use Rattle.std.proofs.lemmas.Bool.{false≢true}
use Rattle.entity_id.specs.declared.entity.Entity.{Entity}
use Rattle.entity_id.specs.FiniteMap as entries
use Rattle.entity_id.specs.PackedLists.{place_of}
use Rattle.entity_id.proofs.PackedListLemmas.{place_here}
use Rattle.world_model.specs.declared.component.Row.{Row}
use Rattle.world_model.specs.Ticks.{Maps}
use Rattle.system_api.specs.Batches.{is_marked}
use Rattle.system_api.specs.declared.lent.LentPool.{LentPool}
use Rattle.system_api.specs.Emissions.{emissions_along}
use Rattle.system_api.specs.Partings.{parting_order, parting_limit, rows_in}
use Rattle.system_api.specs.Registers.{numbers, pool_at, StandsFor}
use Rattle.system_api.specs.Running.{sizes_of}

stands-at : (maps : Maps) (pools : List LentPool) (place : ℕ) → place < length pools → AllByRecursion (StandsFor maps) pools → StandsFor maps (pool_at pools place)
stands-at maps [] place within all = absurd (omega arith)
stands-at maps (pool ∷ pools) zero within all = all.0
stands-at maps (pool ∷ pools) (suc place) within all = stands-at maps pools place (omega arith) all.1

number-at : (pools : List LentPool) (place : ℕ) → (pool_at pools place).number ≡ slice_index_or (numbers pools) place 0
number-at [] place = refl
number-at (pool ∷ pools) zero = refl
number-at (pool ∷ pools) (suc place) = number-at pools place

length-numbers : (pools : List LentPool) → length (numbers pools) ≡ length pools
length-numbers [] = refl
length-numbers (pool ∷ pools) = ap suc (length-numbers pools)

-- what the pool at a place shows
pub shown-at : (maps : Maps) (pools : List LentPool) (place : ℕ) → place < 2 → numbers pools ≡ 0 ∷ 1 ∷ [] → slice_index_or (numbers pools) place 0 ≡ place → AllByRecursion (StandsFor maps) pools → rows_in maps place ≡ entries.map_of (pool_at pools place).storage.pairs
shown-at maps pools place within are is all =
    let long : length pools ≡ 2 = sym (length-numbers pools) ∙ ap length are in
    let here = subst (λ (n : ℕ). slice_get maps n ≡ Some (entries.map_of (pool_at pools place).storage.pairs)) (number-at pools place ∙ is) (stands-at maps pools place (omega (arith, within, long)) all) in
    ap (λ rows. unwrap_or rows []) here

pub limit-sizes : (maps : Maps) → parting_limit (sizes_of maps) ≡ length (rows_in maps 0)
limit-sizes [] = refl
limit-sizes (rows ∷ maps) = refl

pub map-emissions : (other : List (Entity × Row)) (pairs : List (Entity × Row)) → map (λ (entity : Entity). record { index = entity.index; order = parting_order other entity }) (entries.keys pairs) ≡ emissions_along (λ entity row. parting_order other entity ∷ []) pairs
map-emissions other [] = refl
map-emissions other (pair ∷ pairs) = ap (λ es. record { index = pair.0.index; order = parting_order other pair.0 } ∷ es) (map-emissions other pairs)

-- ---- one mark

no_mark : (n k : ℕ) → is_marked (replicate n false) k ≡ true → ⊥
no_mark zero k e = false≢true e
no_mark (suc n) zero e = false≢true e
no_mark (suc n) (suc k) e = no_mark n k e

pub only_mark : (n place k : ℕ) → is_marked (slice_set (replicate n false) place true) k ≡ true → k ≡ place
only_mark zero place k e = absurd (false≢true e)
only_mark (suc n) zero zero e = refl
only_mark (suc n) zero (suc k) e = absurd (no_mark n k e)
only_mark (suc n) (suc place) zero e = absurd (false≢true e)
only_mark (suc n) (suc place) (suc k) e = ap suc (only_mark n place k e)

within_list : (list : List Entity) (place : ℕ) (e : Entity) → slice_get list place ≡ Some e → place < length list
within_list [] place e is = absurd (cc)
within_list (x ∷ xs) zero e is = omega arith
within_list (x ∷ xs) (suc place) e is = let rest = within_list xs place e is in omega (arith, rest)

located_within : (list : List Entity) (e : Entity) (o : Option ℕ) → place_of list e ≡ o → is_some o ≡ true → unwrap_or o 0 < length list
located_within list e (Some place) is some = within_list list place e (place_here list e place is)
located_within list e None is some = absurd (false≢true some)

pub both-left : (b c : Bool) → (b && c) ≡ true → b ≡ true
both-left true c e = refl
both-left false c e = e

both-right : (b c : Bool) → (b && c) ≡ true → c ≡ true
both-right true c e = e
both-right false c e = absurd (false≢true e)

-- an identifier that is located has its place within the list
pub place_within : (list : List Entity) (e : Entity) (b mark : Bool) (place : ℕ) → place ≡ unwrap_or (place_of list e) 0 → mark ≡ (b && is_some (place_of list e)) → mark ≡ true → place < length list
place_within list e b mark place is marks marked =
    subst (λ (p : ℕ). p < length list) (sym is) (located_within list e (place_of list e) refl (both-right b (is_some (place_of list e)) (sym marks ∙ marked)))
