-- What lent pools tell of a system's entities is what the maps that they show tell.
use Rattle.std.proofs.Common.{◌≡◌, ℕ, zero, suc, ◌+◌, Bool, ◌&&◌, ◌||◌, not, List, [], ◌∷◌, ◌++◌, map, length, take, drop, Some, refl, sym, ap, ap₂, ◌∙◌, arith, slice_get}
use Rattle.std.specs.Prelude.{unwrap_or, slice_index_or}
use Rattle.std.specs.List.{list_all, list_any, zip, AllByRecursion}
use Rattle.entity_id.specs.declared.entity.Entity.{Entity}
use Rattle.entity_id.specs.FiniteMap as entries
use Rattle.entity_id.specs.Identifiers.{is_same}
use Rattle.entity_id.specs.Matching.{is_in}
use Rattle.world_model.specs.declared.access.Access.{Access}
use Rattle.world_model.specs.declared.component.Row.{Row}
use Rattle.world_model.specs.Components.{zero_row}
use Rattle.world_model.specs.Frames.{own_pools, map_at, is_member}
use Rattle.world_model.specs.Ticks.{Maps}
use Rattle.row_lang.specs.Bodies.{body_done}
use Rattle.row_lang.specs.Effects.{own_rows, done_for}
use Rattle.system_api.specs.declared.lent.LentPool.{LentPool}
use Rattle.system_api.specs.Registers.{Register, numbers, StandsFor, Shows}
use Rattle.system_api.specs.Running.{AreLentFor}
use Rattle.system_eval.specs.Lanes.{looked_at}
use Rattle.system_eval.specs.Walks.{Task, rows_in, has_row, row_in, own_lent, excluded_lent, excluded_from, is_member_in, rows_of_own, done_in}
use Rattle.system_eval.proofs.KeyListLemmas.{any-keys}

-- ---- maps

pub map_at-get : (maps : Maps) (pool : ℕ) (m : List (Entity × Row)) → slice_get maps pool ≡ Some m → map_at maps pool ≡ m
map_at-get [] pool m is = absurd (cc)
map_at-get (x ∷ maps) zero m is = cc
map_at-get (x ∷ maps) (suc pool) m is = map_at-get maps pool m is

pub keys-at : (maps : Maps) (pool : ℕ) → slice_index_or (map entries.keys maps) pool [] ≡ entries.keys (map_at maps pool)
keys-at [] pool = refl
keys-at (m ∷ maps) zero = refl
keys-at (m ∷ maps) (suc pool) = keys-at maps pool

pub is_in-contains : (maps : Maps) (e : Entity) (pool : ℕ) → is_in (map entries.keys maps) e pool ≡ entries.contains (map_at maps pool) e
is_in-contains maps e pool = ap (list_any (is_same e)) (keys-at maps pool) ∙ any-keys e (map_at maps pool)

-- ---- lists of pools that show maps

module _ (maps : Maps) where
  pub shown-rows : (pool : LentPool) → StandsFor maps pool → map_at maps pool.number ≡ rows_in pool
  shown-rows pool stands = map_at-get maps pool.number (rows_in pool) stands

  shown-has : (e : Entity) (pool : LentPool) → StandsFor maps pool → is_in (map entries.keys maps) e pool.number ≡ has_row e pool
  shown-has e pool stands = is_in-contains maps e pool.number ∙ ap (λ (m : List (Entity × Row)). entries.contains m e) (shown-rows pool stands)

  all-shown : (e : Entity) (pools : List LentPool) → AllByRecursion (StandsFor maps) pools → list_all (is_in (map entries.keys maps) e) (numbers pools) ≡ list_all (has_row e) pools
  all-shown e [] stand = refl
  all-shown e (p ∷ pools) stand = ap₂ (λ (a b : Bool). a && b) (shown-has e p stand.0) (all-shown e pools stand.1)

  any-shown : (e : Entity) (pools : List LentPool) → AllByRecursion (StandsFor maps) pools → list_any (is_in (map entries.keys maps) e) (numbers pools) ≡ list_any (has_row e) pools
  any-shown e [] stand = refl
  any-shown e (p ∷ pools) stand = ap₂ (λ (a b : Bool). a || b) (shown-has e p stand.0) (any-shown e pools stand.1)

  rows-shown : (e : Entity) (pools : List LentPool) → AllByRecursion (StandsFor maps) pools
      → map {B = ℕ × Row} (λ pool. (pool, unwrap_or (entries.get (map_at maps pool) e) zero_row)) (numbers pools) ≡ map (λ (pool : LentPool). (pool.number, row_in e pool)) pools
  rows-shown e [] stand = refl
  rows-shown e (p ∷ pools) stand =
      ap₂ (λ (m : List (Entity × Row)) rest. (p.number, unwrap_or (entries.get m e) zero_row) ∷ rest) (shown-rows p stand.0) (rows-shown e pools stand.1)

  looked-shown : (look rest : List ℕ) (pools : List LentPool) → numbers pools ≡ look ++ rest → AllByRecursion (StandsFor maps) pools
      → map {B = ℕ × List (Entity × Row)} (λ pool. (pool, map_at maps pool)) look ≡ zip look (map rows_in pools)
  looked-shown [] rest pools is stand = refl
  looked-shown (n ∷ look) rest [] is stand = absurd (cc)
  looked-shown (n ∷ look) rest (p ∷ pools) is stand =
      let first : p.number ≡ n = cc in
      let behind : numbers pools ≡ look ++ rest = cc in
      ap₂ (λ (m : List (Entity × Row)) more. (n, m) ∷ more) (ap (map_at maps) (sym first) ∙ shown-rows p stand.0) (looked-shown look rest pools behind stand.1)

  stand-take : (n : ℕ) (pools : List LentPool) → AllByRecursion (StandsFor maps) pools → AllByRecursion (StandsFor maps) (take n pools)
  stand-take zero pools stand = tt
  stand-take (suc n) [] stand = tt
  stand-take (suc n) (p ∷ pools) stand = (stand.0, stand-take n pools stand.1)

  stand-drop : (n : ℕ) (pools : List LentPool) → AllByRecursion (StandsFor maps) pools → AllByRecursion (StandsFor maps) (drop n pools)
  stand-drop zero pools stand = stand
  stand-drop (suc n) [] stand = tt
  stand-drop (suc n) (p ∷ pools) stand = stand-drop n pools stand.1

  stand-both : (xs ys : List LentPool) → AllByRecursion (StandsFor maps) xs → AllByRecursion (StandsFor maps) ys → AllByRecursion (StandsFor maps) (xs ++ ys)
  stand-both [] ys first second = second
  stand-both (x ∷ xs) ys first second = (first.0, stand-both xs ys first.1 second)

-- ---- lists of numbers

take-numbers : (n : ℕ) (pools : List LentPool) → numbers (take n pools) ≡ take n (numbers pools)
take-numbers zero pools = refl
take-numbers (suc n) [] = refl
take-numbers (suc n) (p ∷ pools) = ap (λ ns. p.number ∷ ns) (take-numbers n pools)

drop-numbers : (n : ℕ) (pools : List LentPool) → numbers (drop n pools) ≡ drop n (numbers pools)
drop-numbers zero pools = refl
drop-numbers (suc n) [] = refl
drop-numbers (suc n) (p ∷ pools) = drop-numbers n pools

both-numbers : (xs ys : List LentPool) → numbers (xs ++ ys) ≡ numbers xs ++ numbers ys
both-numbers [] ys = refl
both-numbers (x ∷ xs) ys = ap (λ ns. x.number ∷ ns) (both-numbers xs ys)

take-first : (a b c : List ℕ) → take (length a) (a ++ b ++ c) ≡ a
take-first [] b c = refl
take-first (x ∷ a) b c = ap (λ ns. x ∷ ns) (take-first a b c)

drop-first : (a b c : List ℕ) → drop (length a) (a ++ b ++ c) ≡ b ++ c
drop-first [] b c = refl
drop-first (x ∷ a) b c = drop-first a b c

drop-one : (b c : List ℕ) → drop (length b) (b ++ c) ≡ c
drop-one [] c = refl
drop-one (x ∷ b) c = drop-one b c

drop-second : (a b c : List ℕ) → drop (length a + length b) (a ++ b ++ c) ≡ c
drop-second [] b c = let none : 0 + length b ≡ length b = omega arith in ap (λ n. drop n (b ++ c)) none ∙ drop-one b c
drop-second (x ∷ a) b c = let more : suc (length a) + length b ≡ suc (length a + length b) = omega arith in ap (λ n. drop n (x ∷ (a ++ b ++ c))) more ∙ drop-second a b c

-- ---- a system's pools

module _ (access : Access) (register : Register) (lent : AreLentFor access register) where
  pub own-numbers : numbers (own_lent (length access.read) register) ≡ own_pools access
  own-numbers =
      both-numbers (take (length access.read) register.reads) register.writes
      ∙ ap₂ (λ (a b : List ℕ). a ++ b) (take-numbers (length access.read) register.reads ∙ ap (take (length access.read)) lent.reads ∙ take-first access.read access.look access.without) lent.writes

  looked-numbers : numbers (drop (length access.read) register.reads) ≡ access.look ++ access.without
  looked-numbers = drop-numbers (length access.read) register.reads ∙ ap (drop (length access.read)) lent.reads ∙ drop-first access.read access.look access.without

  pub excluded-numbers : numbers (excluded_lent (excluded_from access) register) ≡ access.without
  excluded-numbers = drop-numbers (excluded_from access) register.reads ∙ ap (drop (excluded_from access)) lent.reads ∙ drop-second access.read access.look access.without

  module _ (maps : Maps) (shows : Shows register maps) where
    pub own-stand : AllByRecursion (StandsFor maps) (own_lent (length access.read) register)
    own-stand = stand-both maps (take (length access.read) register.reads) register.writes (stand-take maps (length access.read) register.reads shows.reads) shows.writes

    pub told-member : (e : Entity) → is_member_in access register e ≡ is_member access maps e
    told-member e =
        ap₂ (λ (a b : Bool). a && not b)
        (sym (all-shown maps e (own_lent (length access.read) register) own-stand) ∙ ap (list_all (is_in (map entries.keys maps) e)) own-numbers)
        (sym (any-shown maps e (excluded_lent (excluded_from access) register) (stand-drop maps (excluded_from access) register.reads shows.reads)) ∙ ap (list_any (is_in (map entries.keys maps) e)) excluded-numbers)

    pub told-rows : (e : Entity) → rows_of_own access register e ≡ own_rows access maps e
    told-rows e =
        sym (rows-shown maps e (own_lent (length access.read) register) own-stand)
        ∙ ap (map {B = ℕ × Row} (λ pool. (pool, unwrap_or (entries.get (map_at maps pool) e) zero_row))) own-numbers

    pub told-looked : looked_at access register.reads ≡ map {B = ℕ × List (Entity × Row)} (λ pool. (pool, map_at maps pool)) access.look
    told-looked = sym (looked-shown maps access.look access.without (drop (length access.read) register.reads) looked-numbers (stand-drop maps (length access.read) register.reads shows.reads))

-- what a body does, told by the maps
pub told-done : (task : Task) (register : Register) (maps : Maps) → AreLentFor task.system.access register → Shows register maps → (e : Entity) → done_in task register e ≡ done_for task.profile task.system task.tick maps e
told-done task register maps lent shows e =
    ap₂ (λ looked rows. body_done (record { profile = task.profile; tick = task.tick; entity = e; looked_at = looked }) rows task.system.statements)
    (told-looked task.system.access register lent maps shows) (told-rows task.system.access register lent maps shows e)
