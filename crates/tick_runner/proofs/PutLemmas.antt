-- Pools taken out of a list and put back.
use Rattle.std.proofs.Common.{◌≡◌, ◌≢◌, ℕ, suc, ◌<◌, Bool, true, false, not, ◌&&◌, ◌||◌, eqb, List, [], ◌∷◌, ◌++◌, length, drop, get_or, set, slice_get, refl, sym, ap, ap₂, ◌∙◌, arith}
use Rattle.std.specs.List.{AllByRecursion}
use Rattle.std.specs.Option.{option_map}
use Rattle.std.proofs.lemmas.Bool.{eqb-false}
use Rattle.std.proofs.lemmas.List.{map-set, set-set, set-get_or, length-set, length-map}
use Rattle.std.proofs.lemmas.Option.{slice_get-map}
use Rattle.entity_id.specs.FiniteMap as entries
use Rattle.entity_id.proofs.ListLemmas.{slice_get-set_same, slice_get-set_other, equal_by_place}
use Rattle.storage.specs.Stored.{Stored}
use Rattle.world_model.specs.declared.component.Row.{Row}
use Rattle.world_model.specs.Groups.{has_pool, are_declared, are_distinct}
use Rattle.world_model.specs.Ticks.{Maps}
use Rattle.system_api.specs.declared.lent.LentPool.{LentPool}
use Rattle.system_api.specs.Registers.{numbers, pool_at, StandsFor, HasOtherRows}
use Rattle.registry.specs.Layout.{maps_of}
use Rattle.registry.specs.Lending.{shape_of, shapes_of}
use Rattle.tick_runner.specs.Putting.{put_back, IsPoolOf}
use Rattle.tick_runner.proofs.ListLemmas.{and-right, or-right, declared_left, declared_right, declared_first, named_first, named_later, all_named}

pub put_back-snoc : (ws : List LentPool) (w : LentPool) (pools : List (Stored Row)) → put_back (ws ++ w ∷ []) pools ≡ put_back ws (set pools w.number w.storage)
put_back-snoc [] w pools = refl
put_back-snoc (x ∷ ws) w pools = ap (λ ps. set ps x.number x.storage) (put_back-snoc ws w pools)

pub numbers-snoc : (ws : List LentPool) (w : LentPool) → numbers (ws ++ w ∷ []) ≡ numbers ws ++ w.number ∷ []
numbers-snoc [] w = refl
numbers-snoc (x ∷ ws) w = ap (λ ns. x.number ∷ ns) (numbers-snoc ws w)

pub length-put_back : (ws : List LentPool) (pools : List (Stored Row)) → length (put_back ws pools) ≡ length pools
length-put_back [] pools = refl
length-put_back (w ∷ ws) pools = length-set (put_back ws pools) w.number w.storage ∙ length-put_back ws pools

-- a pool that is taken out, with whatever in its place, is put back
pub put_back-taken : (ws : List LentPool) (pools : List (Stored Row)) (w : LentPool) (e : Stored Row) → w.storage ≡ get_or pools w.number w.storage
    → put_back (ws ++ w ∷ []) (set pools w.number e) ≡ put_back ws pools
put_back-taken ws pools w e is =
    put_back-snoc ws w (set pools w.number e)
    ∙ ap (put_back ws) (set-set pools w.number e w.storage ∙ ap (set pools w.number) is ∙ set-get_or pools w.number w.storage)

-- the last pool of a list, put back
pub popped : (ws later : List LentPool) (w : LentPool) (pools : List (Stored Row)) → ws ≡ later ++ w ∷ [] → put_back later (set pools w.number w.storage) ≡ put_back ws pools
popped ws later w pools is = sym (ap (λ xs. put_back xs pools) is ∙ put_back-snoc later w pools)

pub popped_declared : (count : ℕ) (ws later : List LentPool) (w : LentPool) → ws ≡ later ++ w ∷ [] → are_declared count (numbers ws) ≡ true → (are_declared count (numbers later) ≡ true) × (w.number < count)
popped_declared count ws later w is all =
    let both : are_declared count (numbers later ++ w.number ∷ []) ≡ true = sym (ap (λ xs. are_declared count (numbers xs)) is ∙ ap (are_declared count) (numbers-snoc later w)) ∙ all in
    (declared_left count (numbers later) (w.number ∷ []) both, declared_first count w.number [] (declared_right count (numbers later) (w.number ∷ []) both))

-- ---- what stands where

differ : (v : ℕ) (list : List ℕ) (n : ℕ) → has_pool (v ∷ list) n ≡ false → v ≢ n
differ v list n absent = eqb-false v n (left (eqb v n) (has_pool list n) absent)
  where
    left : (b c : Bool) → (b || c) ≡ false → b ≡ false
    left true c e = e
    left false c e = refl

still_there : (w : LentPool) (ws : List LentPool) (pools : List (Stored Row)) → has_pool (numbers ws) w.number ≡ false → AllByRecursion (IsPoolOf pools) ws → AllByRecursion (IsPoolOf (set pools w.number w.storage)) ws
still_there w [] pools absent all = tt
still_there w (v ∷ ws) pools absent all =
    (slice_get-set_other pools w.number v.number w.storage (differ v.number (numbers ws) w.number absent) ∙ all.0, still_there w ws pools (or-right (eqb v.number w.number) (has_pool (numbers ws) w.number) absent) all.1)

not_named : (b c : Bool) → (not b && c) ≡ true → b ≡ false
not_named true c e = absurd (cc)
not_named false c e = refl

-- pools that are put back stand under their numbers
pub put_there : (ws : List LentPool) (pools : List (Stored Row)) → are_distinct (numbers ws) ≡ true → are_declared (length pools) (numbers ws) ≡ true → AllByRecursion (IsPoolOf (put_back ws pools)) ws
put_there [] pools apart all = tt
put_there (w ∷ ws) pools apart all =
    let low : w.number < length (put_back ws pools) = let h = declared_first (length pools) w.number (numbers ws) all in omega (arith, h, length-put_back ws pools) in
    let here : has_pool (numbers ws) w.number ≡ false = not_named (has_pool (numbers ws) w.number) (are_distinct (numbers ws)) apart in
    (slice_get-set_same (put_back ws pools) w.number w.storage low, still_there w ws (put_back ws pools) here (put_there ws pools (and-right _ (are_distinct (numbers ws)) apart) (and-right _ (are_declared (length pools) (numbers ws)) all)))

-- and the others stay
pub put_back-other : (ws : List LentPool) (pools : List (Stored Row)) (n : ℕ) → has_pool (numbers ws) n ≡ false → slice_get (put_back ws pools) n ≡ slice_get pools n
put_back-other [] pools n absent = refl
put_back-other (w ∷ ws) pools n absent =
    slice_get-set_other (put_back ws pools) w.number n w.storage (λ same. differ w.number (numbers ws) n absent (sym same))
    ∙ put_back-other ws pools n (or-right (eqb w.number n) (has_pool (numbers ws) n) absent)

-- pools that are read stand there too, where none of them is taken out
pub read_there : (reads ws : List LentPool) (pools : List (Stored Row)) → ((n : ℕ) → has_pool (numbers reads) n ≡ true → has_pool (numbers ws) n ≡ false) → AllByRecursion (IsPoolOf pools) reads
    → AllByRecursion (IsPoolOf (put_back ws pools)) reads
read_there [] ws pools apart all = tt
read_there (r ∷ reads) ws pools apart all =
    (put_back-other ws pools r.number (apart r.number (named_first r.number (numbers reads))) ∙ all.0, read_there reads ws pools (λ n named. apart n (named_later r.number (numbers reads) n named)) all.1)

-- ---- which maps they show

map_at : (pools : List (Stored Row)) (n : ℕ) → slice_get (maps_of pools) n ≡ option_map (λ stored. entries.map_of stored.pairs) (slice_get pools n)
map_at pools n = slice_get-map (λ stored. entries.map_of stored.pairs) pools n

-- a pool of a list shows its map
pub shown : (pools : List (Stored Row)) (ws : List LentPool) → AllByRecursion (IsPoolOf pools) ws → AllByRecursion (StandsFor (maps_of pools)) ws
shown pools [] all = tt
shown pools (w ∷ ws) all = (map_at pools w.number ∙ ap (option_map (λ stored. entries.map_of stored.pairs)) all.0, shown pools ws all.1)

pub same_maps : (pools : List (Stored Row)) (maps : Maps) (ws : List LentPool) → AllByRecursion (IsPoolOf pools) ws → AllByRecursion (StandsFor maps) ws
    → AllByRecursion (λ (n : ℕ). slice_get (maps_of pools) n ≡ slice_get maps n) (numbers ws)
same_maps pools maps [] there stand = tt
same_maps pools maps (w ∷ ws) there stand =
    (map_at pools w.number ∙ ap (option_map (λ stored. entries.map_of stored.pairs)) there.0 ∙ sym stand.0, same_maps pools maps ws there.1 stand.1)

module _ (ws later : List LentPool) (pools old : List (Stored Row)) (maps : Maps) (back : put_back ws pools ≡ old) (same : numbers later ≡ numbers ws)
    (apart : are_distinct (numbers ws) ≡ true) (declared : are_declared (length pools) (numbers ws) ≡ true) (stand : AllByRecursion (StandsFor maps) later)
    (frame : (n : ℕ) → has_pool (numbers ws) n ≡ false → slice_get maps n ≡ slice_get (maps_of old) n) where
  after_at : (n : ℕ) (b : Bool) → has_pool (numbers ws) n ≡ b → slice_get (maps_of (put_back later pools)) n ≡ slice_get maps n
  after_at n true named =
      let there = put_there later pools (ap are_distinct same ∙ apart) (ap (are_declared (length pools)) same ∙ declared) in
      all_named (λ n. slice_get (maps_of (put_back later pools)) n ≡ slice_get maps n) (numbers later) n (same_maps (put_back later pools) maps later there stand) (ap (λ ns. has_pool ns n) same ∙ named)
  after_at n false absent =
      map_at (put_back later pools) n
      ∙ ap (option_map (λ stored. entries.map_of stored.pairs)) (put_back-other later pools n (ap (λ ns. has_pool ns n) same ∙ absent) ∙ sym (put_back-other ws pools n absent) ∙ ap (λ ps. slice_get ps n) back)
      ∙ sym (map_at old n) ∙ sym (frame n absent)

  -- what a system leaves in its pools, and what it leaves alone, are the rows after it
  pub maps_after : maps_of (put_back later pools) ≡ maps
  maps_after = equal_by_place _ _ (λ n. after_at n (has_pool (numbers ws) n) refl)

-- ---- what stays as it is

-- pools of the same shapes are as many
pub shape_count : (new old : List (Stored Row)) → shapes_of new ≡ shapes_of old → length new ≡ length old
shape_count new old same = sym (length-map new shape_of) ∙ ap length same ∙ length-map old shape_of

same_shape : (old new : LentPool) → HasOtherRows old new → shape_of new.storage ≡ shape_of old.storage
same_shape old new other = λ i. record { identifiers = other.identifiers i; room = record { spare = other.spare i; index_bound = other.bound i } }

pub shapes_back : (ws later : List LentPool) (pools : List (Stored Row)) → numbers later ≡ numbers ws → ((place : ℕ) → HasOtherRows (pool_at ws place) (pool_at later place))
    → shapes_of (put_back later pools) ≡ shapes_of (put_back ws pools)
shapes_back [] [] pools same other = refl
shapes_back [] (l ∷ later) pools same other = absurd (cc)
shapes_back (w ∷ ws) [] pools same other = absurd (cc)
shapes_back (w ∷ ws) (l ∷ later) pools same other =
    map-set shape_of (put_back later pools) l.number l.storage
    ∙ ap₂ (λ shapes n. set shapes n (shape_of l.storage)) (shapes_back ws later pools (ap (drop 1) same) (λ place. other (suc place))) (other 0).number
    ∙ ap (set (shapes_of (put_back ws pools)) w.number) (same_shape w l (other 0))
    ∙ sym (map-set shape_of (put_back ws pools) w.number w.storage)
