-- The own rows of a lane, by the places of their columns.
use Rattle.std.proofs.Common.{◌≡◌, ℕ, zero, suc, ◌+◌, ◌-◌, ◌<◌, ◌≤◌, ◌==◌, Bool, true, false, cond, not, ◌||◌, IsTrue, List, [], ◌∷◌, map, drop, length, Some, None, refl, sym, ap, ◌∙◌, subst, arith, pos, ℤ, slice_index_or, slice_set, if◌then◌else◌}
use Rattle.std.specs.Prelude.{slice_get, unwrap_or}
use Rattle.std.specs.List.{zip, position_from}
use Rattle.std.specs.Map.{lookup}
use Rattle.std.proofs.lemmas.Bool.{and_parts, false≢true, eqb-true}
use Rattle.world_model.specs.declared.component.Row.{Row}
use Rattle.world_model.specs.declared.tokens.FieldAt.{FieldAt}
use Rattle.world_model.specs.Components.{zero_row, value_at, with_field}
use Rattle.world_model.specs.Groups.{are_distinct, has_pool}
use Rattle.row_lang.specs.Bodies.{with_own_field}
use Rattle.row_lang.specs.Values.{known_for, own_row}
use Rattle.system_api.specs.Batches.{row_at}
use Rattle.system_eval.specs.Lanes.{own_at}

abbrev is_pool : ℕ → ℕ → Bool
is_pool pool other = other == pool

-- ---- what is known for the component at a place

from_start : {K : Type 0} (t : K → Bool) (i at : ℕ) (ks : List K) → position_from t i ks ≡ Some at → i ≤ at
from_start t i at [] is = absurd (cc)
from_start t i at (k ∷ ks) is = step (t k) is (from_start t (i + 1) at ks)
  where
    step : (b : Bool) → cond b (Some i) (position_from t (i + 1) ks) ≡ Some at → (position_from t (i + 1) ks ≡ Some at → i + 1 ≤ at) → i ≤ at
    step true is behind = let same : i ≡ at = cc in omega arith
    step false is behind = omega (arith, behind is)

module _ {X : Type 0} where
  found_from : (t : ℕ → Bool) (i at : ℕ) (ps : List ℕ) (xs : List X) → position_from t i ps ≡ Some at → lookup t (zip ps xs) ≡ slice_get xs (at - i)
  found_from t i at [] xs is = absurd (cc)
  found_from t i at (p ∷ ps) [] is = refl
  found_from t i at (p ∷ ps) (x ∷ xs) is = step (t p) is (λ it. found_from t (i + 1) at ps xs it)
    where
      step : (b : Bool) → cond b (Some i) (position_from t (i + 1) ps) ≡ Some at → (position_from t (i + 1) ps ≡ Some at → lookup t (zip ps xs) ≡ slice_get xs (at - (i + 1))) →
          cond b (Some x) (lookup t (zip ps xs)) ≡ slice_get (x ∷ xs) (at - i)
      step true is behind = let same : i ≡ at = cc in let none : at - i ≡ 0 = omega arith in ap (slice_get (x ∷ xs)) (sym none)
      step false is behind =
          let low = from_start t (i + 1) at ps is in
          let more : at - i ≡ suc (at - (i + 1)) = omega (arith, low) in
          behind is ∙ ap (slice_get (x ∷ xs)) (sym more)

  missed_from : (t : ℕ → Bool) (i : ℕ) (ps : List ℕ) (xs : List X) → position_from t i ps ≡ None → lookup t (zip ps xs) ≡ None
  missed_from t i [] xs is = refl
  missed_from t i (p ∷ ps) [] is = refl
  missed_from t i (p ∷ ps) (x ∷ xs) is = step (t p) is (λ it. missed_from t (i + 1) ps xs it)
    where
      step : (b : Bool) → cond b (Some i) (position_from t (i + 1) ps) ≡ None → (position_from t (i + 1) ps ≡ None → lookup t (zip ps xs) ≡ None) → cond b (Some x) (lookup t (zip ps xs)) ≡ None
      step true is behind = absurd (cc)
      step false is behind = behind is

  pub known_found : (pool at : ℕ) (ps : List ℕ) (xs : List X) (otherwise : X) → position_from (λ other. other == pool) 0 ps ≡ Some at → known_for pool (zip ps xs) otherwise ≡ slice_index_or xs at otherwise
  known_found pool at ps xs otherwise is =
      let same : at - 0 ≡ at = omega arith in
      ap (λ o. unwrap_or o otherwise) (found_from (λ other. other == pool) 0 at ps xs is ∙ ap (slice_get xs) same) ∙ unwrapped xs at
    where
      unwrapped : (xs : List X) (n : ℕ) → unwrap_or (slice_get xs n) otherwise ≡ slice_index_or xs n otherwise
      unwrapped [] n = refl
      unwrapped (x ∷ xs) zero = refl
      unwrapped (x ∷ xs) (suc n) = unwrapped xs n

  pub known_missed : (pool : ℕ) (ps : List ℕ) (xs : List X) (otherwise : X) → position_from (λ other. other == pool) 0 ps ≡ None → known_for pool (zip ps xs) otherwise ≡ otherwise
  known_missed pool ps xs otherwise is = ap (λ o. unwrap_or o otherwise) (missed_from (λ other. other == pool) 0 ps xs is)

pub at_mapped : {X Y : Type 0} (f : X → Y) (xs : List X) (at : ℕ) (none : X) (otherwise : Y) → at < length xs → slice_index_or (map f xs) at otherwise ≡ f (slice_index_or xs at none)
at_mapped f [] at none otherwise within = absurd (omega arith)
at_mapped f (x ∷ xs) zero none otherwise within = refl
at_mapped f (x ∷ xs) (suc at) none otherwise within = at_mapped f xs at none otherwise (omega arith)

pub past_mapped : {X Y : Type 0} (f : X → Y) (xs : List X) (at : ℕ) (otherwise : Y) → length xs ≤ at → slice_index_or (map f xs) at otherwise ≡ otherwise
past_mapped f [] at otherwise past = refl
past_mapped f (x ∷ xs) zero otherwise past = absurd (omega arith)
past_mapped f (x ∷ xs) (suc at) otherwise past = past_mapped f xs at otherwise (omega arith)

pub at_dropped : {X : Type 0} (xs : List X) (n at : ℕ) (none : X) → slice_index_or (drop n xs) at none ≡ slice_index_or xs (n + at) none
at_dropped xs zero at none = let e : 0 + at ≡ at = omega arith in ap (λ k. slice_index_or xs k none) (sym e)
at_dropped [] (suc n) at none = refl
at_dropped (x ∷ xs) (suc n) at none = let e : suc n + at ≡ suc (n + at) = omega arith in at_dropped xs n at none ∙ ap (λ k. slice_index_or (x ∷ xs) k none) (sym e)

-- ---- own rows

module _ (pools : List ℕ) (columns : List (List Row)) (pool lane : ℕ) where
  pub own_found : (at : ℕ) → position_from (λ other. other == pool) 0 pools ≡ Some at → at < length columns → own_row (own_at pools columns lane) pool ≡ row_at (slice_index_or columns at []) lane
  own_found at is within = known_found pool at pools (map (λ column. row_at column lane) columns) zero_row is ∙ at_mapped (λ column. row_at column lane) columns at [] zero_row within

  pub own_past : (at : ℕ) → position_from (λ other. other == pool) 0 pools ≡ Some at → length columns ≤ at → own_row (own_at pools columns lane) pool ≡ zero_row
  own_past at is past = known_found pool at pools (map (λ column. row_at column lane) columns) zero_row is ∙ past_mapped (λ column. row_at column lane) columns at zero_row past

  pub own_missed : position_from (λ other. other == pool) 0 pools ≡ None → own_row (own_at pools columns lane) pool ≡ zero_row
  own_missed is = known_missed pool pools (map (λ column. row_at column lane) columns) zero_row is

pub zero_values : (field : ℕ) → value_at zero_row field ≡ pos 0
zero_values zero = refl
zero_values (suc zero) = refl
zero_values (suc (suc zero)) = refl
zero_values (suc (suc (suc zero))) = refl
zero_values (suc (suc (suc (suc n)))) = refl

-- ---- own rows of which one is set

module _ (at : FieldAt) (x : ℤ) where
  set_one : ℕ × Row → ℕ × Row
  set_one own = if own.0 == at.pool then (own.0, with_field own.1 at.field x) else own

  -- rows of no such component stay
  unset : (ps : List ℕ) (rows : List Row) → has_pool ps at.pool ≡ false → with_own_field (zip ps rows) at x ≡ zip ps rows
  unset [] rows none = refl
  unset (p ∷ ps) [] none = refl
  unset (p ∷ ps) (r ∷ rows) none = step (p == at.pool) refl none (λ it. unset ps rows it)
    where
      step : (b : Bool) → (p == at.pool) ≡ b → (b || has_pool ps at.pool) ≡ false → (has_pool ps at.pool ≡ false → with_own_field (zip ps rows) at x ≡ zip ps rows) →
          with_own_field (zip (p ∷ ps) (r ∷ rows)) at x ≡ zip (p ∷ ps) (r ∷ rows)
      step true is none behind = absurd (cc)
      step false is none behind = rw is (ap (λ (rest : List (ℕ × Row)). (p, r) ∷ rest) (behind none))

  missed_is : (ps : List ℕ) (i : ℕ) → position_from (λ other. other == at.pool) i ps ≡ None → has_pool ps at.pool ≡ false
  missed_is [] i is = refl
  missed_is (p ∷ ps) i is = step (p == at.pool) is (λ it. missed_is ps (i + 1) it)
    where
      step : (b : Bool) → cond b (Some i) (position_from (λ other. other == at.pool) (i + 1) ps) ≡ None →
          (position_from (λ other. other == at.pool) (i + 1) ps ≡ None → has_pool ps at.pool ≡ false) → (b || has_pool ps at.pool) ≡ false
      step true is behind = absurd (cc)
      step false is behind = behind is

  -- the row at the place of the component is set, and no other
  set_from : (i place : ℕ) (ps : List ℕ) (rows : List Row) → are_distinct ps ≡ true → position_from (λ other. other == at.pool) i ps ≡ Some place →
      zip ps (slice_set rows (place - i) (with_field (slice_index_or rows (place - i) zero_row) at.field x)) ≡ with_own_field (zip ps rows) at x
  set_from i place [] rows apart is = refl
  set_from i place (p ∷ ps) [] apart is = refl
  set_from i place (p ∷ ps) (r ∷ rows) apart is =
      let parts = and_parts (not (has_pool ps p)) (are_distinct ps) apart in
      step (p == at.pool) refl is (not_false (has_pool ps p) parts.0) (λ it. set_from (i + 1) place ps rows parts.1 it)
    where
      not_false : (b : Bool) → not b ≡ true → b ≡ false
      not_false false is = refl
      not_false true is = absurd (false≢true is)

      step : (b : Bool) → (p == at.pool) ≡ b → cond b (Some i) (position_from (λ other. other == at.pool) (i + 1) ps) ≡ Some place → has_pool ps p ≡ false →
          (position_from (λ other. other == at.pool) (i + 1) ps ≡ Some place → zip ps (slice_set rows (place - (i + 1)) (with_field (slice_index_or rows (place - (i + 1)) zero_row) at.field x)) ≡ with_own_field (zip ps rows) at x) →
          zip (p ∷ ps) (slice_set (r ∷ rows) (place - i) (with_field (slice_index_or (r ∷ rows) (place - i) zero_row) at.field x)) ≡ with_own_field (zip (p ∷ ps) (r ∷ rows)) at x
      step true same is none behind =
          let e : i ≡ place = cc in
          let here : place - i ≡ 0 = omega arith in
          let lacks : has_pool ps at.pool ≡ false = subst (λ q. has_pool ps q ≡ false) (eqb-true p at.pool same) none in
          rw (here, same) (ap (λ (rest : List (ℕ × Row)). (p, with_field r at.field x) ∷ rest) (sym (unset ps rows lacks)))
      step false other is none behind =
          let low = from_start (λ other. other == at.pool) (i + 1) place ps is in
          let more : place - i ≡ suc (place - (i + 1)) = omega (arith, low) in
          rw (more, other) (ap (λ (rest : List (ℕ × Row)). (p, r) ∷ rest) (behind is))

map-set : {X Y : Type 0} (f : X → Y) (xs : List X) (n : ℕ) (x : X) → map f (slice_set xs n x) ≡ slice_set (map f xs) n (f x)
map-set f [] n x = refl
map-set f (y ∷ xs) zero x = refl
map-set f (y ∷ xs) (suc n) x = ap (λ ys. f y ∷ ys) (map-set f xs n x)

-- own rows of which a column was set, where the test allows it
pub own_set : (pools : List ℕ) (columns : List (List Row)) (at : FieldAt) (lane place : ℕ) (column : List Row) (b : Bool) (x : ℤ) → IsTrue (are_distinct pools) → position_from (λ other. other == at.pool) 0 pools ≡ Some place → place < length columns →
    row_at column lane ≡ (if b then row_at (slice_index_or columns place []) lane else with_field (row_at (slice_index_or columns place []) lane) at.field x) →
    own_at pools (slice_set columns place column) lane ≡ (if b then own_at pools columns lane else with_own_field (own_at pools columns lane) at x)
own_set pools columns at lane place column b x apart is within stored =
    ap (zip pools) (map-set (λ column. row_at column lane) columns place column ∙ ap (slice_set rows place) (stored ∙ ap (λ (r : Row). if b then r else with_field r at.field x) (sym there))) ∙ either b
  where
    rows : List Row
    rows = map (λ column. row_at column lane) columns

    there : slice_index_or rows place zero_row ≡ row_at (slice_index_or columns place []) lane
    there = at_mapped (λ column. row_at column lane) columns place [] zero_row within

    same : (rows : List Row) (n : ℕ) → slice_set rows n (slice_index_or rows n zero_row) ≡ rows
    same [] n = refl
    same (r ∷ rows) zero = refl
    same (r ∷ rows) (suc n) = ap (λ rs. r ∷ rs) (same rows n)

    start : place - 0 ≡ place
    start = omega arith

    either : (b : Bool) → zip pools (slice_set rows place (if b then slice_index_or rows place zero_row else with_field (slice_index_or rows place zero_row) at.field x)) ≡ (if b then zip pools rows else with_own_field (zip pools rows) at x)
    either true = ap (zip pools) (same rows place)
    either false = subst (λ n. zip pools (slice_set rows n (with_field (slice_index_or rows n zero_row) at.field x)) ≡ with_own_field (zip pools rows) at x) start (set_from at x 0 place pools rows apart is)

-- and none, where the component has no column
pub own_kept : (pools : List ℕ) (columns : List (List Row)) (at : FieldAt) (lane : ℕ) (b : Bool) (x : ℤ) → position_from (λ other. other == at.pool) 0 pools ≡ None →
    own_at pools columns lane ≡ (if b then own_at pools columns lane else with_own_field (own_at pools columns lane) at x)
own_kept pools columns at lane true x is = refl
own_kept pools columns at lane false x is = sym (unset at x pools (map (λ column. row_at column lane) columns) (missed_is at x pools 0 is))

pub own_kept_past : (pools : List ℕ) (columns : List (List Row)) (at : FieldAt) (lane place : ℕ) (b : Bool) (x : ℤ) → IsTrue (are_distinct pools) → position_from (λ other. other == at.pool) 0 pools ≡ Some place → length columns ≤ place →
    own_at pools columns lane ≡ (if b then own_at pools columns lane else with_own_field (own_at pools columns lane) at x)
own_kept_past pools columns at lane place true x apart is past = refl
own_kept_past pools columns at lane place false x apart is past =
    let start : place - 0 ≡ place = omega arith in
    sym (ap (zip pools) (past_set rows place _ long)) ∙ subst (λ n. zip pools (slice_set rows n (with_field (slice_index_or rows n zero_row) at.field x)) ≡ with_own_field (zip pools rows) at x) start (set_from at x 0 place pools rows apart is)
  where
    rows : List Row
    rows = map (λ column. row_at column lane) columns

    length-map : {X Y : Type 0} (f : X → Y) (xs : List X) → length (map f xs) ≡ length xs
    length-map f [] = refl
    length-map f (x ∷ xs) = ap suc (length-map f xs)

    long : length rows ≤ place
    long = omega (arith, past, length-map (λ (column : List Row). row_at column lane) columns)

    past_set : (rows : List Row) (n : ℕ) (r : Row) → length rows ≤ n → slice_set rows n r ≡ rows
    past_set [] n r past = refl
    past_set (x ∷ rows) zero r past = absurd (omega arith)
    past_set (x ∷ rows) (suc n) r past = ap (λ rs. x ∷ rs) (past_set rows n r (omega arith))
