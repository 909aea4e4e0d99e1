-- Draws of entities, and rows of one entity more.
use Rattle.std.proofs.Common.{◌≡◌, ℕ, zero, suc, ◌+◌, ◌*◌, ◌%◌, Bool, true, false, cond, List, [], ◌∷◌, ◌++◌, map, sym, ap, ◌∙◌, add-zero, add-suc, zero-add}
use Rattle.std.specs.List.{filter, range_with_len}
use Rattle.std.proofs.lemmas.List.{append-nil, map-append, map-id}
use Rattle.std.proofs.lemmas.List.FromFn.{map-range_with_len_more, filter_of_map_range_with_len_more}
use Rattle.entity_id.specs.declared.entity.Entity.{Entity}
use Rattle.world_model.specs.declared.component.Row.{Row}
use Rattle.world_model.specs.Components.{zero_row}
use Rattle.world_maker.specs.Draws.{draws_behind, draw_of, next_draw}
use Rattle.world_maker.specs.MadeWorlds.{first_owner, position, velocity, health, team, target, damage, timer, is_frozen, rows_of_all, rows_of_frozen}
use Rattle.world_maker.specs.Making.{entity_rows, rows_of_first, with_entity}

-- so many places, and so many more
pub behind-add : (first m k : ℕ) → draws_behind first (m + k) ≡ draws_behind (draws_behind first m) k
behind-add first m zero = ap (draws_behind first) (add-zero m)
behind-add first m (suc k) = ap (draws_behind first) (add-suc m k) ∙ ap next_draw (behind-add first m k)

-- the draws behind those of the entities before are an entity's own
pub its_draws : (number index : ℕ) → draws_behind (draws_behind (number % 65537) (10 * index)) ≡ draw_of number index
its_draws number index = λ i place. sym (behind-add (number % 65537) (10 * index) place) i

all_more : (number n : ℕ) (row_of : (ℕ → ℕ) → Row) → rows_of_all number n row_of ++ (first_owner n, row_of (draw_of number n)) ∷ [] ≡ rows_of_all number (n + 1) row_of
all_more number n row_of = sym (map-range_with_len_more (λ (index : ℕ). (first_owner index, row_of (draw_of number index))) 0 n n (zero-add n))

filter_more : (p : ℕ → Bool) (n : ℕ) → filter p (range_with_len 0 (n + 1)) ≡ filter p (range_with_len 0 n) ++ cond (p n) (n ∷ []) []
filter_more p n =
    sym (ap (filter p) (map-id (range_with_len 0 (n + 1))))
    ∙ filter_of_map_range_with_len_more p (λ (x : ℕ). x) 0 n n (zero-add n)
    ∙ ap (λ (xs : List ℕ). filter p xs ++ cond (p n) (n ∷ []) []) (map-id (range_with_len 0 n))

one_more_if : {X : Type 0} (f : ℕ → X) (b : Bool) (xs : List ℕ) (n : ℕ) → cond b (map f xs ++ f n ∷ []) (map f xs) ≡ map f (xs ++ cond b (n ∷ []) [])
one_more_if f true xs n = sym (map-append f xs (n ∷ []))
one_more_if f false xs n = sym (ap (map f) (append-nil xs))

abbrev frozen_entry : ℕ → Entity × Row
frozen_entry index = (first_owner index, zero_row)

frozen_more : (number n : ℕ) → cond (is_frozen (draw_of number n)) (rows_of_frozen number n ++ (first_owner n, zero_row) ∷ []) (rows_of_frozen number n) ≡ rows_of_frozen number (n + 1)
frozen_more number n =
    one_more_if frozen_entry (is_frozen (draw_of number n)) (filter (λ index. is_frozen (draw_of number index)) (range_with_len 0 n)) n
    ∙ ap (map frozen_entry) (sym (filter_more (λ index. is_frozen (draw_of number index)) n))

pub rows_more : (number count index : ℕ) → with_entity (rows_of_first number count index) (first_owner index) (entity_rows count (draw_of number index)) ≡ rows_of_first number count (index + 1)
rows_more number count index = λ i. record {
  position = all_more number index position i;
  velocity = all_more number index velocity i;
  health = all_more number index health i;
  team = all_more number index team i;
  target = all_more number index (target count) i;
  damage = all_more number index damage i;
  timer = all_more number index timer i;
  frozen = frozen_more number index i;
  marked = all_more number index (λ d. zero_row) i;
}
