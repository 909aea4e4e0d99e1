-- What a word of a statement does for one entity, told by its order, and the row of an order.
use Rattle.std.proofs.Common.{◌≡◌, ℕ, ◌+◌, ◌<◌, Bool, true, false, not, ◌&&◌, ℤ, pos, List, [], ◌∷◌, ◌++◌, drop, Some, None, refl, sym, ap, ap₂, ◌∙◌, arith, append_assoc, if◌then◌else◌, slice_index_or, ◌==◌}
use Rattle.std.specs.Prelude.{option_to_list}
use Rattle.std.proofs.lemmas.Bool.{false≢true}
use Rattle.std.proofs.lemmas.List.Elements.{filter-append}
use Rattle.world_model.specs.declared.component.Row.{Row}
use Rattle.world_model.specs.declared.deferred.Deferred.{Deferred}
use Rattle.world_model.specs.declared.deferred.Deferred.TheVariants as order
use Rattle.row_lang.specs.declared.token.Keyword.{Keyword}
use Rattle.row_lang.specs.declared.token.Keyword.TheVariants as key
use Rattle.row_lang.specs.Arithmetic.{is_zero}
use Rattle.row_lang.specs.Bodies.{Done, after_deed, ordering, padded_row}
use Rattle.row_lang.specs.Values.{Setting, Operands, pool_named}
use Rattle.system_api.specs.Batches.{lanes, entity_at, is_marked}
use Rattle.system_api.specs.Emissions.{Emission}
use Rattle.system_eval.specs.Doings.{Work, done_in, deed_in, emitted, is_set_word, is_spawn, order_given, orders_in, Does}
use Rattle.system_eval.specs.Lanes.{Scenery, setting_at, given_to, beside, AreDistinctMarked}
use Rattle.system_eval.specs.Stacks.{Columns, int_at, operands_at}
use Rattle.system_eval.proofs.EmissionLemmas.{given_in_lane, given_to_none}
use Rattle.system_eval.proofs.OwnLemmas.{at_dropped}

-- ---- rows

pub four : {a b c d e f g h : ℤ} → a ≡ e → b ≡ f → c ≡ g → d ≡ h → ◌≡◌ {A = Row} (record { f = a ∷ b ∷ c ∷ d ∷ [] }) (record { f = e ∷ f ∷ g ∷ h ∷ [] })
four p q r s = cc

padded : (vs : List ℤ) → padded_row vs ≡ record { f = slice_index_or vs 0 (pos 0) ∷ slice_index_or vs 1 (pos 0) ∷ slice_index_or vs 2 (pos 0) ∷ slice_index_or vs 3 (pos 0) ∷ [] }
padded [] = refl
padded (a ∷ []) = refl
padded (a ∷ b ∷ []) = refl
padded (a ∷ b ∷ c ∷ []) = refl
padded (a ∷ b ∷ c ∷ d ∷ vs) = refl

pub padded_from : (vs : List ℤ) (depth : ℕ) → padded_row (drop depth vs) ≡ record { f = slice_index_or vs depth (pos 0) ∷ slice_index_or vs (depth + 1) (pos 0) ∷ slice_index_or vs (depth + 2) (pos 0) ∷ slice_index_or vs (depth + 3) (pos 0) ∷ [] }
padded_from vs depth =
    let start : depth + 0 ≡ depth = omega arith in
    padded (drop depth vs) ∙ four (at_dropped vs depth 0 (pos 0) ∙ ap (λ n. slice_index_or vs n (pos 0)) start) (at_dropped vs depth 1 (pos 0)) (at_dropped vs depth 2 (pos 0)) (at_dropped vs depth 3 (pos 0))

-- ---- one word

pub not_set : (word : Keyword) → (word ≡ key.Set → ⊥) → is_set_word word ≡ false
not_set key.Set other = absurd (other refl)
not_set _ other = refl

pub append_nil : {X : Type 0} (xs : List X) → xs ++ [] ≡ xs
append_nil [] = refl
append_nil (x ∷ xs) = ap (λ ys. x ∷ ys) (append_nil xs)

module _ (s : Setting) (o : Operands) (d : Done) where
  rows_kept : (word : Keyword) → is_set_word word ≡ false → (after_deed s word o d).rows ≡ d.rows
  rows_kept key.Set other = absurd (false≢true (sym other))
  rows_kept key.Bear other = split d.spawned (order.Bear (pool_named o) (padded_row o.values))
    where
      split : (b : Bool) (given : Deferred) → (if b then ordering given d else d).rows ≡ d.rows
      split true given = refl
      split false given = refl
  rows_kept _ other = refl

  spawned_after : (word : Keyword) → (after_deed s word o d).spawned ≡ (if is_spawn word then true else d.spawned)
  spawned_after key.Bear = split d.spawned (order.Bear (pool_named o) (padded_row o.values))
    where
      split : (b : Bool) (given : Deferred) → (if b then ordering given d else d).spawned ≡ d.spawned
      split true given = refl
      split false given = refl
  spawned_after _ = refl

  orders_after : (word : Keyword) → is_set_word word ≡ false → (after_deed s word o d).orders ≡ d.orders ++ option_to_list (order_given s.profile word o d.spawned)
  orders_after key.Set other = absurd (false≢true (sym other))
  orders_after key.Kill other = refl
  orders_after key.Give other = refl
  orders_after key.Take other = refl
  orders_after key.Send other = refl
  orders_after key.Add other = refl
  orders_after key.Spawn other = refl
  orders_after key.Bear other = split d.spawned (order.Bear (pool_named o) (padded_row o.values))
    where
      split : (b : Bool) (given : Deferred) → (if b then ordering given d else d).orders ≡ d.orders ++ option_to_list (if b then Some given else None)
      split true given = refl
      split false given = sym (append_nil d.orders)
  orders_after _ other = sym (append_nil d.orders)

-- ---- the orders of a word, in a batch

beside-append : (index : ℕ) (xs ys : List Deferred) → beside index (xs ++ ys) ≡ beside index xs ++ beside index ys
beside-append index [] ys = refl
beside-append index (x ∷ xs) ys = ap (λ es. record { index = index; order = x } ∷ es) (beside-append index xs ys)

module _ (s : Scenery) (word : Keyword) (other : is_set_word word ≡ false) (test : List ℤ) (stack : Columns) (columns : List (List Row)) (spawned now : List Bool) (list : List Emission) where
  abbrev old : Work
  old = record { columns = columns; spawned = spawned; list = list }

  abbrev new : Work
  new = record { columns = columns; spawned = now; list = list ++ emitted s.entities (orders_in s word test stack spawned) lanes }

  rows_in : (b : Bool) (set : Setting) (o : Operands) (d : Done) → d.rows ≡ (if b then d else after_deed set word o d).rows
  rows_in true set o d = refl
  rows_in false set o d = sym (rows_kept set o d word other)

  spawned_in : (b : Bool) (set : Setting) (o : Operands) (d : Done) → (if b then d.spawned else if is_spawn word then true else d.spawned) ≡ (if b then d else after_deed set word o d).spawned
  spawned_in true set o d = refl
  spawned_in false set o d = sym (spawned_after set o d word)

  orders_more : (b : Bool) (set : Setting) (o : Operands) (d : Done) → (if b then d else after_deed set word o d).orders ≡ d.orders ++ (if not b then option_to_list (order_given set.profile word o d.spawned) else [])
  orders_more true set o d = sym (append_nil d.orders)
  orders_more false set o d = orders_after set o d word other

  pub gives : AreDistinctMarked s.marks s.entities → ((lane : ℕ) → lane < lanes → is_marked now lane ≡ (if is_zero (int_at test lane) then is_marked spawned lane else if is_spawn word then true else is_marked spawned lane)) →
      Does s (deed_in s word test stack) old new
  gives distinct spawns = record {
    columns = refl;
    rows = λ lane h orders. rows_in (is_zero (int_at test lane)) (setting_at s lane) (operands_at stack lane) (done_in s old orders lane);
    spawned = λ lane h orders. spawns lane h ∙ spawned_in (is_zero (int_at test lane)) (setting_at s lane) (operands_at stack lane) (done_in s old orders lane);
    orders = λ lane h marked before orders is.
        let index = (entity_at s.entities lane).index in
        let all = emitted s.entities (orders_in s word test stack spawned) lanes in
        let fresh : List Deferred = if not (is_zero (int_at test lane)) then option_to_list (order_given s.profile word (operands_at stack lane) (is_marked spawned lane)) else [] in
        let mine : orders_in s word test stack spawned lane ≡ fresh = ap (λ (m : Bool). if m && not (is_zero (int_at test lane)) then option_to_list (order_given s.profile word (operands_at stack lane) (is_marked spawned lane)) else []) marked in
        filter-append (λ (emission : Emission). emission.index == index) list all
        ∙ ap₂ (λ (a b : List Emission). a ++ b) is (given_in_lane s word test stack spawned lane distinct h marked ∙ ap (beside index) mine)
        ∙ append_assoc before (beside index orders) (beside index fresh)
        ∙ ap (λ es. before ++ es) (sym (beside-append index orders fresh) ∙ ap (beside index) (sym (orders_more (is_zero (int_at test lane)) (setting_at s lane) (operands_at stack lane) (done_in s old orders lane))));
    others = λ index none.
        filter-append (λ (emission : Emission). emission.index == index) list (emitted s.entities (orders_in s word test stack spawned) lanes)
        ∙ ap (λ es. given_to index list ++ es) (given_to_none s word test stack spawned index none) ∙ append_nil (given_to index list);
  }
