-- Rows set at places, lane after lane.
use Rattle.std.proofs.Common.{◌≡◌, ◌≢◌, ℕ, zero, suc, ◌+◌, ◌<◌, Bool, true, false, List, [], ◌∷◌, length, refl, sym, ap, ◌∙◌, subst, arith, eqb, eq-eqb, slice_set, if◌then◌else◌}
use Rattle.std.specs.Prelude.{IsTrue, slice_index_or}
use Rattle.std.proofs.lemmas.Bool.{eqb-true}
use Rattle.std.proofs.lemmas.List.{length-set}
use Rattle.world_model.specs.declared.component.Row.{Row}
use Rattle.system_api.specs.Batches.{lanes, row_at, place_at, is_marked, AreApart}

row_at-set : (rows : List Row) (place : ℕ) (row : Row) → place < length rows → row_at (slice_set rows place row) place ≡ row
row_at-set [] place row within = absurd (omega arith)
row_at-set (x ∷ xs) zero row within = refl
row_at-set (x ∷ xs) (suc place) row within = row_at-set xs place row (omega arith)

row_at-set_other : (rows : List Row) (place other : ℕ) (row : Row) → place ≢ other → row_at (slice_set rows place row) other ≡ row_at rows other
row_at-set_other [] place other row ne = refl
row_at-set_other (x ∷ xs) zero zero row ne = absurd (ne refl)
row_at-set_other (x ∷ xs) zero (suc other) row ne = refl
row_at-set_other (x ∷ xs) (suc place) zero row ne = refl
row_at-set_other (x ∷ xs) (suc place) (suc other) row ne = row_at-set_other xs place other row (λ e. ne (ap suc e))

-- the lanes before this one are set, and nothing else is
pub record IsSetBefore (n : ℕ) (marks : List Bool) (places : List ℕ) (column old new : List Row) : Type 0 where
  pub long : length new ≡ length old
  pub done : (k : ℕ) → k < n → IsTrue (is_marked marks k) → row_at new (place_at places k) ≡ row_at column k
  pub others : (place : ℕ) → ((k : ℕ) → k < n → IsTrue (is_marked marks k) → place_at places k ≢ place) → row_at new place ≡ row_at old place

module _ (marks : List Bool) (places : List ℕ) (column old rows : List Row) (n : ℕ) (before : IsSetBefore n marks places column old rows) where
  differs : (k : ℕ) → eqb k n ≡ false → k ≡ n → ⊥
  differs k e same = let f = eq-eqb k n same in absurd (cc)

  -- of the lanes up to this one, where it is marked and set
  set-done : (c : Bool) (k : ℕ) → eqb k n ≡ c → n < lanes → AreApart marks places → IsTrue (is_marked marks n) → place_at places n < length rows → k < n + 1 → IsTrue (is_marked marks k)
      → row_at (slice_set rows (place_at places n) (row_at column n)) (place_at places k) ≡ row_at column k
  set-done true k e low apart here within up marked =
      subst (λ (j : ℕ). row_at (slice_set rows (place_at places n) (row_at column n)) (place_at places j) ≡ row_at column j) (sym (eqb-true k n e)) (row_at-set rows (place_at places n) (row_at column n) within)
  set-done false k e low apart here within up marked =
      let less : k < n = let ne = differs k e in omega (arith, up, ne) in
      row_at-set_other rows (place_at places n) (place_at places k) (row_at column n) (λ same. differs k e (apart k n (omega (arith, less, low)) low marked here (sym same)))
      ∙ before.done k less marked

  -- and where it isn't marked
  kept-done : (c : Bool) (k : ℕ) → eqb k n ≡ c → is_marked marks n ≡ false → k < n + 1 → IsTrue (is_marked marks k) → row_at rows (place_at places k) ≡ row_at column k
  kept-done true k e off up marked = let here = ap (is_marked marks) (eqb-true k n e) in absurd (cc)
  kept-done false k e off up marked = let ne = differs k e in before.done k (omega (arith, up, ne)) marked

  pub set-more : (b : Bool) → is_marked marks n ≡ b → n < lanes → AreApart marks places → (IsTrue b → place_at places n < length rows)
      → IsSetBefore (n + 1) marks places column old (if b then slice_set rows (place_at places n) (row_at column n) else rows)
  set-more true is low apart within = record {
    long = length-set rows (place_at places n) (row_at column n) ∙ before.long;
    done = λ k up marked. set-done (eqb k n) k refl low apart is (within refl) up marked;
    others = λ place free. row_at-set_other rows (place_at places n) place (row_at column n) (free n (omega arith) is) ∙ before.others place (λ k less marked. free k (omega (arith, less)) marked);
  }
  set-more false is low apart within = record {
    long = before.long;
    done = λ k up marked. kept-done (eqb k n) k refl is up marked;
    others = λ place free. before.others place (λ k less marked. free k (omega (arith, less)) marked);
  }

-- within a list it doesn't matter what stands past its end
pub within_any : {X : Type 0} (xs : List X) (place : ℕ) (a b : X) → place < length xs → slice_index_or xs place a ≡ slice_index_or xs place b
within_any [] place a b within = absurd (omega arith)
within_any (x ∷ xs) zero a b within = refl
within_any (x ∷ xs) (suc place) a b within = within_any xs place a b (omega arith)
