-- The rows of an entity in a packed pool, by its place there.
use Rattle.std.proofs.Common.{◌≡◌, ℕ, zero, suc, ◌<◌, true, false, List, [], ◌∷◌, map, length, Option, Some, None, refl, sym, ap, ◌∙◌, arith, slice_get}
use Rattle.std.specs.Prelude.{is_some}
use Rattle.std.proofs.lemmas.Bool.{false≢true}
use Rattle.std.proofs.lemmas.Option.{none-some, same_Some}
use Rattle.entity_id.specs.declared.entity.Entity.{Entity}
use Rattle.entity_id.specs.FiniteMap as entries
use Rattle.entity_id.specs.Identifiers.{is_same}
use Rattle.entity_id.specs.PackedLists.{place_of}
use Rattle.entity_id.proofs.PackedListLemmas.{any_by_position, place_here, place_found}
use Rattle.entity_id.proofs.PackedMapLemmas.{get_at, get_here, get-map_of}
use Rattle.world_model.specs.declared.component.Row.{Row}
use Rattle.system_api.specs.Batches.{row_at, entity_at}
use Rattle.system_eval.proofs.KeyListLemmas.{any-keys}

-- ---- entries by places

key-of : (pairs : List (Entity × Row)) (k : ℕ) (e : Entity) (x : Row) → slice_get pairs k ≡ Some (e, x) → slice_get (entries.keys pairs) k ≡ Some e
key-of [] k e x is = absurd (none-some (e, x) is)
key-of (p ∷ pairs) zero e x is = ap (λ (q : Entity × Row). Some q.0) (same_Some p (e, x) is)
key-of (p ∷ pairs) (suc k) e x is = key-of pairs k e x is

entry-of : (pairs : List (Entity × Row)) (k : ℕ) (e : Entity) → slice_get (entries.keys pairs) k ≡ Some e → (x : Row) × (slice_get pairs k ≡ Some (e, x))
entry-of [] k e is = absurd (none-some e is)
entry-of (p ∷ pairs) zero e is = (p.1, ap (λ (it : Entity). Some (it, p.1)) (same_Some p.0 e is))
entry-of (p ∷ pairs) (suc k) e is = entry-of pairs k e is

row-of-entry : (pairs : List (Entity × Row)) (k : ℕ) (e : Entity) (x : Row) → slice_get pairs k ≡ Some (e, x) → row_at (map (λ (pair : Entity × Row). pair.1) pairs) k ≡ x
row-of-entry [] k e x is = absurd (none-some (e, x) is)
row-of-entry (p ∷ pairs) zero e x is = ap (λ (q : Entity × Row). q.1) (same_Some p (e, x) is)
row-of-entry (p ∷ pairs) (suc k) e x is = row-of-entry pairs k e x is

within-entry : (pairs : List (Entity × Row)) (k : ℕ) (y : Entity × Row) → slice_get pairs k ≡ Some y → k < length pairs
within-entry [] k y is = absurd (none-some y is)
within-entry (p ∷ pairs) zero y is = omega arith
within-entry (p ∷ pairs) (suc k) y is = let rest = within-entry pairs k y is in omega arith

-- no index comes twice among identifiers, where none does among entries
distinct-keys : (pairs : List (Entity × Row)) → entries.HasEachOnce pairs → entries.AreDistinctBy (λ (e : Entity). e.index) (entries.keys pairs)
distinct-keys pairs once i j a b at_a at_b same =
    let x = entry-of pairs i a at_a in
    let y = entry-of pairs j b at_b in
    once i j (a, x.0) (b, y.0) x.1 y.1 same

-- nor among other entries of the same identifiers
pub once-same : (old new : List (Entity × Row)) → entries.keys new ≡ entries.keys old → entries.HasEachOnce old → entries.HasEachOnce new
once-same old new keys once i j x y at_x at_y same =
    distinct-keys old once i j x.0 y.0
    (ap (λ (es : List Entity). slice_get es i) (sym keys) ∙ key-of new i x.0 x.1 at_x)
    (ap (λ (es : List Entity). slice_get es j) (sym keys) ∙ key-of new j y.0 y.1 at_y) same

-- ---- look-ups by places

some-row : (o : Option Row) → is_some o ≡ true → (x : Row) × (o ≡ Some x)
some-row None is = absurd (false≢true is)
some-row (Some x) is = (x, refl)

-- an entity that is there stands at its place, where its row is
pub place-found : (pairs : List (Entity × Row)) (e : Entity) → entries.HasEachOnce pairs → entries.contains (entries.map_of pairs) e ≡ true
    → (k : ℕ) × ((place_of (entries.keys pairs) e ≡ Some k) × (entries.get (entries.map_of pairs) e ≡ Some (row_at (map (λ (pair : Entity × Row). pair.1) pairs) k)))
place-found pairs e once has =
    let x = some-row (entries.get (entries.map_of pairs) e) has in
    let at = get_at pairs e x.0 (sym (get-map_of pairs e once) ∙ x.1) in
    (at.0, (place_found (entries.keys pairs) (distinct-keys pairs once) e at.0 (key-of pairs at.0 e x.0 at.1), x.1 ∙ ap Some (sym (row-of-entry pairs at.0 e x.0 at.1))))

-- and at a place that was found there is a row
pub row-found : (pairs : List (Entity × Row)) (e : Entity) (k : ℕ) → entries.HasEachOnce pairs → place_of (entries.keys pairs) e ≡ Some k
    → (k < length pairs) × (entries.get (entries.map_of pairs) e ≡ Some (row_at (map (λ (pair : Entity × Row). pair.1) pairs) k))
row-found pairs e k once is =
    let x = entry-of pairs k e (place_here (entries.keys pairs) e k is) in
    (within-entry pairs k (e, x.0) x.1, get-map_of pairs e once ∙ get_here pairs k e x.0 once x.1 ∙ ap Some (sym (row-of-entry pairs k e x.0 x.1)))

entry-there : (pairs : List (Entity × Row)) (k : ℕ) (e : Entity) → k < length pairs → entity_at (entries.keys pairs) k ≡ e → slice_get (entries.keys pairs) k ≡ Some e
entry-there [] k e within is = absurd (omega arith)
entry-there (p ∷ pairs) zero e within is = ap Some is
entry-there (p ∷ pairs) (suc k) e within is = entry-there pairs k e (omega arith) is

-- an entity that stands at a place has that place and the row there
pub stands-there : (pairs : List (Entity × Row)) (k : ℕ) (e : Entity) → entries.HasEachOnce pairs → k < length pairs → entity_at (entries.keys pairs) k ≡ e
    → (place_of (entries.keys pairs) e ≡ Some k) × (entries.get (entries.map_of pairs) e ≡ Some (row_at (map (λ (pair : Entity × Row). pair.1) pairs) k))
stands-there pairs k e once within is =
    let place = place_found (entries.keys pairs) (distinct-keys pairs once) e k (entry-there pairs k e within is) in
    (place, (row-found pairs e k once place).1)

-- whether an entity stands somewhere
pub is-found : (pairs : List (Entity × Row)) (e : Entity) → entries.HasEachOnce pairs → is_some (place_of (entries.keys pairs) e) ≡ entries.contains (entries.map_of pairs) e
is-found pairs e once =
    sym (any_by_position (is_same e) (entries.keys pairs) 0) ∙ any-keys e pairs ∙ ap is_some (sym (get-map_of pairs e once))

none-row : (o : Option Row) → is_some o ≡ false → o ≡ None
none-row None is = refl
none-row (Some x) is = absurd (false≢true (sym is))

-- two entities of one place are one
pub one-entity : (list : List Entity) (a b : Entity) (k : ℕ) → place_of list a ≡ Some k → place_of list b ≡ Some k → a ≡ b
one-entity list a b k at_a at_b = same_Some a b (sym (place_here list a k at_a) ∙ place_here list b k at_b)

-- ---- one entity after a change of rows

-- where the row at an entity's place stays, its row stays
kept-case : (o : Option ℕ) (old new : List (Entity × Row)) (e : Entity) → entries.keys new ≡ entries.keys old → entries.HasEachOnce old → place_of (entries.keys old) e ≡ o
    → ((k : ℕ) → place_of (entries.keys old) e ≡ Some k → row_at (map (λ (pair : Entity × Row). pair.1) new) k ≡ row_at (map (λ (pair : Entity × Row). pair.1) old) k)
    → entries.get (entries.map_of new) e ≡ entries.get (entries.map_of old) e
kept-case None old new e keys once is kept =
    none-row (entries.get (entries.map_of new) e) (sym (is-found new e (once-same old new keys once)) ∙ ap (λ (es : List Entity). is_some (place_of es e)) keys ∙ ap is_some is)
    ∙ sym (none-row (entries.get (entries.map_of old) e) (sym (is-found old e once) ∙ ap is_some is))
kept-case (Some k) old new e keys once is kept =
    (row-found new e k (once-same old new keys once) (ap (λ (es : List Entity). place_of es e) keys ∙ is)).1
    ∙ ap Some (kept k is)
    ∙ sym (row-found old e k once is).1

pub kept-row : (old new : List (Entity × Row)) (e : Entity) → entries.keys new ≡ entries.keys old → entries.HasEachOnce old
    → ((k : ℕ) → place_of (entries.keys old) e ≡ Some k → row_at (map (λ (pair : Entity × Row). pair.1) new) k ≡ row_at (map (λ (pair : Entity × Row). pair.1) old) k)
    → entries.get (entries.map_of new) e ≡ entries.get (entries.map_of old) e
kept-row old new e keys once kept = kept-case (place_of (entries.keys old) e) old new e keys once refl kept

-- and where it is set, the entity has the new one
pub set-row : (old new : List (Entity × Row)) (e : Entity) (k : ℕ) → entries.keys new ≡ entries.keys old → entries.HasEachOnce old → place_of (entries.keys old) e ≡ Some k
    → entries.get (entries.map_of new) e ≡ Some (row_at (map (λ (pair : Entity × Row). pair.1) new) k)
set-row old new e k keys once is = (row-found new e k (once-same old new keys once) (ap (λ (es : List Entity). place_of es e) keys ∙ is)).1
