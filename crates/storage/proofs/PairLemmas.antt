-- Identifiers and values side by side, as the pairs of a storage.
use Rattle.std.proofs.Common.{◌≡◌, ℕ, zero, suc, ◌+◌, ◌-◌, ◌<◌, cond, ◌||◌, eqb, List, [], ◌∷◌, ◌++◌, map, take, drop, set, get_or, length, Option, Some, None, slice_get, sym, refl, ap, ap₂, ◌∙◌, inl, inr, arith, length-append, length-drop}
use Rattle.std.specs.List.{zip, swap_remove}
use Rattle.std.proofs.lemmas.Bool.{cases_Bool, both_ways}
use Rattle.std.proofs.lemmas.Option.{none-some, same_Some, slice_get-get_or, slice_get_within}
use Rattle.entity_id.specs.declared.entity.Entity.{Entity}
use Rattle.entity_id.specs.Identifiers.{is_same}
use Rattle.entity_id.specs.PackedLists.{place_of, swap_popped}
use Rattle.entity_id.specs.FiniteMap.{keys, with_value, has_index, HasEachOnce}
use Rattle.entity_id.proofs.MapLemmas.{same_itself, same_true}
use Rattle.sparse_set.specs.PackedSets.{AreDistinct}
use Rattle.entity_id.specs.FiniteMap as entries
use Rattle.entity_id.proofs.PackedMapLemmas.{get_here, get_none, get-map_of}
use Rattle.entity_id.proofs.MapChangeLemmas.{map_of-swap_popped}
use Rattle.entity_id.proofs.PackedListLemmas.{place_here, position_gone, swap_removed, length-popped}
use Rattle.entity_id.proofs.ZipLemmas.{first-zip, second-zip, length-zip_same, zip_at, key_of_zip, zip-swap_popped}
use Rattle.sparse_set.specs.PackedSets as packed
use Rattle.storage.specs.Stored.{Stored}
use Rattle.storage.specs.Changed.{with_values, in_order}
use Rattle.std.specs.Option.{option_map, option_to_list}
use Rattle.std.proofs.lemmas.List.{take-map, drop-map, take-append-drop, length-take-le, length-map}
use Rattle.std.proofs.Math.Seq.{take-append_seam, drop-append_seam}
use Rattle.entity_id.proofs.PackedListLemmas.{at_taken, at_dropped}
use Rattle.storage.specs.Changed.{with_value as with_one}

module _ {X : Type 0} where
  pub once-zip : (ks : List Entity) (vs : List X) → AreDistinct ks → HasEachOnce (zip ks vs)
  once-zip ks vs once i j a b hi hj same = once i j a.0 b.0 (key_of_zip ks vs i a hi) (key_of_zip ks vs j b hj) same

  pub has_index-zip : (ks : List Entity) (vs : List X) (index : ℕ) → length vs ≡ length ks → has_index (zip ks vs) index ≡ packed.has_index ks index
  has_index-zip [] vs index h = refl
  has_index-zip (k ∷ ks) [] index h = absurd (omega arith)
  has_index-zip (k ∷ ks) (v ∷ vs) index h = ap (λ b. eqb k.index index || b) (has_index-zip ks vs index (omega arith))

  -- no other identifier has the value that is set
  pub with_value-absent : (ks : List Entity) (vs : List X) (e : Entity) (x : X) → ((k : ℕ) → slice_get ks k ≡ Some e → ⊥) → with_value (zip ks vs) e x ≡ zip ks vs
  with_value-absent [] vs e x gone = refl
  with_value-absent (k ∷ ks) [] e x gone = refl
  with_value-absent (k ∷ ks) (v ∷ vs) e x gone =
      elim (cases_Bool (is_same e k)) [
        | inl same ↦ absurd (gone 0 (ap (λ (w : Entity). Some w) (sym (same_true e k same))))
        | inr differ ↦ ap₂ (λ b l. (k, cond b x v) ∷ l) differ (with_value-absent ks vs e x (λ j h. gone (suc j) h))
      ]

  pub zip-with_value : (ks : List Entity) (vs : List X) (place : ℕ) (e : Entity) (x : X) → AreDistinct ks → slice_get ks place ≡ Some e → zip ks (set vs place x) ≡ with_value (zip ks vs) e x
  zip-with_value [] vs place e x once h = absurd (none-some e h)
  zip-with_value (k ∷ ks) [] place e x once h = refl
  zip-with_value (k ∷ ks) (v ∷ vs) zero e x once h =
      let is : e ≡ k = sym (same_Some k e h) in
      ap₂ (λ b l. (k, cond b x v) ∷ l) (sym (ap (is_same e) (sym is) ∙ same_itself e))
      (sym (with_value-absent ks vs e x (λ j g. let z : 0 ≡ suc j = once 0 (suc j) k e refl g (ap (λ (w : Entity). w.index) (sym is)) in omega arith)))
  zip-with_value (k ∷ ks) (v ∷ vs) (suc place) e x once h =
      elim (cases_Bool (is_same e k)) [
        | inl same ↦ absurd (let z : 0 ≡ suc place = once 0 (suc place) k e refl h (ap (λ (w : Entity). w.index) (sym (same_true e k same))) in omega arith)
        | inr differ ↦ ap₂ (λ b l. (k, cond b x v) ∷ l) (sym differ) (zip-with_value ks vs place e x (λ i j a b hi hj s. let z : suc i ≡ suc j = once (suc i) (suc j) a b hi hj s in omega arith) h)
      ]

-- the value at a place
pub found_at : {X : Type 0} (ks : List Entity) (vs : List X) (place : ℕ) (e : Entity) → length vs ≡ length ks → AreDistinct ks → slice_get ks place ≡ Some e → (x : X) × (entries.get (zip ks vs) e ≡ Some x) × (slice_get vs place ≡ Some x)
found_at [] vs place e each once h = absurd (none-some e h)
found_at (k ∷ ks) [] place e each once h = absurd (omega arith)
found_at {X = X} (k ∷ ks) (v ∷ vs) place e each once h =
    let ms : List X = v ∷ vs in
    let x : X = get_or ms place v in
    let value : slice_get ms place ≡ Some x = slice_get-get_or ms place v (let w = slice_get_within (k ∷ ks) place e h in omega arith) in
    (x, get_here (zip (k ∷ ks) ms) place e x (once-zip (k ∷ ks) ms once) (zip_at (k ∷ ks) ms place e x h value), value)

pub not_found : {X : Type 0} (ks : List Entity) (vs : List X) (e : Entity) → place_of ks e ≡ None → ((k : ℕ) → slice_get ks k ≡ Some e → ⊥) × (entries.get (zip ks vs) e ≡ None)
not_found ks vs e h =
    let gone : (k : ℕ) → slice_get ks k ≡ Some e → ⊥ = λ k g. both_ways (is_same e e) (position_gone (is_same e) ks 0 h k e g) (same_itself e) in
    (gone, get_none (zip ks vs) e (λ k x g. gone k (key_of_zip ks vs k (e, x) g)))

-- swap-and-pop on both sides
pub record Popped {X : Type 0} (ks : List Entity) (vs : List X) (e : Entity) (place : ℕ) (x : X) : Type 0 where
  pub value : entries.get (zip ks vs) e ≡ Some x
  pub pairs : zip (swap_popped ks place) (swap_remove vs place x) ≡ swap_popped (zip ks vs) place
  pub map : entries.map_of (zip (swap_popped ks place) (swap_remove vs place x)) ≡ entries.remove (entries.map_of (zip ks vs)) e
  pub len : length (zip (swap_popped ks place) (swap_remove vs place x)) + 1 ≡ length (zip ks vs)
  pub one_each : length (swap_remove vs place x) ≡ length (swap_popped ks place)

pub popped : {X : Type 0} (ks : List Entity) (vs : List X) (e : Entity) (place : ℕ) (x : X) → length vs ≡ length ks → AreDistinct ks → place_of ks e ≡ Some place → x ≡ get_or vs place x → Popped ks vs e place x
popped {X = X} ks vs e place x each once h read =
    let here : slice_get ks place ≡ Some e = place_here ks e place h in
    let low : place < length ks = slice_get_within ks place e here in
    let low' : place < length vs = omega arith in
    let value : slice_get vs place ≡ Some x = slice_get-get_or vs place x low' ∙ ap Some (sym read) in
    let pair : slice_get (zip ks vs) place ≡ Some (e, x) = zip_at ks vs place e x here value in
    let same : swap_remove vs place x ≡ swap_popped vs place = swap_removed vs place x low' in
    let pairs : zip (swap_popped ks place) (swap_remove vs place x) ≡ swap_popped (zip ks vs) place = ap (zip (swap_popped ks place)) same ∙ zip-swap_popped ks vs place each in
    let all = zip ks vs in
    let long : length all ≡ length ks = length-zip_same ks vs each in
    let last : slice_get all (length all - 1) ≡ Some (get_or all (length all - 1) (e, x)) = slice_get-get_or all (length all - 1) (e, x) (omega arith) in
    record {
      value = get_here all place e x (once-zip ks vs once) pair;
      pairs = pairs;
      map = ap entries.map_of pairs ∙ map_of-swap_popped all (once-zip ks vs once) place e x _ pair last;
      len = let n : length (swap_popped all place) + 1 ≡ length all = length-popped all place (omega arith) in omega (arith, ap length pairs);
      one_each = ap length same ∙ (let a : length (swap_popped vs place) + 1 ≡ length vs = length-popped vs place low' in let b : length (swap_popped ks place) + 1 ≡ length ks = length-popped ks place low in omega arith);
    }

-- the view once other values stand there
pub values_after : {X : Type 0} (ks : List Entity) (vs : List X) (spare bound n : ℕ) → length vs ≡ length ks → n ≡ length ks → (ws : List X)
    → ◌≡◌ {A = Stored X} (record { pairs = zip ks (take n (ws ++ drop (length ws) vs)); spare = spare; index_bound = bound }) (with_values (record { pairs = zip ks vs; spare = spare; index_bound = bound }) ws)
values_after {X = X} ks vs spare bound n each all ws =
    let pairs : zip ks (take n (ws ++ drop (length ws) vs)) ≡ zip (keys (zip ks vs)) (take (length (zip ks vs)) (ws ++ drop (length ws) (map (λ (pair : Entity × X). pair.1) (zip ks vs)))) =
    ap (λ k. zip k (take n (ws ++ drop (length ws) vs))) (sym (first-zip ks vs each))
    ∙ ap (λ m. zip (keys (zip ks vs)) (take m (ws ++ drop (length ws) vs))) (all ∙ sym (length-zip_same ks vs each))
    ∙ ap (λ v. zip (keys (zip ks vs)) (take (length (zip ks vs)) (ws ++ drop (length ws) v))) (sym (second-zip ks vs each)) in
    ap (λ p. record { pairs = p; spare = spare; index_bound = bound }) pairs

pub value_after : {X : Type 0} (ks : List Entity) (vs : List X) (spare bound place : ℕ) (e : Entity) (x : X) → AreDistinct ks → slice_get ks place ≡ Some e
    → ◌≡◌ {A = Stored X} (record { pairs = zip ks (set vs place x); spare = spare; index_bound = bound }) (with_one (record { pairs = zip ks vs; spare = spare; index_bound = bound }) e x)
value_after ks vs spare bound place e x once here = ap (λ p. record { pairs = p; spare = spare; index_bound = bound }) (zip-with_value ks vs place e x once here)

-- the pairs of the identifiers of some pairs are those pairs
in_order-itself : {X : Type 0} (pairs part : List (Entity × X)) → ((k : ℕ) (pair : Entity × X) → slice_get part k ≡ Some pair → entries.get pairs pair.0 ≡ Some pair.1) → in_order (keys part) pairs ≡ part
in_order-itself pairs [] found = refl
in_order-itself {X = X} pairs ((e, x) ∷ part) found =
    ap₂ (λ (o : Option X) rest. option_to_list (option_map (λ value. (e, value)) o) ++ rest) (found 0 (e, x) refl) (in_order-itself pairs part (λ k pair h. found (suc k) pair h))

in_order-same : {X : Type 0} (order : List Entity) (a b : List (Entity × X)) → ((q : Entity) → entries.get a q ≡ entries.get b q) → in_order order a ≡ in_order order b
in_order-same [] a b h = refl
in_order-same {X = X} (e ∷ order) a b h = ap₂ (λ (o : Option X) rest. option_to_list (option_map (λ value. (e, value)) o) ++ rest) (h e) (in_order-same order a b h)

-- pairs with the same map, and their identifiers in an order first
pub arranged_pairs : {X : Type 0} (old new : List (Entity × X)) (order : List Entity) → HasEachOnce old → HasEachOnce new → entries.map_of new ≡ entries.map_of old → keys new ≡ order ++ drop (length order) (keys old) → new ≡ in_order order old ++ drop (length order) old
arranged_pairs {X = X} old new order once_old once_new map keys_are =
    let n = length order in
    let same : (q : Entity) → entries.get old q ≡ entries.get new q = λ q. sym (get-map_of old q once_old) ∙ ap (λ m. entries.get m q) (sym map) ∙ get-map_of new q once_new in
    let front_keys : order ≡ keys (take n new) = sym (take-append_seam order (drop n (keys old))) ∙ ap (take n) (sym keys_are) ∙ take-map (λ (pair : Entity × X). pair.0) n new in
    let front : in_order order old ≡ take n new =
    in_order-same order old new same ∙ ap (λ ks. in_order ks new) front_keys ∙ in_order-itself new (take n new) (λ k pair h. get_here new k pair.0 pair.1 once_new (at_taken n new k pair h).1) in
    let back_keys : keys (drop n new) ≡ keys (drop n old) =
    sym (drop-map (λ (pair : Entity × X). pair.0) n new) ∙ ap (drop n) keys_are ∙ drop-append_seam order (drop n (keys old)) ∙ drop-map (λ (pair : Entity × X). pair.0) n old in
    let back : drop n new ≡ drop n old =
    sym (in_order-itself new (drop n new) (λ k pair h. let at = at_dropped n new k pair h in get_here new at.0 pair.0 pair.1 once_new at.1))
    ∙ ap (λ ks. in_order ks new) back_keys ∙ sym (in_order-same (keys (drop n old)) old new same)
    ∙ in_order-itself old (drop n old) (λ k pair h. let at = at_dropped n old k pair h in get_here old at.0 pair.0 pair.1 once_old at.1) in
    sym (take-append-drop n new) ∙ ap₂ (λ a b. a ++ b) (sym front) back

-- other values leave the identifiers
pub keys-with_values : {X : Type 0} (s : Stored X) (values : List X) → keys (with_values s values).pairs ≡ keys s.pairs
keys-with_values {X = X} s values =
    let old : List X = map (λ (pair : Entity × X). pair.1) s.pairs in
    let long : length old ≡ length s.pairs = length-map s.pairs (λ (pair : Entity × X). pair.1) in
    let keys_long : length (keys s.pairs) ≡ length s.pairs = length-map s.pairs (λ (pair : Entity × X). pair.0) in
    let all : length (values ++ drop (length values) old) ≡ length values + (length old - length values) = length-append values (drop (length values) old) ∙ ap (λ m. length values + m) (length-drop (length values) old) in
    first-zip (keys s.pairs) (take (length s.pairs) (values ++ drop (length values) old)) (length-take-le (length s.pairs) (values ++ drop (length values) old) (omega arith) ∙ sym keys_long)
