-- The pairs that identifiers and values stand for, and each change of them as a change of the pairs, of their identifiers and of
-- their map.
use Rattle.std.proofs.Common.{◌≡◌, ℕ, ◌+◌, ◌<◌, true, false, List, [], ◌∷◌, ◌++◌, get_or, set, length, Some, None, IfSome, slice_get, sym, ap, ap₂, ◌∙◌, subst, arith}
use Rattle.std.specs.Prelude.{is_some}
use Rattle.std.specs.List.{zip, swap, swap_remove}
use Rattle.std.proofs.lemmas.List.{map-append}
use Rattle.std.proofs.lemmas.Option.{slice_get-get_or, slice_get_within}
use Rattle.entity_id.specs.declared.entity.Entity.{Entity}
use Rattle.entity_id.specs.FiniteMap as entries
use Rattle.entity_id.specs.PackedLists.{place_of, swap_popped}
use Rattle.entity_id.proofs.ZipLemmas.{first-zip, length-zip_same, zip_at, zip-push, zip-swap}
use Rattle.entity_id.proofs.PackedListLemmas.{length-swap}
use Rattle.entity_id.proofs.PackedMapLemmas.{get_here, get-map_of, remove-absent}
use Rattle.entity_id.proofs.MapChangeLemmas.{map_of-push, map_of-swap_within, keys-with_value, map_of-with_value}
use Rattle.sparse_set.specs.PackedSets as packed
use Rattle.storage.proofs.PairLemmas.{once-zip, has_index-zip, with_value-absent, zip-with_value, found_at, not_found, popped}

-- one value for each identifier: their pairs
pub record ArePairs {X : Type 0} (ks : List Entity) (vs : List X) (pairs : List (Entity × X)) : Type 0 where
  pub is : zip ks vs ≡ pairs
  pub each : length vs ≡ length ks
  pub distinct : packed.AreDistinct ks
  pub once : entries.HasEachOnce pairs
  pub keys_are : entries.keys pairs ≡ ks
  pub len : length pairs ≡ length ks
  pub index : (n : ℕ) → entries.has_index pairs n ≡ packed.has_index ks n

pub are_pairs : {X : Type 0} (ks : List Entity) (vs : List X) (pairs : List (Entity × X)) → length vs ≡ length ks → packed.AreDistinct ks → zip ks vs ≡ pairs → ArePairs ks vs pairs
are_pairs ks vs pairs each distinct is = record {
  is = is;
  each = each;
  distinct = distinct;
  once = subst (λ ps. entries.HasEachOnce ps) is (once-zip ks vs distinct);
  keys_are = ap entries.keys (sym is) ∙ first-zip ks vs each;
  len = ap length (sym is) ∙ length-zip_same ks vs each;
  index = λ n. ap (λ ps. entries.has_index ps n) (sym is) ∙ has_index-zip ks vs n each;
}

pub record Emplaced {X : Type 0} (old new : List (Entity × X)) (e : Entity) (x : X) : Type 0 where
  pub pairs : new ≡ old ++ (e, x) ∷ []
  pub keys_are : entries.keys new ≡ entries.keys old ++ e ∷ []
  pub map : entries.map_of new ≡ entries.put (entries.map_of old) e x

pub emplaced : {X : Type 0} (ks ks' : List Entity) (vs vs' : List X) (old : List (Entity × X)) (e : Entity) (x : X) → ArePairs ks vs old → packed.has_index ks e.index ≡ false → ks' ≡ ks ++ e ∷ [] → vs' ≡ vs ++ x ∷ [] → Emplaced old (zip ks' vs') e x
emplaced {X = X} ks ks' vs vs' old e x p fresh k v =
    let pairs : zip ks' vs' ≡ old ++ (e, x) ∷ [] = ap₂ zip k v ∙ zip-push ks vs e x p.each ∙ ap (λ l. l ++ (e, x) ∷ []) p.is in
    record {
      pairs = pairs;
      keys_are = ap entries.keys pairs ∙ map-append (λ (pair : Entity × X). pair.0) old ((e, x) ∷ []);
      map = ap entries.map_of pairs ∙ map_of-push old p.once e x (p.index e.index ∙ fresh);
    }

pub record Swapped {X : Type 0} (old new : List (Entity × X)) (i j : ℕ) : Type 0 where
  pub pairs : new ≡ swap old i j
  pub keys_are : entries.keys new ≡ swap (entries.keys old) i j
  pub map : entries.map_of new ≡ entries.map_of old

pub swapped : {X : Type 0} (ks ks' : List Entity) (vs vs' : List X) (old : List (Entity × X)) (i j : ℕ) → ArePairs ks vs old → i < length old → j < length old → ks' ≡ swap ks i j → vs' ≡ swap vs i j → Swapped old (zip ks' vs') i j
swapped ks ks' vs vs' old i j p low_i low_j k v =
    let pairs : zip ks' vs' ≡ swap old i j = ap₂ zip k v ∙ zip-swap ks vs i j p.each ∙ ap (λ l. swap l i j) p.is in
    let each : length (swap vs i j) ≡ length (swap ks i j) = length-swap vs i j ∙ p.each ∙ sym (length-swap ks i j) in
    record {
      pairs = pairs;
      keys_are = ap entries.keys (ap₂ zip k v) ∙ first-zip (swap ks i j) (swap vs i j) each ∙ ap (λ l. swap l i j) (sym p.keys_are);
      map = ap entries.map_of pairs ∙ map_of-swap_within old p.once i j low_i low_j;
    }

pub record Erased {X : Type 0} (old new : List (Entity × X)) (e : Entity) (x : X) : Type 0 where
  pub value : entries.get old e ≡ Some x
  pub pairs : IfSome (place_of (entries.keys old) e) (λ place. new ≡ swap_popped old place)
  pub keys_are : IfSome (place_of (entries.keys old) e) (λ place. entries.keys new ≡ swap_popped (entries.keys old) place)
  pub map : entries.map_of new ≡ entries.remove (entries.map_of old) e
  pub held : true ≡ entries.contains (entries.map_of old) e
  pub len : length new + 1 ≡ length old

pub erased : {X : Type 0} (ks ks' : List Entity) (vs vs' : List X) (old : List (Entity × X)) (e : Entity) (place : ℕ) (x : X) → ArePairs ks vs old → place_of ks e ≡ Some place → x ≡ get_or vs place x → ks' ≡ swap_popped ks place → vs' ≡ swap_remove vs place x → Erased old (zip ks' vs') e x
erased {X = X} ks ks' vs vs' old e place x p at read k v =
    let all = popped ks vs e place x p.each p.distinct at read in
    let left : List (Entity × X) = zip (swap_popped ks place) (swap_remove vs place x) in
    let found : place_of (entries.keys old) e ≡ Some place = ap (λ l. place_of l e) p.keys_are ∙ at in
    let value : entries.get old e ≡ Some x = ap (λ ps. entries.get ps e) (sym p.is) ∙ all.value in
    subst (λ new. Erased old new e x) (sym (ap₂ zip k v)) (record {
      value = value;
      pairs = subst (λ o. IfSome o (λ m. left ≡ swap_popped old m)) (sym found) (all.pairs ∙ ap (λ ps. swap_popped ps place) p.is);
      keys_are = subst (λ o. IfSome o (λ m. entries.keys left ≡ swap_popped (entries.keys old) m)) (sym found) (first-zip (swap_popped ks place) (swap_remove vs place x) all.one_each ∙ ap (λ l. swap_popped l place) (sym p.keys_are));
      map = all.map ∙ ap (λ ps. entries.remove (entries.map_of ps) e) p.is;
      held = sym (ap is_some (get-map_of old e p.once ∙ value));
      len = all.len ∙ ap length p.is;
    })

-- an identifier that isn't there has no value, and its removal changes nothing
pub record IsUnheld {X : Type 0} (old : List (Entity × X)) (e : Entity) : Type 0 where
  pub value : entries.get old e ≡ None
  pub place : place_of (entries.keys old) e ≡ None
  pub map : entries.remove (entries.map_of old) e ≡ entries.map_of old
  pub in_map : entries.get (entries.map_of old) e ≡ None
  pub held : false ≡ entries.contains (entries.map_of old) e
  pub same : (x : X) → old ≡ entries.with_value old e x

pub unheld : {X : Type 0} (ks : List Entity) (vs : List X) (old : List (Entity × X)) (e : Entity) → ArePairs ks vs old → place_of ks e ≡ None → IsUnheld old e
unheld ks vs old e p none =
    let gone = not_found ks vs e none in
    let value : entries.get old e ≡ None = ap (λ ps. entries.get ps e) (sym p.is) ∙ gone.1 in
    let in_map : entries.get (entries.map_of old) e ≡ None = get-map_of old e p.once ∙ value in
    record {
      value = value;
      place = ap (λ l. place_of l e) p.keys_are ∙ none;
      map = remove-absent (entries.map_of old) e in_map;
      in_map = in_map;
      held = sym (ap is_some in_map);
      same = λ x. sym (ap (λ ps. entries.with_value ps e x) (sym p.is) ∙ with_value-absent ks vs e x gone.0 ∙ p.is);
    }

-- the value at the place of an identifier is its value
pub found : {X : Type 0} (ks : List Entity) (vs : List X) (old : List (Entity × X)) (place : ℕ) (e : Entity) (x : X) → ArePairs ks vs old → slice_get ks place ≡ Some e → x ≡ get_or vs place x → entries.get old e ≡ Some x
found ks vs old place e x p here read =
    let low : place < length vs = omega (arith, slice_get_within ks place e here, p.each) in
    ap (λ ps. entries.get ps e) (sym p.is)
    ∙ get_here (zip ks vs) place e x (once-zip ks vs p.distinct) (zip_at ks vs place e x here (slice_get-get_or vs place x low ∙ ap Some (sym read)))

pub record Revalued {X : Type 0} (old new : List (Entity × X)) (e : Entity) (x : X) : Type 0 where
  pub pairs : new ≡ entries.with_value old e x
  pub keys_are : entries.keys new ≡ entries.keys old
  pub map : entries.map_of new ≡ entries.put (entries.map_of old) e x
  pub held : true ≡ entries.contains old e

pub revalued : {X : Type 0} (ks : List Entity) (vs : List X) (old : List (Entity × X)) (place : ℕ) (e : Entity) (x : X) → ArePairs ks vs old → slice_get ks place ≡ Some e → Revalued old (zip ks (set vs place x)) e x
revalued ks vs old place e x p here =
    let read = found_at ks vs place e p.each p.distinct here in
    let value : entries.get old e ≡ Some read.0 = ap (λ ps. entries.get ps e) (sym p.is) ∙ read.1 in
    let pairs : zip ks (set vs place x) ≡ entries.with_value old e x = zip-with_value ks vs place e x p.distinct here ∙ ap (λ ps. entries.with_value ps e x) p.is in
    record {
      pairs = pairs;
      keys_are = ap entries.keys pairs ∙ keys-with_value old e x;
      map = ap entries.map_of pairs ∙ map_of-with_value old p.once e read.0 x value;
      held = sym (ap is_some value);
    }
