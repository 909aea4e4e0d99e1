-- Rows in ascending index, put into a map one after another and sorted out of it.
use Rattle.std.proofs.Common.{◌≡◌, ◌≢◌, ℕ, zero, suc, ◌+◌, ◌<◌, ◌≤◌, false, cond, ltb, List, [], ◌∷◌, ◌++◌, map, take, get_or, length, sym, refl, ap, ap₂, ◌∙◌, subst, arith}
use Rattle.std.specs.Prelude.{filter}
use Rattle.std.specs.List.{AllByRecursion, AllZip, zip}
use Rattle.std.specs.List.Sorted.{IsPermutation, IsSortedByKey}
use Rattle.std.specs.Ordering.{is_lt, nat_cmp}
use Rattle.std.proofs.lemmas.Bool.{lt-ltb, le-ltb}
use Rattle.std.proofs.lemmas.Bool.Decides.{nat_tests}
use Rattle.std.proofs.lemmas.List.{take_more, length-take-le}
use Rattle.std.proofs.lemmas.Option.{slice_get-get_or}
use Rattle.std.proofs.lemmas.List.Sorted.{IsPermutation-keeps}
use Rattle.entity_id.specs.declared.entity.Entity.{Entity}
use Rattle.entity_id.specs.declared.entity.Profile.{Profile}
use Rattle.entity_id.specs.FiniteMap.{IsAscendingBy, AreDistinctBy, IsAscending, HasEachOnce, put, map_of, keys}
use Rattle.entity_id.proofs.ListLemmas.{all_weaker}
use Rattle.entity_id.proofs.MapChangeLemmas.{map_of-swap_within}
use Rattle.entity_id.proofs.ZipLemmas.{zip-push}
use Rattle.entity_id.proofs.PackedListLemmas.{distinct-swap_within}
use Rattle.world_model.specs.declared.component.Decl.{Decl}
use Rattle.world_model.specs.declared.component.Row.{Row}
use Rattle.world_model.specs.declared.slot.Slot.{Slot}
use Rattle.world_model.specs.Worlds.{AreLawfulRows}

-- ---- put behind all

smaller_kept : {X : Type 0} (xs : List (Entity × X)) (e : Entity) → AllByRecursion (λ x. x.0.index < e.index) xs → filter (λ x. ltb x.0.index e.index) xs ≡ xs
smaller_kept [] e h = refl
smaller_kept (x ∷ xs) e h = ap (λ b. cond b (x ∷ filter (λ y. ltb y.0.index e.index) xs) (filter (λ y. ltb y.0.index e.index) xs)) (lt-ltb x.0.index e.index h.0) ∙ ap (λ rest. x ∷ rest) (smaller_kept xs e h.1)

none_greater : {X : Type 0} (xs : List (Entity × X)) (e : Entity) → AllByRecursion (λ x. x.0.index < e.index) xs → filter (λ x. ltb e.index x.0.index) xs ≡ []
none_greater [] e h = refl
none_greater (x ∷ xs) e h = ap (λ b. cond b (x ∷ filter (λ y. ltb e.index y.0.index) xs) (filter (λ y. ltb e.index y.0.index) xs)) (let less : x.0.index < e.index = h.0 in le-ltb e.index x.0.index (omega arith)) ∙ none_greater xs e h.1

-- an entry whose index is above all others goes behind them
pub put_last : {X : Type 0} (xs : List (Entity × X)) (e : Entity) (x : X) → AllByRecursion (λ y. y.0.index < e.index) xs → put xs e x ≡ xs ++ (e, x) ∷ []
put_last xs e x h = ap₂ (λ a b. a ++ (e, x) ∷ b) (smaller_kept xs e h) (none_greater xs e h)

all_front : {X : Type 0} (P : X → Type 0) (xs : List X) (i : ℕ) (d : X) → AllByRecursion P xs → i < length xs → P (get_or xs i d)
all_front P [] i d h low = absurd (omega arith)
all_front P (x ∷ xs) zero d h low = h.0
all_front P (x ∷ xs) (suc i) d h low = all_front P xs i d h.1 (omega arith)

-- the entries before a place are below the one there
pub below_at : {X : Type 0} (xs : List (Entity × X)) (i : ℕ) (d : Entity × X) → IsAscending xs → i < length xs → AllByRecursion (λ y. y.0.index < (get_or xs i d).0.index) (take i xs)
below_at [] i d h low = absurd (omega arith)
below_at (x ∷ xs) zero d h low = tt
below_at (x ∷ xs) (suc i) d h low = (all_front (λ y. x.0.index < y.0.index) xs i d h.0 (omega arith), below_at xs i d h.1 (omega arith))

-- one row more behind those before it
pub one_more : {X : Type 0} (xs : List (Entity × X)) (i : ℕ) (d : Entity × X) → IsAscending xs → i < length xs → put (take i xs) (get_or xs i d).0 (get_or xs i d).1 ≡ take (i + 1) xs
one_more xs i d ascending low = put_last (take i xs) (get_or xs i d).0 (get_or xs i d).1 (below_at xs i d ascending low) ∙ sym (take_more xs i d low)

-- the rows of a pool of ascending ones
pub ascending_at : (pools : List (List (Entity × Row))) (i : ℕ) (d : List (Entity × Row)) → AllByRecursion IsAscending pools → i < length pools → IsAscending (get_or pools i d)
ascending_at pools i d each low = all_front IsAscending pools i d each low

-- the rows of lawful pools ascend
pub rows_ascend : (R : Decl → List (Entity × Row) → Type 0) → ((decl : Decl) (rows : List (Entity × Row)) → R decl rows → IsAscending rows) → (decls : List Decl) (pools : List (List (Entity × Row))) → AllZip R decls pools → AllByRecursion IsAscending pools
rows_ascend R each [] [] h = tt
rows_ascend R each [] (rows ∷ pools) h = absurd h
rows_ascend R each (decl ∷ decls) [] h = tt
rows_ascend R each (decl ∷ decls) (rows ∷ pools) h = (each decl rows h.0, rows_ascend R each decls pools h.1)

pub pools_ascend : (profile : Profile) (slots : List Slot) (decls : List Decl) (pools : List (List (Entity × Row))) → AllZip (AreLawfulRows profile slots) decls pools → AllByRecursion IsAscending pools
pools_ascend profile slots decls pools h = rows_ascend (AreLawfulRows profile slots) (λ decl rows lawful. lawful.ascending) decls pools h

-- ---- sorted

all_above : {X : Type 0} (number : X → ℕ) (n : ℕ) (xs : List X) → IsAscendingBy number xs → ((d : X) → 0 < length xs → n < number (get_or xs 0 d)) → AllByRecursion (λ y. n < number y) xs
all_above number n [] h first = tt
all_above {X = X} number n (y ∷ ys) h first =
    let low : n < number y = first y (omega arith) in
    (low, all_weaker (λ (z : X). number y < number z) (λ z. n < number z) (λ z above. let more : number y < number z = above in omega arith) ys h.0)

-- items each below the next ascend
ascending_by_next : {X : Type 0} (number : X → ℕ) (xs : List X) → ((k : ℕ) (d : X) → k + 1 < length xs → number (get_or xs k d) < number (get_or xs (k + 1) d)) → IsAscendingBy number xs
ascending_by_next number [] next = tt
ascending_by_next number (x ∷ xs) next =
    let rest : IsAscendingBy number xs = ascending_by_next number xs (λ k d low.
    let after : suc k + 1 ≡ suc (k + 1) = omega arith in
    subst (λ n. number (get_or xs k d) < number (get_or (x ∷ xs) n d)) after (next (suc k) d (omega arith))) in
    (all_above number (number x) xs rest (λ d some. next 0 d (omega arith)), rest)

not_less : (m n : ℕ) → is_lt (nat_cmp m n) ≡ false → n ≤ m
not_less m n h = grind (arith, nat_tests)

-- sorted items of each number once ascend
pub sorted_ascending : {X : Type 0} (number : X → ℕ) (xs : List X) → IsSortedByKey number nat_cmp xs → AreDistinctBy number xs → IsAscendingBy number xs
sorted_ascending number xs sorted once = ascending_by_next number xs (λ k d low.
    let least = not_less (number (get_or xs (k + 1) d)) (number (get_or xs k d)) (sorted k d (omega arith) low) in
    let apart : number (get_or xs k d) ≢ number (get_or xs (k + 1) d) = λ same.
    let one : k ≡ k + 1 = once k (k + 1) (get_or xs k d) (get_or xs (k + 1) d) (slice_get-get_or xs k d (omega arith)) (slice_get-get_or xs (k + 1) d low) same in
    omega arith in
    omega arith)

-- before entries that are all above an index stand none below it, and all are above it
pub none_smaller : {X : Type 0} (xs : List (Entity × X)) (e : Entity) → AllByRecursion (λ y. e.index < y.0.index) xs → filter (λ y. ltb y.0.index e.index) xs ≡ []
none_smaller [] e h = refl
none_smaller (x ∷ xs) e h = ap (λ b. cond b (x ∷ filter (λ y. ltb y.0.index e.index) xs) (filter (λ y. ltb y.0.index e.index) xs)) (let less : e.index < x.0.index = h.0 in le-ltb x.0.index e.index (omega arith)) ∙ none_smaller xs e h.1

pub greater_kept : {X : Type 0} (xs : List (Entity × X)) (e : Entity) → AllByRecursion (λ y. e.index < y.0.index) xs → filter (λ y. ltb e.index y.0.index) xs ≡ xs
greater_kept [] e h = refl
greater_kept (x ∷ xs) e h = ap (λ b. cond b (x ∷ filter (λ y. ltb e.index y.0.index) xs) (filter (λ y. ltb e.index y.0.index) xs)) (lt-ltb e.index x.0.index h.0) ∙ ap (λ rest. x ∷ rest) (greater_kept xs e h.1)

put_first : {X : Type 0} (xs : List (Entity × X)) (e : Entity) (x : X) → AllByRecursion (λ y. e.index < y.0.index) xs → put xs e x ≡ (e, x) ∷ xs
put_first xs e x h = ap₂ (λ a b. a ++ (e, x) ∷ b) (none_smaller xs e h) (greater_kept xs e h)

-- a map in ascending order is its own
pub map_of-ascending : {X : Type 0} (xs : List (Entity × X)) → IsAscending xs → map_of xs ≡ xs
map_of-ascending [] h = refl
map_of-ascending (x ∷ xs) h = ap (λ rest. put rest x.0 x.1) (map_of-ascending xs h.1) ∙ put_first xs x.0 x.1 h.0

-- entries of one map in another order
record IsOrderOf {X : Type 0} (entries xs : List (Entity × X)) : Type 0 where
  once : HasEachOnce xs
  same : map_of xs ≡ map_of entries

-- pairs of each index once, put in ascending order, are the map that they stand for
pub sorted_map : {X : Type 0} (pairs sorted : List (Entity × X)) → HasEachOnce pairs → IsPermutation pairs sorted → (HasEachOnce sorted → IsAscending sorted) → sorted ≡ map_of pairs
sorted_map pairs sorted once moved ascending =
    let order : IsOrderOf pairs sorted = IsPermutation-keeps pairs (IsOrderOf pairs) (record { once = once; same = refl })
    (λ l i j low high h. record {
      once = distinct-swap_within (λ entry. entry.0.index) l h.once i j low high;
      same = map_of-swap_within l h.once i j low high ∙ h.same;
    }) sorted moved in
    sym (map_of-ascending sorted (ascending order.once)) ∙ order.same

-- the identifiers and the values of pairs, side by side, are the pairs
pub zip_back : {X : Type 0} (pairs : List (Entity × X)) → zip (keys pairs) (map (λ pair. pair.1) pairs) ≡ pairs
zip_back [] = refl
zip_back (pair ∷ pairs) = ap (λ rest. pair ∷ rest) (zip_back pairs)

-- one pair more
pub zip_more : {X : Type 0} (entities : List Entity) (values : List X) (i : ℕ) (e : Entity) (x : X) → length entities ≡ length values → i < length entities → zip (take i entities) (take i values) ++ (get_or entities i e, get_or values i x) ∷ [] ≡ zip (take (i + 1) entities) (take (i + 1) values)
zip_more entities values i e x same low =
    let low_value : i < length values = omega (arith, same) in
    sym (ap₂ zip (take_more entities i e low) (take_more values i x low_value)
    ∙ zip-push (take i entities) (take i values) (get_or entities i e) (get_or values i x) (length-take-le i values (omega arith) ∙ sym (length-take-le i entities (omega arith))))
