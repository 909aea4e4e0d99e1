-- The finite map of packed entries, after each change of the entries.
use Rattle.std.proofs.Common.{◌≡◌, ◌≢◌, ℕ, zero, suc, ◌+◌, ◌-◌, ◌<◌, Bool, true, false, cond, ◌||◌, eqb, ltb, length-append, List, [], ◌∷◌, ◌++◌, length, Some, None, slice_get, sym, refl, ap, ap₂, ◌∙◌, inl, inr, arith}
use Rattle.std.specs.Prelude.{filter, is_some}
use Rattle.std.specs.List.{swap}
use Rattle.std.specs.Option.{option_or, option_map}
use Rattle.std.proofs.lemmas.Bool.{cases_Bool, cases_eq, cases_order, both_ways, eq-eqb, ne_eqb, lt-ltb, le-ltb}
use Rattle.std.proofs.lemmas.Bool.Decides.{nat_tests}
use Rattle.std.proofs.lemmas.Option.{none-some, same_Some, slice_get_within, slice_get-map, slice_get-get_or}
use Rattle.entity_id.specs.declared.entity.Entity.{Entity}
use Rattle.entity_id.specs.Identifiers.{is_same}
use Rattle.entity_id.specs.PackedLists.{swap_popped}
use Rattle.entity_id.specs.FiniteMap.{get, contains, put, keys, remove, map_of, with_value, has_index, HasEachOnce, AreDistinctBy}
use Rattle.entity_id.proofs.MapLemmas.{same_itself, same_true, beside, get-put_same, get-put_other, get-put_version, equal_lookups, get-remove_same, get-remove_other, lookup-append, ascending-put, ascending-remove}
use Rattle.entity_id.proofs.PackedMapLemmas.{get_at, get_none, get_alike, rest_once, ascending-map_of, get-map_of}
use Rattle.entity_id.proofs.PackedListLemmas.{any_none, none_by_place, second, first, other, at_swapped, at_taken, at_pushed, kept_at, swapped_to, swapped_from, distinct-swap}

module _ {X : Type 0} (entries : List (Entity × X)) (once : HasEachOnce entries) where
  -- one more entry
  module _ (e : Entity) (x : X) (fresh : has_index entries e.index ≡ false) where
    no_such : (k : ℕ) (entry : Entity × X) → slice_get entries k ≡ Some entry → entry.0.index ≢ e.index
    no_such k entry h same = both_ways (eqb entry.0.index e.index) (any_none (λ (r : Entity × X). eqb r.0.index e.index) entries fresh k entry h) (eq-eqb entry.0.index e.index same)

    pub once-push : HasEachOnce (entries ++ (e, x) ∷ [])
    once-push i j a b hi hj same =
        elim (at_pushed entries (e, x) i a hi) [
          | inl old ↦ elim (at_pushed entries (e, x) j b hj) [
            | inl old' ↦ once i j a b old old' same
            | inr new ↦ absurd (no_such i a old (same ∙ ap (λ (r : Entity × X). r.0.index) new.1))
          ]
          | inr new ↦ elim (at_pushed entries (e, x) j b hj) [
            | inl old' ↦ absurd (no_such j b old' (sym same ∙ ap (λ (r : Entity × X). r.0.index) new.1))
            | inr new' ↦ new.0 ∙ sym new'.0
          ]
        ]

    pub map_of-push : map_of (entries ++ (e, x) ∷ []) ≡ put (map_of entries) e x
    map_of-push =
        equal_lookups _ _ (ascending-map_of (entries ++ (e, x) ∷ [])) (ascending-put (map_of entries) e x (ascending-map_of entries)) (λ q.
        get-map_of (entries ++ (e, x) ∷ []) q once-push ∙ lookup-append (is_same q) entries ((e, x) ∷ []) ∙ each q)
      where
        each : (q : Entity) → option_or (get entries q) (cond (is_same q e) (Some x) None) ≡ get (put (map_of entries) e x) q
        each q =
            elim (cases_Bool (is_same q e)) [
              | inl same ↦
                  let is : q ≡ e = same_true q e same in
                  let gone : get entries q ≡ None = get_none entries q (λ k y h. no_such k (q, y) h (ap (λ (v : Entity). v.index) is)) in
                  ap₂ (λ o b. option_or o (cond b (Some x) None)) gone same ∙ sym (ap (get (put (map_of entries) e x)) is ∙ get-put_same (map_of entries) e x)
              | inr differ ↦ ap (λ b. option_or (get entries q) (cond b (Some x) None)) differ ∙ beside (get entries q) ∙ elim (cases_eq q.index e.index) [
                | inl index ↦ get_none entries q (λ k y h. no_such k (q, y) h index) ∙ sym (get-put_version (map_of entries) e x q index differ)
                | inr apart ↦ sym (get-put_other (map_of entries) e x q apart ∙ get-map_of entries q once)
              ]
            ]

  -- two entries exchanged
  module _ (i j : ℕ) (a b : Entity × X) (hi : slice_get entries i ≡ Some a) (hj : slice_get entries j ≡ Some b) where
    once-swap : HasEachOnce (swap entries i j)
    once-swap = distinct-swap (λ (entry : Entity × X). entry.0.index) entries once i j a b hi hj

    pub map_of-swap : map_of (swap entries i j) ≡ map_of entries
    map_of-swap =
        equal_lookups _ _ (ascending-map_of (swap entries i j)) (ascending-map_of entries) (λ q.
        get-map_of (swap entries i j) q once-swap
        ∙ get_alike (swap entries i j) entries q once-swap once (λ k y h. let from = swapped_from entries i j a b hi hj k (q, y) h in (from.0, from.1)) (λ k y h. let to = swapped_to entries i j a b hi hj k (q, y) h in (to.0, to.1))
        ∙ sym (get-map_of entries q once))

  -- swap-and-pop
  module _ (place : ℕ) (e : Entity) (x : X) (last : Entity × X) (here : slice_get entries place ≡ Some (e, x)) (end : slice_get entries (length entries - 1) ≡ Some last) where
    -- where a entry that stays stood before: it is another one
    stood : (k : ℕ) (entry : Entity × X) → slice_get (swap_popped entries place) k ≡ Some entry → (n : ℕ) × (slice_get entries n ≡ Some entry) × (n ≢ place) × (n ≡ cond (eqb k place) (length entries - 1) k)
    stood k entry h =
        let m = length entries - 1 in
        let part = at_taken m (swap entries place m) k entry h in
        let low : k < m = part.0 in
        elim (at_swapped entries place m (e, x) last here end k entry part.1) [
          | second at is ↦ absurd (omega arith)
          | first apart at is ↦ (m, end ∙ ap (λ (v : Entity × X). Some v) (sym is), (λ same. omega arith), sym (ap (λ b. cond b m k) (eq-eqb k place at)))
          | other apart apart' old ↦ (k, old, apart', sym (ap (λ b. cond b m k) (ne_eqb k place apart')))
        ]

    pub once-swap_popped : HasEachOnce (swap_popped entries place)
    once-swap_popped i j a b hi hj same =
        let m = length entries - 1 in
        let si = stood i a hi in
        let sj = stood j b hj in
        let low_i : i < m = (at_taken m (swap entries place m) i a hi).0 in
        let low_j : j < m = (at_taken m (swap entries place m) j b hj).0 in
        let one : si.0 ≡ sj.0 = once si.0 sj.0 a b si.1 sj.1 same in
        unpicked i j place m si.0 low_i low_j si.3 (one ∙ sj.3)
      where
        unpicked : (i j p m n : ℕ) → i < m → j < m → n ≡ cond (eqb i p) m i → n ≡ cond (eqb j p) m j → i ≡ j
        unpicked i j p m n li lj hi hj = grind (arith, nat_tests)

    pub map_of-swap_popped : map_of (swap_popped entries place) ≡ remove (map_of entries) e
    map_of-swap_popped =
        equal_lookups _ _ (ascending-map_of (swap_popped entries place)) (ascending-remove (map_of entries) e (ascending-map_of entries)) (λ q.
        get-map_of (swap_popped entries place) q once-swap_popped ∙ each q)
      where
        each : (q : Entity) → get (swap_popped entries place) q ≡ get (remove (map_of entries) e) q
        each q =
            elim (cases_Bool (is_same e q)) [
              | inl same ↦
                  let is : e ≡ q = same_true e q same in
                  get_none (swap_popped entries place) q (λ k y h. let s = stood k (q, y) h in
                  s.2 (once s.0 place (q, y) (e, x) s.1 here (ap (λ (v : Entity). v.index) (sym is))))
                  ∙ sym (ap (get (remove (map_of entries) e)) (sym is) ∙ get-remove_same (map_of entries) e)
              | inr differ ↦
                  get_alike (swap_popped entries place) entries q once-swap_popped once
                  (λ k y h. let s = stood k (q, y) h in (s.0, s.1))
                  (λ k y h. stays k (q, y) h (λ at. both_ways (is_same e q) differ
                  (let is : e ≡ q = ap (λ (r : Entity × X). r.0) (same_Some (e, x) (q, y) (sym here ∙ ap (slice_get entries) (sym at) ∙ h)) in ap (is_same e) (sym is) ∙ same_itself e)))
                  ∙ sym (get-remove_other (map_of entries) e q differ ∙ get-map_of entries q once)
            ]
          where
            stays : (k : ℕ) (entry : Entity × X) → slice_get entries k ≡ Some entry → k ≢ place → (n : ℕ) × (slice_get (swap_popped entries place) n ≡ Some entry)
            stays k entry h apart = kept_at entries place k (length entries - 1) entry last (slice_get_within entries place (e, x) here) (slice_get_within entries k entry h) refl h end apart

-- one value set
get-with_value_other : {X : Type 0} (entries : List (Entity × X)) (e q : Entity) (v : X) → is_same e q ≡ false → get (with_value entries e v) q ≡ get entries q
get-with_value_other [] e q v h = refl
get-with_value_other {X = X} ((k, y) ∷ entries) e q v h =
    elim (cases_Bool (is_same q k)) [
      | inl same ↦
          let not_e : is_same e k ≡ false = ap (is_same e) (sym (same_true q k same)) ∙ h in
          ap₂ (λ b z. cond b (Some z) (get (with_value entries e v) q)) same (ap (λ b. cond b v y) not_e) ∙ sym (ap (λ b. cond b (Some y) (get entries q)) same)
      | inr differ ↦
          ap (λ b. cond b (Some (cond (is_same e k) v y)) (get (with_value entries e v) q)) differ ∙ get-with_value_other entries e q v h ∙ sym (ap (λ b. cond b (Some y) (get entries q)) differ)
    ]

get-with_value_same : {X : Type 0} (entries : List (Entity × X)) (e : Entity) (x v : X) → get entries e ≡ Some x → get (with_value entries e v) e ≡ Some v
get-with_value_same [] e x v h = absurd (none-some x h)
get-with_value_same {X = X} ((k, y) ∷ entries) e x v h =
    elim (cases_Bool (is_same e k)) [
      | inl same ↦ ap₂ (λ b z. cond b (Some z) (get (with_value entries e v) e)) same (ap (λ b. cond b v y) same)
      | inr differ ↦
          ap (λ b. cond b (Some (cond (is_same e k) v y)) (get (with_value entries e v) e)) differ
          ∙ get-with_value_same entries e x v (sym (ap (λ b. cond b (Some y) (get entries e)) differ) ∙ h)
    ]

pub keys-with_value : {X : Type 0} (entries : List (Entity × X)) (e : Entity) (v : X) → keys (with_value entries e v) ≡ keys entries
keys-with_value [] e v = refl
keys-with_value ((k, y) ∷ entries) e v = ap (λ ks. k ∷ ks) (keys-with_value entries e v)

pub key_at : {X : Type 0} (entries : List (Entity × X)) (i : ℕ) (entry : Entity × X) → slice_get entries i ≡ Some entry → slice_get (keys entries) i ≡ Some entry.0
key_at {X = X} entries i entry h = slice_get-map (λ (r : Entity × X). r.0) entries i ∙ ap (option_map (λ (r : Entity × X). r.0)) h

at_key : {X : Type 0} (entries : List (Entity × X)) (i : ℕ) (e : Entity) → slice_get (keys entries) i ≡ Some e → (x : X) × (slice_get entries i ≡ Some (e, x))
at_key [] i e h = absurd (none-some e h)
at_key {X = X} ((k, y) ∷ entries) zero e h = (y, ap (λ (v : Entity). Some (v, y)) (same_Some k e h))
at_key (entry ∷ entries) (suc i) e h = at_key entries i e h

-- no identifier's index comes twice where no entry's does, and the other way round
pub distinct_keys : {X : Type 0} (entries : List (Entity × X)) → HasEachOnce entries → AreDistinctBy (λ (e : Entity). e.index) (keys entries)
distinct_keys entries once i j a b hi hj same =
    let at_i = at_key entries i a hi in
    let at_j = at_key entries j b hj in
    once i j (a, at_i.0) (b, at_j.0) at_i.1 at_j.1 same

pub once_from_keys : {X : Type 0} (entries : List (Entity × X)) → AreDistinctBy (λ (e : Entity). e.index) (keys entries) → HasEachOnce entries
once_from_keys entries distinct i j a b hi hj same = distinct i j a.0 b.0 (key_at entries i a hi) (key_at entries j b hj) same

-- entries with the keys of others
pub once_by_keys : {X Y : Type 0} (entries : List (Entity × X)) (others : List (Entity × Y)) → keys others ≡ keys entries → HasEachOnce entries → HasEachOnce others
once_by_keys {X = X} entries others same once i j a b hi hj index =
    let ki = at_key entries i a.0 (ap (λ ks. slice_get ks i) (sym same) ∙ key_at others i a hi) in
    let kj = at_key entries j b.0 (ap (λ ks. slice_get ks j) (sym same) ∙ key_at others j b hj) in
    once i j (a.0, ki.0) (b.0, kj.0) ki.1 kj.1 index

pub map_of-with_value : {X : Type 0} (entries : List (Entity × X)) → HasEachOnce entries → (e : Entity) (x v : X) → get entries e ≡ Some x → map_of (with_value entries e v) ≡ put (map_of entries) e v
map_of-with_value {X = X} entries once e x v h =
    let once' : HasEachOnce (with_value entries e v) = once_by_keys entries (with_value entries e v) (keys-with_value entries e v) once in
    let at = get_at entries e x h in
    equal_lookups _ _ (ascending-map_of (with_value entries e v)) (ascending-put (map_of entries) e v (ascending-map_of entries)) (λ q.
    get-map_of (with_value entries e v) q once' ∙ elim (cases_Bool (is_same e q)) [
      | inl same ↦
          let is : e ≡ q = same_true e q same in
          ap (get (with_value entries e v)) (sym is) ∙ get-with_value_same entries e x v h ∙ sym (ap (get (put (map_of entries) e v)) (sym is) ∙ get-put_same (map_of entries) e v)
      | inr differ ↦ get-with_value_other entries e q v differ ∙ elim (cases_eq q.index e.index) [
        | inl index ↦ get_none entries q (λ k y g.
            let one : k ≡ at.0 = once k at.0 (q, y) (e, x) g at.1 index in
            let is : q ≡ e = ap (λ (r : Entity × X). r.0) (same_Some (q, y) (e, x) (sym g ∙ ap (slice_get entries) one ∙ at.1)) in
            both_ways (is_same e q) differ (ap (is_same e) is ∙ same_itself e)) ∙ sym (get-put_version (map_of entries) e v q index (turned e q differ))
        | inr apart ↦ sym (get-put_other (map_of entries) e v q apart ∙ get-map_of entries q once)
      ]
    ])
  where
    turned : (e q : Entity) → is_same e q ≡ false → is_same q e ≡ false
    turned e q h = elim (cases_Bool (is_same q e)) [
      | inr d ↦ d
      | inl s ↦ absurd (both_ways (is_same e q) h (ap (is_same e) (same_true q e s) ∙ same_itself e))
    ]

pub map_of-with_contained : {X : Type 0} (entries : List (Entity × X)) (e : Entity) (v : X) → HasEachOnce entries → contains entries e ≡ true → map_of (with_value entries e v) ≡ put (map_of entries) e v
map_of-with_contained entries e v once h = elim (get entries e) as (λ o. get entries e ≡ o → is_some o ≡ true → map_of (with_value entries e v) ≡ put (map_of entries) e v) [
  | None ↦ λ k g. absurd (both_ways false refl g)
  | Some x ↦ λ k g. map_of-with_value entries once e x v k
] refl h

pub map_of-swap_within : {X : Type 0} (entries : List (Entity × X)) → HasEachOnce entries → (i j : ℕ) → i < length entries → j < length entries → map_of (swap entries i j) ≡ map_of entries
map_of-swap_within [] once i j li lj = absurd (omega arith)
map_of-swap_within (entry ∷ entries) once i j li lj = map_of-swap (entry ∷ entries) once i j _ _ (slice_get-get_or (entry ∷ entries) i entry li) (slice_get-get_or (entry ∷ entries) j entry lj)

-- an index has an entry in the map where it has one in the list
has_index-filter : {X : Type 0} (p : Entity × X → Bool) (m : ℕ) → ((entry : Entity × X) → entry.0.index ≡ m → p entry ≡ true) → (entries : List (Entity × X)) → has_index (filter p entries) m ≡ has_index entries m
has_index-filter p m h [] = refl
has_index-filter p m h (entry ∷ entries) =
    elim (p entry) as (λ b. p entry ≡ b → has_index (cond b (entry ∷ filter p entries) (filter p entries)) m ≡ has_index (entry ∷ entries) m) [
      | true ↦ λ k. ap (λ b. eqb entry.0.index m || b) (has_index-filter p m h entries)
      | false ↦ λ k. has_index-filter p m h entries ∙ ap (λ b. b || has_index entries m) (sym (ne_eqb entry.0.index m (λ same. both_ways (p entry) k (h entry same))))
    ] refl

has_index-gone : {X : Type 0} (p : Entity × X → Bool) (m : ℕ) → ((entry : Entity × X) → entry.0.index ≡ m → p entry ≡ false) → (entries : List (Entity × X)) → has_index (filter p entries) m ≡ false
has_index-gone p m h [] = refl
has_index-gone p m h (entry ∷ entries) =
    elim (p entry) as (λ b. p entry ≡ b → has_index (cond b (entry ∷ filter p entries) (filter p entries)) m ≡ false) [
      | true ↦ λ k. ap (λ b. b || has_index (filter p entries) m) (ne_eqb entry.0.index m (λ same. both_ways (p entry) (h entry same) k)) ∙ has_index-gone p m h entries
      | false ↦ λ k. has_index-gone p m h entries
    ] refl

has_index-append : {X : Type 0} (xs ys : List (Entity × X)) (m : ℕ) → has_index (xs ++ ys) m ≡ (has_index xs m || has_index ys m)
has_index-append [] ys m = refl
has_index-append (x ∷ xs) ys m = ap (λ b. eqb x.0.index m || b) (has_index-append xs ys m) ∙ sym (or_assoc (eqb x.0.index m) (has_index xs m) (has_index ys m))
  where
    or_assoc : (a b c : Bool) → (a || b || c) ≡ (a || (b || c))
    or_assoc true b c = refl
    or_assoc false b c = refl

has_index-put : {X : Type 0} (entries : List (Entity × X)) (e : Entity) (x : X) (m : ℕ) → has_index (put entries e x) m ≡ (eqb e.index m || has_index entries m)
has_index-put {X = X} entries e x m =
    let below : List (Entity × X) = filter (λ k. ltb k.0.index e.index) entries in
    let above : List (Entity × X) = filter (λ k. ltb e.index k.0.index) entries in
    has_index-append below ((e, x) ∷ above) m ∙ elim (cases_order m e.index) [
      | inl same ↦
          let here : eqb e.index m ≡ true = eq-eqb e.index m (sym same) in
          ap (λ b. has_index below m || (b || has_index above m)) here ∙ or_true (has_index below m) ∙ sym (ap (λ b. b || has_index entries m) here)
      | inr (inl less) ↦
          let not_here : eqb e.index m ≡ false = ne_eqb e.index m (λ same. omega arith) in
          ap (λ b. has_index below m || (b || has_index above m)) not_here
          ∙ ap₂ (λ a b. a || b) (has_index-filter (λ (k : Entity × X). ltb k.0.index e.index) m (λ k is. lt-ltb k.0.index e.index (omega arith)) entries) (has_index-gone (λ (k : Entity × X). ltb e.index k.0.index) m (λ k is. le-ltb e.index k.0.index (omega arith)) entries)
          ∙ or_false (has_index entries m) ∙ sym (ap (λ b. b || has_index entries m) not_here)
      | inr (inr more) ↦
          let not_here : eqb e.index m ≡ false = ne_eqb e.index m (λ same. omega arith) in
          ap (λ b. has_index below m || (b || has_index above m)) not_here
          ∙ ap₂ (λ a b. a || b) (has_index-gone (λ (k : Entity × X). ltb k.0.index e.index) m (λ k is. le-ltb k.0.index e.index (omega arith)) entries) (has_index-filter (λ (k : Entity × X). ltb e.index k.0.index) m (λ k is. lt-ltb e.index k.0.index (omega arith)) entries)
          ∙ sym (ap (λ b. b || has_index entries m) not_here)
    ]
  where
    or_true : (b : Bool) → (b || true) ≡ true
    or_true true = refl
    or_true false = refl

    or_false : (b : Bool) → (b || false) ≡ b
    or_false true = refl
    or_false false = refl

pub has_index-map_of : {X : Type 0} (entries : List (Entity × X)) (m : ℕ) → has_index (map_of entries) m ≡ has_index entries m
has_index-map_of [] m = refl
has_index-map_of (entry ∷ entries) m = has_index-put (map_of entries) entry.0 entry.1 m ∙ ap (λ b. eqb entry.0.index m || b) (has_index-map_of entries m)

-- an entry of a new index makes the map one longer
lengths-split : {X : Type 0} (n : ℕ) (entries : List (Entity × X)) → has_index entries n ≡ false → length (filter (λ k. ltb k.0.index n) entries) + length (filter (λ k. ltb n k.0.index) entries) ≡ length entries
lengths-split n [] fresh = refl
lengths-split {X = X} n (entry ∷ entries) fresh =
    let apart : entry.0.index ≢ n = λ same. both_ways (eqb entry.0.index n) (or_first (eqb entry.0.index n) (has_index entries n) fresh) (eq-eqb entry.0.index n same) in
    let rest = lengths-split n entries (or_second (eqb entry.0.index n) (has_index entries n) fresh) in
    let below : List (Entity × X) = filter (λ k. ltb k.0.index n) entries in
    let above : List (Entity × X) = filter (λ k. ltb n k.0.index) entries in
    elim (cases_order entry.0.index n) [
      | inl same ↦ absurd (apart same)
      | inr (inl less) ↦
          ap₂ (λ a b. length (cond a (entry ∷ below) below) + length (cond b (entry ∷ above) above)) (lt-ltb entry.0.index n less) (le-ltb n entry.0.index (omega arith))
          ∙ (let z : suc (length below) + length above ≡ suc (length entries) = omega arith in z)
      | inr (inr more) ↦
          ap₂ (λ a b. length (cond a (entry ∷ below) below) + length (cond b (entry ∷ above) above)) (le-ltb entry.0.index n (omega arith)) (lt-ltb n entry.0.index more)
          ∙ (let z : length below + suc (length above) ≡ suc (length entries) = omega arith in z)
    ]
  where
    or_first : (a b : Bool) → (a || b) ≡ false → a ≡ false
    or_first false b h = refl
    or_first true b h = h

    or_second : (a b : Bool) → (a || b) ≡ false → b ≡ false
    or_second false b h = h
    or_second true b h = absurd (both_ways true h refl)

length-put : {X : Type 0} (entries : List (Entity × X)) (e : Entity) (x : X) → has_index entries e.index ≡ false → length (put entries e x) ≡ suc (length entries)
length-put {X = X} entries e x fresh =
    let below : List (Entity × X) = filter (λ k. ltb k.0.index e.index) entries in
    let above : List (Entity × X) = filter (λ k. ltb e.index k.0.index) entries in
    length-append below ((e, x) ∷ above) ∙ (let z : length below + suc (length above) ≡ suc (length entries) = omega (arith, lengths-split e.index entries fresh) in z)

-- the map has as many entries as the list
pub length-map_of : {X : Type 0} (entries : List (Entity × X)) → HasEachOnce entries → length (map_of entries) ≡ length entries
length-map_of [] once = refl
length-map_of {X = X} (entry ∷ entries) once =
    let fresh : has_index entries entry.0.index ≡ false = none_by_place (λ (k : Entity × X). eqb k.0.index entry.0.index) entries (λ k y h. ne_eqb y.0.index entry.0.index (λ same. let z : suc k ≡ 0 = once (suc k) 0 y entry h refl same in omega arith)) in
    length-put (map_of entries) entry.0 entry.1 (has_index-map_of entries entry.0.index ∙ fresh) ∙ ap suc (length-map_of entries (rest_once entry entries once))
