-- Where packed lists go, pool by pool.
use Rattle.std.proofs.Common.{◌≡◌, ℕ, suc, ◌+◌, ◌-◌, ◌<◌, ◌≤◌, Bool, true, false, ◌&&◌, cond, List, [], ◌∷◌, ◌++◌, map, reverse, get_or, set, length, Option, Some, None, slice_get, sym, refl, ap, ◌∙◌, subst, inl, inr, arith, Result, Ok, Err, OnErr, IfSome}
use Rattle.std.specs.Option.{option_map, option_map_or}
use Rattle.std.specs.Prelude.{◌==◌, not, is_some, filter}
use Rattle.std.specs.List.{list_any, range_with_len}
use Rattle.std.specs.Result.{result_ok}
use Rattle.std.proofs.Math.ListN.{get_or-map, get_or-eq_default}
use Rattle.std.proofs.lemmas.Bool.{cases_eq, ne_eqb, or_parts}
use Rattle.std.proofs.lemmas.List.{map-set, set-get_or, length-map, reverse-append, get_or-set_same, get_or-set_other}
use Rattle.std.proofs.lemmas.List.Elements.{filter-append}
use Rattle.std.proofs.lemmas.List.Folds.{list_any-append}
use Rattle.std.proofs.lemmas.Option.{slice_get-map, slice_get_within, get_or_from_slice_get}
use Rattle.entity_id.specs.declared.entity.Entity.{Entity}
use Rattle.entity_id.specs.FiniteMap as entries
use Rattle.entity_id.specs.Identifiers.{is_same}
use Rattle.entity_id.specs.Matching.{is_in}
use Rattle.entity_id.specs.PackedLists.{place_of, swap_popped}
use Rattle.entity_id.proofs.PackedListLemmas.{any_by_position}
use Rattle.storage.specs.Stored.{Stored}
use Rattle.world_model.specs.declared.component.Row.{Row}
use Rattle.world_model.specs.Groups.{packed_at}
use Rattle.group_engine.specs.Grouped.{packed_of}
use Rattle.group_engine.specs.Grouped.{AreStill, moves}
use Rattle.world_model.specs.declared.command.Command.{Command}
use Rattle.world_model.specs.declared.group.GroupDecl.{GroupDecl}
use Rattle.registry.specs.Held.{Held}
use Rattle.registry.specs.Leaving.{pools_with}
use Rattle.registry.specs.Packing.{popped, appended_in, popped_in, packed_after, Repacks, regroups}
use Rattle.registry.proofs.ViewLemmas.{any_keys}

abbrev keys_in : Stored Row → List Entity
keys_in stored = entries.keys stored.pairs

-- the packed list of a pool
pub packed_here : (pools : List (Stored Row)) (pool : ℕ) (p : Stored Row) → slice_get pools pool ≡ Some p → packed_at (packed_of pools) pool ≡ entries.keys p.pairs
packed_here pools pool p hp = get_or_from_slice_get (packed_of pools) pool (entries.keys p.pairs) [] (slice_get-map keys_in pools pool ∙ ap (option_map keys_in) hp)

-- one pool changed, and its packed list stays
pub packed_stays : (pools : List (Stored Row)) (pool : ℕ) (p p' : Stored Row) → slice_get pools pool ≡ Some p → entries.keys p'.pairs ≡ entries.keys p.pairs → packed_of (set pools pool p') ≡ packed_of pools
packed_stays pools pool p p' hp is =
    map-set keys_in pools pool p' ∙ ap (set (packed_of pools) pool) (is ∙ sym (packed_here pools pool p hp)) ∙ set-get_or (packed_of pools) pool []

-- one identifier stands behind it
pub packed_appended : (pools : List (Stored Row)) (pool : ℕ) (p p' : Stored Row) (e : Entity) → slice_get pools pool ≡ Some p → entries.keys p'.pairs ≡ entries.keys p.pairs ++ e ∷ [] → packed_of (set pools pool p') ≡ appended_in pool e (packed_of pools)
packed_appended pools pool p p' e hp is =
    map-set keys_in pools pool p' ∙ ap (set (packed_of pools) pool) (is ∙ ap (λ list. list ++ e ∷ []) (sym (packed_here pools pool p hp)))

-- one has left it
pub packed_popped : (pools : List (Stored Row)) (pool : ℕ) (p p' : Stored Row) (e : Entity) → slice_get pools pool ≡ Some p → entries.keys p'.pairs ≡ popped e (entries.keys p.pairs) → packed_of (set pools pool p') ≡ popped_in pool e (packed_of pools)
packed_popped pools pool p p' e hp is =
    map-set keys_in pools pool p' ∙ ap (set (packed_of pools) pool) (is ∙ ap (popped e) (sym (packed_here pools pool p hp)))

-- ---- an identifier leaves a packed list, or isn't there

none_contained : {X : Type 0} (pairs : List (Entity × X)) (e : Entity) → place_of (entries.keys pairs) e ≡ None → entries.contains pairs e ≡ false
none_contained pairs e none = sym (any_keys e pairs) ∙ any_by_position (is_same e) (entries.keys pairs) 0 ∙ ap is_some none

absent_of : {X E : Type 0} (r : Result X E) (o : Option X) (P : Type 0) → result_ok r ≡ o → is_some o ≡ false → OnErr r P → P
absent_of (Ok x) o P is none h = cc (ap is_some is)
absent_of (Err x) o P is none h = h

pub keys_popped : {X E : Type 0} (pairs now : List (Entity × X)) (e : Entity) (r : Result X E) → result_ok r ≡ entries.get pairs e → IfSome (place_of (entries.keys pairs) e) (λ place. entries.keys now ≡ swap_popped (entries.keys pairs) place) → OnErr r (now ≡ pairs)
    → entries.keys now ≡ popped e (entries.keys pairs)
keys_popped pairs now e r is here gone = elim (place_of (entries.keys pairs) e) as (λ o. place_of (entries.keys pairs) e ≡ o → IfSome o (λ place. entries.keys now ≡ swap_popped (entries.keys pairs) place) → entries.keys now ≡ option_map_or (swap_popped (entries.keys pairs)) o (entries.keys pairs)) [
  | Some place ↦ λ _ h. h
  | None ↦ λ none _. ap entries.keys (absent_of r (entries.get pairs e) (now ≡ pairs) is (none_contained pairs e none) gone)
] refl here

-- where a list has the identifier, the others stand as if it was swapped and popped
pub where_popped : (list now : List Entity) (e : Entity) → now ≡ popped e list → IfSome (place_of list e) (λ place. now ≡ swap_popped list place)
where_popped list now e is = elim (place_of list e) as (λ o. now ≡ option_map_or (swap_popped list) o list → IfSome o (λ place. now ≡ swap_popped list place)) [
  | Some place ↦ λ h. h
  | None ↦ λ h. tt
] is

-- ---- which packed lists stay

pub all_still : (moved : ℕ → Bool) (old new : List (List Entity)) → new ≡ old → AreStill moved old new
all_still moved old new is = record { still = λ q quiet. ap (λ packed. packed_at packed q) is }

-- those that stay where fewer move stay where more do
pub more_move : (fewer more : ℕ → Bool) (old new : List (List Entity)) → ((q : ℕ) → more q ≡ false → fewer q ≡ false) → AreStill fewer old new → AreStill more old new
more_move fewer more old new within h = record { still = λ q quiet. h.still q (within q quiet) }

-- one list changed, and the others stay as they did
pub still_set : (moved : ℕ → Bool) (old new : List (List Entity)) (pool : ℕ) (l l' : List Entity) → pool < length old → length new ≡ length old → AreStill moved old new → (moved pool ≡ false → l' ≡ l) → AreStill moved (set old pool l) (set new pool l')
still_set moved old new pool l l' low each h is = record {
  still = λ q quiet. elim (cases_eq q pool) [
    | inl at ↦ ap (packed_at (set new pool l')) at ∙ get_or-set_same new pool l' [] (omega (arith, each)) ∙ is (ap moved (sym at) ∙ quiet) ∙ sym (ap (packed_at (set old pool l)) at ∙ get_or-set_same old pool l [] low)
    | inr apart ↦ get_or-set_other new pool q l' [] apart ∙ h.still q quiet ∙ sym (get_or-set_other old pool q l [] apart)
  ];
}

-- an identifier swapped and popped out of one
pub still_popped : (moved : ℕ → Bool) (old new : List (Stored Row)) (pool : ℕ) (p p' : Stored Row) (e : Entity) → slice_get new pool ≡ Some p → length new ≡ length old → AreStill moved (packed_of old) (packed_of new) → entries.keys p'.pairs ≡ popped e (entries.keys p.pairs)
    → AreStill moved (popped_in pool e (packed_of old)) (packed_of (set new pool p'))
still_popped moved old new pool p p' e here each h keys =
    let low : pool < length new = slice_get_within new pool p here in
    let long : length (packed_of new) ≡ length new = length-map new keys_in in
    let before : length (packed_of old) ≡ length old = length-map old keys_in in
    subst (AreStill moved (popped_in pool e (packed_of old))) (sym (map-set keys_in new pool p'))
    (still_set moved (packed_of old) (packed_of new) pool (popped e (packed_at (packed_of old) pool)) (entries.keys p'.pairs) (omega arith) (omega arith) h (λ quiet. keys ∙ ap (popped e) (sym (packed_here new pool p here) ∙ h.still pool quiet)))

-- one list emptied, which itself may have moved before
pub still_emptied : (moved : ℕ → Bool) (old new : List (Stored Row)) (pool : ℕ) (p' : Stored Row) → pool < length old → length new ≡ length old → AreStill moved (packed_of old) (packed_of new) → p'.pairs ≡ []
    → AreStill (λ q. not (pool == q) && moved q) (set (packed_of old) pool []) (packed_of (set new pool p'))
still_emptied moved old new pool p' low each h none =
    let long : length (packed_of new) ≡ length new = length-map new keys_in in
    let before : length (packed_of old) ≡ length old = length-map old keys_in in
    subst (AreStill (λ q. not (pool == q) && moved q) (set (packed_of old) pool [])) (sym (map-set keys_in new pool p' ∙ ap (λ pairs. set (packed_of new) pool (entries.keys pairs)) none)) (record {
      still = λ q quiet. elim (cases_eq q pool) [
        | inl at ↦ ap (packed_at (set (packed_of new) pool [])) at ∙ get_or-set_same (packed_of new) pool [] [] (omega arith) ∙ sym (ap (packed_at (set (packed_of old) pool [])) at ∙ get_or-set_same (packed_of old) pool [] [] (omega arith))
        | inr apart ↦
            get_or-set_other (packed_of new) pool q [] [] apart
            ∙ h.still q (ap (λ b. not b && moved q) (sym (ne_eqb pool q (λ at. apart (sym at)))) ∙ quiet)
            ∙ sym (get_or-set_other (packed_of old) pool q [] [] apart)
      ];
    })

-- an identifier that isn't there
pub not_popped : (pools : List (Stored Row)) (pool : ℕ) (p : Stored Row) (e : Entity) → slice_get pools pool ≡ Some p → entries.contains p.pairs e ≡ false → packed_of pools ≡ popped_in pool e (packed_of pools)
not_popped pools pool p e here none =
    let stays : popped e (packed_at (packed_of pools) pool) ≡ packed_at (packed_of pools) pool = ap (popped e) (packed_here pools pool p here) ∙ none_there p.pairs none ∙ sym (packed_here pools pool p here) in
    sym (ap (set (packed_of pools) pool) stays ∙ set-get_or (packed_of pools) pool [])
  where
    none_there : (pairs : List (Entity × Row)) → entries.contains pairs e ≡ false → popped e (entries.keys pairs) ≡ entries.keys pairs
    none_there pairs absent = elim (place_of (entries.keys pairs) e) as (λ o. is_some o ≡ false → option_map_or (swap_popped (entries.keys pairs)) o (entries.keys pairs) ≡ entries.keys pairs) [
      | Some place ↦ λ h. cc
      | None ↦ λ h. refl
    ] (sym (any_by_position (is_same e) (entries.keys pairs) 0) ∙ any_keys e pairs ∙ absent)

-- whether an identifier is in the packed list of a pool
pub in_here : (pools : List (Stored Row)) (pool : ℕ) (p : Stored Row) (e : Entity) → slice_get pools pool ≡ Some p → is_in (packed_of pools) e pool ≡ entries.contains p.pairs e
in_here pools pool p e here = ap (list_any (is_same e)) (packed_here pools pool p here) ∙ any_keys e p.pairs

-- a command that leaves the packed lists
pub repacks_none : (old new : Held) (command : Command) → packed_after old command ≡ old.packed → new.packed ≡ old.packed → Repacks old new command
repacks_none old new command after is = record { each = ap length is; lists = all_still (regroups old command) (packed_after old command) new.packed (is ∙ sym after) }

-- ---- an identifier leaves one packed list after another

-- the pools from a number on that have a row of an identifier, in descending number
abbrev pub holders_from : List (List (Entity × Row)) → Entity → ℕ → List ℕ
holders_from maps e left = filter (λ pool. entries.contains (get_or maps pool []) e) (reverse (range_with_len left (length maps - left)))

pub one_holder : (maps : List (List (Entity × Row))) (e : Entity) (i : ℕ) → i < length maps → holders_from maps e i ≡ holders_from maps e (i + 1) ++ cond (entries.contains (get_or maps i []) e) (i ∷ []) []
one_holder maps e i low =
    let test = λ (pool : ℕ). entries.contains (get_or maps pool []) e in
    let more : length maps - i ≡ suc (length maps - (i + 1)) = omega arith in
    ap (λ n. filter test (reverse (range_with_len i n))) more
    ∙ ap (filter test) (reverse-append (i ∷ []) (range_with_len (i + 1) (length maps - (i + 1))))
    ∙ filter-append test (reverse (range_with_len (i + 1) (length maps - (i + 1)))) (i ∷ [])

pub no_holder : (maps : List (List (Entity × Row))) (e : Entity) (n : ℕ) → n ≡ length maps → holders_from maps e n ≡ []
no_holder maps e n is = (let none : length maps - n ≡ 0 = omega arith in ap (λ k. filter (λ pool. entries.contains (get_or maps pool []) e) (reverse (range_with_len n k))) none)

pub all_holders : (maps : List (List (Entity × Row))) (e : Entity) (left : ℕ) → left ≡ 0 → holders_from maps e left ≡ pools_with maps e
all_holders maps e left is = ap (holders_from maps e) is ∙ (let all : length maps - 0 ≡ length maps = omega arith in ap (λ k. filter (λ pool. entries.contains (get_or maps pool []) e) (reverse (range_with_len 0 k))) all)

-- it has left those from a number on, the others are as before, and any may move that a group owns which names one that it left
pub record IsPoppedFrom (decls : List GroupDecl) (maps : List (List (Entity × Row))) (e : Entity) (left : ℕ) (packed now : List (List Entity)) : Type 0 where
  pub done : (q : ℕ) → left ≤ q → list_any (λ k. moves decls k q) (holders_from maps e left) ≡ false → packed_at now q ≡ popped e (packed_at packed q)
  pub rest : (q : ℕ) → q < left → list_any (λ k. moves decls k q) (holders_from maps e left) ≡ false → packed_at now q ≡ packed_at packed q

pub none_popped : (decls : List GroupDecl) (maps : List (List (Entity × Row))) (e : Entity) (packed : List (List Entity)) → IsPoppedFrom decls maps e (length packed) packed packed
none_popped decls maps e packed = record {
  done = λ q le _. past q le ∙ sym (ap (popped e) (past q le));
  rest = λ q less _. refl;
}
  where
    past : (q : ℕ) → length packed ≤ q → packed_at packed q ≡ []
    past q le = get_or-eq_default packed [] le

pub one_popped : (decls : List GroupDecl) (maps : List (List (Entity × Row))) (e : Entity) (i : ℕ) (packed now new : List (List Entity)) → i < length maps → i < length now → IsPoppedFrom decls maps e (i + 1) packed now
    → AreStill (λ q. entries.contains (get_or maps i []) e && moves decls i q) (popped_in i e now) new → IsPoppedFrom decls maps e i packed new
one_popped decls maps e i packed now new low within h left = record {
  done = λ q le quiet.
      let parts = both q quiet in
      elim (cases_eq q i) [
        | inl at ↦
            let before : packed_at now i ≡ packed_at packed i = h.rest i (omega arith) (ap (λ n. list_any (λ k. moves decls k n) (holders_from maps e (i + 1))) (sym at) ∙ parts.0) in
            left.still q parts.1 ∙ ap (packed_at (popped_in i e now)) at ∙ get_or-set_same now i (popped e (packed_at now i)) [] within ∙ ap (popped e) before ∙ sym (ap (λ n. popped e (packed_at packed n)) at)
        | inr apart ↦ left.still q parts.1 ∙ get_or-set_other now i q (popped e (packed_at now i)) [] apart ∙ h.done q (omega arith) parts.0
      ];
  rest = λ q less quiet.
      let parts = both q quiet in
      left.still q parts.1 ∙ get_or-set_other now i q (popped e (packed_at now i)) [] (λ at. omega arith) ∙ h.rest q (omega arith) parts.0;
}
  where
    one : (b : Bool) (q : ℕ) → list_any (λ k. moves decls k q) (cond b (i ∷ []) []) ≡ false → (b && moves decls i q) ≡ false
    one true q none = (or_parts (moves decls i q) false none).0
    one false q none = refl

    both : (q : ℕ) → list_any (λ k. moves decls k q) (holders_from maps e i) ≡ false → (list_any (λ k. moves decls k q) (holders_from maps e (i + 1)) ≡ false) × ((entries.contains (get_or maps i []) e && moves decls i q) ≡ false)
    both q quiet =
        let test = λ (k : ℕ). moves decls k q in
        let parts = or_parts (list_any test (holders_from maps e (i + 1))) (list_any test (cond (entries.contains (get_or maps i []) e) (i ∷ []) []))
        (sym (ap (list_any test) (one_holder maps e i low) ∙ list_any-append test (holders_from maps e (i + 1)) (cond (entries.contains (get_or maps i []) e) (i ∷ []) [])) ∙ quiet) in (
          parts.0,
          one (entries.contains (get_or maps i []) e) q parts.1,
        )

pub all_popped : (decls : List GroupDecl) (maps : List (List (Entity × Row))) (e : Entity) (left : ℕ) (packed now : List (List Entity)) → left ≡ 0 → IsPoppedFrom decls maps e left packed now
    → AreStill (λ q. list_any (λ k. moves decls k q) (pools_with maps e)) (map (popped e) packed) now
all_popped decls maps e left packed now none h = record {
  still = λ q quiet. h.done q (omega arith) (ap (list_any (λ k. moves decls k q)) (all_holders maps e left none) ∙ quiet) ∙ sym (get_or-map (popped e) packed q []);
}
