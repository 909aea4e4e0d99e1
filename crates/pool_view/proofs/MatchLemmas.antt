-- What a walk gives: the identifiers that match, each once.
use Rattle.std.proofs.Common.{◌≡◌, ℕ, zero, suc, ◌<◌, true, false, not, ◌&&◌, ◌||◌, List, [], ◌∷◌, get_or, reverse, length, Some, slice_get, sym, refl, ap, ap₂, ◌∙◌, subst, inl, inr, arith}
use Rattle.std.specs.List.{list_all, list_any, AllZip, remove}
use Rattle.std.specs.List.Sorted.{IsPermutation}
use Rattle.std.proofs.lemmas.Bool.{cases_Bool, false≢true, false_from_ne_true, or_left, and_parts}
use Rattle.std.proofs.lemmas.List.{get_or-map, length-map}
use Rattle.std.proofs.lemmas.List.Elements.{AllZip-get_or, length_all_zip}
use Rattle.std.proofs.lemmas.List.Sorted.{list_any-IsPermutation, IsPermutation-refl, IsPermutation-sym, IsPermutation-trans, IsPermutation-cons, IsPermutation-remove, IsPermutation-reverse}
use Rattle.std.proofs.lemmas.Option.{slice_get_within, slice_get-get_or, get_or_from_slice_get}
use Rattle.entity_id.specs.declared.entity.Entity.{Entity}
use Rattle.entity_id.specs.Identifiers.{is_same}
use Rattle.entity_id.specs.Matching.{is_in, is_match, matches}
use Rattle.entity_id.proofs.MapLemmas.{same_itself, same_true}
use Rattle.entity_id.proofs.MatchLemmas.{any-filter_is, any-matches}
use Rattle.entity_id.proofs.PackedListLemmas.{distinct-permutation, none_by_place}
use Rattle.sparse_set.specs.PackedSets.{contains, AreDistinct}
use Rattle.pool_view.specs.ViewedSets.{ViewedSets, is_in_all, is_in_one, is_viewed, leading_place, leading_set, walk_of}
use Rattle.pool_view.specs.ViewedPools.{maps_of, ViewsPools}
use Rattle.pool_view.proofs.LeadingLemmas.{all_at_place, leading_within}
use Rattle.pool_view.proofs.WalkLemmas.{distinct_tail, distinct-filter, distinct_walk}

-- ---- lists without an index twice in which the same identifiers stand

stands : (e : Entity) (es : List Entity) → list_any (is_same e) es ≡ true → (k : ℕ) × (slice_get es k ≡ Some e)
stands e [] is = absurd (false≢true is)
stands e (f ∷ es) is =
    elim (cases_Bool (is_same e f)) [
      | inl same ↦ (zero, ap Some (sym (same_true e f same)))
      | inr other ↦ let found = stands e es (ap (λ b. b || list_any (is_same e) es) (sym other) ∙ is) in (suc found.0, found.1)
    ]

absent : (e : Entity) (es : List Entity) → AreDistinct (e ∷ es) → list_any (is_same e) es ≡ false
absent e es h = none_by_place (is_same e) es (λ k f at. false_from_ne_true (is_same e f) (λ same.
    let place : 0 ≡ suc k = h zero (suc k) e f refl at (ap (λ (v : Entity). v.index) (same_true e f same)) in
    omega (arith, place)))

-- of the identifiers behind a first one the same stand in both
same_behind : (x : Entity) (xs ys : List Entity) → AreDistinct (x ∷ xs) → AreDistinct (x ∷ ys) → (e : Entity) → list_any (is_same e) (x ∷ xs) ≡ list_any (is_same e) (x ∷ ys) → list_any (is_same e) xs ≡ list_any (is_same e) ys
same_behind x xs ys dx dy e same =
    elim (cases_Bool (is_same e x)) [
      | inl is ↦ subst (λ f. list_any (is_same f) xs ≡ list_any (is_same f) ys) (sym (same_true e x is)) (absent x xs dx ∙ sym (absent x ys dy))
      | inr other ↦ ap (λ b. b || list_any (is_same e) xs) (sym other) ∙ same ∙ ap (λ b. b || list_any (is_same e) ys) other
    ]

same_members : (xs ys : List Entity) → AreDistinct xs → AreDistinct ys → ((e : Entity) → list_any (is_same e) xs ≡ list_any (is_same e) ys) → IsPermutation xs ys
same_members [] [] dx dy same = IsPermutation-refl []
same_members [] (y ∷ ys) dx dy same = absurd (false≢true (same y ∙ or_left _ _ (same_itself y)))
same_members (x ∷ xs) ys dx dy same =
    let found = stands x ys (sym (same x) ∙ or_left _ _ (same_itself x)) in
    let rest : List Entity = remove ys found.0 in
    let moved : IsPermutation ys (x ∷ rest) = IsPermutation-remove ys found.0 x (slice_get_within ys found.0 x found.1) (sym (get_or_from_slice_get ys found.0 x x found.1)) in
    let distinct : AreDistinct (x ∷ rest) = distinct-permutation (λ (e : Entity). e.index) ys (x ∷ rest) moved dy in
    let behind : IsPermutation xs rest = same_members xs rest (distinct_tail _ x xs dx) (distinct_tail _ x rest distinct)
    (λ e. same_behind x xs rest dx distinct e (same e ∙ list_any-IsPermutation (is_same e) ys (x ∷ rest) moved)) in
    IsPermutation-trans _ _ _ (IsPermutation-cons x xs rest behind) (IsPermutation-sym _ _ moved)

-- ---- what a walk gives is what the view contains

pub leading_stands : (sets : List (List Entity)) → 0 < length sets → slice_get sets (leading_place sets) ≡ Some (leading_set sets)
leading_stands sets some = slice_get-get_or sets (leading_place sets) [] (leading_within sets some)

pub walk_contains : (view : ViewedSets) (e : Entity) → 0 < length view.included → contains (walk_of view) e ≡ is_viewed view e
walk_contains view e some =
    any-filter_is e (is_viewed view) (reverse (leading_set view.included)) (λ viewed.
    sym (list_any-IsPermutation (is_same e) _ _ (IsPermutation-reverse (leading_set view.included)))
    ∙ all_at_place (λ set. contains set e) view.included (leading_place view.included) (leading_set view.included) (and_parts _ _ viewed).0 (leading_stands view.included some))

-- ---- views of pools

all_permuted : (xs ys : List (List Entity)) (e : Entity) → AllZip IsPermutation xs ys → is_in_all ys e ≡ is_in_all xs e
all_permuted [] [] e h = refl
all_permuted [] (y ∷ ys) e h = absurd h
all_permuted (x ∷ xs) [] e h = absurd h
all_permuted (x ∷ xs) (y ∷ ys) e h = ap₂ (λ a b. a && b) (sym (list_any-IsPermutation (is_same e) x y h.0)) (all_permuted xs ys e h.1)

one_permuted : (xs ys : List (List Entity)) (e : Entity) → AllZip IsPermutation xs ys → is_in_one ys e ≡ is_in_one xs e
one_permuted [] [] e h = refl
one_permuted [] (y ∷ ys) e h = absurd h
one_permuted (x ∷ xs) [] e h = absurd h
one_permuted (x ∷ xs) (y ∷ ys) e h = ap₂ (λ a b. a || b) (sym (list_any-IsPermutation (is_same e) x y h.0)) (one_permuted xs ys e h.1)

in_all_maps : (maps : List (List Entity)) (pools : List ℕ) (e : Entity) → is_in_all (maps_of maps pools) e ≡ list_all (is_in maps e) pools
in_all_maps maps [] e = refl
in_all_maps maps (pool ∷ pools) e = ap (λ b. is_in maps e pool && b) (in_all_maps maps pools e)

in_one_maps : (maps : List (List Entity)) (pools : List ℕ) (e : Entity) → is_in_one (maps_of maps pools) e ≡ list_any (is_in maps e) pools
in_one_maps maps [] e = refl
in_one_maps maps (pool ∷ pools) e = ap (λ b. is_in maps e pool || b) (in_one_maps maps pools e)

pub viewed_matches : (maps : List (List Entity)) (all none : List ℕ) (view : ViewedSets) (e : Entity) → ViewsPools maps all none view → is_viewed view e ≡ is_match maps all none e
viewed_matches maps all none view e h =
    ap₂ (λ a b. a && not b)
    (all_permuted (maps_of maps all) view.included e h.included ∙ in_all_maps maps all e)
    (one_permuted (maps_of maps none) view.excluded e h.excluded ∙ in_one_maps maps none e)

leading_distinct : (maps : List (List Entity)) (all : List ℕ) (sets : List (List Entity)) → AllZip IsPermutation (maps_of maps all) sets → 0 < length sets → ((pool : ℕ) → AreDistinct (get_or maps pool [])) → AreDistinct (leading_set sets)
leading_distinct maps all sets h some distinct =
    let k = leading_place sets in
    let pick = λ (pool : ℕ). get_or maps pool [] in
    let low : k < length all = omega (arith, leading_within sets some, length_all_zip IsPermutation (maps_of maps all) sets h, length-map all pick) in
    let map_is : get_or (maps_of maps all) k [] ≡ pick (get_or all k 0) = get_or-map pick all k 0 [] low in
    let permuted : IsPermutation (get_or (maps_of maps all) k []) (leading_set sets) = AllZip-get_or IsPermutation (maps_of maps all) sets k [] [] h (omega (arith, low, length-map all pick)) in
    distinct-permutation (λ (e : Entity). e.index) (get_or (maps_of maps all) k []) (leading_set sets) permuted (subst AreDistinct (sym map_is) (distinct (get_or all k 0)))

pub walk_matches : (maps : List (List Entity)) (first : ℕ) (rest none : List ℕ) (view : ViewedSets) → ViewsPools maps (first ∷ rest) none view → ((pool : ℕ) → AreDistinct (get_or maps pool [])) → IsPermutation (walk_of view) (matches maps (first ∷ rest) none)
walk_matches maps first rest none view h distinct =
    let some : 0 < length view.included = omega (arith, length_all_zip IsPermutation (maps_of maps (first ∷ rest)) view.included h.included) in
    same_members (walk_of view) (matches maps (first ∷ rest) none)
    (distinct_walk (is_viewed view) (leading_set view.included) (leading_distinct maps (first ∷ rest) view.included h.included some distinct))
    (distinct-filter (λ (e : Entity). e.index) (is_match maps (first ∷ rest) none) (get_or maps first []) (distinct first))
    (λ e. walk_contains view e some ∙ viewed_matches maps (first ∷ rest) none view e h ∙ sym (any-matches maps first rest none e))
