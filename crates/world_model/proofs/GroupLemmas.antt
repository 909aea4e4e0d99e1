-- Groups in packed lists: the computed form says what the lawful one does, and inner groups stand in front of outer ones.
use Rattle.std.proofs.Common.{◌≡◌, ℕ, zero, suc, ◌<◌, Bool, true, not, ◌&&◌, ◌||◌, List, [], ◌∷◌, ◌++◌, take, length, get_or, IsPermutation, sym, refl, ap, ap₂, subst, ◌∙◌, arith}
use Rattle.std.specs.List.{AllByRecursion, list_any, list_all}
use Rattle.std.proofs.lemmas.List.{length-take-le}
use Rattle.std.proofs.lemmas.List.Elements.{filter_agree, filter_passes, recursion_from_All}
use Rattle.std.proofs.lemmas.List.Sorted.{IsPermutation-refl, IsPermutation-sym, All-permutation, length_permutation, list_any-IsPermutation}
use Rattle.entity_id.specs.declared.entity.Entity.{Entity}
use Rattle.entity_id.specs.Identifiers.{is_same}
use Rattle.entity_id.specs.Matching.{is_in, is_match, matches}
use Rattle.entity_id.proofs.ListLemmas.{all_weaker}
use Rattle.world_model.specs.declared.group.GroupDecl.{GroupDecl}
use Rattle.world_model.specs.Groups.{members, packed_at, group_prefix, ArePackedListsOf, IsLawfulGroup, IsPacked}
use Rattle.world_model.proofs.PermutationLemmas.{IsPermutation-filter}
use Rattle.world_model.proofs.PrefixLemmas.{front_is_all, front_within}

-- ---- members of maps and of their packed lists

all_agree : {X : Type 0} (f g : X → Bool) → ((x : X) → f x ≡ g x) → (xs : List X) → list_all f xs ≡ list_all g xs
all_agree f g h [] = refl
all_agree f g h (x ∷ xs) = ap₂ (λ a b. a && b) (h x) (all_agree f g h xs)

any_agree : {X : Type 0} (f g : X → Bool) → ((x : X) → f x ≡ g x) → (xs : List X) → list_any f xs ≡ list_any g xs
any_agree f g h [] = refl
any_agree f g h (x ∷ xs) = ap₂ (λ a b. a || b) (h x) (any_agree f g h xs)

packed_of : (maps packed : List (List Entity)) → ArePackedListsOf maps packed → (pool : ℕ) → IsPermutation (get_or maps pool []) (get_or packed pool [])
packed_of [] [] h pool = IsPermutation-refl []
packed_of [] (p ∷ ps) h pool = absurd h
packed_of (m ∷ ms) [] h pool = absurd h
packed_of (m ∷ ms) (p ∷ ps) h zero = h.0
packed_of (m ∷ ms) (p ∷ ps) h (suc pool) = packed_of ms ps h.1 pool

match_agrees : (maps packed : List (List Entity)) → ArePackedListsOf maps packed → (all none : List ℕ) (e : Entity) → is_match maps all none e ≡ is_match packed all none e
match_agrees maps packed h all none e =
    let in_agrees : (pool : ℕ) → is_in maps e pool ≡ is_in packed e pool = λ pool. list_any-IsPermutation (is_same e) _ _ (packed_of maps packed h pool) in
    ap₂ (λ a b. a && not b) (all_agree _ _ in_agrees all) (any_agree _ _ in_agrees none)

matches_agree : (maps packed : List (List Entity)) → ArePackedListsOf maps packed → (all none : List ℕ) → IsPermutation (matches maps all none) (matches packed all none)
matches_agree maps packed h [] none = IsPermutation-refl []
matches_agree maps packed h (first ∷ rest) none =
    subst (λ l. IsPermutation l (matches packed (first ∷ rest) none))
    (filter_agree _ _ (λ e. sym (match_agrees maps packed h (first ∷ rest) none e)) (get_or maps first []))
    (IsPermutation-filter (is_match packed (first ∷ rest) none) _ _ (packed_of maps packed h first))

-- the members in the packed lists are those in the maps, in another order
members_agree : (maps packed : List (List Entity)) → ArePackedListsOf maps packed → (decl : GroupDecl) → IsPermutation (members maps decl) (members packed decl)
members_agree maps packed h decl = matches_agree maps packed h (decl.own ++ decl.get) decl.without

-- ---- the two forms of a group

abbrev group_of : List ℕ → List ℕ → List ℕ → GroupDecl
group_of own get without = record { own = own; get = get; without = without }

lawful_of : (maps packed : List (List Entity)) (own get without : List ℕ) (count : ℕ) → ArePackedListsOf maps packed → 0 < length own → IsPacked packed (group_of own get without) count → IsLawfulGroup maps packed (group_of own get without) count
lawful_of maps packed [] get without count lists owns is = absurd (omega arith)
lawful_of maps packed (o ∷ os) get without count lists owns is =
    let decl = group_of (o ∷ os) get without in
    record {
      within = all_weaker _ _ (λ pool begins. front_within count (packed_at packed pool) (ap length begins ∙ is.counted)) (o ∷ os) is.begins;
      common = all_weaker _ _ (λ pool begins. begins ∙ sym is.begins.0) (o ∷ os) is.begins;
      matching = subst (λ l. IsPermutation l (members maps decl)) (sym is.begins.0) (IsPermutation-sym _ _ (members_agree maps packed lists decl));
    }

-- packed groups are lawful
pub packed_is_lawful : (maps packed : List (List Entity)) (decl : GroupDecl) (count : ℕ) → ArePackedListsOf maps packed → 0 < length decl.own → IsPacked packed decl count → IsLawfulGroup maps packed decl count
packed_is_lawful maps packed decl count lists owns is = lawful_of maps packed decl.own decl.get decl.without count lists owns is

-- what stands in a lawful group's prefix matches
passes_of : (maps packed : List (List Entity)) (o : ℕ) (os get without : List ℕ) (count : ℕ) → ArePackedListsOf maps packed → IsLawfulGroup maps packed (group_of (o ∷ os) get without) count → AllByRecursion (λ e. is_match packed ((o ∷ os) ++ get) without e ≡ true) (take count (packed_at packed o))
passes_of maps packed o os get without count lists is =
    let decl = group_of (o ∷ os) get without in
    let front = take count (packed_at packed o) in
    let passes = filter_passes (is_match maps ((o ∷ os) ++ get) without) (packed_at maps o) in
    all_weaker (λ e. is_match maps ((o ∷ os) ++ get) without e ≡ true) _
    (λ e h. sym (match_agrees maps packed lists ((o ∷ os) ++ get) without e) ∙ h) front
    (recursion_from_All _ front (All-permutation (λ e. is_match maps ((o ∷ os) ++ get) without e ≡ true) (members maps decl) front (IsPermutation-sym _ _ is.matching) passes))

pub prefix_passes : (maps packed : List (List Entity)) (decl : GroupDecl) (count : ℕ) → ArePackedListsOf maps packed → 0 < length decl.own → IsLawfulGroup maps packed decl count → AllByRecursion (λ e. is_match packed (decl.own ++ decl.get) decl.without e ≡ true) (group_prefix packed decl count)
prefix_passes maps packed decl count lists owns is = by decl.own decl.get decl.without owns is
  where
    by : (own get without : List ℕ) → 0 < length own → IsLawfulGroup maps packed (group_of own get without) count → AllByRecursion (λ e. is_match packed (own ++ get) without e ≡ true) (group_prefix packed (group_of own get without) count)
    by [] get without owns is = absurd (omega arith)
    by (o ∷ os) get without owns is = passes_of maps packed o os get without count lists is

packed_from : (maps packed : List (List Entity)) (own get without : List ℕ) (count : ℕ) → ArePackedListsOf maps packed → 0 < length own → IsLawfulGroup maps packed (group_of own get without) count → IsPacked packed (group_of own get without) count
packed_from maps packed [] get without count lists owns is = absurd (omega arith)
packed_from maps packed (o ∷ os) get without count lists owns is =
    let decl = group_of (o ∷ os) get without in
    let counted : length (members packed decl) ≡ count =
    length_permutation _ _ (members_agree maps packed lists decl) ∙ length_permutation _ _ is.matching ∙ length-take-le count (packed_at packed o) is.within.0 in
    let front : members packed decl ≡ take count (packed_at packed o) =
    front_is_all (is_match packed ((o ∷ os) ++ get) without) count (packed_at packed o) is.within.0 (passes_of maps packed o os get without count lists is) counted in
    record { counted = counted; begins = all_weaker _ _ (λ pool common. common ∙ sym front) (o ∷ os) is.common }

-- lawful groups are packed
pub lawful_is_packed : (maps packed : List (List Entity)) (decl : GroupDecl) (count : ℕ) → ArePackedListsOf maps packed → 0 < length decl.own → IsLawfulGroup maps packed decl count → IsPacked packed decl count
lawful_is_packed maps packed decl count lists owns is = packed_from maps packed decl.own decl.get decl.without count lists owns is
