-- Inner groups stand in front of outer ones.
use Rattle.std.proofs.Common.{◌≡◌, ℕ, ◌<◌, ◌≤◌, Bool, true, false, not, ◌&&◌, eqb, List, [], ◌∷◌, ◌++◌, take, length, refl, sym, ap, subst, ◌∙◌, arith, inl, inr}
use Rattle.std.specs.Prelude.{filter, slice_index_or}
use Rattle.std.specs.List.{AllByRecursion, list_any, list_all}
use Rattle.std.proofs.lemmas.Bool.{and_parts, and_from, or_cases, or_parts, or_from, or_left, eq-eqb, not-true, not_from_false, eqb-true}
use Rattle.std.proofs.lemmas.List.{take-take}
use Rattle.std.proofs.lemmas.List.Folds.{list_all-append}
use Rattle.entity_id.specs.declared.entity.Entity.{Entity}
use Rattle.entity_id.specs.Matching.{is_in, is_match, matches}
use Rattle.entity_id.proofs.ListLemmas.{all_weaker}
use Rattle.world_model.specs.declared.group.GroupDecl.{GroupDecl}
use Rattle.world_model.specs.Groups.{has_pool, includes, is_inner, members, packed_at, group_prefix, ArePackedListsOf, IsLawfulGroup}
use Rattle.world_model.proofs.PrefixLemmas.{front_counted}
use Rattle.world_model.proofs.GroupLemmas.{prefix_passes, lawful_is_packed}

-- ---- pools that a list has

-- what holds of each pool holds of one that the list has
pub all_has : (P : ℕ → Type 0) (pools : List ℕ) (pool : ℕ) → AllByRecursion P pools → has_pool pools pool ≡ true → P pool
all_has P [] pool h has = absurd cc
all_has P (other ∷ pools) pool h has =
    elim (or_cases (eqb other pool) (has_pool pools pool) has) [
      | inl same ↦ subst P (eqb-true other pool same) h.0
      | inr further ↦ all_has P pools pool h.1 further
    ]

pub every : (f : ℕ → Bool) (pools : List ℕ) → list_all f pools ≡ true → AllByRecursion (λ pool. f pool ≡ true) pools
every f [] h = tt
every f (pool ∷ pools) h = let parts = and_parts (f pool) (list_all f pools) h in (parts.0, every f pools parts.1)

none_of : (f : ℕ → Bool) (pools : List ℕ) → list_any f pools ≡ false → AllByRecursion (λ pool. f pool ≡ false) pools
none_of f [] h = tt
none_of f (pool ∷ pools) h = let parts = or_parts (f pool) (list_any f pools) h in (parts.0, none_of f pools parts.1)

-- where all of some pools pass, so do all that these include
included_all : (f : ℕ → Bool) (pools others : List ℕ) → includes pools others ≡ true → list_all f pools ≡ true → list_all f others ≡ true
included_all f pools [] within h = refl
included_all f pools (other ∷ others) within h =
    let parts = and_parts (has_pool pools other) (includes pools others) within in
    and_from (f other) (list_all f others) (all_has (λ pool. f pool ≡ true) pools other (every f pools h) parts.0) (included_all f pools others parts.1 h)

-- where none of some pools passes, no more does one that these include
included_none : (f : ℕ → Bool) (pools others : List ℕ) → includes pools others ≡ true → list_any f pools ≡ false → list_any f others ≡ false
included_none f pools [] within h = refl
included_none f pools (other ∷ others) within h =
    let parts = and_parts (has_pool pools other) (includes pools others) within in
    or_from (f other) (list_any f others) (all_has (λ pool. f pool ≡ false) pools other (none_of f pools h) parts.0) (included_none f pools others parts.1 h)

-- ---- inner and outer groups

pub record IncludesEach (inner outer : GroupDecl) : Type 0 where
  pub own : includes inner.own outer.own ≡ true
  pub get : includes inner.get outer.get ≡ true
  pub without : includes inner.without outer.without ≡ true

pub inner_parts : (inner outer : GroupDecl) → is_inner inner outer ≡ true → IncludesEach inner outer
inner_parts inner outer is =
    let three = and_parts (includes inner.own outer.own && includes inner.get outer.get) (includes inner.without outer.without) is in
    let two = and_parts (includes inner.own outer.own) (includes inner.get outer.get) three.0 in
    record { own = two.0; get = two.1; without = three.1 }

-- what matches in the inner group matches in the outer one
inner_matches : (maps : List (List Entity)) (inner outer : GroupDecl) (e : Entity) → IncludesEach inner outer → is_match maps (inner.own ++ inner.get) inner.without e ≡ true → is_match maps (outer.own ++ outer.get) outer.without e ≡ true
inner_matches maps inner outer e is h =
    let f : ℕ → Bool = is_in maps e in
    let parts = and_parts (list_all f (inner.own ++ inner.get)) (not (list_any f inner.without)) h in
    let both = and_parts (list_all f inner.own) (list_all f inner.get) (sym (list_all-append f inner.own inner.get) ∙ parts.0) in
    and_from (list_all f (outer.own ++ outer.get)) (not (list_any f outer.without))
    (list_all-append f outer.own outer.get ∙ and_from _ _ (included_all f inner.own outer.own is.own both.0) (included_all f inner.get outer.get is.get both.1))
    (not_from_false _ (included_none f inner.without outer.without is.without (not-true _ parts.1)))

-- the first pool that a group owns, which owns one
abbrev first_owned : GroupDecl → ℕ
first_owned decl = slice_index_or decl.own 0 0

first_has : (own : List ℕ) → 0 < length own → has_pool own (slice_index_or own 0 0) ≡ true
first_has [] owns = absurd (omega arith)
first_has (o ∷ os) owns = or_left (eqb o o) (has_pool os o) (eq-eqb o o refl)

-- an inner group owns the outer one's first pool too
owns_first : (inner outer : GroupDecl) → IncludesEach inner outer → 0 < length outer.own → has_pool inner.own (first_owned outer) ≡ true
owns_first inner outer is owns = all_has (λ pool. has_pool inner.own pool ≡ true) outer.own (first_owned outer) (every (has_pool inner.own) outer.own is.own) (first_has outer.own owns)

pub owns_some : (own : List ℕ) (pool : ℕ) → has_pool own pool ≡ true → 0 < length own
owns_some [] pool has = absurd cc
owns_some (o ∷ os) pool has = omega arith

front_passes : (maps packed : List (List Entity)) (inner outer : GroupDecl) (m : ℕ) → ArePackedListsOf maps packed → IncludesEach inner outer → 0 < length outer.own → IsLawfulGroup maps packed inner m → AllByRecursion (λ e. is_match packed (outer.own ++ outer.get) outer.without e ≡ true) (take m (packed_at packed (first_owned outer)))
front_passes maps packed inner outer m lists is owns lawful =
    let has = owns_first inner outer is owns in
    let common = all_has (λ pool. take m (packed_at packed pool) ≡ group_prefix packed inner m) inner.own (first_owned outer) lawful.common has in
    subst (AllByRecursion (λ e. is_match packed (outer.own ++ outer.get) outer.without e ≡ true)) (sym common)
    (all_weaker _ _ (λ e h. inner_matches packed inner outer e is h) (group_prefix packed inner m)
    (prefix_passes maps packed inner m lists (owns_some inner.own (first_owned outer) has) lawful))

members_of : (packed : List (List Entity)) (decl : GroupDecl) → 0 < length decl.own → members packed decl ≡ filter (is_match packed (decl.own ++ decl.get) decl.without) (packed_at packed (first_owned decl))
members_of packed decl owns = of_lists decl.own decl.get decl.without owns
  where
    of_lists : (own get without : List ℕ) → 0 < length own → matches packed (own ++ get) without ≡ filter (is_match packed (own ++ get) without) (packed_at packed (slice_index_or own 0 0))
    of_lists [] get without owns = absurd (omega arith)
    of_lists (o ∷ os) get without owns = refl

-- an inner group is not longer than the outer one
pub inner_counted : (maps packed : List (List Entity)) (inner outer : GroupDecl) (m n : ℕ) → ArePackedListsOf maps packed → is_inner inner outer ≡ true → 0 < length outer.own → IsLawfulGroup maps packed inner m → IsLawfulGroup maps packed outer n → m ≤ n
inner_counted maps packed inner outer m n lists is_in owns lawful_inner lawful_outer =
    let is = inner_parts inner outer is_in in
    let within = all_has (λ pool. m ≤ length (packed_at packed pool)) inner.own (first_owned outer) lawful_inner.within (owns_first inner outer is owns) in
    let counted = front_counted (is_match packed (outer.own ++ outer.get) outer.without) m (packed_at packed (first_owned outer)) within (front_passes maps packed inner outer m lists is owns lawful_inner) in
    omega (arith, ap length (members_of packed outer owns), (lawful_is_packed maps packed outer n lists owns lawful_outer).counted)

-- in each pool its identifiers are the first of the outer one's
pub inner_front : (packed : List (List Entity)) (pool m n : ℕ) → m ≤ n → take m (packed_at packed pool) ≡ take m (take n (packed_at packed pool))
inner_front packed pool m n within = sym (take-take m n (packed_at packed pool) within)

pub inner_prefix : (maps packed : List (List Entity)) (inner outer : GroupDecl) (m n : ℕ) → ArePackedListsOf maps packed → is_inner inner outer ≡ true → 0 < length outer.own → IsLawfulGroup maps packed inner m → IsLawfulGroup maps packed outer n → group_prefix packed inner m ≡ take m (group_prefix packed outer n)
inner_prefix maps packed inner outer m n lists is_in owns lawful_inner lawful_outer =
    let is = inner_parts inner outer is_in in
    sym (all_has (λ pool. take m (packed_at packed pool) ≡ group_prefix packed inner m) inner.own (first_owned outer) lawful_inner.common (owns_first inner outer is owns))
    ∙ inner_front packed (first_owned outer) m n (inner_counted maps packed inner outer m n lists is_in owns lawful_inner lawful_outer)
