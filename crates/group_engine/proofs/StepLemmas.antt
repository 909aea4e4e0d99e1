-- How many steps a change of one pool takes.
use Rattle.std.proofs.Common.{◌≡◌, ℕ, suc, ◌+◌, ◌*◌, ◌≤◌, Bool, true, false, not, ◌&&◌, ◌||◌, cond, eqb, List, [], ◌∷◌, ◌++◌, length, Some, None, slice_get, sym, refl, ap, ap₂, ◌∙◌, arith}
use Rattle.std.specs.List.{list_any, list_all, sum_by, range_with_len}
use Rattle.std.specs.Option.{option_to_list}
use Rattle.std.proofs.lemmas.Bool.{false≢true, or_parts}
use Rattle.std.proofs.lemmas.List.Folds.{list_any-append}
use Rattle.std.proofs.lemmas.List.Sorted.{sum_by-IsPermutation}
use Rattle.std.proofs.lemmas.List.Sums.{sum_by-cons}
use Rattle.entity_id.specs.declared.entity.Entity.{Entity}
use Rattle.world_model.specs.declared.group.GroupDecl.{GroupDecl}
use Rattle.world_model.specs.Groups.{has_pool, group_pools}
use Rattle.group_engine.specs.Grouped.{passes, cost_of, naming_cost}
use Rattle.group_engine.specs.Families.{IsOutermostFirst}
use Rattle.group_engine.specs.Moving.{in_if, matches_if, comes_in, goes_out, cost_in}

-- ---- a group that doesn't name the pool

all_unnamed : (f g : ℕ → Bool) (p : ℕ) → ((q : ℕ) → eqb q p ≡ false → f q ≡ g q) → (xs : List ℕ) → has_pool xs p ≡ false → list_all f xs ≡ list_all g xs
all_unnamed f g p agree [] h = refl
all_unnamed f g p agree (x ∷ xs) h = let parts = or_parts (eqb x p) (has_pool xs p) h in ap₂ (λ a b. a && b) (agree x parts.0) (all_unnamed f g p agree xs parts.1)

any_unnamed : (f g : ℕ → Bool) (p : ℕ) → ((q : ℕ) → eqb q p ≡ false → f q ≡ g q) → (xs : List ℕ) → has_pool xs p ≡ false → list_any f xs ≡ list_any g xs
any_unnamed f g p agree [] h = refl
any_unnamed f g p agree (x ∷ xs) h = let parts = or_parts (eqb x p) (has_pool xs p) h in ap₂ (λ a b. a || b) (agree x parts.0) (any_unnamed f g p agree xs parts.1)

-- two tests that differ at most at a pool that it doesn't name
pub unnamed_passes : (f g : ℕ → Bool) (p : ℕ) → ((q : ℕ) → eqb q p ≡ false → f q ≡ g q) → (d : GroupDecl) → has_pool (group_pools d) p ≡ false → passes d f ≡ passes d g
unnamed_passes f g p agree d none =
    let parts = or_parts (has_pool (d.own ++ d.get) p) (has_pool d.without p) (sym (list_any-append (λ q. eqb q p) (d.own ++ d.get) d.without) ∙ none) in
    ap₂ (λ x y. x && not y) (all_unnamed f g p agree (d.own ++ d.get) parts.0) (any_unnamed f g p agree d.without parts.1)

pub unnamed : (packed : List (List Entity)) (e : Entity) (p : ℕ) (a b : Bool) (d : GroupDecl) → has_pool (group_pools d) p ≡ false → matches_if packed e p a d ≡ matches_if packed e p b d
unnamed packed e p a b d none =
    let agree : (q : ℕ) → eqb q p ≡ false → in_if packed e p a q ≡ in_if packed e p b q = (λ q apart. ap (λ c. cond c a (Rattle.entity_id.specs.Matching.is_in packed e q)) apart ∙ sym (ap (λ c. cond c b (Rattle.entity_id.specs.Matching.is_in packed e q)) apart)) in
    unnamed_passes (in_if packed e p a) (in_if packed e p b) p agree d none

-- so an identifier that comes into the pool or goes neither enters nor leaves it
pub unnamed_comes : (packed : List (List Entity)) (e : Entity) (p : ℕ) (held : Bool) (d : GroupDecl) → has_pool (group_pools d) p ≡ false → comes_in packed e p held d ≡ false
unnamed_comes packed e p held d none = ap (λ b. not b && matches_if packed e p held d) (unnamed packed e p (not held) held d none) ∙ neither (matches_if packed e p held d)
  where
    neither : (b : Bool) → (not b && b) ≡ false
    neither true = refl
    neither false = refl

pub unnamed_goes : (packed : List (List Entity)) (e : Entity) (p : ℕ) (held : Bool) (d : GroupDecl) → has_pool (group_pools d) p ≡ false → goes_out packed e p held d ≡ false
unnamed_goes packed e p held d none = ap (λ b. b && not (matches_if packed e p held d)) (unnamed packed e p (not held) held d none) ∙ neither (matches_if packed e p held d)
  where
    neither : (b : Bool) → (b && not b) ≡ false
    neither true = refl
    neither false = refl

one_each : (was is named : Bool) (d : GroupDecl) → (named ≡ false → was ≡ is) → cost_of (was && not is) d + cost_of (not was && is) d ≤ cost_of named d
one_each true true named d h = omega arith
one_each false false named d h = omega arith
one_each true false true d h = omega arith
one_each false true true d h = omega arith
one_each true false false d h = absurd (false≢true (sym (h refl)))
one_each false true false d h = absurd (false≢true (h refl))

-- ---- sums

two_sums : (f g h : ℕ → ℕ) → ((x : ℕ) → f x + g x ≤ h x) → (xs : List ℕ) → sum_by f xs + sum_by g xs ≤ sum_by h xs
two_sums f g h each [] = omega arith
two_sums f g h each (x ∷ xs) =
    let a : sum_by f (x ∷ xs) ≡ f x + sum_by f xs = sum_by-cons f x xs in
    let b : sum_by g (x ∷ xs) ≡ g x + sum_by g xs = sum_by-cons g x xs in
    let c : sum_by h (x ∷ xs) ≡ h x + sum_by h xs = sum_by-cons h x xs in
    let one : f x + g x ≤ h x = each x in
    let rest : sum_by f xs + sum_by g xs ≤ sum_by h xs = two_sums f g h each xs in
    omega arith

in_range : {X : Type 0} (f : ℕ → ℕ) (h : X → ℕ) (xs : List X) (a : ℕ) → ((k : ℕ) (x : X) → slice_get xs k ≡ Some x → f (a + k) ≡ h x) → sum_by f (range_with_len a (length xs)) ≡ sum_by h xs
in_range f h [] a each = refl
in_range f h (x ∷ xs) a each =
    sum_by-cons f a (range_with_len (a + 1) (length xs))
    ∙ ap₂ (λ m n. m + n) (ap f (let same : a ≡ a + 0 = omega arith in same) ∙ each 0 x refl)
    (in_range f h xs (a + 1) (λ k y at. ap f (let same : a + 1 + k ≡ a + suc k = omega arith in same) ∙ each (suc k) y at))
    ∙ sym (sum_by-cons h x xs)

zero_more : (n : ℕ) → 0 + n ≡ n
zero_more n = omega arith

cost_at : (decls : List GroupDecl) (f : GroupDecl → Bool) (g : ℕ) (a : GroupDecl) → slice_get decls g ≡ Some a → cost_in decls f g ≡ cost_of (f a) a
cost_at decls f g a here = ap (λ o. sum_by (λ decl. cost_of (f decl) decl) (option_to_list o)) here ∙ zero_more (cost_of (f a) a)

-- over all groups in some order: what each of them costs
pub all_costs : (decls : List GroupDecl) (order : List ℕ) (moves : GroupDecl → Bool) → IsOutermostFirst decls order → sum_by (cost_in decls moves) order ≡ sum_by (λ d. cost_of (moves d) d) decls
all_costs decls order moves ordered =
    sum_by-IsPermutation (cost_in decls moves) (range_with_len 0 (length decls)) order ordered.each
    ∙ in_range (cost_in decls moves) (λ d. cost_of (moves d) d) decls 0 (λ k d at. cost_at decls moves (0 + k) d (ap (slice_get decls) (let z : 0 + k ≡ k = omega arith in z) ∙ at))

-- what one group costs at most
pub at_most : (b : Bool) (d : GroupDecl) → cost_of b d ≤ length d.own
at_most true d = omega arith
at_most false d = omega arith

-- one round more, each of at most so many steps
pub more : (s t u k n m : ℕ) → s ≤ t + k * n → u ≤ s + m → m ≤ n → u ≤ t + (k + 1) * n
more s t u k n m a b c = grind arith

-- both passes together
pub few_steps : (decls : List GroupDecl) (order : List ℕ) (packed : List (List Entity)) (e : Entity) (p : ℕ) (held : Bool) → IsOutermostFirst decls order → sum_by (cost_in decls (goes_out packed e p held)) order + sum_by (cost_in decls (comes_in packed e p held)) order ≤ naming_cost decls p
few_steps decls order packed e p held ordered =
    let named : GroupDecl → Bool = (λ d. has_pool (group_pools d) p) in
    let both : sum_by (cost_in decls (goes_out packed e p held)) order + sum_by (cost_in decls (comes_in packed e p held)) order ≤ sum_by (cost_in decls named) order =
    two_sums (cost_in decls (goes_out packed e p held)) (cost_in decls (comes_in packed e p held)) (cost_in decls named) each order in
    let all : sum_by (cost_in decls named) order ≡ naming_cost decls p = all_costs decls order named ordered in
    omega arith
  where
    each : (g : ℕ) → cost_in decls (goes_out packed e p held) g + cost_in decls (comes_in packed e p held) g ≤ cost_in decls (λ d. has_pool (group_pools d) p) g
    each g = elim (slice_get decls g) as (λ o. sum_by (λ d. cost_of (goes_out packed e p held d) d) (option_to_list o) + sum_by (λ d. cost_of (comes_in packed e p held d) d) (option_to_list o) ≤ sum_by (λ d. cost_of (has_pool (group_pools d) p) d) (option_to_list o)) [
      | None ↦ omega arith
      | Some d ↦ (let one : cost_of (goes_out packed e p held d) d + cost_of (comes_in packed e p held d) d ≤ cost_of (has_pool (group_pools d) p) d = one_each (matches_if packed e p (not held) d) (matches_if packed e p held d) (has_pool (group_pools d) p) d (λ none. unnamed packed e p (not held) held d none) in omega arith)
    ]
