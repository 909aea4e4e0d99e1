-- Which groups a change of a pool concerns, and what their masks tell.
use Rattle.std.proofs.Common.{◌≡◌, ◌≢◌, ℕ, suc, ◌+◌, ◌-◌, ◌*◌, ◌%◌, ◌^◌, ◌<◌, ◌≤◌, Bool, true, false, not, ◌||◌, cond, eqb, List, [], ◌∷◌, ◌++◌, take, replicate, length, get_or, Some, slice_get, refl, sym, ap, subst, ◌∙◌, inl, inr, arith, w32}
use Rattle.std.proofs.Math.Dec.{ltb}
use Rattle.std.specs.Int.{bit_at}
use Rattle.std.specs.Int.RustNames.{bit_or}
use Rattle.std.specs.List.{AllByRecursion, list_any, range_with_len}
use Rattle.std.proofs.lemmas.Bool.{cases_Bool, cases_eq, cases_lt, ltb-true, or_left, or_right, or_cases, false≢true, eqb-true, eq-eqb}
use Rattle.std.proofs.lemmas.List.{get_or_past, get_or-replicate, get_or_append_left, get_or-append_right, take_all, length-append, length-replicate}
use Rattle.std.proofs.lemmas.List.Folds.{list_any-append}
use Rattle.std.proofs.lemmas.Nat.Bits.{bit_at-zero, bit_at_set_same, bit_at_set_other, same_from_bits}
use Rattle.std.proofs.lemmas.Option.{same_Some, slice_get-get_or, slice_get_within}
use Rattle.std.proofs.lemmas.List.FromFn.{length-range_with_len}
use Rattle.std.proofs.lemmas.List.Sorted.{length_permutation}
use Rattle.entity_id.proofs.ListLemmas.{all_at, all-append}
use Rattle.entity_id.proofs.PackedListLemmas.{any_none}
use Rattle.world_model.specs.declared.group.GroupDecl.{GroupDecl}
use Rattle.world_model.specs.Groups.{has_pool, group_pools, are_declared, group_limit}
use Rattle.world_model.proofs.NestedLemmas.{all_has, every}
use Rattle.group_engine.specs.Families.{IsOrdered}
use Rattle.group_engine.specs.Grouped.{is_named}
use Rattle.group_engine.specs.Masks.{may_enter, IsMask, AreMasks}

-- ---- the pools of a group

in_lists : (d : GroupDecl) (pool : ℕ) → has_pool (group_pools d) pool ≡ (has_pool (d.own ++ d.get) pool || has_pool d.without pool)
in_lists d pool = list_any-append (λ q. eqb q pool) (d.own ++ d.get) d.without

pub own_named : (d : GroupDecl) (pool : ℕ) → has_pool d.own pool ≡ true → has_pool (group_pools d) pool ≡ true
own_named d pool has = in_lists d pool ∙ or_left (has_pool (d.own ++ d.get) pool) (has_pool d.without pool) (list_any-append (λ q. eqb q pool) d.own d.get ∙ or_left (has_pool d.own pool) (has_pool d.get pool) has)

-- a group that a change of a pool concerns names it
pub concerned_named : (d : GroupDecl) (pool : ℕ) (held : Bool) → may_enter pool held d ≡ true → has_pool (group_pools d) pool ≡ true
concerned_named d pool true has = in_lists d pool ∙ or_left (has_pool (d.own ++ d.get) pool) (has_pool d.without pool) has
concerned_named d pool false has = in_lists d pool ∙ or_right (has_pool (d.own ++ d.get) pool) (has_pool d.without pool) has

unconcerned : (d : GroupDecl) (pool : ℕ) (held : Bool) → has_pool (group_pools d) pool ≡ false → may_enter pool held d ≡ false
unconcerned d pool held none = elim (cases_Bool (may_enter pool held d)) [
  | inl has ↦ absurd (false≢true (sym none ∙ concerned_named d pool held has))
  | inr out ↦ out
]

-- each is one of the pools
pub named_below : (n : ℕ) (d : GroupDecl) (pool : ℕ) → are_declared n (group_pools d) ≡ true → has_pool (group_pools d) pool ≡ true → pool < n
named_below n d pool all named = ltb-true pool n (all_has (λ q. ltb q n ≡ true) (group_pools d) pool (every (λ q. ltb q n) (group_pools d) all) named)

-- ---- one mask

module _ (decls : List GroupDecl) (order : List ℕ) (test : GroupDecl → Bool) where
  -- the bits of the first so many places
  pub record IsMaskUpTo (mask k : ℕ) : Type 0 where
    pub marked : (place group : ℕ) (decl : GroupDecl) → place < k → slice_get order place ≡ Some group → slice_get decls group ≡ Some decl → bit_at mask place ≡ cond (test decl) 1 0
    pub clear : (place : ℕ) → k ≤ place → bit_at mask place ≡ 0

  pub none_marked : IsMaskUpTo 0 0
  none_marked = record { marked = λ place group decl low at here. absurd (omega arith); clear = λ place high. bit_at-zero place }

  module _ (mask k g : ℕ) (a : GroupDecl) (at : slice_get order k ≡ Some g) (here : slice_get decls g ≡ Some a) (h : IsMaskUpTo mask k) where
    the_group : (group : ℕ) (decl : GroupDecl) → slice_get order k ≡ Some group → slice_get decls group ≡ Some decl → a ≡ decl
    the_group group decl at' here' = same_Some a decl (sym here ∙ ap (slice_get decls) (same_Some g group (sym at ∙ at')) ∙ here')

    pub marked_more : k < 32 → test a ≡ true → IsMaskUpTo (bit_or mask (1 * 2 ^ k % 2 ^ 32)) (k + 1)
    marked_more few is = record {
      marked = λ place group decl low at' here'. elim (cases_eq place k) [
        | inl one ↦
            ap (bit_at (bit_or mask (1 * 2 ^ k % 2 ^ 32))) one ∙ bit_at_set_same w32 mask k few
            ∙ sym (ap (λ d. cond (test d) 1 0) (sym (the_group group decl (ap (slice_get order) (sym one) ∙ at') here')) ∙ ap (λ b. cond b 1 0) is)
        | inr differs ↦ bit_at_set_other w32 mask k few place differs ∙ h.marked place group decl (omega arith) at' here'
      ];
      clear = λ place high. bit_at_set_other w32 mask k few place (omega arith) ∙ h.clear place (omega arith);
    }

    pub unmarked_more : test a ≡ false → IsMaskUpTo mask (k + 1)
    unmarked_more is = record {
      marked = λ place group decl low at' here'. elim (cases_eq place k) [
        | inl one ↦
            ap (bit_at mask) one ∙ h.clear k (omega arith)
            ∙ sym (ap (λ d. cond (test d) 1 0) (sym (the_group group decl (ap (slice_get order) (sym one) ∙ at') here')) ∙ ap (λ b. cond b 1 0) is)
        | inr differs ↦ h.marked place group decl (omega arith) at' here'
      ];
      clear = λ place high. h.clear place (omega arith);
    }

  pub all_marked : (mask k : ℕ) → length order ≤ k → k ≤ length order → length order ≤ group_limit → IsMaskUpTo mask k → IsMask mask decls order test
  all_marked mask k past within few h = record {
    few = few;
    marked = λ place group decl at here. h.marked place group decl (let low : place < length order = slice_get_within order place group at in omega arith) at here;
    clear = λ place high. h.clear place (omega arith);
  }

  -- of groups that all fail the test it has no bit
  pub all_fail : length order ≤ group_limit → ((group : ℕ) (decl : GroupDecl) → slice_get decls group ≡ Some decl → test decl ≡ false) → IsMask 0 decls order test
  all_fail few fail = record {
    few = few;
    marked = λ place group decl at here. bit_at-zero place ∙ sym (ap (λ b. cond b 1 0) (fail group decl here));
    clear = λ place high. bit_at-zero place;
  }

  module _ (mask : ℕ) (is : IsMask mask decls order test) where
    pub set_passes : (place group : ℕ) (decl : GroupDecl) → slice_get order place ≡ Some group → slice_get decls group ≡ Some decl → bit_at mask place ≡ 1 → test decl ≡ true
    set_passes place group decl at here set = elim (cases_Bool (test decl)) [
      | inl passes ↦ passes
      | inr fails ↦ (let clear : bit_at mask place ≡ 0 = is.marked place group decl at here ∙ ap (λ b. cond b 1 0) fails in absurd (omega arith))
    ]

    pub clear_fails : (place group : ℕ) (decl : GroupDecl) → slice_get order place ≡ Some group → slice_get decls group ≡ Some decl → bit_at mask place ≡ 0 → test decl ≡ false
    clear_fails place group decl at here clear = elim (cases_Bool (test decl)) [
      | inl passes ↦ (let set : bit_at mask place ≡ 1 = is.marked place group decl at here ∙ ap (λ b. cond b 1 0) passes in absurd (omega arith))
      | inr fails ↦ fails
    ]

    module _ (ordered : IsOrdered decls order) where
      pub none_concerned : ((group : ℕ) (decl : GroupDecl) → slice_get decls group ≡ Some decl → test decl ≡ false) → mask ≡ 0
      none_concerned fail = same_from_bits mask 0 (λ i. elim (cases_lt i (length order)) [
        | inl low ↦
            let g = get_or order i 0 in
            let at : slice_get order i ≡ Some g = slice_get-get_or order i 0 low in
            let none : GroupDecl = record { own = []; get = []; without = [] } in
            let here : slice_get decls g ≡ Some (get_or decls g none) = slice_get-get_or decls g none (ordered.within i g at) in
            is.marked i g (get_or decls g none) at here ∙ ap (λ b. cond b 1 0) (fail g (get_or decls g none) here) ∙ sym (bit_at-zero i)
        | inr past ↦ is.clear i past ∙ sym (bit_at-zero i)
      ])

      pub one_concerned : (group : ℕ) (decl : GroupDecl) → slice_get decls group ≡ Some decl → test decl ≡ true → mask ≢ 0
      one_concerned group decl here passes empty =
          let stands = ordered.complete group (slice_get_within decls group decl here) in
          let set : bit_at mask stands.0 ≡ 1 = is.marked stands.0 group decl stands.1 here ∙ ap (λ b. cond b 1 0) passes in
          let clear : bit_at mask stands.0 ≡ 0 = ap (λ m. bit_at m stands.0) empty ∙ bit_at-zero stands.0 in
          omega arith

-- ---- the masks of all pools

-- an order has a place for each group, and so as many as a mask has bits
pub order_few : (decls : List GroupDecl) (order : List ℕ) → IsOrdered decls order → length decls ≤ group_limit → length order ≤ group_limit
order_few decls order h few =
    let long : length order ≡ length decls = length_permutation (range_with_len 0 (length decls)) order h.each ∙ length-range_with_len 0 (length decls) in
    omega arith

pub all_declared : (n m : ℕ) (old new : List GroupDecl) (decl : GroupDecl) → AllByRecursion (λ d. are_declared n (group_pools d) ≡ true) old → are_declared n (group_pools decl) ≡ true → new ≡ old ++ decl ∷ [] → m ≡ n → AllByRecursion (λ d. are_declared m (group_pools d) ≡ true) new
all_declared n m old new decl each one is same =
    subst (λ k. AllByRecursion (λ d. are_declared k (group_pools d) ≡ true) new) (sym same)
    (subst (AllByRecursion (λ d. are_declared n (group_pools d) ≡ true)) (sym is) (all-append (λ d. are_declared n (group_pools d) ≡ true) old (decl ∷ []) each (one, tt)))

-- those past the last pool concern no group
pub past_pools : (decls : List GroupDecl) (order : List ℕ) (n pool : ℕ) (held : Bool) → length order ≤ group_limit → AllByRecursion (λ d. are_declared n (group_pools d) ≡ true) decls → n ≤ pool → IsMask 0 decls order (may_enter pool held)
past_pools decls order n pool held few declared past = all_fail decls order (may_enter pool held) few (λ group decl here. elim (cases_Bool (may_enter pool held decl)) [
  | inl has ↦
      (let low : pool < n = named_below n decl pool (all_at (λ d. are_declared n (group_pools d) ≡ true) decls group decl declared here) (concerned_named decl pool held has) in
      absurd (omega arith))
  | inr out ↦ out
])

nothing_there : (n i none : ℕ) → none ≡ 0 → get_or (replicate n none) i 0 ≡ 0
nothing_there n i none is = elim (cases_lt i n) [
  | inl low ↦ get_or-replicate n i none 0 low ∙ is
  | inr past ↦ get_or_past (replicate n none) i 0 (let long : length (replicate n none) ≡ n = length-replicate n none in omega arith)
]

-- a mask for each pool
pub places_made : (old new : List ℕ) (decls : List GroupDecl) (order : List ℕ) (n : ℕ) (held : Bool) → AreMasks old decls order n held → new ≡ take n old ++ replicate (n - length old) 0 → (length new ≡ n) × AreMasks new decls order n held
places_made old new decls order n held h is =
    let low : length old ≤ n = h.few in
    let more : new ≡ old ++ replicate (n - length old) 0 = is ∙ ap (λ l. l ++ replicate (n - length old) 0) (take_all n old low) in
    let long : length new ≡ length old + (n - length old) = ap length more ∙ length-append old (replicate (n - length old) 0) ∙ ap (λ k. length old + k) (length-replicate (n - length old) 0) in
    let same : (pool : ℕ) → get_or new pool 0 ≡ get_or old pool 0 = (λ pool. ap (λ l. get_or l pool 0) more ∙ elim (cases_lt pool (length old)) [
      | inl there ↦ get_or_append_left old (replicate (n - length old) 0) 0 pool there
      | inr past ↦ get_or-append_right old (replicate (n - length old) 0) (length old) pool 0 refl past ∙ nothing_there (n - length old) (pool - length old) 0 refl ∙ sym (get_or_past old pool 0 past)
    ]) in (
      omega arith,
      record {
        few = omega arith;
        each = λ pool. subst (λ m. IsMask m decls order (may_enter pool held)) (sym (same pool)) (h.each pool);
      },
    )

-- ---- the pools that a group names

any_at : {X : Type 0} (f : X → Bool) (xs : List X) → list_any f xs ≡ true → (k : ℕ) × (x : X) × (slice_get xs k ≡ Some x) × (f x ≡ true)
any_at f [] h = absurd (false≢true h)
any_at f (x ∷ xs) h = elim (or_cases (f x) (list_any f xs) h) [
  | inl here ↦ (0, x, refl, here)
  | inr further ↦ let rest = any_at f xs further in (suc rest.0, rest.1, rest.2, rest.3)
]

-- a pool whose masks are 0 is named by none, and one that none names has no others
pub unnamed_masks : (decls : List GroupDecl) (order : List ℕ) (pool wanting excluding : ℕ) → IsOrdered decls order → IsMask wanting decls order (may_enter pool true) → IsMask excluding decls order (may_enter pool false) → wanting ≡ 0 → excluding ≡ 0 → is_named decls pool ≡ false
unnamed_masks decls order pool wanting excluding ordered w e none none' = elim (cases_Bool (is_named decls pool)) [
  | inr out ↦ out
  | inl named ↦
      let one = any_at (λ (d : GroupDecl). has_pool (group_pools d) pool) decls named in
      elim (or_cases (has_pool (one.1.own ++ one.1.get) pool) (has_pool one.1.without pool) (sym (in_lists one.1 pool) ∙ one.3)) [
        | inl wants ↦ absurd (one_concerned decls order (may_enter pool true) wanting w ordered one.0 one.1 one.2 wants none)
        | inr excludes ↦ absurd (one_concerned decls order (may_enter pool false) excluding e ordered one.0 one.1 one.2 excludes none')
      ]
]

pub mask_named : (decls : List GroupDecl) (order : List ℕ) (pool mask : ℕ) (held : Bool) → IsOrdered decls order → IsMask mask decls order (may_enter pool held) → mask ≢ 0 → is_named decls pool ≡ true
mask_named decls order pool mask held ordered is some = elim (cases_Bool (is_named decls pool)) [
  | inl named ↦ named
  | inr out ↦ absurd (some (none_concerned decls order (may_enter pool held) mask is ordered (λ group decl here. unconcerned decl pool held (any_none (λ (d : GroupDecl). has_pool (group_pools d) pool) decls out group decl here))))
]

-- ---- as the groups keep them

pub mask_seen : (decls seen : List GroupDecl) (order run masks : List ℕ) (n pool mask : ℕ) (held : Bool) → AreMasks masks decls order n held → seen ≡ decls → run ≡ order → mask ≡ get_or masks pool 0 → IsMask mask seen run (may_enter pool held)
mask_seen decls seen order run masks n pool mask held h is is' at =
    subst (λ l. IsMask mask l run (may_enter pool held)) (sym is) (subst (λ l. IsMask mask decls l (may_enter pool held)) (sym is') (subst (λ m. IsMask m decls order (may_enter pool held)) (sym at) (h.each pool)))

pub read_named : (decls : List GroupDecl) (order : List ℕ) (pool mask : ℕ) (held : Bool) → IsOrdered decls order → IsMask mask decls order (may_enter pool held) → mask ≢ 0 → not (eqb mask 0) ≡ is_named decls pool
read_named decls order pool mask held ordered is some = elim (cases_Bool (eqb mask 0)) [
  | inl same ↦ absurd (some (eqb-true mask 0 same))
  | inr differs ↦ ap not differs ∙ sym (mask_named decls order pool mask held ordered is some)
]

pub read_last : (decls : List GroupDecl) (order : List ℕ) (pool wanting excluding : ℕ) → IsOrdered decls order → IsMask wanting decls order (may_enter pool true) → IsMask excluding decls order (may_enter pool false) → wanting ≡ 0 → not (eqb excluding 0) ≡ is_named decls pool
read_last decls order pool wanting excluding ordered w e none = elim (cases_Bool (eqb excluding 0)) [
  | inl same ↦ ap not same ∙ sym (unnamed_masks decls order pool wanting excluding ordered w e none (eqb-true excluding 0 same))
  | inr differs ↦ ap not differs ∙ sym (mask_named decls order pool excluding false ordered e (λ none'. false≢true (sym differs ∙ eq-eqb excluding 0 none')))
]
