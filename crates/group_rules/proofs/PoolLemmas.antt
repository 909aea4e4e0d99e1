-- The pools of two lists, and of two groups.
use Rattle.std.proofs.Common.{◌≡◌, ◌↔◌, ℕ, ◌<◌, true, false, not, ◌&&◌, eqb, List, [], ◌∷◌, length, refl, sym, ap, ◌∙◌, inl, inr, arith}
use Rattle.std.specs.List.{list_any}
use Rattle.std.proofs.lemmas.Bool.{cases_Bool, false≢true, and_parts, and_from, or_parts, or_from, or_left, or_right, not-true, not_from_true, not_from_false, eqb-true, eq-eqb}
use Rattle.world_model.specs.declared.group.GroupDecl.{GroupDecl}
use Rattle.world_model.specs.Groups.{has_pool, includes, is_inner, is_apart}
use Rattle.world_model.proofs.NestedLemmas.{all_has, every, inner_parts}

has_first : (pool : ℕ) (pools : List ℕ) → has_pool (pool ∷ pools) pool ≡ true
has_first pool pools = or_left (eqb pool pool) (has_pool pools pool) (eq-eqb pool pool refl)

-- ---- included lists

pub included : (pools others : List ℕ) → includes pools others ≡ true → (pool : ℕ) → has_pool others pool ≡ true → has_pool pools pool ≡ true
included pools others within pool has = all_has (λ other. has_pool pools other ≡ true) others pool (every (has_pool pools) others within) has

includes_from : (pools others : List ℕ) → ((pool : ℕ) → has_pool others pool ≡ true → has_pool pools pool ≡ true) → includes pools others ≡ true
includes_from pools [] h = refl
includes_from pools (other ∷ others) h =
    and_from (has_pool pools other) (includes pools others) (h other (has_first other others))
    (includes_from pools others (λ pool has. h pool (or_right (eqb other pool) (has_pool others pool) has)))

includes_itself : (pools : List ℕ) → includes pools pools ≡ true
includes_itself pools = includes_from pools pools (λ pool has. has)

includes_chain : (a b c : List ℕ) → includes a b ≡ true → includes b c ≡ true → includes a c ≡ true
includes_chain a b c within further = includes_from a c (λ pool has. included a b within pool (included b c further pool has))

inner_from : (inner outer : GroupDecl) → includes inner.own outer.own ≡ true → includes inner.get outer.get ≡ true → includes inner.without outer.without ≡ true → is_inner inner outer ≡ true
inner_from inner outer own get without =
    and_from (includes inner.own outer.own && includes inner.get outer.get) (includes inner.without outer.without)
    (and_from (includes inner.own outer.own) (includes inner.get outer.get) own get) without

pub inner_itself : (a : GroupDecl) → is_inner a a ≡ true
inner_itself a = inner_from a a (includes_itself a.own) (includes_itself a.get) (includes_itself a.without)

pub inner_chain : (a b c : GroupDecl) → is_inner a b ≡ true → is_inner b c ≡ true → is_inner a c ≡ true
inner_chain a b c within further =
    let x = inner_parts a b within in
    let y = inner_parts b c further in
    inner_from a c (includes_chain a.own b.own c.own x.own y.own) (includes_chain a.get b.get c.get x.get y.get) (includes_chain a.without b.without c.without x.without y.without)

-- ---- lists with no pool in common

shared_none : (pools others : List ℕ) → list_any (has_pool pools) others ≡ false → (pool : ℕ) → has_pool pools pool ≡ true → has_pool others pool ≡ false
shared_none pools [] none pool has = refl
shared_none pools (other ∷ others) none pool has =
    let parts = or_parts (has_pool pools other) (list_any (has_pool pools) others) none in
    or_from (eqb other pool) (has_pool others pool)
    (elim (cases_Bool (eqb other pool)) [
      | inl same ↦ absurd (false≢true (sym parts.0 ∙ ap (has_pool pools) (eqb-true other pool same) ∙ has))
      | inr differs ↦ differs
    ])
    (shared_none pools others parts.1 pool has)

none_shared : (pools others : List ℕ) → ((pool : ℕ) → has_pool pools pool ≡ true → has_pool others pool ≡ false) → list_any (has_pool pools) others ≡ false
none_shared pools [] h = refl
none_shared pools (other ∷ others) h =
    or_from (has_pool pools other) (list_any (has_pool pools) others)
    (elim (cases_Bool (has_pool pools other)) [
      | inl has ↦ absurd (false≢true (sym (h other has) ∙ has_first other others))
      | inr differs ↦ differs
    ])
    (none_shared pools others (λ pool has. (or_parts (eqb other pool) (has_pool others pool) (h pool has)).1))

turned : (pools others : List ℕ) → list_any (has_pool pools) others ≡ false → list_any (has_pool others) pools ≡ false
turned pools others none = none_shared others pools (λ pool held. elim (cases_Bool (has_pool pools pool)) [
  | inl has ↦ absurd (false≢true (sym (shared_none pools others none pool has) ∙ held))
  | inr out ↦ out
])

shared-turned : (pools others : List ℕ) → list_any (has_pool pools) others ≡ list_any (has_pool others) pools
shared-turned pools others = elim (cases_Bool (list_any (has_pool pools) others)) [
  | inr none ↦ none ∙ sym (turned pools others none)
  | inl some ↦ elim (cases_Bool (list_any (has_pool others) pools)) [
    | inl too ↦ some ∙ sym too
    | inr none ↦ absurd (false≢true (sym (turned others pools none) ∙ some))
  ]
]

pub apart-turned : (a b : GroupDecl) → is_apart a b ≡ is_apart b a
apart-turned a b = ap not (shared-turned a.own b.own)

pub apart_pools : (a b : GroupDecl) → (is_apart a b ≡ true) ↔ ((pool : ℕ) → has_pool a.own pool ≡ true → has_pool b.own pool ≡ false)
apart_pools a b = (λ apart. shared_none a.own b.own (not-true _ apart), λ h. not_from_false _ (none_shared a.own b.own h))

-- an inner group owns what the outer one does, which owns a pool
pub inner_shares : (inner outer : GroupDecl) → is_inner inner outer ≡ true → 0 < length outer.own → is_apart inner outer ≡ false
inner_shares inner outer within owns = not_from_true _ (some inner.own outer.own owns (inner_parts inner outer within).own)
  where
    some : (pools others : List ℕ) → 0 < length others → includes pools others ≡ true → list_any (has_pool pools) others ≡ true
    some pools [] owns within = absurd (omega arith)
    some pools (other ∷ others) owns within = or_left _ _ (and_parts (has_pool pools other) (includes pools others) within).0
