-- What all groups keep where an identifier enters or leaves one of them.
use Rattle.std.proofs.Common.{◌≡◌, ◌≢◌, ℕ, ◌+◌, ◌<◌, ◌≤◌, Bool, true, false, not, cond, List, [], ◌∷◌, ◌++◌, length, set, get_or, Some, slice_get, sym, refl, ap, subst, ◌∙◌, inl, inr, arith}
use Rattle.std.specs.List.{list_any, list_all}
use Rattle.std.proofs.Math.Dec.{ltb}
use Rattle.std.proofs.lemmas.Bool.{cases_Bool, cases_eq, false≢true, lt-ltb, ltb-true, le-ltb, ltb-false, and_parts, and_from, or_parts, or_from, not-true, not_from_false}
use Rattle.std.proofs.lemmas.List.Folds.{list_all-append}
use Rattle.std.proofs.lemmas.Option.{same_Some, slice_get-get_or, slice_get_within}
use Rattle.entity_id.specs.declared.entity.Entity.{Entity}
use Rattle.entity_id.specs.Identifiers.{is_same}
use Rattle.entity_id.proofs.ListLemmas.{slice_get-set_same, slice_get-set_other}
use Rattle.entity_id.proofs.MapLemmas.{same_true}
use Rattle.world_model.specs.declared.group.GroupDecl.{GroupDecl}
use Rattle.world_model.specs.Groups.{has_pool, includes, is_inner, packed_at}
use Rattle.world_model.proofs.NestedLemmas.{all_has, every, inner_parts}
use Rattle.group_engine.specs.Grouped.{passes, matches, IsPartitioned}
use Rattle.group_engine.specs.Moving.{IsMoved, AreMoved, but_for, AreMixed, Beside, apart, outer, inner}
use Rattle.group_engine.proofs.MoveLemmas.{others_keep, entered, left, but_itself}

-- ---- inner and outer groups

none_of : (f : ℕ → Bool) (pools : List ℕ) → list_any f pools ≡ false → Rattle.std.specs.List.AllByRecursion (λ pool. f pool ≡ false) pools
none_of f [] h = tt
none_of f (pool ∷ pools) h = let parts = or_parts (f pool) (list_any f pools) h in (parts.0, none_of f pools parts.1)

included_all : (f : ℕ → Bool) (pools others : List ℕ) → includes pools others ≡ true → list_all f pools ≡ true → list_all f others ≡ true
included_all f pools [] within h = refl
included_all f pools (other ∷ others) within h =
    let parts = and_parts (has_pool pools other) (includes pools others) within in
    and_from (f other) (list_all f others) (all_has (λ pool. f pool ≡ true) pools other (every f pools h) parts.0) (included_all f pools others parts.1 h)

included_none : (f : ℕ → Bool) (pools others : List ℕ) → includes pools others ≡ true → list_any f pools ≡ false → list_any f others ≡ false
included_none f pools [] within h = refl
included_none f pools (other ∷ others) within h =
    let parts = and_parts (has_pool pools other) (includes pools others) within in
    or_from (f other) (list_any f others) (all_has (λ pool. f pool ≡ false) pools other (none_of f pools h) parts.0) (included_none f pools others parts.1 h)

-- what passes in the inner group passes in the outer one
pub inner_passes : (a c : GroupDecl) (f : ℕ → Bool) → is_inner a c ≡ true → passes a f ≡ true → passes c f ≡ true
inner_passes a c f is_in h =
    let is = inner_parts a c is_in in
    let parts = and_parts (list_all f (a.own ++ a.get)) (not (list_any f a.without)) h in
    let both = and_parts (list_all f a.own) (list_all f a.get) (sym (list_all-append f a.own a.get) ∙ parts.0) in
    and_from (list_all f (c.own ++ c.get)) (not (list_any f c.without))
    (list_all-append f c.own c.get ∙ and_from _ _ (included_all f a.own c.own is.own both.0) (included_all f a.get c.get is.get both.1))
    (not_from_false _ (included_none f a.without c.without is.without (not-true _ parts.1)))

-- and what doesn't in the outer one doesn't in the inner one
pub outer_fails : (a c : GroupDecl) (f : ℕ → Bool) → is_inner a c ≡ true → passes c f ≡ false → passes a f ≡ false
outer_fails a c f is_in h = elim (cases_Bool (passes a f)) [
  | inl passing ↦ absurd (false≢true (sym h ∙ inner_passes a c f is_in passing))
  | inr failing ↦ failing
]

-- the inner group owns what the outer one owns
pub inner_owns : (a c : GroupDecl) (pool : ℕ) → is_inner a c ≡ true → has_pool c.own pool ≡ true → has_pool a.own pool ≡ true
inner_owns a c pool is_in has = all_has (λ p. has_pool a.own p ≡ true) c.own pool (every (has_pool a.own) c.own (inner_parts a c is_in).own) has

-- ---- one group moves

pub but_other : (e : Entity) (b : Bool) (test : Entity → Bool) (x : Entity) → is_same x e ≡ false → but_for e b test x ≡ test x
but_other e b test x other = ap (λ same. cond same b (test x)) other

module _ (a c : GroupDecl) (base old new : List (List Entity)) (e : Entity) (n count : ℕ) (b b' : Bool) (move : AreMoved a.own e n old new)
    (other : IsPartitioned old c.own count (but_for e b (matches base c))) (beside : Beside a c b) where
  abbrev tests : Entity → Bool
  tests = but_for e b (matches base c)

  -- the identifier stands in the other group's pools on the side that it is on
  from_side : (pool : ℕ) (has : has_pool a.own pool ≡ true) → has_pool c.own pool ≡ true → ltb (move.moved pool has).from count ≡ b
  from_side pool has has' = let mv : IsMoved e n (packed_at old pool) (packed_at new pool) = move.moved pool has in other.split pool mv.from e has' mv.here ∙ but_itself e b (matches base c)

  -- what stands at the place that it goes to
  there : (pool : ℕ) → has_pool a.own pool ≡ true → (x : Entity) × (slice_get (packed_at old pool) n ≡ Some x)
  there pool has = at (packed_at old pool) (let mv : IsMoved e n (packed_at old pool) (packed_at new pool) = move.moved pool has in mv.within)
    where
      at : (l : List Entity) → n < length l → (x : Entity) × (slice_get l n ≡ Some x)
      at [] p = absurd (omega arith)
      at (d ∷ l) p = (get_or (d ∷ l) n d, slice_get-get_or (d ∷ l) n d p)

  -- where it is the identifier itself, it stands on its own side
  by_itself : (pool : ℕ) (x : Entity) → has_pool c.own pool ≡ true → slice_get (packed_at old pool) n ≡ Some x → is_same x e ≡ true → ltb n count ≡ b
  by_itself pool x has' g same = other.split pool n x has' g ∙ ap tests (same_true x e same) ∙ but_itself e b (matches base c)

  kept_by : ((pool : ℕ) → has_pool a.own pool ≡ true → has_pool c.own pool ≡ true → ltb n count ≡ b) → IsPartitioned new c.own count tests
  kept_by side = others_keep a.own c.own e n count tests old new move other
      (λ pool has has'. side pool has has' ∙ sym (but_itself e b (matches base c)))
      (λ pool third has has' has'' is_in. elim beside [
        | apart none ↦ absurd (false≢true (sym (none pool has) ∙ has'))
        | outer is held ↦ inner_owns a c third is has''
        | inner is none ↦ absurd (false≢true (sym none ∙ sym (but_itself e b (matches base c)) ∙ is_in))
      ])

  -- it enters: it goes to the first place behind the group
  module _ (before : IsPartitioned old a.own n (but_for e false (matches base a))) where
    entering_side : (pool : ℕ) → has_pool a.own pool ≡ true → has_pool c.own pool ≡ true → ltb n count ≡ b
    entering_side pool has has' =
        let mv : IsMoved e n (packed_at old pool) (packed_at new pool) = move.moved pool has in
        let high : n ≤ mv.from = ltb-false mv.from n (before.split pool mv.from e has mv.here ∙ but_itself e false (matches base a)) in
        elim beside [
          | apart none ↦ absurd (false≢true (sym (none pool has) ∙ has'))
          | outer is held ↦ (let low : mv.from < count = ltb-true mv.from count (from_side pool has has' ∙ held) in lt-ltb n count (omega arith)) ∙ sym held
          | inner is none ↦
              let x = there pool has in
              elim (cases_Bool (is_same x.0 e)) [
                | inl same ↦ by_itself pool x.0 has' x.1 same
                | inr differs ↦
                    let out : matches base a x.0 ≡ false = sym (but_other e false (matches base a) x.0 differs) ∙ sym (before.split pool n x.0 has x.1) ∙ le-ltb n n (omega arith) in
                    other.split pool n x.0 has' x.1 ∙ but_other e b (matches base c) x.0 differs ∙ outer_fails c a (Rattle.entity_id.specs.Matching.is_in base x.0) is out ∙ sym none
              ]
        ]

    pub kept_entering : IsPartitioned new c.own count tests
    kept_entering = kept_by entering_side

  -- it leaves: it goes to the group's last place
  module _ (before : IsPartitioned old a.own (n + 1) (but_for e true (matches base a))) where
    leaving_side : (pool : ℕ) → has_pool a.own pool ≡ true → has_pool c.own pool ≡ true → ltb n count ≡ b
    leaving_side pool has has' =
        let mv : IsMoved e n (packed_at old pool) (packed_at new pool) = move.moved pool has in
        let low : mv.from < n + 1 = ltb-true mv.from (n + 1) (before.split pool mv.from e has mv.here ∙ but_itself e true (matches base a)) in
        elim beside [
          | apart none ↦ absurd (false≢true (sym (none pool has) ∙ has'))
          | outer is held ↦
              let x = there pool has in
              elim (cases_Bool (is_same x.0 e)) [
                | inl same ↦ by_itself pool x.0 has' x.1 same
                | inr differs ↦
                    let within : matches base a x.0 ≡ true = sym (but_other e true (matches base a) x.0 differs) ∙ sym (before.split pool n x.0 has x.1) ∙ lt-ltb n (n + 1) (omega arith) in
                    other.split pool n x.0 has' x.1 ∙ but_other e b (matches base c) x.0 differs ∙ inner_passes a c (Rattle.entity_id.specs.Matching.is_in base x.0) is within ∙ sym held
              ]
          | inner is none ↦ (let high : count ≤ mv.from = ltb-false mv.from count (from_side pool has has' ∙ none) in le-ltb n count (omega arith)) ∙ sym none
        ]

    pub kept_leaving : IsPartitioned new c.own count tests
    kept_leaving = kept_by leaving_side

-- ---- the whole family

module _ (decls : List GroupDecl) (lens : List ℕ) (base old new : List (List Entity)) (e : Entity) (has has' : ℕ → GroupDecl → Bool) (g : ℕ) (a : GroupDecl) (n : ℕ)
    (here : slice_get decls g ≡ Some a) (move : AreMoved a.own e n old new) (mixed : AreMixed decls lens base old e has)
    (beside : (h : ℕ) (c : GroupDecl) → slice_get decls h ≡ Some c → h ≢ g → Beside a c (has h c))
    (others : (h : ℕ) (c : GroupDecl) → h ≢ g → has' h c ≡ has h c) where
  pub family_entered : slice_get lens g ≡ Some n → has g a ≡ false → has' g a ≡ true → AreMixed decls (set lens g (n + 1)) base new e has'
  family_entered long out within h c count at at' =
      let before : IsPartitioned old a.own n (but_for e false (matches base a)) = subst (λ b. IsPartitioned old a.own n (but_for e b (matches base a))) out (mixed g a n here long) in
      elim (cases_eq h g) [
        | inl is ↦
            let one : a ≡ c = same_Some a c (sym here ∙ ap (slice_get decls) (sym is) ∙ at) in
            let more : n + 1 ≡ count = same_Some (n + 1) count (sym (slice_get-set_same lens g (n + 1) (slice_get_within lens g n long)) ∙ ap (slice_get (set lens g (n + 1))) (sym is) ∙ at') in
            let b : has' h c ≡ true = ap (λ k. has' k c) is ∙ ap (has' g) (sym one) ∙ within in
            let done = entered a.own e n (matches base a) old new move before in
            subst (λ (v : Bool). IsPartitioned new c.own count (but_for e v (matches base c))) (sym b)
            (subst (λ (v : ℕ). IsPartitioned new c.own v (but_for e true (matches base c))) more
            (subst (λ (v : GroupDecl). IsPartitioned new v.own (n + 1) (but_for e true (matches base v))) one done))
        | inr differs ↦
            let long' : slice_get lens h ≡ Some count = sym (slice_get-set_other lens g h (n + 1) differs) ∙ at' in
            subst (λ (v : Bool). IsPartitioned new c.own count (but_for e v (matches base c))) (sym (others h c differs))
            (kept_entering a c base old new e n count (has h c) true move (mixed h c count at long') (beside h c at differs) before)
      ]

  pub family_left : slice_get lens g ≡ Some (n + 1) → has g a ≡ true → has' g a ≡ false → AreMixed decls (set lens g n) base new e has'
  family_left long within out h c count at at' =
      let before : IsPartitioned old a.own (n + 1) (but_for e true (matches base a)) = subst (λ b. IsPartitioned old a.own (n + 1) (but_for e b (matches base a))) within (mixed g a (n + 1) here long) in
      elim (cases_eq h g) [
        | inl is ↦
            let one : a ≡ c = same_Some a c (sym here ∙ ap (slice_get decls) (sym is) ∙ at) in
            let less : n ≡ count = same_Some n count (sym (slice_get-set_same lens g n (slice_get_within lens g (n + 1) long)) ∙ ap (slice_get (set lens g n)) (sym is) ∙ at') in
            let b : has' h c ≡ false = ap (λ k. has' k c) is ∙ ap (has' g) (sym one) ∙ out in
            let done = left a.own e n (matches base a) old new move before in
            subst (λ (v : Bool). IsPartitioned new c.own count (but_for e v (matches base c))) (sym b)
            (subst (λ (v : ℕ). IsPartitioned new c.own v (but_for e false (matches base c))) less
            (subst (λ (v : GroupDecl). IsPartitioned new v.own n (but_for e false (matches base v))) one done))
        | inr differs ↦
            let long' : slice_get lens h ≡ Some count = sym (slice_get-set_other lens g h n differs) ∙ at' in
            subst (λ (v : Bool). IsPartitioned new c.own count (but_for e v (matches base c))) (sym (others h c differs))
            (kept_leaving a c base old new e n count (has h c) true move (mixed h c count at long') (beside h c at differs) before)
      ]
