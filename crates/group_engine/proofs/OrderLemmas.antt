-- An order of groups from the outermost in, and one more put into it.
use Rattle.std.proofs.Common.{◌≡◌, ◌≢◌, ℕ, zero, suc, ◌+◌, ◌<◌, ◌≤◌, true, false, ◌&&◌, List, [], ◌∷◌, ◌++◌, take, length, get_or, Some, slice_get, sym, refl, ap, subst, ◌∙◌, inl, inr, arith}
use Rattle.std.specs.List.{insert, range_with_len}
use Rattle.std.specs.List.Sorted.{IsPermutation}
use Rattle.std.proofs.lemmas.Bool.{cases_Bool, cases_eq, cases_lt, false≢true, and_parts, and_from}
use Rattle.std.proofs.lemmas.List.{length-append}
use Rattle.std.proofs.lemmas.List.Sorted.{IsPermutation-insert, IsPermutation-trans, IsPermutation-append_comm, IsPermutation-append_left}
use Rattle.std.proofs.lemmas.Option.{same_Some, slice_get_within, slice_get-get_or}
use Rattle.entity_id.proofs.ListLemmas.{slice_get-append}
use Rattle.entity_id.proofs.PackedListLemmas.{at_taken, at_take, at_pushed}
use Rattle.world_model.specs.declared.group.GroupDecl.{GroupDecl}
use Rattle.world_model.specs.Groups.{has_pool, includes, is_inner}
use Rattle.world_model.proofs.NestedLemmas.{all_has, every, inner_parts}
use Rattle.group_engine.specs.Families.{IsFamily, IsOutermostFirst, IsOrdered}
use Rattle.group_engine.proofs.OwnLemmas.{has_at, at_has}

-- what the passes need of an order
pub ordered_first : (decls : List GroupDecl) (order : List ℕ) → IsOrdered decls order → IsOutermostFirst decls order
ordered_first decls order h = record {
  within = h.within;
  outer_before = λ place group other a c at here there within differs.
      (let q = h.complete other (slice_get_within decls other c there) in
      let less : q.0 < place = h.sorted place q.0 group other a c at q.1 here there within differs in
      has_at (take place order) q.0 other (at_take place order q.0 less ∙ q.1));
  inner_after = λ place group other a c at here there around differs. elim (cases_Bool (has_pool (take place order) other)) [
    | inr none ↦ none
    | inl some ↦
        let j = at_has (take place order) other some in
        let low = at_taken place order j.0 other j.1 in
        absurd (let past : place < j.0 = h.sorted j.0 place other group c a low.1 at there here around (λ same. differs (sym same)) in let less : j.0 < place = low.0 in omega arith)
  ];
  once = λ place group at. elim (cases_Bool (has_pool (take place order) group)) [
    | inr none ↦ none
    | inl some ↦
        let j = at_has (take place order) group some in
        let low = at_taken place order j.0 group j.1 in
        absurd (let one : j.0 ≡ place = h.once j.0 place group low.1 at in let less : j.0 < place = low.0 in omega arith)
  ];
  complete = λ group within. (let q = h.complete group within in has_at order q.0 group q.1);
  each = h.each;
}

-- ---- inner to inner

includes-trans : (a b c : List ℕ) → includes a b ≡ true → includes b c ≡ true → includes a c ≡ true
includes-trans a b [] p q = refl
includes-trans a b (x ∷ c) p q =
    let parts = and_parts (has_pool b x) (includes b c) q in
    and_from (has_pool a x) (includes a c) (all_has (λ o. has_pool a o ≡ true) b x (every (has_pool a) b p) parts.0) (includes-trans a b c p parts.1)

pub inner-trans : (a b c : GroupDecl) → is_inner a b ≡ true → is_inner b c ≡ true → is_inner a c ≡ true
inner-trans a b c p q =
    let x = inner_parts a b p in
    let y = inner_parts b c q in
    and_from (includes a.own c.own && includes a.get c.get) (includes a.without c.without)
    (and_from (includes a.own c.own) (includes a.get c.get) (includes-trans a.own b.own c.own x.own y.own) (includes-trans a.get b.get c.get x.get y.get))
    (includes-trans a.without b.without c.without x.without y.without)

-- ---- one put in

data Inserted (xs : List ℕ) (i y k z : ℕ) : Type 0 where
  low : k < i → slice_get xs k ≡ Some z → Inserted xs i y k z
  here : k ≡ i → z ≡ y → Inserted xs i y k z
  high : (j : ℕ) → k ≡ j + 1 → i ≤ j → slice_get xs j ≡ Some z → Inserted xs i y k z

at_inserted : (xs : List ℕ) (i y k z : ℕ) → i ≤ length xs → slice_get (insert xs i y) k ≡ Some z → Inserted xs i y k z
at_inserted xs zero y zero z p at = here refl (sym (same_Some y z at))
at_inserted xs zero y (suc k) z p at = high k (omega arith) (omega arith) at
at_inserted [] (suc i) y k z p at = absurd (omega arith)
at_inserted (x ∷ xs) (suc i) y zero z p at = low (omega arith) at
at_inserted (x ∷ xs) (suc i) y (suc k) z p at = elim (at_inserted xs i y k z (omega arith) at) [
  | low less here' ↦ low (omega arith) here'
  | here same is ↦ here (ap suc same) is
  | high j same past there ↦ high (suc j) (omega arith) (omega arith) there
]

inserted_low : (xs : List ℕ) (i y k z : ℕ) → i ≤ length xs → k < i → slice_get xs k ≡ Some z → slice_get (insert xs i y) k ≡ Some z
inserted_low xs zero y k z p less at = absurd (omega arith)
inserted_low [] (suc i) y k z p less at = absurd (omega arith)
inserted_low (x ∷ xs) (suc i) y zero z p less at = at
inserted_low (x ∷ xs) (suc i) y (suc k) z p less at = inserted_low xs i y k z (omega arith) (omega arith) at

inserted_here : (xs : List ℕ) (i y : ℕ) → i ≤ length xs → slice_get (insert xs i y) i ≡ Some y
inserted_here xs zero y p = refl
inserted_here [] (suc i) y p = absurd (omega arith)
inserted_here (x ∷ xs) (suc i) y p = inserted_here xs i y (omega arith)

inserted_high : (xs : List ℕ) (i y k z : ℕ) → i ≤ length xs → i ≤ k → slice_get xs k ≡ Some z → slice_get (insert xs i y) (suc k) ≡ Some z
inserted_high xs zero y k z p past at = at
inserted_high [] (suc i) y k z p past at = absurd (omega arith)
inserted_high (x ∷ xs) (suc i) y zero z p past at = absurd (omega arith)
inserted_high (x ∷ xs) (suc i) y (suc k) z p past at = inserted_high xs i y k z (omega arith) (omega arith) at

range_more : (n a : ℕ) → range_with_len a (n + 1) ≡ range_with_len a n ++ (a + n) ∷ []
range_more n a = ap (range_with_len a) (let e : n + 1 ≡ suc n = omega arith in e) ∙ by n a
  where
    by : (n a : ℕ) → range_with_len a (suc n) ≡ range_with_len a n ++ (a + n) ∷ []
    by zero a = ap (λ x. x ∷ []) (let e : a ≡ a + 0 = omega arith in e)
    by (suc n) a = ap (λ l. a ∷ l) (by n (a + 1)) ∙ ap (λ x. a ∷ (range_with_len (a + 1) n ++ x ∷ [])) (let e : a + 1 + n ≡ a + suc n = omega arith in e)

module _ (decls : List GroupDecl) (d : GroupDecl) (order : List ℕ) (at : ℕ) (family : IsFamily (decls ++ d ∷ [])) (h : IsOrdered decls order) (fits : at ≤ length order)
    (before : (k g : ℕ) (c : GroupDecl) → k < at → slice_get order k ≡ Some g → slice_get decls g ≡ Some c → is_inner c d ≡ false)
    (first : (g : ℕ) (c : GroupDecl) → slice_get order at ≡ Some g → slice_get decls g ≡ Some c → is_inner c d ≡ true) where
  abbrev all : List GroupDecl
  all = decls ++ d ∷ []

  abbrev new : ℕ
  new = length decls

  new_here : slice_get all new ≡ Some d
  new_here = at_end decls
    where
      at_end : (l : List GroupDecl) → slice_get (l ++ d ∷ []) (length l) ≡ Some d
      at_end [] = refl
      at_end (x ∷ l) = at_end l

  old_here : (g : ℕ) (c : GroupDecl) → g < new → slice_get all g ≡ Some c → slice_get decls g ≡ Some c
  old_here g c below there = sym (slice_get-append decls (d ∷ []) g below) ∙ there

  -- from the place on no group is outer to the new one
  none_outer_behind : (j g : ℕ) (c : GroupDecl) → at ≤ j → slice_get order j ≡ Some g → slice_get decls g ≡ Some c → is_inner d c ≡ true → ⊥
  none_outer_behind j g c past there is outer =
      let inside : at < length order = (let w : j < length order = slice_get_within order j g there in omega arith) in
      let g0 = get_or order at 0 in
      let there0 : slice_get order at ≡ Some g0 = slice_get-get_or order at 0 inside in
      let c0 = get_or decls g0 d in
      let is0 : slice_get decls g0 ≡ Some c0 = slice_get-get_or decls g0 d (h.within at g0 there0) in
      let inner0 : is_inner c0 d ≡ true = first g0 c0 there0 is0 in
      elim (cases_eq g g0) [
        | inl same ↦
            let one : c ≡ c0 = same_Some c c0 (sym is ∙ ap (slice_get decls) same ∙ is0) in
            let g_low : g < new = slice_get_within decls g c is in
            absurd (false≢true (sym (family.different new g d c new_here (slice_get-append decls (d ∷ []) g g_low ∙ is) (λ e. omega arith) outer) ∙ ap (λ v. is_inner v d) one ∙ inner0))
        | inr differs ↦ absurd (let less : j < at = h.sorted at j g0 g c0 c there0 there is0 is (inner-trans c0 d c inner0 outer) differs in omega arith)
      ]

  sorted_more : (i j g k : ℕ) (a c : GroupDecl) → slice_get (insert order at new) i ≡ Some g → slice_get (insert order at new) j ≡ Some k → slice_get all g ≡ Some a → slice_get all k ≡ Some c → is_inner a c ≡ true → k ≢ g → j < i
  sorted_more i j g k a c hi hj ha hc within differs = elim (at_inserted order at new i g fits hi) [
    | here is_at is_new ↦
        let a_is : d ≡ a = same_Some d a (sym new_here ∙ ap (slice_get all) (sym is_new) ∙ ha) in
        let d_inner : is_inner d c ≡ true = ap (λ v. is_inner v c) a_is ∙ within in
        elim (at_inserted order at new j k fits hj) [
          | low less there ↦ omega arith
          | here is_at' is_new' ↦ absurd (differs (is_new' ∙ sym is_new))
          | high m same past there ↦ absurd (none_outer_behind m k c past there (old_here k c (h.within m k there) hc) d_inner)
        ]
    | low less there ↦
        let a_here : slice_get decls g ≡ Some a = old_here g a (h.within i g there) ha in
        elim (at_inserted order at new j k fits hj) [
          | low less' there' ↦ h.sorted i j g k a c there there' a_here (old_here k c (h.within j k there') hc) within differs
          | here is_at' is_new' ↦
              let c_is : d ≡ c = same_Some d c (sym new_here ∙ ap (slice_get all) (sym is_new') ∙ hc) in
              absurd (false≢true (sym (before i g a less there a_here) ∙ ap (is_inner a) c_is ∙ within))
          | high m same past there' ↦ (let l : m < i = h.sorted i m g k a c there there' a_here (old_here k c (h.within m k there') hc) within differs in omega arith)
        ]
    | high n same past there ↦
        let a_here : slice_get decls g ≡ Some a = old_here g a (h.within n g there) ha in
        elim (at_inserted order at new j k fits hj) [
          | low less' there' ↦ omega arith
          | here is_at' is_new' ↦ omega arith
          | high m same' past' there' ↦ (let l : m < n = h.sorted n m g k a c there there' a_here (old_here k c (h.within m k there') hc) within differs in omega arith)
        ]
  ]

  within_more : (place group : ℕ) → slice_get (insert order at new) place ≡ Some group → group < length all
  within_more place group at' =
      let long : length all ≡ length decls + length (d ∷ []) = length-append decls (d ∷ []) in
      elim (at_inserted order at new place group fits at') [
        | low less there ↦ (let w : group < new = h.within place group there in omega arith)
        | here is is_new ↦ omega arith
        | high j same past there ↦ (let w : group < new = h.within j group there in omega arith)
      ]

  complete_more : (group : ℕ) → group < length all → (place : ℕ) × (slice_get (insert order at new) place ≡ Some group)
  complete_more group w =
      let long : length all ≡ length decls + length (d ∷ []) = length-append decls (d ∷ []) in
      elim (cases_eq group new) [
        | inl is ↦ (at, inserted_here order at new fits ∙ ap Some (sym is))
        | inr old ↦
            let q = h.complete group (omega arith) in
            elim (cases_lt q.0 at) [
              | inl less ↦ (q.0, inserted_low order at new q.0 group fits less q.1)
              | inr past ↦ (suc q.0, inserted_high order at new q.0 group fits past q.1)
            ]
      ]

  once_more : (i j g : ℕ) → slice_get (insert order at new) i ≡ Some g → slice_get (insert order at new) j ≡ Some g → i ≡ j
  once_more i j g hi hj = elim (at_inserted order at new i g fits hi) [
    | low less there ↦ elim (at_inserted order at new j g fits hj) [
      | low less' there' ↦ h.once i j g there there'
      | here is' is_new' ↦ absurd (let w : g < new = h.within i g there in omega arith)
      | high m same' past' there' ↦ absurd (let one : i ≡ m = h.once i m g there there' in omega arith)
    ]
    | here is is_new ↦ elim (at_inserted order at new j g fits hj) [
      | low less' there' ↦ absurd (let w : g < new = h.within j g there' in omega arith)
      | here is' is_new' ↦ omega arith
      | high m same' past' there' ↦ absurd (let w : g < new = h.within m g there' in omega arith)
    ]
    | high n same past there ↦ elim (at_inserted order at new j g fits hj) [
      | low less' there' ↦ absurd (let one : n ≡ j = h.once n j g there there' in omega arith)
      | here is' is_new' ↦ absurd (let w : g < new = h.within n g there in omega arith)
      | high m same' past' there' ↦ (let one : n ≡ m = h.once n m g there there' in omega arith)
    ]
  ]

  each_more : IsPermutation (range_with_len 0 (length all)) (insert order at new)
  each_more =
      let range : range_with_len 0 (length all) ≡ range_with_len 0 new ++ new ∷ [] =
      ap (range_with_len 0) (let e : length all ≡ new + 1 = length-append decls (d ∷ []) in e) ∙ range_more new 0 ∙ ap (λ x. range_with_len 0 new ++ x ∷ []) (let e : 0 + new ≡ new = omega arith in e) in
      subst (λ l. IsPermutation l (insert order at new)) (sym range)
      (IsPermutation-trans _ (order ++ new ∷ []) _ (IsPermutation-append_left (new ∷ []) (range_with_len 0 new) order h.each)
      (IsPermutation-trans _ (new ∷ order) _ (IsPermutation-append_comm order (new ∷ [])) (IsPermutation-insert order at new)))

  pub ordered_more : IsOrdered all (insert order at new)
  ordered_more = record { within = within_more; complete = complete_more; once = once_more; sorted = sorted_more; each = each_more }

-- the groups with a further one
pub group_added : (decls : List GroupDecl) (lens : List ℕ) (d : GroupDecl) (count : ℕ) (old new : List (List Rattle.entity_id.specs.declared.entity.Entity.Entity)) → IsFamily (decls ++ d ∷ []) → length lens ≡ length decls → Rattle.group_engine.specs.Grouped.AreGrouped decls lens old → Rattle.group_engine.specs.Families.KeepsGroups d old new → Rattle.group_engine.specs.Grouped.IsGrouped new d count → Rattle.group_engine.specs.Grouped.AreGrouped (decls ++ d ∷ []) (lens ++ count ∷ []) new
group_added decls lens d count old after family each grouped keeps filled = record {
  each = λ g c n there long. elim (at_pushed decls d g c there) [
    | inl was ↦
        let low : g < length decls = slice_get_within decls g c was in
        let long' : slice_get lens g ≡ Some n = sym (slice_get-append lens (count ∷ []) g (omega arith)) ∙ long in
        keeps c n (family.nested (length decls) g d c (at_end decls) there (λ same. omega arith)) (grouped.each g c n was long')
    | inr is ↦ elim (at_pushed lens count g n long) [
      | inl was ↦ absurd (let low : g < length lens = slice_get_within lens g n was in let at : g ≡ length decls = is.0 in omega arith)
      | inr one ↦ subst (λ (v : GroupDecl). Rattle.group_engine.specs.Grouped.IsGrouped after v n) (sym is.1) (subst (Rattle.group_engine.specs.Grouped.IsGrouped after d) (sym one.1) filled)
    ]
  ];
}
  where
    at_end : (l : List GroupDecl) → slice_get (l ++ d ∷ []) (length l) ≡ Some d
    at_end [] = refl
    at_end (x ∷ l) = at_end l
