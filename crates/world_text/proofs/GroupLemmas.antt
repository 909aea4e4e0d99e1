-- Groups that lines declare: their lists, and where they may join others.
use Rattle.std.proofs.Common.{◌≡◌, ℕ, ◌<◌, ◌≤◌, Bool, true, ◌&&◌, List, [], ◌∷◌, ◌++◌, All, ltb, leb, not, inl, inr, ◌+◌, subst, zero, suc, get_or, length, map, refl, sym, ap, ◌∙◌, arith, append_assoc}
use Rattle.std.specs.Prelude.{◌==◌, IsTrue, AllPairs}
use Rattle.std.specs.List.{list_all, AllByRecursion}
use Rattle.std.specs.List.Sorted.{IsNonDecreasing}
use Rattle.std.proofs.lemmas.Bool.{cases_Bool, and_from, and_parts, or_parts, ltb-true, lt-ltb, eqb-true, not-true, not_from_false}
use Rattle.std.proofs.lemmas.List.Elements.{All-nil, All-cons}
use Rattle.std.proofs.lemmas.List.Sorted.{IsPermutation-refl}
use Rattle.std.proofs.lemmas.List.{length-append, length-map}
use Rattle.std.proofs.lemmas.List.Quantifiers.{all_pairs_push}
use Rattle.std.proofs.lemmas.List.Folds.{list_all-append, list_any-append}
use Rattle.world_model.specs.declared.component.Decl.{Decl}
use Rattle.world_model.specs.declared.group.GroupDecl.{GroupDecl}
use Rattle.std.proofs.Math.ListN.{get_or-append}
use Rattle.std.proofs.Math.Seq.{get_or-append_seam}
use Rattle.entity_id.proofs.ListLemmas.{all-append}
use Rattle.world_model.specs.Groups.{are_declared, are_distinct, has_pool, group_pools, is_well_formed, may_coexist, AreLawfulGroups}
use Rattle.row_lang.specs.Naming.{AreNamedDecls, are_named_apart}
use Rattle.world_text.specs.Documents.{HasAscendingLists, named_of}
use Rattle.world_text.specs.Fitting.{are_listed, may_join}
use Rattle.world_text.specs.LineKinds.{NamedGroup}
use Rattle.world_text.specs.Lines.{IsNamedGroup}
use Rattle.world_text.specs.Meaning.{group_of, pools_named}
use Rattle.row_lang.specs.NameLists.{name_at, IsCalled, AreNamedOnce}
use Rattle.world_text.proofs.NamedPoolLemmas.{named_are_declared, named_rise, kept_by_names, told_back, names_formed}
use Rattle.row_lang.proofs.NameLemmas.{called_in}
use Rattle.row_lang.proofs.NameListLemmas.{times, one_if, times-cons, unnamed_counted}

-- three lists of declared components
pub declared_together : (count : ℕ) (own get without : List ℕ) → are_declared count own ≡ true → are_declared count get ≡ true → are_declared count without ≡ true → are_declared count (own ++ get ++ without) ≡ true
declared_together count own get without p q r =
    list_all-append _ (own ++ get) without ∙ and_from _ _ (list_all-append _ own get ∙ and_from _ _ p q) r

-- the group of names is one of declared components
pub group_declared : (decls : List Decl) (named : NamedGroup) → are_declared (length decls) (group_pools (group_of decls named)) ≡ true
group_declared decls named =
    declared_together (length decls) _ _ _ (named_are_declared decls named.own) (named_are_declared decls named.get) (named_are_declared decls named.without)

-- ---- groups that are lawful together

-- lawful groups with ascending lists
pub record AreSoundGroups (count : ℕ) (groups : List GroupDecl) : Type 0 where
  pub lawful : AreLawfulGroups count groups
  pub ascending : AllByRecursion HasAscendingLists groups

pub no_groups_sound : (count : ℕ) → AreSoundGroups count []
no_groups_sound count = record {
  lawful = record { few = omega arith; declared = tt; well_formed = tt; coexist = λ i j d less within. absurd (omega arith) };
  ascending = tt;
}

each_at : {X : Type 0} (p : X → Bool) (xs : List X) (k : ℕ) (d : X) → list_all p xs ≡ true → k < length xs → p (get_or xs k d) ≡ true
each_at p [] k d each within = absurd (omega arith)
each_at p (x ∷ xs) zero d each within = (and_parts (p x) (list_all p xs) each).0
each_at p (x ∷ xs) (suc k) d each within = each_at p xs k d (and_parts (p x) (list_all p xs) each).1 (omega arith)

-- a group of names that may join lawful ones
pub groups_push : (decls : List Decl) (groups : List GroupDecl) (named : NamedGroup) → may_join groups (group_of decls named) ≡ true → AreSoundGroups (length decls) groups → AreSoundGroups (length decls) (groups ++ group_of decls named ∷ [])
groups_push decls groups named joins sound =
    let decl = group_of decls named in
    let formed = and_parts (is_well_formed decl) (ltb (length groups) 32 && list_all (may_coexist decl) groups) joins in
    let beside = and_parts (ltb (length groups) 32) (list_all (may_coexist decl) groups) formed.1 in
    let room : length groups < 32 = ltb-true (length groups) 32 beside.0 in
    record {
      lawful = record {
        few = omega (arith, length-append groups (decl ∷ []));
        declared = all-append _ groups (decl ∷ []) sound.lawful.declared (group_declared decls named, tt);
        well_formed = all-append _ groups (decl ∷ []) sound.lawful.well_formed (formed.0, tt);
        coexist = all_pairs_push (λ (earlier later : GroupDecl). IsTrue (may_coexist later earlier)) groups decl sound.lawful.coexist (λ k d within. each_at (may_coexist decl) groups k d beside.1 within);
      };
      ascending = all-append HasAscendingLists groups (decl ∷ []) sound.ascending (record { own = named_rise decls named.own; get = named_rise decls named.get; without = named_rise decls named.without }, tt);
    }

-- ---- groups that their lines say

-- the names of a group's components stand for the group
pub record IsSaid (decls : List Decl) (decl : GroupDecl) : Type 0 where
  pub same : group_of decls (named_of decls decl) ≡ decl
  pub listed : are_listed decls (named_of decls decl) ≡ true
  pub is : IsNamedGroup (named_of decls decl)

-- a list of components, each told by its name, in ascending number, none twice
pub record IsTold (decls : List Decl) (pools : List ℕ) : Type 0 where
  pub called : All (IsCalled decls) pools
  pub once : AreNamedOnce pools
  pub ascending : IsNonDecreasing pools

told_same : (decls : List Decl) (pools : List ℕ) → are_named_apart decls ≡ true → IsTold decls pools → pools_named decls (map (name_at decls) pools) ≡ pools
told_same decls pools apart h = sym (kept_by_names decls pools pools apart h.called h.once (record { same = IsPermutation-refl pools; ascending = h.ascending }))

-- a group of such lists, which owns a component, is said by its line
pub group_said : (decls : List Decl) (decl : GroupDecl) → are_named_apart decls ≡ true → 0 < length decl.own → IsTold decls decl.own → IsTold decls decl.get → IsTold decls decl.without → IsSaid decls decl
group_said decls decl apart some own get without = record {
  same = λ i. record { own = told_same decls decl.own apart own i; get = told_same decls decl.get apart get i; without = told_same decls decl.without apart without i };
  listed = and_from _ _ (and_from _ _ (told_back decls decl.own apart own.called own.once) (told_back decls decl.get apart get.called get.once)) (told_back decls decl.without apart without.called without.once);
  is = record {
    own = names_formed decls decl.own own.called;
    get = names_formed decls decl.get get.called;
    without = names_formed decls decl.without without.called;
    some = omega (arith, length-map decl.own (name_at decls));
  };
}

-- ---- the groups of a lawful document

all_called : (decls : List Decl) (pools : List ℕ) → AreNamedDecls decls → are_declared (length decls) pools ≡ true → All (IsCalled decls) pools
all_called decls [] named declared = All-nil (IsCalled decls)
all_called decls (pool ∷ pools) named declared =
    let h = and_parts (ltb pool (length decls)) (are_declared (length decls) pools) declared in
    All-cons (IsCalled decls) pool pools (called_in decls pool named (ltb-true pool (length decls) h.0)) (all_called decls pools named h.1)

distinct_once : (pools : List ℕ) → are_distinct pools ≡ true → AreNamedOnce pools
distinct_once [] distinct k = omega arith
distinct_once (pool ∷ pools) distinct k =
    let h = and_parts (not (has_pool pools pool)) (are_distinct pools) distinct in
    let whole : times k (pool ∷ pools) ≡ one_if (pool == k) + times k pools = times-cons k pool pools in
    let few : times k pools ≤ 1 = distinct_once pools h.1 k in
    elim (cases_Bool (pool == k)) [
      | inl same ↦
          let none : times k pools ≡ 0 = subst (λ (q : ℕ). times q pools ≡ 0) (eqb-true pool k same) (unnamed_counted pool pools (not-true _ h.0)) in
          let one : one_if (pool == k) ≡ 1 = ap one_if same in
          omega arith
      | inr other ↦ (let none : one_if (pool == k) ≡ 0 = ap one_if other in omega arith)
    ]

-- where no pool stands twice over two lists, none does in either
distinct_front : (xs ys : List ℕ) → are_distinct (xs ++ ys) ≡ true → are_distinct xs ≡ true
distinct_front [] ys distinct = refl
distinct_front (x ∷ xs) ys distinct =
    let h = and_parts (not (has_pool (xs ++ ys) x)) (are_distinct (xs ++ ys)) distinct in
    let none = or_parts (has_pool xs x) (has_pool ys x) (sym (list_any-append (λ other. other == x) xs ys) ∙ not-true _ h.0) in
    and_from _ _ (not_from_false _ none.0) (distinct_front xs ys h.1)

distinct_back : (xs ys : List ℕ) → are_distinct (xs ++ ys) ≡ true → are_distinct ys ≡ true
distinct_back [] ys distinct = distinct
distinct_back (x ∷ xs) ys distinct = distinct_back xs ys (and_parts (not (has_pool (xs ++ ys) x)) (are_distinct (xs ++ ys)) distinct).1

lawful_said : (decls : List Decl) (decl : GroupDecl) → AreNamedDecls decls → are_declared (length decls) (group_pools decl) ≡ true → is_well_formed decl ≡ true → HasAscendingLists decl → IsSaid decls decl
lawful_said decls decl named declared formed ascending =
    let n = length decls in
    let inner = and_parts (are_declared n (decl.own ++ decl.get)) (are_declared n decl.without) (sym (list_all-append _ (decl.own ++ decl.get) decl.without) ∙ declared) in
    let both = and_parts (are_declared n decl.own) (are_declared n decl.get) (sym (list_all-append _ decl.own decl.get) ∙ inner.0) in
    let few = and_parts (ltb 0 (length decl.own) && are_distinct (group_pools decl)) (leb (length (group_pools decl)) 8) formed in
    let owns = and_parts (ltb 0 (length decl.own)) (are_distinct (group_pools decl)) few.0 in
    let front = distinct_front (decl.own ++ decl.get) decl.without owns.1 in
    group_said decls decl named.apart (ltb-true 0 (length decl.own) owns.0)
    (record { called = all_called decls decl.own named both.0; once = distinct_once decl.own (distinct_front decl.own decl.get front); ascending = ascending.own })
    (record { called = all_called decls decl.get named both.1; once = distinct_once decl.get (distinct_back decl.own decl.get front); ascending = ascending.get })
    (record { called = all_called decls decl.without named inner.1; once = distinct_once decl.without (distinct_back (decl.own ++ decl.get) decl.without owns.1); ascending = ascending.without })

-- each group of a lawful document is said by its line
pub lawful_groups_said : (decls : List Decl) (groups : List GroupDecl) → AreNamedDecls decls → AllByRecursion (λ decl. IsTrue (are_declared (length decls) (group_pools decl))) groups → AllByRecursion (λ decl. IsTrue (is_well_formed decl)) groups → AllByRecursion HasAscendingLists groups → AllByRecursion (IsSaid decls) groups
lawful_groups_said decls [] named declared formed ascending = tt
lawful_groups_said decls (decl ∷ groups) named declared formed ascending =
    (lawful_said decls decl named declared.0 formed.0 ascending.0, lawful_groups_said decls groups named declared.1 formed.1 ascending.1)

-- ---- lawful groups may be added one after another

-- the groups may be added to these, one after another
abbrev pub MayJoin : List GroupDecl → List GroupDecl → Type 0
MayJoin old [] = Unit {0}
MayJoin old (decl ∷ groups) = (may_join old decl ≡ true) × MayJoin (old ++ decl ∷ []) groups

all_from_each : {X : Type 0} (p : X → Bool) (xs : List X) → ((k : ℕ) (d : X) → k < length xs → p (get_or xs k d) ≡ true) → list_all p xs ≡ true
all_from_each p [] h = refl
all_from_each p (x ∷ xs) h = and_from _ _ (h 0 x (omega arith)) (all_from_each p xs (λ k d within. h (suc k) d (omega arith)))

-- groups of which any two may stand beside each other
abbrev pub MayCoexist : List GroupDecl → Type 0
MayCoexist groups = AllPairs (λ earlier later. IsTrue (may_coexist later earlier)) groups

pub lawful_join : (old groups : List GroupDecl) → length (old ++ groups) ≤ 32 → AllByRecursion (λ decl. IsTrue (is_well_formed decl)) groups → MayCoexist (old ++ groups) → MayJoin old groups
lawful_join old [] few formed coexist = tt
lawful_join old (decl ∷ groups) few formed coexist =
    let whole : old ++ decl ∷ groups ≡ (old ++ decl ∷ []) ++ groups = sym (append_assoc old (decl ∷ []) groups) in
    let beside : list_all (may_coexist decl) old ≡ true = all_from_each (may_coexist decl) old (λ k d within.
    (λ i. may_coexist (sym (get_or-append_seam old decl groups d) i) (sym (get_or-append old (decl ∷ groups) d k within) i))
    ∙ coexist k (length old) d within (omega (arith, length-append old (decl ∷ groups)))) in (
      and_from _ _ formed.0 (and_from _ _ (lt-ltb (length old) 32 (omega (arith, few, length-append old (decl ∷ groups)))) beside),
      lawful_join (old ++ decl ∷ []) groups (subst (λ (all : List GroupDecl). length all ≤ 32) whole few) formed.1 (subst MayCoexist whole coexist),
    )
