-- Owning groups in a line: the lists that a text begins with, and the text that lists spell.
use Rattle.std.proofs.Common.{◌≡◌, ◌≢◌, ℕ, ◌+◌, ◌-◌, ◌<◌, ◌≤◌, List, [], ◌∷◌, ◌++◌, All, drop, get_or, length, length-append, append_assoc, codes, refl, sym, ap, subst, ◌∙◌, arith}
use Rattle.std.specs.Prelude.{IsPermutation}
use Rattle.std.specs.List.{flat_map}
use Rattle.std.proofs.lemmas.List.{append_cancel_left}
use Rattle.std.proofs.lemmas.List.Concat.{length-flat_map}
use Rattle.std.proofs.lemmas.List.Sorted.{All-permutation, IsPermutation-sym, length_permutation, sum_by-IsPermutation}
use Rattle.world_model.specs.declared.component.Decl.{Decl}
use Rattle.world_model.specs.declared.group.GroupDecl.{GroupDecl}
use Rattle.row_lang.specs.NameLists.{name_at, names_text, part_text, IsCalled, AreNamedOnce}
use Rattle.world_text.specs.GroupLines.{group_text, IsGroupList, IsGroupLine, IsGroupWrittenAs, IsGroupFirst}
use Rattle.row_lang.specs.Reading.{EndsName, AreSomeNext, IsPartNext, IsKeptAs}
use Rattle.world_text.specs.ScriptReading.{AreGroupLists, IsGroupNext}
use Rattle.row_lang.proofs.KeptLemmas.{one_kept}
use Rattle.row_lang.proofs.NameListLemmas.{pools_of_text, pools_spelled, pools_called, one_some, one_part, part_spelled, part_called, part_once, part_of_text, part_ends, part_is_no_name, end_is_no_name, end_is_no_not}

-- ---- one group at the front of a text

-- a text begins with one group's lists
one_lists : (decls : List Decl) (text : List ℕ) (a b : GroupDecl) (x y : List ℕ) → AreGroupLists decls text a x → AreGroupLists decls text b y → (a.own ≡ b.own) × (a.get ≡ b.get) × (a.without ≡ b.without) × (x ≡ y)
one_lists decls text a b x y p q =
    let begins = append_cancel_left (codes " own") p.of_own q.of_own (sym p.begins ∙ q.begins) in
    let own = one_some decls [] p.of_own a.own p.behind_own b.own q.behind_own p.own (subst (λ (t : List ℕ). AreSomeNext decls [] t b.own q.behind_own) (sym begins) q.own) in
    let get = one_part decls [] (codes " get") p.behind_own a.get p.behind_get b.get q.behind_get p.get (subst (λ (t : List ℕ). IsPartNext decls [] (codes " get") t b.get q.behind_get) (sym own.1) q.get) in
    let without = one_part decls [] (codes " not") p.behind_get a.without x b.without y p.without (subst (λ (t : List ℕ). IsPartNext decls [] (codes " not") t b.without y) (sym get.1) q.without) in
    (own.0, get.0, without.0, without.1)

-- and one group is kept of them
pub one_next : (decls : List Decl) (text : List ℕ) (a b : GroupDecl) (x y : List ℕ) → IsGroupNext decls text a x → IsGroupNext decls text b y → (a ≡ b) × (x ≡ y)
one_next decls text a b x y p q =
    let same = one_lists decls text p.written q.written x y p.lists q.lists in
    let own = one_kept p.written.own a.own b.own p.own (subst (λ (o : List ℕ). IsKeptAs o b.own) (sym same.0) q.own) in
    let get = one_kept p.written.get a.get b.get p.get (subst (λ (o : List ℕ). IsKeptAs o b.get) (sym same.1) q.get) in
    let without = one_kept p.written.without a.without b.without p.without (subst (λ (o : List ℕ). IsKeptAs o b.without) (sym same.2) q.without) in
    (λ i. record { own = own i; get = get i; without = without i }, same.3)

-- ---- the text that lists spell

lists_spelled : (decls : List Decl) (text : List ℕ) (written : GroupDecl) (rest : List ℕ) → AreGroupLists decls text written rest → text ≡ group_text decls written ++ rest
lists_spelled decls text written rest h =
    let own = names_text decls written.own in
    let get = part_text (codes " get") decls written.get in
    let without = part_text (codes " not") decls written.without in
    h.begins
    ∙ ap (λ (t : List ℕ). codes " own" ++ t) (pools_spelled decls h.of_own written.own h.behind_own h.own.names.next
    ∙ ap (λ (t : List ℕ). own ++ t) (part_spelled decls [] (codes " get") h.behind_own written.get h.behind_get h.get
    ∙ ap (λ (t : List ℕ). get ++ t) (part_spelled decls [] (codes " not") h.behind_get written.without rest h.without)
    ∙ sym (append_assoc get without rest))
    ∙ sym (append_assoc own (get ++ without) rest))

-- the word `get` doesn't stand where a line ends, or where the word `not` stands
no_get : (decls : List Decl) (pools rest more : List ℕ) → part_text (codes " not") decls pools ++ 10 ∷ rest ≢ codes " get" ++ more
no_get decls [] rest more e = omega (arith, ap (λ (t : List ℕ). get_or t 0 0) e)
no_get decls (pool ∷ pools) rest more e = omega (arith, ap (λ (t : List ℕ). get_or t 1 0) e)

-- a list as it is written
record IsWrittenList (decls : List Decl) (order : List ℕ) : Type 0 where
  pub called : All (IsCalled decls) order
  pub once : AreNamedOnce order

written_list : (decls : List Decl) (order pools : List ℕ) → IsPermutation order pools → IsGroupList decls pools → IsWrittenList decls order
written_list decls order pools same h = record {
  called = All-permutation (IsCalled decls) pools order (IsPermutation-sym order pools same) h.kept.called;
  once = λ pool. subst (λ (n : ℕ). n ≤ 1) (sum_by-IsPermutation _ order pools same) (h.once pool);
}

kept_list : (decls : List Decl) (order pools : List ℕ) → IsKeptAs order pools → All (IsCalled decls) order → AreNamedOnce order → IsGroupList decls pools
kept_list decls order pools kept called once = record {
  kept = record { called = All-permutation (IsCalled decls) order pools kept.same called; ascending = kept.ascending };
  once = λ pool. subst (λ (n : ℕ). n ≤ 1) (sym (sum_by-IsPermutation _ order pools kept.same)) (once pool);
}

-- the lists of a group stand one after another in its text
lists_of_text : (decls : List Decl) (text : List ℕ) (group written : GroupDecl) (rest : List ℕ) → IsGroupLine decls group → IsGroupWrittenAs group written → text ≡ group_text decls written ++ 10 ∷ rest → AreGroupLists decls text written (10 ∷ rest)
lists_of_text decls text group written rest is same e =
    let names = names_text decls written.own in
    let get = part_text (codes " get") decls written.get in
    let without = part_text (codes " not") decls written.without in
    let of_own = written_list decls written.own group.own same.own is.own in
    let of_get = written_list decls written.get group.get same.get is.get in
    let of_without = written_list decls written.without group.without same.without is.without in
    let long = length_permutation written.own group.own same.own in
    let behind_get = without ++ 10 ∷ rest in
    let behind_own = get ++ behind_get in
    let no_name_not = part_is_no_name decls (codes "not") written.without (10 ∷ rest) (refl, (refl, (refl, tt))) refl (end_is_no_name decls rest) in
    let no_name_get = part_is_no_name decls (codes "get") written.get behind_get (refl, (refl, (refl, tt))) refl no_name_not in
    let ends_not : EndsName behind_get = part_ends decls (codes "not") written.without (10 ∷ rest) refl in
    let ends_get : EndsName behind_own = part_ends decls (codes "get") written.get behind_get ends_not in
    record {
      of_own = names ++ behind_own;
      behind_own = behind_own;
      behind_get = behind_get;
      begins = e ∙ ap (λ (t : List ℕ). codes " own" ++ t) (append_assoc names (get ++ without) (10 ∷ rest) ∙ ap (λ (t : List ℕ). names ++ t) (append_assoc get without (10 ∷ rest)));
      own = record {
        names = record { next = pools_of_text decls (names ++ behind_own) written.own behind_own of_own.called ends_get refl; once = of_own.once; last = no_name_get };
        some = omega (arith, is.some);
      };
      get = part_of_text decls [] (codes " get") behind_own written.get behind_get of_get.called of_get.once ends_not (no_get decls written.without rest) no_name_not refl;
      without = part_of_text decls [] (codes " not") behind_get written.without (10 ∷ rest) of_without.called of_without.once refl (end_is_no_not rest) (end_is_no_name decls rest) refl;
    }

-- what stands behind the word `group` is a group's lists up to the end of the line
pub group_next : (decls : List Decl) (text : List ℕ) (group : GroupDecl) (rest : List ℕ) → IsGroupFirst decls text group rest → IsGroupNext decls text group (10 ∷ rest)
group_next decls text group rest h = record {
  written = h.written;
  lists = lists_of_text decls text group h.written rest h.is h.same h.spelled;
  own = record { same = h.same.own; ascending = h.is.own.kept.ascending };
  get = record { same = h.same.get; ascending = h.is.get.kept.ascending };
  without = record { same = h.same.without; ascending = h.is.without.kept.ascending };
}

-- a text begins with one group up to the end of a line
pub one_group : (decls : List Decl) (text : List ℕ) (a b : GroupDecl) (x y : List ℕ) → IsGroupFirst decls text a x → IsGroupFirst decls text b y → (a ≡ b) × (x ≡ y)
one_group decls text a b x y p q =
    let same = one_next decls text a b (10 ∷ x) (10 ∷ y) (group_next decls text a x p) (group_next decls text b y q) in
    (same.0, ap (drop 1) same.1)

-- ---- how long a group's line is

-- names of components, one component after another
names_by_component : (decls : List Decl) (pools : List ℕ) → names_text decls pools ≡ flat_map (λ (pool : ℕ). 32 ∷ name_at decls pool) pools
names_by_component decls [] = refl
names_by_component decls (pool ∷ pools) = ap (λ (t : List ℕ). (32 ∷ name_at decls pool) ++ t) (names_by_component decls pools)

-- names are as long in any order
names_length : (decls : List Decl) (order pools : List ℕ) → IsPermutation order pools → length (names_text decls pools) ≡ length (names_text decls order)
names_length decls order pools same =
    ap length (names_by_component decls pools)
    ∙ length-flat_map (λ (pool : ℕ). 32 ∷ name_at decls pool) pools
    ∙ sum_by-IsPermutation (λ pool. length (32 ∷ name_at decls pool)) order pools same
    ∙ sym (ap length (names_by_component decls order) ∙ length-flat_map (λ (pool : ℕ). 32 ∷ name_at decls pool) order)

part_length : (word : List ℕ) (decls : List Decl) (order pools : List ℕ) → IsPermutation order pools → length (part_text word decls pools) ≡ length (part_text word decls order)
part_length word decls [] [] same = refl
part_length word decls [] (p ∷ pools) same = absurd (omega (arith, length_permutation [] (p ∷ pools) same))
part_length word decls (o ∷ order) [] same = absurd (omega (arith, length_permutation (o ∷ order) [] same))
part_length word decls (o ∷ order) (p ∷ pools) same =
    length-append word (names_text decls (p ∷ pools)) ∙ ap (λ n. length word + n) (names_length decls (o ∷ order) (p ∷ pools) same)
    ∙ sym (length-append word (names_text decls (o ∷ order)))

-- a group's line is as long as it is written
pub group_length : (decls : List Decl) (group written : GroupDecl) → IsGroupWrittenAs group written → length (group_text decls group) ≡ length (group_text decls written)
group_length decls group written same =
    let own = names_length decls written.own group.own same.own in
    let get = part_length (codes " get") decls written.get group.get same.get in
    let without = part_length (codes " not") decls written.without group.without same.without in
    let here = length-append (names_text decls group.own) (part_text (codes " get") decls group.get ++ part_text (codes " not") decls group.without) in
    let here_parts = length-append (part_text (codes " get") decls group.get) (part_text (codes " not") decls group.without) in
    let there = length-append (names_text decls written.own) (part_text (codes " get") decls written.get ++ part_text (codes " not") decls written.without) in
    let there_parts = length-append (part_text (codes " get") decls written.get) (part_text (codes " not") decls written.without) in
    omega arith

-- ---- what a reader of a group finds

written_as : (decls : List Decl) (text : List ℕ) (group : GroupDecl) (rest : List ℕ) → (h : IsGroupNext decls text group rest) → IsGroupWrittenAs group h.written
written_as decls text group rest h = record { own = h.own.same; get = h.get.same; without = h.without.same }

-- the lists of a group are a front of the text
pub lists_length : (decls : List Decl) (text : List ℕ) (group : GroupDecl) (rest : List ℕ) → IsGroupNext decls text group rest → length text ≡ length (group_text decls group) + length rest
lists_length decls text group rest h =
    let whole = ap length (lists_spelled decls text h.written rest h.lists) in
    let parts = length-append (group_text decls h.written) rest in
    let same = group_length decls group h.written (written_as decls text group rest h) in
    omega arith

-- a group whose lists stand in a line that is short enough
pub group_first : (decls : List Decl) (text : List ℕ) (group : GroupDecl) (behind rest : List ℕ) → IsGroupNext decls text group behind → behind ≡ codes "\n" ++ rest → length text - length behind ≤ 4091 → IsGroupFirst decls text group rest
group_first decls text group behind rest h ended short =
    let written = h.written in
    let lists = h.lists in
    let long = lists_length decls text group behind h in
    let some = length_permutation written.own group.own h.own.same in
    record {
      is = record {
        some = omega (arith, lists.own.some);
        own = kept_list decls written.own group.own h.own (pools_called decls lists.of_own written.own lists.behind_own lists.own.names.next) lists.own.names.once;
        get = kept_list decls written.get group.get h.get (part_called decls [] (codes " get") lists.behind_own written.get lists.behind_get lists.get) (part_once decls [] (codes " get") lists.behind_own written.get lists.behind_get (λ pool. omega arith) lists.get);
        without = kept_list decls written.without group.without h.without (part_called decls [] (codes " not") lists.behind_get written.without behind lists.without) (part_once decls [] (codes " not") lists.behind_get written.without behind (λ pool. omega arith) lists.without);
        short = omega arith;
      };
      written = written;
      same = written_as decls text group behind h;
      spelled = lists_spelled decls text written behind lists ∙ ap (λ (t : List ℕ). group_text decls written ++ t) ended;
    }

-- a line that is too long
pub group_too_long : (decls : List Decl) (text : List ℕ) (group : GroupDecl) (behind : List ℕ) → IsGroupNext decls text group behind → 4091 < length text - length behind → (other : GroupDecl) (rest : List ℕ) → IsGroupFirst decls text other rest → ⊥
group_too_long decls text group behind h long other rest f =
    let next = group_next decls text other rest f in
    let same = one_next decls text group other behind (10 ∷ rest) h next in
    let here = lists_length decls text other (10 ∷ rest) next in
    let left = ap length same.1 in
    omega (arith, f.is.short)

-- lists that don't end with the line
pub group_unended : (decls : List Decl) (text : List ℕ) (group : GroupDecl) (behind : List ℕ) → IsGroupNext decls text group behind → ((rest : List ℕ) → behind ≢ codes "\n" ++ rest) → (other : GroupDecl) (rest : List ℕ) → IsGroupFirst decls text other rest → ⊥
group_unended decls text group behind h none other rest f = none rest (one_next decls text group other behind (10 ∷ rest) h (group_next decls text other rest f)).1

-- ---- lists that aren't there

pub no_own_list : (decls : List Decl) (text of_own : List ℕ) → text ≡ codes " own" ++ of_own → ((pools rest : List ℕ) → AreSomeNext decls [] of_own pools rest → ⊥) → (group : GroupDecl) (rest : List ℕ) → IsGroupNext decls text group rest → ⊥
no_own_list decls text of_own begins none group rest h =
    let same = append_cancel_left (codes " own") h.lists.of_own of_own (sym h.lists.begins ∙ begins) in
    none h.written.own h.lists.behind_own (subst (λ (t : List ℕ). AreSomeNext decls [] t h.written.own h.lists.behind_own) same h.lists.own)

-- behind the names of the owned components
behind_own_is : (decls : List Decl) (text of_own own behind : List ℕ) → text ≡ codes " own" ++ of_own → AreSomeNext decls [] of_own own behind → (written : GroupDecl) (rest : List ℕ) → (h : AreGroupLists decls text written rest) → behind ≡ h.behind_own
behind_own_is decls text of_own own behind begins first written rest h =
    let same = append_cancel_left (codes " own") h.of_own of_own (sym h.begins ∙ begins) in
    (one_some decls [] of_own own behind written.own h.behind_own first (subst (λ (t : List ℕ). AreSomeNext decls [] t written.own h.behind_own) same h.own)).1

pub no_get_list : (decls : List Decl) (text of_own own behind : List ℕ) → text ≡ codes " own" ++ of_own → AreSomeNext decls [] of_own own behind → ((pools rest : List ℕ) → IsPartNext decls [] (codes " get") behind pools rest → ⊥) → (group : GroupDecl) (rest : List ℕ) → IsGroupNext decls text group rest → ⊥
no_get_list decls text of_own own behind begins first none group rest h =
    none h.written.get h.lists.behind_get (subst (λ (t : List ℕ). IsPartNext decls [] (codes " get") t h.written.get h.lists.behind_get) (sym (behind_own_is decls text of_own own behind begins first h.written rest h.lists)) h.lists.get)

pub no_not_list : (decls : List Decl) (text of_own own behind get left : List ℕ) → text ≡ codes " own" ++ of_own → AreSomeNext decls [] of_own own behind → IsPartNext decls [] (codes " get") behind get left → ((pools rest : List ℕ) → IsPartNext decls [] (codes " not") left pools rest → ⊥) → (group : GroupDecl) (rest : List ℕ) → IsGroupNext decls text group rest → ⊥
no_not_list decls text of_own own behind get left begins first second none group rest h =
    let here = behind_own_is decls text of_own own behind begins first h.written rest h.lists in
    let same = one_part decls [] (codes " get") behind get left h.written.get h.lists.behind_get second (subst (λ (t : List ℕ). IsPartNext decls [] (codes " get") t h.written.get h.lists.behind_get) (sym here) h.lists.get) in
    none h.written.without rest (subst (λ (t : List ℕ). IsPartNext decls [] (codes " not") t h.written.without rest) (sym same.1) h.lists.without)
