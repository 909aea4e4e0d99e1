-- A group line as it is read: what the line's reader and the draft say of it.
use Rattle.std.proofs.Common.{◌≡◌, inl, inr, ℕ, ◌+◌, ◌*◌, ◌≤◌, leb, ltb, true, List, [], ◌∷◌, ◌++◌, All, map, length, length-append, codes, sym, ap, subst, ◌∙◌, arith, IsPermutation}
use Rattle.std.specs.Prelude.{◌&&◌}
use Rattle.std.specs.List.{flat_map, list_all, AllByRecursion}
use Rattle.std.proofs.lemmas.Bool.{cases_Bool, and_parts, and_from, leb-true, ltb-true}
use Rattle.std.proofs.lemmas.List.{length-map}
use Rattle.std.proofs.lemmas.List.Elements.{All-head, All-tail}
use Rattle.std.proofs.lemmas.List.Sorted.{IsPermutation-sym, length_permutation}
use Rattle.entity_id.proofs.CutLemmas.{same_cut}
use Rattle.world_model.specs.declared.component.Decl.{Decl}
use Rattle.world_model.specs.declared.group.GroupDecl.{GroupDecl}
use Rattle.world_model.specs.Groups.{are_distinct, group_pools, is_well_formed}
use Rattle.world_model.specs.Names.{is_name, begins_with_letter, is_name_byte}
use Rattle.world_text.specs.declared.draft.Draft.{Draft}
use Rattle.world_text.specs.declared.section.Section.TheVariants as section
use Rattle.row_lang.specs.Naming.{are_named_apart}
use Rattle.world_text.specs.Documents.{named_of}
use Rattle.world_text.specs.Drafts.{TakesLine, RefusesOthers, TakesGroup, RefusesGroup}
use Rattle.world_text.specs.Fitting.{are_of_components, are_listed, may_join, fits, last_section}
use Rattle.world_text.specs.GroupLines.{group_text, IsGroupFirst, IsGroupList}
use Rattle.world_text.specs.LineKinds.{Line, NamedGroup}
use Rattle.world_text.specs.LineKinds as line
use Rattle.world_text.specs.Lines.{IsNamedGroup, lists_text}
use Rattle.world_text.specs.Meaning.{decl_in, groups_in, group_of, pools_named}
use Rattle.row_lang.specs.NameLists.{name_at, names_text, part_text, IsCalled, AreNamedOnce}
use Rattle.world_text.specs.Sections.{is_between}
use Rattle.world_text.proofs.GroupTextLemmas.{group_lacks, same_group_text}
use Rattle.world_text.proofs.NamedPoolLemmas.{told, told_back, names_formed, named_permuted, named_rise, kept_by_names, called_permuted, once_permuted}
use Rattle.world_text.proofs.PartLemmas.{refuses_group}

-- ---- a line that was read

-- a list that was read, by its names
record IsReadList (decls : List Decl) (order pools : List ℕ) : Type 0 where
  same : pools ≡ pools_named decls (map (name_at decls) order)
  called : All (IsCalled decls) order
  once : AreNamedOnce order

read_list : (decls : List Decl) (order pools : List ℕ) → are_named_apart decls ≡ true → IsPermutation order pools → IsGroupList decls pools → IsReadList decls order pools
read_list decls order pools apart same is =
    let called = called_permuted decls order pools same is.kept.called in
    let once = once_permuted order pools same is.once in
    record { same = kept_by_names decls order pools apart called once (record { same = same; ascending = is.kept.ascending }); called = called; once = once }

-- a group that was read, by the names of its line
record IsReadGroup (decls : List Decl) (text : List ℕ) (decl : GroupDecl) (after : List ℕ) : Type 0 where
  named : NamedGroup
  is : IsNamedGroup named
  same : decl ≡ group_of decls named
  listed : are_listed decls named ≡ true
  spelled : text ≡ lists_text named ++ 10 ∷ after

read_group : (decls : List Decl) (text : List ℕ) (decl : GroupDecl) (after : List ℕ) → are_named_apart decls ≡ true → IsGroupFirst decls text decl after → IsReadGroup decls text decl after
read_group decls text decl after apart first =
    let w = first.written in
    let own = read_list decls w.own decl.own apart first.same.own first.is.own in
    let get = read_list decls w.get decl.get apart first.same.get first.is.get in
    let without = read_list decls w.without decl.without apart first.same.without first.is.without in
    record {
      named = named_of decls w;
      is = record {
        own = names_formed decls w.own own.called;
        get = names_formed decls w.get get.called;
        without = names_formed decls w.without without.called;
        some = omega (arith, length-map w.own (name_at decls), length_permutation w.own decl.own first.same.own, first.is.some);
      };
      same = λ i. record { own = own.same i; get = get.same i; without = without.same i };
      listed = and_from _ _ (and_from _ _ (told_back decls w.own apart own.called own.once) (told_back decls w.get apart get.called get.once)) (told_back decls w.without apart without.called without.once);
      spelled = first.spelled;
    }

-- a group that was read and added
pub group_taken : (old new : Draft) (text : List ℕ) (decl : GroupDecl) (after : List ℕ) → IsGroupFirst old.decls.items text decl after → TakesGroup old decl new → TakesLine old (codes "group" ++ text) after new
group_taken old new text decl after first taken =
    let g = read_group old.decls.items text decl after old.named.apart first in
    record {
      line = line.Group g.named;
      is = g.is;
      spelled = ap (λ (t : List ℕ). codes "group" ++ t) g.spelled;
      taken = taken g.named g.same g.listed;
    }

-- a group that was read and not added
pub group_not_added : (draft : Draft) (text : List ℕ) (decl : GroupDecl) (after : List ℕ) → IsGroupFirst draft.decls.items text decl after → RefusesGroup draft decl → RefusesOthers draft (codes "group" ++ text)
group_not_added draft text decl after first refused =
    let g = read_group draft.decls.items text decl after draft.named.apart first in
    refuses_group draft text (λ named more is e.
    let cut = same_cut 10 (lists_text g.named) (lists_text named) after more (group_lacks g.named g.is) (group_lacks named is) (sym g.spelled ∙ e) in
    let one = same_group_text g.named named g.is is cut.0 in
    refused named (g.same ∙ ap (group_of draft.decls.items) one))

-- ---- a line that was not read

-- the components of names that fit
record IsToldList (decls : List Decl) (names : List (List ℕ)) : Type 0 where
  order : List ℕ
  are : names ≡ map (name_at decls) order
  same : IsPermutation order (pools_named decls names)
  is : IsGroupList decls (pools_named decls names)

told_list : (decls : List Decl) (names : List (List ℕ)) → are_named_apart decls ≡ true → AllByRecursion (λ name. is_name name ≡ true) names → are_of_components decls names ≡ true → IsToldList decls names
told_list decls names apart formed of =
    let h = told decls names apart formed of in
    let same : IsPermutation h.order (pools_named decls names) = subst (λ (ns : List (List ℕ)). IsPermutation h.order (pools_named decls ns)) (sym h.are) (named_permuted decls h.order apart h.called h.once) in
    let back = IsPermutation-sym h.order (pools_named decls names) same in
    record {
      order = h.order;
      are = h.are;
      same = same;
      is = record {
        kept = record { called = called_permuted decls (pools_named decls names) h.order back h.called; ascending = named_rise decls names };
        once = once_permuted (pools_named decls names) h.order back h.once;
      };
    }

-- ---- such a line is short

name_short : (name : List ℕ) → is_name name ≡ true → length name ≤ 32
name_short name is =
    let front = and_parts (begins_with_letter name && leb (length name) 32 && list_all is_name_byte name) _ is in
    let both = and_parts (begins_with_letter name && leb (length name) 32) (list_all is_name_byte name) front.0 in
    leb-true (length name) 32 (and_parts (begins_with_letter name) (leb (length name) 32) both.0).1

names_short : (decls : List Decl) (pools : List ℕ) → All (IsCalled decls) pools → length (names_text decls pools) ≤ 33 * length pools
names_short decls [] called = omega arith
names_short decls (pool ∷ pools) called =
    omega (arith, name_short (name_at decls pool) (All-head (IsCalled decls) pool pools called).named.form, names_short decls pools (All-tail (IsCalled decls) pool pools called), length-append (name_at decls pool) (names_text decls pools))

part_short : (word : List ℕ) (decls : List Decl) (pools : List ℕ) → All (IsCalled decls) pools → length (part_text word decls pools) ≤ length word + 33 * length pools
part_short word decls [] called = omega arith
part_short word decls (pool ∷ pools) called = omega (arith, length-append word (names_text decls (pool ∷ pools)), names_short decls (pool ∷ pools) called)

line_short : (decls : List Decl) (decl : GroupDecl) → All (IsCalled decls) decl.own → All (IsCalled decls) decl.get → All (IsCalled decls) decl.without → length (group_pools decl) ≤ 8 → length (codes "group" ++ group_text decls decl) ≤ 4096
line_short decls decl own get without few =
    let a = names_short decls decl.own own in
    let b = part_short (codes " get") decls decl.get get in
    let c = part_short (codes " not") decls decl.without without in
    omega (
      arith,
      a,
      b,
      c,
      few,
      length-append (decl.own ++ decl.get) decl.without,
      length-append decl.own decl.get,
      length-append (names_text decls decl.own) (part_text (codes " get") decls decl.get ++ part_text (codes " not") decls decl.without),
      length-append (part_text (codes " get") decls decl.get) (part_text (codes " not") decls decl.without),
    )

-- names that fit are a group that a line can have
fitting_is_first : (decls : List Decl) (groups : List GroupDecl) (text : List ℕ) (named : NamedGroup) (more : List ℕ) → are_named_apart decls ≡ true → IsNamedGroup named → text ≡ lists_text named ++ 10 ∷ more → are_listed decls named ≡ true → may_join groups (group_of decls named) ≡ true → IsGroupFirst decls text (group_of decls named) more
fitting_is_first decls groups text named more apart is spelled listed joins =
    let decl = group_of decls named in
    let last = and_parts (are_of_components decls named.own && are_of_components decls named.get) (are_of_components decls named.without) listed in
    let first = and_parts (are_of_components decls named.own) (are_of_components decls named.get) last.0 in
    let own = told_list decls named.own apart is.own first.0 in
    let get = told_list decls named.get apart is.get first.1 in
    let without = told_list decls named.without apart is.without last.1 in
    let formed = and_parts (is_well_formed decl) _ joins in
    let few = and_parts (ltb 0 (length decl.own) && are_distinct (group_pools decl)) (leb (length (group_pools decl)) 8) formed.0 in
    let owns = and_parts (ltb 0 (length decl.own)) (are_distinct (group_pools decl)) few.0 in
    let written : GroupDecl = record { own = own.order; get = get.order; without = without.order } in
    let same : named ≡ named_of decls written = (λ i. record { own = own.are i; get = get.are i; without = without.are i }) in
    record {
      is = record {
        some = ltb-true 0 (length decl.own) owns.0;
        own = own.is;
        get = get.is;
        without = without.is;
        short = line_short decls decl own.is.kept.called get.is.kept.called without.is.kept.called (leb-true (length (group_pools decl)) 8 few.1);
      };
      written = written;
      same = record { own = own.same; get = get.same; without = without.same };
      spelled = spelled ∙ ap (λ (t : List ℕ). t ++ 10 ∷ more) (ap lists_text same);
    }

-- where no group was read, none fits
pub group_not_read : (draft : Draft) (text : List ℕ) → ((decl : GroupDecl) (after : List ℕ) → IsGroupFirst draft.decls.items text decl after → ⊥) → RefusesOthers draft (codes "group" ++ text)
group_not_read draft text none = refuses_group draft text (λ named more is e before s.
    elim (cases_Bool (fits draft.format before (line.Group named))) [
      | inr none_fits ↦ none_fits
      | inl fit ↦
          let tests = and_parts (is_between section.Version section.Groups (last_section before)) (are_listed (flat_map decl_in before) named && may_join (groups_in before) (group_of (flat_map decl_in before) named)) fit in
          let both = and_parts (are_listed (flat_map decl_in before) named) (may_join (groups_in before) (group_of (flat_map decl_in before) named)) tests.1 in
          let listed : are_listed draft.decls.items named ≡ true = ap (λ (ds : List Decl). are_listed ds named) s.decls ∙ both.0 in
          let joins : may_join (groups_in before) (group_of draft.decls.items named) ≡ true = ap (λ (ds : List Decl). may_join (groups_in before) (group_of ds named)) s.decls ∙ both.1 in
          absurd (none (group_of draft.decls.items named) more (fitting_is_first draft.decls.items (groups_in before) text named more draft.named.apart is e listed joins))
    ])
