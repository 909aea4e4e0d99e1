-- The lists of a system in a line: their text, and which are admissible.
use Rattle.std.proofs.Common.{◌≡◌, inl, inr, ℕ, ◌+◌, ◌<◌, ◌≤◌, ltb, true, false, List, [], ◌∷◌, ◌++◌, All, map, get_or, leb, length, codes, refl, sym, ap, ap₂, subst, ◌∙◌, arith}
use Rattle.std.specs.List.{AllByRecursion}
use Rattle.std.proofs.lemmas.Bool.{cases_Bool, and_parts, and_from, leb-true, lt-ltb, ltb-true, false≢true}
use Rattle.std.proofs.lemmas.List.{append-nil, append_cancel_left, length-map}
use Rattle.std.proofs.lemmas.List.Elements.{All-nil, All-cons, All-head, All-tail}
use Rattle.std.proofs.lemmas.List.Sorted.{length_permutation}
use Rattle.world_model.specs.declared.access.Access.{Access}
use Rattle.world_model.specs.declared.component.Decl.{Decl}
use Rattle.world_model.specs.Groups.{are_declared, are_distinct}
use Rattle.row_lang.specs.declared.access_list.AccessList.{AccessList}
use Rattle.row_lang.specs.declared.access_list.AccessList.TheVariants as list
use Rattle.row_lang.specs.BodyLines.{BodyLine, Lists, Do, Close}
use Rattle.row_lang.specs.Drafts.{TakesLine, RefusesLine}
use Rattle.row_lang.specs.Naming.{AreNamedDecls, names_of}
use Rattle.row_lang.specs.NameLists.{IsCalled, names_text, spaced_names}
use Rattle.row_lang.specs.Reading.{AreSomeNext, IsKeptAs}
use Rattle.row_lang.specs.Spelling.{body_line_text, line_limit, list_word, name_in, tokens_text}
use Rattle.row_lang.specs.Systems.{Draft, admits, has_room, listed, may_list, may_list_behind, part_of, with_list}
use Rattle.row_lang.proofs.AscendingLemmas.{distinct_of_once, kept_ascending, once_of_distinct}
use Rattle.row_lang.proofs.NameLemmas.{called_in}
use Rattle.row_lang.proofs.NameListLemmas.{one_some, pools_called, pools_of_text, pools_spelled}
use Rattle.row_lang.proofs.TokenLemmas.{name_is}

-- ---- text

-- names by the table are names by the components
pub names_are : (decls : List Decl) (pools : List ℕ) → spaced_names (map (name_in (names_of decls)) pools) ≡ names_text decls pools
names_are decls [] = refl
names_are decls (pool ∷ pools) = ap₂ (λ (name rest : List ℕ). (32 ∷ name) ++ rest) (name_is decls pool) (names_are decls pools)

-- a line that begins with a list's word is that list's
pub record IsListLine (names : List (List ℕ)) (of : AccessList) (rest : List ℕ) (line : BodyLine) : Type 0 where
  pub pools : List ℕ
  pub is : line ≡ Lists of pools
  pub spelled : rest ≡ spaced_names (map (name_in names) pools)

-- what the first byte of a list's word is
abbrev first_byte : List ℕ → ℕ
first_byte text = get_or text 0 0

same_list : (names : List (List ℕ)) (of other : AccessList) (rest pools : List ℕ) → list_word of ++ rest ≡ list_word other ++ spaced_names (map (name_in names) pools) → of ≡ other
same_list names list.Read list.Read rest pools e = refl
same_list names list.Write list.Write rest pools e = refl
same_list names list.Look list.Look rest pools e = refl
same_list names list.Without list.Without rest pools e = refl
same_list names list.Read list.Write rest pools e = absurd (omega (arith, ap first_byte e))
same_list names list.Read list.Look rest pools e = absurd (omega (arith, ap first_byte e))
same_list names list.Read list.Without rest pools e = absurd (omega (arith, ap first_byte e))
same_list names list.Write list.Read rest pools e = absurd (omega (arith, ap first_byte e))
same_list names list.Write list.Look rest pools e = absurd (omega (arith, ap first_byte e))
same_list names list.Write list.Without rest pools e = absurd (omega (arith, ap first_byte e))
same_list names list.Look list.Read rest pools e = absurd (omega (arith, ap first_byte e))
same_list names list.Look list.Write rest pools e = absurd (omega (arith, ap first_byte e))
same_list names list.Look list.Without rest pools e = absurd (omega (arith, ap first_byte e))
same_list names list.Without list.Read rest pools e = absurd (omega (arith, ap first_byte e))
same_list names list.Without list.Write rest pools e = absurd (omega (arith, ap first_byte e))
same_list names list.Without list.Look rest pools e = absurd (omega (arith, ap first_byte e))

pub no_do : (of : AccessList) (rest text : List ℕ) → list_word of ++ rest ≡ codes "do" ++ text → ⊥
no_do list.Read rest text e = omega (arith, ap first_byte e)
no_do list.Write rest text e = omega (arith, ap first_byte e)
no_do list.Look rest text e = omega (arith, ap first_byte e)
no_do list.Without rest text e = omega (arith, ap first_byte e)

pub no_close : (of : AccessList) (rest : List ℕ) → list_word of ++ rest ≡ codes "end" → ⊥
no_close list.Read rest e = omega (arith, ap first_byte e)
no_close list.Write rest e = omega (arith, ap first_byte e)
no_close list.Look rest e = omega (arith, ap first_byte e)
no_close list.Without rest e = omega (arith, ap first_byte e)

pub line_of_list : (names : List (List ℕ)) (of : AccessList) (rest : List ℕ) (line : BodyLine) → list_word of ++ rest ≡ body_line_text names line → IsListLine names of rest line
line_of_list names of rest (Lists other pools) e =
    let same = same_list names of other rest pools e in
    record {
      pools = pools;
      is = ap (λ o. Lists o pools) (sym same);
      spelled = append_cancel_left (list_word of) rest (spaced_names (map (name_in names) pools)) (e ∙ ap (λ o. list_word o ++ spaced_names (map (name_in names) pools)) (sym same));
    }
line_of_list names of rest (Do tokens) e = absurd (no_do of rest (tokens_text names tokens) e)
line_of_list names of rest Close e = absurd (no_close of rest e)

-- ---- which lists are admissible

called_all : (decls : List Decl) (pools : List ℕ) → AreNamedDecls decls → are_declared (length decls) pools ≡ true → All (IsCalled decls) pools
called_all decls [] named declared = All-nil (IsCalled decls)
called_all decls (pool ∷ pools) named declared =
    let parts = and_parts (ltb pool (length decls)) (are_declared (length decls) pools) declared in
    All-cons (IsCalled decls) pool pools (called_in decls pool named (ltb-true pool (length decls) parts.0)) (called_all decls pools named parts.1)

declared_all : (decls : List Decl) (pools : List ℕ) → All (IsCalled decls) pools → are_declared (length decls) pools ≡ true
declared_all decls [] called = refl
declared_all decls (pool ∷ pools) called =
    and_from (ltb pool (length decls)) (are_declared (length decls) pools)
    (lt-ltb pool (length decls) (All-head (IsCalled decls) pool pools called).declared)
    (declared_all decls pools (All-tail (IsCalled decls) pool pools called))

-- what makes a list admissible
pub record IsAdmissible (decls : List Decl) (draft : Draft) (of : AccessList) (pools : List ℕ) : Type 0 where
  pub behind : may_list_behind draft.part of ≡ true
  pub some : 0 < length pools
  pub declared : are_declared (length decls) pools ≡ true
  pub distinct : are_distinct pools ≡ true
  pub room : has_room draft.system.access of pools ≡ true

pub admissible : (decls : List Decl) (draft : Draft) (of : AccessList) (pools : List ℕ) → admits decls draft (Lists of pools) ≡ true → IsAdmissible decls draft of pools
admissible decls draft of pools h =
    let all = and_parts (may_list_behind draft.part of) (may_list (length decls) draft.system.access of pools) h in
    let room = and_parts _ (has_room draft.system.access of pools) all.1 in
    let distinct = and_parts _ (are_distinct pools) room.0 in
    let declared = and_parts (ltb 0 (length pools)) (are_declared (length decls) pools) distinct.0 in
    record { behind = all.0; some = ltb-true 0 (length pools) declared.0; declared = declared.1; distinct = distinct.1; room = room.1 }

pub is_admitted : (decls : List Decl) (draft : Draft) (of : AccessList) (pools : List ℕ) → IsAdmissible decls draft of pools → admits decls draft (Lists of pools) ≡ true
is_admitted decls draft of pools h =
    and_from (may_list_behind draft.part of) (may_list (length decls) draft.system.access of pools) h.behind
    (and_from _ (has_room draft.system.access of pools) (and_from _ (are_distinct pools) (and_from (ltb 0 (length pools)) (are_declared (length decls) pools) (lt-ltb 0 (length pools) h.some) h.declared) h.distinct) h.room)

-- names of an admissible list stand one after another in its text
pub names_of_list : (decls : List Decl) (draft : Draft) (of : AccessList) (pools : List ℕ) → AreNamedDecls decls → IsAdmissible decls draft of pools → AreSomeNext decls [] (spaced_names (map (name_in (names_of decls)) pools)) pools []
names_of_list decls draft of pools named h =
    let spelled = names_are decls pools ∙ sym (append-nil (names_text decls pools)) in
    record {
      names = record {
        next = pools_of_text decls _ pools [] (called_all decls pools named h.declared) tt spelled;
        once = once_of_distinct pools h.distinct;
        last = λ pool more next. absurd (omega (arith, ap length next.whole));
      };
      some = h.some;
    }

-- ---- what a reader of a list finds

module _ (decls : List Decl) (draft : Draft) (of : AccessList) (names : List ℕ) (named : AreNamedDecls decls) where
  -- a line of this text, where it is admissible, has the names of its list one after another
  line_names : (line : BodyLine) → list_word of ++ names ≡ body_line_text (names_of decls) line → admits decls draft line ≡ true → (pools : List ℕ) × IsAdmissible decls draft of pools × AreSomeNext decls [] names pools []
  line_names line e fit =
      let h = line_of_list (names_of decls) of names line e in
      let is = admissible decls draft of h.pools (ap (admits decls draft) (sym h.is) ∙ fit) in
      (h.pools, is, subst (λ (t : List ℕ). AreSomeNext decls [] t h.pools []) (sym h.spelled) (names_of_list decls draft of h.pools named is))

  pub refuses_list : ((pools : List ℕ) → IsAdmissible decls draft of pools → AreSomeNext decls [] names pools [] → ⊥) → RefusesLine decls draft (list_word of ++ names)
  refuses_list none line is e = elim (cases_Bool (admits decls draft line)) [
    | inr refused ↦ refused
    | inl fit ↦ (let h = line_names line e fit in absurd (none h.0 h.1 h.2))
  ]

  pub refuses_names : ((pools rest : List ℕ) → AreSomeNext decls [] names pools rest → ⊥) → RefusesLine decls draft (list_word of ++ names)
  refuses_names none = refuses_list (λ pools is next. none pools [] next)

  pub refuses_rest : (pools rest : List ℕ) → AreSomeNext decls [] names pools rest → (rest ≡ [] → ⊥) → RefusesLine decls draft (list_word of ++ names)
  refuses_rest pools rest first more = refuses_list (λ others is next. more (one_some decls [] names pools rest others [] first next).1)

  pub refuses_room : (pools rest : List ℕ) → AreSomeNext decls [] names pools rest → has_room draft.system.access of pools ≡ false → RefusesLine decls draft (list_word of ++ names)
  refuses_room pools rest first full = refuses_list (λ others is next.
      let same = (one_some decls [] names pools rest others [] first next).0 in
      false≢true (sym full ∙ ap (has_room draft.system.access of) same ∙ is.room))

  pub takes_list : (pools kept : List ℕ) → length (list_word of ++ names) ≤ line_limit → may_list_behind draft.part of ≡ true → AreSomeNext decls [] names pools [] → has_room draft.system.access of pools ≡ true → IsKeptAs pools kept → (new : Draft)
      → new ≡ record { part = part_of of; system = record draft.system { access = with_list draft.system.access of kept } } → TakesLine decls draft (list_word of ++ names) new
  takes_list pools kept short behind next room h new is =
      let called = pools_called decls names pools [] next.names.next in
      let declared = declared_all decls pools called in
      let spelled : names ≡ spaced_names (map (name_in (names_of decls)) pools) = pools_spelled decls names pools [] next.names.next ∙ append-nil (names_text decls pools) ∙ sym (names_are decls pools) in
      let whole : list_word of ++ names ≡ body_line_text (names_of decls) (Lists of pools) = ap (λ (t : List ℕ). list_word of ++ t) spelled in
      record {
        line = Lists of pools;
        is = record { spelled = in_table decls pools called; short = subst (λ (t : List ℕ). length t ≤ 4096) whole short };
        spelled = whole;
        admitted = is_admitted decls draft of pools (record { behind = behind; some = next.some; declared = declared; distinct = distinct_of_once pools next.names.once; room = room });
        stands = is ∙ ap (λ (l : List ℕ). record { part = part_of of; system = record draft.system { access = with_list draft.system.access of l } }) (kept_ascending (length decls) pools kept declared next.names.once h);
      }
    where
      in_table : (decls : List Decl) (pools : List ℕ) → All (IsCalled decls) pools → AllByRecursion (λ pool. pool < length (names_of decls)) pools
      in_table decls [] called = tt
      in_table decls (pool ∷ pools) called =
          let head = (All-head (IsCalled decls) pool pools called).declared in
          (subst (λ n. pool < n) (sym (length-map decls (λ (d : Decl). d.name))) head, in_table decls pools (All-tail (IsCalled decls) pool pools called))

-- one more list makes the lists no longer than by its names
pub listed_with : (access : Access) (of : AccessList) (order kept : List ℕ) → IsKeptAs order kept → has_room access of order ≡ true → listed (with_list access of kept) ≤ 16
listed_with access of order kept h room =
    let most = leb-true (listed access + length order) 16 (and_parts _ (leb (listed access + length order) 16) room).1 in
    let long = length_permutation order kept h.same in
    omega (arith, grows access of kept)
  where
    grows : (access : Access) (of : AccessList) (kept : List ℕ) → listed (with_list access of kept) ≤ listed access + length kept
    grows access list.Read kept = omega arith
    grows access list.Write kept = omega arith
    grows access list.Look kept = omega arith
    grows access list.Without kept = omega arith
