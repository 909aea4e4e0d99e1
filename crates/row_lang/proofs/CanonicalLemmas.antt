-- The canonical lines of a system are admissible, and stand for it.
use Rattle.std.proofs.Common.{◌≡◌, ℕ, ◌+◌, ◌<◌, ◌≤◌, eqb, leb, ltb, true, not, ◌&&◌, List, [], ◌∷◌, ◌++◌, map, length, length-append, refl, sym, ap, subst, ◌∙◌, arith, append_assoc}
use Rattle.std.specs.Prelude.{if◌then◌else◌, IsPermutation}
use Rattle.std.specs.List.{flat_map, AllByRecursion}
use Rattle.std.proofs.lemmas.Bool.{and_parts, leb-true, ltb-true}
use Rattle.std.proofs.lemmas.List.{append-nil, map-append}
use Rattle.std.proofs.lemmas.List.Concat.{length-flat_map}
use Rattle.std.proofs.lemmas.List.Sorted.{length_permutation, list_any-IsPermutation, sum_by-IsPermutation}
use Rattle.world_model.specs.declared.access.Access.{Access}
use Rattle.world_model.specs.declared.component.Decl.{Decl}
use Rattle.world_model.specs.Groups.{are_declared, has_pool}
use Rattle.row_lang.specs.declared.access_list.AccessList.{AccessList}
use Rattle.row_lang.specs.declared.access_list.AccessList.TheVariants as list
use Rattle.row_lang.specs.declared.part.Part.{Part}
use Rattle.row_lang.specs.declared.part.Part.TheVariants as part
use Rattle.row_lang.specs.BodyLines.{BodyLine, Lists, Do, Close}
use Rattle.row_lang.specs.Naming.{names_of}
use Rattle.row_lang.specs.NameLists.{spaced_names}
use Rattle.row_lang.specs.Spelling.{IsBodyLine, list_word, name_in}
use Rattle.row_lang.specs.Systems.{Draft, System, IsSystemOf, access_lines, admits, after_line, after_lines, are_admitted, ascending, barred, begun, body_lines, is_closed, list_lines, listed, may_do_behind, may_list_behind, order, part_of, with_list}
use Rattle.row_lang.proofs.AscendingLemmas.{ascending_again, ascending_permuted, below_all, distinct_of_once, once_of_distinct}
use Rattle.row_lang.proofs.DeclaredLemmas.{table_length}
use Rattle.row_lang.proofs.DoLineLemmas as do_lines
use Rattle.row_lang.proofs.DraftLemmas.{admitted_more, after_more, each_more}
use Rattle.row_lang.proofs.ListLineLemmas.{IsAdmissible, admissible, is_admitted}
use Rattle.row_lang.proofs.NameListLemmas.{one_if}

-- ---- parts that were not reached are empty

pub record IsOrdered (draft : Draft) : Type 0 where
  pub read : order draft.part < 1 → draft.system.access.read ≡ []
  pub write : order draft.part < 2 → draft.system.access.write ≡ []
  pub look : order draft.part < 3 → draft.system.access.look ≡ []
  pub without : order draft.part < 4 → draft.system.access.without ≡ []
  pub statements : order draft.part < 5 → draft.system.statements ≡ []

pub ordered_begun : (name : List ℕ) → IsOrdered (begun name)
ordered_begun name = record { read = λ _. refl; write = λ _. refl; look = λ _. refl; without = λ _. refl; statements = λ _. refl }

between : (low high n : ℕ) → (leb low n && leb n high) ≡ true → n ≤ high
between low high n h = leb-true n high (and_parts (leb low n) (leb n high) h).1

-- a list's line stands before the parts behind it
pub before_list : (behind : Part) (of : AccessList) → may_list_behind behind of ≡ true → order behind < order (part_of of)
before_list behind list.Read h = (let most = between 0 0 (order behind) h in omega arith)
before_list behind list.Write h = (let most = between 0 1 (order behind) h in omega arith)
before_list behind list.Look h = (let most = between 1 2 (order behind) h in omega arith)
before_list behind list.Without h = (let most = between 1 3 (order behind) h in omega arith)

before_end : (behind : Part) → may_do_behind behind ≡ true → order behind ≤ 5
before_end behind h = between 1 5 (order behind) h

pub ordered_after : (decls : List Decl) (draft : Draft) (line : BodyLine) → admits decls draft line ≡ true → IsOrdered draft → IsOrdered (after_line decls draft line)
ordered_after decls draft (Lists list.Read pools) fit h =
    let low = before_list draft.part list.Read (admissible decls draft list.Read pools fit).behind in
    record { read = λ n. absurd (omega (arith, n)); write = λ n. h.write (omega (arith, low)); look = λ n. h.look (omega (arith, low)); without = λ n. h.without (omega (arith, low)); statements = λ n. h.statements (omega (arith, low)) }
ordered_after decls draft (Lists list.Write pools) fit h =
    let low = before_list draft.part list.Write (admissible decls draft list.Write pools fit).behind in
    record { read = λ n. absurd (omega (arith, n)); write = λ n. absurd (omega (arith, n)); look = λ n. h.look (omega (arith, low)); without = λ n. h.without (omega (arith, low)); statements = λ n. h.statements (omega (arith, low)) }
ordered_after decls draft (Lists list.Look pools) fit h =
    let low = before_list draft.part list.Look (admissible decls draft list.Look pools fit).behind in
    record { read = λ n. absurd (omega (arith, n)); write = λ n. absurd (omega (arith, n)); look = λ n. absurd (omega (arith, n)); without = λ n. h.without (omega (arith, low)); statements = λ n. h.statements (omega (arith, low)) }
ordered_after decls draft (Lists list.Without pools) fit h =
    let low = before_list draft.part list.Without (admissible decls draft list.Without pools fit).behind in
    record { read = λ n. absurd (omega (arith, n)); write = λ n. absurd (omega (arith, n)); look = λ n. absurd (omega (arith, n)); without = λ n. absurd (omega (arith, n)); statements = λ n. h.statements (omega (arith, low)) }
ordered_after decls draft (Do tokens) fit h =
    record { read = λ n. absurd (omega (arith, n)); write = λ n. absurd (omega (arith, n)); look = λ n. absurd (omega (arith, n)); without = λ n. absurd (omega (arith, n)); statements = λ n. absurd (omega (arith, n)) }
ordered_after decls draft Close fit h =
    record { read = λ n. absurd (omega (arith, n)); write = λ n. absurd (omega (arith, n)); look = λ n. absurd (omega (arith, n)); without = λ n. absurd (omega (arith, n)); statements = λ n. absurd (omega (arith, n)) }

-- ---- the canonical lines of a draft

abbrev close_lines : Part → List BodyLine
close_lines reached = if leb 6 (order reached) && leb (order reached) 6 then Close ∷ [] else []

abbrev draft_lines : Draft → List BodyLine
draft_lines draft = access_lines draft.system.access ++ (map Do draft.system.statements ++ close_lines draft.part)

abbrev canonical : List Decl → BodyLine → BodyLine
canonical decls (Lists of pools) = Lists of (ascending (length decls) pools)
canonical decls (Do tokens) = Do tokens
canonical decls Close = Close

unclosed : (reached : Part) → order reached ≤ 5 → close_lines reached ≡ []
unclosed part.Begun h = refl
unclosed part.Read h = refl
unclosed part.Write h = refl
unclosed part.Look h = refl
unclosed part.Without h = refl
unclosed part.Do h = refl
unclosed part.Closed h = absurd (omega (arith, h))

listed_line : (of : AccessList) (pools : List ℕ) → 0 < length pools → list_lines of pools ≡ Lists of pools ∷ []
listed_line of [] some = absurd (omega (arith, some))
listed_line of (pool ∷ pools) some = refl

abbrev four : List ℕ → List ℕ → List ℕ → List ℕ → List BodyLine
four read write look without = access_lines (record { read = read; write = write; look = look; without = without })

-- one list behind those before it
list_behind : (access : Access) (of : AccessList) (pools : List ℕ) → 0 < length pools → (order (part_of of) ≤ 1 → access.read ≡ []) → (order (part_of of) ≤ 2 → access.write ≡ []) → (order (part_of of) ≤ 3 → access.look ≡ []) → (order (part_of of) ≤ 4 → access.without ≡ [])
    → access_lines (with_list access of pools) ≡ access_lines access ++ Lists of pools ∷ []
list_behind access list.Read pools some read write look without =
    (λ i. four pools (write (omega arith) i) (look (omega arith) i) (without (omega arith) i))
    ∙ append-nil (list_lines list.Read pools) ∙ listed_line list.Read pools some
    ∙ (λ i. four (sym (read (omega arith)) i) (sym (write (omega arith)) i) (sym (look (omega arith)) i) (sym (without (omega arith)) i) ++ Lists list.Read pools ∷ [])
list_behind access list.Write pools some read write look without =
    let front = list_lines list.Read access.read in
    (λ i. four access.read pools (look (omega arith) i) (without (omega arith) i))
    ∙ ap (λ (t : List BodyLine). front ++ t) (append-nil (list_lines list.Write pools) ∙ listed_line list.Write pools some)
    ∙ ap (λ (t : List BodyLine). t ++ Lists list.Write pools ∷ []) (sym (append-nil front))
    ∙ (λ i. four access.read (sym (write (omega arith)) i) (sym (look (omega arith)) i) (sym (without (omega arith)) i) ++ Lists list.Write pools ∷ [])
list_behind access list.Look pools some read write look without =
    let front = list_lines list.Read access.read in
    let middle = list_lines list.Write access.write in
    let line = Lists list.Look pools ∷ [] in
    (λ i. four access.read access.write pools (without (omega arith) i))
    ∙ ap (λ (t : List BodyLine). front ++ (middle ++ t)) (append-nil (list_lines list.Look pools) ∙ listed_line list.Look pools some)
    ∙ sym (append_assoc front middle line)
    ∙ ap (λ (t : List BodyLine). t ++ line) (ap (λ (t : List BodyLine). front ++ t) (sym (append-nil middle)))
    ∙ (λ i. four access.read access.write (sym (look (omega arith)) i) (sym (without (omega arith)) i) ++ line)
list_behind access list.Without pools some read write look without =
    let front = list_lines list.Read access.read in
    let middle = list_lines list.Write access.write in
    let last = list_lines list.Look access.look in
    let line = Lists list.Without pools ∷ [] in
    ap (λ (t : List BodyLine). front ++ (middle ++ (last ++ t))) (listed_line list.Without pools some)
    ∙ sym (append_assoc front (middle ++ last) line ∙ ap (λ (t : List BodyLine). front ++ t) (append_assoc middle last line))
    ∙ ap (λ (t : List BodyLine). (front ++ (middle ++ t)) ++ line) (sym (append-nil last))
    ∙ (λ i. four access.read access.write access.look (sym (without (omega arith)) i) ++ line)

-- ---- a canonical line in place of another

-- what a list's components in ascending number keep
record IsKeptList (decls : List Decl) (draft : Draft) (of : AccessList) (pools : List ℕ) : Type 0 where
  same : IsPermutation pools (ascending (length decls) pools)
  admitted : IsAdmissible decls draft of (ascending (length decls) pools)
  again : ascending (length decls) (ascending (length decls) pools) ≡ ascending (length decls) pools

kept_list : (decls : List Decl) (draft : Draft) (of : AccessList) (pools : List ℕ) → IsAdmissible decls draft of pools → IsKeptList decls draft of pools
kept_list decls draft of pools h =
    let once = once_of_distinct pools h.distinct in
    let kept = ascending (length decls) pools in
    let same = ascending_permuted (length decls) pools h.declared once in
    let long = length_permutation pools kept same in
    let barred_same = list_any-IsPermutation (has_pool (barred draft.system.access of)) pools kept same in
    record {
      same = same;
      again = ascending_again (length decls) pools h.declared once;
      admitted = record {
        behind = h.behind;
        some = omega (arith, h.some, long);
        declared = below_all (has_pool pools) (length decls) 0 (length decls) (omega arith);
        distinct = distinct_of_once kept (λ k. omega (arith, once k, sum_by-IsPermutation (λ other. one_if (eqb other k)) pools kept same));
        room = (λ i. not (sym barred_same i) && leb (listed draft.system.access + long i) 16) ∙ h.room;
      };
    }

canonical_admitted : (decls : List Decl) (draft : Draft) (line : BodyLine) → admits decls draft line ≡ true → admits decls draft (canonical decls line) ≡ true
canonical_admitted decls draft (Lists of pools) fit = is_admitted decls draft of (ascending (length decls) pools) (kept_list decls draft of pools (admissible decls draft of pools fit)).admitted
canonical_admitted decls draft (Do tokens) fit = fit
canonical_admitted decls draft Close fit = fit

canonical_after : (decls : List Decl) (draft : Draft) (line : BodyLine) → admits decls draft line ≡ true → after_line decls draft (canonical decls line) ≡ after_line decls draft line
canonical_after decls draft (Lists of pools) fit =
    let h = kept_list decls draft of pools (admissible decls draft of pools fit) in
    ap (λ (ps : List ℕ). record { part = part_of of; system = record draft.system { access = with_list draft.system.access of ps } }) h.again
canonical_after decls draft (Do tokens) fit = refl
canonical_after decls draft Close fit = refl

-- names are as long in any order
by_component : (names : List (List ℕ)) (pools : List ℕ) → spaced_names (map (name_in names) pools) ≡ flat_map (λ (pool : ℕ). 32 ∷ name_in names pool) pools
by_component names [] = refl
by_component names (pool ∷ pools) = ap (λ (t : List ℕ). (32 ∷ name_in names pool) ++ t) (by_component names pools)

names_length : (names : List (List ℕ)) (a b : List ℕ) → IsPermutation a b → length (spaced_names (map (name_in names) b)) ≡ length (spaced_names (map (name_in names) a))
names_length names a b same =
    ap length (by_component names b)
    ∙ length-flat_map (λ (pool : ℕ). 32 ∷ name_in names pool) b
    ∙ sum_by-IsPermutation (λ pool. length (32 ∷ name_in names pool)) a b same
    ∙ sym (ap length (by_component names a) ∙ length-flat_map (λ (pool : ℕ). 32 ∷ name_in names pool) a)

in_table : (decls : List Decl) (pools : List ℕ) → are_declared (length decls) pools ≡ true → AllByRecursion (λ pool. pool < length (names_of decls)) pools
in_table decls [] declared = tt
in_table decls (pool ∷ pools) declared =
    let parts = and_parts (ltb pool (length decls)) (are_declared (length decls) pools) declared in
    (subst (λ n. pool < n) (sym (table_length decls)) (ltb-true pool (length decls) parts.0), in_table decls pools parts.1)

canonical_is : (decls : List Decl) (draft : Draft) (line : BodyLine) → admits decls draft line ≡ true → IsBodyLine (names_of decls) line → IsBodyLine (names_of decls) (canonical decls line)
canonical_is decls draft (Lists of pools) fit is =
    let h = kept_list decls draft of pools (admissible decls draft of pools fit) in
    let names = names_of decls in
    let kept = ascending (length decls) pools in
    record {
      spelled = in_table decls kept h.admitted.declared;
      short = omega (arith, is.short, names_length names pools kept h.same, length-append (list_word of) (spaced_names (map (name_in names) pools)), length-append (list_word of) (spaced_names (map (name_in names) kept)));
    }
canonical_is decls draft (Do tokens) fit is = is
canonical_is decls draft Close fit is = is

lines_after : (decls : List Decl) (draft : Draft) (line : BodyLine) → admits decls draft line ≡ true → IsOrdered draft → draft_lines (after_line decls draft line) ≡ draft_lines draft ++ canonical decls line ∷ []
lines_after decls draft (Lists of pools) fit h =
    let is = admissible decls draft of pools fit in
    let kept = kept_list decls draft of pools is in
    let low = before_list draft.part of is.behind in
    let high = last of in
    let none = h.statements (omega (arith, low, high)) in
    let open_before = unclosed draft.part (omega (arith, low, high)) in
    let open_after = unclosed (part_of of) (omega (arith, high)) in
    let front = access_lines draft.system.access in
    let line = Lists of (ascending (length decls) pools) ∷ [] in
    let lists = list_behind draft.system.access of (ascending (length decls) pools) kept.admitted.some (λ n. h.read (omega (arith, low, n))) (λ n. h.write (omega (arith, low, n))) (λ n. h.look (omega (arith, low, n))) (λ n. h.without (omega (arith, low, n))) in
    (λ i. lists i ++ (map Do (none i) ++ open_after i)) ∙ append-nil (front ++ line)
    ∙ ap (λ (t : List BodyLine). t ++ line) (sym (append-nil front)) ∙ (λ i. (front ++ (map Do (sym none i) ++ sym open_before i)) ++ line)
  where
    last : (of : AccessList) → order (part_of of) ≤ 4
    last list.Read = omega arith
    last list.Write = omega arith
    last list.Look = omega arith
    last list.Without = omega arith
lines_after decls draft (Do tokens) fit h =
    let open_before = unclosed draft.part (before_end draft.part (do_lines.admissible decls draft tokens fit).behind) in
    let front = access_lines draft.system.access in
    let before = map Do draft.system.statements in
    let line = Do tokens ∷ [] in
    ap (λ (t : List BodyLine). front ++ t) (append-nil (map Do (draft.system.statements ++ tokens ∷ [])) ∙ map-append Do draft.system.statements (tokens ∷ []))
    ∙ sym (append_assoc front before line)
    ∙ ap (λ (t : List BodyLine). (front ++ t) ++ line) (sym (append-nil before) ∙ ap (λ (t : List BodyLine). before ++ t) (sym open_before))
lines_after decls draft Close fit h =
    let open_before = unclosed draft.part (before_end draft.part fit) in
    let front = access_lines draft.system.access in
    let before = map Do draft.system.statements in
    sym (append_assoc front before (Close ∷ []))
    ∙ ap (λ (t : List BodyLine). (front ++ t) ++ Close ∷ []) (sym (append-nil before) ∙ ap (λ (t : List BodyLine). before ++ t) (sym open_before))

-- ---- all lines

-- a draft is reached by its canonical lines
record IsCanonical (decls : List Decl) (name : List ℕ) (draft : Draft) : Type 0 where
  ordered : IsOrdered draft
  each : AllByRecursion (IsBodyLine (names_of decls)) (draft_lines draft)
  admitted : are_admitted decls (begun name) (draft_lines draft) ≡ true
  reached : after_lines decls (begun name) (draft_lines draft) ≡ draft

canonical_more : (decls : List Decl) (name : List ℕ) (draft : Draft) (line : BodyLine) → IsBodyLine (names_of decls) line → admits decls draft line ≡ true → IsCanonical decls name draft → IsCanonical decls name (after_line decls draft line)
canonical_more decls name draft line is fit h =
    let more = lines_after decls draft line fit h.ordered in
    let other = canonical decls line in
    record {
      ordered = ordered_after decls draft line fit h.ordered;
      each = subst (λ (ls : List BodyLine). AllByRecursion (IsBodyLine (names_of decls)) ls) (sym more) (each_more (IsBodyLine (names_of decls)) (draft_lines draft) other h.each (canonical_is decls draft line fit is));
      admitted = ap (are_admitted decls (begun name)) more
          ∙ admitted_more decls (begun name) (draft_lines draft) other h.admitted (ap (λ (d : Draft). admits decls d other) h.reached ∙ canonical_admitted decls draft line fit);
      reached = ap (after_lines decls (begun name)) more ∙ after_more decls (begun name) (draft_lines draft) other
          ∙ ap (λ (d : Draft). after_line decls d other) h.reached ∙ canonical_after decls draft line fit;
    }

canonical_all : (decls : List Decl) (name : List ℕ) (draft : Draft) (lines : List BodyLine) → AllByRecursion (IsBodyLine (names_of decls)) lines → are_admitted decls draft lines ≡ true → IsCanonical decls name draft → IsCanonical decls name (after_lines decls draft lines)
canonical_all decls name draft [] each fit h = h
canonical_all decls name draft (line ∷ lines) each fit h =
    let parts = and_parts (admits decls draft line) (are_admitted decls (after_line decls draft line) lines) fit in
    canonical_all decls name (after_line decls draft line) lines each.1 parts.1 (canonical_more decls name draft line each.0 parts.0 h)

name_kept : (decls : List Decl) (draft : Draft) (lines : List BodyLine) → (after_lines decls draft lines).system.name ≡ draft.system.name
name_kept decls draft [] = refl
name_kept decls draft (Lists of pools ∷ lines) = name_kept decls (after_line decls draft (Lists of pools)) lines
name_kept decls draft (Do tokens ∷ lines) = name_kept decls (after_line decls draft (Do tokens)) lines
name_kept decls draft (Close ∷ lines) = name_kept decls (after_line decls draft Close) lines

pub system_name : (decls : List Decl) (name : List ℕ) (lines : List BodyLine) (system : System) → IsSystemOf decls name lines system → system.name ≡ name
system_name decls name lines system h = ap (λ (s : System). s.name) h.stands ∙ name_kept decls (begun name) lines

-- the canonical lines of a system stand for it
pub printed_system : (decls : List Decl) (name : List ℕ) (lines : List BodyLine) (system : System) → IsSystemOf decls name lines system → IsSystemOf decls name (body_lines system) system
printed_system decls name lines system h =
    let reached = after_lines decls (begun name) lines in
    let first : IsCanonical decls name (begun name) = record { ordered = ordered_begun name; each = tt; admitted = refl; reached = refl } in
    let all = canonical_all decls name (begun name) lines h.each h.admitted first in
    let ended : close_lines reached.part ≡ Close ∷ [] = ap (λ b. if b then Close ∷ [] else []) h.closed in
    let same : draft_lines reached ≡ body_lines system =
    ap (λ (t : List BodyLine). access_lines reached.system.access ++ (map Do reached.system.statements ++ t)) ended ∙ ap body_lines (sym h.stands) in
    record {
      named = h.named;
      each = subst (λ (ls : List BodyLine). AllByRecursion (IsBodyLine (names_of decls)) ls) same all.each;
      admitted = ap (are_admitted decls (begun name)) (sym same) ∙ all.admitted;
      closed = ap (λ (ls : List BodyLine). is_closed (after_lines decls (begun name) ls)) (sym same) ∙ ap is_closed all.reached ∙ h.closed;
      stands = h.stands ∙ ap (λ (d : Draft). d.system) (sym all.reached) ∙ ap (λ (ls : List BodyLine). (after_lines decls (begun name) ls).system) same;
    }
