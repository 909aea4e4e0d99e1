-- Printed components, slots and free indices are admissible, each after those before it.
use Rattle.std.proofs.Common.{◌≡◌, ◌≢◌, ℕ, zero, suc, ◌+◌, ◌<◌, ◌≤◌, Bool, true, false, cond, not, ◌||◌, List, [], ◌∷◌, ◌++◌, map, length, length-append, get_or, eq-eqb, refl, sym, ap, subst, ◌∙◌, arith, append_assoc}
use Rattle.std.specs.Prelude.{◌==◌}
use Rattle.std.specs.List.{flat_map, list_any, list_all, AllByRecursion, count_by}
use Rattle.std.proofs.lemmas.List.{append-nil, get_or-set_other}
use Rattle.std.proofs.lemmas.List.Sums.{sum_by-cons}
use Rattle.std.proofs.lemmas.List.Folds.{list_any-append}
use Rattle.std.proofs.lemmas.Bool.{and_parts, and_from, or_parts, or_from, le-leb, lt-ltb, not_from_false, not-true}
use Rattle.world_model.specs.declared.component.Decl.{Decl}
use Rattle.world_model.specs.declared.group.GroupDecl.{GroupDecl}
use Rattle.world_model.specs.declared.slot.Slot.{Slot}
use Rattle.world_model.specs.Slots.{is_free_at}
use Rattle.world_model.specs.Components.{has_name}
use Rattle.world_text.specs.declared.format.Format.{Format}
use Rattle.world_text.specs.declared.section.Section.{Section}
use Rattle.world_text.specs.declared.section.Section.TheVariants as section
use Rattle.world_text.specs.LineKinds.{Line}
use Rattle.world_text.specs.LineKinds as line
use Rattle.world_text.specs.Sections.{order, is_between}
use Rattle.world_text.specs.Meaning.{decl_in, group_of, groups_in, slot_in, settled_from, settled}
use Rattle.world_text.specs.Fitting.{last_section, are_listed, may_join, fits, fit_after}
use Rattle.row_lang.specs.Naming.{are_named_apart}
use Rattle.world_text.specs.Documents.{named_of, group_line}
use Rattle.world_text.proofs.GroupLemmas.{IsSaid, MayJoin}
use Rattle.world_text.proofs.MeaningLemmas.{flat_map_push, keeps, groups_gain, last_section_push}
use Rattle.world_text.proofs.SettledLemmas.{settled_next, unlisted_by_flag}

-- ---- lists of lines

-- lines fit where their front and then their back do
pub fit_append : (format : Format) (before a b : List Line) → fit_after format before a ≡ true → fit_after format (before ++ a) b ≡ true → fit_after format before (a ++ b) ≡ true
fit_append format before [] b p q = subst (λ ls. fit_after format ls b ≡ true) (append-nil before) q
fit_append format before (l ∷ a) b p q =
    let h = and_parts (fits format before l) _ p in
    and_from _ _ h.0 (fit_append format (before ++ l ∷ []) a b h.1 (subst (λ ls. fit_after format ls b ≡ true) (sym (append_assoc before (l ∷ []) a)) q))

-- a part is between two others, by the order
pub between : (first last part : Section) → order first ≤ order part → order part ≤ order last → is_between first last part ≡ true
between first last part low high = and_from _ _ (le-leb (order first) (order part) low) (le-leb (order part) (order last) high)

-- ---- components

still_new : (old ds : List Decl) (d : Decl) → AllByRecursion (λ e. list_any (has_name e.name) old ≡ false) ds → list_any (λ e. has_name e.name d) ds ≡ false → AllByRecursion (λ e. list_any (has_name e.name) (old ++ d ∷ []) ≡ false) ds
still_new old [] d each none = tt
still_new old (e ∷ ds) d each none =
    let h = or_parts (has_name e.name d) (list_any (λ x. has_name x.name d) ds) none in
    (list_any-append (has_name e.name) old (d ∷ []) ∙ or_from _ _ each.0 (or_from _ _ h.0 refl), still_new old ds d each.1 h.1)

pub new_at_first : (ds : List Decl) → AllByRecursion (λ e. list_any (has_name e.name) [] ≡ false) ds
new_at_first [] = tt
new_at_first (d ∷ ds) = (refl, new_at_first ds)

-- components fit where no two have one name
pub decls_fit : (format : Format) (before : List Line) (ds : List Decl) → 1 ≤ order (last_section before) → order (last_section before) ≤ 2 → length (flat_map decl_in before) + length ds ≤ 64 → AllByRecursion (λ e. list_any (has_name e.name) (flat_map decl_in before) ≡ false) ds → are_named_apart ds ≡ true → fit_after format before (map line.Component ds) ≡ true
decls_fit format before [] low high few new apart = refl
decls_fit format before (d ∷ ds) low high few new apart =
    let l = line.Component d in
    let h = and_parts _ (are_named_apart ds) apart in
    let gained : flat_map decl_in (before ++ l ∷ []) ≡ flat_map decl_in before ++ d ∷ [] = flat_map_push decl_in before l in
    let rise : order (last_section (before ++ l ∷ [])) ≡ 2 = ap order (last_section_push before l high) in
    and_from _ _ (and_from _ _ (between section.Version section.Components (last_section before) low high) (and_from _ _ (lt-ltb (length (flat_map decl_in before)) 64 (omega arith)) (not_from_false _ new.0)))
    (decls_fit format (before ++ l ∷ []) ds (omega arith) (omega arith) (omega (arith, ap length gained, length-append (flat_map decl_in before) (d ∷ [])))
    (subst (λ (old : List Decl). AllByRecursion (λ e. list_any (has_name e.name) old ≡ false) ds) (sym gained) (still_new _ ds d new.1 (not-true _ h.0))) h.1)

-- ---- groups

-- groups fit where their lines say them, and each may be added to those before it
pub groups_fit : (format : Format) (before : List Line) (decls : List Decl) (groups : List GroupDecl) → flat_map decl_in before ≡ decls → 1 ≤ order (last_section before) → order (last_section before) ≤ 3 → AllByRecursion (IsSaid decls) groups → MayJoin (groups_in before) groups → fit_after format before (map (group_line decls) groups) ≡ true
groups_fit format before decls [] are low high said joins = refl
groups_fit format before decls (g ∷ groups) are low high said joins =
    let named = named_of decls g in
    let l : Line = group_line decls g in
    let rise : order (last_section (before ++ l ∷ [])) ≡ 3 = ap order (last_section_push before l high) in
    let its : group_of (flat_map decl_in before) named ≡ g = ap (λ (ds : List Decl). group_of ds named) are ∙ said.0.same in
    let gained : groups_in before ++ g ∷ [] ≡ groups_in (before ++ l ∷ []) = ap (λ (d : GroupDecl). groups_in before ++ d ∷ []) (sym its) ∙ groups_gain before named in
    and_from _ _
    (and_from _ _ (between section.Version section.Groups (last_section before) low high) (and_from _ _ (ap (λ (ds : List Decl). are_listed ds named) are ∙ said.0.listed) (ap (may_join (groups_in before)) its ∙ joins.0)))
    (groups_fit format (before ++ l ∷ []) decls groups (sym (keeps decl_in before l _ refl refl) ∙ are) (omega arith) (omega arith) said.1 (subst (λ (old : List GroupDecl). MayJoin old groups) gained joins.1))

-- ---- slots

-- slots fit up to the limit
pub slots_fit : (format : Format) (before : List Line) (ss : List Slot) → 5 ≤ order (last_section before) → order (last_section before) ≤ 6 → length (flat_map slot_in before) + length ss ≤ format.slot_limit → fit_after format before (map line.Slot ss) ≡ true
slots_fit format before [] low high few = refl
slots_fit format before (s ∷ ss) low high few =
    let l = line.Slot s in
    let gained : flat_map slot_in (before ++ l ∷ []) ≡ flat_map slot_in before ++ s ∷ [] = flat_map_push slot_in before l in
    let rise : order (last_section (before ++ l ∷ [])) ≡ 6 = ap order (last_section_push before l high) in
    and_from _ _ (and_from _ _ (between section.Tick section.Slots (last_section before) low high) (lt-ltb (length (flat_map slot_in before)) format.slot_limit (omega arith)))
    (slots_fit format (before ++ l ∷ []) ss (omega arith) (omega arith) (omega (arith, ap length gained, length-append (flat_map slot_in before) (s ∷ []))))

-- ---- the free list

-- how often an index stands on a list
abbrev pub times : ℕ → List ℕ → ℕ
times index free = count_by (λ other. other == index) free

times-cons : (i n : ℕ) (ns : List ℕ) → times i (n ∷ ns) ≡ cond (n == i) 1 0 + times i ns
times-cons i n ns = sum_by-cons (λ other. cond (other == i) 1 0) n ns

times-here : (n : ℕ) (ns : List ℕ) → times n (n ∷ ns) ≡ 1 + times n ns
times-here n ns = times-cons n n ns ∙ ap (λ b. cond b 1 0 + times n ns) (eq-eqb n n refl)

times-more : (i n : ℕ) (ns : List ℕ) → times i ns ≤ times i (n ∷ ns)
times-more i n ns = omega (arith, times-cons i n ns)

-- an index that a list has is found in it
pub listed_any : (i : ℕ) (ns : List ℕ) → 0 < times i ns → list_any (λ other. other == i) ns ≡ true
listed_any i [] some = absurd (omega arith)
listed_any i (n ∷ ns) some =
    elim (n == i) as (λ b. times i (n ∷ ns) ≡ cond b 1 0 + times i ns → (b || list_any (λ other. other == i) ns) ≡ true) [
      | true ↦ λ counted. refl
      | false ↦ λ counted. listed_any i ns (omega arith)
    ] (times-cons i n ns)

-- free indices fit where none comes twice and each is unsettled
pub nexts_fit : (format : Format) (before : List Line) (ns : List ℕ) → 5 ≤ order (last_section before) → order (last_section before) ≤ 7 → ((i : ℕ) → times i ns ≤ 1) → ((i : ℕ) → 0 < times i ns → get_or (settled before) i true ≡ false) → fit_after format before (map line.Next ns) ≡ true
nexts_fit format before [] low high once open_at = refl
nexts_fit format before (n ∷ ns) low high once open_at =
    let l = line.Next n in
    let rise : order (last_section (before ++ l ∷ [])) ≡ 7 = ap order (last_section_push before l high) in
    let no_more : times n ns ≡ 0 = omega (arith, times-here n ns, once n) in
    and_from _ _ (and_from _ _ (between section.Tick section.FreeList (last_section before) low high) (sym (unlisted_by_flag before n) ∙ not_from_false _ (open_at n (omega (arith, times-here n ns)))))
    (nexts_fit format (before ++ l ∷ []) ns (omega arith) (omega arith) (λ i. omega (arith, times-more i n ns, once i)) (λ i listed.
    let apart : i ≢ n = λ same. absurd (omega (arith, no_more, ap (λ k. times k ns) same)) in
    ap (λ flags. get_or flags i true) (sym (settled_next before n)) ∙ get_or-set_other (settled before) n i true true apart ∙ open_at i (omega (arith, times-more i n ns))))

-- ---- every slot is settled in the end

live_or : (b : Bool) → (b || false) ≡ not (not b)
live_or true = refl
live_or false = refl

-- without a free list the free slots are unsettled
pub settled_at : (i k : ℕ) (slots : List Slot) → get_or (settled_from i slots []) k true ≡ not (is_free_at slots k)
settled_at i k [] = refl
settled_at i zero (s ∷ slots) = live_or s.live
settled_at i (suc k) (s ∷ slots) = settled_at (suc i) k slots

live_or_named : (live named : Bool) → (not live ≡ true → named ≡ true) → (live || named) ≡ true
live_or_named true named h = refl
live_or_named false named h = h refl

at_first : (i : ℕ) → i + 0 ≡ i
at_first i = omega arith

at_next : (i k : ℕ) → suc i + k ≡ i + suc k
at_next i k = omega arith

-- where each free slot is named, every slot is settled
pub settled_by : (i : ℕ) (slots : List Slot) (nexts : List ℕ) → ((k : ℕ) → is_free_at slots k ≡ true → list_any (λ m. m == (i + k)) nexts ≡ true) → list_all (λ b. b) (settled_from i slots nexts) ≡ true
settled_by i [] nexts h = refl
settled_by i (s ∷ slots) nexts h =
    and_from _ _ (live_or_named s.live (list_any (λ m. m == i) nexts) (λ free. ap (λ n. list_any (λ m. m == n) nexts) (sym (at_first i)) ∙ h zero free))
    (settled_by (suc i) slots nexts (λ k free. ap (λ n. list_any (λ m. m == n) nexts) (at_next i k) ∙ h (suc k) free))

-- a free slot is a slot
pub free_within : (slots : List Slot) (i : ℕ) → is_free_at slots i ≡ true → i < length slots
free_within [] i h = absurd (cc)
free_within (s ∷ slots) zero h = omega arith
free_within (s ∷ slots) (suc i) h = omega (arith, free_within slots i h)

-- what holds of each index that a list has holds of each in it
pub each_listed : (P : ℕ → Type 0) (ns : List ℕ) → ((i : ℕ) → 0 < times i ns → P i) → AllByRecursion P ns
each_listed P [] h = tt
each_listed P (n ∷ ns) h = (h n (omega (arith, times-here n ns)), each_listed P ns (λ i listed. h i (omega (arith, times-more i n ns))))
