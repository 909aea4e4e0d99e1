-- Settled slots: those that are live or on the free list.
use Rattle.std.proofs.Common.{◌≡◌, ◌≢◌, ℕ, zero, suc, ◌+◌, ◌<◌, Bool, true, false, not, ◌&&◌, ◌||◌, List, [], ◌∷◌, ◌++◌, get_or, set, refl, sym, ap, ◌∙◌, arith, eqb, eq-eqb, zero-add, cond}
use Rattle.std.specs.List.{flat_map, list_any, list_all, count_by}
use Rattle.std.proofs.lemmas.List.{append-nil}
use Rattle.std.proofs.lemmas.List.Sums.{sum_by-append}
use Rattle.std.proofs.lemmas.Bool.Decides.{nat_tests}
use Rattle.world_model.specs.declared.slot.Slot.{Slot}
use Rattle.world_model.specs.Slots.{is_free_at}
use Rattle.world_text.specs.LineKinds.{Line}
use Rattle.world_text.specs.LineKinds as line
use Rattle.world_text.specs.Sections.{order}
use Rattle.world_text.specs.Meaning.{slot_in, next_in, settled_from, settled}
use Rattle.world_text.specs.Fitting.{last_section, is_unlisted}
use Rattle.world_text.proofs.MeaningLemmas.{flat_map_push, gains, keeps, no_next_yet}

de_morgan : (a b : Bool) → not (a || b) ≡ not a && not b
de_morgan true b = refl
de_morgan false b = refl

unsettled : (first : ℕ) (slots : List Slot) (free : List ℕ) (i : ℕ) → not (get_or (settled_from first slots free) i true) ≡ is_free_at slots i && not (list_any (λ m. eqb m (first + i)) free)
unsettled first [] free i = refl
unsettled first (slot ∷ slots) free zero = de_morgan slot.live (list_any (λ m. eqb m first) free) ∙ ap (λ n. not slot.live && not (list_any (λ m. eqb m n) free)) (omega arith)
unsettled first (slot ∷ slots) free (suc i) = unsettled (suc first) slots free i ∙ ap (λ n. is_free_at slots i && not (list_any (λ m. eqb m n) free)) (omega arith)

-- an index is to go on the free list where the flag of its slot isn't set
pub unlisted_by_flag : (before : List Line) (index : ℕ) → not (get_or (settled before) index true) ≡ is_unlisted (flat_map slot_in before) (flat_map next_in before) index
unlisted_by_flag before index =
    unsettled 0 (flat_map slot_in before) (flat_map next_in before) index
    ∙ ap (λ n. is_free_at (flat_map slot_in before) index && not (list_any (λ m. eqb m n) (flat_map next_in before))) (zero-add index)

pub settled_same : (before : List Line) (l : Line) → slot_in l ≡ [] → next_in l ≡ [] → settled before ≡ settled (before ++ l ∷ [])
settled_same before l no_slot no_next i = settled_from 0 (keeps slot_in before l _ no_slot refl i) (keeps next_in before l _ no_next refl i)

or_none : (b : Bool) → (b || false) ≡ b
or_none true = refl
or_none false = refl

settled_push_slot : (i : ℕ) (slots : List Slot) (s : Slot) → settled_from i (slots ++ s ∷ []) [] ≡ settled_from i slots [] ++ s.live ∷ []
settled_push_slot i [] s = ap (λ b. b ∷ []) (or_none s.live)
settled_push_slot i (t ∷ slots) s = ap (λ x. (t.live || false) ∷ x) (settled_push_slot (suc i) slots s)

pub settled_slot : (before : List Line) (s : Slot) → order (last_section before) < 7 → settled before ++ s.live ∷ [] ≡ settled (before ++ line.Slot s ∷ [])
settled_slot before s few =
    let none = no_next_yet before few in
    ap (λ x. settled_from 0 (flat_map slot_in before) x ++ s.live ∷ []) none
    ∙ sym (settled_push_slot 0 (flat_map slot_in before) s)
    ∙ (λ i. settled_from 0 (sym (flat_map_push slot_in before (line.Slot s)) i) (sym (flat_map_push next_in before (line.Slot s) ∙ append-nil (flat_map next_in before) ∙ none) i))

any_push : (nexts : List ℕ) (k i : ℕ) → list_any (λ m. eqb m i) (nexts ++ k ∷ []) ≡ (list_any (λ m. eqb m i) nexts || eqb k i)
any_push [] k i = or_none (eqb k i)
any_push (n ∷ nexts) k i = elim (eqb n i) as (λ b. (b || list_any (λ m. eqb m i) (nexts ++ k ∷ [])) ≡ ((b || list_any (λ m. eqb m i) nexts) || eqb k i)) [ true ↦ refl | false ↦ any_push nexts k i ]

or_true : (b : Bool) → (b || true) ≡ true
or_true true = refl
or_true false = refl

named_here : (live : Bool) (nexts : List ℕ) (i : ℕ) → (live || list_any (λ m. eqb m i) (nexts ++ i ∷ [])) ≡ true
named_here true nexts i = refl
named_here false nexts i = any_push nexts i i ∙ ap (λ b. list_any (λ m. eqb m i) nexts || b) (eq-eqb i i refl) ∙ or_true (list_any (λ m. eqb m i) nexts)

apart_test : (k i : ℕ) → k ≢ i → eqb k i ≡ false
apart_test k i apart = grind (arith, nat_tests)

named_apart : (live : Bool) (nexts : List ℕ) (k i : ℕ) → k ≢ i → (live || list_any (λ m. eqb m i) (nexts ++ k ∷ [])) ≡ (live || list_any (λ m. eqb m i) nexts)
named_apart true nexts k i apart = refl
named_apart false nexts k i apart = any_push nexts k i ∙ ap (λ b. list_any (λ m. eqb m i) nexts || b) (apart_test k i apart) ∙ or_none (list_any (λ m. eqb m i) nexts)

both : {a b : Bool} {xs ys : List Bool} → a ≡ b → xs ≡ ys → a ∷ xs ≡ b ∷ ys
both h t i = h i ∷ t i

settled_past : (i k : ℕ) (slots : List Slot) (nexts : List ℕ) → k < i → settled_from i slots (nexts ++ k ∷ []) ≡ settled_from i slots nexts
settled_past i k [] nexts past = refl
settled_past i k (s ∷ slots) nexts past = both (named_apart s.live nexts k i (omega arith)) (settled_past (suc i) k slots nexts (omega arith))

settled_push_next : (i k : ℕ) (slots : List Slot) (nexts : List ℕ) → settled_from i slots (nexts ++ (i + k) ∷ []) ≡ set (settled_from i slots nexts) k true
settled_push_next i k [] nexts = refl
settled_push_next i zero (s ∷ slots) nexts =
    let at : i + 0 ≡ i = omega arith in
    ap (λ m. settled_from i (s ∷ slots) (nexts ++ m ∷ [])) at ∙ both (named_here s.live nexts i) (settled_past (suc i) i slots nexts (omega arith))
settled_push_next i (suc k) (s ∷ slots) nexts =
    let at : i + suc k ≡ suc i + k = omega arith in
    ap (λ m. settled_from i (s ∷ slots) (nexts ++ m ∷ [])) at ∙ both (named_apart s.live nexts (suc i + k) i (omega arith)) (settled_push_next (suc i) k slots nexts)

pub settled_next : (before : List Line) (k : ℕ) → set (settled before) k true ≡ settled (before ++ line.Next k ∷ [])
settled_next before k =
    sym (settled_push_next 0 k (flat_map slot_in before) (flat_map next_in before))
    ∙ ap (λ m. settled_from 0 (flat_map slot_in before) (flat_map next_in before ++ m ∷ [])) (zero-add k)
    ∙ (λ i. settled_from 0 (keeps slot_in before (line.Next k) _ refl refl i) (gains next_in before (line.Next k) _ refl i))

-- ---- counting
count_true : (flags : List Bool) → count_by not (true ∷ flags) ≡ count_by not flags
count_true flags = omega (arith, sum_by-append (λ b. cond (not b) 1 0) (true ∷ []) flags)

count_false : (flags : List Bool) → count_by not (false ∷ flags) ≡ count_by not flags + 1
count_false flags = omega (arith, sum_by-append (λ b. cond (not b) 1 0) (false ∷ []) flags)

pub none_unsettled : (flags : List Bool) → count_by not flags ≡ 0 → list_all (λ b. b) flags ≡ true
none_unsettled [] none = refl
none_unsettled (true ∷ flags) none = none_unsettled flags (sym (count_true flags) ∙ none)
none_unsettled (false ∷ flags) none = absurd (omega (arith, count_false flags))

pub some_unsettled : (flags : List Bool) → count_by not flags ≢ 0 → list_all (λ b. b) flags ≡ false
some_unsettled [] some = absurd (some refl)
some_unsettled (true ∷ flags) some = some_unsettled flags (λ none. some (count_true flags ∙ none))
some_unsettled (false ∷ flags) some = refl
