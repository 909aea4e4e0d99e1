-- A line added to a draft: whether its place is right, and what stays.
use Rattle.std.proofs.Common.{◌≡◌, ◌≢◌, ℕ, ◌<◌, ◌≤◌, Bool, true, false, not, ◌&&◌, List, [], ◌∷◌, ◌++◌, get_or, refl, sym, ap, ◌∙◌, arith, eqb, nat_lt, nat_le}
use Rattle.std.specs.List.{flat_map}
use Rattle.std.proofs.lemmas.Bool.Decides.{nat_tests}
use Rattle.world_text.specs.declared.section.Section.{Section}
use Rattle.world_text.specs.declared.section.Section.TheVariants as section
use Rattle.world_text.specs.declared.draft.Draft.{Draft}
use Rattle.world_text.specs.LineKinds.{Line}
use Rattle.world_text.specs.LineKinds as line
use Rattle.world_text.specs.Sections.{order, is_between}
use Rattle.world_text.specs.Meaning.{tick_in}
use Rattle.world_text.specs.Fitting.{last_section}
use Rattle.world_text.specs.Drafts.{Stands}
use Rattle.world_text.proofs.MeaningLemmas.{flat_map_push, keeps, no_tick_yet}

pub and_true : (a b : Bool) → a ≡ true → b ≡ true → (a && b) ≡ true
and_true a b p q = λ i. p i && q i

pub and_false_left : (a b : Bool) → a ≡ false → (a && b) ≡ false
and_false_left a b p = ap (λ x. x && b) p

pub and_false_right : (a b : Bool) → b ≡ false → (a && b) ≡ false
and_false_right true b q = q
and_false_right false b q = refl

pub not_true : (b : Bool) → b ≡ false → not b ≡ true
not_true b h = ap not h

pub below_test : (m n : ℕ) → m < n → nat_lt m n ≡ true
below_test m n h = grind (arith, nat_tests)

pub equal_test : (m n : ℕ) → m ≡ n → eqb m n ≡ true
equal_test m n h = grind (arith, nat_tests)

pub unequal_test : (m n : ℕ) → m ≢ n → eqb m n ≡ false
unequal_test m n h = grind (arith, nat_tests)

bounds : (low high n : ℕ) → (nat_le low n && nat_le n high) ≡ true → (low ≤ n) × (n ≤ high)
bounds low high n h = (grind (arith, nat_tests), grind (arith, nat_tests))

-- the draft's part of the document is that of the lines
pub placed_at : (first last : Section) (draft : Draft) (before : List Line) → Stands draft before → is_between first last draft.section ≡ true → record { fit : is_between first last (last_section before) ≡ true; low : order first ≤ order (last_section before); high : order (last_section before) ≤ order last }
placed_at first last draft before stands placed =
    let fit : is_between first last (last_section before) ≡ true = ap (is_between first last) (sym stands.section) ∙ placed in
    let b = bounds (order first) (order last) (order (last_section before)) fit in
    record { fit = fit; low = b.0; high = b.1 }

-- out of its place no line fits
pub misplaced_at : (first last : Section) (draft : Draft) (before : List Line) → Stands draft before → is_between first last draft.section ≡ false → is_between first last (last_section before) ≡ false
misplaced_at first last draft before stands misplaced = ap (is_between first last) (sym stands.section) ∙ misplaced

pub first_tick : (before : List Line) (tick : ℕ) → order (last_section before) < 5 → tick ≡ get_or (flat_map tick_in (before ++ line.Tick tick ∷ [])) 0 0
first_tick before tick early = sym (ap (λ xs. get_or xs 0 0) (flat_map_push tick_in before (line.Tick tick) ∙ ap (λ xs. xs ++ tick ∷ []) (no_tick_yet before early)))

pub kept_tick : (before : List Line) (l : Line) → tick_in l ≡ [] → get_or (flat_map tick_in before) 0 0 ≡ get_or (flat_map tick_in (before ++ l ∷ [])) 0 0
kept_tick before l none = ap (λ xs. get_or xs 0 0) (keeps tick_in before l _ none refl)

-- between the pools and the pools are the pools
pub only_pools : (s : Section) → is_between section.Pools section.Pools s ≡ true → s ≡ section.Pools
only_pools section.Pools placed = refl
only_pools section.End placed = absurd (cc)
only_pools _ placed = absurd (cc)
