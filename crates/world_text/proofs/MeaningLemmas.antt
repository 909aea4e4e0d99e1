-- What one line more changes in what lines stand for.
use Rattle.std.proofs.Common.{◌≡◌, ℕ, suc, ◌-◌, ◌<◌, ◌≤◌, max, Bool, true, false, List, [], ◌∷◌, ◌++◌, length, get_or, set, map, refl, sym, ap, ◌∙◌, arith, cond, nat_lt}
use Rattle.std.specs.List.{flat_map}
use Rattle.std.proofs.lemmas.List.{append-nil, map-append}
use Rattle.std.proofs.lemmas.Grind.{flat_map-append}
use Rattle.std.proofs.lemmas.Bool.Decides.{nat_tests}
use Rattle.entity_id.specs.declared.entity.Profile.{Profile}
use Rattle.entity_id.specs.declared.entity.Entity.{Entity}
use Rattle.world_model.specs.declared.component.Decl.{Decl}
use Rattle.world_text.specs.declared.section.Section.{Section}
use Rattle.world_text.specs.declared.section.Section.TheVariants as section
use Rattle.world_text.specs.FieldValues.{FieldValue}
use Rattle.world_text.specs.LineKinds.{Line, NamedGroup}
use Rattle.world_text.specs.LineKinds as line
use Rattle.world_text.specs.Sections.{order, later}
use Rattle.world_text.specs.Meaning.{decl_in, group_in, group_of, groups_in, tick_in, slot_in, next_in, row_of, rows_in, pools_in}
use Rattle.world_text.specs.Fitting.{section_of, last_section}

-- ---- parts that are lists

-- what a list of parts gains by a line
pub flat_map_push : {X : Type 0} (f : Line → List X) (before : List Line) (l : Line) → flat_map f (before ++ l ∷ []) ≡ flat_map f before ++ f l
flat_map_push f before l = flat_map-append f before (l ∷ []) ∙ ap (λ x. flat_map f before ++ x) (append-nil (f l))

pub gains : {X : Type 0} (f : Line → List X) (before : List Line) (l : Line) (xs : List X) → xs ≡ flat_map f before → xs ++ f l ≡ flat_map f (before ++ l ∷ [])
gains f before l xs e = ap (λ x. x ++ f l) e ∙ sym (flat_map_push f before l)

pub keeps : {X : Type 0} (f : Line → List X) (before : List Line) (l : Line) (xs : List X) → f l ≡ [] → xs ≡ flat_map f before → xs ≡ flat_map f (before ++ l ∷ [])
keeps f before l xs none e = e ∙ sym (flat_map_push f before l ∙ ap (λ x. flat_map f before ++ x) none ∙ append-nil (flat_map f before))

-- ---- groups

-- a line that declares neither a component nor a group leaves the groups
pub groups_keep : (before : List Line) (l : Line) → decl_in l ≡ [] → group_in l ≡ [] → groups_in before ≡ groups_in (before ++ l ∷ [])
groups_keep before l no_decl no_group i = map (group_of (keeps decl_in before l _ no_decl refl i)) (keeps group_in before l _ no_group refl i)

-- a group line adds its group
pub groups_gain : (before : List Line) (named : NamedGroup) → groups_in before ++ group_of (flat_map decl_in before) named ∷ [] ≡ groups_in (before ++ line.Group named ∷ [])
groups_gain before named =
    let l : Line = line.Group named in
    sym (map-append (group_of (flat_map decl_in before)) (flat_map group_in before) (named ∷ []))
    ∙ (λ i. map (group_of (keeps decl_in before l _ refl refl i)) (gains group_in before l _ refl i))

-- a component line leaves the groups where no group line stands before it
pub groups_before : (before : List Line) (decl : Decl) → flat_map group_in before ≡ [] → groups_in before ≡ groups_in (before ++ line.Component decl ∷ [])
groups_before before decl none =
    let l : Line = line.Component decl in
    ap (map (group_of (flat_map decl_in before))) none
    ∙ sym (ap (map (group_of (flat_map decl_in (before ++ l ∷ [])))) (sym (keeps group_in before l _ refl refl) ∙ none))

-- ---- the part of the document that lines have reached

later_order : (a b : Section) (t : Bool) → t ≡ nat_lt (order b) (order a) → order (cond t a b) ≡ max (order a) (order b)
later_order a b true is = grind (arith, nat_tests)
later_order a b false is = grind (arith, nat_tests)

pub order_later : (a b : Section) → order (later a b) ≡ max (order a) (order b)
order_later a b = later_order a b (nat_lt (order b) (order a)) refl

pub order_last_section-append : (a b : List Line) → order (last_section (a ++ b)) ≡ max (order (last_section a)) (order (last_section b))
order_last_section-append [] b = omega arith
order_last_section-append (l ∷ a) b = omega (arith, order_later (section_of l) (last_section (a ++ b)), order_later (section_of l) (last_section a), order_last_section-append a b)

not_later : (a b : Section) (t : Bool) → t ≡ nat_lt (order b) (order a) → order a ≤ order b → cond t a b ≡ b
not_later a b true is low = absurd (grind (arith, nat_tests))
not_later a b false is low = refl

pub later_is : (a b : Section) → order a ≤ order b → later a b ≡ b
later_is a b low = not_later a b (nat_lt (order b) (order a)) refl low

first_part : (l : Line) → later (section_of l) section.Start ≡ section_of l
first_part line.End = refl
first_part _ = refl

-- a line of a part not yet passed is the latest
pub last_section_push : (before : List Line) (l : Line) → order (last_section before) ≤ order (section_of l) → last_section (before ++ l ∷ []) ≡ section_of l
last_section_push [] l low = first_part l
last_section_push (b ∷ before) l low =
    ap (later (section_of b)) (last_section_push before l (omega (arith, order_later (section_of b) (last_section before)))) ∙ later_is (section_of b) (section_of l) (omega (arith, order_later (section_of b) (last_section before)))

-- where no part from a place on is reached, there is nothing of these parts
pub none_before : {X : Type 0} (f : Line → List X) (place : ℕ) → ((l : Line) → order (section_of l) < place → f l ≡ []) → (before : List Line) → order (last_section before) < place → flat_map f before ≡ []
none_before f place none [] early = refl
none_before f place none (l ∷ before) early =
    ap (λ x. x ++ flat_map f before) (none l (omega (arith, order_later (section_of l) (last_section before))))
    ∙ none_before f place none before (omega (arith, order_later (section_of l) (last_section before)))

-- ---- what stands before a part

nothing_early_free : (l : Line) → order (section_of l) < 7 → next_in l ≡ []
nothing_early_free (line.Next index) early = absurd (omega arith)
nothing_early_free line.End early = refl
nothing_early_free _ early = refl

nothing_early_slot : (l : Line) → order (section_of l) < 6 → slot_in l ≡ []
nothing_early_slot (line.Slot slot) early = absurd (omega arith)
nothing_early_slot line.End early = refl
nothing_early_slot _ early = refl

nothing_early_tick : (l : Line) → order (section_of l) < 5 → tick_in l ≡ []
nothing_early_tick (line.Tick tick) early = absurd (omega arith)
nothing_early_tick line.End early = refl
nothing_early_tick _ early = refl

nothing_early_group : (l : Line) → order (section_of l) < 3 → group_in l ≡ []
nothing_early_group (line.Group named) early = absurd (omega arith)
nothing_early_group line.End early = refl
nothing_early_group _ early = refl

-- before the groups no group line stands
pub no_group_yet : (before : List Line) → order (last_section before) < 3 → flat_map group_in before ≡ []
no_group_yet before early = none_before group_in 3 nothing_early_group before early

-- before the free list no next line stands
pub no_next_yet : (before : List Line) → order (last_section before) < 7 → flat_map next_in before ≡ []
no_next_yet before early = none_before next_in 7 nothing_early_free before early

-- before the slots no slot line stands
pub no_slot_yet : (before : List Line) → order (last_section before) < 6 → flat_map slot_in before ≡ []
no_slot_yet before early = none_before slot_in 6 nothing_early_slot before early

-- before the tick line no tick line stands
pub no_tick_yet : (before : List Line) → order (last_section before) < 5 → flat_map tick_in before ≡ []
no_tick_yet before early = none_before tick_in 5 nothing_early_tick before early

-- before the pools no pool line stands
pub no_pool_yet : (profile : Profile) (before : List Line) → order (last_section before) < 8 → pools_in profile before ≡ []
no_pool_yet profile [] early = refl
no_pool_yet profile (line.Pool name ∷ before) early = absurd (omega (arith, order_later section.Pools (last_section before)))
no_pool_yet profile (line.Version ∷ before) early = no_pool_yet profile before (omega (arith, order_later section.Version (last_section before)))
no_pool_yet profile (line.Component decl ∷ before) early = no_pool_yet profile before (omega (arith, order_later section.Components (last_section before)))
no_pool_yet profile (line.Group named ∷ before) early = no_pool_yet profile before (omega (arith, order_later section.Groups (last_section before)))
no_pool_yet profile (line.System system ∷ before) early = no_pool_yet profile before (omega (arith, order_later section.Systems (last_section before)))
no_pool_yet profile (line.Body names body ∷ before) early = no_pool_yet profile before (omega (arith, order_later section.Systems (last_section before)))
no_pool_yet profile (line.Tick tick ∷ before) early = no_pool_yet profile before (omega (arith, order_later section.Tick (last_section before)))
no_pool_yet profile (line.Slot slot ∷ before) early = no_pool_yet profile before (omega (arith, order_later section.Slots (last_section before)))
no_pool_yet profile (line.Next index ∷ before) early = no_pool_yet profile before (omega (arith, order_later section.FreeList (last_section before)))
no_pool_yet profile (line.Row entity values ∷ before) early = absurd (omega (arith, order_later section.Pools (last_section before)))
no_pool_yet profile (line.End ∷ before) early = absurd (omega (arith, order_later section.End (last_section before)))

-- ---- pools

-- the last of some lists with one item more
abbrev on_last : {X : Type 0} → List (List X) → X → List (List X)
on_last [] x = []
on_last (xs ∷ []) x = (xs ++ x ∷ []) ∷ []
on_last (xs ∷ ys ∷ rest) x = xs ∷ on_last (ys ∷ rest) x

on_last_set : {X : Type 0} (lists : List (List X)) (x : X) → on_last lists x ≡ set lists (length lists - 1) (get_or lists (length lists - 1) [] ++ x ∷ [])
on_last_set [] x = refl
on_last_set (xs ∷ []) x = refl
on_last_set (xs ∷ ys ∷ rest) x =
    let at : length (xs ∷ ys ∷ rest) - 1 ≡ suc (length (ys ∷ rest) - 1) = omega arith in
    ap (λ l. xs ∷ l) (on_last_set (ys ∷ rest) x) ∙ ap (λ k. set (xs ∷ ys ∷ rest) k (get_or (xs ∷ ys ∷ rest) k [] ++ x ∷ [])) (sym at)

-- a line that is neither a pool line nor a row
abbrev pub IsBesidePools : Line → Type 0
IsBesidePools (line.Pool name) = ⊥
IsBesidePools (line.Row entity values) = ⊥
IsBesidePools _ = Unit {0}

-- rows that gain one, where no pool line follows them
abbrev gained_rows : {X Y : Type 0} → List Y → List X → X → List X
gained_rows [] rows x = rows ++ x ∷ []
gained_rows (pool ∷ pools) rows x = rows

gained_rows_cons : {X Y : Type 0} (pools : List Y) (y : X) (rows : List X) (x : X) → y ∷ gained_rows pools rows x ≡ gained_rows pools (y ∷ rows) x
gained_rows_cons [] y rows x = refl
gained_rows_cons (pool ∷ pools) y rows x = refl

on_last_cons : {X : Type 0} (rows : List X) (pools : List (List X)) (x : X) → gained_rows pools rows x ∷ on_last pools x ≡ on_last (rows ∷ pools) x
on_last_cons rows [] x = refl
on_last_cons rows (pool ∷ pools) x = refl

rows_in-row : (profile : Profile) (lines : List Line) (entity : Entity) (values : List FieldValue) → rows_in profile (lines ++ line.Row entity values ∷ []) ≡ gained_rows (pools_in profile lines) (rows_in profile lines) (entity, row_of profile values)
rows_in-row profile [] entity values = refl
rows_in-row profile (line.Pool name ∷ lines) entity values = refl
rows_in-row profile (line.Row other row ∷ lines) entity values = ap (λ rows. (other, row_of profile row) ∷ rows) (rows_in-row profile lines entity values) ∙ gained_rows_cons (pools_in profile lines) _ _ _
rows_in-row profile (line.Version ∷ lines) entity values = rows_in-row profile lines entity values
rows_in-row profile (line.Component decl ∷ lines) entity values = rows_in-row profile lines entity values
rows_in-row profile (line.Group named ∷ lines) entity values = rows_in-row profile lines entity values
rows_in-row profile (line.System system ∷ lines) entity values = rows_in-row profile lines entity values
rows_in-row profile (line.Body names body ∷ lines) entity values = rows_in-row profile lines entity values
rows_in-row profile (line.Tick tick ∷ lines) entity values = rows_in-row profile lines entity values
rows_in-row profile (line.Slot slot ∷ lines) entity values = rows_in-row profile lines entity values
rows_in-row profile (line.Next index ∷ lines) entity values = rows_in-row profile lines entity values
rows_in-row profile (line.End ∷ lines) entity values = rows_in-row profile lines entity values

pools_in-row-last : (profile : Profile) (lines : List Line) (entity : Entity) (values : List FieldValue) → pools_in profile (lines ++ line.Row entity values ∷ []) ≡ on_last (pools_in profile lines) (entity, row_of profile values)
pools_in-row-last profile [] entity values = refl
pools_in-row-last profile (line.Pool name ∷ lines) entity values = (λ i. rows_in-row profile lines entity values i ∷ pools_in-row-last profile lines entity values i) ∙ on_last_cons (rows_in profile lines) (pools_in profile lines) _
pools_in-row-last profile (line.Row other row ∷ lines) entity values = pools_in-row-last profile lines entity values
pools_in-row-last profile (line.Version ∷ lines) entity values = pools_in-row-last profile lines entity values
pools_in-row-last profile (line.Component decl ∷ lines) entity values = pools_in-row-last profile lines entity values
pools_in-row-last profile (line.Group named ∷ lines) entity values = pools_in-row-last profile lines entity values
pools_in-row-last profile (line.System system ∷ lines) entity values = pools_in-row-last profile lines entity values
pools_in-row-last profile (line.Body names body ∷ lines) entity values = pools_in-row-last profile lines entity values
pools_in-row-last profile (line.Tick tick ∷ lines) entity values = pools_in-row-last profile lines entity values
pools_in-row-last profile (line.Slot slot ∷ lines) entity values = pools_in-row-last profile lines entity values
pools_in-row-last profile (line.Next index ∷ lines) entity values = pools_in-row-last profile lines entity values
pools_in-row-last profile (line.End ∷ lines) entity values = pools_in-row-last profile lines entity values

-- a row goes on the last pool
pub pools_in-row : (profile : Profile) (lines : List Line) (entity : Entity) (values : List FieldValue) → pools_in profile (lines ++ line.Row entity values ∷ []) ≡ set (pools_in profile lines) (length (pools_in profile lines) - 1) (get_or (pools_in profile lines) (length (pools_in profile lines) - 1) [] ++ (entity, row_of profile values) ∷ [])
pools_in-row profile lines entity values = pools_in-row-last profile lines entity values ∙ on_last_set (pools_in profile lines) (entity, row_of profile values)

rows_in-pool : (profile : Profile) (lines : List Line) (name : List ℕ) → rows_in profile (lines ++ line.Pool name ∷ []) ≡ rows_in profile lines
rows_in-pool profile [] name = refl
rows_in-pool profile (line.Pool other ∷ lines) name = refl
rows_in-pool profile (line.Row other row ∷ lines) name = ap (λ rows. (other, row_of profile row) ∷ rows) (rows_in-pool profile lines name)
rows_in-pool profile (line.Version ∷ lines) name = rows_in-pool profile lines name
rows_in-pool profile (line.Component decl ∷ lines) name = rows_in-pool profile lines name
rows_in-pool profile (line.Group named ∷ lines) name = rows_in-pool profile lines name
rows_in-pool profile (line.System system ∷ lines) name = rows_in-pool profile lines name
rows_in-pool profile (line.Body names body ∷ lines) name = rows_in-pool profile lines name
rows_in-pool profile (line.Tick tick ∷ lines) name = rows_in-pool profile lines name
rows_in-pool profile (line.Slot slot ∷ lines) name = rows_in-pool profile lines name
rows_in-pool profile (line.Next index ∷ lines) name = rows_in-pool profile lines name
rows_in-pool profile (line.End ∷ lines) name = rows_in-pool profile lines name

-- a pool line begins an empty pool
pub pools_in-pool : (profile : Profile) (lines : List Line) (name : List ℕ) → pools_in profile (lines ++ line.Pool name ∷ []) ≡ pools_in profile lines ++ [] ∷ []
pools_in-pool profile [] name = refl
pools_in-pool profile (line.Pool other ∷ lines) name = λ i. rows_in-pool profile lines name i ∷ pools_in-pool profile lines name i
pools_in-pool profile (line.Row other row ∷ lines) name = pools_in-pool profile lines name
pools_in-pool profile (line.Version ∷ lines) name = pools_in-pool profile lines name
pools_in-pool profile (line.Component decl ∷ lines) name = pools_in-pool profile lines name
pools_in-pool profile (line.Group named ∷ lines) name = pools_in-pool profile lines name
pools_in-pool profile (line.System system ∷ lines) name = pools_in-pool profile lines name
pools_in-pool profile (line.Body names body ∷ lines) name = pools_in-pool profile lines name
pools_in-pool profile (line.Tick tick ∷ lines) name = pools_in-pool profile lines name
pools_in-pool profile (line.Slot slot ∷ lines) name = pools_in-pool profile lines name
pools_in-pool profile (line.Next index ∷ lines) name = pools_in-pool profile lines name
pools_in-pool profile (line.End ∷ lines) name = pools_in-pool profile lines name

no_rows : (profile : Profile) (l : Line) → IsBesidePools l → rows_in profile (l ∷ []) ≡ []
no_rows profile (line.Pool name) beside = refl
no_rows profile (line.Row entity values) beside = absurd beside
no_rows profile line.End beside = refl
no_rows profile _ beside = refl

no_pools : (profile : Profile) (l : Line) → IsBesidePools l → pools_in profile (l ∷ []) ≡ []
no_pools profile (line.Pool name) beside = absurd beside
no_pools profile line.End beside = refl
no_pools profile _ beside = refl

rows_in-other : (profile : Profile) (lines : List Line) (l : Line) → IsBesidePools l → rows_in profile (lines ++ l ∷ []) ≡ rows_in profile lines
rows_in-other profile [] l beside = no_rows profile l beside
rows_in-other profile (line.Pool other ∷ lines) l beside = refl
rows_in-other profile (line.Row other row ∷ lines) l beside = ap (λ rows. (other, row_of profile row) ∷ rows) (rows_in-other profile lines l beside)
rows_in-other profile (line.Version ∷ lines) l beside = rows_in-other profile lines l beside
rows_in-other profile (line.Component decl ∷ lines) l beside = rows_in-other profile lines l beside
rows_in-other profile (line.Group named ∷ lines) l beside = rows_in-other profile lines l beside
rows_in-other profile (line.System system ∷ lines) l beside = rows_in-other profile lines l beside
rows_in-other profile (line.Body names body ∷ lines) l beside = rows_in-other profile lines l beside
rows_in-other profile (line.Tick tick ∷ lines) l beside = rows_in-other profile lines l beside
rows_in-other profile (line.Slot slot ∷ lines) l beside = rows_in-other profile lines l beside
rows_in-other profile (line.Next index ∷ lines) l beside = rows_in-other profile lines l beside
rows_in-other profile (line.End ∷ lines) l beside = rows_in-other profile lines l beside

-- every other line leaves the pools
pub pools_in-other : (profile : Profile) (lines : List Line) (l : Line) → IsBesidePools l → pools_in profile (lines ++ l ∷ []) ≡ pools_in profile lines
pools_in-other profile [] l beside = no_pools profile l beside
pools_in-other profile (line.Pool other ∷ lines) l beside = λ i. rows_in-other profile lines l beside i ∷ pools_in-other profile lines l beside i
pools_in-other profile (line.Row other row ∷ lines) l beside = pools_in-other profile lines l beside
pools_in-other profile (line.Version ∷ lines) l beside = pools_in-other profile lines l beside
pools_in-other profile (line.Component decl ∷ lines) l beside = pools_in-other profile lines l beside
pools_in-other profile (line.Group named ∷ lines) l beside = pools_in-other profile lines l beside
pools_in-other profile (line.System system ∷ lines) l beside = pools_in-other profile lines l beside
pools_in-other profile (line.Body names body ∷ lines) l beside = pools_in-other profile lines l beside
pools_in-other profile (line.Tick tick ∷ lines) l beside = pools_in-other profile lines l beside
pools_in-other profile (line.Slot slot ∷ lines) l beside = pools_in-other profile lines l beside
pools_in-other profile (line.Next index ∷ lines) l beside = pools_in-other profile lines l beside
pools_in-other profile (line.End ∷ lines) l beside = pools_in-other profile lines l beside
