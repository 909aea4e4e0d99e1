-- Printed pools and their rows are admissible, each after those before it.
use Rattle.std.proofs.Common.{◌≡◌, ℕ, ◌+◌, ◌-◌, ◌<◌, ◌≤◌, true, false, List, [], ◌∷◌, ◌++◌, map, length, length-set, get_or, set, Some, IsTrue, refl, sym, ap, subst, ◌∙◌, arith, append_assoc, slice_get, nat_lt}
use Rattle.std.specs.List.{flat_map, list_all, zip, AllByRecursion, AllZip}
use Rattle.std.specs.Option.{option_map_or}
use Rattle.std.specs.Str.{bytes_eq}
use Rattle.std.proofs.lemmas.List.{append-nil, length_push, get_or_push, set_at}
use Rattle.std.proofs.lemmas.Grind.{flat_map-append}
use Rattle.std.proofs.lemmas.Bool.{and_from, lt-ltb}
use Rattle.std.proofs.lemmas.Slice.Eq.{bytes_eq-Decides}
use Rattle.entity_id.specs.declared.entity.Profile.{Profile}
use Rattle.entity_id.specs.declared.entity.Entity.{Entity}
use Rattle.entity_id.specs.FiniteMap as entries
use Rattle.entity_id.proofs.ListLemmas.{all_weaker}
use Rattle.world_model.specs.declared.component.Decl.{Decl}
use Rattle.world_model.specs.declared.component.Row.{Row}
use Rattle.world_model.specs.declared.slot.Slot.{Slot}
use Rattle.world_model.specs.Components.{IsDecl, IsRow, kinds_of, has_name}
use Rattle.world_model.specs.Slots.{is_live}
use Rattle.world_model.specs.Worlds.{AreLawfulRows}
use Rattle.world_text.specs.declared.format.Format.{Format}
use Rattle.world_text.specs.declared.section.Section.TheVariants as section
use Rattle.world_text.specs.FieldValues.{FieldValue}
use Rattle.world_text.specs.LineKinds.{Line}
use Rattle.world_text.specs.LineKinds as line
use Rattle.world_text.specs.Sections.{order}
use Rattle.world_text.specs.Meaning.{decl_in, slot_in, next_in, row_of, pools_in, settled_from, settled}
use Rattle.world_text.specs.Fitting.{last_section, all_settled, are_of_kinds, is_above, goes_on_last, fit_after}
use Rattle.world_text.specs.Documents.{values_in, row_line, pool_lines}
use Rattle.world_text.proofs.MeaningLemmas.{order_later, order_last_section-append, last_section_push, keeps, pools_in-row, pools_in-pool}
use Rattle.world_text.proofs.PrintedValues.{few_kinds, row_of_kinds}
use Rattle.world_text.proofs.PrintedMeaning.{none_in}
use Rattle.world_text.proofs.PrintedFits.{fit_append, between}

-- ---- rows

-- lines whose last pool holds some rows, and is that of a component
record IsAtPool (format : Format) (before : List Line) (done : List (List (Entity × Row))) (last : List (Entity × Row)) (decl : Decl) : Type 0 where
  last_section : last_section before ≡ section.Pools
  pools : pools_in format.profile before ≡ done ++ last ∷ []
  decl_at : slice_get (flat_map decl_in before) (length done) ≡ Some decl

slice_get-at : {X : Type 0} (xs : List X) (y : X) (ys : List X) → slice_get (xs ++ y ∷ ys) (length xs) ≡ Some y
slice_get-at [] y ys = refl
slice_get-at (x ∷ xs) y ys = slice_get-at xs y ys

last_place : {X : Type 0} (xs : List X) (x : X) → length (xs ++ x ∷ []) - 1 ≡ length xs
last_place xs x = omega (arith, length_push xs x)

slice_get-last : {X : Type 0} (xs : List X) (x : X) → slice_get (xs ++ x ∷ []) (length (xs ++ x ∷ []) - 1) ≡ Some x
slice_get-last xs x = ap (slice_get (xs ++ x ∷ [])) (last_place xs x) ∙ slice_get-at xs x []

-- the last of some lists gains an item
set-last : {X : Type 0} (done : List (List X)) (last : List X) (x : X) → set (done ++ last ∷ []) (length (done ++ last ∷ []) - 1) (get_or (done ++ last ∷ []) (length (done ++ last ∷ []) - 1) [] ++ x ∷ []) ≡ done ++ (last ++ x ∷ []) ∷ []
set-last done last x =
    ap (λ k. set (done ++ last ∷ []) k (get_or (done ++ last ∷ []) k [] ++ x ∷ [])) (last_place done last)
    ∙ ap (λ rows. set (done ++ last ∷ []) (length done) (rows ++ x ∷ [])) (get_or_push done last [] (length done) refl)
    ∙ set_at done last [] (last ++ x ∷ []) (length done) refl

above_last : (rows : List (Entity × Row)) (entry : Entity × Row) (entity : Entity) → entry.0.index < entity.index → is_above (rows ++ entry ∷ []) entity ≡ true
above_last rows entry entity above =
    ap (λ o. option_map_or (λ (last : Entity × Row). nat_lt last.0.index entity.index) o true) (slice_get-last rows entry) ∙ lt-ltb entry.0.index entity.index above

-- a row goes on the last pool where it is above that pool's rows and of its component's kinds
row_goes : (decls : List Decl) (pools : List (List (Entity × Row))) (done : List (List (Entity × Row))) (last : List (Entity × Row)) (decl : Decl) (entity : Entity) (values : List FieldValue) → pools ≡ done ++ last ∷ [] → slice_get decls (length done) ≡ Some decl → is_above last entity ≡ true → are_of_kinds (kinds_of decl) values ≡ true → goes_on_last decls pools entity values ≡ true
row_goes decls pools done last decl entity values are at above of_kinds =
    let here : slice_get pools (length pools - 1) ≡ Some last = ap (λ (ps : List (List (Entity × Row))). slice_get ps (length ps - 1)) are ∙ slice_get-last done last in
    let its : slice_get decls (length pools - 1) ≡ Some decl = ap (slice_get decls) (ap (λ (ps : List (List (Entity × Row))). length ps - 1) are ∙ last_place done last) ∙ at in
    and_from _ _
    (ap (λ o. option_map_or (λ rows. is_above rows entity) o false) here ∙ above)
    (ap (λ o. option_map_or (λ (d : Decl). are_of_kinds (kinds_of d) values) o false) its ∙ of_kinds)

-- rows fit, one after another
rows_fit : (format : Format) (slots : List Slot) (before : List Line) (done : List (List (Entity × Row))) (last : List (Entity × Row)) (decl : Decl) (rows : List (Entity × Row)) → flat_map slot_in before ≡ slots → IsAtPool format before done last decl → IsDecl decl → AllByRecursion (λ entry. is_above last entry.0 ≡ true) rows → entries.IsAscending rows → AllByRecursion (λ entry. IsTrue (is_live slots entry.0)) rows → AllByRecursion (λ entry. IsRow entry.1) rows → fit_after format before (map (row_line format.profile decl) rows) ≡ true
rows_fit format slots before done last decl [] are at is_decl above ascending live wide = refl
rows_fit format slots before done last decl (entry ∷ rows) are at is_decl above ascending live wide =
    let l = row_line format.profile decl entry in
    let x : Entity × Row = (entry.0, row_of format.profile (values_in format.profile decl entry.1)) in
    let kept_slots : flat_map slot_in before ≡ flat_map slot_in (before ++ l ∷ []) = keeps slot_in before l _ refl refl in
    let kept_decls : flat_map decl_in before ≡ flat_map decl_in (before ++ l ∷ []) = keeps decl_in before l _ refl refl in
    let place : order (last_section before) ≡ 8 = ap order at.last_section in
    let after : IsAtPool format (before ++ l ∷ []) done (last ++ x ∷ []) decl = record {
      last_section = last_section_push before l (omega arith);
      pools = pools_in-row format.profile before entry.0 (values_in format.profile decl entry.1) ∙ ap (λ (ps : List (List (Entity × Row))). set ps (length ps - 1) (get_or ps (length ps - 1) [] ++ x ∷ [])) at.pools ∙ set-last done last x;
      decl_at = ap (λ ds. slice_get ds (length done)) (sym kept_decls) ∙ at.decl_at;
    } in
    and_from _ _
    (and_from _ _ (between section.Pools section.Pools (last_section before) (omega arith) (omega arith)) (and_from _ _ (ap (λ ss. is_live ss entry.0) are ∙ live.0) (row_goes _ _ done last decl entry.0 (values_in format.profile decl entry.1) at.pools at.decl_at above.0 (row_of_kinds format.profile decl entry.1 (few_kinds decl is_decl) wide.0))))
    (rows_fit format slots (before ++ l ∷ []) done (last ++ x ∷ []) decl rows (sym kept_slots ∙ are) after is_decl (all_weaker _ _ (λ other smaller. above_last last x other.0 smaller) rows ascending.0) ascending.1 live.1 wide.1)

-- ---- pools

above_none : (rows : List (Entity × Row)) → AllByRecursion (λ entry. is_above [] entry.0 ≡ true) rows
above_none [] = tt
above_none (entry ∷ rows) = (refl, above_none rows)

-- rows are no pools
rows_count : (profile : Profile) (decl : Decl) (before : List Line) (rows : List (Entity × Row)) → length (pools_in profile (before ++ map (row_line profile decl) rows)) ≡ length (pools_in profile before)
rows_count profile decl before [] = ap (λ ls. length (pools_in profile ls)) (append-nil before)
rows_count profile decl before (entry ∷ rows) =
    let l = row_line profile decl entry in
    ap (λ ls. length (pools_in profile ls)) (sym (append_assoc before (l ∷ []) (map (row_line profile decl) rows)))
    ∙ rows_count profile decl (before ++ l ∷ []) rows
    ∙ ap length (pools_in-row profile before entry.0 (values_in profile decl entry.1))
    ∙ length-set (pools_in profile before) _ _

-- the lines of a pool are one pool more
pool_count : (profile : Profile) (pool : Decl × List (Entity × Row)) (before : List Line) → length (pools_in profile (before ++ pool_lines profile pool)) ≡ length (pools_in profile before) + 1
pool_count profile pool before =
    ap (λ ls. length (pools_in profile ls)) (sym (append_assoc before (line.Pool pool.0.name ∷ []) (map (row_line profile pool.0) pool.1)))
    ∙ rows_count profile pool.0 (before ++ line.Pool pool.0.name ∷ []) pool.1
    ∙ ap length (pools_in-pool profile before pool.0.name)
    ∙ length_push (pools_in profile before) []

low_rows : (profile : Profile) (decl : Decl) (rows : List (Entity × Row)) → order (last_section (map (row_line profile decl) rows)) ≤ 8
low_rows profile decl [] = omega arith
low_rows profile decl (entry ∷ rows) = omega (arith, order_later section.Pools (last_section (map (row_line profile decl) rows)), low_rows profile decl rows)

-- the lines of a pool reach the pools and no further
low_pool : (profile : Profile) (pool : Decl × List (Entity × Row)) → order (last_section (pool_lines profile pool)) ≤ 8
low_pool profile pool = omega (arith, order_later section.Pools (last_section (map (row_line profile pool.0) pool.1)), low_rows profile pool.0 pool.1)

-- a list of parts that the lines of a pool leave
same_behind : {X : Type 0} (f : Line → List X) → ((name : List ℕ) → f (line.Pool name) ≡ []) → ((profile : Profile) (decl : Decl) (entry : Entity × Row) → f (row_line profile decl entry) ≡ []) → (profile : Profile) (pool : Decl × List (Entity × Row)) (before : List Line) → flat_map f (before ++ pool_lines profile pool) ≡ flat_map f before
same_behind f no_pool no_row profile pool before =
    flat_map-append f before (pool_lines profile pool)
    ∙ (λ i. flat_map f before ++ (no_pool pool.0.name i ++ none_in f (row_line profile pool.0) (no_row profile pool.0) pool.1 i))
    ∙ append-nil (flat_map f before)

slots_behind : (profile : Profile) (pool : Decl × List (Entity × Row)) (before : List Line) → flat_map slot_in (before ++ pool_lines profile pool) ≡ flat_map slot_in before
slots_behind profile pool before = same_behind slot_in (λ _. refl) (λ _ _ _. refl) profile pool before

decls_behind : (profile : Profile) (pool : Decl × List (Entity × Row)) (before : List Line) → flat_map decl_in (before ++ pool_lines profile pool) ≡ flat_map decl_in before
decls_behind profile pool before = same_behind decl_in (λ _. refl) (λ _ _ _. refl) profile pool before

settled_behind : (profile : Profile) (pool : Decl × List (Entity × Row)) (before : List Line) → settled (before ++ pool_lines profile pool) ≡ settled before
settled_behind profile pool before i = settled_from 0 (slots_behind profile pool before i) (same_behind next_in (λ _. refl) (λ _ _ _. refl) profile pool before i)

-- lines behind which the pools of the components from one on are to come
pub record IsBeforePools (format : Format) (slots : List Slot) (before : List Line) (done decls : List Decl) : Type 0 where
  pub low : 5 ≤ order (last_section before)
  pub high : order (last_section before) ≤ 8
  pub slots_are : flat_map slot_in before ≡ slots
  pub settled : all_settled before ≡ true
  pub decls_are : flat_map decl_in before ≡ done ++ decls
  pub count : length (pools_in format.profile before) ≡ length done

pool_fits : (format : Format) (slots : List Slot) (before : List Line) (done : List Decl) (decl : Decl) (decls : List Decl) (rows : List (Entity × Row)) → IsBeforePools format slots before done (decl ∷ decls) → IsDecl decl → AreLawfulRows format.profile slots decl rows → fit_after format before (pool_lines format.profile (decl, rows)) ≡ true
pool_fits format slots before done decl decls rows state is_decl lawful =
    let l = line.Pool decl.name in
    let next_decl : slice_get (flat_map decl_in before) (length (pools_in format.profile before)) ≡ Some decl = (λ i. slice_get (state.decls_are i) (state.count i)) ∙ slice_get-at done decl decls in
    let named : bytes_eq decl.name decl.name ≡ true = (bytes_eq-Decides decl.name decl.name).1 refl in
    let at : IsAtPool format (before ++ l ∷ []) (pools_in format.profile before) [] decl = record {
      last_section = last_section_push before l state.high;
      pools = pools_in-pool format.profile before decl.name;
      decl_at = ap (λ ds. slice_get ds (length (pools_in format.profile before))) (sym (keeps decl_in before l _ refl refl)) ∙ next_decl;
    } in
    and_from _ _
    (and_from _ _ (between section.Tick section.Pools (last_section before) state.low state.high) (and_from _ _ state.settled (ap (λ o. option_map_or (has_name decl.name) o false) next_decl ∙ named)))
    (rows_fit format slots (before ++ l ∷ []) (pools_in format.profile before) [] decl rows (sym (keeps slot_in before l _ refl refl) ∙ state.slots_are) at is_decl (above_none rows) lawful.ascending lawful.live lawful.wide)

pool_passed : (format : Format) (slots : List Slot) (before : List Line) (done : List Decl) (decl : Decl) (decls : List Decl) (rows : List (Entity × Row)) → IsBeforePools format slots before done (decl ∷ decls) → IsBeforePools format slots (before ++ pool_lines format.profile (decl, rows)) (done ++ decl ∷ []) decls
pool_passed format slots before done decl decls rows state =
    let pool : Decl × List (Entity × Row) = (decl, rows) in
    let place = order_last_section-append before (pool_lines format.profile pool) in
    record {
      low = omega (arith, place, state.low);
      high = omega (arith, place, state.high, low_pool format.profile pool);
      slots_are = slots_behind format.profile pool before ∙ state.slots_are;
      settled = ap (list_all (λ b. b)) (settled_behind format.profile pool before) ∙ state.settled;
      decls_are = decls_behind format.profile pool before ∙ state.decls_are ∙ sym (append_assoc done (decl ∷ []) decls);
      count = pool_count format.profile pool before ∙ ap (λ n. n + 1) state.count ∙ sym (length_push done decl);
    }

-- where all pools are printed, each line of them fits, and the lines are those before the end
pub pools_fit : (format : Format) (slots : List Slot) (before : List Line) (done decls : List Decl) (pools : List (List (Entity × Row))) → IsBeforePools format slots before done decls → AllByRecursion IsDecl decls → AllZip (AreLawfulRows format.profile slots) decls pools → (fit_after format before (flat_map (pool_lines format.profile) (zip decls pools)) ≡ true) × IsBeforePools format slots (before ++ flat_map (pool_lines format.profile) (zip decls pools)) (done ++ decls) []
pools_fit format slots before done [] [] state are_decls lawful =
    (refl, subst (λ ls. IsBeforePools format slots ls (done ++ []) []) (sym (append-nil before)) (subst (λ ds. IsBeforePools format slots before ds []) (sym (append-nil done)) state))
pools_fit format slots before done [] (rows ∷ pools) state are_decls lawful = absurd lawful
pools_fit format slots before done (decl ∷ decls) [] state are_decls lawful = absurd lawful
pools_fit format slots before done (decl ∷ decls) (rows ∷ pools) state are_decls lawful =
    let mine = pool_lines format.profile (decl, rows) in
    let others = flat_map (pool_lines format.profile) (zip decls pools) in
    let rest = pools_fit format slots (before ++ mine) (done ++ decl ∷ []) decls pools (pool_passed format slots before done decl decls rows state) are_decls.1 lawful.1 in
    (fit_append format before mine others (pool_fits format slots before done decl decls rows state are_decls.0 lawful.0) rest.0, subst (λ ls. IsBeforePools format slots ls (done ++ decl ∷ decls) []) (append_assoc before mine others) (subst (λ ds. IsBeforePools format slots ((before ++ mine) ++ others) ds []) (append_assoc done (decl ∷ []) decls) rest.1))
