-- A line that fits keeps what lines stand for lawful, and an end line makes it whole.
use Rattle.std.proofs.Common.{◌≡◌, ℕ, ◌<◌, ◌≤◌, Bool, true, false, not, ◌&&◌, List, [], ◌∷◌, ◌++◌, length, map, refl, sym, ap, subst, ◌∙◌, eqb, leb, arith}
use Rattle.std.specs.Prelude.{slice_get, nat_lt}
use Rattle.std.specs.List.{flat_map, list_any, list_all}
use Rattle.std.specs.Option.{option_map_or}
use Rattle.std.proofs.lemmas.Bool.{and_parts, eqb-true, leb-true, not-true}
use Rattle.entity_id.specs.declared.entity.Profile.{Profile}
use Rattle.entity_id.specs.declared.entity.Entity.{Entity}
use Rattle.world_model.specs.declared.component.Decl.{Decl}
use Rattle.world_model.specs.declared.slot.Slot.{Slot}
use Rattle.world_model.specs.Slots.{is_live}
use Rattle.world_model.specs.Components.{has_name}
use Rattle.world_text.specs.declared.format.Format.{Format}
use Rattle.world_text.specs.declared.section.Section.{Section}
use Rattle.world_text.specs.declared.section.Section.TheVariants as section
use Rattle.world_text.specs.FieldValues.{FieldValue}
use Rattle.world_text.specs.LineKinds.{Line, NamedGroup}
use Rattle.world_text.specs.LineKinds as line
use Rattle.world_text.specs.Formats.{IsFormat}
use Rattle.world_text.specs.Sections.{order, is_between}
use Rattle.row_lang.specs.Naming.{IsNamedDecl}
use Rattle.world_text.specs.Lines.{IsLine, IsRowLine}
use Rattle.world_text.specs.Meaning.{decl_in, group_in, group_of, groups_in, tick_in, slot_in, next_in, pools_in}
use Rattle.world_text.specs.Fitting.{section_of, last_section, all_settled, goes_on_last, are_listed, may_join, fits, is_unlisted}
use Rattle.world_text.proofs.MeaningLemmas.{gains, keeps, groups_keep, groups_gain, groups_before, last_section_push, no_group_yet, no_next_yet, no_pool_yet, IsBesidePools, pools_in-row, pools_in-pool, pools_in-other}
use Rattle.world_text.proofs.SettledLemmas.{settled_same, unlisted_by_flag}
use Rattle.world_text.proofs.LawfulRows.{profile_limits}
use Rattle.world_text.proofs.LawfulParts.{parts_of, AreSound, decl_push, group_push, tick_push, slot_push, next_push, pool_push, row_push}

-- the part that lines have reached is between those that a test names
between_parts : (first last reached_one : Section) → is_between first last reached_one ≡ true → (order first ≤ order reached_one) × (order reached_one ≤ order last)
between_parts first last reached_one h =
    let parts = and_parts (leb (order first) (order reached_one)) (leb (order reached_one) (order last)) h in
    (leb-true _ _ parts.0, leb-true _ _ parts.1)

-- a line that adds to no part
same_parts : (profile : Profile) (before : List Line) (l : Line) → decl_in l ≡ [] → group_in l ≡ [] → tick_in l ≡ [] → slot_in l ≡ [] → next_in l ≡ [] → IsBesidePools l → parts_of profile before ≡ parts_of profile (before ++ l ∷ [])
same_parts profile before l no_decl no_group no_tick no_slot no_next beside = λ i. record {
  decls = keeps decl_in before l _ no_decl refl i;
  groups = groups_keep before l no_decl no_group i;
  ticks = keeps tick_in before l _ no_tick refl i;
  slots = keeps slot_in before l _ no_slot refl i;
  free = keeps next_in before l _ no_next refl i;
  pools = sym (pools_in-other profile before l beside) i;
}

-- ---- a line that fits keeps what lines stand for lawful

-- each part that these lines stand for is lawful as far as it goes
abbrev pub IsSoundAfter : Format → List Line → Type 0
IsSoundAfter format lines = AreSound format (parts_of format.profile lines)

component_after : (format : Format) (before : List Line) (decl : Decl) → IsNamedDecl decl → fits format before (line.Component decl) ≡ true → IsSoundAfter format before → IsSoundAfter format (before ++ line.Component decl ∷ [])
component_after format before decl is_decl fit sound =
    let l : Line = line.Component decl in
    let tests = and_parts (is_between section.Version section.Components (last_section before)) (nat_lt (length (flat_map decl_in before)) 64 && not (list_any (has_name decl.name) (flat_map decl_in before))) fit in
    let early = between_parts section.Version section.Components (last_section before) tests.0 in
    let no_pool : pools_in format.profile before ≡ [] = no_pool_yet format.profile before (omega (arith, early.1)) in
    let no_group : flat_map group_in before ≡ [] = no_group_yet before (omega (arith, early.1)) in
    subst (AreSound format)
    (λ i. record {
      decls = gains decl_in before l _ refl i;
      groups = groups_before before decl no_group i;
      ticks = keeps tick_in before l _ refl refl i;
      slots = keeps slot_in before l _ refl refl i;
      free = keeps next_in before l _ refl refl i;
      pools = sym (pools_in-other format.profile before l tt) i;
    })
    (decl_push format (parts_of format.profile before) decl (ap (map (group_of (flat_map decl_in before))) no_group) no_pool is_decl tests.1 sound)

group_after : (format : Format) (before : List Line) (named : NamedGroup) → fits format before (line.Group named) ≡ true → IsSoundAfter format before → IsSoundAfter format (before ++ line.Group named ∷ [])
group_after format before named fit sound =
    let l : Line = line.Group named in
    let decls = flat_map decl_in before in
    let joins : Bool = may_join (groups_in before) (group_of (flat_map decl_in before) named) in
    let tests = and_parts (is_between section.Version section.Groups (last_section before)) (are_listed (flat_map decl_in before) named && joins) fit in
    subst (AreSound format)
    (λ i. record {
      decls = keeps decl_in before l _ refl refl i;
      groups = groups_gain before named i;
      ticks = keeps tick_in before l _ refl refl i;
      slots = keeps slot_in before l _ refl refl i;
      free = keeps next_in before l _ refl refl i;
      pools = sym (pools_in-other format.profile before l tt) i;
    })
    (group_push format (parts_of format.profile before) named (and_parts (are_listed (flat_map decl_in before) named) joins tests.1).1 sound)

tick_after : (format : Format) (before : List Line) (tick : ℕ) → tick ≤ 1000000000000 → IsSoundAfter format before → IsSoundAfter format (before ++ line.Tick tick ∷ [])
tick_after format before tick low sound =
    let l : Line = line.Tick tick in
    subst (AreSound format)
    (λ i. record {
      decls = keeps decl_in before l _ refl refl i;
      groups = groups_keep before l refl refl i;
      ticks = gains tick_in before l _ refl i;
      slots = keeps slot_in before l _ refl refl i;
      free = keeps next_in before l _ refl refl i;
      pools = sym (pools_in-other format.profile before l tt) i;
    })
    (tick_push format (parts_of format.profile before) tick low sound)

slot_after : (format : Format) (before : List Line) (slot : Slot) → slot.version < format.profile.version_limit → fits format before (line.Slot slot) ≡ true → IsSoundAfter format before → IsSoundAfter format (before ++ line.Slot slot ∷ [])
slot_after format before slot low fit sound =
    let l : Line = line.Slot slot in
    let tests = and_parts (is_between section.Tick section.Slots (last_section before)) (nat_lt (length (flat_map slot_in before)) format.slot_limit) fit in
    let early = between_parts section.Tick section.Slots (last_section before) tests.0 in
    let no_pool : pools_in format.profile before ≡ [] = no_pool_yet format.profile before (omega (arith, early.1)) in
    let no_next : flat_map next_in before ≡ [] = no_next_yet before (omega (arith, early.1)) in
    subst (AreSound format)
    (λ i. record {
      decls = keeps decl_in before l _ refl refl i;
      groups = groups_keep before l refl refl i;
      ticks = keeps tick_in before l _ refl refl i;
      slots = gains slot_in before l _ refl i;
      free = keeps next_in before l _ refl refl i;
      pools = sym (pools_in-other format.profile before l tt) i;
    })
    (slot_push format (parts_of format.profile before) slot no_pool no_next low tests.1 sound)

next_after : (format : Format) (before : List Line) (index : ℕ) → fits format before (line.Next index) ≡ true → IsSoundAfter format before → IsSoundAfter format (before ++ line.Next index ∷ [])
next_after format before index fit sound =
    let l : Line = line.Next index in
    let tests = and_parts (is_between section.Tick section.FreeList (last_section before)) (is_unlisted (flat_map slot_in before) (flat_map next_in before) index) fit in
    subst (AreSound format)
    (λ i. record {
      decls = keeps decl_in before l _ refl refl i;
      groups = groups_keep before l refl refl i;
      ticks = keeps tick_in before l _ refl refl i;
      slots = keeps slot_in before l _ refl refl i;
      free = gains next_in before l _ refl i;
      pools = sym (pools_in-other format.profile before l tt) i;
    })
    (next_push format (parts_of format.profile before) index (not-true _ (unlisted_by_flag before index ∙ tests.1)) sound)

pool_after : (format : Format) (before : List Line) (name : List ℕ) → fits format before (line.Pool name) ≡ true → IsSoundAfter format before → IsSoundAfter format (before ++ line.Pool name ∷ [])
pool_after format before name fit sound =
    let l : Line = line.Pool name in
    let named : Bool = option_map_or (has_name name) (slice_get (flat_map decl_in before) (length (pools_in format.profile before))) false in
    let tests = and_parts (is_between section.Tick section.Pools (last_section before)) (all_settled before && named) fit in
    subst (AreSound format)
    (λ i. record {
      decls = keeps decl_in before l _ refl refl i;
      groups = groups_keep before l refl refl i;
      ticks = keeps tick_in before l _ refl refl i;
      slots = keeps slot_in before l _ refl refl i;
      free = keeps next_in before l _ refl refl i;
      pools = sym (pools_in-pool format.profile before name) i;
    })
    (pool_push format (parts_of format.profile before) name (and_parts (all_settled before) named tests.1).1 sound)

row_after : (format : Format) (before : List Line) (entity : Entity) (values : List FieldValue) → IsFormat format → IsRowLine format entity values → fits format before (line.Row entity values) ≡ true → IsSoundAfter format before → IsSoundAfter format (before ++ line.Row entity values ∷ [])
row_after format before entity values is_format is_row fit sound =
    let l : Line = line.Row entity values in
    let tests = and_parts (is_between section.Pools section.Pools (last_section before)) (is_live (flat_map slot_in before) entity && goes_on_last (flat_map decl_in before) (pools_in format.profile before) entity values) fit in
    subst (AreSound format)
    (λ i. record {
      decls = keeps decl_in before l _ refl refl i;
      groups = groups_keep before l refl refl i;
      ticks = keeps tick_in before l _ refl refl i;
      slots = keeps slot_in before l _ refl refl i;
      free = keeps next_in before l _ refl refl i;
      pools = sym (pools_in-row format.profile before entity values) i;
    })
    (row_push format (parts_of format.profile before) entity values (profile_limits format.profile is_format.profile) is_row tests.1 sound)

-- whichever line it is
pub line_after : (format : Format) (before : List Line) (l : Line) → IsFormat format → IsLine format l → fits format before l ≡ true → IsSoundAfter format before → IsSoundAfter format (before ++ l ∷ [])
line_after format before line.Version is_format is_line fit sound = subst (AreSound format) (same_parts format.profile before line.Version refl refl refl refl refl tt) sound
line_after format before (line.Component decl) is_format is_line fit sound = component_after format before decl is_line fit sound
line_after format before (line.Group named) is_format is_line fit sound = group_after format before named fit sound
line_after format before (line.System name) is_format is_line fit sound = subst (AreSound format) (same_parts format.profile before (line.System name) refl refl refl refl refl tt) sound
line_after format before (line.Body names body) is_format is_line fit sound = subst (AreSound format) (same_parts format.profile before (line.Body names body) refl refl refl refl refl tt) sound
line_after format before (line.Tick tick) is_format is_line fit sound = tick_after format before tick is_line sound
line_after format before (line.Slot slot) is_format is_line fit sound = slot_after format before slot is_line fit sound
line_after format before (line.Next index) is_format is_line fit sound = next_after format before index fit sound
line_after format before (line.Pool name) is_format is_line fit sound = pool_after format before name fit sound
line_after format before (line.Row entity values) is_format is_line fit sound = row_after format before entity values is_format is_line fit sound
line_after format before line.End is_format is_line fit sound = subst (AreSound format) (same_parts format.profile before line.End refl refl refl refl refl tt) sound

-- ---- the end

-- at the end each slot is settled and each component has its pool
pub record IsWhole (format : Format) (lines : List Line) : Type 0 where
  pub settled_all : all_settled lines ≡ true
  pub pools_all : length (pools_in format.profile lines) ≡ length (flat_map decl_in lines)

not_ended : (before : List Line) (l : Line) (first last : Section) → is_between first last (last_section before) ≡ true → order last ≤ order (section_of l) → order (section_of l) < 9 → last_section (before ++ l ∷ []) ≡ section.End → ⊥
not_ended before l first last fit low early ended =
    let between = between_parts first last (last_section before) fit in
    let at : order (section_of l) ≡ 9 = ap order (sym (last_section_push before l (omega (arith, between.1))) ∙ ended) in
    omega arith

end_whole : (format : Format) (before : List Line) → fits format before line.End ≡ true → IsWhole format (before ++ line.End ∷ [])
end_whole format before fit =
    let as_many : Bool = eqb (length (pools_in format.profile before)) (length (flat_map decl_in before)) in
    let tests = and_parts (is_between section.Tick section.Pools (last_section before)) (all_settled before && as_many) fit in
    let both = and_parts (all_settled before) as_many tests.1 in
    record {
      settled_all = ap (list_all (λ flag. flag)) (sym (settled_same before line.End refl refl)) ∙ both.0;
      pools_all = ap length (pools_in-other format.profile before line.End tt) ∙ eqb-true _ _ both.1 ∙ ap length (keeps decl_in before line.End _ refl refl);
    }

-- lines that end are whole
pub whole_after : (format : Format) (before : List Line) (l : Line) → fits format before l ≡ true → last_section (before ++ l ∷ []) ≡ section.End → IsWhole format (before ++ l ∷ [])
whole_after format before line.Version fit ended = absurd (not_ended before line.Version section.Start section.Start fit (omega arith) (omega arith) ended)
whole_after format before (line.Component decl) fit ended = absurd (not_ended before (line.Component decl) section.Version section.Components (and_parts _ _ fit).0 (omega arith) (omega arith) ended)
whole_after format before (line.Group named) fit ended = absurd (not_ended before (line.Group named) section.Version section.Groups (and_parts _ _ fit).0 (omega arith) (omega arith) ended)
whole_after format before (line.System name) fit ended = absurd (not_ended before (line.System name) section.Version section.Systems (and_parts _ _ fit).0 (omega arith) (omega arith) ended)
whole_after format before (line.Body names body) fit ended = absurd (not_ended before (line.Body names body) section.Systems section.Systems (and_parts _ _ fit).0 (omega arith) (omega arith) ended)
whole_after format before (line.Tick tick) fit ended = absurd (not_ended before (line.Tick tick) section.Version section.Systems (and_parts _ _ fit).0 (omega arith) (omega arith) ended)
whole_after format before (line.Slot slot) fit ended = absurd (not_ended before (line.Slot slot) section.Tick section.Slots (and_parts _ _ fit).0 (omega arith) (omega arith) ended)
whole_after format before (line.Next index) fit ended = absurd (not_ended before (line.Next index) section.Tick section.FreeList (and_parts _ _ fit).0 (omega arith) (omega arith) ended)
whole_after format before (line.Pool name) fit ended = absurd (not_ended before (line.Pool name) section.Tick section.Pools (and_parts _ _ fit).0 (omega arith) (omega arith) ended)
whole_after format before (line.Row entity values) fit ended = absurd (not_ended before (line.Row entity values) section.Pools section.Pools (and_parts _ _ fit).0 (omega arith) (omega arith) ended)
whole_after format before line.End fit ended = end_whole format before fit
