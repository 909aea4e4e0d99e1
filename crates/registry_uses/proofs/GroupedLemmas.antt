-- Scenes with the group of those that move: its members, and a walk over them.
use Rattle.std.proofs.Common.{◌≡◌, ◌+◌, ℕ, ◌<◌, Bool, true, false, not, ◌&&◌, ◌||◌, List, [], ◌∷◌, ◌++◌, map, length, take, get_or, slice_get, zero, suc, Some, None, is_some, refl, sym, ap, ap₂, ◌∙◌, subst, arith, inl, inr}
use Rattle.std.specs.Prelude.{IsTrue, IsPermutation, slice_index_or}
use Rattle.std.specs.List.{list_any}
use Rattle.std.proofs.lemmas.Bool.{cases_Bool}
use Rattle.std.proofs.lemmas.List.Sorted.{IsPermutation-sym, list_any-IsPermutation}
use Rattle.std.proofs.lemmas.Option.{none-some, same_Some, slice_get-get_or}
use Rattle.entity_id.specs.declared.entity.Entity.{Entity}
use Rattle.entity_id.specs.declared.entity.Profile.{Profile}
use Rattle.entity_id.specs.FiniteMap as rows
use Rattle.entity_id.specs.Identifiers.{is_same}
use Rattle.entity_id.specs.Matching.{matches}
use Rattle.entity_id.proofs.MapLemmas.{same_index}
use Rattle.entity_id.proofs.MatchLemmas.{any-matches, distinct-matches, equal_members}
use Rattle.entity_id.proofs.PackedListLemmas.{at_taken, distinct-permutation, none_by_place}
use Rattle.world_model.specs.declared.command.Command.{Command}
use Rattle.world_model.specs.declared.command.Command.TheVariants.{Group, Replace}
use Rattle.world_model.specs.declared.command.Reply.{Reply}
use Rattle.world_model.specs.declared.command.Reply.TheVariants.{GroupNumber}
use Rattle.world_model.specs.declared.component.Decl.{Decl}
use Rattle.world_model.specs.declared.component.Row.{Row}
use Rattle.world_model.specs.declared.group.GroupDecl.{GroupDecl}
use Rattle.world_model.specs.declared.world.World.{World}
use Rattle.world_model.specs.Components.{IsRow}
use Rattle.world_model.specs.Conditions.{fits_pool}
use Rattle.world_model.specs.Contents.{group_at, has_row, keys_of, pool_at, row_at, with_pool}
use Rattle.world_model.specs.Groups.{are_declared, group_prefix, members, packed_at}
use Rattle.world_model.specs.Outcomes.{Outcome, outcome_of}
use Rattle.world_model.specs.Refusing.{refusal_of}
use Rattle.world_model.specs.Steps.{step}
use Rattle.world_model.specs.Worlds.{IsLawful}
use Rattle.world_model.proofs.KeyLemmas.{ascending_keys, ascending_view}
use Rattle.registry.specs.Held.{Held, AsBefore, Does, member_count, packed_members, refusal_to, reply_to, rows_refusal}
use Rattle.registry.specs.Laws.{IsLawfulRegistry}
use Rattle.registry.proofs.DoneLemmas.{accepted}
use Rattle.registry.proofs.ViewLemmas.{match_by_rows}
use Rattle.registry_uses.specs.declared.beginning.TheConstants.{POSITION, VELOCITY, FROZEN}
use Rattle.registry_uses.specs.declared.walking.TheConstants.{MOVING}
use Rattle.registry_uses.specs.Moving.{is_moving, moved, next_place, IsPartlyMoved}
use Rattle.registry_uses.specs.Scenes.{moving_group, scene_components, IsGroupedScene, IsScene}
use Rattle.registry_uses.proofs.MovingLemmas.{among, among_first, may_move, moved_more, moving_rows, none_moved, some_moved, unmoved, HaveMoved}
use Rattle.registry_uses.proofs.SceneLemmas.{decls_after, groups_after, lawful_after}

-- ---- the group made

-- a world with these components and groups, and all else of another
abbrev grouped_so : World → List Decl → List GroupDecl → World
grouped_so w decls groups = record w { decls = decls; groups = groups }

-- in a scene nothing refuses the group
pub group_passes : (held : Held) → IsScene held → refusal_to held (Group moving_group) ≡ None
group_passes held h = ap₂ (λ (decls : List Decl) (groups : List GroupDecl). refusal_of held.limit (grouped_so held.world decls groups) (Group moving_group)) h.decls h.groups

-- it has the first number
pub group_is_first : (held : Held) → IsScene held → reply_to held (Group moving_group) ≡ GroupNumber MOVING
group_is_first held h = ap₂ (λ (decls : List Decl) (groups : List GroupDecl). (step held.limit (grouped_so held.world decls groups) (Group moving_group)).reply) h.decls h.groups

number_of : Reply → ℕ
number_of (GroupNumber number) = number
number_of _ = 0

pub same_number : (a b : ℕ) → GroupNumber a ≡ GroupNumber b → b ≡ a
unfolding number_of
same_number a b same = sym (ap number_of same)

-- and the scene has it then
pub scene_grouped : (old new : Held) → IsScene old → Does old new (Group moving_group) → IsGroupedScene new
scene_grouped old new h does = record {
  limit = does.limit ∙ h.limit;
  decls = decls_after old new (Group moving_group) does ∙ h.decls;
  groups = ap (λ (w : World). w.groups) does.world ∙ ap₂ (λ (decls : List Decl) (groups : List GroupDecl). (step old.limit (grouped_so old.world decls groups) (Group moving_group)).world.groups) h.decls h.groups;
}

-- ---- scenes with the group

pub stays_grouped : (old new : Held) (command : Command) → IsGroupedScene old → (outcome_of old.limit old.world command).world.groups ≡ old.world.groups → Does old new command → IsGroupedScene new
stays_grouped old new command h accepted_groups does = record {
  limit = does.limit ∙ h.limit;
  decls = decls_after old new command does ∙ h.decls;
  groups = groups_after old new command accepted_groups does ∙ h.groups;
}

pub grouped_as_before : (old new : Held) → IsGroupedScene old → AsBefore old new → IsGroupedScene new
grouped_as_before old new h before = record {
  limit = before.unchanged.limit ∙ h.limit;
  decls = ap (λ (w : World). w.decls) before.unchanged.world ∙ h.decls;
  groups = ap (λ (w : World). w.groups) before.unchanged.world ∙ h.groups;
}

-- the group stands
pub group_stands : (held : Held) → IsGroupedScene held → MOVING < length held.world.groups
group_stands held h = let one = ap length h.groups in omega (arith, one)

-- and its rows are lent
pub rows_are_lent : (held : Held) (pool : ℕ) → IsGroupedScene held → rows_refusal (grouped_so held.world scene_components (moving_group ∷ [])) MOVING pool ≡ None → rows_refusal held.world MOVING pool ≡ None
rows_are_lent held pool h passes = ap₂ (λ (decls : List Decl) (groups : List GroupDecl). rows_refusal (grouped_so held.world decls groups) MOVING pool) h.decls h.groups ∙ passes

-- a place that is reached fits
place_fits : (profile : Profile) (place velocity : Row) → IsTrue (fits_pool profile scene_components POSITION (moved place velocity))
place_fits profile place velocity = refl

-- ---- the members

-- those that move, in ascending index
abbrev pub movers : World → List Entity
movers w = matches (keys_of w) (POSITION ∷ VELOCITY ∷ []) (FROZEN ∷ [])

group_is : (held : Held) → IsGroupedScene held → group_at held.world MOVING ≡ moving_group
group_is held h = ap (λ (groups : List GroupDecl). slice_index_or groups MOVING (record { own = []; get = []; without = [] })) h.groups

-- the members are as many as move, and stand first in the packed list of places
members_are : (held : Held) → IsGroupedScene held → packed_members held MOVING ≡ take (length (movers held.world)) (packed_at held.packed POSITION)
members_are held h = ap (λ (decl : GroupDecl). group_prefix held.packed decl (length (members (keys_of held.world) decl))) (group_is held h)

-- they are those that move, in some order
members_move : (held : Held) → IsLawfulRegistry held → IsGroupedScene held → IsPermutation (packed_members held MOVING) (movers held.world)
members_move held law h =
    let is : slice_get held.world.groups MOVING ≡ Some moving_group = ap (λ (groups : List GroupDecl). slice_get groups MOVING) h.groups in
    subst (λ (decl : GroupDecl). IsPermutation (group_prefix held.packed decl (member_count held MOVING)) (movers held.world)) (sym (group_is held h)) (law.groups MOVING moving_group is).matching

-- an identifier is a member exactly where it moves
pub among_members : (held : Held) → IsLawfulRegistry held → IsGroupedScene held → (e : Entity) → list_any (is_same e) (packed_members held MOVING) ≡ is_moving held.world e
among_members held law h e =
    list_any-IsPermutation (is_same e) (packed_members held MOVING) (movers held.world) (members_move held law h) ∙ any-matches (keys_of held.world) POSITION (VELOCITY ∷ []) (FROZEN ∷ []) e

-- a member isn't among those before it
pub fresh_member : (held : Held) → IsLawfulRegistry held → IsGroupedScene held → (place : ℕ) (x : Entity) → slice_get (packed_members held MOVING) place ≡ Some x → list_any (is_same x) (take place (packed_members held MOVING)) ≡ false
fresh_member held law h place x is =
    let list : List Entity = packed_members held MOVING in
    let ascends = ascending_keys held.limit held.world POSITION law.world in
    let distinct = distinct-permutation (λ (e : Entity). e.index) (movers held.world) list (IsPermutation-sym list (movers held.world) (members_move held law h)) (distinct-matches (keys_of held.world) POSITION (VELOCITY ∷ []) (FROZEN ∷ []) ascends) in
    none_by_place (is_same x) (take place list) (λ k y at. elim (cases_Bool (is_same x y)) [
      | inl same ↦
          let before = at_taken place list k y at in
          let here : k ≡ place = distinct k place y x before.1 is (sym (same_index x y same)) in
          absurd (let low = before.0 in omega (arith, low, here))
      | inr differ ↦ differ
    ])

-- where some that move have moved, the same move
moving_still : (old now : World) (list : List Entity) → HaveMoved old now list → ((e : Entity) → list_any (is_same e) list ≡ true → is_moving old e ≡ true) → (e : Entity) → is_moving now e ≡ is_moving old e
moving_still old now list h moves e =
    let velocity : has_row now VELOCITY e ≡ has_row old VELOCITY e = ap (λ l. rows.contains l e) (h.pools VELOCITY (λ same. omega (arith, same))) in
    let frozen : has_row now FROZEN e ≡ has_row old FROZEN e = ap (λ l. rows.contains l e) (h.pools FROZEN (λ same. omega (arith, same))) in
    let place : has_row now POSITION e ≡ has_row old POSITION e = elim (cases_Bool (list_any (is_same e) list)) [
      | inl there ↦ ap is_some (h.moving e there) ∙ sym (moving_rows old e (moves e there)).0
      | inr none ↦ ap is_some (h.standing e none)
    ] in
    match_by_rows now (POSITION ∷ VELOCITY ∷ []) (FROZEN ∷ []) e
    ∙ ap (λ (b : Bool). (b && (has_row now VELOCITY e && true)) && not (has_row now FROZEN e || false)) place
    ∙ ap₂ (λ (b c : Bool). (has_row old POSITION e && (b && true)) && not (c || false)) velocity frozen
    ∙ sym (match_by_rows old (POSITION ∷ VELOCITY ∷ []) (FROZEN ∷ []) e)

-- so the group has the same members, where the packed lists stayed
members_stay : (old now : Held) (list : List Entity) → IsGroupedScene old → IsGroupedScene now → IsLawful old.limit old.world → IsLawful now.limit now.world → now.packed ≡ old.packed
    → HaveMoved old.world now.world list → ((e : Entity) → list_any (is_same e) list ≡ true → is_moving old.world e ≡ true) → packed_members now MOVING ≡ packed_members old MOVING
members_stay old now list was is lawful lawful_now packed moved moves =
    let same : movers now.world ≡ movers old.world = equal_members (movers now.world) (movers old.world)
    (ascending_view now.limit now.world (POSITION ∷ VELOCITY ∷ []) (FROZEN ∷ []) lawful_now)
    (ascending_view old.limit old.world (POSITION ∷ VELOCITY ∷ []) (FROZEN ∷ []) lawful)
    (λ e. any-matches (keys_of now.world) POSITION (VELOCITY ∷ []) (FROZEN ∷ []) e ∙ moving_still old.world now.world list moved moves e ∙ sym (any-matches (keys_of old.world) POSITION (VELOCITY ∷ []) (FROZEN ∷ []) e)) in
    members_are now is
    ∙ ap₂ (λ (moving : List Entity) (lists : List (List Entity)). take (length moving) (packed_at lists POSITION)) same packed
    ∙ sym (members_are old was)

-- ---- a walk over them

-- the first items, and one more
take_one : (list : List Entity) (place : ℕ) (x : Entity) → slice_get list place ≡ Some x → take (place + 1) list ≡ take place list ++ x ∷ []
take_one [] place x is = absurd (none-some x is)
take_one (y ∷ ys) zero x is = ap (λ (e : Entity). e ∷ []) (same_Some y x is)
take_one (y ∷ ys) (suc place) x is = let one : suc place + 1 ≡ suc (place + 1) = omega arith in ap (λ n. take n (y ∷ ys)) one ∙ ap (λ (l : List Entity). y ∷ l) (take_one ys place x is)

-- the member at a place of a list that was lent again
pub member_there : (list counted lent : List Entity) (place : ℕ) → counted ≡ list → lent ≡ list → place < length counted → slice_get list place ≡ Some (get_or lent place (record { index = 0; version = 0 }))
member_there list counted lent place is again low =
    let within : place < length list = (let long = ap length is in omega (arith, long, low)) in
    slice_get-get_or list place (record { index = 0; version = 0 }) within ∙ ap (λ l. Some (get_or l place (record { index = 0; version = 0 }))) (sym again)

-- and the row at its place
pub row_there : (w : World) (pool : ℕ) (list : List Entity) (lent : List Row) (place : ℕ) (x : Entity) (none : Row) → lent ≡ map (λ (e : Entity). row_at w pool e) list → slice_get list place ≡ Some x → get_or lent place none ≡ row_at w pool x
row_there w pool list lent place x none is there = ap (λ (l : List Row). get_or l place none) is ∙ at_place list place there
  where
    at_place : (list : List Entity) (place : ℕ) → slice_get list place ≡ Some x → get_or (map (λ (e : Entity). row_at w pool e) list) place none ≡ row_at w pool x
    at_place [] place is = absurd (none-some x is)
    at_place (y ∷ ys) zero is = ap (row_at w pool) (same_Some y x is)
    at_place (y ∷ ys) (suc place) is = at_place ys place is

-- those of a list have moved, and the group has the members of before
pub record AreWalked (old now : Held) (list : List Entity) : Type 0 where
  pub scene : IsGroupedScene now
  pub lawful : IsLawful now.limit now.world
  pub packed : now.packed ≡ old.packed
  pub members : packed_members now MOVING ≡ packed_members old MOVING
  pub moved : HaveMoved old.world now.world list
  pub partly : IsPartlyMoved old.world now.world

pub none_walked : (old : Held) → IsLawfulRegistry old → IsGroupedScene old → AreWalked old old []
none_walked old law h = record { scene = h; lawful = law.world; packed = refl; members = refl; moved = none_moved old.world; partly = unmoved old.world }

-- the next of them isn't refused its place
pub may_replace : (old now : Held) (place : ℕ) (x : Entity) (row : Row) → IsLawfulRegistry old → IsGroupedScene old → AreWalked old now (take place (packed_members old MOVING)) → slice_get (packed_members old MOVING) place ≡ Some x
    → refusal_to now (Replace x POSITION row) ≡ None
may_replace old now place x row law h walked there =
    let list : List Entity = packed_members old MOVING in
    let moves : is_moving old.world x ≡ true = sym (among_members old law h x) ∙ among list place x there in
    may_move old.limit old.world now.world (take place list) x POSITION law.world walked.moved (fresh_member old law h place x there) moves (ap (λ (decls : List Decl). are_declared (length decls) (POSITION ∷ [])) walked.scene.decls) (inl refl)

-- one more of them
pub walked_more : (old now new : Held) (place : ℕ) (x : Entity) (row : Row) → IsLawfulRegistry old → IsGroupedScene old → AreWalked old now (take place (packed_members old MOVING))
    → slice_get (packed_members old MOVING) place ≡ Some x → row ≡ next_place now.world x → IsRow row → Does now new (Replace x POSITION row) → new.packed ≡ now.packed → AreWalked old new (take (place + 1) (packed_members old MOVING))
walked_more old now new place x row law h walked there next wide does packed =
    let list : List Entity = packed_members old MOVING in
    let passes = may_replace old now place x row law h walked there in
    let after : new.world ≡ (outcome_of now.limit now.world (Replace x POSITION row)).world = does.world ∙ ap (λ (o : Outcome). o.world) (accepted now.limit now.world (Replace x POSITION row) passes) in
    let put : Row → World = λ r. with_pool now.world POSITION (rows.put (pool_at now.world POSITION) x r) in
    let more = moved_more now.limit old.world now.world (take place list) x walked.lawful walked.moved (fresh_member old law h place x there) passes in
    let all : HaveMoved old.world (put (next_place now.world x)) (take (place + 1) list) = subst (HaveMoved old.world (put (next_place now.world x))) (sym (take_one list place x there)) more in
    let moved : HaveMoved old.world new.world (take (place + 1) list) = subst (λ (w : World). HaveMoved old.world w (take (place + 1) list)) (sym (after ∙ ap put next)) all in
    let moves : (e : Entity) → list_any (is_same e) (take (place + 1) list) ≡ true → is_moving old.world e ≡ true = λ e among. sym (among_members old law h e) ∙ among_first list (place + 1) e among in
    let fit = subst (λ (decls : List Decl). IsTrue (fits_pool now.world.profile decls POSITION row)) (sym walked.scene.decls) (subst (λ (r : Row). IsTrue (fits_pool now.world.profile scene_components POSITION r)) (sym next) (place_fits now.world.profile (row_at now.world POSITION x) (row_at now.world VELOCITY x))) in
    let scene = stays_grouped now new (Replace x POSITION row) walked.scene refl does in
    let lawful = lawful_after now new (Replace x POSITION row) walked.lawful (record { wide = wide; fit = fit }) does in
    let lists = packed ∙ walked.packed in
    record {
      scene = scene;
      lawful = lawful;
      packed = lists;
      members = members_stay old new (take (place + 1) list) h scene law.world lawful lists moved moves;
      moved = moved;
      partly = some_moved old.world new.world (take (place + 1) list) moved moves;
    }
