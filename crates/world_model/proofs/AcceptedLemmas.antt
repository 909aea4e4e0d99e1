-- What a command that is not refused has passed.
use Rattle.std.proofs.Common.{◌≡◌, ℕ, ◌<◌, true, false, cond, not, ◌||◌, ltb, List, [], ◌∷◌, length, Option, None, sym, ap, ◌∙◌, arith}
use Rattle.std.proofs.lemmas.Bool.Decides.{nat_tests}
use Rattle.std.proofs.lemmas.Bool.{or_parts, cond_both, not-false, ltb-true}
use Rattle.entity_id.specs.declared.entity.Entity.{Entity}
use Rattle.entity_id.specs.declared.entity.Profile.{Profile}
use Rattle.entity_id.specs.Identifiers.{is_profile}
use Rattle.world_model.specs.declared.command.Command.TheVariants.{Hint}
use Rattle.world_model.specs.declared.group.GroupDecl.{GroupDecl}
use Rattle.world_model.specs.declared.refusal.Refusal.{Refusal}
use Rattle.world_model.specs.declared.world.World.{World}
use Rattle.world_model.specs.Contents.{has_row}
use Rattle.world_model.specs.Groups.{are_declared, group_pools, is_well_formed}
use Rattle.world_model.specs.Refusing.{refusal_of, first_refusal, when_full, when_no_pool, when_bad_decl, when_not_addable, when_dead, when_absent, when_no_entry}
use Rattle.world_model.specs.Slots.{AreLawfulSlots, Creation, is_live, is_live_at, is_plain_hint, plain_creation, creation_as_hinted, creation_by_hint}
use Rattle.world_model.specs.Worlds.{IsLawful}
use Rattle.world_model.proofs.SlotLemmas.{created_slots, created_live, created_is_live}
use Rattle.world_model.proofs.HintLemmas.{taken_slots, taken_live, taken_entity, taken_is_live}

-- ---- causes that do not hold

pub declared : (w : World) (pools : List ℕ) → when_no_pool w pools ≡ None → are_declared (length w.decls) pools ≡ true
declared w pools h = grind arith

pub alive : (w : World) (e : Entity) → when_dead w e ≡ None → is_live w.slots e ≡ true
alive w e h = grind arith

pub present : (w : World) (pool : ℕ) (e : Entity) → when_absent w pool e ≡ None → has_row w pool e ≡ true
present w pool e h = grind arith

-- the component of a command on one row is declared
pub entry_declared : (w : World) (pool : ℕ) (e : Entity) (further : Option Refusal) → when_no_entry w pool e further ≡ None → pool < length w.decls
entry_declared w pool e further h = grind (arith, nat_tests)

-- its identifier is live
pub entry_live : (w : World) (pool : ℕ) (e : Entity) (further : Option Refusal) → when_no_entry w pool e further ≡ None → is_live w.slots e ≡ true
entry_live w pool e further h = grind arith

-- and the further cause does not hold
pub entry_further : (w : World) (pool : ℕ) (e : Entity) (further : Option Refusal) → when_no_entry w pool e further ≡ None → further ≡ None
entry_further w pool e further h = grind arith

-- a group that is not refused names declared components, is well-formed and may be added
pub group_passes : (w : World) (decl : GroupDecl) → first_refusal (when_no_pool w (group_pools decl) ∷ when_bad_decl decl ∷ when_not_addable w decl ∷ []) ≡ None
    → (are_declared (length w.decls) (group_pools decl) ≡ true) × (is_well_formed decl ≡ true) × (when_not_addable w decl ≡ None)
group_passes w decl h = (grind arith, grind arith, grind arith)

-- ---- what a creation leaves

-- the slots are lawful, what was live is live, and so is what was made
pub record IsLawfulCreation (limit : ℕ) (w : World) (made : Creation) : Type 0 where
  pub lawful : AreLawfulSlots w.profile limit made.slots made.free
  pub keeps : (e : Entity) → is_live w.slots e ≡ true → is_live made.slots e ≡ true
  pub is_live : is_live made.slots made.entity ≡ true

some_versions : (profile : Profile) → is_profile profile ≡ true → 0 < profile.version_limit
some_versions profile h = grind (arith, nat_tests)

-- with no free slot there is room for one more
room_left : (limit : ℕ) (w : World) → when_full limit w ≡ None → w.free ≡ [] → length w.slots < limit
room_left limit w h none = grind (arith, nat_tests)

pub plainly_created : (limit : ℕ) (w : World) → IsLawful limit w → when_full limit w ≡ None → IsLawfulCreation limit w (plain_creation w.slots w.free)
plainly_created limit w h accepted = record {
  lawful = created_slots w.profile limit w.slots w.free (some_versions w.profile h.profile) (room_left limit w accepted) h.slots;
  keeps = λ e live. created_live w.profile limit w.slots w.free e h.slots live;
  is_live = created_is_live w.profile limit w.slots w.free h.slots;
}

-- a hint that makes no plain creation is taken
taken : (limit : ℕ) (w : World) (hint : Entity) → IsLawful limit w → is_plain_hint w.profile limit w.slots hint ≡ false → IsLawfulCreation limit w (creation_as_hinted w.slots w.free hint)
taken limit w hint h fresh =
    let parts = or_parts (not (ltb hint.index limit) || not (ltb hint.version w.profile.version_limit)) (is_live_at w.slots hint.index) fresh in
    let bounds = or_parts (not (ltb hint.index limit)) (not (ltb hint.version w.profile.version_limit)) parts.0 in
    record {
      lawful = taken_slots w.profile limit w.slots w.free hint (some_versions w.profile h.profile) (ltb-true _ _ (not-false _ bounds.0)) (ltb-true _ _ (not-false _ bounds.1)) h.slots;
      keeps = λ e live. taken_live w.slots w.free hint e parts.1 live;
      is_live = ap (is_live (creation_as_hinted w.slots w.free hint).slots) (taken_entity w.slots w.free hint) ∙ taken_is_live w.slots w.free hint;
    }

pub created_by_hint : (limit : ℕ) (w : World) (hint : Entity) → IsLawful limit w → refusal_of limit w (Hint hint) ≡ None → IsLawfulCreation limit w (creation_by_hint w.profile limit w.slots w.free hint)
created_by_hint limit w hint h accepted =
    cond_both (is_plain_hint w.profile limit w.slots hint) (plain_creation w.slots w.free) (creation_as_hinted w.slots w.free hint) (IsLawfulCreation limit w)
    (λ plain. plainly_created limit w h (sym (ap (λ b. cond b (when_full limit w) None) plain) ∙ accepted))
    (λ fresh. taken limit w hint h fresh)
