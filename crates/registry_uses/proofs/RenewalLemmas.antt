-- Identifiers made, destroyed, and made anew.
use Rattle.std.proofs.Common.{◌≡◌, ◌≢◌, ℕ, ◌+◌, ◌<◌, true, false, ◌&&◌, not, cond, List, [], ◌∷◌, ◌++◌, length, map, count_by, eqb, Option, Some, None, zero, suc, refl, sym, ap, ap₂, ◌∙◌, arith, set, slice_get, is_some, inl, inr, Result, OnErr}
use Rattle.std.proofs.lemmas.Bool.{cases_Bool, cases_eq, both_ways, eq-eqb, ne_eqb}
use Rattle.std.proofs.lemmas.Bool.Decides.{nat_tests}
use Rattle.std.proofs.lemmas.Option.{slice_get_past}
use Rattle.std.proofs.Math.ListN.{length-set}
use Rattle.std.specs.List.{AllByRecursion, AllZip}
use Rattle.std.specs.Option.{option_map_or}
use Rattle.std.specs.Prelude.{IsTrue}
use Rattle.entity_id.specs.declared.entity.Entity.{Entity}
use Rattle.entity_id.specs.declared.entity.Profile.{Profile}
use Rattle.entity_id.specs.FiniteMap as rows
use Rattle.entity_id.specs.Identifiers.{is_same, next_version, is_profile}
use Rattle.entity_id.proofs.MapLemmas.{same_true}
use Rattle.entity_id.proofs.ListLemmas.{slice_get-set_same, slice_get-set_other}
use Rattle.world_model.specs.declared.command.Command.TheVariants.{Create, Destroy}
use Rattle.world_model.specs.declared.command.Reply.{Reply}
use Rattle.world_model.specs.declared.command.Reply.TheVariants.{Made}
use Rattle.world_model.specs.declared.component.Decl.{Decl}
use Rattle.world_model.specs.declared.component.Row.{Row}
use Rattle.world_model.specs.declared.slot.Slot.{Slot}
use Rattle.world_model.specs.declared.world.World.{World}
use Rattle.world_model.specs.Contents.{pool_at, has_row}
use Rattle.world_model.specs.Orders.{is_refused}
use Rattle.world_model.specs.Outcomes.{Outcome, destroys, makes}
use Rattle.world_model.specs.Groups.{are_declared}
use Rattle.world_model.specs.Refusing.{refusal_of, refuse, when_no_entry, when_present}
use Rattle.world_model.specs.declared.refusal.Refusal.TheVariants.{Dead, Present}
use Rattle.world_model.specs.Slots.{is_live, is_live_at, is_free_at, live_slot, free_slot, version_at, plain_creation, slots_after_destroy, AreLawfulSlots}
use Rattle.world_model.specs.Steps.{step}
use Rattle.world_model.specs.Worlds.{AreLawfulRows, IsLawful}
use Rattle.world_model.proofs.ReplyLemmas.{live_rows, made_is_known}
use Rattle.world_model.proofs.SlotLemmas.{bit, count_cons, not_both, live_within, slot_of_live}
use Rattle.world_model.proofs.StepLemmas.{step_cases}
use Rattle.registry.specs.Held.{Held}
use Rattle.registry.proofs.DoneLemmas.{accepted}
use Rattle.registry.proofs.ResultLemmas.{then_err}
use Rattle.registry_uses.proofs.SceneLemmas.{entry_passes, WasDone}
use Rattle.registry_uses.proofs.MovingLemmas.{known_key}

-- ---- made

-- an identifier is dead where no entity has its index
pub dead_at : (slots : List Slot) (e : Entity) → is_live_at slots e.index ≡ false → is_live slots e ≡ false
dead_at slots e h =
    elim (slice_get slots e.index) as (λ o. option_map_or (λ slot. slot.live) o false ≡ false → option_map_or (λ slot. slot.live && eqb slot.version e.version) o false ≡ false) [
      | None ↦ λ _. refl
      | Some slot ↦ λ dead. ap (λ b. b && eqb slot.version e.version) dead
    ] h

-- the index that is made anew had no entity
pub new_index : (limit : ℕ) (profile : Profile) (slots : List Slot) (free : List ℕ) → AreLawfulSlots profile limit slots free → is_live_at slots (plain_creation slots free).entity.index ≡ false
new_index limit profile slots [] lawful = ap (λ o. option_map_or (λ slot. slot.live) o false) (slice_get_past slots (length slots) (omega arith))
new_index limit profile slots (index ∷ free) lawful =
    elim (cases_Bool (is_live_at slots index)) [
      | inl live ↦
          let none : is_free_at slots index ≡ false = not_both slots index live in
          let count : bit (eqb index index) + count_by (λ other. eqb other index) free ≡ 0 = sym (count_cons index index free) ∙ lawful.listed index ∙ ap (λ b. cond b 1 0) none in
          let one : bit (eqb index index) ≡ 1 = ap bit (eq-eqb index index refl) in
          absurd (omega (arith, count, one))
      | inr dead ↦ dead
    ]

-- a free slot has no entity
set_free : (slots : List Slot) (i version : ℕ) → is_live_at (set slots i (free_slot version)) i ≡ false
set_free [] i version = refl
set_free (slot ∷ slots) zero version = refl
set_free (slot ∷ slots) (suc i) version = set_free slots i version

pushed : (slots : List Slot) (s : Slot) (k : ℕ) → k ≢ length slots → slice_get (slots ++ s ∷ []) k ≡ slice_get slots k
pushed [] s zero apart = absurd (apart refl)
pushed [] s (suc k) apart = refl
pushed (slot ∷ slots) s zero apart = refl
pushed (slot ∷ slots) s (suc k) apart = pushed slots s k (λ same. apart (omega (arith, same)))

-- the slots that have an entity, once an identifier was made and destroyed, are those of before
pub made_and_gone : (limit : ℕ) (profile : Profile) (slots : List Slot) (free : List ℕ) (q : Entity) → AreLawfulSlots profile limit slots free
    → is_live (slots_after_destroy profile (plain_creation slots free).slots (plain_creation slots free).entity) q ≡ is_live slots q
made_and_gone limit profile slots free q lawful =
    let made = plain_creation slots free in
    let after : List Slot = slots_after_destroy profile made.slots made.entity in
    elim (cases_eq q.index made.entity.index) [
      | inl same ↦ dead_at after q (ap (λ i. is_live_at after i) same ∙ free_now slots free profile) ∙ sym (dead_at slots q (ap (λ i. is_live_at slots i) same ∙ new_index limit profile slots free lawful))
      | inr apart ↦ ap (λ (o : Option Slot). option_map_or (λ slot. slot.live && eqb slot.version q.version) o false) (slice_get-set_other made.slots made.entity.index q.index _ apart ∙ others slots free apart)
    ]
  where
    free_now : (slots : List Slot) (free : List ℕ) (profile : Profile) → is_live_at (slots_after_destroy profile (plain_creation slots free).slots (plain_creation slots free).entity) (plain_creation slots free).entity.index ≡ false
    free_now slots free profile = set_free (plain_creation slots free).slots (plain_creation slots free).entity.index _

    others : (slots : List Slot) (free : List ℕ) → q.index ≢ (plain_creation slots free).entity.index → slice_get (plain_creation slots free).slots q.index ≡ slice_get slots q.index
    others slots [] apart = pushed slots (live_slot 0) q.index apart
    others slots (index ∷ free) apart = slice_get-set_other slots index q.index _ apart

-- an identifier that is made had no row
pub new_has_no_row : (limit : ℕ) (w : World) (pool : ℕ) → IsLawful limit w → has_row w pool (plain_creation w.slots w.free).entity ≡ false
new_has_no_row limit w pool lawful =
    let made = (plain_creation w.slots w.free).entity in
    elim (rows.get (pool_at w pool) made) as (λ o. rows.get (pool_at w pool) made ≡ o → is_some o ≡ false) [
      | None ↦ λ _. refl
      | Some row ↦ λ there. absurd (both_ways _ (dead_at w.slots made (new_index limit w.profile w.slots w.free lawful.slots)) (known_key (λ q. is_live w.slots q ≡ true) (pool_at w pool) made row (live_rows limit w lawful pool) there))
    ] refl

-- ---- made anew

-- the version after one is another
pub other_version : (profile : Profile) (version : ℕ) → is_profile profile ≡ true → next_version profile version ≢ version
other_version profile version h same = grind (arith, nat_tests)

reply_entity : Entity → Reply → Entity
reply_entity other (Made e) = e
reply_entity other _ = other

-- what is made is one identifier
pub same_made : (a b : Entity) → Made a ≡ Made b → a ≡ b
unfolding reply_entity
same_made a b same = ap (reply_entity a) same

-- a creation that was answered made the plain one
pub made_is : (limit : ℕ) (w : World) (e : Entity) → (step limit w Create).reply ≡ Made e → (e ≡ (plain_creation w.slots w.free).entity) × (refusal_of limit w Create ≡ None)
made_is limit w e =
    step_cases (λ o. o.reply ≡ Made e → (e ≡ (plain_creation w.slots w.free).entity) × (refusal_of limit w Create ≡ None)) limit w Create
    (λ cause _ same. absurd (both_ways _ refl (ap is_refused (sym same))))
    (λ k same. (sym (same_made _ e same), k))

-- a world after a creation
pub made_world : (limit : ℕ) (w : World) (e : Entity) → (step limit w Create).reply ≡ Made e → (step limit w Create).world ≡ (makes w (plain_creation w.slots w.free)).world
made_world limit w e same = ap (λ (o : Outcome). o.world) (accepted limit w Create (made_is limit w e same).1)

-- the version that the slot keeps
version_of_renewed : (w : World) (e : Entity) → is_live w.slots e ≡ true → version_at (slots_after_destroy w.profile w.slots e) e.index ≡ next_version w.profile e.version
version_of_renewed w e live = ap (λ o. option_map_or (λ slot. slot.version) o 0) (slice_get-set_same w.slots e.index _ (live_within w.slots e.index (slot_of_live w.slots e live).0))

-- after a destruction the same index is made anew, with the next version
pub renewed : (limit : ℕ) (w : World) (e made : Entity) → is_live w.slots e ≡ true → (step limit (destroys w e).world Create).reply ≡ Made made → made ≡ record { index = e.index; version = next_version w.profile e.version }
renewed limit w e made live same =
    sym (same_made _ made same) ∙ ap (λ (version : ℕ). record { index = e.index; version = version }) (version_of_renewed w e live)

-- and the old identifier stays dead
pub still_dead : (w : World) (e : Entity) → is_profile w.profile ≡ true → is_live w.slots e ≡ true → is_live (plain_creation (slots_after_destroy w.profile w.slots e) (e.index ∷ w.free)).slots e ≡ false
still_dead w e profile live =
    let slots : List Slot = slots_after_destroy w.profile w.slots e in
    let within : e.index < length w.slots = live_within w.slots e.index (slot_of_live w.slots e live).0 in
    let now : e.index < length slots = (let same = length-set w.slots e.index (free_slot (next_version w.profile e.version)) in omega (arith, same, within)) in
    ap (λ (o : Option Slot). option_map_or (λ slot. slot.live && eqb slot.version e.version) o false) (slice_get-set_same slots e.index _ now)
    ∙ ap (λ (version : ℕ). eqb version e.version) (version_of_renewed w e live)
    ∙ ne_eqb (next_version w.profile e.version) e.version (other_version w.profile e.version profile)

-- once an identifier was destroyed its index is there to be made anew
pub never_refused : {A E : Type 0} (old mid : Held) (e : Entity) (r : Result A E) → WasDone old mid (Destroy e) → OnErr r (mid.world.free ≡ []) → OnErr r ⊥
never_refused old mid e r done none = then_err r none (λ is. not_empty mid.world.free e.index old.world.free (ap (λ (w : World). w.free) done.world) is)
  where
    not_empty : (list : List ℕ) (x : ℕ) (xs : List ℕ) → list ≡ x ∷ xs → list ≡ [] → ⊥
    not_empty list x xs is none = cc

-- ---- an identifier that was made and wasn't used

-- it may enter a component
pub new_may_enter : (limit : ℕ) (w v : World) (pool : ℕ) (e : Entity) → IsLawful limit w → v ≡ (step limit w Create).world → (step limit w Create).reply ≡ Made e
    → are_declared (length v.decls) (pool ∷ []) ≡ true → when_no_entry v pool e (when_present v pool e) ≡ None
new_may_enter limit w v pool e lawful is reply declared =
    let made = made_is limit w e reply in
    let none : has_row v pool e ≡ false = ap (λ (u : World). has_row u pool e) (is ∙ made_world limit w e reply) ∙ ap (has_row w pool) made.0 ∙ new_has_no_row limit w pool lawful in
    entry_passes v pool e (when_present v pool e) declared (ap (λ (u : World). is_live u.slots e) is ∙ (made_is_known limit w Create e lawful reply).live) (ap (λ b. refuse b Present) none)

-- once it is destroyed the same identifiers are live as before it was made
pub same_live : (limit later : ℕ) (w v u : World) (e q : Entity) → IsLawful limit w → v ≡ (step limit w Create).world → (step limit w Create).reply ≡ Made e
    → u ≡ (step later v (Destroy e)).world → is_live u.slots q ≡ is_live w.slots q
same_live limit later w v u e q lawful is reply gone =
    let live : is_live v.slots e ≡ true = ap (λ (u : World). is_live u.slots e) is ∙ (made_is_known limit w Create e lawful reply).live in
    let passes : refusal_of later v (Destroy e) ≡ None = ap (λ b. refuse (not b) Dead) live in
    ap (λ (u : World). is_live u.slots q) gone
    ∙ ap (λ (o : Outcome). is_live o.world.slots q) (accepted later v (Destroy e) passes)
    ∙ ap (λ (v : World). is_live (slots_after_destroy v.profile v.slots e) q) (is ∙ made_world limit w e reply)
    ∙ ap (λ (e : Entity). is_live (slots_after_destroy w.profile (plain_creation w.slots w.free).slots e) q) (made_is limit w e reply).0
    ∙ made_and_gone limit w.profile w.slots w.free q lawful.slots

-- an identifier that is dead has no row to lose
no_row_lost : (slots : List Slot) (entries : List (Entity × Row)) (e : Entity) → AllByRecursion (λ entry. IsTrue (is_live slots entry.0)) entries → is_live slots e ≡ false → rows.remove entries e ≡ entries
no_row_lost slots [] e lives dead = refl
no_row_lost slots (entry ∷ entries) e lives dead =
    elim (cases_Bool (is_same e entry.0)) [
      | inl same ↦ absurd (both_ways _ dead (ap (is_live slots) (same_true e entry.0 same) ∙ lives.0))
      | inr differ ↦ ap (λ b. cond (not b) (entry ∷ rows.remove entries e) (rows.remove entries e)) differ ∙ ap (λ l. entry ∷ l) (no_row_lost slots entries e lives.1 dead)
    ]

no_rows_lost : (profile : Profile) (slots : List Slot) (decls : List Decl) (pools : List (List (Entity × Row))) (e : Entity) → AllZip (AreLawfulRows profile slots) decls pools → is_live slots e ≡ false → map (λ pool. rows.remove pool e) pools ≡ pools
no_rows_lost profile slots [] [] e lawful dead = refl
no_rows_lost profile slots [] (pool ∷ pools) e lawful dead = absurd lawful
no_rows_lost profile slots (decl ∷ decls) [] e lawful dead = absurd lawful
no_rows_lost profile slots (decl ∷ decls) (pool ∷ pools) e lawful dead =
    ap₂ (λ (p : List (Entity × Row)) (l : List (List (Entity × Row))). p ∷ l) (no_row_lost slots pool e lawful.0.live dead) (no_rows_lost profile slots decls pools e lawful.1 dead)

-- once it is destroyed all rows are as before it was made
pub same_rows : (limit later : ℕ) (w v u : World) (e : Entity) → IsLawful limit w → v ≡ (step limit w Create).world → (step limit w Create).reply ≡ Made e
    → u ≡ (step later v (Destroy e)).world → u.pools ≡ w.pools
same_rows limit later w v u e lawful is reply gone =
    let live : is_live v.slots e ≡ true = ap (λ (u : World). is_live u.slots e) is ∙ (made_is_known limit w Create e lawful reply).live in
    let passes : refusal_of later v (Destroy e) ≡ None = ap (λ b. refuse (not b) Dead) live in
    let dead : is_live w.slots e ≡ false = ap (is_live w.slots) (made_is limit w e reply).0 ∙ dead_at w.slots (plain_creation w.slots w.free).entity (new_index limit w.profile w.slots w.free lawful.slots) in
    ap (λ (u : World). u.pools) gone
    ∙ ap (λ (o : Outcome). o.world.pools) (accepted later v (Destroy e) passes)
    ∙ ap (λ (v : World). map (λ pool. rows.remove pool e) v.pools) (is ∙ made_world limit w e reply)
    ∙ no_rows_lost w.profile w.slots w.decls w.pools e lawful.pools dead
