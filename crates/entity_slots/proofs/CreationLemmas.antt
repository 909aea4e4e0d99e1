-- What a creation makes of the slots and the free list.
use Rattle.std.proofs.Common.{◌≡◌, ℕ, ◌<◌, Bool, true, false, not, eqb, List, [], ◌∷◌, set, length, refl, ap, sym, subst, ◌∙◌, inl, inr, arith}
use Rattle.std.specs.Prelude.{count_by}
use Rattle.std.proofs.lemmas.Bool.{and_parts, or_cases, eq-eqb, eqb-true, lt-ltb}
use Rattle.entity_id.specs.declared.entity.Entity.{Entity}
use Rattle.entity_id.specs.declared.entity.Profile.{Profile}
use Rattle.entity_id.specs.Identifiers.{is_profile, is_same_profile, p20_12, p32_32}
use Rattle.world_model.specs.declared.slot.Slot.{Slot}
use Rattle.world_model.specs.Slots.{AreLawfulSlots, Creation, is_free_at, is_full, live_slot, plain_creation, version_at}
use Rattle.world_model.proofs.SlotLemmas.{bit, count_cons, created_slots}

-- a profile has a version below its limit
pub some_version : (profile : Profile) → is_profile profile ≡ true → 0 < profile.version_limit
some_version profile known = elim (or_cases (is_same_profile profile p20_12) (is_same_profile profile p32_32) known) [
  | inl small ↦
      let limit : profile.version_limit ≡ 4095 = eqb-true _ _ (and_parts (eqb profile.index_limit 1048575) (eqb profile.version_limit 4095) small).1 in
      omega arith
  | inr large ↦
      let limit : profile.version_limit ≡ 4294967295 = eqb-true _ _ (and_parts (eqb profile.index_limit 4294967295) (eqb profile.version_limit 4294967295) large).1 in
      omega arith
]

-- where there is room for a slot, a creation is not refused
pub not_full : (limit : ℕ) (slots : List Slot) → length slots < limit → is_full limit slots [] ≡ false
not_full limit slots room = ap not (lt-ltb (length slots) limit room)

-- a creation gives the top of the free list again, with the version that its slot keeps
pub reuse_is : (slots : List Slot) (free rest : List ℕ) (entity : Entity) → free ≡ entity.index ∷ rest → entity.version ≡ version_at slots entity.index
    → plain_creation slots free ≡ record { entity = entity; slots = set slots entity.index (live_slot entity.version); free = rest }
reuse_is slots free rest entity parts version =
    ap (plain_creation slots) parts
    ∙ ap (λ v. let made : Creation = record { entity = record { index = entity.index; version = v }; slots = set slots entity.index (live_slot v); free = rest } in made) (sym version)

-- and keeps the slots lawful
pub reused_lawful : (profile : Profile) (limit : ℕ) (slots : List Slot) (free rest : List ℕ) (entity : Entity) → is_profile profile ≡ true → AreLawfulSlots profile limit slots free
    → free ≡ entity.index ∷ rest → entity.version ≡ version_at slots entity.index → AreLawfulSlots profile limit (set slots entity.index (live_slot entity.version)) rest
reused_lawful profile limit slots free rest entity known lawful parts version =
    subst (λ (made : Creation). AreLawfulSlots profile limit made.slots made.free) (reuse_is slots free rest entity parts version)
    (created_slots profile limit slots free (some_version profile known) (λ none. let long = ap length (sym none ∙ parts) in absurd (omega arith)) lawful)

-- the top of the free list is free
pub top_is_free : (profile : Profile) (limit : ℕ) (slots : List Slot) (free rest : List ℕ) (index : ℕ) → AreLawfulSlots profile limit slots free → free ≡ index ∷ rest → is_free_at slots index ≡ true
top_is_free profile limit slots free rest index lawful parts =
    let some : 0 < count_by (λ k. eqb k index) (index ∷ rest) = let here : bit (eqb index index) ≡ 1 = ap bit (eq-eqb index index refl) in omega (arith, count_cons index index rest) in
    let counted : count_by (λ k. eqb k index) (index ∷ rest) ≡ bit (is_free_at slots index) = ap (λ xs. count_by (λ k. eqb k index) xs) (sym parts) ∙ lawful.listed index in
    set_bit (is_free_at slots index) (omega arith)
  where
    set_bit : (b : Bool) → 0 < bit b → b ≡ true
    set_bit true some = refl
    set_bit false some = absurd (omega arith)
