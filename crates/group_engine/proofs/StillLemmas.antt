-- Which pools keep their packed lists where one of them changes.
use Rattle.std.proofs.Common.{◌≡◌, ℕ, Bool, true, false, ◌&&◌, List, Some, slice_get, sym, ap, ◌∙◌, inl, inr}
use Rattle.std.proofs.lemmas.Bool.{cases_Bool, false≢true}
use Rattle.entity_id.specs.declared.entity.Entity.{Entity}
use Rattle.entity_id.proofs.PackedListLemmas.{any_none}
use Rattle.world_model.specs.declared.group.GroupDecl.{GroupDecl}
use Rattle.world_model.specs.Groups.{has_pool, group_pools, packed_at}
use Rattle.group_engine.specs.Grouped.{AreStill, moves}
use Rattle.group_engine.specs.Moving.{comes_in, goes_out, Comes, came, stayed_out, Goes, went, stayed_in}
use Rattle.group_engine.proofs.StepLemmas.{unnamed_comes, unnamed_goes}

-- one change after another
pub still_then : (moved : ℕ → Bool) (old now new : List (List Entity)) → AreStill moved old now → AreStill moved now new → AreStill moved old new
still_then moved old now new first second = record { still = λ pool free. second.still pool free ∙ first.still pool free }

-- no group that names the changed pool owns one that stays
not_owned : (decls : List GroupDecl) (p pool g : ℕ) (a : GroupDecl) → moves decls p pool ≡ false → slice_get decls g ≡ Some a → has_pool (group_pools a) p ≡ true → has_pool a.own pool ≡ false
not_owned decls p pool g a free here named =
    sym (ap (λ b. b && has_pool a.own pool) named) ∙ any_none (λ (d : GroupDecl). has_pool (group_pools d) p && has_pool d.own pool) decls free g a here

module _ (decls : List GroupDecl) (base now new : List (List Entity)) (e : Entity) (p : ℕ) (held : Bool) (g : ℕ) (a : GroupDecl) (n m : ℕ) (here : slice_get decls g ≡ Some a) (h : AreStill (moves decls p) base now) where
  -- a group that is entered names the pool, and so does one that is left
  comes_named : comes_in now e p held a ≡ true → has_pool (group_pools a) p ≡ true
  comes_named is = elim (cases_Bool (has_pool (group_pools a) p)) [
    | inl named ↦ named
    | inr none ↦ absurd (false≢true (sym (unnamed_comes now e p held a none) ∙ is))
  ]

  goes_named : goes_out now e p held a ≡ true → has_pool (group_pools a) p ≡ true
  goes_named is = elim (cases_Bool (has_pool (group_pools a) p)) [
    | inl named ↦ named
    | inr none ↦ absurd (false≢true (sym (unnamed_goes now e p held a none) ∙ is))
  ]

  pub came_still : Comes (comes_in now e p held a) a.own e n m now new → AreStill (moves decls p) base new
  came_still step = elim step [
    | came is move more ↦ record { still = λ pool free. move.others pool (not_owned decls p pool g a free here (comes_named is)) ∙ h.still pool free }
    | stayed_out is same as_long ↦ record { still = λ pool free. ap (λ l. packed_at l pool) same ∙ h.still pool free }
  ]

  pub went_still : Goes (goes_out now e p held a) a.own e n m now new → AreStill (moves decls p) base new
  went_still step = elim step [
    | went is move less ↦ record { still = λ pool free. move.others pool (not_owned decls p pool g a free here (goes_named is)) ∙ h.still pool free }
    | stayed_in is same as_long ↦ record { still = λ pool free. ap (λ l. packed_at l pool) same ∙ h.still pool free }
  ]
