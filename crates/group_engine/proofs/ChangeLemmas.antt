-- Groups where one pool's identifiers stay in their places, where a pool that no group owns is put in another order, and where one
-- that no group names changes.
use Rattle.std.proofs.Common.{◌≡◌, ◌≢◌, ℕ, ◌<◌, ◌≤◌, Bool, true, false, List, [], length, set, Option, None, Some, IfSome, slice_get, sym, ap, subst, ◌∙◌, inl, inr}
use Rattle.std.specs.List.{list_any}
use Rattle.std.specs.List.Sorted.{IsPermutation}
use Rattle.std.proofs.lemmas.Bool.{cases_Bool, cases_eq, eq-eqb, false≢true}
use Rattle.std.proofs.lemmas.List.{map-set, set-set, set-get_or, get_or-set_same, get_or-set_other}
use Rattle.std.proofs.lemmas.List.Sorted.{list_any-IsPermutation}
use Rattle.entity_id.specs.declared.entity.Entity.{Entity}
use Rattle.entity_id.specs.FiniteMap as entries
use Rattle.entity_id.specs.Identifiers.{is_same}
use Rattle.entity_id.specs.Matching.{is_in}
use Rattle.entity_id.specs.PackedLists.{place_of, swap_popped}
use Rattle.entity_id.proofs.PackedListLemmas.{any_none, position_gone}
use Rattle.storage.specs.Stored.{Stored}
use Rattle.world_model.specs.declared.group.GroupDecl.{GroupDecl}
use Rattle.world_model.specs.Groups.{has_pool, group_pools, packed_at}
use Rattle.group_engine.specs.Grouped.{packed_of, matches, is_named, IsPartitioned, AreGrouped, WereGrouped, AreGroupedWithout}
use Rattle.group_engine.specs.Engine.{owner_of}
use Rattle.group_engine.proofs.EndLemmas.{partition_alike, passes_alike}
use Rattle.group_engine.proofs.MaskLemmas.{own_named}
use Rattle.group_engine.proofs.StepLemmas.{unnamed_passes}
use Rattle.group_engine.proofs.UseLemmas.{keys_set_back}

-- values alone change
pub values_changed : {T : Type 0} (decls : List GroupDecl) (lens : List ℕ) (pools : List (Stored T)) (p : ℕ) (old new : Stored T) → slice_get pools p ≡ Some old → AreGrouped decls lens (packed_of pools) → entries.keys new.pairs ≡ entries.keys old.pairs → AreGrouped decls lens (packed_of (set pools p new))
values_changed {T = T} decls lens pools p old new here grouped keys =
    subst (AreGrouped decls lens) (sym (map-set (λ (stored : Stored T). entries.keys stored.pairs) pools p new ∙ ap (set (packed_of pools) p) keys ∙ keys_set_back pools p old here)) grouped

-- ---- one pool with another list

module _ (packed : List (List Entity)) (p : ℕ) (list : List Entity) where
  other_pool : (q : ℕ) → q ≢ p → packed_at (set packed p list) q ≡ packed_at packed q
  other_pool q apart = get_or-set_other packed p q list [] apart

  unowned_partition : (own : List ℕ) (count : ℕ) (inside : Entity → Bool) → has_pool own p ≡ false → IsPartitioned packed own count inside → IsPartitioned (set packed p list) own count inside
  unowned_partition own count inside none h =
      let apart : (q : ℕ) → has_pool own q ≡ true → q ≢ p = (λ q has same. false≢true (sym none ∙ ap (has_pool own) (sym same) ∙ has)) in
      record {
        within = λ q has. subst (λ l. count ≤ length l) (sym (other_pool q (apart q has))) (h.within q has);
        common = λ q r k has has' less. ap (λ l. slice_get l k) (other_pool q (apart q has)) ∙ h.common q r k has has' less ∙ sym (ap (λ l. slice_get l k) (other_pool r (apart r has')));
        split = λ q k x has at. h.split q k x has (sym (ap (λ l. slice_get l k) (other_pool q (apart q has))) ∙ at);
      }

  -- where no group names it, it may be any
  pub unnamed_changed : (decls : List GroupDecl) (lens : List ℕ) → is_named decls p ≡ false → AreGrouped decls lens packed → AreGrouped decls lens (set packed p list)
  unnamed_changed decls lens free grouped = record {
    each = λ group decl count here long.
        (let none : has_pool (group_pools decl) p ≡ false = any_none (λ (d : GroupDecl). has_pool (group_pools d) p) decls free group decl here in
        partition_alike (set packed p list) decl.own count (matches packed decl) (matches (set packed p list) decl) (unowned_partition decl.own count (matches packed decl) (unowned decl none) (grouped.each group decl count here long))
        (λ x. unnamed_passes (is_in (set packed p list) x) (is_in packed x) p (λ q differs. ap (list_any (is_same x)) (other_pool q (λ same. false≢true (sym differs ∙ eq-eqb q p same)))) decl none));
  }
    where
      unowned : (d : GroupDecl) → has_pool (group_pools d) p ≡ false → has_pool d.own p ≡ false
      unowned d none = elim (cases_Bool (has_pool d.own p)) [
        | inl has ↦ absurd (false≢true (sym none ∙ own_named d p has))
        | inr out ↦ out
      ]

-- where no group names a pool, what comes into it or goes changes no group
pub unnamed_added : (decls : List GroupDecl) (lens : List ℕ) (packed : List (List Entity)) (e : Entity) (p : ℕ) → is_named decls p ≡ false → WereGrouped decls lens packed e p → AreGrouped decls lens packed
unnamed_added decls lens packed e p free h =
    let back : set (set packed p h.before) p (packed_at packed p) ≡ packed = set-set packed p h.before (packed_at packed p) ∙ set-get_or packed p [] in
    subst (AreGrouped decls lens) back (unnamed_changed (set packed p h.before) p (packed_at packed p) decls lens free h.grouped)

pub unnamed_removed : (decls : List GroupDecl) (lens : List ℕ) (packed : List (List Entity)) (e : Entity) (p : ℕ) → is_named decls p ≡ false → is_in packed e p ≡ true → AreGrouped decls lens packed → AreGroupedWithout decls lens packed e p
unnamed_removed decls lens packed e p free here grouped = record { here = here; gone = by_place (place_of (packed_at packed p) e) }
  where
    by_place : (o : Option ℕ) → IfSome o (λ place. AreGrouped decls lens (set packed p (swap_popped (packed_at packed p) place)))
    by_place None = tt
    by_place (Some k) = unnamed_changed packed p (swap_popped (packed_at packed p) k) decls lens free grouped

-- a pool that no group owns is put in another order
module _ (packed : List (List Entity)) (p : ℕ) (list : List Entity) (low : p < length packed) (permuted : IsPermutation (packed_at packed p) list) where
  abbrev now : List (List Entity)
  now = set packed p list

  same_in_each : (x : Entity) (q : ℕ) → is_in now x q ≡ is_in packed x q
  same_in_each x q = elim (cases_eq q p) [
    | inl is ↦ ap (is_in now x) is ∙ ap (list_any (is_same x)) (get_or-set_same packed p list [] low) ∙ sym (list_any-IsPermutation (is_same x) (packed_at packed p) list permuted) ∙ sym (ap (is_in packed x) is)
    | inr apart ↦ ap (list_any (is_same x)) (other_pool packed p list q apart)
  ]

  reordered : (decls : List GroupDecl) (lens : List ℕ) → AreGrouped decls lens packed → owner_of decls p ≡ None → AreGrouped decls lens now
  reordered decls lens grouped free = record {
    each = λ group decl count here long.
        (let none : has_pool decl.own p ≡ false = position_gone (λ (d : GroupDecl). has_pool d.own p) decls 0 free group decl here in
        partition_alike now decl.own count (matches packed decl) (matches now decl) (unowned_partition packed p list decl.own count (matches packed decl) none (grouped.each group decl count here long))
        (λ x. passes_alike decl (is_in now x) (is_in packed x) (same_in_each x)));
  }

pub order_changed : (decls : List GroupDecl) (lens : List ℕ) (packed : List (List Entity)) (p : ℕ) (list : List Entity) → AreGrouped decls lens packed → owner_of decls p ≡ None → p < length packed → IsPermutation (packed_at packed p) list → AreGrouped decls lens (set packed p list)
order_changed decls lens packed p list grouped free low permuted = reordered packed p list low permuted decls lens grouped free
