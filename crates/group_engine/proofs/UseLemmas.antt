-- One pool's row added or taken out, in the terms of its storage.
use Rattle.std.proofs.Common.{◌≡◌, ◌≢◌, ℕ, zero, suc, ◌+◌, ◌<◌, ◌≤◌, Bool, true, false, ◌&&◌, eqb, List, [], ◌∷◌, ◌++◌, take, drop, length, get_or, set, Some, None, IfSome, slice_get, sym, refl, ap, subst, ◌∙◌, inl, inr, arith}
use Rattle.std.specs.List.{list_any}
use Rattle.std.proofs.Math.Seq.{take-append_seam}
use Rattle.std.proofs.lemmas.Bool.{cases_Bool, and_parts, cases_eq}
use Rattle.std.proofs.lemmas.List.{map-set, length-map}
use Rattle.std.proofs.lemmas.Option.{slice_get_within}
use Rattle.entity_id.specs.declared.entity.Entity.{Entity}
use Rattle.entity_id.specs.FiniteMap as entries
use Rattle.entity_id.specs.Identifiers.{is_same}
use Rattle.entity_id.specs.PackedLists.{place_of, swap_popped}
use Rattle.storage.specs.Stored.{Stored}
use Rattle.sparse_set.specs.PackedSets.{contains}
use Rattle.world_model.specs.declared.group.GroupDecl.{GroupDecl}
use Rattle.world_model.specs.Groups.{packed_at}
use Rattle.group_engine.specs.Grouped.{packed_of, cores_of, core_of, AreGrouped, WereGrouped, AreGroupedWithout}
use Rattle.group_engine.proofs.OwnLemmas.{packed_here, packed-set_same}

-- a slice lent from a vector, written back
pub written_back : {X : Type 0} (new items : List X) (n : ℕ) → length new ≡ n → take n (new ++ drop (length new) items) ≡ new
written_back new items n long = ap (λ k. take k (new ++ drop (length new) items)) (sym long) ∙ take-append_seam new (drop (length new) items)

-- what leaves the cores leaves the number of pools
pub as_many : {T : Type 0} (old new : List (Stored T)) → cores_of new ≡ cores_of old → length new ≡ length old
as_many old new same = sym (length-map new core_of) ∙ ap length same ∙ length-map old core_of

set_back : {X : Type 0} (xs : List X) (i : ℕ) (x y : X) → slice_get xs i ≡ Some y → set (set xs i x) i y ≡ xs
set_back [] i x y h = refl
set_back (z ∷ xs) zero x y h = ap (λ v. v ∷ xs) (sym (Rattle.std.proofs.lemmas.Option.same_Some z y h))
set_back (z ∷ xs) (suc i) x y h = ap (λ l. z ∷ l) (set_back xs i x y h)

-- a pool's identifiers put where they were
pub keys_set_back : {T : Type 0} (pools : List (Stored T)) (p : ℕ) (old : Stored T) → slice_get pools p ≡ Some old → set (packed_of pools) p (entries.keys old.pairs) ≡ packed_of pools
keys_set_back {T = T} pools p old here = sym (map-set (λ (stored : Stored T). entries.keys stored.pairs) pools p old) ∙ ap packed_of (put_back pools p old here)
  where
    put_back : {X : Type 0} (xs : List X) (i : ℕ) (x : X) → slice_get xs i ≡ Some x → set xs i x ≡ xs
    put_back [] i x h = refl
    put_back (z ∷ xs) zero x h = ap (λ v. v ∷ xs) (sym (Rattle.std.proofs.lemmas.Option.same_Some z x h))
    put_back (z ∷ xs) (suc i) x h = ap (λ l. z ∷ l) (put_back xs i x h)

-- an index that stands nowhere is no identifier's
pub not_contained : (list : List Entity) (e : Entity) → list_any (λ (v : Entity). eqb v.index e.index) list ≡ false → contains list e ≡ false
not_contained [] e h = refl
not_contained (x ∷ list) e h =
    let parts = Rattle.std.proofs.lemmas.Bool.or_parts (eqb x.index e.index) (list_any (λ (v : Entity). eqb v.index e.index) list) h in
    Rattle.std.proofs.lemmas.Bool.or_from (is_same e x) (contains list e) (elim (cases_Bool (is_same e x)) [
      | inl same ↦ absurd (Rattle.std.proofs.lemmas.Bool.false≢true (sym parts.0 ∙ Rattle.std.proofs.lemmas.Bool.eq-eqb x.index e.index (ap (λ (v : Entity). v.index) (sym (Rattle.entity_id.proofs.MapLemmas.same_true e x same)))))
      | inr differs ↦ differs
    ]) (not_contained list e parts.1)

keys_index : {T : Type 0} (pairs : List (Entity × T)) (n : ℕ) → list_any (λ (v : Entity). eqb v.index n) (entries.keys pairs) ≡ entries.has_index pairs n
keys_index [] n = refl
keys_index (pair ∷ pairs) n = ap (λ b. Rattle.std.proofs.Common.◌||◌ (eqb pair.0.index n) b) (keys_index pairs n)

-- the groups of before, once a storage appended
pub appended : {T : Type 0} (decls : List GroupDecl) (lens : List ℕ) (pools : List (Stored T)) (p : ℕ) (old new : Stored T) (e : Entity) → slice_get pools p ≡ Some old → AreGrouped decls lens (packed_of pools) → entries.keys new.pairs ≡ entries.keys old.pairs ++ e ∷ [] → entries.has_index old.pairs e.index ≡ false → WereGrouped decls lens (packed_of (set pools p new)) e p
appended {T = T} decls lens pools p old new e here grouped keys absent =
    let low : p < length pools = slice_get_within pools p old here in
    let back : set (packed_of (set pools p new)) p (entries.keys old.pairs) ≡ packed_of pools = sym (map-set (λ (stored : Stored T). entries.keys stored.pairs) (set pools p new) p old) ∙ ap packed_of (set_back pools p new old here) in
    record {
      before = entries.keys old.pairs;
      appended = packed-set_same pools p new low ∙ keys;
      fresh = not_contained (entries.keys old.pairs) e (keys_index old.pairs e.index ∙ absent);
      grouped = subst (AreGrouped decls lens) (sym back) grouped;
    }

-- the groups once a storage erased
pub erased : {T : Type 0} (decls : List GroupDecl) (lens : List ℕ) (pools : List (Stored T)) (p : ℕ) (old new : Stored T) (e : Entity) → slice_get pools p ≡ Some old → AreGroupedWithout decls lens (packed_of pools) e p → IfSome (place_of (entries.keys old.pairs) e) (λ place. entries.keys new.pairs ≡ swap_popped (entries.keys old.pairs) place) → AreGrouped decls lens (packed_of (set pools p new))
erased {T = T} decls lens pools p old new e here without popped =
    let low : p < length pools = slice_get_within pools p old here in
    let is : packed_at (packed_of pools) p ≡ entries.keys old.pairs = packed_here pools p old low ∙ ap (λ (v : Stored T). entries.keys v.pairs) (Rattle.std.proofs.lemmas.Option.get_or_from_slice_get pools p old old here) in
    let has : contains (entries.keys old.pairs) e ≡ true = ap (list_any (is_same e)) (sym is) ∙ without.here in
    let placed : (k : ℕ) × (place_of (entries.keys old.pairs) e ≡ Some k) = some_place has (place_of (entries.keys old.pairs) e) refl in
    let moved : entries.keys new.pairs ≡ swap_popped (entries.keys old.pairs) placed.0 = subst (λ o. IfSome o (λ place. entries.keys new.pairs ≡ swap_popped (entries.keys old.pairs) place)) placed.1 popped in
    let grouped : AreGrouped decls lens (set (packed_of pools) p (swap_popped (packed_at (packed_of pools) p) placed.0)) = subst (λ o. IfSome o (λ place. AreGrouped decls lens (set (packed_of pools) p (swap_popped (packed_at (packed_of pools) p) place)))) (ap (λ l. place_of l e) is ∙ placed.1) without.gone in
    subst (AreGrouped decls lens) (ap (set (packed_of pools) p) (ap (λ l. swap_popped l placed.0) is ∙ sym moved) ∙ sym (map-set (λ (stored : Stored T). entries.keys stored.pairs) pools p new)) grouped
  where
    some_place : contains (entries.keys old.pairs) e ≡ true → (o : Rattle.std.proofs.Common.Option ℕ) → place_of (entries.keys old.pairs) e ≡ o → (k : ℕ) × (place_of (entries.keys old.pairs) e ≡ Some k)
    some_place has (Some k) h = (k, h)
    some_place has None h = absurd (Rattle.std.proofs.lemmas.Bool.false≢true (sym (Rattle.entity_id.proofs.PackedListLemmas.any_by_position (is_same e) (entries.keys old.pairs) 0 ∙ ap Rattle.std.specs.Prelude.is_some h) ∙ has))

-- where a call answered no error
pub on_no_error : {A B : Type 0} (r : Rattle.std.specs.Prelude.Result A B) (X : Type 0) → Rattle.std.specs.Prelude.is_err r ≡ false → Rattle.std.specs.Prelude.OnOk r X → X
on_no_error (Rattle.std.specs.Prelude.Ok a) X h x = x
on_no_error (Rattle.std.specs.Prelude.Err b) X h x = absurd (Rattle.std.proofs.lemmas.Bool.false≢true (sym h))
