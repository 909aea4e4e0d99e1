-- Places of identifiers, and the same after each change.
use Rattle.std.proofs.Common.{◌≡◌, ℕ, ◌-◌, ◌<◌, ◌≤◌, ◌/◌, ◌%◌, true, false, eqb, List, [], ◌∷◌, ◌++◌, length, Some, None, slice_get, sym, ap, ◌∙◌, inl, inr, arith}
use Rattle.std.specs.Prelude.{is_some}
use Rattle.std.specs.List.{swap}
use Rattle.std.proofs.lemmas.Bool.{cases_eq, both_ways, eqb-true, eq-eqb}
use Rattle.std.proofs.lemmas.Option.{same_Some, slice_get_within}
use Rattle.entity_id.specs.declared.entity.Entity.{Entity}
use Rattle.entity_id.specs.Identifiers.{is_same}
use Rattle.entity_id.proofs.MapLemmas.{same_true}
use Rattle.sparse_set.specs.PackedSets.{has_index, AreDistinct}
use Rattle.entity_id.specs.PackedLists.{place_of, swap_popped}
use Rattle.sparse_set.specs.Pages.{place_at, page_of, HasPlace, AreMadeBelow, Puts, Keeps}
use Rattle.sparse_set.specs.declared.pages.TheConstants.{PAGE}
use Rattle.sparse_set.specs.Places.{ArePlaced}
use Rattle.entity_id.proofs.PackedListLemmas.{position_is, position_none, any_by_position, any_none, second, first, other, at_swapped, at_taken, at_pushed}

module _ (packed : List Entity) (pages : List (List ℕ)) (h : ArePlaced packed pages) where
  -- an index stands at one place
  pub one_place : (j k : ℕ) (x y : Entity) → slice_get packed j ≡ Some x → slice_get packed k ≡ Some y → x.index ≡ y.index → j ≡ k
  one_place j k x y hj hk same = same_Some j k (sym (h j x hj) ∙ ap (place_at pages) same ∙ h k y hk)

  pub distinct : AreDistinct packed
  distinct j k x y hj hk same = one_place j k x y hj hk same

  pub place_missing : (e : Entity) → ((place : ℕ) → place_at pages e.index ≡ Some place → slice_get packed place ≡ Some e → ⊥) → place_of packed e ≡ None
  place_missing e gone = position_none (is_same e) packed 0 (λ j y g q.
      let is : e ≡ y = same_true e y q in
      gone j (ap (λ (v : Entity). place_at pages v.index) is ∙ h j y g) (g ∙ ap Some (sym is)))

  pub index_found : (index place : ℕ) (e : Entity) → slice_get packed place ≡ Some e → e.index ≡ index → has_index packed index ≡ true
  index_found index place e here same =
      any_by_position (λ (k : Entity). eqb k.index index) packed 0
      ∙ ap is_some (position_is (λ (k : Entity). eqb k.index index) packed 0 place e here (eq-eqb e.index index same) (λ j y g q. one_place j place y e g here (eqb-true y.index index q ∙ sym same)))

  pub index_missing : (index : ℕ) → ((place : ℕ) (e : Entity) → place_at pages index ≡ Some place → slice_get packed place ≡ Some e → e.index ≡ index → ⊥) → has_index packed index ≡ false
  index_missing index gone =
      any_by_position (λ (k : Entity). eqb k.index index) packed 0
      ∙ ap is_some (position_none (λ (k : Entity). eqb k.index index) packed 0 (λ j y g q.
      let is : y.index ≡ index = eqb-true y.index index q in
      gone j y (ap (place_at pages) (sym is) ∙ h j y g) g is))

  pub appended : (e : Entity) (after : List (List ℕ)) → has_index packed e.index ≡ false → Puts pages after e.index (length packed) → ArePlaced (packed ++ e ∷ []) after
  appended e after fresh put k z g =
      elim (at_pushed packed e k z g) [
        | inl old ↦
            put.others z.index (λ same. both_ways (eqb z.index e.index) (any_none (λ (v : Entity). eqb v.index e.index) packed fresh k z old) (eq-eqb z.index e.index same))
            ∙ h k z old
        | inr new ↦ ap (λ (v : Entity). place_at after v.index) new.1 ∙ put.here ∙ ap Some (sym new.0)
      ]

  pub exchanged : (i j : ℕ) (x y : Entity) (between after : List (List ℕ)) → slice_get packed i ≡ Some x → slice_get packed j ≡ Some y → Puts pages between x.index j → Puts between after y.index i → ArePlaced (swap packed i j) after
  exchanged i j x y between after hx hy one two k z g =
      elim (at_swapped packed i j x y hx hy k z g) [
        | second at is ↦
            ap (λ (v : Entity). place_at after v.index) is
            ∙ elim (cases_eq x.index y.index) [
              | inl same ↦ ap (place_at after) same ∙ two.here ∙ ap Some (one_place i j x y hx hy same)
              | inr apart ↦ two.others x.index apart ∙ one.here
            ]
            ∙ ap Some (sym at)
        | first apart at is ↦ ap (λ (v : Entity). place_at after v.index) is ∙ two.here ∙ ap Some (sym at)
        | other apart apart' old ↦
            two.others z.index (λ same. apart (one_place k j z y old hy same))
            ∙ one.others z.index (λ same. apart' (one_place k i z x old hx same))
            ∙ h k z old
      ]

  pub taken_out : (place : ℕ) (x last : Entity) (after : List (List ℕ)) → slice_get packed place ≡ Some x → slice_get packed (length packed - 1) ≡ Some last → Puts pages after last.index place → ArePlaced (swap_popped packed place) after
  taken_out place x last after hx hl put k z g =
      let m = length packed - 1 in
      let part = at_taken m (swap packed place m) k z g in
      let low : k < m = part.0 in
      elim (at_swapped packed place m x last hx hl k z part.1) [
        | second at is ↦ absurd (omega arith)
        | first apart at is ↦ ap (λ (v : Entity). place_at after v.index) is ∙ put.here ∙ ap Some (sym at)
        | other apart apart' old ↦ put.others z.index (λ same. apart (one_place k m z last old hl same)) ∙ h k z old
      ]

  -- under the index of what is packed something stands
  pub packed_has_place : (k : ℕ) (e : Entity) → slice_get packed k ≡ Some e → HasPlace pages e.index
  packed_has_place k e here = slice_get_within (page_of pages (e.index / PAGE)) (e.index % PAGE) k (h k e here)

-- where pages only grow, each place stands still
pub placed_still : (packed : List Entity) (old new : List (List ℕ)) → Keeps old new → ArePlaced packed old → ArePlaced packed new
placed_still packed old new kept h k e g = kept.places e.index k (h k e g)
