use Rattle.std.proofs.Common.{inl, inr, ◌≡◌, Some, slice_get, sym, ap, ◌∙◌}
use Rattle.std.proofs.lemmas.Option.{same_Some, none-some}
use Rattle.std.proofs.lemmas.Bool.{eq-eqb, ne_eqb, cases_eq}
use Rattle.entity_id.specs.declared.entity.Entity.{Entity}
use Rattle.sparse_set.proofs.PlaceLemmas.{index_found, index_missing}
use Rattle.sparse_set.proofs.places.has_index_in.Goals as goal

pub returns-in_default : goal.returns-in_default
returns-in_default c = sym (index_missing c.args.packed.now c.args.pages.now c.requires c.args.index (λ place e at here same. none-some place (c.in_default.ensures ∙ at)))

pub returns-in-Some-item_at : goal.returns-in-Some-item_at
returns-in-Some-item_at c =
    let found = c.in-Some-item_at.found in
    let here : slice_get c.args.packed.now c.in-Some.place ≡ Some found = sym c.in-Some-item_at.ensures in
    elim (cases_eq found.index c.args.index) [
      | inl same ↦ eq-eqb _ _ same ∙ sym (index_found c.args.packed.now c.args.pages.now c.requires c.args.index c.in-Some.place found here same)
      | inr apart ↦
          ne_eqb _ _ apart ∙ sym (index_missing c.args.packed.now c.args.pages.now c.requires c.args.index (λ place e at here' same.
          let at_place : place ≡ c.in-Some.place = same_Some place c.in-Some.place (sym at ∙ sym c.in-Some.ensures) in
          let is : found ≡ e = same_Some _ _ (sym here ∙ ap (slice_get c.args.packed.now) (sym at_place) ∙ here') in
          apart (ap (λ (v : Entity). v.index) is ∙ same)))
    ]

pub returns-in-None : goal.returns-in-None
returns-in-None c =
    sym (index_missing c.args.packed.now c.args.pages.now c.requires c.args.index (λ place e at here same.
    let at_place : place ≡ c.in-Some.place = same_Some place c.in-Some.place (sym at ∙ sym c.in-Some.ensures) in
    none-some e (c.in-None.ensures ∙ ap (slice_get c.args.packed.now) (sym at_place) ∙ here)))
