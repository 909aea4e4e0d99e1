use Rattle.std.proofs.Common.{◌≡◌, Some, slice_get, sym, ap, ◌∙◌}
use Rattle.std.proofs.lemmas.Option.{same_Some, none-some}
use Rattle.std.proofs.lemmas.Bool.{both_ways}
use Rattle.entity_id.specs.declared.entity.Entity.{Entity}
use Rattle.entity_id.specs.Identifiers.{is_same}
use Rattle.entity_id.proofs.MapLemmas.{same_true, same_itself}
use Rattle.sparse_set.proofs.PlaceLemmas.{distinct, place_missing}
use Rattle.entity_id.proofs.PackedListLemmas.{place_found}
use Rattle.sparse_set.proofs.places.place_in.Goals as goal

pub returns-in_err-place-clause-place : goal.returns-in_err-place-clause-place
returns-in_err-place-clause-place c = rw c.from_residual.ensures (sym (place_missing c.args.packed.now c.args.pages.now c.requires c.args.entity (λ place at here. none-some place (cc (at, c.in_err-place.ensures)))))

pub returns-in_err-found-clause-place : goal.returns-in_err-found-clause-place
returns-in_err-found-clause-place c =
    rw c.from_residual-in_err-found.ensures
    (sym (place_missing c.args.packed.now c.args.pages.now c.requires c.args.entity (λ place at here.
    let same : place ≡ c.in_ok-place.place = same_Some place c.in_ok-place.place (sym at ∙ sym c.in_ok-place.ensures) in
    none-some c.args.entity (c.in_err-found.ensures ∙ ap (slice_get c.args.packed.now) (sym same) ∙ here))))

pub returns-then-eq : goal.returns-then-eq
returns-then-eq c =
    let is : c.in_ok-found.found ≡ c.args.entity = same_true c.in_ok-found.found c.args.entity (sym c.if-eq.ensures) in
    let here : slice_get c.args.packed.now c.in_ok-place.place ≡ Some c.args.entity = sym c.in_ok-found.ensures ∙ ap Some is in
    record { place = sym (place_found c.args.packed.now (distinct c.args.packed.now c.args.pages.now c.requires) c.args.entity c.in_ok-place.place here); here = here }

pub returns-else-eq-clause-place : goal.returns-else-eq-clause-place
returns-else-eq-clause-place c =
    sym (place_missing c.args.packed.now c.args.pages.now c.requires c.args.entity (λ place at here.
    let same : place ≡ c.in_ok-place.place = same_Some place c.in_ok-place.place (sym at ∙ sym c.in_ok-place.ensures) in
    let is : c.in_ok-found.found ≡ c.args.entity = same_Some _ _ (c.in_ok-found.ensures ∙ ap (slice_get c.args.packed.now) (sym same) ∙ here) in
    both_ways (is_same c.in_ok-found.found c.args.entity) (sym c.if-eq.ensures) (ap (λ (v : Entity). is_same v c.args.entity) is ∙ same_itself c.args.entity)))
