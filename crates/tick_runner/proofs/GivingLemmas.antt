-- The tests' systems are fit, and the order that one gives is settled as it stands.
use Rattle.std.proofs.Common.{◌≡◌, List, [], ◌∷◌, map, refl, sym, ap, ◌∙◌, subst}
use Rattle.entity_id.specs.declared.entity.Profile.{Profile}
use Rattle.world_model.specs.declared.access.Access.{Access}
use Rattle.world_model.specs.declared.component.Decl.{Decl}
use Rattle.world_model.specs.declared.deferred.Deferred.{Deferred}
use Rattle.world_model.specs.Frames.{AreFittingMaps, IsFitSystem, IsLawfulAccess}
use Rattle.world_model.specs.Orders.{IsFitting}
use Rattle.system_api.specs.Emissions.{Emission, AreSettled, SettlesAs}
use Rattle.system_api.proofs.SettledLemmas.{settled-once}
use Rattle.tick_runner.specs.Giving.{three_components, gives}
use Rattle.tick_runner.proofs.TickLemmas.{rows_fit}

pub giver_fits : (profile : Profile) (access : Access) (order : Deferred) → IsLawfulAccess 3 access → IsFitting profile three_components order → IsFitSystem profile three_components access (gives order)
giver_fits profile access order lawful fitting = record {
  lists = lawful;
  rows = λ world is.
      subst (λ (p : Profile). AreFittingMaps p three_components world.pools) is.profile_is
      (subst (λ (ds : List Decl). AreFittingMaps world.profile ds world.pools) is.decls_are (rows_fit world.profile world.slots world.decls world.pools is.lawful.pools));
  orders = λ world is. (fitting, tt);
}

-- one that is fit over three components is fit where the components are those
pub fits_in : (profile : Profile) (decls : List Decl) (access : Access) (order : Deferred) → decls ≡ three_components → ((profile : Profile) → IsFitSystem profile three_components access (gives order)) → IsFitSystem profile decls access (gives order)
fits_in profile decls access order is fit = subst (λ (list : List Decl). IsFitSystem profile list access (gives order)) (sym is) (fit profile)

-- one order is settled in one way
pub one_settles : (given : List Emission) (e : Emission) (order : Deferred) → given ≡ e ∷ [] → e.order ≡ order → SettlesAs given (order ∷ [])
one_settles given e order is same_order settled done =
    let single : AreSettled (e ∷ []) settled = subst (λ (list : List Emission). AreSettled list settled) is done in
    let same : settled ≡ e ∷ [] = settled-once (λ (emission : Emission). emission.index) (e ∷ []) settled (e ∷ []) single (record { ascending = (tt, tt); parts = λ i. refl }) in
    ap (map (λ (emission : Emission). emission.order)) same ∙ ap (λ (o : Deferred). o ∷ []) same_order
