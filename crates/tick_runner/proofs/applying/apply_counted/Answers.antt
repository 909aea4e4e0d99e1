use Rattle.std.proofs.Common.{◌≡◌, ◌+◌, ◌++◌, ◌∷◌, [], List, Some, length, map, take, slice_get, refl, sym, ap, ◌∙◌, subst}
use Rattle.std.specs.List.{AllByRecursion}
use Rattle.std.specs.Option.{option_map}
use Rattle.std.proofs.lemmas.List.{take_more, map-append}
use Rattle.std.proofs.lemmas.Option.{slice_get-map, slice_get_read}
use Rattle.entity_id.specs.declared.entity.Profile.{Profile}
use Rattle.entity_id.proofs.ListLemmas.{all_at}
use Rattle.world_model.specs.declared.component.Decl.{Decl}
use Rattle.world_model.specs.declared.deferred.Deferred.{Deferred}
use Rattle.world_model.specs.declared.world.World.{World}
use Rattle.world_model.specs.Orders.{IsFitting}
use Rattle.tick_runner.specs.Running.{orders_in}
use Rattle.tick_runner.specs.Ticking.{CarriesOut}
use Rattle.tick_runner.proofs.CarryLemmas.{carries_more}
use Rattle.tick_runner.proofs.TickLemmas.{lists_profile, lists_decls}
use Rattle.tick_runner.proofs.applying.apply_counted.Goals as goal

pub loop-buffer-init : goal.loop-buffer-init
loop-buffer-init g c = c.registries_change_in_parts.ensures.quiet c.args.registry.now c.args.registry.now.world

pub apply_buffer-requires : goal.apply_buffer-requires
apply_buffer-requires g c =
    let k = c.loop-buffer.buffer-index in
    let buffers = c.args.buffers.now in
    let b = c.buffer-item.result in
    let first = c.args.registry.now.world in
    let now = c.loop-buffer.registry.world in
    let lists = map orders_in (take k buffers) in
    let law = c.orders_keep_worlds_lawful.ensures in
    let at : slice_get (map orders_in buffers) k ≡ Some (orders_in b) =
    slice_get-map orders_in buffers k ∙ ap (option_map orders_in) (slice_get_read buffers (length buffers) k b refl c.loop-buffer-test.true c.buffer-item.is) in
    let fit : AllByRecursion (IsFitting first.profile first.decls) (orders_in b) = all_at (AllByRecursion (IsFitting first.profile first.decls)) (map orders_in buffers) k (orders_in b) c.requires.fitting at in
    let profile : now.profile ≡ first.profile = ap (λ (w : World). w.profile) c.loop-buffer.invariant.world ∙ lists_profile c.args.registry.now.limit law.profile law.components first lists in
    let decls : now.decls ≡ first.decls = ap (λ (w : World). w.decls) c.loop-buffer.invariant.world ∙ lists_decls c.args.registry.now.limit law.profile law.components first lists in
    subst (λ (p : Profile). AllByRecursion (IsFitting p now.decls) (orders_in b)) (sym profile) (subst (λ (ds : List Decl). AllByRecursion (IsFitting first.profile ds) (orders_in b)) (sym decls) fit)

pub loop-buffer-preserved : goal.loop-buffer-preserved
loop-buffer-preserved g c =
    let k = c.loop-buffer.buffer-index in
    let buffers = c.args.buffers.now in
    let b = c.buffer-item.result in
    let lists = map orders_in (take k buffers) in
    let more : map orders_in (take (k + 1) buffers) ≡ lists ++ orders_in b ∷ [] =
    ap (map orders_in) (take_more buffers k b c.loop-buffer-test.true ∙ ap (λ x. take k buffers ++ x ∷ []) (sym c.buffer-item.is)) ∙ map-append orders_in (take k buffers) (b ∷ []) in
    subst (λ (ls : List (List Deferred)). CarriesOut c.args.registry.now c.apply_buffer.new.registry ls) (sym more)
    (carries_more c.registries_change_in_parts.ensures.parts c.args.registry.now c.loop-buffer.registry c.apply_buffer.new.registry lists (orders_in b) c.loop-buffer.invariant c.in_ok-apply_buffer.ensures)
