use Rattle.std.proofs.Common.{◌≡◌, ◌<◌, List, length, subst, arith}
use Rattle.entity_id.specs.FiniteMap as entries
use Rattle.world_model.specs.declared.access.Access.{Access}
use Rattle.world_model.specs.Frames.{own_pools}
use Rattle.system_api.specs.Emissions.{Emission}
use Rattle.system_api.specs.Registers.{pool_at}
use Rattle.system_api.specs.Running.{sizes_of}
use Rattle.system_eval.specs.Choices.{IsChosen}
use Rattle.system_eval.specs.Walks.{Task, own_lent, walked_in, Gives}
use Rattle.system_eval.proofs.BatchLemmas.{own-count}
use Rattle.system_eval.proofs.CoverLemmas.{walked-count}
use Rattle.system_eval.proofs.RowEffectLemmas.{rows-now}
use Rattle.system_eval.proofs.RunLemmas.{own-distinct, ready, room-for, orders-all}
use Rattle.system_eval.proofs.row_system.RowSystemSystem.run.Goals as goal

pub walk-requires-clause-distinct : goal.walk-requires-clause-distinct
walk-requires-clause-distinct c = own-distinct c.args.self.now.system.now c.args.self.now.checked

pub walk-requires-clause-ready : goal.walk-requires-clause-ready
walk-requires-clause-ready c = ready c.args.self.now.system.now c.args.self.now.checked

pub walk-requires-clause-room : goal.walk-requires-clause-room
walk-requires-clause-room c =
    let system = c.args.self.now.system.now in
    let maps = c.requires.room.maps in
    let chosen : IsChosen system.access maps c.args.lent.now c.choose-choice.result.at c.choose-choice.result.end =
    subst (λ (a : Access). IsChosen a maps c.args.lent.now c.choose-choice.result.at c.choose-choice.result.end) c.access.ensures (c.choose-choice.ensures.chosen maps c.requires.room.shown) in
    room-for system (sizes_of maps) c.choose-choice.result.end c.args.out.now.spare chosen.least c.requires.room.enough

pub walk-requires-clause-end : goal.walk-requires-clause-end
walk-requires-clause-end c =
    let system = c.args.self.now.system.now in
    let maps = c.requires.room.maps in
    let chosen : IsChosen system.access maps c.args.lent.now c.choose-choice.result.at c.choose-choice.result.end =
    subst (λ (a : Access). IsChosen a maps c.args.lent.now c.choose-choice.result.at c.choose-choice.result.end) c.access.ensures (c.choose-choice.ensures.chosen maps c.requires.room.shown) in
    chosen.within

pub returns-clause-rows : goal.returns-clause-rows
returns-clause-rows c = λ maps shows.
    let system = c.args.self.now.system.now in
    let task : Task = record { profile = c.args.self.now.profile; system = system; tick = c.args.tick } in
    let at = c.choose-choice.result.at in
    let end = c.choose-choice.result.end in
    let r0 = c.args.lent.now in
    let chosen : IsChosen system.access maps r0 at end = subst (λ (a : Access). IsChosen a maps r0 at end) c.access.ensures (c.choose-choice.ensures.chosen maps shows) in
    let list = walked_in (length system.access.read) r0 at end in
    let long : length list ≡ end = walked-count (length system.access.read) r0 at end chosen.within in
    rows-now task r0 c.walk.new.lent c.requires.pools maps shows list end (omega (arith, long)) chosen.all c.walk.ensures.rows

pub returns-clause-orders : goal.returns-clause-orders
returns-clause-orders c = λ maps shows.
    let system = c.args.self.now.system.now in
    let task : Task = record { profile = c.args.self.now.profile; system = system; tick = c.args.tick } in
    let at = c.choose-choice.result.at in
    let end = c.choose-choice.result.end in
    let r0 = c.args.lent.now in
    let chosen : IsChosen system.access maps r0 at end = subst (λ (a : Access). IsChosen a maps r0 at end) c.access.ensures (c.choose-choice.ensures.chosen maps shows) in
    let there : at < length (own_lent (length system.access.read) r0) = omega (arith, subst (λ (a : Access). at < length (own_pools a)) c.access.ensures c.choose-choice.ensures.at, own-count system.access r0 c.requires.pools) in
    let once : entries.HasEachOnce (pool_at (own_lent (length system.access.read) r0) at).storage.pairs = subst (λ (a : Access). entries.HasEachOnce (pool_at (own_lent (length a.read) r0) at).storage.pairs) c.access.ensures c.choose-choice.ensures.once in
    orders-all task r0 c.requires.pools maps shows at end there once chosen.within chosen.all c.walk.new.out.list
    (subst (λ (es : List Emission). Gives task (walked_in (length system.access.read) r0 at end) 0 end r0 es c.walk.new.out.list) c.requires.empty c.walk.ensures.orders)
