use Rattle.std.proofs.Common.{ap, ◌∙◌}
use Rattle.std.specs.List.{flat_map}
use Rattle.world_model.specs.Frames.{own_pools, map_at, is_member}
use Rattle.system_api.proofs.MemberLemmas.{walked, orders-kept}
use Rattle.system_api.proofs.laws.any_own_pool_has_the_members.Goals as goal

pub returns-clause-members : goal.returns-clause-members
returns-clause-members c = λ access maps pool up has. walked maps (own_pools access) access.without pool up has

pub returns-clause-orders : goal.returns-clause-orders
returns-clause-orders c = λ access maps pool give up has.
    orders-kept (is_member access maps) give (map_at maps pool) ∙ ap (flat_map give) (walked maps (own_pools access) access.without pool up has)
