use Rattle.system_api.proofs.OrderLemmas.{settles_in_order}
use Rattle.system_api.proofs.laws.orders_are_in_order.Goals as goal

pub returns : goal.returns
returns g c = λ give pairs given once same. settles_in_order give pairs given once same
