use Rattle.std.proofs.Common.{◌≡◌, take}
use Rattle.tick_runner.specs.Running.{orders_in}
use Rattle.tick_runner.proofs.applying.copy_orders.Given as goal

abbrev pub invariant-loop-place : goal.invariant-loop-place
invariant-loop-place l = l.orders.items ≡ take l.place (orders_in l.buffer)
