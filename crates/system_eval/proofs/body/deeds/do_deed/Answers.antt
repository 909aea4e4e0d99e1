use Rattle.std.proofs.Common.{◌+◌, ◌≤◌, Bool, length, sym, subst, if◌then◌else◌}
use Rattle.system_eval.specs.Lanes.{marked_count}
use Rattle.system_eval.proofs.DeedLemmas.{not_set}
use Rattle.system_eval.proofs.body.deeds.do_deed.Goals as goal

pub give_orders-requires-clause-word : goal.give_orders-requires-clause-word
give_orders-requires-clause-word c = not_set c.args.word c.in_default.not-Set

pub give_orders-requires-clause-room : goal.give_orders-requires-clause-room
give_orders-requires-clause-room c = c.requires.room (not_set c.args.word c.in_default.not-Set)

pub returns-in_default-clause-does : goal.returns-in_default-clause-does
returns-in_default-clause-does c = c.give_orders.ensures.does c.args.columns.now

pub returns-in_default-clause-few : goal.returns-in_default-clause-few
returns-in_default-clause-few c =
    subst (λ (b : Bool). length c.give_orders.new.out.list ≤ length c.args.out.now.list + (if b then 0 else marked_count c.args.scene.now.marks)) (sym (not_set c.args.word c.in_default.not-Set)) c.give_orders.ensures.few
