use Rattle.std.proofs.Common.{◌<◌, length, sym, ◌∙◌, arith}
use Rattle.world_model.specs.declared.command.Reply.TheVariants.{Done}
use Rattle.registry.proofs.PoolLemmas.{left, not_left}
use Rattle.registry.proofs.ResultLemmas.{on_true, on_false, by_false}
use Rattle.registry.proofs.parts.rows.drop_row.Goals as goal

pub returns-clause-gone : goal.returns-clause-gone
returns-clause-gone g c =
    let old = c.args.parts.now in
    let all = c.withdraw.ensures in
    let low : c.args.pool < length old.destroy.items = omega (arith, c.requires.declared, c.requires.consistent.destroy_each) in
    on_true c.withdraw.result (λ was. left old c.args.pool c.args.entity c.withdraw.new.pools c.withdraw.new.groups c.withdraw.new.destroy low all.groups all.room all.maps all.hearings Done (sym all.was ∙ was))

pub returns-clause-none : goal.returns-clause-none
returns-clause-none g c =
    let old = c.args.parts.now in
    let all = c.withdraw.ensures in
    let low : c.args.pool < length old.destroy.items = omega (arith, c.requires.declared, c.requires.consistent.destroy_each) in
    on_false c.withdraw.result (λ none. not_left old c.args.pool c.args.entity c.withdraw.new.pools c.withdraw.new.groups c.withdraw.new.destroy low all.groups all.room all.maps all.hearings (sym all.was ∙ none) (by_false c.withdraw.result none all.stays))
