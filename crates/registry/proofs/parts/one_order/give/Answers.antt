use Rattle.std.proofs.Common.{refl}
use Rattle.world_model.specs.declared.command.Command.TheVariants.{EmplaceOrReplace}
use Rattle.world_model.specs.declared.command.Reply.TheVariants.{Done}
use Rattle.registry.specs.Layout.{held_of}
use Rattle.registry.proofs.ApplyLemmas.{carried_done, carried_refused}
use Rattle.registry.proofs.ResultLemmas.{if_ok, all_err}
use Rattle.registry.proofs.parts.one_order.give.Goals as goal

pub returns-in-Ok-clause-ok : goal.returns-in-Ok-clause-ok
returns-in-Ok-clause-ok g c = carried_done (held_of c.args.parts.now) (held_of c.emplace_or_replace.new.parts) (EmplaceOrReplace c.args.entity c.args.pool c.args.row) Done refl c.in-Ok.ensures.ok c.in-Ok.ensures.reply

pub returns-in-Err-clause-ok : goal.returns-in-Err-clause-ok
returns-in-Err-clause-ok g c =
    if_ok c.skipped.result c.skipped.ensures.ok (λ done is. carried_refused (held_of c.args.parts.now) (held_of c.emplace_or_replace.new.parts) (EmplaceOrReplace c.args.entity c.args.pool c.args.row) c.in-Err.refused done c.in-Err.ensures.cause c.in-Err.ensures.err is)

pub returns-in-Err-clause-err : goal.returns-in-Err-clause-err
returns-in-Err-clause-err g c = all_err c.skipped.result c.in-Err.ensures.err

pub returns-in-Err-clause-never : goal.returns-in-Err-clause-never
returns-in-Err-clause-never g c stands = c.skipped.ensures.never (c.in-Err.ensures.never stands)
