use Rattle.std.proofs.Common.{refl, sym, ap, subst, not}
use Rattle.std.specs.Prelude.{is_some}
use Rattle.world_model.specs.declared.command.Command.{Command}
use Rattle.world_model.specs.declared.command.Command.TheVariants.{Create, Hint, Group, SortPool, SortGroup}
use Rattle.world_model.specs.declared.command.Reply.TheVariants.{Made, GroupNumber, Listed}
use Rattle.registry.specs.Layout.{world_of, held_of}
use Rattle.registry.specs.Running.{is_empty, IsRun}
use Rattle.registry.proofs.ResultLemmas.{all_err, then_err}
use Rattle.registry.proofs.RunLemmas.{ran, ran_where, none_counted}
use Rattle.registry.proofs.parts.commands.run.Goals as goal

pub returns-in-Create-clause-run : goal.returns-in-Create-clause-run
returns-in-Create-clause-run g c =
    let old = held_of c.args.parts.now in
    let new = held_of c.create.new.parts in
    let command : Command = Create in
    subst (λ v. IsRun old new v c.made.result) (sym c.in-Create.is) (subst (λ r. IsRun old new command r) (sym c.made.ensures)
    (ran old new command c.create.result (λ x. Made x) (λ x cause q. cc) (then_err c.create.result c.create.ensures.reuse (ap is_empty)) c.create.ensures.ok c.create.ensures.packed c.create.ensures.reply c.create.ensures.err c.create.ensures.cause c.create.ensures.refused))

pub returns-in-Hint-clause-run : goal.returns-in-Hint-clause-run
returns-in-Hint-clause-run g c =
    let old = held_of c.args.parts.now in
    let new = held_of c.create_hint.new.parts in
    let command : Command = Hint c.in-Hint.entity in
    subst (λ v. IsRun old new v c.made-in-Hint.result) (sym c.in-Hint.is) (subst (λ r. IsRun old new command r) (sym c.made-in-Hint.ensures)
    (ran old new command c.create_hint.result (λ x. Made x) (λ x cause q. cc) c.create_hint.ensures.reuse c.create_hint.ensures.ok c.create_hint.ensures.packed c.create_hint.ensures.reply c.create_hint.ensures.err c.create_hint.ensures.cause c.create_hint.ensures.refused))

pub returns-in-Group-clause-run : goal.returns-in-Group-clause-run
returns-in-Group-clause-run g c =
    let old = held_of c.args.parts.now in
    let new = held_of c.group_by_ref.new.parts in
    let command : Command = Group c.in-Group.decl in
    subst (λ v. IsRun old new v c.numbered.result) (sym c.in-Group.is) (subst (λ r. IsRun old new command r) (sym c.numbered.ensures)
    (ran_where old new command c.group_by_ref.result (λ x. GroupNumber x) (λ x cause q. cc) (λ is. ap (λ o. not (is_some o)) (c.group_by_ref.ensures.memory is)) c.group_by_ref.ensures.ok c.group_by_ref.ensures.packed c.group_by_ref.ensures.reply c.group_by_ref.ensures.err c.group_by_ref.ensures.cause c.group_by_ref.ensures.refused))

pub returns-in-SortPool-clause-run : goal.returns-in-SortPool-clause-run
returns-in-SortPool-clause-run g c =
    let old = held_of c.args.parts.now in
    let new = held_of c.list_sorted_pool.new.parts in
    let command : Command = SortPool c.in-SortPool.pool c.in-SortPool.field in
    subst (λ v. IsRun old new v c.listed.result) (sym c.in-SortPool.is) (subst (λ r. IsRun old new command r) (sym c.listed.ensures)
    (ran old new command c.list_sorted_pool.result (λ x. Listed x) (λ x cause q. cc) (all_err c.list_sorted_pool.result refl) c.list_sorted_pool.ensures.ok c.list_sorted_pool.ensures.packed c.list_sorted_pool.ensures.reply c.list_sorted_pool.ensures.err c.list_sorted_pool.ensures.cause c.list_sorted_pool.ensures.refused))

pub returns-in-SortGroup-clause-run : goal.returns-in-SortGroup-clause-run
returns-in-SortGroup-clause-run g c =
    let old = held_of c.args.parts.now in
    let new = held_of c.list_sorted_group.new.parts in
    let command : Command = SortGroup c.in-SortGroup.group c.in-SortGroup.pool c.in-SortGroup.field in
    subst (λ v. IsRun old new v c.listed-in-SortGroup.result) (sym c.in-SortGroup.is) (subst (λ r. IsRun old new command r) (sym c.listed-in-SortGroup.ensures)
    (ran old new command c.list_sorted_group.result (λ x. Listed x) (λ x cause q. cc) (all_err c.list_sorted_group.result refl) c.list_sorted_group.ensures.ok c.list_sorted_group.ensures.packed c.list_sorted_group.ensures.reply c.list_sorted_group.ensures.err c.list_sorted_group.ensures.cause c.list_sorted_group.ensures.refused))

pub returns-in_default-clause-steps : goal.returns-in_default-clause-steps
returns-in_default-clause-steps g c = none_counted (world_of c.args.parts.now) c.args.command.now c.args.steps.now
