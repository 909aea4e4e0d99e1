use Rattle.std.proofs.Common.{◌≤◌, subst}
use Rattle.row_lang.specs.Systems.{Draft, command_count}
use Rattle.row_lang.proofs.DraftLemmas.{refuses_within}
use Rattle.row_lang.proofs.draft.SystemDraft.add.Goals as goal

pub returns-clause-bad : goal.returns-clause-bad
returns-clause-bad c = λ bad.
    refuses_within c.args.decls.now c.args.self.now c.args.line.now (subst (λ (d : Draft). command_count d.system.statements ≤ 8) c.self.view_is c.self.invariant.1) (c.add_within.ensures.bad bad)
