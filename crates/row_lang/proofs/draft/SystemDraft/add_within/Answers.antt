use Rattle.row_lang.proofs.DraftLemmas.{draft_more}
use Rattle.row_lang.proofs.draft.SystemDraft.add_within.Goals as goal

pub returns-in-Some-clause-draft : goal.returns-in-Some-clause-draft
returns-in-Some-clause-draft c = draft_more c.args.decls.now c.args.self.now _ _ c.in_ok-add_list.ensures.ok

pub returns-then-eq-clause-draft : goal.returns-then-eq-clause-draft
returns-then-eq-clause-draft c = draft_more c.args.decls.now c.args.self.now _ _ (c.in_ok-close.ensures.ok c.args.decls.now)

pub returns-clause-draft : goal.returns-clause-draft
returns-clause-draft c = draft_more c.args.decls.now c.args.self.now _ c.args.line.now c.in_ok-add_statement.ensures.ok
