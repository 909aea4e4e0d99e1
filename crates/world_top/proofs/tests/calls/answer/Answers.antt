use Rattle.world_top.proofs.CallLemmas.{read_asks, run_keeps, run_ascends}
use Rattle.world_top.proofs.tests.calls.answer.Goals as goal

pub run-reply-requires : goal.run-reply-requires
run-reply-requires g c = record {
  asked = read_asks c.args.registry.now.world c.args.decls.now c.args.line.now c.in_ok-command.command c.in_ok-command.ensures.ok c.requires.decls c.requires.profile;
}

pub returns-in_err-push_reply-clause-decls : goal.returns-in_err-push_reply-clause-decls
returns-in_err-push_reply-clause-decls g c = (run_keeps _ _ _ _ c.run-reply.ensures.run).decls

pub returns-in_err-push_reply-clause-profile : goal.returns-in_err-push_reply-clause-profile
returns-in_err-push_reply-clause-profile g c = (run_keeps _ _ _ _ c.run-reply.ensures.run).profile

pub returns-in_err-push_reply-clause-limit : goal.returns-in_err-push_reply-clause-limit
returns-in_err-push_reply-clause-limit g c = (run_keeps _ _ _ _ c.run-reply.ensures.run).limit

pub returns-clause-decls : goal.returns-clause-decls
returns-clause-decls g c = (run_keeps _ _ _ _ c.run-reply.ensures.run).decls

pub returns-clause-profile : goal.returns-clause-profile
returns-clause-profile g c = (run_keeps _ _ _ _ c.run-reply.ensures.run).profile

pub returns-clause-limit : goal.returns-clause-limit
returns-clause-limit g c = (run_keeps _ _ _ _ c.run-reply.ensures.run).limit

pub returns-in_err-push_reply-clause-ascending : goal.returns-in_err-push_reply-clause-ascending
returns-in_err-push_reply-clause-ascending g c = run_ascends _ _ _ _ _ _ c.run-reply.ensures.run c.in_ok-command.ensures.ok c.requires.decls c.requires.profile c.requires.ascending

pub returns-clause-ascending : goal.returns-clause-ascending
returns-clause-ascending g c = run_ascends _ _ _ _ _ _ c.run-reply.ensures.run c.in_ok-command.ensures.ok c.requires.decls c.requires.profile c.requires.ascending
