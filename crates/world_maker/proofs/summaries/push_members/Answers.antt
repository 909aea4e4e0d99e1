use Rattle.std.proofs.Common.{arith}
use Rattle.world_maker.proofs.MemberTextLemmas.{members_more}
use Rattle.world_maker.proofs.summaries.push_members.Goals as goal

pub loop-group-preserved : goal.loop-group-preserved
loop-group-preserved g c =
    members_more c.args.registry.now.world c.loop-group.group c.member_count.result c.args.text.now.items c.loop-group.text.items c.push_spaced.new.text.items
    (omega arith) c.member_count.ensures c.loop-group.invariant c.in_ok-push_spaced.ensures
