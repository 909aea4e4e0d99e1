use Rattle.world_model.proofs.ReplyLemmas.{view_ascends, members_ascend, cleared_ascends}
use Rattle.world_model.proofs.laws.commands_list_in_order.Goals as goal

pub returns-clause-view : goal.returns-clause-view
returns-clause-view c = view_ascends

pub returns-clause-members : goal.returns-clause-members
returns-clause-members c = members_ascend

pub returns-clause-cleared : goal.returns-clause-cleared
returns-clause-cleared c = cleared_ascends
