use Rattle.entity_id.proofs.ListLemmas.{all_weaker}
use Rattle.world_model.proofs.EventLemmas.{events_live, events_of_profile}
use Rattle.world_model.proofs.ReplyLemmas.{made_is_known, listed_are_known, told_row}
use Rattle.world_model.proofs.laws.commands_tell_live_entities.Goals as goal

pub returns-clause-made : goal.returns-clause-made
returns-clause-made c limit w command entity h same = (made_is_known limit w command entity h same).live

pub returns-clause-made_of_profile : goal.returns-clause-made_of_profile
returns-clause-made_of_profile c limit w command entity h same = (made_is_known limit w command entity h same).of_profile

pub returns-clause-listed : goal.returns-clause-listed
returns-clause-listed c limit w command entities h same = all_weaker _ _ (λ _ known. known.live) entities (listed_are_known limit w command entities h same)

pub returns-clause-listed_of_profile : goal.returns-clause-listed_of_profile
returns-clause-listed_of_profile c limit w command entities h same = all_weaker _ _ (λ _ known. known.of_profile) entities (listed_are_known limit w command entities h same)

pub returns-clause-events : goal.returns-clause-events
returns-clause-events c = events_live

pub returns-clause-events_of_profile : goal.returns-clause-events_of_profile
returns-clause-events_of_profile c = events_of_profile

pub returns-clause-row : goal.returns-clause-row
returns-clause-row c = told_row
