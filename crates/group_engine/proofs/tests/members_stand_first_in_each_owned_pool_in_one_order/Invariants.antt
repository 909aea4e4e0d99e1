use Rattle.group_engine.proofs.tests.members_stand_first_in_each_owned_pool_in_one_order.Given as goal

abbrev pub ghosts-walk_in : goal.ghosts-walk_in
ghosts-walk_in g a = record { name = a.blank.name; parts = a.blank.parts }
