use Rattle.registry_uses.proofs.tests.scenes.members_move_as_all_that_move_do.Given as goal

abbrev pub ghosts-walk_in : goal.ghosts-walk_in
ghosts-walk_in g a = record { name = a.blank.name; parts = a.blank.parts }
