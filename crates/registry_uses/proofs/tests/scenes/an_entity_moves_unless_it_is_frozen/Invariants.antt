use Rattle.registry_uses.proofs.tests.scenes.an_entity_moves_unless_it_is_frozen.Given as goal

abbrev pub ghosts-move_in : goal.ghosts-move_in
ghosts-move_in g a = record { name = a.blank.name; parts = a.blank.parts }
