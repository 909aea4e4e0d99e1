use Rattle.registry_uses.proofs.tests.scenes.a_listener_hears_of_a_place_that_goes.Given as goal

abbrev pub ghosts-hear_in : goal.ghosts-hear_in
ghosts-hear_in g a = record { name = a.blank.name; parts = a.blank.parts }
