use Rattle.registry_uses.proofs.tests.scenes.the_ninth_recorder_is_one_too_many.Given as goal

abbrev pub ghosts-use_up_in : goal.ghosts-use_up_in
ghosts-use_up_in g a = record { name = a.blank.name; parts = a.blank.parts }
