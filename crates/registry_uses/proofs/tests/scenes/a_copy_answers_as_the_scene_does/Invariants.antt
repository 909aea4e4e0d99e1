use Rattle.registry_uses.proofs.tests.scenes.a_copy_answers_as_the_scene_does.Given as goal

abbrev pub ghosts-copy_in : goal.ghosts-copy_in
ghosts-copy_in g a = record { name = a.blank.name; parts = a.blank.parts }
