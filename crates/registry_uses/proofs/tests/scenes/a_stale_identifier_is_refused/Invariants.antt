use Rattle.registry_uses.proofs.tests.scenes.a_stale_identifier_is_refused.Given as goal

abbrev pub ghosts-end_in : goal.ghosts-end_in
ghosts-end_in g a = record { name = a.blank.name; parts = a.blank.parts }
