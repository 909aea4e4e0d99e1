use Rattle.system_api.proofs.tests.identifiers_are_looked_up_and_excluded.Given as goal

abbrev pub ghosts-look_up_two : goal.ghosts-look_up_two
ghosts-look_up_two g a = record { name = a.blank.name; parts = a.blank.parts }
