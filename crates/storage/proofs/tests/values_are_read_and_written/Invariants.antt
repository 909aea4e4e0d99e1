use Rattle.storage.proofs.tests.values_are_read_and_written.Given as goal

abbrev pub ghosts-write_in : goal.ghosts-write_in
ghosts-write_in g a = record { name = a.blank.name; parts = a.blank.parts }
