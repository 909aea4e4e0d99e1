use Rattle.pool_slots.proofs.tests.a_writer_waits_for_its_version.Given as goal

abbrev pub ghosts-wait_in : goal.ghosts-wait_in
ghosts-wait_in g a = record { name = a.blank.name; parts = a.blank.parts }
