use Rattle.pool_slots.proofs.tests.readers_share_a_pool_and_a_writer_raises_its_version.Given as goal

abbrev pub ghosts-share_in : goal.ghosts-share_in
ghosts-share_in g a = record { name = a.blank.name; parts = a.blank.parts }
