use Rattle.pool_view.proofs.tests.set_of.Given as goal

abbrev pub ghosts-pack_in : goal.ghosts-pack_in
ghosts-pack_in g a = record { name = a.blank.name; parts = a.blank.parts }
