use Rattle.storage.proofs.tests.pairs_move_whole.Given as goal

abbrev pub ghosts-move_in : goal.ghosts-move_in
ghosts-move_in g a = record { name = a.blank.name; parts = a.blank.parts }
