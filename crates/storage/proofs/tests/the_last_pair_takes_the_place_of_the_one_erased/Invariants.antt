use Rattle.storage.proofs.tests.the_last_pair_takes_the_place_of_the_one_erased.Given as goal

abbrev pub ghosts-erase_in : goal.ghosts-erase_in
ghosts-erase_in g a = record { name = a.blank.name; parts = a.blank.parts }
