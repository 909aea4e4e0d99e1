use Rattle.sparse_set.proofs.tests.the_last_identifier_takes_the_place_of_the_one_that_goes.Given as goal

abbrev pub ghosts-pop_in : goal.ghosts-pop_in
ghosts-pop_in g a = record { name = a.blank.name; parts = a.blank.parts }
