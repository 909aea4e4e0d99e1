use Rattle.sparse_set.proofs.tests.orders_walk_from_the_back_by_key_and_index.Given as goal

abbrev pub ghosts-orders_in : goal.ghosts-orders_in
ghosts-orders_in g a = record { name = a.blank.name; parts = a.blank.parts }
