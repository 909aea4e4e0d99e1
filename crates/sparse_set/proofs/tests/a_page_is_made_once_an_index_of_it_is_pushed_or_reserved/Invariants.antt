use Rattle.sparse_set.proofs.tests.a_page_is_made_once_an_index_of_it_is_pushed_or_reserved.Given as goal

abbrev pub ghosts-pages_in : goal.ghosts-pages_in
ghosts-pages_in g a = record { name = a.blank.name; parts = a.blank.parts }
