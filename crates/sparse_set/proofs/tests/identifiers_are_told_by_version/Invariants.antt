use Rattle.sparse_set.proofs.tests.identifiers_are_told_by_version.Given as goal

abbrev pub ghosts-push_in : goal.ghosts-push_in
ghosts-push_in g a = record { name = a.blank.name; parts = a.blank.parts }
