use Rattle.system_api.proofs.tests.rows_are_set_where_identifiers_are_located.Given as goal

abbrev pub ghosts-locate_one : goal.ghosts-locate_one
ghosts-locate_one g a = record { name = a.blank.name; parts = a.blank.parts }
