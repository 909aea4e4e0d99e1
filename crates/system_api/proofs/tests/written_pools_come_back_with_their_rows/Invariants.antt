use Rattle.system_api.proofs.tests.written_pools_come_back_with_their_rows.Given as goal

abbrev pub ghosts-write_two : goal.ghosts-write_two
ghosts-write_two g a = record { name = a.blank.name; parts = a.blank.parts }
