use Rattle.system_api.proofs.tests.a_system_is_run_on_two_pools.Given as goal

abbrev pub ghosts-part_two : goal.ghosts-part_two
ghosts-part_two g a = record { name = a.blank.name; parts = a.blank.parts }
