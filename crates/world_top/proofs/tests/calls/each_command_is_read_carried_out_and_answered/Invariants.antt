use Rattle.world_top.proofs.tests.calls.each_command_is_read_carried_out_and_answered.Given as goal

abbrev pub ghosts-answers : goal.ghosts-answers
ghosts-answers g a = record { name = a.blank.name; parts = a.blank.parts }
