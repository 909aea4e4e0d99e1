use Rattle.group_engine.proofs.tests.members_come_and_go_with_rows.Given as goal

abbrev pub ghosts-change_in : goal.ghosts-change_in
ghosts-change_in g a = record { name = a.blank.name; parts = a.blank.parts }
