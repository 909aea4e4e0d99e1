use Rattle.registry_uses.proofs.tests.samples.Sample.clears.Given as goal

abbrev pub ghosts-clear : goal.ghosts-clear
ghosts-clear g a = record { name = a.blank.name; parts = a.blank.parts }
