use Rattle.registry_uses.proofs.tests.samples.Sample.destroys.Given as goal

abbrev pub ghosts-destroy : goal.ghosts-destroy
ghosts-destroy g a = record { name = a.blank.name; parts = a.blank.parts }
