use Rattle.registry_uses.proofs.tests.samples.Sample.puts.Given as goal

abbrev pub ghosts-put : goal.ghosts-put
ghosts-put g a = record { name = a.blank.name; parts = a.blank.parts }
