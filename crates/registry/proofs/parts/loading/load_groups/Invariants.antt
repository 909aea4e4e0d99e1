use Rattle.registry.proofs.parts.loading.load_groups.Given as goal

abbrev pub ghosts-load_groups_counted : goal.ghosts-load_groups_counted
ghosts-load_groups_counted a = record { name = a.blank.name; parts = a.blank.parts }
