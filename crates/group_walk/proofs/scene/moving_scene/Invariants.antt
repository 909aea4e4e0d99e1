use Rattle.group_walk.proofs.scene.moving_scene.Given as goal

abbrev pub ghosts-moving_scene_counted : goal.ghosts-moving_scene_counted
ghosts-moving_scene_counted a = record { name = a.blank.name; parts = a.blank.parts }
