use Rattle.std.proofs.Common.{◌≡◌, ◌++◌, ◌∷◌, codes, length, map, take}
use Rattle.std.specs.Fmt.{decimal}
use Rattle.std.specs.List.{flat_map}
use Rattle.world_model.specs.Contents.{keys_of}
use Rattle.world_model.specs.Groups.{members}
use Rattle.world_maker.proofs.summaries.push_members.Given as goal

abbrev pub invariant-loop-group : goal.invariant-loop-group
invariant-loop-group g l =
    l.text.items ≡ l.fn.text.items ++ (codes "members" ++ flat_map (λ number. 32 ∷ decimal number) (map (λ group. length (members (keys_of l.registry.world) group)) (take l.group l.registry.world.groups)))
