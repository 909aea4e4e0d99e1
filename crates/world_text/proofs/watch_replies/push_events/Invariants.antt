use Rattle.std.proofs.Common.{◌≡◌, ◌++◌, take}
use Rattle.std.specs.List.{flat_map}
use Rattle.world_text.specs.Formats.{version_1}
use Rattle.world_text.specs.Replies.{heard_line}
use Rattle.world_text.proofs.watch_replies.push_events.Given as goal

abbrev pub invariant-loop-entity : goal.invariant-loop-entity
invariant-loop-entity l = l.out.items ≡ l.fn.out.items ++ flat_map (heard_line version_1.profile l.number l.kind l.name) (take l.entity-index l.heard)
