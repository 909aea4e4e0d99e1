use Rattle.std.proofs.Common.{◌≡◌, ◌++◌, ◌∷◌, take}
use Rattle.std.specs.List.{flat_map}
use Rattle.entity_id.specs.Texts.{entity_text}
use Rattle.world_text.specs.Formats.{version_1}
use Rattle.world_text.proofs.replies.push_words_of_list.Given as goal

abbrev pub invariant-loop-entity : goal.invariant-loop-entity
invariant-loop-entity l = l.out.items ≡ l.fn.out.items ++ (l.word ++ flat_map (λ entity. 32 ∷ entity_text version_1.profile entity) (take l.entity-index l.entities))
