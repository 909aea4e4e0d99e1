use Rattle.std.proofs.Common.{◌≡◌, map, take}
use Rattle.world_top.specs.Words.{options_apart}
use Rattle.world_top.proofs.options.words_apart.Given as goal

abbrev pub invariant-loop-option : goal.invariant-loop-option
invariant-loop-option l = map (λ word. word.now) l.words.items ≡ options_apart (take l.option-index l.options)
