use Rattle.std.proofs.Common.{length, reverse, [], ◌∷◌}
use Rattle.row_lang.proofs.StepLemmas.{IsHalf}
use Rattle.row_lang.proofs.taking.take_tokens.Given as goal

abbrev pub invariant-loop-place : goal.invariant-loop-place
invariant-loop-place l = IsHalf l.decls l.access (l.fn.first ∷ []) l.text l.tokens.items (reverse l.stack.items) l.rest

abbrev pub decreases-loop-place : goal.decreases-loop-place
decreases-loop-place l = length l.rest
