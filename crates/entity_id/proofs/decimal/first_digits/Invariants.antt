use Rattle.std.proofs.Common.{◌≤◌, ◌-◌, length}
use Rattle.entity_id.specs.Texts.{BeginsWithDigits}
use Rattle.entity_id.proofs.decimal.first_digits.Given as goal

abbrev pub invariant-loop-digit : goal.invariant-loop-digit
invariant-loop-digit l = BeginsWithDigits l.front l.number l.at

abbrev pub decreases-loop-digit : goal.decreases-loop-digit
decreases-loop-digit l = length l.front - l.at
