use Rattle.std.proofs.Common.{◌≡◌, ℕ, ◌<◌, ◌≤◌, length}
use Rattle.std.specs.Option.{option_map_or}
use Rattle.entity_id.specs.Fields.{entity_in}
use Rattle.entity_id.specs.FiniteMap as entries
use Rattle.world_model.specs.Components.{value_at}
use Rattle.system_eval.specs.Stacks.{int_at}
use Rattle.system_eval.proofs.body.looking.at_each.Given as goal

abbrev pub invariant-loop-lane : goal.invariant-loop-lane
invariant-loop-lane l = record {
  long : length l.column ≡ 64;
  done : (k : ℕ) → k < l.lane → int_at l.column k ≡ option_map_or (λ row. value_at row l.field) (entries.get (entries.map_of l.storage.pairs) (entity_in l.profile (int_at l.initial.column k))) (int_at l.otherwise k);
  left : (k : ℕ) → l.lane ≤ k → int_at l.column k ≡ int_at l.initial.column k;
}
