use Rattle.std.proofs.Common.{◌≡◌, ℕ, ◌<◌, ◌≤◌, length, drop}
use Rattle.world_model.specs.Frames.{own_pools}
use Rattle.row_lang.specs.Values.{operands_of}
use Rattle.system_api.specs.Batches.{lanes}
use Rattle.system_eval.specs.Lanes.{own_at, setting_at}
use Rattle.system_eval.specs.Stacks.{operands_at}
use Rattle.system_eval.proofs.body.values.read_tokens.Given as goal

abbrev pub invariant-loop-place : goal.invariant-loop-place
invariant-loop-place l = record {
  within : l.place ≤ length l.tokens;
  given : (lane : ℕ) → lane < lanes → operands_at l.stack lane ≡ operands_of (setting_at l.scene lane) (own_at (own_pools l.scene.access) l.columns lane) (drop l.place l.tokens);
}

abbrev pub decreases-loop-place : goal.decreases-loop-place
decreases-loop-place l = l.place
