use Rattle.std.proofs.Common.{◌≡◌, ℕ, ◌+◌, ◌-◌, ◌≤◌, ◌^◌, min, List, ◌++◌, take, length, ap₂, ◌∙◌, arith}
use Rattle.std.proofs.lemmas.Grind.{common_steps}
use Rattle.ecs_io.proofs.Cuts.{kept_front}
use Rattle.ecs_io.specs.Quiet.{Keep}
use Rattle.ecs_io.proofs.quiet_sink.QuietSinkSink.write.Goals as goal

pub returns-clause-taken : goal.returns-clause-taken
returns-clause-taken c =
    let kept : List ℕ = c.self.inside.bytes.items in
    let bytes : List ℕ = c.args.bytes.now in
    let room : ℕ = c.self.inside.room in
    let within : length kept ≤ room = omega arith in
    let count : c.min-count.result ≡ min (length bytes) (room - length kept) = omega arith in
    let grown : c.extend_from_slice.new.self.items ≡ kept ++ take c.min-count.result bytes = grind (arith, common_steps) in
    let written : c.saturating_add-self-inside.result ≡ min (c.self.inside.written + length bytes) (2 ^ 64 - 1) = omega arith in
    rw (← c.self.view_is) (ap₂ {C = Keep} (λ k n. record { kept = k; room = room; written = n }) (grown ∙ kept_front room _ kept bytes within count) written)
