use Rattle.std.proofs.Common.{ℕ, ◌+◌, ◌<◌, rules, below_more, sym, false, IsTrue}
use Rattle.std.proofs.lemmas.Bool.{true≢false}
use Rattle.ready_board.specs.Sets.{Has, IsWithin, first_systems, preds_of}
use Rattle.ready_board.proofs.SetLemmas.{lower_within, within_lower}
use Rattle.ready_board.proofs.sets.are_lower.Goals as goal

pub returns-then-not-is_within : goal.returns-then-not-is_within
returns-then-not-is_within c =
    let preds = c.args.preds.now in
    let at = c.loop-system.system in
    let no : IsWithin (preds_of preds at) (first_systems at) → IsTrue false = search rules in
    ((λ is. absurd (true≢false (sym is))), λ lower. no (lower_within (preds_of preds at) at (λ earlier has. lower at earlier c.loop-system-test.true has)))

pub loop-system-preserved : goal.loop-system-preserved
loop-system-preserved c =
    let preds = c.args.preds.now in
    let at = c.loop-system.system in
    let within : IsWithin (preds_of preds at) (first_systems at) = search rules in
    let below : (system : ℕ) → system < at + 1 → (earlier : ℕ) → Has (preds_of preds system) earlier → earlier < system =
    below_more _ _ (λ system low earlier. c.loop-system.invariant system earlier low) (within_lower (preds_of preds at) at within) in
    λ system earlier low. below system low earlier
