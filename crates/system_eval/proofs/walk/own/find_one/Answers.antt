use Rattle.std.proofs.Common.{◌+◌, Some, is_some, sym, ap, ◌∙◌}
use Rattle.system_api.specs.Batches.{entity_at, is_marked}
use Rattle.system_eval.specs.Finding.{has_lane, IsFrom}
use Rattle.system_eval.proofs.LaneLemmas.{and-same}
use Rattle.system_eval.proofs.PackedLemmas.{stands-there}
use Rattle.system_eval.proofs.walk.own.find_one.Goals as goal

pub returns-then-is_walked-clause-marks : goal.returns-then-is_walked-clause-marks
returns-then-is_walked-clause-marks c = λ lane low.
    let here : IsFrom c.args.from c.args.marks.now c.args.entities.now c.args.storage.now = c.requires.here c.if-is_walked.true in
    and-same (is_marked c.args.marks.now lane) (has_lane c.args.entities.now c.args.storage.now lane) (λ marked.
    ap is_some (stands-there c.args.storage.now.pairs (c.args.from + lane) (entity_at c.args.entities.now lane) c.find_here.ensures.once (here.within lane low marked) (sym (here.entities_are lane low marked))).1)

pub returns-then-is_walked-clause-places : goal.returns-then-is_walked-clause-places
returns-then-is_walked-clause-places c = λ lane low marked.
    let here : IsFrom c.args.from c.args.marks.now c.args.entities.now c.args.storage.now = c.requires.here c.if-is_walked.true in
    (stands-there c.args.storage.now.pairs (c.args.from + lane) (entity_at c.args.entities.now lane) c.find_here.ensures.once (here.within lane low marked) (sym (here.entities_are lane low marked))).0
    ∙ ap Some (sym (c.find_here.ensures.places lane low (here.within lane low marked)))

pub returns-then-is_walked-clause-rows : goal.returns-then-is_walked-clause-rows
returns-then-is_walked-clause-rows c = λ lane low marked.
    let here : IsFrom c.args.from c.args.marks.now c.args.entities.now c.args.storage.now = c.requires.here c.if-is_walked.true in
    (stands-there c.args.storage.now.pairs (c.args.from + lane) (entity_at c.args.entities.now lane) c.find_here.ensures.once (here.within lane low marked) (sym (here.entities_are lane low marked))).1
    ∙ ap Some (sym (c.find_here.ensures.rows lane low (here.within lane low marked)))
