use Rattle.std.proofs.Common.{◌++◌, take, sym, ap, subst, ◌∙◌, append_assoc, rules}
use Rattle.std.proofs.lemmas.List.{take_rest}
use Rattle.ecs_io.proofs.Cuts.{take_piece}
use Rattle.ecs_io.proofs.whole.write_all.Goals as goal

pub loop-at-preserved : goal.loop-at-preserved
loop-at-preserved g c =
    let bytes = c.args.bytes.now in
    let at = c.loop-at.at in
    let n = c.in_ok-at.field-0 in
    let front = ap (λ x. take at bytes ++ take n x) (take_rest bytes at) ∙ sym (take_piece bytes at n) in
    record {
      within = search rules;
      written = λ held h.
          subst (g.K.Sink.holds c.write.new.self)
          (append_assoc held _ _ ∙ ap (λ x. held ++ x) front)
          (c.in_ok-at.ensures.bytes _ (c.loop-at.invariant.written held h));
      later = search rules;
    }
