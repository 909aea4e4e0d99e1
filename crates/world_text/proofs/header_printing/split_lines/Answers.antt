use Rattle.std.proofs.Common.{◌≡◌, List, ℕ, ◌∷◌, [], ◌++◌, ap, ◌∙◌}
use Rattle.world_text.proofs.HeaderTextLemmas.{more_lines, each_more}
use Rattle.world_text.proofs.header_printing.split_lines.Goals as goal

pub loop-line-preserved : goal.loop-line-preserved
loop-line-preserved c =
    let pushed : c.push.new.self.items ≡ c.loop-line.lines.items ++ c.in-Some.line.now ∷ [] = c.in_ok-push.ensures.items ∙ ap (λ (l : List ℕ). c.loop-line.lines.items ++ l ∷ []) (c.from_vec.ensures ∙ c.in_ok-from_slice.ensures.items) in
    rw pushed (record {
      whole = more_lines c.args.text.now c.loop-line.lines.items c.in-Some.line.now c.loop-line.rest.now c.in-Some.behind.now c.loop-line.invariant.whole c.in-Some.ensures;
      each = each_more c.loop-line.lines.items c.in-Some.line.now c.loop-line.invariant.each c.in-Some.ensures.first;
    })
