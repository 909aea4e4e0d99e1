use Rattle.std.proofs.Common.{◌≡◌, ◌≤◌, ◌<◌, ◌+◌, ◌++◌, suc, ℕ, List, drop, length, sym, ap, subst, ◌∙◌, append_assoc, arith}
use Rattle.std.proofs.lemmas.List.{append-nil}
use Rattle.std.proofs.lemmas.Bool.Decides.{nat_tests}
use Rattle.entity_id.specs.Identifiers.{p20_12}
use Rattle.world_text.specs.Playing.{standing_lines}
use Rattle.world_top.specs.Watched.{AreWatched, left_upto, told_at}
use Rattle.world_top.proofs.LastWatches.{told_still, standing_next, none_left}
use Rattle.world_top.proofs.watching.tell_standing.Goals as goal

pub loop-at-preserved : goal.loop-at-preserved
loop-at-preserved c =
    let inv = c.loop-at.invariant in
    let at = c.loop-at.at in
    let decls = c.args.decls.now in
    let next : suc at ≡ at + 1 = omega arith in
    record {
      watched = λ its h. subst (λ (n : ℕ). AreWatched c.tell_one.new.registry c.tell_one.new.watches.items (left_upto n its)) next (c.in_ok-tell_one.ensures.watched (left_upto at its) (inv.watched its h));
      told = λ its h.
          let rest = standing_lines p20_12 decls (at + 1) (drop (at + 1) its) in
          let low : at < length its = grind (arith, nat_tests, h.counted, inv.length, c.loop-at-test.true, c.len.ensures, c.loop-at.watches.ok.0) in
          ap (λ (out : List ℕ). out ++ rest) (c.in_ok-tell_one.ensures.told (left_upto at its) (inv.watched its h) ∙ ap (λ (told : List ℕ). c.loop-at.out.items ++ told) (told_still p20_12 decls its at))
          ∙ append_assoc c.loop-at.out.items (told_at p20_12 decls at its) rest
          ∙ ap (λ (x : List ℕ). c.loop-at.out.items ++ x) (sym (standing_next p20_12 decls its at low)) ∙ inv.told its h;
      world = c.in_ok-tell_one.ensures.world ∙ inv.world;
      length = c.in_ok-tell_one.ensures.length ∙ inv.length;
    }

pub returns-clause-told : goal.returns-clause-told
returns-clause-told c = λ its h.
    let inv = c.loop-at.invariant in
    let at = c.loop-at.at in
    let decls = c.args.decls.now in
    let past : length its ≤ at = grind (arith, nat_tests, h.counted, inv.length, c.loop-at-test.false, c.len.ensures, c.loop-at.watches.ok.0) in
    sym (append-nil c.loop-at.out.items) ∙ ap (λ (x : List ℕ). c.loop-at.out.items ++ x) (sym (none_left p20_12 decls its at past)) ∙ inv.told its h
    ∙ (λ i. c.args.out.now.items ++ standing_lines (sym c.requires.profile i) (sym c.requires.decls i) 0 its)
