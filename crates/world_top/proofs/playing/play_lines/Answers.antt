use Rattle.std.proofs.Common.{Err, ap, arith}
use Rattle.world_text.proofs.BegunLemmas.{line_shortens}
use Rattle.entity_id.specs.Identifiers.{p20_12}
use Rattle.world_top.proofs.ProgressLemmas.{played-push, played_keeps}
use Rattle.world_top.proofs.playing.play_lines.Goals as goal

pub play_line-played-requires-clause-decls : goal.play_line-played-requires-clause-decls
play_line-played-requires-clause-decls g c =
    (played_keeps _ _ _ _ _ _ _ _ _ c.loop-line.invariant.played c.requires.decls c.requires.profile).decls_are

pub play_line-played-requires-clause-profile : goal.play_line-played-requires-clause-profile
play_line-played-requires-clause-profile g c =
    (played_keeps _ _ _ _ _ _ _ _ _ c.loop-line.invariant.played c.requires.decls c.requires.profile).profile_is

pub loop-line-preserved : goal.loop-line-preserved
loop-line-preserved g c =
    let inv = c.loop-line.invariant in
    let first = c.in-Ok.ensures.ok in
    record {
      played = played-push _ _ _ _ _ _ _ _ _ _ _ _ _ _ inv.played first c.in_default-played.ensures;
      within = omega (arith, inv.within, line_shortens p20_12 c.args.decls.now c.loop-line.rest.now c.in-Ok.line c.in-Ok.after.now first);
    }

pub returns-in-Err-Bad-clause-no_line : goal.returns-in-Err-Bad-clause-no_line
returns-in-Err-Bad-clause-no_line g c = c.in-Err-Bad.ensures.bad (ap Err c.in-Err-Bad.field-0-is)
