use Rattle.std.proofs.Common.{sym, subst, length-take, arith, rules}
use Rattle.std.specs.Io.KnownBytes.{Consumes}
use Rattle.std.proofs.KnownBytes.{Consumes-trans}
use Rattle.ecs_io.proofs.Cuts.{loses_more}
use Rattle.ecs_io.proofs.whole.read_in_pieces.Goals as goal

pub loop-out-preserved : goal.loop-out-preserved
loop-out-preserved g c =
    let piece = c.in_ok-count.ensures.bytes in
    record {
      within = search rules;
      buffer = search rules;
      taken = subst (Consumes _ _) (sym piece.2) (Consumes-trans _ _ _ _ _ c.loop-out.invariant.taken piece.1);
      later = search rules;
    }

pub returns-in_err-count-clause-taken : goal.returns-in_err-count-clause-taken
returns-in_err-count-clause-taken g c =
    loses_more _ _ _ _ _ _ c.loop-out.invariant.taken c.append_piece.ensures.taken (simp length-take (omega arith))
