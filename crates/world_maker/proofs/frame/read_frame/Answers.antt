use Rattle.std.proofs.Common.{subst}
use Rattle.world_text.specs.Formats.{version_1}
use Rattle.world_text.specs.Refusals.{IsCause}
use Rattle.world_text.proofs.LawfulLemmas.{version_1_is_format}
use Rattle.world_text.proofs.UniqueLemmas.{no_bad_line}
use Rattle.world_maker.specs.declared.frame.TheConstants.{FRAME}
use Rattle.world_maker.proofs.FrameLemmas.{frame_is_document}
use Rattle.world_maker.proofs.FrameValue.{frame}
use Rattle.world_maker.proofs.frame.read_frame.Goals as goal

pub unreachable-requires : goal.unreachable-requires
unreachable-requires c =
    let bad = subst (IsCause FRAME.now) c.in-Err-BadLine.field-0-is c.in-Err-BadLine.ensures.cause in
    no_bad_line version_1 version_1_is_format FRAME.now frame c.in-Err-BadLine.field-0-0 frame_is_document bad
