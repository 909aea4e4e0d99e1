use Rattle.std.proofs.Common.{Err, ap}
use Rattle.world_text.proofs.scripts.next_line.Goals as goal

pub returns-in-Err-Bad : goal.returns-in-Err-Bad
returns-in-Err-Bad c = c.in-Err-Bad.ensures.bad (ap Err c.in-Err-Bad.field-0-is)
