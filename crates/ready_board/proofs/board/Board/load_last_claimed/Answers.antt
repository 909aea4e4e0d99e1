use Rattle.std.proofs.Common.{arith}
use Rattle.ready_board.proofs.LastLemmas.{loads_last}
use Rattle.ready_board.proofs.board.Board.load_last_claimed.Goals as goal

pub load-requires : goal.load-requires
load-requires c = (c.requires.seat.table, omega (arith, c.args.self.now.words), loads_last c.args.self.now.table.shared.key.items _ _ _ c.requires.first c.requires.last)
