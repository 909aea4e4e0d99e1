use Rattle.std.proofs.Common.{arith}
use Rattle.ready_board.proofs.DoneLemmas.{finishes}
use Rattle.ready_board.proofs.board.Board.finish_one.Goals as goal

pub fetch_or-requires : goal.fetch_or-requires
fetch_or-requires c = (
  c.requires.seat.table,
  omega (arith, c.args.self.now.words),
  finishes c.args.self.now.table.shared.key.items _ _ _ c.args.system _ c.bit_of-bit.ensures c.requires.awake c.requires.mine,
)
