use Rattle.registry.proofs.DoneLemmas.{stayed, slots_stayed}
use Rattle.registry.proofs.parts.reserving.reserve_slots.Goals as goal

pub returns-in_err-reserve-clause-same : goal.returns-in_err-reserve-clause-same
returns-in_err-reserve-clause-same g c = (stayed c.args.parts.now _ c.requires.consistent (slots_stayed c.args.parts.now c.reserve.new.self c.requires.consistent c.reserve.ensures.lists)).1

pub returns-clause-same : goal.returns-clause-same
returns-clause-same g c = (stayed c.args.parts.now _ c.requires.consistent (slots_stayed c.args.parts.now c.reserve.new.self c.requires.consistent c.reserve.ensures.lists)).1
