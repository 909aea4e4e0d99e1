use Rattle.access_graph.proofs.OrderLemmas.{wave_above, wave_apart}
use Rattle.access_graph.proofs.laws.waves_rise.Goals as goal

pub returns-clause-above : goal.returns-clause-above
returns-clause-above c = wave_above

pub returns-clause-apart : goal.returns-clause-apart
returns-clause-apart c = wave_apart
