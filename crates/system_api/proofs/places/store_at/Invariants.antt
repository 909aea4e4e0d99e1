use Rattle.system_api.proofs.SettingLemmas.{IsSetBefore}
use Rattle.system_api.proofs.places.store_at.Given as goal

abbrev pub invariant-loop-lane : goal.invariant-loop-lane
invariant-loop-lane l = IsSetBefore l.lane l.marks l.places l.column l.initial.rows l.rows
