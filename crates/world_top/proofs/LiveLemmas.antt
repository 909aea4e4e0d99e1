-- What holds where nothing was refused.
use Rattle.std.proofs.Common.{OnOk, IfOk, Ok, Err}
use Rattle.std.specs.Prelude.{Result}

pub map_ok : {A E P Q : Type 0} (r : Result A E) → (P → Q) → OnOk r P → OnOk r Q
map_ok (Ok x) f p = f p
map_ok (Err x) f p = tt

pub map_if : {A E : Type 0} {P Q : A → Type 0} (r : Result A E) → ((x : A) → P x → Q x) → IfOk r P → IfOk r Q
map_if (Ok x) f p = f x p
map_if (Err x) f p = tt

pub if_ok : {A E P : Type 0} (r : Result A E) → P → OnOk r P
if_ok (Ok x) p = p
if_ok (Err x) p = tt
