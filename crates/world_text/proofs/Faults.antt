-- Answers of readers that may refuse.
use Rattle.std.proofs.Common.{◌≡◌, Option, Some, None, Result, Ok, Err, subst, sym}
use Rattle.std.specs.Prelude.{IfOk, IfSome, IfNone, IsErrOf}
use Rattle.std.specs.Option.{ok_or}
use Rattle.row_lang.specs.declared.fault.LineFault.{LineFault}
use Rattle.row_lang.specs.declared.fault.LineFault.TheVariants.{Bad}

-- what holds of every answer holds of this one
pub if_ok : {T E : Type 0} {P Q : T → Type 0} (r : Result T E) → IfOk r P → ((x : T) → P x → Q x) → IfOk r Q
if_ok (Ok x) h f = f x h
if_ok (Err e) h f = tt

-- what was found, and `Bad` where nothing was
pub found_ok : {T : Type 0} (P Q : T → Type 0) (o : Option T) (r : Result T LineFault) → r ≡ ok_or o Bad → IfSome o P → ((x : T) → P x → Q x) → IfOk r Q
found_ok {T = T} P Q (Some x) r e h f = subst (λ (r : Result T LineFault). IfOk r Q) (sym e) (f x h)
found_ok {T = T} P Q None r e h f = subst (λ (r : Result T LineFault). IfOk r Q) (sym e) tt

pub none_bad : {T : Type 0} (Q : Type 0) (o : Option T) (r : Result T LineFault) → r ≡ ok_or o Bad → IfNone o Q → IsErrOf r Bad → Q
none_bad Q None r e h bad = h
none_bad Q (Some x) r e h bad = absurd cc
