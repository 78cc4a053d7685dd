-- What holds of a field that is read behind another.
use Rattle.std.proofs.Common.{Err, Ok, Result}
use Rattle.std.specs.Prelude.{IfOk}
use Rattle.wy_payload.specs.Reading.{◌>>=◌}
use Rattle.wy_payload.specs.declared.fault.DamageRule.{DamageRule}

pub then_has : {A B : Type 0} (r : Result A DamageRule) (f : A → Result B DamageRule) (P : A → Type 0) (Q : B → Type 0) → IfOk r P → ((x : A) → P x → IfOk (f x) Q) → IfOk (r >>= f) Q
then_has (Ok x) f P Q h k = k x h
then_has (Err d) f P Q h k = tt
