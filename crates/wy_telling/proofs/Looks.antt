-- What one record of the told ones says.
use Rattle.std.proofs.Common.{◌≡◌, ◌≤◌, ℕ, List, Option, Some, subst, arith}
use Rattle.std.specs.Prelude.{IfSome, slice_get}
use Rattle.wy_event.specs.Record.{Recorded}
use Rattle.wy_value.specs.declared.value.Value.{Value}
use Rattle.wy_value.specs.declared.value.Value.TheVariants.{Object, Text}
use Rattle.wy_view.specs.References.{ValueBelow}

pub told_record : (told : Option (List Recorded)) (rs : List Recorded) (n : ℕ) (e : Recorded) → told ≡ Some rs → IfSome told (λ all. slice_get all n ≡ Some e) → slice_get rs n ≡ Some e
told_record told rs n e is at = subst (λ o. IfSome o (λ all. slice_get all n ≡ Some e)) is at

pub value_up : (m n : ℕ) (v : Value) → m ≤ n → ValueBelow m v → ValueBelow n v
value_up m n (Object k) le h = omega (arith, le, h)
value_up m n (Text k) le h = omega (arith, le, h)
value_up m n _ le h = tt
