-- What a look at a view finds: an answer that its records determine.
use Rattle.std.specs.Prelude.{◌≡◌, List, Some, IfOk, Result}
use Rattle.wy_event.specs.Record.{Recorded}
use Rattle.wy_view.specs.View.{Told, Keeps, KeepsCounts}
use Rattle.wy_view.specs.declared.view.ViewError.{ViewError}

-- a look that answers what a function gives of the told records, or is refused by the view
pub record Looks {X : Type 0} (result : Result X ViewError) (old new : Told) (answer : List Recorded → X) : Type 0 where
  pub keeps : Keeps old new
  pub counts : KeepsCounts result old new
  pub is : (rs : List Recorded) → old.records ≡ Some rs → IfOk result (λ x. x ≡ answer rs)
