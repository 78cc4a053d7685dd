use Rattle.std.proofs.Common.{◌≡◌, ◌+◌, ◌≤◌, length, take, List}
use Rattle.std.specs.Prelude.{IfSome}
use Rattle.wy_event.specs.Record.{Recorded}
use Rattle.wy_view.specs.View.{Keeps}
use Rattle.wy_ask.specs.Held.{HasStored, HoldsBelow}
use Rattle.wy_ask.specs.Listing.{field_sets}
use Rattle.wy_ask.proofs.asking.stores_in.Given as goal

abbrev pub invariant-loop-n : goal.invariant-loop-n
invariant-loop-n g l =
    let told = g.V.EventView.tells in
    record {
      stored : (rs : List Recorded) × HasStored l.stores (field_sets rs) × (length rs ≡ l.n) × IfSome (told l.initial.view).records (λ t. rs ≡ take l.n t);
      below : HoldsBelow (told l.initial.view).count l.stores;
      within : l.n ≤ (told l.initial.view).count;
      keeps : Keeps (told l.initial.view) (told l.view);
      faults : (told l.view).faults ≡ (told l.initial.view).faults;
      steps : l.steps ≤ l.initial.steps + l.n;
    }
