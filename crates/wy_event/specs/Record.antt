-- A record of an event as contracts see it: a number that is NONE in memory is absent, and lists are without capacities.
use Rattle.std.specs.Prelude.{ℕ, Bool, false, ◌&&◌, nat_eq, List, Option}
use Rattle.wy_kernel.specs.View.{present}
use Rattle.wy_value.specs.declared.value.Value.{Value}
use Rattle.wy_event.specs.declared.record.Kind.{Kind}
use Rattle.wy_event.specs.declared.record.Slot.{Slot}
use Rattle.wy_event.specs.declared.record.Slot.TheVariants.{Local, Static, Field, Elem}
use Rattle.wy_event.specs.declared.record.Use.{Use}
use Rattle.wy_event.specs.declared.record.Event.{Event}

pub record Recorded : Type 0 where
  pub kind : Kind
  pub site : ℕ
  pub frame : Option ℕ
  pub control : Option ℕ
  pub entity : Option ℕ
  pub slot : Slot
  pub value : Value
  pub units : List ℕ
  pub uses : List Use

unfoldable pub recorded : Event → Recorded
recorded e = record {
  kind = e.kind;
  site = e.site;
  frame = present e.frame;
  control = present e.control;
  entity = present e.entity;
  slot = e.slot;
  value = e.value;
  units = e.units;
  uses = e.uses;
}

unfoldable pub same_slot : Slot → Slot → Bool
same_slot (Local f x) (Local g y) = nat_eq f g && nat_eq x y
same_slot (Static f) (Static g) = nat_eq f g
same_slot (Field o f) (Field q g) = nat_eq o q && nat_eq f g
same_slot (Elem a i) (Elem b j) = nat_eq a b && nat_eq i j
same_slot _ _ = false
