-- A static field of the heap is one of a class that was made.
use Rattle.std.proofs.Common.{◌≡◌, ℕ, Bool, true, false, List, [], ◌∷◌, map, Some, refl, sym}
use Rattle.std.specs.Prelude.{None as Absent, ◌&&◌, slice_index_or, if◌then◌else◌}
use Rattle.wy_kernel.specs.Program.{Program, Field, field}
use Rattle.wy_value.specs.declared.value.Value.{Value}
use Rattle.wy_event.specs.declared.record.Slot.TheVariants.{Static}
use Rattle.wy_steps.specs.Steps.{owner_in}
use Rattle.wy_heap.specs.declared.heap.Heap.{Heap}
use Rattle.wy_heap.specs.Plan.{Plan, field_at, plan_of, planned, unplanned}
use Rattle.wy_heap.specs.Heap.{held, is_made, plan, static_place, value_at}

owner_of : (fs : List Field) (f : ℕ) (d : Field) → d.class ≡ 0 → (slice_index_or (map planned fs) f unplanned).class ≡ (slice_index_or fs f d).class
unfolding planned
owner_of [] f d is = sym is
owner_of (g ∷ fs) ℕ.zero d is = refl
owner_of (g ∷ fs) (ℕ.suc n) d is = owner_of fs n d is

pub planned_owner : (p : Program) (f : ℕ) → (field_at (plan_of p).fields f).class ≡ owner_in p f
unfolding plan_of owner_in field
planned_owner p f = owner_of p.fields f _ refl

chosen : (b c : Bool) (f : ℕ) (statics : List Value) (u : Value) → Some u ≡ value_at statics (if b && c then Some f else Absent) → c ≡ true
unfolding value_at
chosen b true f statics u is = refl
chosen true false f statics u is = cc
chosen false false f statics u is = cc

of_made : (p : Plan) (begun : List Bool) (statics : List Value) (f : ℕ) (u : Value) → Some u ≡ value_at statics (static_place p begun f) → slice_index_or begun (field_at p.fields f).class false ≡ true
unfolding static_place
of_made p begun statics f u is = chosen (field_at p.fields f).is_static _ f statics u is

pub static_is_made : (p : Program) (h : Heap) → plan h ≡ plan_of p → (f : ℕ) (u : Value) → Some u ≡ held h (Static f) → is_made h (owner_in p f) ≡ true
unfolding held is_made
static_is_made p h same f u is =
    let made = of_made (plan h) h.begun.items h.statics.items f u is in
    rw (← planned_owner p f) (rw (← same) made)
