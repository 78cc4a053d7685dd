-- A write: the slot has the value, and every other slot what it had.
use Rattle.std.proofs.Common.{◌≡◌, ℕ, true, false, length, refl, ap, ◌∙◌, set, arith}
use Rattle.std.specs.Prelude.{None as Absent, Some, Option, slice_get}
use Rattle.std.specs.declared.vec.Vec.{Vec}
use Rattle.std.specs.declared.alloc.Global.{Global}
use Rattle.wy_value.specs.declared.value.Value.{Value}
use Rattle.wy_event.specs.declared.record.Slot.{Slot}
use Rattle.wy_event.specs.declared.record.Slot.TheVariants as slot
use Rattle.wy_event.specs.Record.{same_slot}
use Rattle.wy_heap.specs.declared.heap.Heap.{Heap}
use Rattle.wy_heap.specs.Layout.{plan_with}
use Rattle.wy_heap.specs.Block.{AreApart, AreFirst}
use Rattle.wy_heap.specs.Heap.{plan, held, code, size, text, is_made, element_count, unit_count, value_at}
use Rattle.wy_heap.specs.Changes.{Writes}
use Rattle.wy_heap.proofs.Slots.{get-set_same, get-set_other, place_in, place-inside, same_place}

module _ (h : Heap) (vs : Vec Value Global) (apart : AreApart (plan_with h.layouts.fields.items h.layouts.above.items) h.layouts.rows.items h.blocks.items (length vs.items) (length h.units.items)) (first : AreFirst (plan_with h.layouts.fields.items h.layouts.above.items) h.begun.items h.statics.items) where
  -- with other values
  abbrev pub with_values : Heap
  with_values = record { layouts = h.layouts; begun = h.begun; statics = h.statics; blocks = h.blocks; values = vs; units = h.units; elements = h.elements; is_apart = apart; is_first = first }

  value-other : (v : Value) (place : ℕ) (o : Option ℕ) → (o ≡ Some place → ⊥) → value_at (set h.values.items place v) o ≡ value_at h.values.items o
  unfolding value_at
  value-other v place Absent other = refl
  value-other v place (Some q) other = get-set_other h.values.items place q v (λ e. other (ap Some e))

  pub writes-value : (x : Slot) (v : Value) (place : ℕ) → place_in h x ≡ Some place → vs.items ≡ set h.values.items place v → Writes x v h with_values
  unfolding held plan code size text is_made element_count unit_count place_in value_at
  writes-value x v place at is = record {
    same_plan = refl;
    written = there x at;
    others = others;
    codes = λ n. refl;
    sizes = λ n. refl;
    texts = λ n. refl;
    classes = λ c. refl;
    elements = refl;
    units = refl;
  }
    where
      found : (o : Option ℕ) → o ≡ Some place → value_at vs.items o ≡ Some v
      found o e = ap (λ q. value_at vs.items q) e ∙ ap (λ ws. slice_get ws place) is ∙ get-set_same h.values.items place v (place-inside h x place at)

      there : (y : Slot) → place_in h y ≡ Some place → held with_values y ≡ Some v
      there slot.None e = absurd (grind arith)
      there (slot.Local g i) e = absurd (grind arith)
      there (slot.Static f) e = absurd (grind arith)
      there (slot.Field o f) e = found _ e
      there (slot.Elem a i) e = found _ e

      other_at : (y : Slot) → same_slot y x ≡ false → place_in h y ≡ Some place → ⊥
      other_at y other e = let same : same_slot y x ≡ true = same_place h x y place at e in cc

      others : (y : Slot) → same_slot y x ≡ false → held with_values y ≡ held h y
      others slot.None other = refl
      others (slot.Local g i) other = refl
      others (slot.Static f) other = refl
      others (slot.Field o f) other = ap (λ ws. value_at ws (place_in h (slot.Field o f))) is ∙ value-other v place (place_in h (slot.Field o f)) (other_at (slot.Field o f) other)
      others (slot.Elem a i) other = ap (λ ws. value_at ws (place_in h (slot.Elem a i))) is ∙ value-other v place (place_in h (slot.Elem a i)) (other_at (slot.Elem a i) other)
