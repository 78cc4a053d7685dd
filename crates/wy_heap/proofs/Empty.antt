-- A heap in which nothing was made.
use Rattle.std.proofs.Common.{◌≡◌, ℕ, zero, suc, Bool, true, false, List, [], ◌∷◌, length, refl, sym, ap, ◌∙◌, arith, get_or, map, replicate}
use Rattle.std.specs.Prelude.{None as Absent, Some, Option, ◌&&◌, if◌then◌else◌}
use Rattle.std.proofs.lemmas.List.{length-map}
use Rattle.wy_kernel.specs.Program.{Program}
use Rattle.wy_value.specs.declared.value.Value.{Value}
use Rattle.wy_value.specs.declared.value.Value.TheVariants.{Null}
use Rattle.wy_event.specs.declared.record.Slot.{Slot}
use Rattle.wy_event.specs.declared.record.Slot.TheVariants as slot
use Rattle.wy_heap.specs.declared.block.Block.{Block}
use Rattle.wy_heap.specs.declared.block.Block.TheVariants.{Nothing}
use Rattle.wy_heap.specs.declared.layout.Row.{Row}
use Rattle.wy_heap.specs.declared.plan.FieldPlan.{FieldPlan}
use Rattle.wy_heap.specs.declared.heap.Heap.{Heap}
use Rattle.wy_heap.specs.Plan.{Plan, plan_of, first_of, field_at}
use Rattle.wy_heap.specs.Block.{AreApart, AreFirst, Covers, block_at, begin_of, length_of}
use Rattle.wy_heap.specs.Heap.{plan, held, code, code_in, size, size_in, text, text_in, is_made, element_count, unit_count, static_place, field_place, element_place, value_at}
use Rattle.wy_heap.specs.Changes.{IsNew}

nothing_begun : (n c : ℕ) → get_or (replicate n false) c false ≡ false
nothing_begun zero c = refl
nothing_begun (suc n) zero = refl
nothing_begun (suc n) (suc c) = nothing_begun n c

pub none_apart : (p : Plan) (rows : List (Option Row)) (blocks : List Block) (values units : ℕ) → blocks ≡ [] → AreApart p rows blocks values units
unfolding begin_of length_of
none_apart p rows blocks values units e = record {
  inside = λ n q c. absurd (never n q c);
  apart = λ m n q c d. absurd (never m q c);
  known = λ n c b l is. let no = sym (none n) ∙ is in absurd (cc no);
  lengths = λ n c b l is. let no = sym (none n) ∙ is in absurd (cc no);
  codes = λ n c b l is. let no = sym (none n) ∙ is in absurd (cc no);
  texts = λ n b l is. let no = sym (none n) ∙ is in absurd (cc no);
}
  where
    none : (n : ℕ) → block_at blocks n ≡ Nothing
    none n = ap (λ bs. block_at bs n) e

    never : (n q : ℕ) → Covers (block_at blocks n) q → ⊥
    never n q c = omega (arith, c.below, ap length_of (none n), ap begin_of (none n))

firsts_at : (fields : List FieldPlan) (f : ℕ) → get_or (map (λ (d : FieldPlan). d.first) fields) f Null ≡ (field_at fields f).first
firsts_at [] f = refl
firsts_at (d ∷ fields) zero = refl
firsts_at (d ∷ fields) (suc f) = firsts_at fields f

pub all_first : (p : Plan) (begun : List Bool) (statics : List Value) → statics ≡ map (λ (d : FieldPlan). d.first) p.fields → AreFirst p begun statics
unfolding first_of
all_first p begun statics e = record {
  a_value_a_field = ap length e ∙ length-map p.fields (λ (d : FieldPlan). d.first);
  each = λ f not_begun. ap (λ vs. get_or vs f Null) e ∙ firsts_at p.fields f;
}

pub is_new : (p : Program) (h : Heap) (n : ℕ) → plan h ≡ plan_of p → h.begun.items ≡ replicate n false → h.blocks.items ≡ [] → h.units.items ≡ [] → h.elements ≡ 0 → IsNew p h
unfolding held code code_in size size_in text text_in is_made element_count unit_count static_place field_place element_place value_at
is_new p h n same begun blocks units elements = record {
  same_plan = same;
  slots = slots;
  codes = λ m. ap code_in (none m);
  sizes = λ m. ap size_in (none m);
  texts = λ m. ap (text_in h.units.items) (none m);
  classes = not_made;
  elements = elements;
  units = ap length units;
}
  where
    none : (m : ℕ) → block_at h.blocks.items m ≡ Nothing
    none m = ap (λ bs. block_at bs m) blocks

    not_made : (c : ℕ) → get_or h.begun.items c false ≡ false
    not_made c = ap (λ bs. get_or bs c false) begun ∙ nothing_begun n c

    not_both : (f : ℕ) (a b : Bool) → b ≡ false → value_at h.statics.items (if a && b then Some f else Absent) ≡ Absent
    not_both f true b e = ap (λ x. value_at h.statics.items (if x then Some f else Absent)) e
    not_both f false b e = refl

    slots : (x : Slot) → held h x ≡ Absent
    slots slot.None = refl
    slots (slot.Local g i) = refl
    slots (slot.Static f) = not_both f (field_at (plan h).fields f).is_static (get_or h.begun.items (field_at (plan h).fields f).class false) (not_made (field_at (plan h).fields f).class)
    slots (slot.Field o f) = ap (λ b. value_at h.values.items (field_place (plan h) b f)) (none o)
    slots (slot.Elem a i) = ap (λ b. value_at h.values.items (element_place b i)) (none a)
