-- A plan that is taken from a program in memory.
use Rattle.std.proofs.Common.{◌≡◌, ℕ, List, [], ◌∷◌, map, refl, ap, ◌∙◌}
use Rattle.std.specs.Prelude.{Option}
use Rattle.wy_kernel.specs.declared.types.Class.{Class}
use Rattle.wy_kernel.specs.declared.types.Field.{Field}
use Rattle.wy_kernel.specs.declared.program.Program.{Program}
use Rattle.wy_kernel.specs.View.{class_of, field_of, present}
use Rattle.wy_kernel.specs.Parts.{program_of}
use Rattle.wy_heap.specs.declared.plan.FieldPlan.{FieldPlan}
use Rattle.wy_heap.specs.Plan.{plan_of, planned}
use Rattle.wy_heap.specs.Layout.{plan_with}

fields_planned : (fs : List Field) → map (λ f. planned (field_of f)) fs ≡ map planned (map field_of fs)
fields_planned [] = refl
fields_planned (f ∷ fs) = ap (λ xs. planned (field_of f) ∷ xs) (fields_planned fs)

above_planned : (cs : List Class) → map present (map (λ (c : Class). c.above) cs) ≡ map (λ c. c.above) (map class_of cs)
unfolding present
above_planned [] = refl
above_planned (c ∷ cs) = ap (λ xs. present c.above ∷ xs) (above_planned cs)

pub planned_with : (p : Program) (fields : List FieldPlan) (above : List ℕ) → fields ≡ map (λ f. planned (field_of f)) p.fields.items → above ≡ map (λ (c : Class). c.above) p.classes.items → plan_with fields above ≡ plan_of (program_of p)
unfolding plan_of
planned_with p fields above e f =
    ap (λ fs. plan_with fs above) (e ∙ fields_planned p.fields.items)
    ∙ ap (λ (xs : List (Option ℕ)). record { fields = map planned (map field_of p.fields.items); above = xs }) (ap (map present) f ∙ above_planned p.classes.items)
