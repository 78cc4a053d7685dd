-- What a heap takes from a program is what the program says.
use Rattle.std.proofs.Common.{◌≡◌, ℕ, zero, suc, List, [], ◌∷◌, map, refl, ap, false}
use Rattle.std.specs.Prelude.{slice_index_or}
use Rattle.wy_kernel.specs.Program.{Program, Field, field}
use Rattle.wy_kernel.specs.declared.types.Ty.TheVariants.{Void}
use Rattle.wy_steps.specs.Steps.{default_value, owner_in}
use Rattle.wy_heap.specs.Plan.{planned, plan_of, first_of, field_at}

-- a field that no program has
abbrev no_field : Field
no_field = record { name = []; site = 0; class = 0; ty = Void; is_static = false; is_final = false; is_fixed = false; is_private = false }

planned_at : (fs : List Field) (f : ℕ) → field_at (map planned fs) f ≡ planned (slice_index_or fs f no_field)
unfolding planned default_value
planned_at [] f = refl
planned_at (x ∷ fs) zero = refl
planned_at (x ∷ fs) (suc f) = planned_at fs f

-- the first value of a field is the default of its type
pub first-is_default : (p : Program) (f : ℕ) → first_of (plan_of p) f ≡ default_value (field p f).ty
unfolding first_of plan_of planned field
first-is_default p f = ap (λ d. d.first) (planned_at p.fields f)

-- the class of a field is its owner
pub class-is_owner : (p : Program) (f : ℕ) → (field_at (plan_of p).fields f).class ≡ owner_in p f
unfolding plan_of planned owner_in field
class-is_owner p f = ap (λ d. d.class) (planned_at p.fields f)
