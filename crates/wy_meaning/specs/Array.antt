-- Arrays (JLS 10.6, 15.10.1, 15.10.2).
use Rattle.std.specs.Prelude.{ℕ, zero, suc, pos, negsuc, Bool, true, false, ◌||◌, List, [], ◌∷◌, length}
use Rattle.wy_kernel.specs.declared.types.Ty.{Ty}
use Rattle.wy_kernel.specs.Program.{type_code, element_type}
use Rattle.wy_value.specs.declared.value.Value.{Value}
use Rattle.wy_value.specs.declared.value.Value.TheVariants.{None as Nothing, Int, Object}
use Rattle.wy_event.specs.declared.record.Kind.TheVariants as kind
use Rattle.wy_event.specs.declared.record.Slot.TheVariants.{Elem}
use Rattle.wy_steps.specs.Sets.{Sets}
use Rattle.wy_steps.specs.State.{Carried, Run, ◌>>=◌, ◌>>◌, return, choose}
use Rattle.wy_steps.specs.Steps.{Made, constant, joined, joined_all, value_of, note_new, note_write, take_elements}
use Rattle.wy_meaning.specs.World.{World, about, into, fail, negative_size, natural_of, all_of}

-- an array of a type with so many elements, of its dimension
unfoldable pub make_array : {A : Sets} → World A → ℕ → Ty → ℕ → Carried A → Run A (Made A)
make_array w site ty n dimension = do
  take_elements n
  note_new w.program (about kind.New site (type_code ty) (Int (pos n))) dimension

-- for n indices from i
unfoldable pub for_each : {A : Sets} → ℕ → ℕ → (ℕ → Run A Unit) → Run A Unit
for_each i zero f = return tt
for_each i (suc n) f = do
  f i
  for_each (suc i) n f

-- the elements of an array of arrays: each subarray is made, stored, and filled in the same way
unfoldable pub subarrays : {A : Sets} → World A → ℕ → Ty → List (Carried A) → ℕ → ℕ → Run A Unit
subarrays w site ty [] parent n = return tt
subarrays w site ty (d ∷ ds) parent n = for_each 0 n (λ i. do
  sub ← make_array w site ty (natural_of d.value) d
  e ← note_write (into kind.Set site (Elem parent i) (Object sub.number)) (value_of sub (Object sub.number))
  subarrays w site (element_type ty) ds sub.number (natural_of d.value))

unfoldable pub is_negative : Value → Bool
is_negative (Int (negsuc n)) = true
is_negative _ = false

unfoldable pub any_negative : {A : Sets} → List (Carried A) → Bool
any_negative [] = false
any_negative (d ∷ ds) = is_negative d.value || any_negative ds

unfoldable pub make_arrays : {A : Sets} → World A → ℕ → Ty → List (Carried A) → Run A (Carried A)
make_arrays w site ty [] = return (constant Nothing)
make_arrays w site ty (d ∷ ds) = do
  e ← make_array w site ty (natural_of d.value) d
  subarrays w site (element_type ty) ds e.number (natural_of d.value)
  return (value_of e (Object e.number))

-- all dimensions are evaluated, and then none may be negative
unfoldable pub create_array : {A : Sets} → World A → Ty → List (Run A (Carried A)) → ℕ → Run A (Carried A)
create_array w ty dims site = do
  ds ← all_of dims
  choose (any_negative ds) (fail w negative_size site (joined_all ds)) (make_arrays w site ty ds)

unfoldable pub first_site : List ℕ → ℕ
first_site [] = 0
first_site (site ∷ rest) = site

unfoldable pub rest_sites : List ℕ → List ℕ
rest_sites [] = []
rest_sites (site ∷ rest) = rest

-- each element is evaluated and set, from index i
unfoldable pub set_elements : {A : Sets} → Made A → ℕ → List ℕ → List (Run A (Carried A)) → Run A Unit
set_elements e i sites [] = return tt
set_elements e i sites (m ∷ ms) = do
  v ← m
  set ← note_write (into kind.Set (first_site sites) (Elem e.number i) v.value) (joined v.value (value_of e (Object e.number)) v)
  set_elements e (suc i) (rest_sites sites) ms

-- an array initializer: the array is made before its elements are evaluated
unfoldable pub create_filled : {A : Sets} → World A → Ty → List (Run A (Carried A)) → List ℕ → ℕ → Run A (Carried A)
create_filled w ty elements sites site = do
  e ← make_array w site ty (length elements) (constant Nothing)
  set_elements e 0 sites elements
  return (value_of e (Object e.number))

unfoldable pub new_array : {A : Sets} → World A → Ty → List (Run A (Carried A)) → List (Run A (Carried A)) → List ℕ → ℕ → Run A (Carried A)
new_array w ty [] elements sites site = create_filled w ty elements sites site
new_array w ty (d ∷ ds) elements sites site = create_array w ty (d ∷ ds) site
