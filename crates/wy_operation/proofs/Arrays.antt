-- Arrays: single ones, and those of dimensions with their subarrays.
use Rattle.std.proofs.Common.{◌≡◌, ◌≤◌, ◌<◌, ◌∙◌, ℕ, suc, ◌+◌, ◌-◌, true, false, List, [], ◌∷◌, map, length, refl, ap, subst, arith, add-one, Result, Err}
use Rattle.std.specs.Prelude.{pos}
use Rattle.wy_kernel.specs.declared.types.Ty.{Ty}
use Rattle.wy_kernel.specs.Program.{Program, element_type, type_code}
use Rattle.wy_value.specs.declared.value.Value.{Value}
use Rattle.wy_value.specs.declared.value.Value.TheVariants.{None as Nothing, Int, Object}
use Rattle.wy_event.specs.declared.record.Kind.TheVariants as kind
use Rattle.wy_event.specs.declared.record.Slot.TheVariants.{Elem}
use Rattle.wy_event.specs.declared.record.Use.{Use}
use Rattle.wy_event.specs.declared.record.Use.TheVariants as uses
use Rattle.wy_steps.specs.Sets.{nothing}
use Rattle.wy_steps.specs.State.{State, Carried, Run, go_on, ◌>>=◌, ◌>>◌, return, choose}
use Rattle.wy_steps.specs.Steps.{Made, constant, joined, joined_all, note_new, note_write, take_elements, value_of}
use Rattle.wy_meaning.specs.World.{World, about, all_of, fail, into, natural_of, negative_size}
use Rattle.wy_meaning.specs.Array.{any_negative, create_array, for_each, make_array, make_arrays, subarrays}
use Rattle.wy_operation.specs.Around.{Ends}
use Rattle.wy_operation.specs.Operands.{carried}
use Rattle.wy_operation.specs.Subarrays.{element_set, subarray}
use Rattle.wy_operation.specs.declared.operand.Part.{Part}
use Rattle.wy_operation.proofs.Exceptions.{fails, note_new_as}
use Rattle.wy_operation.proofs.Runs.{answers_as, answers_next, done_first}
use Rattle.wy_state.specs.Agrees.{Shape, Onward, StepGives, itself}
use Rattle.wy_state.specs.Seen.{given, made_of, valued}
use Rattle.wy_state.specs.Steps as steps
use Rattle.wy_state.specs.declared.parts.Halt.{Halt}
use Rattle.wy_state.proofs.Onward.{answers_after, onward_as, onward_same, onward_then}

-- ---- a single array

module _ (p : Program) (w : World nothing) (is : w.program ≡ p) (site : ℕ) (v : Value) (us : List Use) where
  new_as : (code n : ℕ) (s : State nothing) → note_new w.program (about kind.New site code (Int (pos n))) (given v us) s ≡ note_new p (about kind.New site code (Int (pos n))) (given Nothing us) s
  new_as code n s = rw is (note_new_as p (about kind.New site code (Int (pos n))) v Nothing us s)

  pub made_as : (code n : ℕ) (ty : Ty) → code ≡ type_code ty → (s : State nothing) → make_array w site ty n (given v us) s ≡ steps.make_array p site code n us s
  unfolding make_array ◌>>=◌ ◌>>◌
  made_as code n ty coded s = rw coded (λ i. go_on (take_elements n s) (λ _ t. new_as (type_code ty) n t i))

-- ---- an element of an array initializer

pub element_is : (site a i : ℕ) (v : Carried nothing) (u : Value) (us : List Use) → v.value ≡ u → uses.Value a ∷ v.uses ≡ us → (s : State nothing) →
    element_set site (made_of a) i v s ≡ note_write (into kind.Set site (Elem a i) u) (given u us) s
unfolding joined value_of
element_is site a i v u us value all s = rw (← value, ← all) refl

-- ---- for each index

module _ (p : Program) (m l : Shape) (start : Run nothing (Unit {0})) (f : ℕ → Run nothing (Unit {0})) (i n : ℕ) (before : Onward p m start l (for_each i (n - i) f)) where
  turn_is : i < n → (s : State nothing) → for_each i (n - i) f s ≡ (f i >>= (λ _. for_each (i + 1) (n - (i + 1)) f)) s
  unfolding for_each ◌>>◌
  turn_is less s =
      let more : n - i ≡ suc (n - (i + 1)) = omega (arith, less) in
      rw (more, add-one) refl

  pub each_next : (k : Shape) → i < n → Onward p l (f i) k (return tt) → Onward p m start k (for_each (i + 1) (n - (i + 1)) f)
  each_next k less a = onward_then before (onward_as (turn_is less) (done_first (f i) (λ _. for_each (i + 1) (n - (i + 1)) f) tt a))

  pub each_halts : (k : Shape) (e : Halt) → i < n → StepGives p (itself {X = Unit {0}}) (Err e) l (f i) k → StepGives p (itself {X = Unit {0}}) (Err e) m start k
  each_halts k e less a = answers_next p itself (Err e) m l k _ _ before (answers_after p l k (f i) itself itself (λ _. for_each (i + 1) (n - (i + 1)) f) _ e (turn_is less) a)

  pub each_done : n ≤ i → Onward p m start l (return tt)
  unfolding for_each
  each_done over =
      let none : n - i ≡ 0 = omega (arith, over) in
      onward_then before (rw none (onward_same p l (return tt)))

-- ---- subarrays

module _ (p : Program) (w : World nothing) (site : ℕ) (ty : Ty) (d : Carried nothing) (ds : List (Carried nothing)) (parent i size : ℕ) (is : size ≡ natural_of d.value) where
  abbrev pub made_first : Run nothing (Made nothing)
  made_first = make_array w site ty size d

  abbrev pub filled : ℕ → Run nothing (Unit {0})
  filled a = subarrays w site (element_type ty) ds a size

  abbrev pub stored : ℕ → Run nothing (Made nothing)
  stored a = note_write (into kind.Set site (Elem parent i) (Object a)) (valued a (Object a))

  abbrev pub then_stored : Made nothing → Run nothing (Unit {0})
  then_stored e = stored e.number >>= (λ _. filled e.number)

  subarray_is : (s : State nothing) → subarray w site ty d ds parent i s ≡ (made_first >>= then_stored) s
  unfolding value_of
  subarray_is s = rw is refl

  pub array_halts : (m n : Shape) (e : Halt) → StepGives p made_of (Err e) m made_first n → StepGives p (itself {X = Unit {0}}) (Err e) m (subarray w site ty d ds parent i) n
  array_halts m n e a = answers_after p m n made_first made_of itself then_stored _ e subarray_is a

  module _ (m l : Shape) (a : ℕ) (made : Onward p m made_first l (return (made_of a))) where
    subarray_starts : Onward p m (subarray w site ty d ds parent i) l (then_stored (made_of a))
    subarray_starts = onward_as subarray_is (done_first made_first then_stored (made_of a) made)

    pub write_halts : (n : Shape) (e : Halt) → StepGives p made_of (Err e) l (stored a) n → StepGives p (itself {X = Unit {0}}) (Err e) m (subarray w site ty d ds parent i) n
    write_halts n e b = answers_next p itself (Err e) m l n _ _ subarray_starts (answers_after p l n (stored a) made_of itself (λ _. filled a) _ e (λ s. refl) b)

    pub subarray_goes : (k n : Shape) (e : ℕ) (t : Ty) (r : Result (Unit {0}) Halt) → t ≡ element_type ty → Onward p l (stored a) k (return (made_of e)) → StepGives p itself r k (subarrays w site t ds a size) n → StepGives p itself r m (subarray w site ty d ds parent i) n
    subarray_goes k n e t r below b c =
        answers_next p itself r m k n _ _ (onward_then subarray_starts (done_first (stored a) (λ _. filled a) (made_of e) b)) (subst (λ u. StepGives p itself r k (subarrays w site u ds a size) n) below c)

pub none_of : (p : Program) (m : Shape) (w : World nothing) (site : ℕ) (ty : Ty) (ds : List Part) (parent n : ℕ) → length ds ≡ 0 → Onward p m (subarrays w site ty (map carried ds) parent n) m (return tt)
unfolding subarrays
none_of p m w site ty [] parent n none = onward_same p m (return tt)
none_of p m w site ty (d ∷ ds) parent n none = cc

pub each_of : (w : World nothing) (site : ℕ) (ty : Ty) (ds rest : List Part) (d : Part) (parent n : ℕ) → ds ≡ d ∷ rest → (s : State nothing) →
    subarrays w site ty (map carried ds) parent n s ≡ for_each 0 n (subarray w site ty (carried d) (map carried rest) parent) s
unfolding subarrays
each_of w site ty ds rest d parent n is s = rw is refl

-- ---- an array by its dimensions

-- what is done with dimensions that are there
abbrev pub created : World nothing → Ty → List (Carried nothing) → ℕ → Run nothing (Carried nothing)
created w ty ds site = choose (any_negative ds) (fail w negative_size site (joined_all ds)) (make_arrays w site ty ds)

all_are : (ds : List (Carried nothing)) (s : State nothing) → all_of (map return ds) s ≡ return ds s
unfolding all_of ◌>>=◌ go_on return
all_are [] s = refl
all_are (d ∷ ds) s = rw (all_are ds s) refl

pub create_is : (w : World nothing) (ty : Ty) (ds : List (Carried nothing)) (site : ℕ) (s : State nothing) → create_array w ty (map return ds) site s ≡ created w ty ds site s
unfolding create_array ◌>>=◌ go_on return
create_is w ty ds site s = ap (λ o. go_on o (λ xs. created w ty xs site)) (all_are ds s)

all_joined : (ds : List (Carried nothing)) → joined_all ds ≡ given Nothing (joined_all ds).uses
unfolding joined_all joined constant
all_joined [] = refl
all_joined (d ∷ ds) = refl

module _ (p : Program) (w : World nothing) (site : ℕ) (ty : Ty) (ds : List (Carried nothing)) where
  pub create_fails : (m n : Shape) (e : Halt) (us : List Use) → (joined_all ds).uses ≡ us → any_negative ds ≡ true → Ends p e m (fail w negative_size site (given Nothing us)) n →
      StepGives p (itself {X = Carried nothing}) (Err e) m (create_array w ty (map return ds) site) n
  unfolding choose
  create_fails m n e us all negative a = answers_as p itself (Err e) m n _ _ same (fails w negative_size site (Carried nothing) p e m n (given Nothing us) a)
    where
      same : (s : State nothing) → create_array w ty (map return ds) site s ≡ fail w negative_size site (given Nothing us) s
      same s = create_is w ty ds site s ∙ ap (λ b. choose b (fail w negative_size site (joined_all ds)) (make_arrays w site ty ds) s) negative ∙ ap (λ c. fail w negative_size site c s) (all_joined ds ∙ ap (given Nothing) all)

  module _ (d : Carried nothing) (rest : List (Carried nothing)) (size : ℕ) (are : ds ≡ d ∷ rest) (fine : any_negative ds ≡ false) (is : size ≡ natural_of d.value) where
    abbrev pub made_outer : Run nothing (Made nothing)
    made_outer = make_array w site ty size d

    abbrev pub then_filled : Made nothing → Run nothing (Carried nothing)
    then_filled e = subarrays w site (element_type ty) rest e.number size >>= (λ _. return (value_of e (Object e.number)))

    outer_is : (s : State nothing) → create_array w ty (map return ds) site s ≡ (made_outer >>= then_filled) s
    unfolding choose make_arrays ◌>>◌
    outer_is s = create_is w ty ds site s ∙ rw (fine, are, is) refl

    pub outer_halts : (m n : Shape) (e : Halt) → StepGives p made_of (Err e) m made_outer n → StepGives p (itself {X = Carried nothing}) (Err e) m (create_array w ty (map return ds) site) n
    outer_halts m n e a = answers_after p m n made_outer made_of itself then_filled _ e outer_is a

    module _ (m l n : Shape) (a : ℕ) (t : Ty) (below : t ≡ element_type ty) (made : Onward p m made_outer l (return (made_of a))) where
      abbrev pub inner : Run nothing (Unit {0})
      inner = subarrays w site t rest a size

      outer_starts : Onward p m (create_array w ty (map return ds) site) l (inner >>= (λ _. return (valued a (Object a))))
      unfolding value_of
      outer_starts = rw below (onward_as outer_is (done_first made_outer then_filled (made_of a) made))

      pub inner_halts : (e : Halt) → StepGives p (itself {X = Unit {0}}) (Err e) l inner n → StepGives p (itself {X = Carried nothing}) (Err e) m (create_array w ty (map return ds) site) n
      inner_halts e b = answers_next p itself (Err e) m l n _ _ outer_starts (answers_after p l n inner itself itself (λ _. return (valued a (Object a))) _ e (λ s. refl) b)

      pub create_goes : Onward p l inner n (return tt) → Onward p m (create_array w ty (map return ds) site) n (return (valued a (Object a)))
      create_goes b = onward_then outer_starts (done_first inner (λ _. return (valued a (Object a))) tt b)
