-- An operation of the library by how many arguments it has.
use Rattle.std.proofs.Common.{◌≡◌, ℕ, ◌≤◌, ◌<◌, List, [], ◌∷◌, map, length, get_or, sym, subst, arith, Result}
use Rattle.wy_kernel.specs.declared.form.LibOp.{LibOp}
use Rattle.wy_kernel.specs.Program.{Program}
use Rattle.wy_value.specs.declared.value.Value.TheVariants.{None as Nothing}
use Rattle.wy_event.specs.declared.record.Use.{Use}
use Rattle.wy_steps.specs.Sets.{nothing}
use Rattle.wy_steps.specs.Steps.{constant, joined, joined_all}
use Rattle.wy_meaning.specs.Library.{library, library_one, library_two, library_three, read_byte}
use Rattle.wy_meaning.specs.World.{World}
use Rattle.wy_operation.specs.declared.operand.Part.{Part}
use Rattle.wy_operation.specs.Operands.{carried}
use Rattle.wy_state.specs.Agrees.{Shape, StepGives}
use Rattle.wy_state.specs.Seen.{given}
use Rattle.wy_state.specs.declared.parts.Halt.{Halt}
use Rattle.wy_operation.specs.declared.texts.found.Found.{Found}
use Rattle.wy_operation.specs.Found.{found_of}

module _ (p : Program) (w : World nothing) (m n : Shape) (o : LibOp) (site : ℕ) (all : List Use) (r : Result Found Halt) where
  pub of_none : (xs : List Part) → length xs < 1 → StepGives p (found_of all) r m (read_byte site) n → StepGives p (found_of all) r m (library w o site (map carried xs)) n
  unfolding library
  of_none [] low a = a
  of_none (x ∷ xs) low a = absurd (omega arith)

  pub of_one : (xs : List Part) (d : Part) → 1 ≤ length xs → length xs < 2 → (joined_all (map carried xs)).uses ≡ all →
      ((a : List Use) → StepGives p (found_of all) r m (library_one w o site (given Nothing all) (given (get_or xs 0 d).value a)) n) → StepGives p (found_of all) r m (library w o site (map carried xs)) n
  unfolding library joined_all joined constant
  of_one [] d high low is h = absurd (omega arith)
  of_one (x ∷ []) d high low is h =
      subst (λ (us : List Use). StepGives p (found_of all) r m (library_one w o site (given Nothing us) (carried x)) n) (sym is) (h x.uses.now)
  of_one (x ∷ y ∷ xs) d high low is h = absurd (omega arith)

  pub of_two : (xs : List Part) (d e : Part) → 2 ≤ length xs → length xs < 3 → (joined_all (map carried xs)).uses ≡ all →
      ((a b : List Use) → StepGives p (found_of all) r m (library_two w o site (given Nothing all) (given (get_or xs 0 d).value a) (given (get_or xs 1 e).value b)) n) → StepGives p (found_of all) r m (library w o site (map carried xs)) n
  unfolding library joined_all joined constant
  of_two [] d e high low is h = absurd (omega arith)
  of_two (x ∷ []) d e high low is h = absurd (omega arith)
  of_two (x ∷ y ∷ []) d e high low is h =
      subst (λ (us : List Use). StepGives p (found_of all) r m (library_two w o site (given Nothing us) (carried x) (carried y)) n) (sym is) (h x.uses.now y.uses.now)
  of_two (x ∷ y ∷ z ∷ xs) d e high low is h = absurd (omega arith)

  pub of_three : (xs : List Part) (d e f : Part) → 3 ≤ length xs → length xs < 4 → (joined_all (map carried xs)).uses ≡ all →
      ((a b c : List Use) → StepGives p (found_of all) r m (library_three w o site (given Nothing all) (given (get_or xs 0 d).value a) (given (get_or xs 1 e).value b) (given (get_or xs 2 f).value c)) n) → StepGives p (found_of all) r m (library w o site (map carried xs)) n
  unfolding library joined_all joined constant
  of_three [] d e f high low is h = absurd (omega arith)
  of_three (x ∷ []) d e f high low is h = absurd (omega arith)
  of_three (x ∷ y ∷ []) d e f high low is h = absurd (omega arith)
  of_three (x ∷ y ∷ z ∷ []) d e f high low is h =
      subst (λ (us : List Use). StepGives p (found_of all) r m (library_three w o site (given Nothing us) (carried x) (carried y) (carried z)) n) (sym is) (h x.uses.now y.uses.now z.uses.now)
  of_three (x ∷ y ∷ z ∷ v ∷ xs) d e f high low is h = absurd (omega arith)
