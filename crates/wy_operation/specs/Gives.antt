-- What an operation of the library gives of its arguments, whatever each of them uses.
use Rattle.std.specs.Prelude.{◌≡◌, ℕ, List, Result}
use Rattle.wy_kernel.specs.declared.form.LibOp.{LibOp}
use Rattle.wy_kernel.specs.Program.{Program}
use Rattle.wy_value.specs.declared.value.Value.{Value}
use Rattle.wy_value.specs.declared.value.Value.TheVariants.{None as Nothing}
use Rattle.wy_event.specs.declared.record.Use.{Use}
use Rattle.wy_steps.specs.Sets.{nothing}
use Rattle.wy_meaning.specs.World.{World}
use Rattle.wy_meaning.specs.Library.{library_one, library_two, library_three}
use Rattle.wy_state.specs.Agrees.{Shape, StepGives}
use Rattle.wy_state.specs.Seen.{given}
use Rattle.wy_state.specs.declared.parts.Halt.{Halt}
use Rattle.wy_operation.specs.declared.texts.found.Found.{Found}
use Rattle.wy_operation.specs.Found.{found_of}

abbrev pub GivesOfOne : Program → LibOp → ℕ → Value → List Use → Result Found Halt → Shape → Shape → Type 0
GivesOfOne p op site v uses result old new =
    (w : World nothing) (own : List Use) → w.program ≡ p
    → StepGives p (found_of uses) result old (library_one w op site (given Nothing uses) (given v own)) new

abbrev pub GivesOfTwo : Program → LibOp → ℕ → Value → Value → List Use → Result Found Halt → Shape → Shape → Type 0
GivesOfTwo p op site v z uses result old new =
    (w : World nothing) (a b : List Use) → w.program ≡ p
    → StepGives p (found_of uses) result old (library_two w op site (given Nothing uses) (given v a) (given z b)) new

abbrev pub GivesOfThree : Program → LibOp → ℕ → Value → Value → Value → List Use → Result Found Halt → Shape → Shape → Type 0
GivesOfThree p op site v y z uses result old new =
    (w : World nothing) (a b c : List Use) → w.program ≡ p
    → StepGives p (found_of uses) result old (library_three w op site (given Nothing uses) (given v a) (given y b) (given z c)) new
