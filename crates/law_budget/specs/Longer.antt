-- What a run has in common with a run of the same program and input that has a larger budget.
use Rattle.std.specs.Prelude.{◌≡◌, ℕ, List, ◌++◌}
use Rattle.wy_kernel.specs.Program.{Program}
use Rattle.wy_steps.specs.Sets.{Sets}
use Rattle.wy_steps.specs.State.{StepLimit}
use Rattle.wy_meaning.specs.Run.{history, events, output, tail, final_store, stop_number}

-- the one is the front of the other
abbrev pub IsPrefixOf : {X : Type 0} → List X → List X → Type 0
IsPrefixOf {X = X} front whole = (rest : List X) × (whole ≡ front ++ rest)

abbrev pub IsPrefixOfLarger : Sets → Program → List ℕ → (budget larger : ℕ) → Type 0
IsPrefixOfLarger A p input budget larger =
    IsPrefixOf (events A p input budget) (events A p input larger)
    × IsPrefixOf (output A p input budget) (output A p input larger)
    × IsPrefixOf (history A p input budget) (history A p input larger)

-- where the step limit does not stop it, the run is the whole of the larger one: the tail counts the steps that were taken
abbrev pub IsSameWithLarger : Sets → Program → List ℕ → (budget larger : ℕ) → Type 0
IsSameWithLarger A p input budget larger =
    ((tail A p input budget).stop ≡ stop_number StepLimit → ⊥) →
    (events A p input larger ≡ events A p input budget)
    × (output A p input larger ≡ output A p input budget)
    × (tail A p input larger ≡ tail A p input budget)
    × (history A p input larger ≡ history A p input budget)
    × (final_store A p input larger ≡ final_store A p input budget)
