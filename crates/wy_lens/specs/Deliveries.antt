-- What comes of writing an answer.
use Rattle.std.specs.Prelude.{◌≡◌, ◌≤◌, ◌⊎◌, ℕ, List, length, take, Option}
use Rattle.wy_lens.specs.declared.answer.Answer.{Answer}
use Rattle.wy_lens.specs.declared.status.Status.{Status}
use Rattle.wy_lens.specs.declared.status.Status.TheVariants.{Fault, NoMemory}
use Rattle.wy_outside.specs.Counts.{Rose}
use Rattle.wy_outside.specs.Sink.{appended}

-- some first part of the answer's text was written
abbrev pub WritesFirst : List ℕ → Option (List ℕ) → Option (List ℕ) → Type 0
WritesFirst text before after = (n : ℕ) × (n ≤ length text) × (after ≡ appended before (take n text))

-- all of it was written and the status is the answer's, or a first part, and the output failed or memory ran out
abbrev pub Delivers : Answer → Status → ℕ → ℕ → Option (List ℕ) → Option (List ℕ) → Type 0
Delivers answer status faults_before faults_after before after =
    ((status ≡ answer.status) × (faults_after ≡ faults_before) × (after ≡ appended before answer.text.items))
    ⊎ ((status ≡ Fault) × Rose faults_before faults_after × WritesFirst answer.text.items before after)
    ⊎ ((status ≡ NoMemory) × (faults_after ≡ faults_before) × WritesFirst answer.text.items before after)
