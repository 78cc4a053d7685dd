-- What is written where a command did not do what it says.
use Rattle.std.specs.Prelude.{◌≡◌, ◌⊎◌, ℕ, List}
use Rattle.wy_reply.specs.Refusals.{refusal_status, refusal_text}
use Rattle.wy_reply.specs.declared.lines.Refusal.{Refusal}
use Rattle.wy_reply.specs.declared.status.Status.{Status}
use Rattle.wy_reply.specs.declared.status.Status.TheVariants.{Done}

-- the status and the line of a refusal
abbrev pub IsRefused : Status → List ℕ → Type 0
IsRefused status text = (r : Refusal) × (status ≡ refusal_status r) × (text ≡ refusal_text r)

abbrev pub IsDoneOrRefused : Status → List ℕ → Type 0
IsDoneOrRefused status text = (status ≡ Done) ⊎ IsRefused status text
