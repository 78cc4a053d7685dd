-- Calls that fail by their number, counted from 1.
use Rattle.std.specs.Prelude.{◌≡◌, ℕ, ◌==◌, Bool, false, Result, Ok, Err, Vec}
use Rattle.std.specs.declared.alloc.Global.{Global}
use Rattle.std.specs.List.{list_any}
use Rattle.wy_outside.specs.Counts.{count_after}
use Rattle.wy_outside.specs.declared.failing.FailingCalls.{FailingCalls}

-- the script of these numbers before any call
abbrev pub uncalled : Vec ℕ Global → FailingCalls
uncalled numbers = record { numbers = numbers; calls = 0 }

-- whether the next call is one of those that fail
abbrev pub fails_next : FailingCalls → Bool
fails_next script = list_any (λ number. number == count_after script.calls 1) script.numbers.items

-- the script once one more call was made
abbrev pub after_call : FailingCalls → FailingCalls
after_call script = record script { calls = count_after script.calls 1 }

-- Failed is the answer exactly where the call is one of those that fail
abbrev pub FailsExactly : {T E : Type 0} → (E → Bool) → Bool → Result T E → Type 0
FailsExactly is_failed listed (Ok _) = listed ≡ false
FailsExactly is_failed listed (Err error) = is_failed error ≡ listed
