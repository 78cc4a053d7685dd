-- When what is kept of a trace is what its definition has.
use Rattle.std.specs.Prelude.{◌≡◌, ℕ, List, [], ◌∷◌, ◌++◌, length, Result, Ok, Err, IsOkAnd, Option}
use Rattle.std.specs.Option.{option_to_list}
use Rattle.sha2.specs.Hashers.{Holds256}
use Rattle.wy_payload.specs.declared.fault.Fault.{Fault}
use Rattle.wy_payload.specs.declared.fault.Fault.TheVariants as faults
use Rattle.wy_frames.specs.declared.stage.ReadEvent.{ReadEvent}
use Rattle.wy_frames.specs.declared.past.Past.{Past}
use Rattle.wy_frames.specs.declared.error.TraceError.{TraceError}
use Rattle.wy_frames.specs.declared.error.TraceError.TheVariants.{Cut, Damaged, BadSeal, NoMemory}
use Rattle.wy_frames.specs.Progress.{Progress, Next, Violates, Unsealed, knowns}

-- but for the stage
pub record Counts (p : Past) (s : Progress) : Type 0 where
  pub known : p.known.items ≡ knowns s
  pub uses : p.uses ≡ s.uses
  pub output : p.output ≡ s.output
  pub at : p.at ≡ length s.before
  pub hashed : Holds256 p.hasher s.before

pub record Holds (p : Past) (s : Progress) : Type 0 where
  pub counts : Counts p s
  pub stage : p.stage ≡ s.stage

-- the frame is refused at its first byte, for what the definition says
abbrev pub Refuses : TraceError → Progress → Next → Type 0
Refuses NoMemory s next = Unit {0}
Refuses (Damaged byte rule) s next = (byte ≡ length s.before) × (next ≡ Err (Violates rule))
Refuses BadSeal s next = next ≡ Err Unsealed
Refuses (Cut byte) s next = ⊥

-- what stands with a frame, which adds these events
abbrev pub Stands : Past → List ReadEvent → Progress → Next → Type 0
Stands new more s next = IsOkAnd next (λ t. Holds new t × (t.placed ≡ s.placed ++ more))

abbrev pub TakesEvent : Result ReadEvent TraceError → Past → Progress → Next → Type 0
TakesEvent (Ok e) new s next = Stands new (e ∷ []) s next
TakesEvent (Err e) new s next = Refuses e s next

abbrev pub TakesFrame : Result Unit TraceError → Past → Progress → Next → Type 0
TakesFrame (Ok u) new s next = Stands new [] s next
TakesFrame (Err e) new s next = Refuses e s next

abbrev pub TakesNext : Result (Option ReadEvent) TraceError → Past → Progress → Next → Type 0
TakesNext (Ok e) new s next = Stands new (option_to_list e) s next
TakesNext (Err e) new s next = Refuses e s next

-- what a fault of the frame at a place is
abbrev pub damaged_at : ℕ → Fault → TraceError
damaged_at byte (faults.Broken rule) = Damaged byte rule
damaged_at byte faults.NoMemory = NoMemory
