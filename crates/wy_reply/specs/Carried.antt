-- What a run carried to the event that a question asks about, and to which events it carried that one.
use Rattle.std.specs.Prelude.{◌≡◌, ℕ, List, length, Option, Some, slice_get}
use Rattle.std.specs.Prelude.{None as Absent}
use Rattle.wy_kernel.specs.Program.{Program}
use Rattle.wy_event.specs.declared.record.Slot.{Slot}
use Rattle.wy_event.specs.declared.record.Slot.TheVariants as slot
use Rattle.wy_event.specs.Numbers.{Numbers, none}
use Rattle.wy_event.specs.Record.{Recorded}
use Rattle.wy_steps.specs.Sets.{numbers}
use Rattle.wy_steps.specs.State.{Held, Noted}
use Rattle.wy_meaning.specs.Run.{events, history}
use Rattle.law_carried.specs.Backward.{stored_at}
use Rattle.wy_why.specs.Answer.{up_to}
use Rattle.wy_affects.specs.Affected.{above_with}
use Rattle.wy_ask.specs.Asked.{event_of, static_place, field_place, element_place}
use Rattle.wy_ask.specs.Questions.{Asked, Asks}
use Rattle.wy_ask.specs.Questions as question
use Rattle.wy_telling.specs.Answers.{marked_lines}
use Rattle.wy_telling.specs.Affects.{later_lines}

-- a question with a moment asks about this slot at it
pub data Means (p : Program) (rs : List Recorded) : Asked → Slot → ℕ → Type 0 where
  static : (class name : List ℕ) (moment : ℕ) (x : Slot) → static_place p class name ≡ Some x → Means p rs (question.Static class name moment) x moment
  field : (object : ℕ) (class name : List ℕ) (moment : ℕ) (x : Slot) → field_place p rs object class name moment ≡ Some x → Means p rs (question.Field object class name moment) x moment
  element : (array index moment : ℕ) (x : Slot) → element_place rs array index moment ≡ Some x → Means p rs (question.Elem array index moment) x moment
  local : (frame index moment : ℕ) → Means p rs (question.Local frame index moment) (slot.Local frame index) moment

-- two sets of each have the same members
pub record SameSets (h : Held numbers) (e : Noted numbers) : Type 0 where
  pub by_data : (k : ℕ) → h.from_data k ≡ e.from_data k
  pub in_all : (k : ℕ) → h.from_all k ≡ e.from_all k

-- the text is the lines of all that the run carried to the event that the question asks about, with a star on what it carried by data;
-- where the question asks about a slot at a moment, that is also what the slot then held
pub record CarriedAnswer (p : Program) (lines input : List ℕ) (steps : ℕ) (asks text : List ℕ) : Type 0 where
  pub asked : Asked
  pub is_asked : Asks asks asked
  pub event : ℕ
  pub is_event : event_of p (events numbers p input steps) asked ≡ Some event
  pub noted : Noted numbers
  pub is_noted : slice_get (history numbers p input steps) event ≡ Some noted
  pub lists : text ≡ marked_lines p lines (events numbers p input steps) noted.from_data (up_to event noted.from_all)
  pub stored : (x : Slot) (moment : ℕ) → Means p (events numbers p input steps) asked x moment →
      (h : Held numbers) × (stored_at p input steps moment x ≡ Some h) × SameSets h noted

-- ---- the other way

-- what a run carried to an event, and what it carried by data
abbrev pub all_to : Option (Noted numbers) → Numbers
all_to Absent = none
all_to (Some e) = e.from_all

abbrev pub data_to : Option (Noted numbers) → Numbers
data_to Absent = none
data_to (Some e) = e.from_data

-- the text is the lines of all later events to which the run carried the event that the question asks about, with a star on those
-- to which it carried it by data
pub record AffectedAnswer (p : Program) (lines input : List ℕ) (steps : ℕ) (asks text : List ℕ) : Type 0 where
  pub asked : Asked
  pub is_asked : Asks asks asked
  pub event : ℕ
  pub is_event : event_of p (events numbers p input steps) asked ≡ Some event
  pub lists : text ≡ later_lines p lines (events numbers p input steps)
      (λ n. data_to (slice_get (history numbers p input steps) n) event)
      (above_with (λ n. all_to (slice_get (history numbers p input steps) n)) event (length (history numbers p input steps)))
