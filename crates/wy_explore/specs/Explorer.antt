-- An explorer in memory, as a session; and the answers that it holds.
use Rattle.std.specs.Prelude.{◌≡◌, ◌<◌, ℕ, Bool, true, false, List, [], ◌∷◌, map, reverse, All, Option, Some, IfSome, option_map}
use Rattle.wy_kernel.specs.declared.program.Program as memory
use Rattle.wy_kernel.specs.Program.{Program}
use Rattle.wy_kernel.specs.Parts.{program_of}
use Rattle.wy_event.specs.declared.record.Cover.{Cover}
use Rattle.wy_event.specs.Record.{Recorded}
use Rattle.wy_event.specs.Sources.{data_closure}
use Rattle.wy_view.specs.References.{ValueBelow}
use Rattle.wy_travel.specs.Backtrace.{IsBelow, stack_frame}
use Rattle.wy_why.specs.Answer.{Rises, up_to}
use Rattle.wy_ask.specs.Asked.{owners}
use Rattle.wy_whynot.specs.Evidence.{evidence_in}
use Rattle.wy_explore.specs.Session.{Position, RepliesTo, Session, answer_to, looking_at}
use Rattle.wy_explore.specs.Session as session
use Rattle.wy_explore.specs.Commands.{IsMeant, Worded}
use Rattle.wy_explore.specs.declared.explorer.Answered.{Answered}
use Rattle.wy_explore.specs.declared.explorer.Change.{Change}
use Rattle.wy_explore.specs.declared.explorer.Change.TheVariants.{Looked, Asked}
use Rattle.wy_explore.specs.declared.explorer.Explorer.{Explorer}
use Rattle.wy_explore.specs.declared.reply.Reply.{Reply}
use Rattle.wy_explore.specs.declared.reply.Reply.TheVariants as reply

abbrev pub event_asked : Option Answered → Option ℕ
event_asked question = option_map (λ a. a.event) question

-- where the session stood before each of these changes, the last one first; the question is the one
-- after them
abbrev pub positions : Option ℕ → List Change → List Position
positions asked [] = []
positions asked (Looked cursor ∷ changes) =
    record { asked = asked; cursor = cursor } ∷ positions asked changes
positions asked (Asked question cursor ∷ changes) =
    record { asked = event_asked question; cursor = cursor } ∷ positions (event_asked question) changes

abbrev pub session_of : Explorer → Session
session_of x = record {
  at = record { asked = event_asked x.question; cursor = x.cursor };
  past = positions (event_asked x.question) (reverse x.past.items);
}

abbrev pub reply_of : Reply → session.Reply
reply_of (reply.At event) = session.At event
reply_of (reply.Answer event) = session.Answer event
reply_of (reply.From sources) = session.From sources.items
reply_of (reply.Items items) = session.Items (map evidence_in items.items)
reply_of (reply.Frames state) = session.Backtrace (map stack_frame state.frames.items)
reply_of (reply.Shown value) = session.Shown value
reply_of reply.NoSuch = session.NoSuch
reply_of reply.NothingToUndo = session.NothingToUndo
reply_of reply.End = session.End

-- ---- what an explorer holds

-- of an answer
abbrev pub HoldsOf : (Answered → Type 0) → Option Answered → Type 0
HoldsOf P question = IfSome question P

abbrev pub HoldsIn : (Answered → Type 0) → (ℕ → Type 0) → Change → Type 0
HoldsIn P C (Looked cursor) = IfSome cursor C
HoldsIn P C (Asked question cursor) = HoldsOf P question × IfSome cursor C

-- this holds of each answer and each cursor that an explorer holds, now or in its past
pub record Holds (P : Answered → Type 0) (C : ℕ → Type 0) (x : Explorer) : Type 0 where
  pub now : HoldsOf P x.question
  pub cursor : IfSome x.cursor C
  pub past : All (HoldsIn P C) x.past.items

-- events that a trace of so many has
abbrev pub IsWithin : ℕ → Answered → Type 0
IsWithin count a = (a.event < count) × Rises 0 count a.answer.all.items

-- all that an explorer holds is within a trace of so many events
abbrev pub AllWithin : ℕ → Explorer → Type 0
AllWithin count x = Holds (IsWithin count) (λ n. n < count) x

-- the answer is that of its event, in the records of a trace of a program
pub record IsAnswered (p : Program) (rs : List Recorded) (a : Answered) : Type 0 where
  pub all : a.answer.all.items ≡ answer_to p rs a.event
  pub flow : a.answer.flow.items ≡ up_to a.event (data_closure (owners p) rs a.event)

-- so is each answer that an explorer holds
abbrev pub AllAnswered : Program → List Recorded → Explorer → Type 0
AllAnswered p rs x = Holds (IsAnswered p rs) (λ n. Unit {0}) x

-- the events to which a reply refers are there
abbrev pub IsReplyWithin : ℕ → Reply → Type 0
IsReplyWithin count (reply.At event) = IfSome event (λ n. n < count)
IsReplyWithin count (reply.Answer event) = event < count
IsReplyWithin count (reply.From sources) = All (λ s. s.event < count) sources.items
IsReplyWithin count (reply.Frames state) = All (IsBelow count) state.frames.items
IsReplyWithin count (reply.Shown value) = ValueBelow count value
IsReplyWithin count _ = Unit {0}

-- ---- what moves do

abbrev pub Rising : Answered → Type 0
Rising a = (high : ℕ) × Rises 0 high a.answer.all.items

-- the question of an explorer and its cursor, with an event of the answer to which they lead
pub record Leads (to : List ℕ → ℕ → ℕ → Type 0) (x : Explorer) (event : ℕ) : Type 0 where
  pub asked : Answered
  pub asked_is : x.question ≡ Some asked
  pub cursor : ℕ
  pub cursor_is : x.cursor ≡ Some cursor
  pub leads : to asked.answer.all.items cursor event

-- a move to such an event, or none and no change where there is no such event
abbrev pub Moves : (List ℕ → ℕ → ℕ → Type 0) → Bool → Explorer → Explorer → Type 0
Moves to true x y =
    (event : ℕ) × Leads to x event × (session_of y ≡ looking_at (session_of x) event)
Moves to false x y = ((event : ℕ) → ¬ Leads to x event) × (y ≡ x)

-- back to where the session stood before the last change, or none and no change where there was none
abbrev pub Undoes : Bool → Explorer → Explorer → Type 0
Undoes true x y = (position : Position) × (past : List Position)
    × ((session_of x).past ≡ position ∷ past)
    × (session_of y ≡ record { at = position; past = past })
Undoes false x y = ((session_of x).past ≡ []) × (y ≡ x)

-- ---- what is replied

-- the reply to a command whose words are still to be read
abbrev pub Fulfils : memory.Program → List Cover → List Recorded → Worded → Explorer → Explorer → Reply → Type 0
Fulfils m covers rs c x y r =
    RepliesTo (program_of m) m.lines.items rs covers
    (session_of x) (IsMeant c) (session_of y) (reply_of r)
