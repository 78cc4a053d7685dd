-- A certificate whose lines were weighed, all of those whose events are in the trace.
use Rattle.std.specs.Prelude.{◌≡◌, ℕ, ◌<◌, ◌≤◌, ◌^◌, List, ◌++◌, Contains, length}
use Rattle.wy_event.specs.Record.{Recorded}
use Rattle.wy_event.specs.Sources.{Owners}
use Rattle.wy_why.specs.Answer.{Rises}
use Rattle.wy_cert.specs.declared.certificate.Certificate.{Certificate}
use Rattle.wy_cert.specs.declared.certificate.Listed.{Listed}
use Rattle.wy_cert.specs.Spelling.{events}
use Rattle.wy_cert.specs.Goodness.{AllSound, ComesFrom, IsLast, IsSound}
use Rattle.wy_check.specs.declared.weighing.Weighing.{Weighing}
use Rattle.wy_check.specs.Weighing.{IsWeighed}

-- the lines whose events are below a count, and the others
pub record SplitsAt (count : ℕ) (all front : List Listed) : Type 0 where
  pub others : List Listed
  pub whole : all ≡ front ++ others
  pub below : (l : Listed) → Contains front l → l.event < count
  pub above : (l : Listed) → Contains others l → count ≤ l.event

-- all lines of events that there are were weighed
pub record IsWeighedWhole (owner : Owners) (rs : List Recorded) (c : Certificate) (w : Weighing)
    : Type 0 where
  pub front : List Listed
  pub end : ℕ
  pub splits : SplitsAt (length rs) c.listed front
  pub rises : Rises 0 (2 ^ 32) (events c.listed)
  pub within : Rises 0 end (events front)
  pub weighed : IsWeighed owner rs front end end w

-- the event of the first line that isn't as it ought to be
pub record IsFirstFault (owner : Owners) (rs : List Recorded) (c : Certificate) (n : ℕ)
    : Type 0 where
  pub line : Listed
  pub is : n ≡ line.event
  pub there : Contains c.listed line
  pub unsound : ¬ IsSound owner rs c line
  pub least : (k : Listed) → Contains c.listed k → k.event < line.event → IsSound owner rs c k

-- each line is as it ought to be, with sources below its event, and what is asked about is the last
pub record IsWhole (owner : Owners) (rs : List Recorded) (c : Certificate) : Type 0 where
  pub sound : AllSound owner rs c
  pub last : IsLast c
  pub rises : Rises 0 (2 ^ 32) (events c.listed)
  pub below : (l : Listed) → Contains c.listed l → (j : ℕ) → ComesFrom owner rs l.event j
      → j < l.event
