-- What is known of the lines of a certificate whose events were read.
use Rattle.std.specs.Prelude.{◌≡◌, ◌≢◌, ℕ, suc, ◌<◌, ◌≤◌, Bool, true, false, List, Contains, Some, take, length, slice_get}
use Rattle.std.specs.Bool.{Decides}
use Rattle.wy_event.specs.Record.{Recorded}
use Rattle.wy_event.specs.Sources.{Owners}
use Rattle.wy_view.specs.References.{RefersBelow}
use Rattle.wy_why.specs.declared.source.Source.{Source}
use Rattle.wy_why.specs.Answer.{Rises}
use Rattle.wy_cert.specs.declared.certificate.Listed.{Listed}
use Rattle.wy_cert.specs.Spelling.{events}
use Rattle.wy_cert.specs.Goodness.{AreSources, ComesFrom}
use Rattle.wy_check.specs.declared.weighing.Weighing.{Weighing}
use Rattle.wy_check.specs.Asking.{AreLinesAsked}
use Rattle.wy_check.specs.Marks.{mark_of}
use Rattle.wy_check.specs.History.{HasSeen}

-- these sources are those that a line says, and each of them is marked
abbrev pub IsAsSaid : List Source → Listed → List Bool → Type 0
IsAsSaid found l marks = (found ≡ l.sources)
    × ((s : Source) → Contains found s → mark_of marks s.event ≡ true)

-- the events of lines that rise, each below an end, are marked, and no others
pub record AreMarked (lines : List Listed) (end : ℕ) (marks : List Bool) : Type 0 where
  pub room : length marks ≡ end
  pub rises : Rises 0 end (events lines)
  pub marked : (j : ℕ) → Decides (mark_of marks j) (Contains (events lines) j)

-- the sources that a line says are those of its event, and each of them is listed
pub record IsTold (owner : Owners) (rs : List Recorded) (lines : List Listed) (l : Listed)
    : Type 0 where
  pub sources : AreSources owner rs l.event l.sources
  pub closed : (s : Source) → Contains l.sources s → Contains (events lines) s.event

-- one of the first lines is of an event that comes from this one
pub record IsNeeded (owner : Owners) (rs : List Recorded) (lines : List Listed) (count j : ℕ)
    : Type 0 where
  pub place : ℕ
  pub line : Listed
  pub first : place < count
  pub there : slice_get lines place ≡ Some line
  pub comes : ComesFrom owner rs line.event j

-- the events below n were read, and the lines of those that are listed were weighed
pub record IsWeighed (owner : Owners) (rs : List Recorded) (lines : List Listed) (end n : ℕ)
    (w : Weighing) : Type 0 where
  pub seen : HasSeen w.history (take n rs)
  pub asked : AreLinesAsked w.history rs lines
  pub room : length w.needed.items ≡ end
  pub some : length w.sound.items ≤ length lines
  pub behind : (i : ℕ) (l : Listed) → slice_get lines i ≡ Some l → i < length w.sound.items
      → l.event < n
  pub ahead : (i : ℕ) (l : Listed) → slice_get lines i ≡ Some l → length w.sound.items ≤ i
      → n ≤ l.event
  pub told : (i : ℕ) (l : Listed) → slice_get lines i ≡ Some l → i < length w.sound.items
      → Decides (mark_of w.sound.items i) (IsTold owner rs lines l)
  pub needed : (j : ℕ) → j < end
      → Decides (mark_of w.needed.items j) (IsNeeded owner rs lines (length w.sound.items) j)
  pub sources : (i : ℕ) (l : Listed) → slice_get lines i ≡ Some l → i < length w.sound.items
      → (j : ℕ) → ComesFrom owner rs l.event j → j < l.event

-- record n was read
pub record IsRead (rs : List Recorded) (n : ℕ) (r : Recorded) : Type 0 where
  pub there : slice_get rs n ≡ Some r
  pub refers : RefersBelow n r

-- the line at a place isn't that of event n
abbrev pub HasNoLine : List Listed → ℕ → ℕ → Type 0
HasNoLine lines place n = (l : Listed) → slice_get lines place ≡ Some l → l.event ≢ n

-- the line of event n was weighed, and the event is still to be kept
pub record IsWeighedNext (owner : Owners) (rs : List Recorded) (lines : List Listed) (end n : ℕ)
    (old new : Weighing) : Type 0 where
  pub history : new.history ≡ old.history
  pub room : length new.needed.items ≡ end
  pub one : length new.sound.items ≡ suc (length old.sound.items)
  pub told : (i : ℕ) (l : Listed) → slice_get lines i ≡ Some l → i < length new.sound.items
      → Decides (mark_of new.sound.items i) (IsTold owner rs lines l)
  pub needed : (j : ℕ) → j < end
      → Decides (mark_of new.needed.items j) (IsNeeded owner rs lines (length new.sound.items) j)
