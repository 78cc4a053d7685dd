-- What a run reached and did not cross on the ways to a statement.
use Rattle.std.specs.Prelude.{◌≡◌, ℕ, List, map}
use Rattle.wy_kernel.specs.Program.{Program}
use Rattle.wy_event.specs.declared.record.Cover.{Cover}
use Rattle.wy_steps.specs.Sets.{nothing}
use Rattle.wy_meaning.specs.Run.{events, tail}
use Rattle.wy_meaning.specs.Kept.{covered_of}
use Rattle.wy_whynot.specs.Evidence.{Evidence}
use Rattle.wy_whynot.specs.Items.{AreItems}
use Rattle.wy_whynot.specs.Laws.{NeverBegan}
use Rattle.wy_telling.specs.Items.{items_text}
use Rattle.wy_telling.specs.Whynot.{NamesStatement}

-- the word names a statement that never began in the run, and the text is the lines of the links on the ways to it that the run
-- reached and did not cross, each with what the run shows of it
pub record BlockedAnswer (p : Program) (lines input : List ℕ) (steps : ℕ) (word text : List ℕ) : Type 0 where
  pub line : ℕ
  pub place : ℕ
  pub number : ℕ
  pub names : NamesStatement p lines word line place number
  pub covers : List Cover
  pub covers_are : map covered_of covers ≡ (tail nothing p input steps).coverage
  pub never : NeverBegan covers number
  pub items : List Evidence
  pub items_are : AreItems p (events nothing p input steps) covers number items
  pub lists : text ≡ items_text p lines items
