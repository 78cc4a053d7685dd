-- The links that a whynot lists are a least cut of the ways from the start of the program to the statement, and the calls of the run
-- stand on links.
use Rattle.std.specs.Prelude.{ℕ, List}
use Rattle.std.specs.List.{Contains}
use Rattle.wy_kernel.specs.Program.{Program}
use Rattle.wy_event.specs.declared.record.Cover.{Cover}
use Rattle.wy_event.specs.Record.{Recorded}
use Rattle.wy_steps.specs.Sets.{nothing}
use Rattle.wy_meaning.specs.Run.{events}
use Rattle.wy_static.specs.declared.point.Point.TheVariants as point
use Rattle.wy_static.specs.declared.point.Link.{Link}
use Rattle.wy_whynot.specs.Chains.{IsChain}
use Rattle.wy_whynot.specs.Evidence.{Evidence}
use Rattle.wy_whynot.specs.Items.{links_of}
use Rattle.law_reached.specs.Laws.{IsCallOrInit, IsNeeded, StandsOnLink}
use Rattle.wy_reply.specs.Blocked.{BlockedAnswer}

-- every chain of links from the start to the statement has one of the items in it, and for each item some chain has it and no other
pub record IsLeastCut (p : Program) (statement : ℕ) (items : List Evidence) : Type 0 where
  pub cut : (chain : List Link) → IsChain p (point.Statement statement) chain → (l : Link) × Contains chain l × Contains (links_of items) l
  pub needed : (l : Link) → Contains (links_of items) l → IsNeeded p statement items l

-- each Call and Init event of the run stands on a link, whose owner was executed
abbrev pub StandOnLinks : Program → List ℕ → ℕ → List Cover → Type 0
StandOnLinks p input steps covers =
    (r : Recorded) → Contains (events nothing p input steps) r → IsCallOrInit r.kind → StandsOnLink p (events nothing p input steps) covers r

-- the text is the lines of the links on the ways to a statement that the run reached and did not cross, and they are a least cut of these ways
pub record CutAnswer (p : Program) (lines input : List ℕ) (steps : ℕ) (word text : List ℕ) : Type 0 where
  pub blocked : BlockedAnswer p lines input steps word text
  pub least : IsLeastCut p blocked.number blocked.items
  pub calls : StandOnLinks p input steps blocked.covers
