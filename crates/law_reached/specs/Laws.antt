-- The points that a run executed are reached by links that it crossed; each item of why-not is needed; and calls stand on links.
use Rattle.std.specs.Prelude.{◌≡◌, ℕ, true, List, map, ◌⊎◌}
use Rattle.std.specs.List.{Contains}
use Rattle.wy_kernel.specs.Form.{Statement, Stmt, Act, If, While, Do, For, the}
use Rattle.wy_kernel.specs.Program.{Program}
use Rattle.wy_kernel.specs.Statements.{statements_of}
use Rattle.wy_event.specs.declared.record.Cover.{Cover}
use Rattle.wy_event.specs.declared.record.Kind.{Kind}
use Rattle.wy_event.specs.declared.record.Kind.TheVariants as kind
use Rattle.wy_event.specs.Record.{Recorded}
use Rattle.wy_steps.specs.Sets.{Sets}
use Rattle.wy_meaning.specs.Run.{events, tail}
use Rattle.wy_meaning.specs.Kept.{covered_of}
use Rattle.wy_typing.specs.Programs.{IsProgram}
use Rattle.law_typed_states.specs.Typed.{KeepsLibrary}
use Rattle.wy_index.specs.Found.{caller_in}
use Rattle.wy_static.specs.declared.point.Point.{Point}
use Rattle.wy_static.specs.declared.point.Point.TheVariants as point
use Rattle.wy_static.specs.declared.point.LinkKind.TheVariants as link_kind
use Rattle.wy_static.specs.declared.point.Link.{Link}
use Rattle.wy_static.specs.declared.standing.Standing.{Standing}
use Rattle.wy_static.specs.Standings.{standings_of}
use Rattle.wy_static.specs.Links.{IsLink}
use Rattle.wy_static.specs.LookUps.{method_of}
use Rattle.wy_paths.specs.Leads.{Leads}
use Rattle.wy_whynot.specs.Chains.{IsChain}
use Rattle.wy_whynot.specs.Evidence.{Evidence}
use Rattle.wy_whynot.specs.Executed.{begins_at, executed, IsCrossed}
use Rattle.wy_whynot.specs.Items.{AreItems, links_of}
use Rattle.wy_whynot.specs.Laws.{NeverBegan}

-- ---- programs whose points can be told apart

-- a point at which a link of the program begins or ends
pub record IsPoint (p : Program) (q : Point) : Type 0 where
  pub link : Link
  pub is_link : IsLink p link
  pub is_end : (link.from ≡ q) ⊎ (link.to ≡ q)

abbrev pub IsStatementOrArm : Point → Type 0
IsStatementOrArm (point.Statement n) = Unit {0}
IsStatementOrArm (point.Arm site value) = Unit {0}
IsStatementOrArm _ = ⊥

-- an `if`, a `while`, a `do`, or a `for` with a condition: what records a Test at its site
abbrev pub HasTest : Act → Type 0
HasTest (If test a b) = Unit {0}
HasTest (While test body) = Unit {0}
HasTest (Do body test) = Unit {0}
HasTest (For inits (the e) updates body) = Unit {0}
HasTest _ = ⊥

abbrev pub IsTestAt : Statement → ℕ → Type 0
IsTestAt (Stmt number site askable reach act) s = HasTest act × (site ≡ s)

-- each statement and each arm stands in one body, and no arm has the site of the test of a statement
pub record StandsApart (p : Program) : Type 0 where
  pub bodies : (x y : Standing) → Contains (standings_of p) x → Contains (standings_of p) y → x.point ≡ y.point → IsStatementOrArm x.point → x.method ≡ y.method
  pub tests : (x : Statement) (site value : ℕ) → Contains (statements_of p) x → IsTestAt x site → IsPoint p (point.Arm site value) → ⊥

-- it holds of each program that fits its types, keeps the library and has its points apart, as the program of each text does
abbrev pub OfPrograms : (Program → Type 0) → Type 0
OfPrograms Q = (p : Program) → IsProgram p → KeepsLibrary p → StandsApart p → Q p

-- ---- runs

-- the covers are those of the run, as they are kept
abbrev pub AreCoversOf : Sets → Program → List ℕ → ℕ → List Cover → Type 0
AreCoversOf A p input budget covers = map covered_of covers ≡ (tail A p input budget).coverage

-- zero or more links of the program that were crossed lead to the point from Start
abbrev pub IsReachedByCrossed : Program → List Recorded → List Cover → Point → Type 0
IsReachedByCrossed p rs covers q = (links : List Link) × Leads (λ l. IsLink p l × IsCrossed p rs covers l) point.Start links q

-- so it is for each point of the program that was executed
abbrev pub ExecutedAreReached : Program → List Recorded → List Cover → Type 0
ExecutedAreReached p rs covers = (q : Point) → IsPoint p q → executed rs covers q ≡ true → IsReachedByCrossed p rs covers q

abbrev pub ExecutedPointsAreReached : Sets → Program → Type 0
ExecutedPointsAreReached A p = (input : List ℕ) (budget : ℕ) (covers : List Cover) → AreCoversOf A p input budget covers → ExecutedAreReached p (events A p input budget) covers

-- ---- items

-- a chain to the statement that has the link and no other of the items
pub record IsNeeded (p : Program) (n : ℕ) (items : List Evidence) (l : Link) : Type 0 where
  pub chain : List Link
  pub is_chain : IsChain p (point.Statement n) chain
  pub has : Contains chain l
  pub alone : (k : Link) → Contains chain k → Contains (links_of items) k → k ≡ l

-- for each item of a statement that never began some chain has it and no other item
abbrev pub EachItemIsNeeded : Sets → Program → Type 0
EachItemIsNeeded A p =
    (input : List ℕ) (budget : ℕ) (covers : List Cover) (n : ℕ) (items : List Evidence) → AreCoversOf A p input budget covers → NeverBegan covers n
    → AreItems p (events A p input budget) covers n items → (l : Link) → Contains (links_of items) l → IsNeeded p n items l

-- ---- calls

abbrev pub IsCallOrInit : Kind → Type 0
IsCallOrInit kind.Call = Unit {0}
IsCallOrInit kind.Init = Unit {0}
IsCallOrInit _ = ⊥

-- the event stands at the site of a Call link to what it begins, in the body of the link's owner, which is executed
pub record StandsOnLink (p : Program) (rs : List Recorded) (covers : List Cover) (r : Recorded) : Type 0 where
  pub link : Link
  pub is_link : IsLink p link
  pub is_call : link.kind ≡ link_kind.Call
  pub begins : begins_at link.to r ≡ true
  pub site : r.site ≡ link.site
  pub caller : caller_in rs r.frame ≡ method_of p link.from
  pub executed : executed rs covers link.from ≡ true

abbrev pub CallsStandOnLinks : Sets → Program → Type 0
CallsStandOnLinks A p =
    (input : List ℕ) (budget : ℕ) (covers : List Cover) → AreCoversOf A p input budget covers
    → (r : Recorded) → Contains (events A p input budget) r → IsCallOrInit r.kind → StandsOnLink p (events A p input budget) covers r
