-- Why the guards around a statement were not passed in a call: the links between regions that the scope
-- of the call reached and did not cross on the ways to it, with their evidence.
use Rattle.std.specs.Prelude.{◌≡◌, ℕ, true, false, List, Result, Ok, Err, Vec, map, Some, slice_get, ◌↔◌}
use Rattle.std.specs.List.{Contains}
use Rattle.std.specs.List.Sorted.{IsStrictlySortedBy}
use Rattle.std.specs.declared.alloc.Global.{Global}
use Rattle.wy_kernel.specs.Program.{Program}
use Rattle.wy_event.specs.Record.{Recorded}
use Rattle.wy_index.specs.Found.{caller_in}
use Rattle.wy_static.specs.declared.point.Point.{Point}
use Rattle.wy_static.specs.declared.point.Point.TheVariants as point
use Rattle.wy_static.specs.declared.point.LinkKind.{LinkKind}
use Rattle.wy_static.specs.declared.point.LinkKind.TheVariants as kind
use Rattle.wy_static.specs.declared.point.Link.{Link}
use Rattle.wy_static.specs.LookUps.{method_of}
use Rattle.wy_view.specs.View.{RefusedFor, Told}
use Rattle.wy_paths.specs.Frontier.{AreFrontier, IsFrontier}
use Rattle.wy_paths.specs.Order.{item_cmp}
use Rattle.wy_whynot.specs.Executed.{begins_at}
use Rattle.wy_scope.specs.declared.item.ScopeItem.{ScopeItem}
use Rattle.wy_scope.specs.declared.item.ScopeError.{ScopeError}
use Rattle.wy_scope.specs.declared.item.ScopeError.TheVariants as error
use Rattle.wy_scope.specs.Evidence.{Evidence, evidence, evidence_in}
use Rattle.wy_scope.specs.Graph.{IsScopedLink}
use Rattle.wy_scope.specs.Passing.{IsFirstPass, passed}
use Rattle.wy_scope.specs.Regions.{region_of}
use Rattle.wy_scope.specs.Scope.{entry_of, in_scope}

-- ---- blocked links

-- a Call or Init of the link's target in the scope stands at its site, in the body in which its source
-- stands
pub record IsCalledIn (p : Program) (rs : List Recorded) (call : ℕ) (l : Link) : Type 0 where
  pub number : ℕ
  pub event : Recorded
  pub there : slice_get rs number ≡ Some event
  pub scope : in_scope rs call number ≡ true
  pub begins : begins_at l.to event ≡ true
  pub site : event.site ≡ l.site
  pub caller : caller_in rs event.frame ≡ method_of p l.from

abbrev pub IsCrossedAs : LinkKind → Program → List Recorded → ℕ → Link → Type 0
IsCrossedAs kind.Call p rs call l = IsCalledIn p rs call l
IsCrossedAs _ p rs call l = passed p rs call l.to ≡ true

-- a call is crossed if it was made; every other link if its target is passed
abbrev pub IsCrossed : Program → List Recorded → ℕ → Link → Type 0
IsCrossed p rs call l = IsCrossedAs l.kind p rs call l

abbrev pub region_of_statement : Program → ℕ → Point
region_of_statement p n = region_of p (point.Statement n)

-- a link was not crossed; its source is passed and is the entry of the method that was called, or has
-- links to it from there; and from its target links lead to the statement's region through regions
-- alone that are not passed
pub record IsBlocked (p : Program) (rs : List Recorded) (call n : ℕ) (l : Link) : Type 0 where
  pub uncrossed : IsCrossed p rs call l → ⊥
  pub between : IsFrontier (IsScopedLink p) (passed p rs call) (entry_of rs call)
      (region_of_statement p n) l

-- ---- items

-- those among links at which what was passed ends on the ways to a region, if that was not passed
abbrev pub AreBlockedBetween : Program → List Recorded → ℕ → Point → List Link → List Link → Type 0
AreBlockedBetween p rs call region between links = passed p rs call region ≡ false
    → AreFrontier (Contains between) (passed p rs call) (entry_of rs call) region links

-- all links that are blocked for a statement, in order
pub record AreBlocked (p : Program) (rs : List Recorded) (call n : ℕ) (links : List Link)
    : Type 0 where
  pub exact : (l : Link) → Contains links l ↔ IsBlocked p rs call n l
  pub in_order : IsStrictlySortedBy item_cmp links

abbrev pub links_of : List Evidence → List Link
links_of items = map (λ i. i.link) items

-- the blocked links of a statement, in order, each with its evidence
pub record AreItems (p : Program) (rs : List Recorded) (call n : ℕ) (items : List Evidence)
    : Type 0 where
  pub blocked : AreBlocked p rs call n (links_of items)
  pub evident : items ≡ map (evidence p rs call) (links_of items)

-- ---- the answer

abbrev pub IsMissed : Program → List Recorded → ℕ → ℕ → Type 0
IsMissed p rs call n = passed p rs call (region_of_statement p n) ≡ false

-- a statement whose region is passed has no answer; memory can run out at any, and a view can refuse
abbrev pub ScopedIs : Program → List Recorded → ℕ → ℕ
    → Result (Vec ScopeItem Global) ScopeError → Type 0
ScopedIs p rs call n (Ok items) =
    IsMissed p rs call n × AreItems p rs call n (map evidence_in items.items)
ScopedIs p rs call n (Err (error.Passed event)) =
    IsFirstPass p rs call (region_of_statement p n) event
ScopedIs p rs call n (Err (error.View cause)) = Unit {0}
ScopedIs p rs call n (Err error.NoMemory) = Unit {0}

-- a refusal of the view is handed on with what rose; every other answer leaves the faults
abbrev pub KeepsView : {X : Type 0} → Result X ScopeError → Told → Told → Type 0
KeepsView (Ok x) old new = new.faults ≡ old.faults
KeepsView (Err (error.View cause)) old new = RefusedFor cause old new
KeepsView (Err (error.Passed event)) old new = new.faults ≡ old.faults
KeepsView (Err error.NoMemory) old new = new.faults ≡ old.faults
