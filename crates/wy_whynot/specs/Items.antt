-- Why a statement never began: the links on the ways to it that were reached and not crossed, with
-- their evidence.
use Rattle.std.specs.Prelude.{◌≡◌, ◌≢◌, ℕ, true, false, List, Result, Ok, Err, Vec, map, ◌↔◌}
use Rattle.std.specs.List.{Contains}
use Rattle.std.specs.List.Sorted.{IsStrictlySortedBy}
use Rattle.std.specs.declared.alloc.Global.{Global}
use Rattle.wy_kernel.specs.Program.{Program}
use Rattle.wy_event.specs.declared.record.Cover.{Cover}
use Rattle.wy_event.specs.Record.{Recorded}
use Rattle.wy_static.specs.declared.point.Point.TheVariants as point
use Rattle.wy_static.specs.declared.point.Link.{Link}
use Rattle.wy_static.specs.Links.{IsLink}
use Rattle.wy_whynot.specs.declared.item.Item.{Item}
use Rattle.wy_whynot.specs.declared.item.WhynotError.{WhynotError}
use Rattle.wy_whynot.specs.declared.item.WhynotError.TheVariants as error
use Rattle.wy_paths.specs.Leads.{Leads}
use Rattle.wy_paths.specs.Order.{item_cmp}
use Rattle.wy_whynot.specs.Chains.{IsReached}
use Rattle.wy_whynot.specs.Evidence.{Evidence, evidence, evidence_in}
use Rattle.wy_whynot.specs.Executed.{cover_of, executed, IsCrossed}

-- ---- blocked links

-- a link into a point that was not executed
abbrev pub IsIdle : Program → List Recorded → List Cover → Link → Type 0
IsIdle p rs covers l = IsLink p l × (executed rs covers l.to ≡ false)

-- a link was reached and not crossed, and from its target links lead to the statement through
-- points alone that were not executed
pub record IsBlocked (p : Program) (rs : List Recorded) (covers : List Cover) (n : ℕ) (l : Link)
    : Type 0 where
  pub is_link : IsLink p l
  pub uncrossed : IsCrossed p rs covers l → ⊥
  pub begun : executed rs covers l.from ≡ true
  pub reached : IsReached p l.from
  pub never : executed rs covers l.to ≡ false
  pub onward : List Link
  pub leads : Leads (IsIdle p rs covers) l.to onward (point.Statement n)

-- ---- items

-- all links that are blocked for a statement, in order
pub record AreBlocked (p : Program) (rs : List Recorded) (covers : List Cover) (n : ℕ)
    (links : List Link) : Type 0 where
  pub exact : (l : Link) → Contains links l ↔ IsBlocked p rs covers n l
  pub in_order : IsStrictlySortedBy item_cmp links

abbrev pub links_of : List Evidence → List Link
links_of items = map (λ i. i.link) items

-- the blocked links of a statement, in order, each with its evidence
pub record AreItems (p : Program) (rs : List Recorded) (covers : List Cover) (n : ℕ)
    (items : List Evidence) : Type 0 where
  pub blocked : AreBlocked p rs covers n (links_of items)
  pub evident : items ≡ map (evidence p rs covers) (links_of items)

-- ---- the answer

-- a statement ran so often, first at that moment
pub record HasRun (covers : List Cover) (n count first : ℕ) : Type 0 where
  pub began : (cover_of covers n).begins ≢ 0
  pub count_is : count ≡ (cover_of covers n).begins
  pub first_is : first ≡ (cover_of covers n).first

-- a statement that ran has no answer; memory can run out at any
abbrev pub WhynotIs : Program → List Recorded → List Cover → ℕ
    → Result (Vec Item Global) WhynotError → Type 0
WhynotIs p rs covers n (Ok items) =
    ((cover_of covers n).begins ≡ 0) × AreItems p rs covers n (map evidence_in items.items)
WhynotIs p rs covers n (Err (error.Ran count first)) = HasRun covers n count first
WhynotIs p rs covers n (Err error.NoMemory) = Unit {0}
