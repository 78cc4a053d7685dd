-- What a run executed and crossed, by its records and by what is known of its statements.
use Rattle.std.specs.Prelude.{◌≡◌, ℕ, Bool, true, false, not, ◌&&◌, ◌==◌, List, Option, Some, slice_get}
use Rattle.std.specs.Prelude.{None as Absent}
use Rattle.std.specs.List.{Contains, list_any}
use Rattle.wy_value.specs.declared.value.Value.{Value}
use Rattle.wy_value.specs.declared.value.Value.TheVariants as value
use Rattle.wy_kernel.specs.Program.{Program}
use Rattle.wy_event.specs.declared.record.Cover.{Cover}
use Rattle.wy_event.specs.declared.record.Kind.{Kind}
use Rattle.wy_event.specs.declared.record.Kind.TheVariants as event
use Rattle.wy_event.specs.Record.{Recorded}
use Rattle.wy_kernel.specs.View.{NONE}
use Rattle.wy_index.specs.declared.found.Hit.{Hit}
use Rattle.wy_index.specs.Found.{caller_in, hits_in, is_call_of, is_init_of}
use Rattle.wy_static.specs.declared.point.Point.{Point}
use Rattle.wy_static.specs.declared.point.Point.TheVariants as point
use Rattle.wy_static.specs.declared.point.LinkKind.{LinkKind}
use Rattle.wy_static.specs.declared.point.LinkKind.TheVariants as kind
use Rattle.wy_static.specs.declared.point.Link.{Link}
use Rattle.wy_static.specs.LookUps.{method_of}

-- ---- executed

abbrev pub cover_or_none : Option Cover → Cover
cover_or_none (Some cover) = cover
cover_or_none Absent = record { begins = 0; ends = 0; first = NONE; cause = NONE }

-- what is known of a statement; of one that isn't there, that it never began
abbrev pub cover_of : List Cover → ℕ → Cover
cover_of covers n = cover_or_none (slice_get covers n)

abbrev pub is_test : Kind → Bool
is_test event.Test = true
is_test _ = false

abbrev pub is_catch : Kind → Bool
is_catch event.Catch = true
is_catch _ = false

-- the value is that arm
abbrev pub is_value : ℕ → Value → Bool
is_value n (value.Arm m) = n == m
is_value n _ = false

abbrev pub gave : ℕ → Hit → Bool
gave n hit = is_test hit.kind && is_value n hit.value

abbrev pub caught : Hit → Bool
caught hit = is_catch hit.kind

-- a statement is executed if it began; an entry, an initialization and a catch if its event is
-- there; an arm if its test gave its value
unfoldable pub executed : List Recorded → List Cover → Point → Bool
executed rs covers point.Start = true
executed rs covers (point.Entry method) = list_any (is_call_of method) rs
executed rs covers (point.Init class) = list_any (is_init_of class) rs
executed rs covers (point.Statement n) = not ((cover_of covers n).begins == 0)
executed rs covers (point.Arm site value) = list_any (gave value) (hits_in rs site)
executed rs covers (point.Catch site) = list_any caught (hits_in rs site)

-- ---- crossed

-- an event is the call, or the initialization, that begins at a point
abbrev pub begins_at : Point → Recorded → Bool
begins_at (point.Entry method) r = is_call_of method r
begins_at (point.Init class) r = is_init_of class r
begins_at _ r = false

-- a Call or Init of the link's target stands at its site, in the body in which its owner stands
pub record IsCalled (p : Program) (rs : List Recorded) (l : Link) : Type 0 where
  pub event : Recorded
  pub there : Contains rs event
  pub begins : begins_at l.to event ≡ true
  pub site : event.site ≡ l.site
  pub caller : caller_in rs event.frame ≡ method_of p l.from

abbrev pub IsCrossedAs : LinkKind → Program → List Recorded → List Cover → Link → Type 0
IsCrossedAs kind.Call p rs covers l = IsCalled p rs l
IsCrossedAs _ p rs covers l = (executed rs covers l.from ≡ true) × (executed rs covers l.to ≡ true)

-- a call is crossed if it was made; every other link if both its ends are executed
abbrev pub IsCrossed : Program → List Recorded → List Cover → Link → Type 0
IsCrossed p rs covers l = IsCrossedAs l.kind p rs covers l
