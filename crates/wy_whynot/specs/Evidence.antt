-- What a run shows of a link that it did not cross.
use Rattle.std.specs.Prelude.{ℕ, Bool, true, false, not, ◌&&◌, ◌==◌, if◌then◌else◌, List, [], ◌∷◌, Option, Some, filter, map}
use Rattle.std.specs.Prelude.{None as Absent}
use Rattle.wy_kernel.specs.Program.{Program}
use Rattle.wy_event.specs.declared.record.Cover.{Cover}
use Rattle.wy_event.specs.Record.{Recorded}
use Rattle.wy_kernel.specs.View.{NONE}
use Rattle.wy_index.specs.declared.found.Hit.{Hit}
use Rattle.wy_index.specs.Found.{hits_in, is_call}
use Rattle.wy_static.specs.declared.point.Point.{Point}
use Rattle.wy_static.specs.declared.point.Point.TheVariants as point
use Rattle.wy_static.specs.declared.point.LinkKind.{LinkKind}
use Rattle.wy_static.specs.declared.point.LinkKind.TheVariants as kind
use Rattle.wy_static.specs.declared.point.Link.{Link}
use Rattle.wy_static.specs.LookUps.{around_of, method_of}
use Rattle.wy_whynot.specs.declared.item.Item.{Item}
use Rattle.wy_whynot.specs.declared.item.Made.{Made}
use Rattle.wy_whynot.specs.Executed.{cover_of, is_test, is_value}

-- ---- tests

-- the tests of an arm of an expression stand at its own site, those of a statement at that of the
-- statement, which is the link's
abbrev pub site_of_tests : Link → Point → ℕ
site_of_tests l (point.Arm site value) = site
site_of_tests l _ = l.site

abbrev pub gave_another : ℕ → Hit → Bool
gave_another n hit = is_test hit.kind && not (is_value n hit.value)

abbrev pub events_of : List Hit → List ℕ
events_of hits = map (λ hit. hit.event) hits

abbrev pub arm_of : LinkKind → Option ℕ
arm_of (kind.Arm n) = Some n
arm_of _ = Absent

abbrev pub tests_at : Option ℕ → List Hit → List ℕ
tests_at (Some n) hits = events_of (filter (gave_another n) hits)
tests_at Absent hits = []

-- the tests, in order, that gave another value than that of the link's arm
unfoldable pub tests_of : Link → List Recorded → List ℕ
tests_of l rs = tests_at (arm_of l.kind) (hits_in rs (site_of_tests l l.to))

-- ---- calls

-- a call from a body
abbrev pub is_call_from : ℕ → Hit → Bool
is_call_from body hit = is_call hit.kind && (hit.caller == body)

abbrev pub made_by : Hit → Made
made_by hit = record { method = hit.entity; event = hit.event }

abbrev pub has_another : ℕ → Made → Bool
has_another method made = not (made.method == method)

-- the targets of calls, each with its first event, in the order of these events
unfoldable pub targets_of : List Hit → List Made
targets_of [] = []
targets_of (call ∷ calls) = made_by call ∷ filter (has_another call.entity) (targets_of calls)

abbrev pub is_calling : LinkKind → Bool
is_calling kind.Call = true
is_calling _ = false

abbrev pub is_entry : Point → Bool
is_entry (point.Entry method) = true
is_entry _ = false

abbrev pub calls_method : Link → Bool
calls_method l = is_calling l.kind && is_entry l.to

-- the methods that were called at the site of a link that calls one, from the body in which its
-- owner stands
unfoldable pub made_of : Link → List Recorded → ℕ → List Made
made_of l rs body =
    if calls_method l then targets_of (filter (is_call_from body) (hits_in rs l.site)) else []

-- ---- causes

-- the cause of what stands in no statement is that of one that the end of the run found going on
abbrev pub GOING_ON : ℕ
GOING_ON = 4294967294

unfoldable pub cause_of : List Cover → ℕ → ℕ
cause_of covers n = if n == NONE then GOING_ON else (cover_of covers n).cause

-- ---- evidence

-- a link with its evidence
pub record Evidence : Type 0 where
  pub link : Link
  pub tests : List ℕ
  pub made : List Made
  pub cause : ℕ

-- what an item says
abbrev pub evidence_in : Item → Evidence
evidence_in item = record {
  link = item.link;
  tests = item.tests.items;
  made = item.made.items;
  cause = item.cause;
}

-- the tests of its arm, the calls at its site, and the cause of the statement that its source is
-- or stands in
abbrev pub evidence : Program → List Recorded → List Cover → Link → Evidence
evidence p rs covers l = record {
  link = l;
  tests = tests_of l rs;
  made = made_of l rs (method_of p l.from);
  cause = cause_of covers (around_of p l.from);
}
