-- Records whose numbers fit the bytes that a trace spells them in.
use Rattle.std.specs.Prelude.{◌≡◌, ◌==◌, if◌then◌else◌, ℕ, ◌<◌, ◌^◌, List, [], All, Option, IfSome, FitsSigned}
use Rattle.std.specs.Int.{w8, w16, w32, w64}
use Rattle.wy_value.specs.declared.value.Value.{Value}
use Rattle.wy_value.specs.declared.value.Value.TheVariants as val
use Rattle.wy_event.specs.declared.record.Kind.{Kind}
use Rattle.wy_event.specs.declared.record.Kind.TheVariants as kind
use Rattle.wy_event.specs.declared.record.Slot.{Slot}
use Rattle.wy_event.specs.declared.record.Slot.TheVariants as slots
use Rattle.wy_event.specs.declared.record.Use.{Use}
use Rattle.wy_event.specs.declared.record.Use.TheVariants as used
use Rattle.wy_event.specs.declared.record.Cover.{Cover}
use Rattle.wy_event.specs.declared.record.Tail.{Tail}
use Rattle.wy_event.specs.declared.record.Version.{Version}
use Rattle.wy_event.specs.declared.record.Version.TheVariants as version
use Rattle.wy_event.specs.Record.{Recorded}
use Rattle.wy_kernel.specs.View.{NONE}

-- four bytes
abbrev pub IsNumber : ℕ → Type 0
IsNumber n = n < 2 ^ 32

-- two bytes
abbrev pub IsUnit : ℕ → Type 0
IsUnit n = n < 2 ^ 16

-- a number that is there is not what stands for an absent one
abbrev pub IsPresent : Option ℕ → Type 0
IsPresent o = IfSome o (λ n. n < NONE)

abbrev pub SlotFits : Slot → Type 0
SlotFits slots.None = Unit {0}
SlotFits (slots.Local frame index) = IsNumber frame × IsNumber index
SlotFits (slots.Static field) = IsNumber field
SlotFits (slots.Field object field) = IsNumber object × IsNumber field
SlotFits (slots.Elem array index) = IsNumber array × IsNumber index

abbrev pub ValueFits : Value → Type 0
ValueFits (val.Byte z) = FitsSigned w8 z
ValueFits (val.Short z) = FitsSigned w16 z
ValueFits (val.Char unit) = IsUnit unit
ValueFits (val.Int z) = FitsSigned w32 z
ValueFits (val.Long z) = FitsSigned w64 z
ValueFits (val.Object n) = IsNumber n
ValueFits (val.Text n) = IsNumber n
ValueFits (val.Fixed n) = IsNumber n
ValueFits (val.Arm n) = IsNumber n
ValueFits _ = Unit {0}

abbrev pub UseFits : Use → Type 0
UseFits (used.Place slot moment) = SlotFits slot × IsNumber moment
UseFits (used.Value event) = IsNumber event
UseFits (used.Choice event) = IsNumber event

pub record Fits (e : Recorded) : Type 0 where
  pub site : IsNumber e.site
  pub frame : IsPresent e.frame
  pub control : IsPresent e.control
  pub entity : IsPresent e.entity
  pub slot : SlotFits e.slot
  pub value : ValueFits e.value
  pub units : All IsUnit e.units
  pub uses : All UseFits e.uses

abbrev pub AllFit : List Recorded → Type 0
AllFit rs = All Fits rs

-- ---- the end of a run

pub record CoverFits (c : Cover) : Type 0 where
  pub begins : IsNumber c.begins
  pub ends : IsNumber c.ends
  pub first : IsNumber c.first
  pub cause : IsNumber c.cause

pub record EndFits (t : Tail) : Type 0 where
  pub covers : All CoverFits t.coverage.statements
  pub last : IsNumber t.last
  pub steps : IsNumber t.steps
  pub events : IsNumber t.events
  pub uses : IsNumber t.uses
  pub output : IsNumber t.output

-- ---- what bytes tell

-- version 1 spells an arm as a boolean, which tells an arm in a Test and else a boolean
abbrev pub told_arm : Version → Value → Value
told_arm version.One (val.Arm n) = val.Arm (if n == 1 then 1 else 0)
told_arm version.One (val.Bool b) = val.Arm (if b then 1 else 0)
told_arm version.One x = x
told_arm version.Two x = x

abbrev pub told_truth : Version → Value → Value
told_truth version.One (val.Arm n) = val.Bool (n == 1)
told_truth version.One x = x
told_truth version.Two x = x

-- nothing of the value of a Text, and nothing of the units of any other event
abbrev pub told_value : Version → Kind → Value → Value
told_value v kind.Text x = val.None
told_value v kind.Test x = told_arm v x
told_value v _ x = told_truth v x

abbrev pub told_units : Kind → List ℕ → List ℕ
told_units kind.Text units = units
told_units _ units = []

-- the record that its bytes tell in a version
unfoldable pub told : Version → Recorded → Recorded
told v e = record {
  kind = e.kind;
  site = e.site;
  frame = e.frame;
  control = e.control;
  entity = e.entity;
  slot = e.slot;
  value = told_value v e.kind e.value;
  units = told_units e.kind e.units;
  uses = e.uses;
}

-- bytes tell all of it
abbrev pub IsTold : Version → Recorded → Type 0
IsTold v e = told v e ≡ e

abbrev pub AllTold : Version → List Recorded → Type 0
AllTold v rs = All (IsTold v) rs
