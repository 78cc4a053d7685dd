-- The events of a run, as they are kept in memory: few, and each refers to events below it.
use Rattle.std.proofs.Common.{◌≡◌, ◌∙◌, ◌<◌, ◌≤◌, ◌^◌, ℕ, List, [], ◌∷◌, map, length, Option, Some, sym, ap, arith}
use Rattle.std.specs.Prelude.{None as Absent}
use Rattle.std.specs.Prelude.{slice_get, option_map}
use Rattle.std.proofs.lemmas.List.{length-map}
use Rattle.std.proofs.lemmas.Option.{slice_get-map}
use Rattle.wy_value.specs.declared.value.Value.{Value}
use Rattle.wy_value.specs.declared.value.Value.TheVariants as value
use Rattle.wy_event.specs.declared.record.Kind.{Kind}
use Rattle.wy_event.specs.declared.record.Event.{Event}
use Rattle.wy_event.specs.declared.record.Slot.{Slot}
use Rattle.wy_event.specs.declared.record.Slot.TheVariants as slot
use Rattle.wy_event.specs.declared.record.Use.{Use}
use Rattle.wy_event.specs.declared.record.Use.TheVariants as use_of
use Rattle.wy_event.specs.Record.{Recorded, recorded}
use Rattle.wy_kernel.specs.Limits.{event_limit}
use Rattle.law_shaped.specs.Shaped.{IsControl, IsFrame, Shaped, SlotFits, UseFits, UsesFit, ValueFits}
use Rattle.law_shaped.specs.Shaped as shaped
use Rattle.wy_view.specs.References.{AllRefersBelow, OptionBelow, RefersBelow, SlotBelow, UseBelow, UsesBelow, ValueBelow}

module _ (rs : List Recorded) (n : ℕ) where
  option_below : (IsKind : Kind → Type 0) (o : Option ℕ) → shaped.OptionBelow rs IsKind n o → OptionBelow n o
  option_below IsKind Absent fits = tt
  option_below IsKind (Some k) fits = fits.before

  value_below : (v : Value) → ValueFits rs n v → ValueBelow n v
  value_below (value.Object k) fits = fits.before
  value_below (value.Text k) fits = fits.before
  value_below _ fits = tt

  slot_below : (x : Slot) → SlotFits rs n x → SlotBelow n x
  slot_below (slot.Local frame i) fits = fits.before
  slot_below (slot.Field object f) fits = fits.before
  slot_below (slot.Elem array i) fits = fits.before
  slot_below _ fits = tt

  use_below : (u : Use) → UseFits rs n u → UseBelow n u
  use_below (use_of.Place x moment) fits = (slot_below x fits.0, fits.1)
  use_below (use_of.Value k) fits = fits.before
  use_below (use_of.Choice k) fits = fits.before

  uses_below : (us : List Use) → UsesFit rs n us → UsesBelow n us
  uses_below [] fits = tt
  uses_below (u ∷ us) fits = (use_below u fits.0, uses_below us fits.1)

  refers_below : (e : Recorded) → Shaped rs n e → RefersBelow n e
  refers_below e fits = record {
    frame = option_below IsFrame e.frame fits.frame;
    control = option_below IsControl e.control fits.control;
    slot = slot_below e.slot fits.slot;
    value = value_below e.value fits.value;
    uses = uses_below e.uses fits.uses;
  }

module _ (kept : List Event) (rs : List Recorded) (same : map recorded kept ≡ rs) where
  pub all_refer_below : ((n : ℕ) (e : Recorded) → slice_get rs n ≡ Some e → Shaped rs n e) → AllRefersBelow kept
  all_refer_below fits n e at = refers_below rs n (recorded e) (fits n (recorded e) (sym (ap (λ l. slice_get l n) same) ∙ slice_get-map recorded kept n ∙ ap (option_map recorded) at))

  pub as_many : length kept ≡ length rs
  as_many = sym (length-map kept recorded) ∙ ap length same

  pub few : length rs ≤ event_limit → length kept < 2 ^ 32
  few within = omega (arith, as_many, within)
