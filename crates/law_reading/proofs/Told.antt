-- The value that bytes tell, by the form that is wanted where they stand; and that a value which may stand is told as it is.
use Rattle.std.proofs.Common.{◌≡◌, ℕ, Bool, true, false, cond, List, refl, sym, ap}
use Rattle.std.specs.Prelude.{nat_le}
use Rattle.wy_value.specs.declared.value.Value.{Value}
use Rattle.wy_value.specs.declared.value.Value.TheVariants as val
use Rattle.wy_event.specs.declared.record.Kind.{Kind}
use Rattle.wy_event.specs.declared.record.Kind.TheVariants as kind
use Rattle.wy_event.specs.declared.record.Version.{Version}
use Rattle.wy_event.specs.declared.record.Version.TheVariants as version
use Rattle.wy_fitting.specs.Fits.{told_arm, told_truth, told_value}
use Rattle.wy_payload.specs.declared.ranges.Ranges.{Ranges}
use Rattle.wy_payload.specs.declared.known.Known.{Known}
use Rattle.wy_payload.specs.declared.value.ValueForm.{ValueForm}
use Rattle.wy_payload.specs.declared.value.ValueForm.TheVariants as form
use Rattle.wy_payload.specs.Rules.{brackets_unit}
use Rattle.wy_payload.specs.Values.{value_form}
use Rattle.law_reading.specs.Readable.{ValueMayStand}
use Rattle.law_reading.proofs.SpelledValues.{is_bit}

abbrev pub told_as : Version → ValueForm → Value → Value
told_as v form.Arm x = told_arm v x
told_as v _ x = told_truth v x

abbrev pub HasValue : Kind → Type 0
HasValue kind.Text = ⊥
HasValue _ = Unit {0}

of_new : (v : Version) (x : Value) (b : Bool) → told_as v (cond b form.Length form.Nothing) x ≡ told_truth v x
of_new v x true = refl
of_new v x false = refl

pub told_by_form : (v : Version) (k : Kind) (entity : ℕ) (x : Value) → HasValue k → told_as v (value_form k entity) x ≡ told_value v k x
told_by_form v kind.New entity x has = of_new v x (nat_le brackets_unit entity)
told_by_form v kind.Text entity x has = absurd has
told_by_form v _ entity x has = refl

never : false ≡ true → ⊥
never e = cc

pub told_stays : (r : Ranges) (earlier : List Known) (v : Version) (wanted : ValueForm) (x : Value) → ValueMayStand r earlier wanted x → told_as v wanted x ≡ x
told_stays r earlier version.One form.Arm (val.Arm n) may = ap val.Arm (sym (is_bit n may.there))
told_stays r earlier version.One form.Arm _ may = absurd (never may.form)
told_stays r earlier version.One _ (val.Arm n) may = absurd (never may.form)
told_stays r earlier version.One _ x may = refl
told_stays r earlier version.Two form.Arm x may = refl
told_stays r earlier version.Two _ x may = refl
