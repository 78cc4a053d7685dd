-- What the records of a run print, told of each by all records and by those before it.
use Rattle.std.proofs.Common.{◌≡◌, ◌∙◌, refl, sym, ap, arith, subst, ℕ, zero, suc, ◌<◌, List, [], ◌∷◌, ◌++◌, length, Some, append_assoc}
use Rattle.std.specs.Prelude.{slice_get, if◌then◌else◌}
use Rattle.std.specs.List.{flat_map}
use Rattle.std.proofs.lemmas.List.Concat.{flat_map-cons}
use Rattle.wy_kernel.specs.Program.{Program}
use Rattle.wy_value.specs.declared.value.Value.{Value}
use Rattle.wy_value.specs.declared.value.Value.TheVariants as val
use Rattle.wy_value.specs.Encoding.{utf8_of}
use Rattle.wy_event.specs.declared.record.Kind.{Kind}
use Rattle.wy_event.specs.declared.record.Kind.TheVariants as kind
use Rattle.wy_event.specs.Record.{Recorded}
use Rattle.wy_meaning.specs.Text.{line_end}
use Rattle.wy_meaning.specs.World.{units_in}
use Rattle.wy_index.specs.Found.{is_print}
use Rattle.wy_telling.specs.Printed.{printed_units, ends_line, printed_by, printed}
use Rattle.law_shaped.specs.Shaped.{Shaped, ValueFits}
use Rattle.law_in_range.specs.InRange.{units_seen, written_as, written_by, written}

there_before : (front behind : List Recorded) (k : ℕ) → k < length front → slice_get (front ++ behind) k ≡ slice_get front k
there_before [] behind k less = absurd (omega (arith, less))
there_before (e ∷ front) behind zero less = refl
there_before (e ∷ front) behind (suc k) less = there_before front behind k (omega (arith, less))

seam : (front : List Recorded) (e : Recorded) (behind : List Recorded) → slice_get (front ++ e ∷ behind) (length front) ≡ Some e
seam [] e behind = refl
seam (x ∷ front) e behind = seam front e behind

module _ (p : Program) (rs : List Recorded) where
  -- a text was made before it is printed
  units_same : (front behind : List Recorded) → rs ≡ front ++ behind → (v : Value) → ValueFits rs (length front) v → printed_units p rs v ≡ units_seen p (slice_get front) v
  unfolding printed_units
  units_same front behind e (val.Text k) h = ap units_in (ap (λ (l : List Recorded). slice_get l k) e ∙ there_before front behind k h.before)
  units_same front behind e (val.Fixed k) h = refl
  units_same front behind e val.None h = refl
  units_same front behind e (val.Bool x) h = refl
  units_same front behind e (val.Byte x) h = refl
  units_same front behind e (val.Short x) h = refl
  units_same front behind e (val.Char x) h = refl
  units_same front behind e (val.Int x) h = refl
  units_same front behind e (val.Long x) h = refl
  units_same front behind e val.Null h = refl
  units_same front behind e (val.Object x) h = refl
  units_same front behind e (val.Arm x) h = refl

  one_same : (front behind : List Recorded) → rs ≡ front ++ behind → (k : Kind) (site : ℕ) (v : Value) → ValueFits rs (length front) v
      → (if is_print k then utf8_of (printed_units p rs v) ++ line_end (ends_line p site) else []) ≡ written_as p (ends_line p) (slice_get front) k site v
  one_same front behind e kind.Print site v h = ap (λ (l : List ℕ). utf8_of l ++ line_end (ends_line p site)) (units_same front behind e v h)
  one_same front behind e _ site v h = refl

  module _ (shaped : (n : ℕ) (e : Recorded) → slice_get rs n ≡ Some e → Shaped rs n e) where
    -- of the records from one on
    printed_from : (front behind : List Recorded) → rs ≡ front ++ behind → flat_map (printed_by p rs) behind ≡ written p (ends_line p) front behind
    unfolding written printed_by
    printed_from front [] e = refl
    printed_from front (x ∷ rest) e =
        let there : slice_get rs (length front) ≡ Some x = ap (λ (l : List Recorded). slice_get l (length front)) e ∙ seam front x rest in
        let one = one_same front (x ∷ rest) e x.kind x.site x.value (shaped (length front) x there).value in
        flat_map-cons (printed_by p rs) x rest
        ∙ ap (λ (l : List ℕ). l ++ flat_map (printed_by p rs) rest) one
        ∙ ap (λ (l : List ℕ). written_by p (ends_line p) (slice_get front) x ++ l) (printed_from (front ++ x ∷ []) rest (e ∙ sym (append_assoc front (x ∷ []) rest)))

    pub prints_written : printed p rs ≡ written p (ends_line p) [] rs
    prints_written = printed_from [] rs refl
