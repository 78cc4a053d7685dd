-- The places at which two runs part, and what holds below them.
use Rattle.std.proofs.Common.{◌≡◌, ◌∙◌, ◌<◌, ◌≤◌, ℕ, List, [], ◌∷◌, zero, suc, Option, Some, refl, sym, ap, ap₂, map, subst, arith}
use Rattle.std.specs.Prelude.{None as Absent}
use Rattle.std.specs.Prelude.{slice_get}
use Rattle.std.proofs.lemmas.Option.{same_Some}
use Rattle.wy_event.specs.declared.record.Event.{Event}
use Rattle.wy_event.specs.Record.{Recorded, recorded}
use Rattle.wy_ask.specs.Asked.{owners}
use Rattle.wy_view.specs.References.{AllRefersBelow, RefersBelow}
use Rattle.wy_compare.specs.declared.look.Look.{Look}
use Rattle.wy_compare.specs.declared.look.Look.TheVariants.{Values, Path}
use Rattle.wy_compare.specs.Compared.{parted_text}
use Rattle.wy_compare.specs.Laws.{OneTextIsDue, SameAnswersBelow, ValuesPartFirst}
use Rattle.wy_compare.specs.Parting.{Parts, SameAt}
use Rattle.wy_compare.proofs.Agreeing.{closure_same, data_same}
use Rattle.wy_compare.proofs.Lines.{why_same}

-- ---- one place

one_place : (look : Look) (good bad : List Recorded) (a b : Option ℕ) → Parts look good bad a → Parts look good bad b → a ≡ b
one_place look good bad (Some n) (Some m) v w =
    let above : n < m → ⊥ = λ lt. v.here (w.before n lt) in
    let below : m < n → ⊥ = λ lt. w.here (v.before m lt) in
    let same : n ≡ m = omega (arith, above, below) in
    ap Some same
one_place look good bad (Some n) Absent v w = absurd (v.here (w n))
one_place look good bad Absent (Some m) v w = absurd (w.here (v m))
one_place look good bad Absent Absent v w = refl

pub one_text : OneTextIsDue
one_text p lines good bad alike name a b (found, are, is) (other, are_too, so) =
    is ∙ ap₂ (λ n m. parted_text p lines good bad alike name n m) (one_place Values good bad found.values other.values are.0 are_too.0) (one_place Path good bad found.paths other.paths are.1 are_too.1) ∙ sym so

-- ---- values first

step_of_same : (o q : Option Recorded) → SameAt Values o q → SameAt Path o q
step_of_same (Some a) (Some b) is = record { kind = ap (λ e. e.kind) is; site = ap (λ e. e.site) is; frame = ap (λ e. e.frame) is; entity = ap (λ e. e.entity) is }
step_of_same Absent Absent is = tt
step_of_same Absent (Some b) is = is
step_of_same (Some a) Absent is = is

pub values_first : ValuesPartFirst
values_first good bad n m v w = let none : m < n → ⊥ = λ lt. w.here (step_of_same _ _ (v.before m lt)) in omega (arith, none)

-- ---- answers below

one_record : (o q : Option Recorded) → SameAt Values o q → o ≡ q
one_record (Some a) (Some b) is = ap Some is
one_record Absent Absent is = refl
one_record Absent (Some b) is = absurd is
one_record (Some a) Absent is = absurd is

of_event : (events : List Event) (k : ℕ) (e : Recorded) → slice_get (map recorded events) k ≡ Some e → (x : Event) × (slice_get events k ≡ Some x) × (recorded x ≡ e)
of_event [] k e is = absurd cc
of_event (x ∷ events) zero e is = (x, refl, same_Some (recorded x) e is)
of_event (x ∷ events) (suc k) e is = of_event events k e is

record_refers : (events : List Event) → AllRefersBelow events → (k : ℕ) (e : Recorded) → slice_get (map recorded events) k ≡ Some e → RefersBelow k e
record_refers events below k e is = let found = of_event events k e is in subst (RefersBelow k) found.2 (below k found.0 found.1)

pub answers_below : SameAnswersBelow
answers_below p lines good bad n event below parts lt =
    let rs = map recorded good in
    let qs = map recorded bad in
    let agree : (k : ℕ) → k < n → slice_get rs k ≡ slice_get qs k = λ k less. one_record (slice_get rs k) (slice_get qs k) (parts.before k less) in
    let refers = record_refers good below in
    (closure_same (owners p) rs qs n agree refers event lt, data_same (owners p) rs qs n agree refers event lt, why_same p lines rs qs n agree refers event lt)
