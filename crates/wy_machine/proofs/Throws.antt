-- The Throws that the state has are those of the records.
use Rattle.std.proofs.Common.{◌≡◌, ◌≢◌, ◌⊎◌, ◌∙◌, ◌<◌, ◌≤◌, ◌-◌, ◌++◌, ℕ, List, [], ◌∷◌, length, map, reverse, get_or, Option, Some, refl, sym, ap, subst, arith, inl, inr}
use Rattle.std.specs.Prelude.{None as Absent, slice_get, nat_eq, if◌then◌else◌}
use Rattle.std.proofs.lemmas.Bool.Decides.{eqb_tells}
use Rattle.std.proofs.lemmas.List.{get_or-reverse, length-append, length-map, length-reverse}
use Rattle.std.proofs.lemmas.Option.{slice_get_cases, slice_get_past, slice_get_within, get_or_from_slice_get}
use mathlib.Core.List.{reverse-cons, map-append}
use Rattle.wy_value.specs.declared.value.Value.{Value}
use Rattle.wy_value.specs.declared.value.Value.TheVariants.{Object}
use Rattle.wy_event.specs.Record.{Recorded}
use Rattle.wy_kernel.specs.View.{present}
use Rattle.wy_event.specs.declared.record.Kind.{Kind}
use Rattle.wy_event.specs.declared.record.Kind.TheVariants as kinds
use Rattle.wy_heap.proofs.Slots.{get-append, get-append_past}
use Rattle.wy_heap.specs.Heap.{code}
use Rattle.wy_kernel.specs.Program.{Program, class_of_type, type_of_code}
use Rattle.wy_steps.specs.Sets.{nothing}
use Rattle.wy_steps.specs.State.{Noted, State}
use Rattle.wy_steps.specs.Steps.{event_in}
use Rattle.wy_meaning.specs.World.{object_in, type_in}
use Rattle.wy_meaning.specs.Kept.{kept_thrown}
use Rattle.wy_meaning.specs.Run.{thrown_in}
use Rattle.wy_state.specs.declared.parts.Throw.{Throw}
use Rattle.wy_state.specs.Agrees.{Agrees, Shape, throw_at, throws_in}
use Rattle.wy_state.proofs.Records.{newest_event, older_event}
use Rattle.wy_machine.specs.Ended.{events_in, last_thrown}

-- ---- an event by its number, from the oldest and from the newest

numbered_at : (xs : List Recorded) (x : Recorded) (n : ℕ) → slice_get (xs ++ x ∷ []) n ≡ (if nat_eq n (length xs) then Some x else slice_get xs n)
numbered_at xs x n = elim (eqb_tells n (length xs)) as (λ _. slice_get (xs ++ x ∷ []) n ≡ (if nat_eq n (length xs) then Some x else slice_get xs n)) [
  | inl same ↦ rw (same.0, same.1) (ap (λ k. slice_get (xs ++ x ∷ []) k) (omega arith) ∙ get-append_past xs (x ∷ []) 0)
  | inr other ↦ rw other.0 (others (slice_get_cases xs n).1 other.1)
]
  where
    others : ((y : Recorded) × (n < length xs) × (slice_get xs n ≡ Some y) × (get_or xs n y ≡ y)) ⊎ ((length xs ≤ n) × (slice_get xs n ≡ Absent)) → n ≢ length xs → slice_get (xs ++ x ∷ []) n ≡ slice_get xs n
    others (inl has) apart = get-append xs (x ∷ []) n has.1
    others (inr past) apart = slice_get_past (xs ++ x ∷ []) n (omega (arith, past.0, apart, length-append xs (x ∷ []))) ∙ sym past.1

pub event_at_is : (noted : List (Noted nothing)) (n : ℕ) → slice_get (map (λ e. e.event) (reverse noted)) n ≡ event_in noted n
unfolding event_in
event_at_is [] n = slice_get_past [] n (omega arith)
event_at_is (e ∷ rest) n =
    ap (λ xs. slice_get xs n) (ap (map (λ (x : Noted nothing). x.event)) (reverse-cons e rest) ∙ map-append (λ (x : Noted nothing). x.event) (reverse rest) (e ∷ []))
    ∙ numbered_at (map (λ (x : Noted nothing). x.event) (reverse rest)) e.event n
    ∙ rw (length-map (reverse rest) (λ (x : Noted nothing). x.event), length-reverse rest) (ap (λ o. if nat_eq n (length rest) then Some e.event else o) (event_at_is rest n))

-- ---- the Throws

-- each of a list has it
abbrev Each : (Throw → Type 0) → List Throw → Type 0
Each P [] = Unit {0}
Each P (t ∷ ts) = P t × Each P ts

each_at : (P : Throw → Type 0) (ts : List Throw) (i : ℕ) (d : Throw) → i < length ts → Each P ts → P (get_or ts i d)
each_at P [] i d below all = absurd (omega (arith, below))
each_at P (t ∷ ts) ℕ.zero d below all = all.0
each_at P (t ∷ ts) (ℕ.suc i) d below all = each_at P ts i d (omega (arith, below)) all.1

-- it is a Throw of these records
record IsOf (noted : List (Noted nothing)) (t : Throw) : Type 0 where
  pub below : t.event < length noted
  pub event : Recorded
  pub is : event_in noted t.event ≡ Some event
  pub site : event.site ≡ t.site
  pub value : event.value ≡ t.value

still : (e : Noted nothing) (rest : List (Noted nothing)) (t : Throw) → IsOf rest t → IsOf (e ∷ rest) t
still e rest t has = record {
  below = omega (arith, has.below);
  event = has.event;
  is = older_event e rest t.event (λ is. omega (arith, has.below, is)) ∙ has.is;
  site = has.site;
  value = has.value;
}

all_still : (e : Noted nothing) (rest : List (Noted nothing)) (ts : List Throw) → Each (IsOf rest) ts → Each (IsOf (e ∷ rest)) ts
all_still e rest [] all = tt
all_still e rest (t ∷ ts) all = (still e rest t all.0, all_still e rest ts all.1)

of_kind : (P : Throw → Type 0) (k : Kind) (n site : ℕ) (v : Value) (ts : List Throw) → P (record { event = n; site = site; value = v }) → Each P ts → Each P (throw_at n k site v ts)
of_kind P kinds.Init n site v ts new all = all
of_kind P kinds.New n site v ts new all = all
of_kind P kinds.Call n site v ts new all = all
of_kind P kinds.Bind n site v ts new all = all
of_kind P kinds.Set n site v ts new all = all
of_kind P kinds.Test n site v ts new all = all
of_kind P kinds.Text n site v ts new all = all
of_kind P kinds.Read n site v ts new all = all
of_kind P kinds.Print n site v ts new all = all
of_kind P kinds.Return n site v ts new all = all
of_kind P kinds.Jump n site v ts new all = all
of_kind P kinds.Throw n site v ts new all = (new, all)
of_kind P kinds.Catch n site v ts new all = all

all_of : (noted : List (Noted nothing)) → Each (IsOf noted) (throws_in noted)
all_of [] = tt
all_of (e ∷ rest) = of_kind (IsOf (e ∷ rest)) e.event.kind (length rest) e.event.site e.event.value (throws_in rest)
    (record { below = omega arith; event = e.event; is = newest_event e rest; site = refl; value = refl })
    (all_still e rest (throws_in rest) (all_of rest))

-- one of a list that lies in reverse
one_of : (P : Throw → Type 0) (ts : List Throw) (i : ℕ) (t : Throw) → slice_get ts i ≡ Some t → Each P (reverse ts) → P t
one_of P ts i t is all =
    let below : i < length ts = slice_get_within ts i t is in
    let at : ℕ = length ts - 1 - i in
    let low : at < length (reverse ts) = omega (arith, below, length-reverse ts) in
    let same : get_or (reverse ts) at t ≡ t = get_or-reverse ts at t (omega (arith, below)) ∙ ap (λ k. get_or ts k t) (omega (arith, below)) ∙ get_or_from_slice_get ts i t t is in
    subst P same (each_at P (reverse ts) at t low all)

present_some : (n : ℕ) → n ≢ 4294967295 → present n ≡ Some n
unfolding present
present_some n some = elim (eqb_tells n 4294967295) as (λ _. present n ≡ Some n) [
  | inl same ↦ absurd (some same.1)
  | inr other ↦ rw other.0 refl
]

-- ---- what ended the run

-- by its record
by_record : (records : List Recorded) (found : Option Recorded) (e : Recorded) (n c class site : ℕ) → found ≡ Some e → e.site ≡ site → e.value ≡ Object n → type_in (slice_get records n) ≡ type_of_code c →
    class ≡ class_of_type (type_of_code c) → class ≢ 4294967295 → site ≢ 4294967295 → kept_thrown (record { class = class; site = site }) ≡ thrown_in records found
unfolding thrown_in object_in kept_thrown
by_record records found e n c class site is sited value typed same some known = rw (present_some class some, present_some site known, is, value, typed, same, sited) refl

module _ (p : Program) (m : Shape) (s : State nothing) (a : Agrees p m s) (ts : List Throw) (all : m.throws ≡ reverse ts) (i : ℕ) (t : Throw) (at : slice_get ts i ≡ Some t) where
  has : IsOf s.noted t
  has = one_of (IsOf s.noted) ts i t at (subst (Each (IsOf s.noted)) (sym a.throws ∙ all) (all_of s.noted))

  pub thrown_is : (n c class : ℕ) → t.value ≡ Object n → code m.heap n ≡ Some c → class ≡ class_of_type (type_of_code c) → class ≢ 4294967295 → t.site ≢ 4294967295 →
      kept_thrown (record { class = class; site = t.site }) ≡ last_thrown s (Some t.event)
  thrown_is n c class value coded same some sited =
      let typed : type_in (slice_get (events_in s) n) ≡ type_of_code c = ap type_in (event_at_is s.noted n) ∙ a.codes n c coded in
      by_record (events_in s) (slice_get (events_in s) t.event) has.event n c class t.site (event_at_is s.noted t.event ∙ has.is) has.site (has.value ∙ value) typed same some sited

-- where there is none, neither its class nor its site is
pub none_thrown : (s : State nothing) (last : Option ℕ) → last ≡ Absent → kept_thrown (record { class = 4294967295; site = 4294967295 }) ≡ last_thrown s last
unfolding thrown_in kept_thrown present
none_thrown s last none = rw none refl
