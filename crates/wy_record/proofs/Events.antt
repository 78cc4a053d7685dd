-- What is recorded of two events is the same exactly where their parts are.
use Rattle.std.proofs.Common.{◌≡◌, ◌↔◌, ◌∙◌, ℕ, Bool, true, false, ap, sym, IsTrue, inl, inr}
use Rattle.std.proofs.lemmas.Bool.Decides.{eqb_tells}
use Rattle.wy_event.specs.declared.record.Event.{Event}
use Rattle.wy_event.specs.Record.{recorded}
use Rattle.wy_kernel.specs.View.{present}

abbrev pub SameNumbers : Event → Event → Type 0
SameNumbers a b = (a.site ≡ b.site) × (a.frame ≡ b.frame) × (a.control ≡ b.control) × (a.entity ≡ b.entity)

abbrev pub SameData : Event → Event → Type 0
SameData a b = (a.kind ≡ b.kind) × (a.slot ≡ b.slot) × (a.value ≡ b.value)

abbrev pub SameLists : Event → Event → Type 0
SameLists a b = (a.units ≡ b.units) × (a.uses ≡ b.uses)

-- numbers that are present alike are one
pub present_once : (m n : ℕ) → present m ≡ present n → m ≡ n
unfolding present
present_once m n same = elim (eqb_tells m 4294967295) as (λ _. m ≡ n) [
  | inl none ↦ elim (eqb_tells n 4294967295) as (λ _. m ≡ n) [
    | inl none_too ↦ none.1 ∙ sym none_too.1
    | inr some ↦ absurd (let apart = rw (none.0, some.0) at same in cc)
  ]
  | inr some ↦ elim (eqb_tells n 4294967295) as (λ _. m ≡ n) [
    | inl none ↦ absurd (let apart = rw (some.0, none.0) at same in cc)
    | inr some_too ↦ let both = rw (some.0, some_too.0) at same in cc
  ]
]

pub recorded_alike : (a b : Event) → SameNumbers a b → SameData a b → SameLists a b → recorded a ≡ recorded b
unfolding recorded
recorded_alike a b numbers parts lists = λ i. record {
  kind = parts.0 i;
  site = numbers.0 i;
  frame = present (numbers.1 i);
  control = present (numbers.2 i);
  entity = present (numbers.3 i);
  slot = parts.1 i;
  value = parts.2 i;
  units = lists.0 i;
  uses = lists.1 i;
}

pub numbers_alike : (a b : Event) → recorded a ≡ recorded b → SameNumbers a b
unfolding recorded
numbers_alike a b same = (
  ap (λ e. e.site) same,
  present_once a.frame b.frame (ap (λ e. e.frame) same),
  present_once a.control b.control (ap (λ e. e.control) same),
  present_once a.entity b.entity (ap (λ e. e.entity) same),
)

pub data_alike : (a b : Event) → recorded a ≡ recorded b → SameData a b
unfolding recorded
data_alike a b same = (ap (λ e. e.kind) same, ap (λ e. e.slot) same, ap (λ e. e.value) same)

pub lists_alike : (a b : Event) → recorded a ≡ recorded b → SameLists a b
unfolding recorded
lists_alike a b same = (ap (λ e. e.units) same, ap (λ e. e.uses) same)

-- a second test after a first one that holds, or doesn't
pub second_tells : {P Q : Type 0} (first second both : Bool) → first ≡ true → both ≡ second → IsTrue first ↔ P → IsTrue second ↔ Q → IsTrue both ↔ (P × Q)
second_tells first second both held is p q = (λ t. (p.0 held, q.0 (sym is ∙ t)), λ r. is ∙ q.1 r.1)

pub first_tells : {P Q : Type 0} (first both : Bool) → first ≡ false → both ≡ first → IsTrue first ↔ P → IsTrue both ↔ (P × Q)
first_tells first both fails is p = (λ t. absurd (let held = sym is ∙ t in cc), λ r. absurd (let t = p.1 r.0 in cc))

-- where all but the lists are the same, the lists tell; where they aren't, nothing is the same
pub lists_tell : (a b : Event) (others lists : Bool) → others ≡ true → IsTrue others ↔ (SameNumbers a b × SameData a b) → IsTrue lists ↔ SameLists a b → IsTrue lists ↔ (recorded a ≡ recorded b)
lists_tell a b others lists held o l = (λ t. recorded_alike a b (o.0 held).0 (o.0 held).1 (l.0 t), λ same. l.1 (lists_alike a b same))

pub others_tell : (a b : Event) (others : Bool) → others ≡ false → IsTrue others ↔ (SameNumbers a b × SameData a b) → IsTrue others ↔ (recorded a ≡ recorded b)
others_tell a b others fails o = (λ t. absurd (cc), λ same. o.1 (numbers_alike a b same, data_alike a b same))
