-- Two ends of runs in memory are kept as one exactly where their parts are the same.
use Rattle.std.proofs.Common.{◌≡◌, ◌↔◌, ◌∙◌, Bool, true, false, List, [], ◌∷◌, map, ap, ap₂, refl, sym, IsTrue}
use Rattle.wy_event.specs.declared.record.Cover.{Cover}
use Rattle.wy_event.specs.declared.record.Tail.{Tail}
use Rattle.wy_kernel.specs.View.{present}
use Rattle.wy_record.proofs.Events.{present_once}
use Rattle.wy_meaning.specs.Kept.{covered_of, kept_tail}
use Rattle.wy_machine.specs.Audits.{SameCounts}

covered_once : (a b : Cover) → covered_of a ≡ covered_of b → a ≡ b
unfolding covered_of
covered_once a b same = λ i. record {
  begins = ap (λ c. c.begins) same i;
  ends = ap (λ c. c.ends) same i;
  first = present_once a.first b.first (ap (λ c. c.first) same) i;
  cause = ap (λ c. c.cause) same i;
}

covers_once : (xs ys : List Cover) → map covered_of xs ≡ map covered_of ys → xs ≡ ys
covers_once [] [] same = refl
covers_once [] (b ∷ ys) same = absurd (cc)
covers_once (a ∷ xs) [] same = absurd (cc)
covers_once (a ∷ xs) (b ∷ ys) same =
    let first : covered_of a ≡ covered_of b = cc in
    let rest : map covered_of xs ≡ map covered_of ys = cc in
    ap₂ (λ x xs. x ∷ xs) (covered_once a b first) (covers_once xs ys rest)

kept_alike : (a b : Tail) → a.coverage.statements ≡ b.coverage.statements → SameCounts a b → kept_tail a ≡ kept_tail b
unfolding kept_tail
kept_alike a b covers counts = λ i. record {
  coverage = map covered_of (covers i);
  stop = counts.0 i;
  last = present (counts.1 i);
  steps = counts.2 i;
  events = counts.3 i;
  uses = counts.4 i;
  output = counts.5 i;
}

covers_alike : (a b : Tail) → kept_tail a ≡ kept_tail b → a.coverage.statements ≡ b.coverage.statements
unfolding kept_tail
covers_alike a b same = covers_once a.coverage.statements b.coverage.statements (ap (λ t. t.coverage) same)

counts_alike : (a b : Tail) → kept_tail a ≡ kept_tail b → SameCounts a b
unfolding kept_tail
counts_alike a b same = (
  ap (λ t. t.stop) same,
  present_once a.last b.last (ap (λ t. t.last) same),
  ap (λ t. t.steps) same,
  ap (λ t. t.events) same,
  ap (λ t. t.uses) same,
  ap (λ t. t.output) same,
)

-- where the covers are the same, the counts tell; where they aren't, the ends differ
pub counts_tell : (a b : Tail) (x y : List Cover) (covers counts : Bool) → x ≡ a.coverage.statements → y ≡ b.coverage.statements → covers ≡ true →
    IsTrue covers ↔ (x ≡ y) → IsTrue counts ↔ SameCounts a b → IsTrue counts ↔ (kept_tail a ≡ kept_tail b)
counts_tell a b x y covers counts left right held c n = (
  λ t. kept_alike a b (sym left ∙ c.0 held ∙ right) (n.0 t),
  λ same. n.1 (counts_alike a b same),
)

pub covers_tell : (a b : Tail) (x y : List Cover) (covers : Bool) → x ≡ a.coverage.statements → y ≡ b.coverage.statements → covers ≡ false →
    IsTrue covers ↔ (x ≡ y) → IsTrue covers ↔ (kept_tail a ≡ kept_tail b)
covers_tell a b x y covers left right fails c = (λ t. absurd (cc), λ same. c.1 (left ∙ covers_alike a b same ∙ sym right))
