-- Marks on the events of a list.
use Rattle.std.proofs.Common.{◌≡◌, ◌+◌, ◌<◌, ◌≤◌, ℕ, zero, suc, Bool, true, false, ◌||◌, List, [], ◌∷◌, ◌++◌, length, get_or, take, refl, sym, ap, ◌∙◌, subst, arith}
use Rattle.std.specs.List.{list_any}
use Rattle.std.specs.Prelude.{Contains, nat_eq}
use Rattle.std.proofs.Common.{inl, inr, ◌⊎◌, ⊎_elim, replicate, eq-eqb, eqb-true}
use Rattle.std.proofs.lemmas.Bool.{cases_lt, false≢true}
use Rattle.std.proofs.lemmas.List.{get_or-replicate, get_or_past, length-replicate, take_more}
use Rattle.wy_why.specs.Answer.{Rises}
use Rattle.wy_cert.specs.declared.certificate.Listed.{Listed}
use Rattle.wy_cert.specs.Spelling.{events}
use Rattle.wy_cert.proofs.Goodness.{line_of, listed_line}
use Rattle.wy_cert.proofs.Members.{among_of, risen}
use Rattle.wy_check.specs.Marks.{mark_of}
use Rattle.wy_check.specs.Weighing.{AreMarked}
use Rattle.wy_check.proofs.Weights.{any_from, any_some}
use Rattle.std.proofs.lemmas.List.Recursion.{or_push}

pub none_marked : (b : Bool) → b ≡ (b || false)
none_marked true = refl
none_marked false = refl

or_three : (a b c : Bool) → ((a || b) || c) ≡ (a || (b || c))
or_three true b c = refl
or_three false b c = refl

module _ {X : Type 0} (p : X → Bool) where
  pub any_more : (xs : List X) (i : ℕ) (d : X) (old : Bool) → i < length xs → ((old || list_any p (take i xs)) || p (get_or xs i d)) ≡ (old || list_any p (take (i + 1) xs))
  any_more xs i d old lt = or_three old (list_any p (take i xs)) (p (get_or xs i d))
      ∙ ap (λ b. old || b) (sym (ap (list_any p) (take_more xs i d lt) ∙ or_push (list_any p) p refl (λ _ _. refl) (take i xs) (get_or xs i d)))

  take_all : (xs : List X) (i : ℕ) → length xs ≤ i → take i xs ≡ xs
  take_all [] zero le = refl
  take_all [] (suc i) le = refl
  take_all (x ∷ xs) zero le = absurd (omega (arith, le))
  take_all (x ∷ xs) (suc i) le = ap (λ l. x ∷ l) (take_all xs i (omega (arith, le)))

  pub any_all : (xs : List X) (i : ℕ) (old : Bool) → length xs ≤ i → (old || list_any p (take i xs)) ≡ (old || list_any p xs)
  any_all xs i old le = ap (λ l. old || list_any p l) (take_all xs i le)

pub all_unmarked : (n j : ℕ) → mark_of (replicate n false) j ≡ false
all_unmarked n j = ⊎_elim (λ (lt : j < n). get_or-replicate n j false false lt) (λ (ge : n ≤ j). get_or_past (replicate n false) j false (omega (arith, length-replicate n false, ge))) (cases_lt j n)

-- the marks of lines that rise below an end
pub lines_marked : (lines : List Listed) (end : ℕ) (marks : List Bool) → Rises 0 end (events lines) → length marks ≡ end
    → ((j : ℕ) → j < end → mark_of marks j ≡ (false || list_any (λ (l : Listed). nat_eq j l.event) lines)) → AreMarked lines end marks
lines_marked lines end marks up room is = record {
  room = room;
  rises = up;
  marked = λ j. (
    λ yes. ⊎_elim
        (λ (lt : j < end).
        let one = any_some (λ (l : Listed). nat_eq j l.event) lines (sym (is j lt) ∙ yes) in
        subst (Contains (events lines)) (sym (eqb-true j one.0.event one.2)) (listed_line lines one.0 one.1))
        (λ (ge : end ≤ j). absurd (false≢true (sym (get_or_past marks j false (omega (arith, room, ge))) ∙ yes)))
        (cases_lt j end),
    λ has.
        let below = (risen 0 end (events lines) j up (among_of (events lines) j has)).1 in
        let line = line_of lines j has in
        is j below ∙ any_from (λ (l : Listed). nat_eq j l.event) lines line.0 line.1 (eq-eqb j line.0.event (sym line.2)),
  );
}
