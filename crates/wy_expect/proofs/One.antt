-- A run, and what a file expects of its output, have one text.
use Rattle.std.proofs.Common.{◌≡◌, ◌∙◌, ◌<◌, ◌≤◌, ◌+◌, ℕ, List, [], ◌∷◌, ◌++◌, Option, Some, ⊎_elim, ap, arith, subst, sym, take}
use Rattle.std.specs.Prelude.{None as Absent}
use Rattle.std.specs.List.{flat_map}
use Rattle.std.proofs.lemmas.Bool.{cases_lt}
use Rattle.std.proofs.lemmas.List.{take-take}
use Rattle.wy_kernel.specs.Program.{Program}
use Rattle.wy_event.specs.declared.record.Cover.{Cover}
use Rattle.wy_event.specs.declared.record.Tail.{Tail}
use Rattle.wy_event.specs.Record.{Recorded}
use Rattle.wy_ask.specs.declared.never.PlacedStatement.{PlacedStatement}
use Rattle.wy_telling.specs.Output.{output_text}
use Rattle.wy_telling.specs.Printed.{printed, printed_by}
use Rattle.wy_whynot.specs.Laws.{ItemsAreOne}
use Rattle.wy_expect.specs.Beside.{beside_text}
use Rattle.wy_expect.specs.Expected.{Begins, FindsOther, IsFirstOther, plain, printed_below, without_returns}
use Rattle.wy_expect.specs.Laws.{OneTextIsDue}
use Rattle.wy_expect.specs.Printers.{unprinted}
use Rattle.wy_expect.specs.Texts.{NeverPrinted, NeverText, SaysBy, SaysOfBegun, other_text}
use Rattle.wy_expect.specs.Texts as says
use Rattle.wy_expect.proofs.Beginnings.{begins_on, below_begins, still_begins}
use Rattle.wy_expect.proofs.Telling.{told}

-- ---- the first print that is another

module _ (p : Program) (rs : List Recorded) (expected : List ℕ) where
  earlier : (n m : ℕ) → n ≤ m → Begins (printed_below p rs n) (printed_below p rs m)
  earlier n m le =
      still_begins (flat_map (printed_by p rs) (take n rs)) (flat_map (printed_by p rs) (take m rs))
      (subst (λ xs. Begins (flat_map (printed_by p rs) xs) (flat_map (printed_by p rs) (take m rs))) (take-take n m rs le) (below_begins (printed_by p rs) (take m rs) n))

  none_before : (n m : ℕ) → IsFirstOther p rs expected n → IsFirstOther p rs expected m → n < m → ⊥
  none_before n m a b lt = a.here (begins_on (printed_below p rs (n + 1)) (printed_below p rs m) expected (earlier (n + 1) m (omega (arith, lt))) b.before)

  one_other : (n m : ℕ) → IsFirstOther p rs expected n → IsFirstOther p rs expected m → n ≡ m
  one_other n m a b =
      ⊎_elim (λ (lt : n < m). absurd (none_before n m a b lt))
      (λ (le : m ≤ n). ⊎_elim (λ (lt : m < n). absurd (none_before m n b a lt)) (λ (ge : n ≤ m). omega (arith, le, ge)) (cases_lt m n)) (cases_lt n m)

  none_or_other : (n : ℕ) → IsFirstOther p rs expected n → Begins (without_returns (printed p rs)) expected → ⊥
  none_or_other n a all =
      a.here (begins_on (printed_below p rs (n + 1)) (without_returns (printed p rs)) expected
      (still_begins (flat_map (printed_by p rs) (take (n + 1) rs)) (printed p rs) (below_begins (printed_by p rs) rs (n + 1))) all)

-- ---- what never printed

module _ (one : ItemsAreOne) (p : Program) (lines : List ℕ) (rs : List Recorded) (covers : List Cover) where
  one_listing : (ss : List PlacedStatement) (a b : List ℕ) → NeverPrinted p lines rs covers ss a → NeverPrinted p lines rs covers ss b → a ≡ b
  one_listing [] a b first second = first ∙ sym second
  one_listing (s ∷ ss) a b (xs, more, are, later, is) (ys, rest, also, after, too) =
      is ∙ ap (λ zs. told p lines rs covers s zs ++ more) (one p rs covers s.statement.number xs ys are also)
      ∙ ap (λ zs. told p lines rs covers s ys ++ zs) (one_listing ss more rest later after) ∙ sym too

  one_never : (ss : List PlacedStatement) (a b : List ℕ) → NeverText p lines rs covers ss a → NeverText p lines rs covers ss b → a ≡ b
  one_never [] a b first second = first ∙ sym second
  one_never (s ∷ ss) a b first second = one_listing (s ∷ ss) a b first second

  one_begun : (tail : Tail) (expected a b : List ℕ) → SaysOfBegun p lines rs covers tail expected a → SaysOfBegun p lines rs covers tail expected b → a ≡ b
  one_begun tail expected a b (says.all is same) (says.all also too) = same ∙ sym too
  one_begun tail expected a b (says.all is same) (says.missing never other tells too) = absurd (other is)
  one_begun tail expected a b (says.missing never other tells same) (says.all also too) = absurd (other also)
  one_begun tail expected a b (says.missing never other tells same) (says.missing none another told_too too) =
      same ∙ ap (λ xs. beside_text expected (plain (output_text p lines rs tail)) ++ xs) (one_never (unprinted p lines covers) never none tells told_too) ∙ sym too

  one_text : (source : List ℕ) (tail : Tail) (expected a b : List ℕ) (x y : Option ℕ) → FindsOther p rs expected x → FindsOther p rs expected y → SaysBy p lines source rs covers tail expected x a
      → SaysBy p lines source rs covers tail expected y b → a ≡ b
  one_text source tail expected a b (Some n) (Some m) first second is too = is ∙ ap (other_text p lines source rs expected) (one_other p rs expected n m first second) ∙ sym too
  one_text source tail expected a b (Some n) Absent first second is too = absurd (none_or_other p rs expected n first second)
  one_text source tail expected a b Absent (Some m) first second is too = absurd (none_or_other p rs expected m second first)
  one_text source tail expected a b Absent Absent first second is too = one_begun tail expected a b is too

pub one_due : ItemsAreOne → OneTextIsDue
one_due one p lines source rs covers tail file a b first second =
    one_text one p lines rs covers source tail (plain file) a b first.0 second.0 first.1 second.1 first.2 second.2
