-- What is said where a file is what a run printed.
use Rattle.std.proofs.Common.{◌≡◌, ◌∙◌, ◌+◌, ℕ, List, ◌++◌, take, slice_index, sym, ap, subst, inl, inr, arith, Some}
use Rattle.std.specs.Prelude.{None as Absent}
use Rattle.std.specs.List.{flat_map}
use Rattle.wy_kernel.specs.Program.{Program}
use Rattle.wy_event.specs.declared.record.Tail.{Tail}
use Rattle.wy_event.specs.Record.{Recorded}
use Rattle.wy_telling.specs.Output.{output_text}
use Rattle.wy_telling.specs.Printed.{printed, printed_by}
use Rattle.wy_expect.specs.Beside.{beside_text}
use Rattle.wy_expect.specs.Expected.{Begins, plain, printed_below}
use Rattle.wy_expect.specs.Laws.{SaidOfTheSame}
use Rattle.wy_expect.specs.Texts.{IsAll, as_expected_line, other_text}
use Rattle.wy_expect.specs.Texts as says
use Rattle.wy_expect.proofs.Beginnings.{begins_on, below_begins, output_begins, plainly_begins}

-- what is all that was printed begins with what was printed below each event
module _ (p : Program) (lines : List ℕ) (rs : List Recorded) (tail : Tail) (expected : List ℕ) (n : ℕ) where
  all_begins : IsAll p lines rs tail expected → Begins (printed_below p rs n) expected
  all_begins (inl is) =
      subst (Begins (printed_below p rs n)) (sym is) (plainly_begins (flat_map (printed_by p rs) (take n rs)) (printed p rs) (below_begins (printed_by p rs) rs n))
  all_begins (inr is) =
      subst (Begins (printed_below p rs n)) (sym is)
      (plainly_begins (flat_map (printed_by p rs) (take n rs)) (output_text p lines rs tail)
      (begins_on (flat_map (printed_by p rs) (take n rs)) (printed p rs) (output_text p lines rs tail) (below_begins (printed_by p rs) rs n) (output_begins p lines rs tail)))

-- ---- other texts

not_beside : (expected found rest : List ℕ) → beside_text expected found ++ rest ≡ as_expected_line → ⊥
unfolding beside_text as_expected_line
not_beside expected found rest same = omega (arith, ap (λ xs. slice_index xs 0) same)

not_other : (p : Program) (lines source : List ℕ) (rs : List Recorded) (expected : List ℕ) (n : ℕ) → other_text p lines source rs expected n ≡ as_expected_line → ⊥
unfolding other_text
not_other p lines source rs expected n same = not_beside expected (printed_below p rs (n + 1)) _ same

-- ---- the law

pub said : SaidOfTheSame
said p lines source rs covers tail file text (Some n, finds, is) = (
  λ same. absurd (not_other p lines source rs (plain file) n (sym is ∙ same)),
  λ all. absurd (finds.here (all_begins p lines rs tail (plain file) (n + 1) all)),
)
said p lines source rs covers tail file text (Absent, finds, says.all is same) = (λ _. is, λ _. same)
said p lines source rs covers tail file text (Absent, finds, says.missing never other tells is) = (
  λ same. absurd (not_beside (plain file) (plain (output_text p lines rs tail)) never (sym is ∙ same)),
  λ all. absurd (other all),
)
