use Rattle.std.proofs.Common.{◌≡◌, ◌<◌, ◌||◌, ℕ, length, take}
use Rattle.std.specs.Prelude.{nat_eq}
use Rattle.std.specs.List.{list_any}
use Rattle.wy_cert.specs.declared.certificate.Listed.{Listed}
use Rattle.wy_check.specs.Marks.{mark_of}
use Rattle.wy_check.proofs.marks.mark_lines.Given as goal

abbrev pub invariant-loop-line : goal.invariant-loop-line
invariant-loop-line l = (j : ℕ) → j < length l.initial.marks → mark_of l.marks j ≡ (mark_of l.initial.marks j || list_any (λ (x : Listed). nat_eq j x.event) (take l.line-index l.lines))
