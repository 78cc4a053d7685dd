use Rattle.std.proofs.Common.{◌≡◌, ℕ, ◌-◌, ◌≤◌, length, nat_eq, List, [], ◌∷◌, slice_index_or, arith, refl}
use native.Mathlib.Numerals.{unary_clauses}
use Rattle.wy_telling.specs.Output.{ends_its_line as ends_line}
use Rattle.wy_telling.proofs.report.ends_its_line.Goals as goal

-- the last byte decides
by_last : (xs : List ℕ) → 1 ≤ length xs → nat_eq (slice_index_or xs (length xs - 1) 0) 10 ≡ ends_line xs
by_last [] some = absurd (omega arith)
by_last (b ∷ []) some = refl
by_last (b ∷ c ∷ rest) some = simp unary_clauses (simp unary_clauses at (by_last (c ∷ rest) (omega arith)))

pub returns-in-len1-up : goal.returns-in-len1-up
returns-in-len1-up c = by_last _ c.in-len1-up.len_at_least
