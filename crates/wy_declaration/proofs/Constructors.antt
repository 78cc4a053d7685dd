-- Constructors behind their header, by the shape of their parts.
use Rattle.std.proofs.Common.{◌≡◌, ℕ, List, [], ◌∷◌, ◌++◌, map, refl, ap, sym, ◌∙◌}
use Rattle.wy_syntax.specs.Syntax as plain
use Rattle.wy_syntax.specs.Statements.{statement}
use Rattle.wy_syntax.specs.Declarations.{Part, Parts, statements_in, end_in}
use Rattle.wy_syntax.specs.View.{statement_of, statements_of}
use Rattle.wy_syntax.specs.declared.statement.Statement.{Statement}
use Rattle.wy_syntax.proofs.Rows.{statements_before, statements_before_done}

-- ---- statements, and the last part

pub statements_go : (found more : List Statement) (s : Statement) (ps qs rest : Parts) (p q : Part) (all : plain.Statements)
    → more ≡ found ++ (s ∷ []) → ps ≡ p ∷ qs → qs ≡ q ∷ rest → statement_of s ≡ statement p.at p.entity
    → statements_before (map statement_of found) (statements_in ps) ≡ all → statements_before (map statement_of more) (statements_in qs) ≡ all
unfolding statements_in
statements_go found more s ps qs rest p q all eg shape after es h =
    ap (λ z. statements_before (map statement_of z) (statements_in qs)) eg ∙ pushed found
    ∙ ap (λ r. statements_before (map statement_of found) r) (ap (λ z. plain.first z (statements_in qs)) es ∙ sym (rw (shape, after) refl)) ∙ h
  where
    pushed : (xs : List Statement) → statements_before (map statement_of (xs ++ (s ∷ []))) (statements_in qs) ≡ statements_before (map statement_of xs) (plain.first (statement_of s) (statements_in qs))
    pushed [] = refl
    pushed (y ∷ ys) = ap (λ z. plain.first (statement_of y) z) (pushed ys)

pub statements_alone : (ps qs : Parts) (p : Part) → ps ≡ p ∷ qs → qs ≡ [] → plain.done ≡ statements_in ps
unfolding statements_in
statements_alone ps qs p shape after = rw (shape, after) refl

pub statements_end : (ps : Parts) → ps ≡ [] → plain.done ≡ statements_in ps
unfolding statements_in
statements_end ps shape = rw shape refl

pub statements_ended : (row : List plain.Statement) (rest all : plain.Statements) → plain.done ≡ rest → statements_before row rest ≡ all → statements_of row ≡ all
statements_ended row rest all e h = sym (statements_before_done row) ∙ ap (statements_before row) e ∙ h

pub end_go : (ps qs rest : Parts) (p q : Part) (all : ℕ) → ps ≡ p ∷ qs → qs ≡ q ∷ rest → end_in ps ≡ all → end_in qs ≡ all
unfolding end_in
end_go ps qs rest p q all shape after h = ap end_in after ∙ sym (rw (shape, after) refl) ∙ h

pub end_here : (ps qs : Parts) (p : Part) (all : ℕ) → ps ≡ p ∷ qs → qs ≡ [] → end_in ps ≡ all → p.at ≡ all
unfolding end_in
end_here ps qs p all shape after h = sym (rw (shape, after) refl) ∙ h

pub end_none : (ps : Parts) (all : ℕ) → ps ≡ [] → end_in ps ≡ all → 0 ≡ all
unfolding end_in
end_none ps all shape h = sym (rw shape refl) ∙ h
