-- Rows that grow at their end, with what follows them.
use Rattle.std.proofs.Common.{◌≡◌, List, [], ◌∷◌, ◌++◌, refl, ap}
use Rattle.wy_syntax.specs.Syntax as plain
use Rattle.wy_syntax.specs.View.{Before, Clause, row_of, elements_of, statements_of, clauses_of, clauses_before}

-- expressions, and the row behind them
abbrev pub followed : List plain.Expression → plain.Row → plain.Row
followed [] rest = rest
followed (e ∷ es) rest = plain.more e (followed es rest)

pub followed_by_none : (es : List plain.Expression) → followed es plain.none ≡ row_of es
followed_by_none [] = refl
followed_by_none (e ∷ es) = ap (λ r. plain.more e r) (followed_by_none es)

pub followed_push : (es : List plain.Expression) (e : plain.Expression) (rest : plain.Row) → followed (es ++ (e ∷ [])) rest ≡ followed es (plain.more e rest)
followed_push [] e rest = refl
followed_push (d ∷ es) e rest = ap (λ r. plain.more d r) (followed_push es e rest)

-- elements, and those behind them
abbrev pub elements_followed : List Before → plain.Elements → plain.Elements
elements_followed [] rest = rest
elements_followed (e ∷ es) rest = e (elements_followed es rest)

pub elements_followed_by_none : (es : List Before) → elements_followed es plain.no_more ≡ elements_of es
elements_followed_by_none [] = refl
elements_followed_by_none (e ∷ es) = ap e (elements_followed_by_none es)

pub elements_followed_push : (es : List Before) (e : Before) (rest : plain.Elements) → elements_followed (es ++ (e ∷ [])) rest ≡ elements_followed es (e rest)
elements_followed_push [] e rest = refl
elements_followed_push (d ∷ es) e rest = ap d (elements_followed_push es e rest)

-- statements, and those behind them
abbrev pub statements_before : List plain.Statement → plain.Statements → plain.Statements
statements_before [] rest = rest
statements_before (s ∷ ss) rest = plain.first s (statements_before ss rest)

pub statements_before_done : (ss : List plain.Statement) → statements_before ss plain.done ≡ statements_of ss
statements_before_done [] = refl
statements_before_done (s ∷ ss) = ap (λ r. plain.first s r) (statements_before_done ss)

pub clauses_before_none : (cs : List Clause) → clauses_before cs plain.uncaught ≡ clauses_of cs
clauses_before_none [] = refl
clauses_before_none (c ∷ cs) = ap c (clauses_before_none cs)
