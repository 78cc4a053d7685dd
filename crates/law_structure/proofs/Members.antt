-- Statements in lists of statements.
use Rattle.std.proofs.Common.{◌≡◌, refl, inl, inr, arith, List, [], ◌∷◌, ◌++◌}
use Rattle.std.specs.Prelude.{◌⊎◌}
use Rattle.std.specs.List.{Contains}
use Rattle.std.proofs.lemmas.List.Elements.{Contains-append_left, Contains-append_right, Contains-append_cases, Contains-push_cases}
use Rattle.wy_kernel.specs.Form.{Statement, Stmt}
use Rattle.wy_kernel.specs.Statements.{statements_within}
use Rattle.law_structure.specs.Within.{IsIn}

pub none_in : {X : Type 0} (x : X) → Contains [] x → ⊥
none_in x (k, less, is) = omega arith

pub at_head : {X : Type 0} (x : X) (xs : List X) → Contains (x ∷ xs) x
at_head x xs = (0, omega arith, refl)

pub behind_head : {X : Type 0} (y : X) (xs : List X) (x : X) → Contains xs x → Contains (y ∷ xs) x
behind_head y xs x c = Contains-append_right (y ∷ []) xs x c

pub head_or_behind : {X : Type 0} (y : X) (xs : List X) (x : X) → Contains (y ∷ xs) x → (y ≡ x) ⊎ Contains xs x
head_or_behind y xs x c = elim (Contains-append_cases (y ∷ []) xs x c) [ inl h ↦ elim (Contains-push_cases [] y x h) [ inl i ↦ absurd (none_in x i) | inr e ↦ inl e ] | inr h ↦ inr h ]

-- every element of the first list is one of the second
abbrev pub Among : List Statement → List Statement → Type 0
Among xs ys = (s : Statement) → Contains xs s → Contains ys s

pub itself : (s : Statement) → IsIn s s
itself (Stmt number site askable reach act) = at_head (Stmt number site askable reach act) (statements_within act)

pub among_left : (xs ys : List Statement) → Among xs (xs ++ ys)
among_left xs ys s c = Contains-append_left xs ys s c

pub among_right : (xs ys : List Statement) → Among ys (xs ++ ys)
among_right xs ys s c = Contains-append_right xs ys s c
