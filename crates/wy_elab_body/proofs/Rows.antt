-- Statements in a block and clauses of a `try`, one after another.
use Rattle.std.proofs.Common.{◌≡◌, ap, sym, ◌∙◌, ℕ, suc, ◌+◌, ◌<◌, ◌≤◌, List, [], ◌∷◌, ◌++◌, map, drop, length, get_or, add-one, drop-cons, refl, Result, Ok, Err}
use Rattle.std.proofs.Math.ListN.{drop_of_length-le}
use Rattle.std.proofs.lemmas.List.{map-append}
use Rattle.wy_kernel.specs.Form as kernel
use Rattle.wy_kernel.specs.declared.form.Stmt.{Stmt}
use Rattle.wy_kernel.specs.View.{statement, clause}
use Rattle.wy_kernel.specs.View as kernel_view
use Rattle.wy_syntax.specs.Syntax as source
use Rattle.wy_syntax.specs.declared.statement.Statement as memory
use Rattle.wy_syntax.specs.View.{statement_of, statements_of}
use Rattle.wy_constant.specs.declared.rule.TypeError.{TypeError}
use Rattle.wy_constant.specs.declared.rule.TypeError.TheVariants as error
use Rattle.wy_constant.specs.Refusal.{Refusal, Fails, refused}
use Rattle.wy_elab_body.specs.Making.{Making, onward}
use Rattle.wy_elab_body.specs.Jumps.{Around}
use Rattle.wy_elab_body.specs.Statements as made
use Rattle.wy_elab_body.specs.Statements.{Setting, Clause, several, joined}
use Rattle.wy_elab_body.specs.Views.{behind_row}

next_here : {Y : Type 0} (ys : List Y) (i : ℕ) (y : Y) → i < length ys → y ≡ get_or ys i y → drop i ys ≡ y ∷ drop (i + 1) ys
next_here ys i y less is = drop-cons ys i y less ∙ ap (λ z. z ∷ drop (suc i) ys) (sym is) ∙ ap (λ k. y ∷ drop k ys) (sym (add-one i))

-- ---- statements

joined_more : (front xs : List kernel.Statement) (rest : kernel.Statements) → joined front (joined xs rest) ≡ joined (front ++ xs) rest
joined_more [] xs rest = refl
joined_more (x ∷ front) xs rest = ap (kernel.first x) (joined_more front xs rest)

joined_none : (all : List kernel.Statement) → joined all kernel.done ≡ kernel_view.statements_of all
joined_none [] = refl
joined_none (x ∷ all) = ap (kernel.first x) (joined_none all)

along : (front xs : List kernel.Statement) (r : Result (kernel.Statements × Making) Refusal) → behind_row front (onward (λ ys m. Ok (joined xs ys, m)) r) ≡ behind_row (front ++ xs) r
along front xs (Ok p) = ap (λ z. Ok (z, p.1)) (joined_more front xs p.0)
along front xs (Err e) = refl

made_of : Setting → Around → source.Statement → source.Statements → Making → Result (kernel.Statements × Making) Refusal
made_of w a s rest m = onward (λ xs n. onward (λ ys o. Ok (joined xs ys, o)) (made.statements w a rest n)) (several w s (made.statement w a s) m)

unrolled : (w : Setting) (a : Around) (s : source.Statement) (rest : source.Statements) (m : Making) → made.statements w a (source.first s rest) m ≡ made_of w a s rest m
unfolding made.statement made_of
unrolled w a s rest m = refl

goes : (w : Setting) (a : Around) (front : List kernel.Statement) (s : source.Statement) (rest : source.Statements) (xs : List kernel.Statement) (m after : Making) →
    several w s (made.statement w a s) m ≡ Ok (xs, after) → behind_row front (made.statements w a (source.first s rest) m) ≡ behind_row (front ++ xs) (made.statements w a rest after)
unfolding made_of
goes w a front s rest xs m after is =
    ap (behind_row front) (unrolled w a s rest m ∙ ap (λ r. onward (λ ys n. onward (λ zs o. Ok (joined ys zs, o)) (made.statements w a rest n)) r) is) ∙ along front xs (made.statements w a rest after)

fails : (w : Setting) (a : Around) (front : List kernel.Statement) (s : source.Statement) (rest : source.Statements) (e : Refusal) (m : Making) →
    several w s (made.statement w a s) m ≡ Err e → behind_row front (made.statements w a (source.first s rest) m) ≡ Err e
unfolding made_of
fails w a front s rest e m is =
    ap (behind_row front) (unrolled w a s rest m ∙ ap (λ r. onward (λ ys n. onward (λ zs o. Ok (joined ys zs, o)) (made.statements w a rest n)) r) is)

pub goes_on : (w : Setting) (a : Around) (front new xs : List Stmt) (ys : List memory.Statement) (i : ℕ) (y : memory.Statement) (m after : Making) (r : Result (kernel.Statements × Making) Refusal) →
    i < length ys → y ≡ get_or ys i y → several w (statement_of y) (made.statement w a (statement_of y)) m ≡ Ok (map statement xs, after) → new ≡ front ++ xs →
    behind_row (map statement front) (made.statements w a (statements_of (map statement_of (drop i ys))) m) ≡ r →
    behind_row (map statement new) (made.statements w a (statements_of (map statement_of (drop (i + 1) ys))) after) ≡ r
goes_on w a front new xs ys i y m after r less at is pushes known =
    let rest = statements_of (map statement_of (drop (i + 1) ys)) in
    ap (λ z. behind_row z (made.statements w a rest after)) (ap (map statement) pushes ∙ map-append statement front xs)
    ∙ sym (goes w a (map statement front) (statement_of y) rest (map statement xs) m after is)
    ∙ ap (λ z. behind_row (map statement front) (made.statements w a (statements_of (map statement_of z)) m)) (sym (next_here ys i y less at)) ∙ known

pub stops : (w : Setting) (a : Around) (front : List Stmt) (ys : List memory.Statement) (i : ℕ) (y : memory.Statement) (e : TypeError) (m : Making) (r : Result (kernel.Statements × Making) Refusal) →
    i < length ys → y ≡ get_or ys i y → Fails e (several w (statement_of y) (made.statement w a (statement_of y)) m) →
    behind_row (map statement front) (made.statements w a (statements_of (map statement_of (drop i ys))) m) ≡ r → Fails e r
stops w a front ys i y error.NoMemory m r less at is known = tt
stops w a front ys i y (error.Broken rule token) m r less at is known =
    sym known ∙ ap (λ z. behind_row (map statement front) (made.statements w a (statements_of (map statement_of z)) m)) (next_here ys i y less at)
    ∙ fails w a (map statement front) (statement_of y) (statements_of (map statement_of (drop (i + 1) ys))) (refused rule token) m is

pub ends : (w : Setting) (a : Around) (all : List Stmt) (ys : List memory.Statement) (i : ℕ) (m : Making) (r : Result (kernel.Statements × Making) Refusal) → length ys ≤ i →
    behind_row (map statement all) (made.statements w a (statements_of (map statement_of (drop i ys))) m) ≡ r → r ≡ Ok (kernel_view.statements_of (map statement all), m)
unfolding made.statement
ends w a all ys i m r less known =
    sym known ∙ ap (λ z. behind_row (map statement all) (made.statements w a (statements_of (map statement_of z)) m)) (drop_of_length-le ys less) ∙ ap (λ z. Ok (z, m)) (joined_none (map statement all))

from_nothing : (r : Result (kernel.Statements × Making) Refusal) → behind_row [] r ≡ r
from_nothing (Ok p) = refl
from_nothing (Err e) = refl

pub begins : (w : Setting) (a : Around) (ss : source.Statements) (m : Making) → behind_row [] (made.statements w a ss m) ≡ made.statements w a ss m
begins w a ss m = from_nothing (made.statements w a ss m)
