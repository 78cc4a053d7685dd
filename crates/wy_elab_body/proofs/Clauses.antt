-- The clauses of a `try`, one after another.
use Rattle.std.proofs.Common.{◌≡◌, ap, sym, ◌∙◌, ℕ, suc, ◌+◌, ◌<◌, ◌≤◌, List, [], ◌∷◌, ◌++◌, map, drop, length, get_or, add-one, drop-cons, refl, Result, Ok, Err, arith}
use Rattle.std.proofs.Math.ListN.{drop_of_length-le}
use Rattle.std.proofs.lemmas.List.{map-append}
use Rattle.wy_kernel.specs.Form as kernel
use Rattle.wy_kernel.specs.declared.form.Catch.{Catch}
use Rattle.wy_kernel.specs.View.{clause}
use Rattle.wy_kernel.specs.View as kernel_view
use Rattle.wy_kernel.proofs.Views as kernel_views
use Rattle.wy_syntax.specs.Syntax as source
use Rattle.wy_syntax.specs.declared.statement.Catch as memory
use Rattle.wy_syntax.specs.View.{clause_of, clauses_of, named_of, block_of}
use Rattle.wy_constant.specs.declared.rule.TypeError.{TypeError}
use Rattle.wy_constant.specs.declared.rule.TypeError.TheVariants as error
use Rattle.wy_constant.specs.Refusal.{Refusal, Fails, refused}
use Rattle.wy_elab_body.specs.Making.{Making, onward}
use Rattle.wy_elab_body.specs.Jumps.{Around, in_try, inside}
use Rattle.wy_elab_body.specs.Statements as made
use Rattle.wy_elab_body.specs.Statements.{Setting, Clause, in_first_block}
use Rattle.wy_elab_body.specs.Views.{behind_clauses, in_front, clause_seen}
use Rattle.wy_syntax.proofs.StatementViews.{view_clause}

next_here : {Y : Type 0} (ys : List Y) (i : ℕ) (y : Y) → i < length ys → y ≡ get_or ys i y → drop i ys ≡ y ∷ drop (i + 1) ys
next_here ys i y less is = drop-cons ys i y less ∙ ap (λ z. z ∷ drop (suc i) ys) (sym is) ∙ ap (λ k. y ∷ drop k ys) (sym (add-one i))

front_more : (front : List (kernel.Catches → kernel.Catches)) (c : kernel.Catches → kernel.Catches) (rest : kernel.Catches) → in_front front (c rest) ≡ in_front (front ++ c ∷ []) rest
front_more [] c rest = refl
front_more (d ∷ front) c rest = ap d (front_more front c rest)

front_none : (all : List (kernel.Catches → kernel.Catches)) → in_front all kernel.uncaught ≡ kernel_view.clauses_of all
front_none [] = refl
front_none (c ∷ all) = ap c (front_none all)

-- what is made of a clause in front of the others
made_with : Clause → ℕ → kernel.Catches → kernel.Catches
made_with c site cs = kernel.catch c.class c.local site c.block cs

made_of : Setting → Around → source.Named → source.Named → source.Braced → source.Catches → Making → Result (kernel.Catches × Making) Refusal
made_of w a class name b rest m = onward (λ c n. onward (λ cs o. Ok (made_with c name.token cs, o)) (made.clauses w a rest n)) (made.clause w class name (made.block w a b) m)

unrolled : (w : Setting) (a : Around) (y : memory.Catch) (rest : source.Catches) (m : Making) →
    made.clauses w a (clause_of y rest) m ≡ made_of w a (named_of y.class) (named_of y.name) (block_of y.block) rest m
unfolding made.statement made_of made_with
unrolled w a y rest m = ap (λ z. made.clauses w a z m) (view_clause y rest)

along : (front : List Catch) (x : Catch) (r : Result (kernel.Catches × Making) Refusal) →
    behind_clauses (map clause front) (onward (λ cs m. Ok (made_with (clause_seen x) x.site cs, m)) r) ≡ behind_clauses (map clause front ++ clause x ∷ []) r
unfolding made_with
along front x (Ok p) = ap (λ z. Ok (in_front (map clause front) z, p.1)) (sym (kernel_views.view_clause x p.0)) ∙ ap (λ z. Ok (z, p.1)) (front_more (map clause front) (clause x) p.0)
along front x (Err e) = refl

goes : (w : Setting) (a : Around) (front : List Catch) (y : memory.Catch) (rest : source.Catches) (x : Catch) (m after : Making) →
    made.clause w (named_of y.class) (named_of y.name) (made.block w a (block_of y.block)) m ≡ Ok (clause_seen x, after) → x.site ≡ y.name.token →
    behind_clauses (map clause front) (made.clauses w a (clause_of y rest) m) ≡ behind_clauses (map clause front ++ clause x ∷ []) (made.clauses w a rest after)
unfolding made_of
goes w a front y rest x m after is site =
    ap (behind_clauses (map clause front)) (unrolled w a y rest m ∙ ap (λ r. onward (λ c n. onward (λ cs o. Ok (made_with c y.name.token cs, o)) (made.clauses w a rest n)) r) is)
    ∙ ap (λ n. behind_clauses (map clause front) (onward (λ cs o. Ok (made_with (clause_seen x) n cs, o)) (made.clauses w a rest after))) (sym site)
    ∙ along front x (made.clauses w a rest after)

fails : (w : Setting) (a : Around) (front : List Catch) (y : memory.Catch) (rest : source.Catches) (e : Refusal) (m : Making) →
    made.clause w (named_of y.class) (named_of y.name) (made.block w a (block_of y.block)) m ≡ Err e → behind_clauses (map clause front) (made.clauses w a (clause_of y rest) m) ≡ Err e
unfolding made_of
fails w a front y rest e m is =
    ap (behind_clauses (map clause front)) (unrolled w a y rest m ∙ ap (λ r. onward (λ c n. onward (λ cs o. Ok (made_with c y.name.token cs, o)) (made.clauses w a rest n)) r) is)

pub goes_on : (w : Setting) (a : Around) (front new : List Catch) (ys : List memory.Catch) (i : ℕ) (y : memory.Catch) (x : Catch) (m after : Making) (r : Result (kernel.Catches × Making) Refusal) →
    i < length ys → y ≡ get_or ys i y → made.clause w (named_of y.class) (named_of y.name) (made.block w a (block_of y.block)) m ≡ Ok (clause_seen x, after) → x.site ≡ y.name.token →
    new ≡ front ++ x ∷ [] → behind_clauses (map clause front) (made.clauses w a (clauses_of (map clause_of (drop i ys))) m) ≡ r →
    behind_clauses (map clause new) (made.clauses w a (clauses_of (map clause_of (drop (i + 1) ys))) after) ≡ r
goes_on w a front new ys i y x m after r less at is site pushes known =
    let rest = clauses_of (map clause_of (drop (i + 1) ys)) in
    ap (λ z. behind_clauses z (made.clauses w a rest after)) (ap (map clause) pushes ∙ map-append clause front (x ∷ []))
    ∙ sym (goes w a front y rest x m after is site)
    ∙ ap (λ z. behind_clauses (map clause front) (made.clauses w a (clauses_of (map clause_of z)) m)) (sym (next_here ys i y less at)) ∙ known

pub stops : (w : Setting) (a : Around) (front : List Catch) (ys : List memory.Catch) (i : ℕ) (y : memory.Catch) (e : TypeError) (m : Making) (r : Result (kernel.Catches × Making) Refusal) →
    i < length ys → y ≡ get_or ys i y → Fails e (made.clause w (named_of y.class) (named_of y.name) (made.block w a (block_of y.block)) m) →
    behind_clauses (map clause front) (made.clauses w a (clauses_of (map clause_of (drop i ys))) m) ≡ r → Fails e r
stops w a front ys i y error.NoMemory m r less at is known = tt
stops w a front ys i y (error.Broken rule token) m r less at is known =
    sym known ∙ ap (λ z. behind_clauses (map clause front) (made.clauses w a (clauses_of (map clause_of z)) m)) (next_here ys i y less at)
    ∙ fails w a front y (clauses_of (map clause_of (drop (i + 1) ys))) (refused rule token) m is

pub ends : (w : Setting) (a : Around) (all : List Catch) (ys : List memory.Catch) (i : ℕ) (m : Making) (r : Result (kernel.Catches × Making) Refusal) → length ys ≤ i →
    behind_clauses (map clause all) (made.clauses w a (clauses_of (map clause_of (drop i ys))) m) ≡ r → r ≡ Ok (kernel_view.clauses_of (map clause all), m)
unfolding made.statement
ends w a all ys i m r less known =
    sym known ∙ ap (λ z. behind_clauses (map clause all) (made.clauses w a (clauses_of (map clause_of z)) m)) (drop_of_length-le ys less) ∙ ap (λ z. Ok (z, m)) (front_none (map clause all))

from_nothing : (r : Result (kernel.Catches × Making) Refusal) → behind_clauses [] r ≡ r
from_nothing (Ok p) = refl
from_nothing (Err e) = refl

pub begins : (w : Setting) (a : Around) (cs : source.Catches) (m : Making) → behind_clauses [] (made.clauses w a cs m) ≡ made.clauses w a cs m
begins w a cs m = from_nothing (made.clauses w a cs m)

-- a `try` with clauses, and one without

pub with_clauses : (a : Around) (n : ℕ) (cs : List memory.Catch) → 0 < length cs → in_first_block a n (clauses_of (map clause_of cs)) ≡ in_try a n
with_clauses a n [] less = absurd (omega (arith, less))
with_clauses a n (c ∷ rest) less = ap (in_first_block a n) (view_clause c (clauses_of (map clause_of rest)))

pub without_clauses : (a : Around) (n : ℕ) (cs : List memory.Catch) → length cs ≤ 0 → in_first_block a n (clauses_of (map clause_of cs)) ≡ inside a n
without_clauses a n [] less = refl
without_clauses a n (c ∷ rest) less = absurd (omega (arith, less))

pub rows_are : (xs : List kernel.Statement) → made.row_of xs ≡ kernel_view.statements_of xs
rows_are [] = refl
rows_are (x ∷ rest) = ap (kernel.first x) (rows_are rest)
