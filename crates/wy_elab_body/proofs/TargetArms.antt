-- The targets of the jumps in a kernel statement, at each of its forms in memory.
use Rattle.std.proofs.Common.{◌≡◌, ap, sym, ◌∙◌, map, List, [], ◌∷◌, ◌++◌, Option, Some, ℕ, ◌+◌, ◌<◌, Bool, append_assoc, take, length, get_or, refl, if◌then◌else◌, ◌≤◌, arith}
use Rattle.std.specs.Prelude.{None as Absent}
use Rattle.std.proofs.lemmas.List.{append-nil}
use Rattle.std.specs.declared.alloc.Global.{Global}
use Rattle.std.specs.declared.boxed.Box.{Box}
use Rattle.std.specs.declared.vec.Vec.{Vec}
use Rattle.wy_kernel.specs.declared.types.Ty.{Ty}
use Rattle.wy_kernel.specs.declared.form.Expr.{Expr}
use Rattle.wy_kernel.specs.declared.form.Stmt.{Stmt}
use Rattle.wy_kernel.specs.declared.form.Catch.{Catch}
use Rattle.wy_kernel.specs.declared.form.StmtForm.TheVariants as form
use Rattle.wy_kernel.specs.Form as plain
use Rattle.wy_kernel.specs.View.{act, statement, clause, statements_of, clauses_of, other}
use Rattle.wy_kernel.proofs.Views.{view_statement, view_clause, view_block, view_eval, view_declare, view_if, view_while, view_do, view_for, view_labelled, view_jump, view_return, view_throw, view_try, view_print}
use Rattle.wy_elab_body.specs.Jumps.{targets, targets_within, targets_of_all, targets_of_other, targets_of_catches, has_clause}
use Rattle.wy_elab_body.proofs.Taken.{map_taken}

pub of_statement : (body catcher : ℕ) (s : Stmt) → targets body catcher (statement s) ≡ targets_within body catcher s.number (act s.form)
unfolding targets
of_statement body catcher s = ap (targets body catcher) (view_statement s)

pub of_block : (body catcher number : ℕ) (parts : Vec Stmt Global) → targets_within body catcher number (act (form.Block parts)) ≡ targets_of_all body catcher (statements_of (map statement parts.items))
unfolding targets
of_block body catcher number parts = ap (targets_within body catcher number) (view_block parts)

pub of_eval : (body catcher number : ℕ) (value : Expr) → targets_within body catcher number (act (form.Eval value)) ≡ []
unfolding targets
of_eval body catcher number value = ap (targets_within body catcher number) (view_eval value)

pub of_declare : (body catcher number : ℕ) (local : ℕ) → targets_within body catcher number (act (form.Declare local)) ≡ []
unfolding targets
of_declare body catcher number local = ap (targets_within body catcher number) (view_declare local)

pub of_if : (body catcher number : ℕ) (test : Expr) (main : Box Stmt Global) (last : Option (Box Stmt Global)) → targets_within body catcher number (act (form.If test main last)) ≡ targets body catcher (statement main.value) ++ targets_of_other body catcher (other last)
unfolding targets
of_if body catcher number test main last = ap (targets_within body catcher number) (view_if test main last)

pub of_while : (body catcher number : ℕ) (test : Expr) (inner : Box Stmt Global) → targets_within body catcher number (act (form.While test inner)) ≡ targets body catcher (statement inner.value)
unfolding targets
of_while body catcher number test inner = ap (targets_within body catcher number) (view_while test inner)

pub of_do : (body catcher number : ℕ) (inner : Box Stmt Global) (test : Expr) → targets_within body catcher number (act (form.Do inner test)) ≡ targets body catcher (statement inner.value)
unfolding targets
of_do body catcher number inner test = ap (targets_within body catcher number) (view_do inner test)

pub of_for : (body catcher number : ℕ) (inits : Vec Stmt Global) (test : Option Expr) (updates : Vec Stmt Global) (inner : Box Stmt Global) → targets_within body catcher number (act (form.For inits test updates inner)) ≡ targets body catcher (statement inner.value)
unfolding targets
of_for body catcher number inits test updates inner = ap (targets_within body catcher number) (view_for inits test updates inner)

pub of_labelled : (body catcher number : ℕ) (inner : Box Stmt Global) → targets_within body catcher number (act (form.Labelled inner)) ≡ targets body catcher (statement inner.value)
unfolding targets
of_labelled body catcher number inner = ap (targets_within body catcher number) (view_labelled inner)

pub of_jump : (body catcher number : ℕ) (target : ℕ) → targets_within body catcher number (act (form.Jump target)) ≡ target ∷ []
unfolding targets
of_jump body catcher number target = ap (targets_within body catcher number) (view_jump target)

pub of_return : (body catcher number : ℕ) (value : Option Expr) → targets_within body catcher number (act (form.Return value)) ≡ body ∷ []
unfolding targets
of_return body catcher number value = ap (targets_within body catcher number) (view_return value)

pub of_throw : (body catcher number : ℕ) (value : Expr) → targets_within body catcher number (act (form.Throw value)) ≡ catcher ∷ []
unfolding targets
of_throw body catcher number value = ap (targets_within body catcher number) (view_throw value)

pub of_try : (body catcher number : ℕ) (main : Box Stmt Global) (catches : Vec Catch Global) (last : Option (Box Stmt Global)) → targets_within body catcher number (act (form.Try main catches last)) ≡ targets body (if has_clause (clauses_of (map clause catches.items)) then number else catcher) (statement main.value) ++ targets_of_catches body catcher (clauses_of (map clause catches.items)) ++ targets_of_other body catcher (other last)
unfolding targets
of_try body catcher number main catches last = ap (targets_within body catcher number) (view_try main catches last)

pub of_print : (body catcher number : ℕ) (operand : Option Expr) (ty : Ty) (ends_line : Bool) (site : ℕ) → targets_within body catcher number (act (form.Print operand ty ends_line site)) ≡ []
unfolding targets
of_print body catcher number operand ty ends_line site = ap (targets_within body catcher number) (view_print operand ty ends_line site)

pub of_no_other : (body catcher : ℕ) → targets_of_other body catcher (other Absent) ≡ []
unfolding targets
of_no_other body catcher = refl

pub of_other : (body catcher : ℕ) (s : Box Stmt Global) → targets_of_other body catcher (other (Some s)) ≡ targets body catcher (statement s.value)
unfolding targets
of_other body catcher s = refl

pub behind_nothing : (all : List ℕ) → all ++ [] ≡ all
behind_nothing all = append-nil all

pub all_done : (body catcher : ℕ) → targets_of_all body catcher plain.done ≡ []
unfolding targets
all_done body catcher = refl

pub no_catches : (body catcher : ℕ) → targets_of_catches body catcher plain.uncaught ≡ []
unfolding targets
no_catches body catcher = refl

all_more : (body catcher : ℕ) (xs : List plain.Statement) (s : plain.Statement) → targets_of_all body catcher (statements_of (xs ++ s ∷ [])) ≡ targets_of_all body catcher (statements_of xs) ++ targets body catcher s
unfolding targets
all_more body catcher [] s = append-nil (targets body catcher s)
all_more body catcher (x ∷ rest) s = ap (λ z. targets body catcher x ++ z) (all_more body catcher rest s) ∙ sym (append_assoc (targets body catcher x) (targets_of_all body catcher (statements_of rest)) (targets body catcher s))

pub all_taken : (body catcher : ℕ) (xs : List Stmt) (i : ℕ) (x : Stmt) → i < length xs → x ≡ get_or xs i x →
    targets_of_all body catcher (statements_of (map statement (take (i + 1) xs))) ≡ targets_of_all body catcher (statements_of (map statement (take i xs))) ++ targets body catcher (statement x)
all_taken body catcher xs i x less is = ap (λ ys. targets_of_all body catcher (statements_of ys)) (map_taken statement xs i x less is) ∙ all_more body catcher (map statement (take i xs)) (statement x)

of_clause : (body catcher : ℕ) (c : Catch) (rest : plain.Catches) → targets_of_catches body catcher (clause c rest) ≡ targets body catcher (statement c.block) ++ targets_of_catches body catcher rest
unfolding targets
of_clause body catcher c rest = ap (targets_of_catches body catcher) (view_clause c rest)

catches_more : (body catcher : ℕ) (xs : List Catch) (c : Catch) →
    targets_of_catches body catcher (clauses_of (map clause xs ++ clause c ∷ [])) ≡ targets_of_catches body catcher (clauses_of (map clause xs)) ++ targets body catcher (statement c.block)
catches_more body catcher [] c =
    of_clause body catcher c (clauses_of []) ∙ ap (λ z. targets body catcher (statement c.block) ++ z) (no_catches body catcher)
    ∙ append-nil (targets body catcher (statement c.block)) ∙ ap (λ z. z ++ targets body catcher (statement c.block)) (sym (no_catches body catcher))
catches_more body catcher (x ∷ rest) c =
    of_clause body catcher x (clauses_of (map clause rest ++ clause c ∷ [])) ∙ ap (λ z. targets body catcher (statement x.block) ++ z) (catches_more body catcher rest c)
    ∙ sym (append_assoc (targets body catcher (statement x.block)) (targets_of_catches body catcher (clauses_of (map clause rest))) (targets body catcher (statement c.block)))
    ∙ ap (λ z. z ++ targets body catcher (statement c.block)) (sym (of_clause body catcher x (clauses_of (map clause rest))))

pub catches_taken : (body catcher : ℕ) (xs : List Catch) (i : ℕ) (x : Catch) → i < length xs → x ≡ get_or xs i x →
    targets_of_catches body catcher (clauses_of (map clause (take (i + 1) xs))) ≡ targets_of_catches body catcher (clauses_of (map clause (take i xs))) ++ targets body catcher (statement x.block)
catches_taken body catcher xs i x less is = ap (λ ys. targets_of_catches body catcher (clauses_of ys)) (map_taken clause xs i x less is) ∙ catches_more body catcher (take i xs) x

pub some_clause : (c : Catch) (rest : List Catch) → has_clause (clauses_of (map clause (c ∷ rest))) ≡ Bool.true
some_clause c rest = ap has_clause (view_clause c (clauses_of (map clause rest)))

pub has_some : (catches : List Catch) → 0 < length catches → has_clause (clauses_of (map clause catches)) ≡ Bool.true
has_some [] less = absurd (omega (arith, less))
has_some (c ∷ rest) less = some_clause c rest

pub has_none : (catches : List Catch) → length catches ≤ 0 → has_clause (clauses_of (map clause catches)) ≡ Bool.false
has_none [] less = refl
has_none (c ∷ rest) less = absurd (omega (arith, less))

pub three_more : (a b d e : List ℕ) (xs ys zs : List ℕ) → b ≡ a ++ xs → d ≡ b ++ ys → e ≡ d ++ zs → e ≡ a ++ (xs ++ ys ++ zs)
three_more a b d e xs ys zs h i j = j ∙ ap (λ z. z ++ zs) (i ∙ ap (λ z. z ++ ys) h) ∙ ap (λ z. z ++ zs) (append_assoc a xs ys) ∙ append_assoc a (xs ++ ys) zs
