-- Where a print ends a line, and that no other form does.
use Rattle.std.proofs.Common.{cond, ◌⊎◌, ⊎_elim, ◌≡◌, ℕ, Bool, true, false, refl, sym, ap, ◌∙◌, List, [], ◌++◌, ◌∷◌, Option, Result, Ok, Err, OnOk}
use Rattle.std.proofs.lemmas.List.{append-nil}
use Rattle.wy_kernel.specs.declared.types.Ty.{Ty}
use Rattle.wy_kernel.specs.declared.form.Stmt.{Stmt}
use Rattle.wy_kernel.specs.declared.form.StmtForm.{StmtForm}
use Rattle.wy_kernel.specs.declared.form.Catch.{Catch}
use Rattle.wy_kernel.specs.Form as plain
use Rattle.wy_kernel.specs.View.{act, statement}
use Rattle.std.specs.declared.alloc.Global.{Global}
use Rattle.std.specs.declared.boxed.Box.{Box}
use Rattle.std.specs.declared.vec.Vec.{Vec}
use Rattle.wy_kernel.specs.declared.form.Expr.{Expr}
use Rattle.wy_kernel.specs.declared.form.StmtForm.TheVariants as form
use Rattle.wy_kernel.proofs.Views.{view_statement, view_block, view_eval, view_declare, view_if, view_while, view_do, view_for, view_labelled, view_jump, view_return, view_throw, view_try, view_print}
use Rattle.wy_payload.specs.Bodies.{newline_in, newline_of}

pub no_own : (old : List ℕ) (s : Stmt) (f : plain.Act) → act s.form ≡ f → newline_in f ≡ [] → old ≡ old ++ newline_of (statement s)
no_own old s f is none = sym (append-nil old) ∙ ap (λ l. old ++ l) (sym (ap newline_of (view_statement s) ∙ ap newline_in is ∙ none))

own_print : (operand : plain.Part) (ty : Ty) (ends_line : Bool) (site : ℕ) → cond ends_line (site ∷ []) [] ≡ newline_in (plain.Print operand ty ends_line site)
own_print operand ty true site = refl
own_print operand ty false site = refl

pub own : {E : Type 0} (r : Result Unit E) (old new : List ℕ) (s : Stmt) (operand : plain.Part) (ty : Ty) (ends_line : Bool) (site : ℕ) → act s.form ≡ plain.Print operand ty ends_line site
    → OnOk r (new ≡ old ++ cond ends_line (site ∷ []) []) → OnOk r (new ≡ old ++ newline_of (statement s))
own (Ok u) old new s operand ty ends_line site is e = e ∙ ap (λ l. old ++ l) (own_print operand ty ends_line site ∙ sym (ap newline_of (view_statement s) ∙ ap newline_in is))
own (Err x) old new s operand ty ends_line site is e = e

-- every form but a print
abbrev pub IsOther : StmtForm → Type 0
IsOther s = ((parts : Vec Stmt Global) × (s ≡ form.Block parts)) ⊎ (((value : Expr) × (s ≡ form.Eval value)) ⊎ (((local : ℕ) × (s ≡ form.Declare local))
    ⊎ (((test : Expr) × (main : Box Stmt Global) × (last : Option (Box Stmt Global)) × (s ≡ form.If test main last)) ⊎ (((test : Expr) × (body : Box Stmt Global) × (s ≡ form.While test body))
    ⊎ (((body : Box Stmt Global) × (test : Expr) × (s ≡ form.Do body test)) ⊎ (((inits : Vec Stmt Global) × (test : Option Expr) × (updates : Vec Stmt Global) × (body : Box Stmt Global) × (s ≡ form.For inits test updates body))
    ⊎ (((body : Box Stmt Global) × (s ≡ form.Labelled body)) ⊎ (((target : ℕ) × (s ≡ form.Jump target)) ⊎ (((value : Option Expr) × (s ≡ form.Return value)) ⊎ (((value : Expr) × (s ≡ form.Throw value))
    ⊎ ((main : Box Stmt Global) × (catches : Vec Catch Global) × (last : Option (Box Stmt Global)) × (s ≡ form.Try main catches last))))))))))))

pub other_has_none : (old : List ℕ) (s : Stmt) → IsOther s.form → old ≡ old ++ newline_of (statement s)
other_has_none old s =
    let none = no_own old s in
    ⊎_elim (λ h. none _ (ap act h.1 ∙ view_block _) refl)
    (⊎_elim (λ h. none _ (ap act h.1 ∙ view_eval _) refl)
    (⊎_elim (λ h. none _ (ap act h.1 ∙ view_declare _) refl)
    (⊎_elim (λ h. none _ (ap act h.3 ∙ view_if _ _ _) refl)
    (⊎_elim (λ h. none _ (ap act h.2 ∙ view_while _ _) refl)
    (⊎_elim (λ h. none _ (ap act h.2 ∙ view_do _ _) refl)
    (⊎_elim (λ h. none _ (ap act h.4 ∙ view_for _ _ _ _) refl)
    (⊎_elim (λ h. none _ (ap act h.1 ∙ view_labelled _) refl)
    (⊎_elim (λ h. none _ (ap act h.1 ∙ view_jump _) refl)
    (⊎_elim (λ h. none _ (ap act h.1 ∙ view_return _) refl)
    (⊎_elim (λ h. none _ (ap act h.1 ∙ view_throw _) refl)
    (λ h. none _ (ap act h.3 ∙ view_try _ _ _) refl)))))))))))
