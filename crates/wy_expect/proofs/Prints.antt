-- Which statements print.
use Rattle.std.proofs.Common.{◌≡◌, ◌∙◌, ⊎_elim, ℕ, Bool, List, [], ◌∷◌, ◌++◌, Result, Ok, Err, OnOk, ap, refl, sym}
use Rattle.std.proofs.lemmas.List.{append-nil}
use Rattle.wy_kernel.specs.Form as plain
use Rattle.wy_kernel.specs.View.{act, statement}
use Rattle.wy_kernel.specs.declared.form.Stmt.{Stmt}
use Rattle.wy_kernel.specs.declared.types.Ty.{Ty}
use Rattle.wy_kernel.proofs.Views.{view_statement, view_block, view_eval, view_declare, view_if, view_while, view_do, view_for, view_labelled, view_jump, view_return, view_throw, view_try}
use Rattle.wy_payload.proofs.Newlines.{IsOther}
use Rattle.wy_expect.specs.Printers.{numbered_print, print_of}

-- a statement by its form
by_form : (s : Stmt) (f : plain.Act) → act s.form ≡ f → print_of (statement s) ≡ numbered_print s.number f
by_form s f is = ap print_of (view_statement s) ∙ ap (numbered_print s.number) is

pub own : {E : Type 0} (r : Result Unit E) (old new : List ℕ) (s : Stmt) (operand : plain.Part) (ty : Ty) (ends_line : Bool) (site : ℕ) → act s.form ≡ plain.Print operand ty ends_line site
    → OnOk r (new ≡ old ++ s.number ∷ []) → OnOk r (new ≡ old ++ print_of (statement s))
own (Ok u) old new s operand ty ends_line site is e = e ∙ ap (λ l. old ++ l) (sym (by_form s (plain.Print operand ty ends_line site) is))
own (Err x) old new s operand ty ends_line site is e = e

no_own : (old : List ℕ) (s : Stmt) (f : plain.Act) → act s.form ≡ f → numbered_print s.number f ≡ [] → old ≡ old ++ print_of (statement s)
no_own old s f is none = sym (append-nil old) ∙ ap (λ l. old ++ l) (sym (by_form s f is ∙ none))

pub other_has_none : (old : List ℕ) (s : Stmt) → IsOther s.form → old ≡ old ++ print_of (statement s)
other_has_none old s =
    let none = no_own old s in
    ⊎_elim (λ h. none _ (ap act h.1 ∙ view_block _) refl)
    (⊎_elim (λ h. none _ (ap act h.1 ∙ view_eval _) refl)
    (⊎_elim (λ h. none _ (ap act h.1 ∙ view_declare _) refl)
    (⊎_elim (λ h. none _ (ap act h.3 ∙ view_if _ _ _) refl)
    (⊎_elim (λ h. none _ (ap act h.2 ∙ view_while _ _) refl)
    (⊎_elim (λ h. none _ (ap act h.2 ∙ view_do _ _) refl)
    (⊎_elim (λ h. none _ (ap act h.4 ∙ view_for _ _ _ _) refl)
    (⊎_elim (λ h. none _ (ap act h.1 ∙ view_labelled _) refl)
    (⊎_elim (λ h. none _ (ap act h.1 ∙ view_jump _) refl)
    (⊎_elim (λ h. none _ (ap act h.1 ∙ view_return _) refl)
    (⊎_elim (λ h. none _ (ap act h.1 ∙ view_throw _) refl)
    (λ h. none _ (ap act h.3 ∙ view_try _ _ _) refl)))))))))))
