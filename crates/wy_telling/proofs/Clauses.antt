-- The clauses of a `try` as they lie in memory.
use Rattle.std.proofs.Common.{◌≡◌, ◌∙◌, ⊎_elim, ◌++◌, ℕ, ◌≤◌, List, [], ◌∷◌, length, map, take, refl, sym, ap}
use Rattle.std.proofs.lemmas.List.{append-nil, take_all}
use Rattle.std.specs.Prelude.{OnOk, Result, Ok, Err, Option, Vec}
use Rattle.std.specs.declared.alloc.Global.{Global}
use Rattle.std.specs.declared.boxed.Box.{Box}
use Rattle.wy_kernel.specs.declared.form.Catch.{Catch}
use Rattle.wy_kernel.specs.declared.form.Stmt.{Stmt}
use Rattle.wy_kernel.specs.declared.form.StmtForm.TheVariants as form
use Rattle.wy_kernel.specs.View.{act, clause, clauses_of, statement}
use Rattle.wy_kernel.proofs.Views.{view_statement, view_clause, view_block, view_eval, view_declare, view_if, view_while, view_do, view_for, view_labelled, view_jump, view_return, view_throw, view_try, view_print}
use Rattle.wy_kernel.specs.Form.{Act}
use Rattle.wy_static.proofs.Stands.{HasNoClause}
use Rattle.wy_telling.specs.Caught.{clauses_in, clauses_in_act}
use Rattle.wy_telling.specs.Caught.{clauses_of as clauses_of_try}
use Rattle.wy_telling.specs.declared.caught.Clause.{Clause}

abbrev pub kept : Catch → Clause
kept c = record { site = c.site; class = c.class }

all_kept : (catches : List Catch) → map kept catches ≡ clauses_of_try (clauses_of (map clause catches))
all_kept [] = refl
all_kept (c ∷ rest) = ap (λ l. kept c ∷ l) (all_kept rest) ∙ sym (ap clauses_of_try (view_clause c (clauses_of (map clause rest))))

pub kept_whole : (old out : List Clause) (catches : List Catch) (i : ℕ) → length catches ≤ i → out ≡ old ++ map kept (take i catches)
    → out ≡ old ++ clauses_of_try (clauses_of (map clause catches))
kept_whole old out catches i end is = is ∙ ap (λ l. old ++ map kept l) (take_all i catches end) ∙ ap (λ l. old ++ l) (all_kept catches)

in_form : (s : Stmt) → clauses_in (statement s) ≡ clauses_in_act (act s.form)
in_form s = ap clauses_in (view_statement s)

-- every statement but a `try` has none
pub no_clause : (old : List Clause) (s : Stmt) → HasNoClause s.form → old ≡ old ++ clauses_in (statement s)
no_clause old s =
    ⊎_elim (λ h. none _ (ap act h.1 ∙ view_block _) refl)
    (⊎_elim (λ h. none _ (ap act h.1 ∙ view_eval _) refl)
    (⊎_elim (λ h. none _ (ap act h.1 ∙ view_declare _) refl)
    (⊎_elim (λ h. none _ (ap act h.3 ∙ view_if _ _ _) refl)
    (⊎_elim (λ h. none _ (ap act h.2 ∙ view_while _ _) refl)
    (⊎_elim (λ h. none _ (ap act h.2 ∙ view_do _ _) refl)
    (⊎_elim (λ h. none _ (ap act h.4 ∙ view_for _ _ _ _) refl)
    (⊎_elim (λ h. none _ (ap act h.1 ∙ view_labelled _) refl)
    (⊎_elim (λ h. none _ (ap act h.1 ∙ view_jump _) refl)
    (⊎_elim (λ h. none _ (ap act h.1 ∙ view_return _) refl)
    (⊎_elim (λ h. none _ (ap act h.1 ∙ view_throw _) refl)
    (λ h. none _ (ap act h.4 ∙ view_print _ _ _ _) refl)))))))))))
  where
    none : (a : Act) → act s.form ≡ a → clauses_in_act a ≡ [] → old ≡ old ++ clauses_in (statement s)
    none a is empty = sym (append-nil old) ∙ ap (λ l. old ++ l) (sym (in_form s ∙ ap clauses_in_act is ∙ empty))

pub try_clauses : {U E : Type 0} (r : Result U E) (old new : List Clause) (s : Stmt) (main : Box Stmt Global) (catches : Vec Catch Global) (last : Option (Box Stmt Global))
    → s.form ≡ form.Try main catches last → OnOk r (new ≡ old ++ clauses_of_try (clauses_of (map clause catches.items))) → OnOk r (new ≡ old ++ clauses_in (statement s))
try_clauses (Ok u) old new s main catches last is h = h ∙ ap (λ l. old ++ l) (sym (in_form s ∙ ap (λ f. clauses_in_act (act f)) is ∙ ap clauses_in_act (view_try main catches last)))
try_clauses (Err e) old new s main catches last is h = tt
