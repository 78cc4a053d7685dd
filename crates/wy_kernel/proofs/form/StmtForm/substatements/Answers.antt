use Rattle.std.proofs.Common.{List, [], ◌∷◌, ◌++◌, ap, ◌∙◌, refl, ⊎_elim, map, append-nil}
use Rattle.wy_kernel.specs.declared.form.Stmt.{Stmt}
use Rattle.wy_kernel.specs.Statements.{statements}
use Rattle.wy_kernel.specs.Substatements.{block_of, to_come}
use Rattle.wy_kernel.specs.View.{act, statement}
use Rattle.wy_kernel.proofs.Views.{view_block, view_eval, view_declare, view_if, view_while, view_do, view_for, view_labelled, view_jump, view_return, view_throw, view_try, view_print}
use Rattle.wy_kernel.proofs.Substatements.{of_form, row_has, last_row_has, blocks_have, both_have, clauses_are, rows_are}
use Rattle.wy_kernel.proofs.form.StmtForm.substatements.Goals as goal

pub returns-in-Block : goal.returns-in-Block
returns-in-Block c = of_form _ _ _ (map statement c.in-Block.parts.items ++ []) (ap act c.in-Block.is ∙ view_block _) (c.rows.ensures ∙ ap (λ (z : List Stmt). map statement z ++ []) c.deref.ensures.value)
    (last_row_has c.in-Block.parts.items ∙ row_has c.in-Block.parts.items)

pub returns-in-If : goal.returns-in-If
returns-in-If c =
    let yes = c.in-If.yes.value in
    let no = c.row_of.result.now in
    of_form _ _ _ (statement yes ∷ (map statement no ++ [])) (ap act c.in-If.is ∙ view_if _ _ _) (c.rows-in-If.ensures ∙ ap (λ (z : List Stmt). map statement z ++ (map statement no ++ [])) (c.from_ref.ensures.value ∙ ap (λ y. y ∷ []) c.deref-in-If.ensures))
    (ap (λ l. statements (statement yes) ++ l) (last_row_has no ∙ c.row_of.ensures))

pub returns-in-For : goal.returns-in-For
returns-in-For c =
    let inits = c.in-For.inits.items in
    let updates = c.in-For.updates.items in
    let body = c.in-For.body.value in
    of_form _ _ _ (map statement inits ++ (map statement updates ++ statement body ∷ [])) (ap act c.in-For.is ∙ view_for _ _ _ _) (c.rows-in-For.ensures ∙ rows_are _ _ _ inits updates (body ∷ []) c.deref-in-For.ensures.value c.deref-in-For-2.ensures.value (c.from_ref-in-For.ensures.value ∙ ap (λ y. y ∷ []) c.deref-in-For-3.ensures))
    (both_have (map statement inits) (map statement updates ++ statement body ∷ []) _ _ (row_has inits) (both_have (map statement updates) (statement body ∷ []) _ _ (row_has updates) (append-nil (statements (statement body)))))

pub returns-in-Try : goal.returns-in-Try
returns-in-Try c =
    let main = c.in-Try.first.value in
    let catches = c.in-Try.catches.items in
    let last = c.row_of-in-Try.result.now in
    of_form _ _ _ (statement main ∷ (map block_of catches ++ (map statement last ++ []))) (ap act c.in-Try.is ∙ view_try _ _ _) (clauses_are c.from_ref-in-Try.result.now (main ∷ []) c.deref-in-Try-2.result.now catches last (c.from_ref-in-Try.ensures.value ∙ ap (λ y. y ∷ []) c.deref-in-Try.ensures) c.deref-in-Try-2.ensures.value)
    (ap (λ l. statements (statement main) ++ l) (both_have (map block_of catches) (map statement last ++ []) _ _ (blocks_have catches) (last_row_has last ∙ c.row_of-in-Try.ensures)))

pub returns-in-Eval : goal.returns-in-Eval
returns-in-Eval c =
    let come = to_come c.rows-in-Eval.result in
    let none = c.rows-in-Eval.ensures in
    ⊎_elim (λ h. of_form _ _ come [] (ap act h.1 ∙ view_eval _) none refl)
    (⊎_elim (λ h. of_form _ _ come [] (ap act h.1 ∙ view_declare _) none refl)
    (⊎_elim (λ h. of_form _ _ come [] (ap act h.1 ∙ view_jump _) none refl)
    (⊎_elim (λ h. of_form _ _ come [] (ap act h.1 ∙ view_return _) none refl)
    (⊎_elim (λ h. of_form _ _ come [] (ap act h.1 ∙ view_throw _) none refl)
    (λ h. of_form _ _ come [] (ap act h.4 ∙ view_print _ _ _ _) none refl)))))
    c.in-Eval.is

pub returns-in-While : goal.returns-in-While
returns-in-While c =
    let body = c.in-While.body.value in
    let come = c.rows-in-While.ensures ∙ ap (λ (z : List Stmt). map statement z ++ []) (c.from_ref-in-While.ensures.value ∙ ap (λ y. y ∷ []) c.deref-in-While.ensures) in
    let has = append-nil (statements (statement body)) in
    ⊎_elim (λ h. of_form _ _ _ (statement body ∷ []) (ap act h.1 ∙ view_while _ _) come has)
    (⊎_elim (λ h. of_form _ _ _ (statement body ∷ []) (ap act h.1 ∙ view_do _ _) come has)
    (λ h. of_form _ _ _ (statement body ∷ []) (ap act h ∙ view_labelled _) come has))
    c.in-While.is
