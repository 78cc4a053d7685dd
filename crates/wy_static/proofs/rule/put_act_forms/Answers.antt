use Rattle.std.proofs.Common.{ap, ◌∙◌, ⊎_elim}
use Rattle.wy_kernel.specs.View.{act}
use Rattle.wy_kernel.proofs.Views.{view_eval, view_throw, view_if, view_while, view_do, view_for, view_return, view_print}
use Rattle.wy_static.specs.Seen.{forms_seen}
use Rattle.wy_static.specs.Ways.{act_forms}
use Rattle.wy_static.proofs.Behind.{at}
use Rattle.wy_static.proofs.Rules.{has_none}
use Rattle.wy_static.proofs.rule.put_act_forms.Goals as goal

pub returns-in-For : goal.returns-in-For
returns-in-For c = at (act_forms c.args.owner) c.put_test.result (forms_seen c.args.out.now.items) (forms_seen c.put_test.new.out.items) (act c.args.form.now) _ (ap act c.in-For.is ∙ view_for _ _ _ _) c.put_test.ensures

pub returns-in-Return : goal.returns-in-Return
returns-in-Return c = at (act_forms c.args.owner) c.put_test-in-Return.result (forms_seen c.args.out.now.items) (forms_seen c.put_test-in-Return.new.out.items) (act c.args.form.now) _ (ap act c.in-Return.is ∙ view_return _) c.put_test-in-Return.ensures

pub returns-in-Print : goal.returns-in-Print
returns-in-Print c = at (act_forms c.args.owner) c.put_test-in-Print.result (forms_seen c.args.out.now.items) (forms_seen c.put_test-in-Print.new.out.items) (act c.args.form.now) _ (ap act c.in-Print.is ∙ view_print _ _ _ _) c.put_test-in-Print.ensures

pub returns-in-If : goal.returns-in-If
returns-in-If c =
    let o = c.args.owner in
    let r = c.put_forms.result in
    let old = forms_seen c.args.out.now.items in
    let new = forms_seen c.put_forms.new.out.items in
    ⊎_elim (λ h. at (act_forms o) r old new (act c.args.form.now) _ (ap act h.2 ∙ view_if _ _ _) c.put_forms.ensures)
    (⊎_elim (λ h. at (act_forms o) r old new (act c.args.form.now) _ (ap act h.1 ∙ view_while _ _) c.put_forms.ensures)
    (λ h. at (act_forms o) r old new (act c.args.form.now) _ (ap act h.1 ∙ view_do _ _) c.put_forms.ensures))
    c.in-If.is

pub returns-in-Eval : goal.returns-in-Eval
returns-in-Eval c =
    let o = c.args.owner in
    let r = c.put_forms-in-Eval.result in
    let old = forms_seen c.args.out.now.items in
    let new = forms_seen c.put_forms-in-Eval.new.out.items in
    ⊎_elim (λ h. at (act_forms o) r old new (act c.args.form.now) _ (ap act h ∙ view_eval _) c.put_forms-in-Eval.ensures)
    (λ h. at (act_forms o) r old new (act c.args.form.now) _ (ap act h ∙ view_throw _) c.put_forms-in-Eval.ensures)
    c.in-Eval.is

pub returns-in-Block : goal.returns-in-Block
returns-in-Block c = has_none (forms_seen c.args.out.now.items) c.args.owner c.args.form.now c.in-Block.is

pub returns-in-Block-2 : goal.returns-in-Block-2
returns-in-Block-2 c = has_none (forms_seen c.args.out.now.items) c.args.owner c.args.form.now c.in-Block.is

pub returns-in-Block-3 : goal.returns-in-Block-3
returns-in-Block-3 c = has_none (forms_seen c.args.out.now.items) c.args.owner c.args.form.now c.in-Block.is

pub returns-in-Block-4 : goal.returns-in-Block-4
returns-in-Block-4 c = has_none (forms_seen c.args.out.now.items) c.args.owner c.args.form.now c.in-Block.is

pub returns-in-Block-5 : goal.returns-in-Block-5
returns-in-Block-5 c = has_none (forms_seen c.args.out.now.items) c.args.owner c.args.form.now c.in-Block.is
