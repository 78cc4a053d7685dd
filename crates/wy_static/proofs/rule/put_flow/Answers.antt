use Rattle.std.proofs.Common.{OnOk, ◌≡◌, map, ap, ◌∙◌, ⊎_elim, ◌++◌}
use Rattle.wy_kernel.specs.View.{act, clause, clauses_of, other, statement, statements_of, test_of}
use Rattle.wy_kernel.proofs.Views.{view_block, view_if, view_while, view_do, view_for, view_labelled, view_try}
use Rattle.wy_static.specs.declared.point.LinkKind.TheVariants as kind
use Rattle.wy_static.specs.Ways.{by_test, flow, in_order, owner_of, to, to_catches, to_other}
use Rattle.wy_static.proofs.Behind.{at, behind_on, leaf_has_none}
use Rattle.wy_static.proofs.Rules.{flows_none}
use Rattle.wy_static.proofs.rule.put_flow.Goals as goal

pub returns-in-Block : goal.returns-in-Block
returns-in-Block c = at (flow c.args.owner) c.put_in_order.result c.args.out.now.items c.put_in_order.new.out.items (act c.args.form.now) _ (ap act c.in-Block.is ∙ view_block _) (rw (← c.deref.ensures.value) c.put_in_order.ensures)

pub returns-in_ok-put_to-in-If : goal.returns-in_ok-put_to-in-If
returns-in_ok-put_to-in-If c =
    let o = c.args.owner in
    let r = c.put_to_other.result in
    let new = c.put_to_other.new.out.items in
    at (flow o) r c.args.out.now.items new (act c.args.form.now) _ (ap act c.in-If.is ∙ view_if _ _ _)
    (behind_on r c.args.out.now.items c.put_to.new.out.items new (to (kind.Arm 1) o (statement c.in-If.yes.value)) (to_other (kind.Arm 0) o (other c.in-If.no)) (rw (← c.deref-in-If.ensures) c.in_ok-put_to-in-If.ensures) c.put_to_other.ensures)

pub returns-in-While : goal.returns-in-While
returns-in-While c = at (flow c.args.owner) c.put_to-in-While.result c.args.out.now.items c.put_to-in-While.new.out.items (act c.args.form.now) _ (ap act c.in-While.is ∙ view_while _ _) (rw (← c.deref-in-While.ensures) c.put_to-in-While.ensures)

pub returns-in-Do : goal.returns-in-Do
returns-in-Do c =
    let o = c.args.owner in
    let r = c.put_to-in-Do.result in
    let new = c.put_to-in-Do.new.out.items in
    let found : OnOk r (new ≡ c.args.out.now.items ++ to kind.Into o (statement c.in-Do.body.value)) = rw (← c.deref-in-Do.ensures) c.put_to-in-Do.ensures in
    ⊎_elim (λ h. at (flow o) r c.args.out.now.items new (act c.args.form.now) _ (ap act h.1 ∙ view_do _ _) found)
    (λ h. at (flow o) r c.args.out.now.items new (act c.args.form.now) _ (ap act h ∙ view_labelled _) found)
    c.in-Do.is

pub returns-in_ok-put_to-in-For : goal.returns-in_ok-put_to-in-For
returns-in_ok-put_to-in-For c =
    let o = c.args.owner in
    let r = c.put_in_order-in-For-2.result in
    let old = c.args.out.now.items in
    let first = c.put_in_order-in-For.new.out.items in
    let second = c.put_to-in-For.new.out.items in
    let new = c.put_in_order-in-For-2.new.out.items in
    let inits = in_order kind.Into o (statements_of (map statement c.in-For.inits.items)) in
    let body = to (by_test (test_of c.in-For.test)) o (statement c.in-For.body.value) in
    let updates = in_order kind.Next (owner_of (statement c.in-For.body.value)) (statements_of (map statement c.in-For.updates.items)) in
    at (flow o) r old new (act c.args.form.now) _ (ap act c.in-For.is ∙ view_for _ _ _ _)
    (behind_on r old first new inits (body ++ updates) (rw (← c.deref-in-For.ensures.value) c.in_ok-put_in_order-in-For.ensures)
    (behind_on r first second new body updates (rw (← c.by_test.ensures) (rw (← c.deref-in-For-2.ensures) c.in_ok-put_to-in-For.ensures)) (rw (← c.deref-in-For-3.ensures) (rw (← c.owner_of.ensures) (rw (← c.deref-in-For-4.ensures.value) c.put_in_order-in-For-2.ensures)))))

pub returns-in_ok-put_to_catches-in-Try : goal.returns-in_ok-put_to_catches-in-Try
returns-in_ok-put_to_catches-in-Try c =
    let o = c.args.owner in
    let r = c.put_to_other-in-Try.result in
    let old = c.args.out.now.items in
    let first = c.put_to-in-Try.new.out.items in
    let second = c.put_to_catches.new.out.items in
    let new = c.put_to_other-in-Try.new.out.items in
    let main = to kind.Into o (statement c.in-Try.first.value) in
    let catches = to_catches o (clauses_of (map clause c.in-Try.catches.items)) in
    let last = to_other kind.Into o (other c.in-Try.last) in
    at (flow o) r old new (act c.args.form.now) _ (ap act c.in-Try.is ∙ view_try _ _ _)
    (behind_on r old first new main (catches ++ last) (rw (← c.deref-in-Try.ensures) c.in_ok-put_to-in-Try.ensures)
    (behind_on r first second new catches last (rw (← c.deref-in-Try-2.ensures.value) c.in_ok-put_to_catches-in-Try.ensures) c.put_to_other-in-Try.ensures))

pub returns-in-Eval : goal.returns-in-Eval
returns-in-Eval c = leaf_has_none (flow c.args.owner) (flows_none c.args.owner) c.args.out.now.items c.args.form.now c.in-Eval.is

pub returns-in-Eval-2 : goal.returns-in-Eval-2
returns-in-Eval-2 c = leaf_has_none (flow c.args.owner) (flows_none c.args.owner) c.args.out.now.items c.args.form.now c.in-Eval.is

pub returns-in-Eval-3 : goal.returns-in-Eval-3
returns-in-Eval-3 c = leaf_has_none (flow c.args.owner) (flows_none c.args.owner) c.args.out.now.items c.args.form.now c.in-Eval.is

pub returns-in-Eval-4 : goal.returns-in-Eval-4
returns-in-Eval-4 c = leaf_has_none (flow c.args.owner) (flows_none c.args.owner) c.args.out.now.items c.args.form.now c.in-Eval.is

pub returns-in-Eval-5 : goal.returns-in-Eval-5
returns-in-Eval-5 c = leaf_has_none (flow c.args.owner) (flows_none c.args.owner) c.args.out.now.items c.args.form.now c.in-Eval.is

pub returns-in-Eval-6 : goal.returns-in-Eval-6
returns-in-Eval-6 c = leaf_has_none (flow c.args.owner) (flows_none c.args.owner) c.args.out.now.items c.args.form.now c.in-Eval.is
