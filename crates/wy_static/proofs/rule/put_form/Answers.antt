use Rattle.std.proofs.Common.{ap, ◌∙◌, ⊎_elim}
use Rattle.wy_kernel.specs.View.{expression, present}
use Rattle.wy_kernel.specs.View.{place as place_seen}
use Rattle.wy_static.specs.Seen.{seen_by}
use Rattle.wy_static.specs.Ways.{constructing, converting, form_ways, initializing, is_absent, placing, updating}
use Rattle.wy_static.proofs.Behind.{at, behind_on}
use Rattle.wy_static.proofs.Rules.{nowhere}
use Rattle.wy_kernel.proofs.ExpressionViews.{view_read, view_set, view_upd, view_cond, view_new, view_call, view_cat}
use Rattle.wy_static.proofs.rule.put_form.Goals as goal

pub returns-in_ok-put_placing-in-Upd : goal.returns-in_ok-put_placing-in-Upd
returns-in_ok-put_placing-in-Upd c =
    let p = seen_by c.args.dispatcher.now in
    let o = c.args.owner in
    let r = c.put_updating.result in
    let new = c.put_updating.new.out.items in
    at (form_ways p o) r c.args.out.now.items new (expression c.args.form.now) _ (ap expression c.in-Upd.is ∙ view_upd _ _ _ _ _ _ _ _)
    (behind_on r c.args.out.now.items c.put_placing.new.out.items new (placing p o (place_seen c.in-Upd.place)) (updating p o c.in-Upd.ty c.in-Upd.value_ty (is_absent c.in-Upd.wide) c.in-Upd.site) c.in_ok-put_placing-in-Upd.ensures (rw (← c.is_absent.ensures) c.put_updating.ensures))

pub returns-in-Cond : goal.returns-in-Cond
returns-in-Cond c = at (form_ways (seen_by c.args.dispatcher.now) c.args.owner) c.put_arms.result c.args.out.now.items c.put_arms.new.out.items (expression c.args.form.now) _ (ap expression c.in-Cond.is ∙ view_cond _ _ _ _ _) c.put_arms.ensures

pub returns-in_ok-put_initializing-in-New : goal.returns-in_ok-put_initializing-in-New
returns-in_ok-put_initializing-in-New c =
    let o = c.args.owner in
    let r = c.put_constructing.result in
    let new = c.put_constructing.new.out.items in
    at (form_ways (seen_by c.args.dispatcher.now) o) r c.args.out.now.items new (expression c.args.form.now) _ (ap expression c.in-New.is ∙ view_new _ _ _ _)
    (behind_on r c.args.out.now.items c.put_initializing.new.out.items new (initializing o c.in-New.class c.in-New.site) (constructing o (present c.in-New.constructor) c.in-New.site) c.in_ok-put_initializing-in-New.ensures c.put_constructing.ensures)

pub returns-in-Call : goal.returns-in-Call
returns-in-Call c = at (form_ways (seen_by c.args.dispatcher.now) c.args.owner) c.put_called.result c.args.out.now.items c.put_called.new.out.items (expression c.args.form.now) _ (ap expression c.in-Call.is ∙ view_call _ _ _ _ _ _) c.put_called.ensures

pub returns-in_ok-put_converting-in-Cat : goal.returns-in_ok-put_converting-in-Cat
returns-in_ok-put_converting-in-Cat c =
    let p = seen_by c.args.dispatcher.now in
    let o = c.args.owner in
    let r = c.put_converting-in-Cat.result in
    let new = c.put_converting-in-Cat.new.out.items in
    at (form_ways p o) r c.args.out.now.items new (expression c.args.form.now) _ (ap expression c.in-Cat.is ∙ view_cat _ _ _ _ _)
    (behind_on r c.args.out.now.items c.put_converting.new.out.items new (converting p o c.in-Cat.left_ty c.in-Cat.site) (converting p o c.in-Cat.right_ty c.in-Cat.site) c.in_ok-put_converting-in-Cat.ensures c.put_converting-in-Cat.ensures)

pub returns-in-Read : goal.returns-in-Read
returns-in-Read c =
    let p = seen_by c.args.dispatcher.now in
    let o = c.args.owner in
    let r = c.put_placing-in-Read.result in
    let new = c.put_placing-in-Read.new.out.items in
    ⊎_elim (λ h. at (form_ways p o) r c.args.out.now.items new (expression c.args.form.now) _ (ap expression h ∙ view_read _) c.put_placing-in-Read.ensures)
    (λ h. at (form_ways p o) r c.args.out.now.items new (expression c.args.form.now) _ (ap expression h.2 ∙ view_set _ _ _) c.put_placing-in-Read.ensures)
    c.in-Read.is

pub returns-in-Const : goal.returns-in-Const
returns-in-Const c = nowhere (seen_by c.args.dispatcher.now) c.args.out.now.items c.args.owner c.args.form.now c.in-Const.is

pub returns-in-Const-2 : goal.returns-in-Const-2
returns-in-Const-2 c = nowhere (seen_by c.args.dispatcher.now) c.args.out.now.items c.args.owner c.args.form.now c.in-Const.is

pub returns-in-Const-3 : goal.returns-in-Const-3
returns-in-Const-3 c = nowhere (seen_by c.args.dispatcher.now) c.args.out.now.items c.args.owner c.args.form.now c.in-Const.is

pub returns-in-Const-4 : goal.returns-in-Const-4
returns-in-Const-4 c = nowhere (seen_by c.args.dispatcher.now) c.args.out.now.items c.args.owner c.args.form.now c.in-Const.is

pub returns-in-Const-5 : goal.returns-in-Const-5
returns-in-Const-5 c = nowhere (seen_by c.args.dispatcher.now) c.args.out.now.items c.args.owner c.args.form.now c.in-Const.is

pub returns-in-Const-6 : goal.returns-in-Const-6
returns-in-Const-6 c = nowhere (seen_by c.args.dispatcher.now) c.args.out.now.items c.args.owner c.args.form.now c.in-Const.is

pub returns-in-Const-7 : goal.returns-in-Const-7
returns-in-Const-7 c = nowhere (seen_by c.args.dispatcher.now) c.args.out.now.items c.args.owner c.args.form.now c.in-Const.is

pub returns-in-Const-8 : goal.returns-in-Const-8
returns-in-Const-8 c = nowhere (seen_by c.args.dispatcher.now) c.args.out.now.items c.args.owner c.args.form.now c.in-Const.is

pub returns-in-Const-9 : goal.returns-in-Const-9
returns-in-Const-9 c = nowhere (seen_by c.args.dispatcher.now) c.args.out.now.items c.args.owner c.args.form.now c.in-Const.is
