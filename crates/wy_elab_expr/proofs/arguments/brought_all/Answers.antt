use Rattle.std.proofs.Common.{◌≡◌, [], rules}
use Rattle.std.proofs.lemmas.Result.{err_from_is_err_and}
use Rattle.wy_elab_expr.proofs.Rows.{goes_on, stops, none_left, none_waits, turned_back}
use Rattle.wy_elab_expr.proofs.arguments.brought_all.Goals as goal

pub returns-in_default : goal.returns-in_default
returns-in_default c =
    let back = turned_back c.args.params.now c.args.forms.items c.args.args.items c.reverse.new.self.items c.args.texts.now _ c.reverse.ensures.items c.loop-to.invariant in
    let empty : c.loop-to.waiting.items ≡ [] = search rules in
    none_waits c.args.params.now c.loop-to.to-index c.loop-to.forms.items c.loop-to.waiting.items c.loop-to.texts _ empty back

pub returns-in_err-form : goal.returns-in_err-form
returns-in_err-form c =
    let p = err_from_is_err_and c.from_residual.result c.from_residual.ensures.1 in
    let back = turned_back c.args.params.now c.args.forms.items c.args.args.items c.reverse.new.self.items c.args.texts.now _ c.reverse.ensures.items c.loop-to.invariant in
    rw (p.1, p.2) (stops c.args.params.now c.loop-to.to-index _ c.loop-to.forms.items c.loop-to.waiting.items c.pop.new.self.items c.in-Some.m c.loop-to.texts _ _
    c.loop-to-test.true c.in_err-form.ensures c.in-Some.ensures.items back)

pub loop-to-preserved : goal.loop-to-preserved
loop-to-preserved c =
    goes_on c.args.params.now c.loop-to.to-index _ c.loop-to.forms.items c.push.new.self.items c.in_ok-form.form c.loop-to.waiting.items c.pop.new.self.items c.in-Some.m
    c.loop-to.texts c.brought.new.texts _ c.loop-to-test.true c.in_ok-form.ensures c.in-Some.ensures.items c.in_ok-push.ensures.items c.loop-to.invariant

pub returns : goal.returns
returns c =
    let back = turned_back c.args.params.now c.args.forms.items c.args.args.items c.reverse.new.self.items c.args.texts.now _ c.reverse.ensures.items c.loop-to.invariant in
    none_left c.args.params.now c.loop-to.to-index c.loop-to.forms.items _ c.loop-to.texts _ c.loop-to-test.false back
