use Rattle.std.proofs.Common.{◌≡◌, [], rules}
use Rattle.std.proofs.lemmas.Result.{err_from_is_err_and}
use Rattle.wy_elab_expr.proofs.Rows.{sizes_go, sizes_stop, no_size, sizes_back}
use Rattle.wy_elab_expr.proofs.sizes.sizes_of.Goals as goal

pub returns-in_err-form : goal.returns-in_err-form
returns-in_err-form c =
    let p = err_from_is_err_and c.from_residual.result c.from_residual.ensures.1 in
    let back = sizes_back c.args.sizes.items c.reverse.new.self.items c.args.token c.args.texts.now _ c.reverse.ensures.items c.loop-m.invariant in
    rw (p.1, p.2) (sizes_stop c.loop-m.forms.items c.loop-m.waiting.items c.pop.new.self.items c.in-Some.m c.args.token c.loop-m.texts _ _
    c.in_err-form.ensures c.in-Some.ensures.items back)

pub loop-m-preserved : goal.loop-m-preserved
loop-m-preserved c =
    sizes_go c.loop-m.forms.items c.push.new.self.items c.in_ok-form.form c.loop-m.waiting.items c.pop.new.self.items c.in-Some.m c.args.token
    c.loop-m.texts c.size_of.new.texts _ c.in_ok-form.ensures c.in-Some.ensures.items c.in_ok-push.ensures.items c.loop-m.invariant

pub returns : goal.returns
returns c =
    let back = sizes_back c.args.sizes.items c.reverse.new.self.items c.args.token c.args.texts.now _ c.reverse.ensures.items c.loop-m.invariant in
    let empty : c.loop-m.waiting.items ≡ [] = search rules in
    no_size c.loop-m.forms.items c.loop-m.waiting.items c.args.token c.loop-m.texts _ empty back
