-- Each member makes the class grow, or is refused.
use Rattle.std.proofs.Common.{refl}
use Rattle.std.proofs.lemmas.Result.{err_from_is_err_and}
use Rattle.wy_syntax.specs.View.{class_of}
use Rattle.wy_elab_stmt.proofs.Members.{goes_on, stops, ends}
use Rattle.wy_elab_stmt.proofs.class_body.members.Goals as goal

pub loop-m-init : goal.loop-m-init
loop-m-init c = λ w first second s. (record { first = first; second = second }, refl)

pub returns-in_err-member : goal.returns-in_err-member
returns-in_err-member c = λ w first second s.
    let p = err_from_is_err_and c.from_residual.result c.from_residual.ensures.1 in
    let k = c.loop-m.invariant w first second s in
    rw (p.1, p.2) (stops w c.args.number (class_of c.args.class.now) c.loop-m.growth c.args.all.now c.loop-m.m-index _ k.0 _ c.loop-m.texts _ c.loop-m-test.true c.m-item.is (c.in_err-member.ensures w k.0.first k.0.second s) k.1)

pub loop-m-preserved : goal.loop-m-preserved
loop-m-preserved c = λ w first second s.
    let k = c.loop-m.invariant w first second s in
    goes_on w c.args.number (class_of c.args.class.now) c.loop-m.growth c.member.new.growth c.args.all.now c.loop-m.m-index _ k.0 c.loop-m.texts c.member.new.texts _ c.loop-m-test.true c.m-item.is (c.in_ok-member.ensures w k.0.first k.0.second s) k.1

pub returns : goal.returns
returns c = λ w first second s.
    let k = c.loop-m.invariant w first second s in
    ends w c.args.number (class_of c.args.class.now) c.loop-m.growth c.args.all.now c.loop-m.m-index k.0 c.loop-m.texts _ c.loop-m-test.false k.1
