use Rattle.std.proofs.Common.{ap, [], map}
use Rattle.std.proofs.lemmas.Result.{err_from_is_err_and}
use Rattle.wy_syntax.specs.View.{class_of, member_of}
use Rattle.wy_elab_stmt.proofs.Members.{all_made, all_refused}
use Rattle.wy_elab_stmt.proofs.class_body.all_members.Goals as goal

pub returns-in_err-members : goal.returns-in_err-members
returns-in_err-members c = λ w s.
    let p = err_from_is_err_and c.from_residual-in_err-members.result c.from_residual-in_err-members.ensures.1 in
    rw (p.1, p.2) (all_refused w c.args.number (class_of c.args.class.now) _ c.in_ok-growth.growth c.as_slice.result.now _ c.args.texts.now _ c.in_ok-growth.ensures (ap (map member_of) c.as_slice.ensures.value) (c.in_err-members.ensures w [] [] s))

pub returns : goal.returns
returns c = λ w s.
    all_made w c.args.number (class_of c.args.class.now) _ c.in_ok-growth.growth c.members.new.growth c.as_slice.result.now _ c.args.texts.now c.members.new.texts c.in_ok-growth.ensures (ap (map member_of) c.as_slice.ensures.value) (c.in_ok-members.ensures w [] [] s)
