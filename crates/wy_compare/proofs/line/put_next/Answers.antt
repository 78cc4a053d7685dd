use Rattle.std.proofs.Common.{◌∙◌, ◌++◌, ap, sym}
use Rattle.std.specs.Prelude.{codes}
use Rattle.std.proofs.lemmas.Result.{on_ok_weaker}
use Rattle.wy_text.specs.EndLines.{line_of}
use Rattle.wy_compare.specs.Compared.{next_line}
use Rattle.wy_compare.proofs.Written.{joined}
use Rattle.wy_compare.proofs.line.put_next.Goals as goal

pub returns : goal.returns
unfolding next_line
returns c =
    let before = c.args.out.now.items in
    let name = c.args.name.now in
    let end = line_of (codes " --stop") in
    let a = c.put.new.out.items in
    let b = c.put_name.new.out.items in
    let d = c.put-2.new.out.items in
    on_ok_weaker c.put-2.result (λ last. joined before a d (codes "ask: whylens show ") (name ++ end) c.in_ok-put.ensures (joined a b d name end c.in_ok-put_name.ensures last)
    ∙ ap (λ t. before ++ next_line name c.args.event t) (sym c.if-is_there.false)) c.put-2.ensures
