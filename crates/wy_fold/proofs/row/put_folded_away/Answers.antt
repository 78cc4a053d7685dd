use Rattle.std.proofs.Common.{◌∙◌, ◌++◌, ap, sym}
use Rattle.std.specs.Prelude.{codes}
use Rattle.std.specs.Fmt.{decimal}
use Rattle.wy_fold.proofs.Texts.{joined, some_away}
use Rattle.wy_fold.proofs.row.put_folded_away.Goals as goal

pub returns : goal.returns
returns c =
    let before = c.args.out.now.items in
    let a = c.put.new.out.items in
    let b = c.put_count.new.out.items in
    let end = c.put-2.new.out.items in
    joined before a end (codes ", ") (decimal c.args.many ++ codes " not shown: --all lists them") c.in_ok-put.ensures
    (joined a b end (decimal c.args.many) (codes " not shown: --all lists them") c.in_ok-put_count.ensures c.in_ok-put-2.ensures)
    ∙ ap (λ l. before ++ l) (sym (some_away c.args.many c.if-many-eq0.false))
