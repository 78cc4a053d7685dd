use Rattle.std.proofs.Common.{◌≡◌, ◌++◌, ◌∷◌, []}
use Rattle.std.specs.Prelude.{codes}
use Rattle.std.specs.Fmt.{decimal}
use Rattle.std.proofs.lemmas.Result.{on_ok_weaker}
use Rattle.wy_kernel.specs.Parts.{program_of}
use Rattle.wy_compare.specs.Compared.{both_lines, part_text}
use Rattle.wy_compare.proofs.Written.{joined}
use Rattle.wy_compare.proofs.line.put_part.Goals as goal

pub returns-clause-part : goal.returns-clause-part
unfolding part_text
returns-clause-part g c = λ rs qs is so.
    let before = c.args.out.now.items in
    let what = c.args.what.now in
    let n = decimal c.args.event in
    let both = both_lines (program_of c.args.program.now) c.args.program.now.lines.items rs qs c.args.event in
    let a = c.put.new.out.items in
    let b = c.put-2.new.out.items in
    let d = c.put_decimal.new.out.items in
    let e = c.put-3.new.out.items in
    let text = what ++ (codes " part at #" ++ n) in
    let put : d ≡ before ++ text = joined before a d what (codes " part at #" ++ n) c.in_ok-put.ensures (joined a b d (codes " part at #") n c.in_ok-put-2.ensures c.in_ok-put_decimal.ensures) in
    let line : e ≡ before ++ (text ++ 10 ∷ []) = joined before d e text (10 ∷ []) put c.in_ok-put-3.ensures in
    on_ok_weaker c.put_both.result (λ last. joined before e c.put_both.new.out.items (text ++ 10 ∷ []) both line last) (c.put_both.ensures.lines rs qs is so)
