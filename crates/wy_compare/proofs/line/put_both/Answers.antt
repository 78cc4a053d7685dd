use Rattle.std.proofs.Common.{◌++◌}
use Rattle.std.specs.Prelude.{codes, slice_get}
use Rattle.std.proofs.lemmas.Result.{on_ok_weaker}
use Rattle.wy_kernel.specs.Parts.{program_of}
use Rattle.wy_compare.specs.Compared.{event_or_end}
use Rattle.wy_compare.proofs.Written.{joined}
use Rattle.wy_compare.proofs.line.put_both.Goals as goal

pub returns-clause-lines : goal.returns-clause-lines
returns-clause-lines g c = λ rs qs is so.
    let p = program_of c.args.program.now in
    let lines = c.args.program.now.lines.items in
    let first = event_or_end p lines rs c.args.event (slice_get rs c.args.event) in
    let second = event_or_end p lines qs c.args.event (slice_get qs c.args.event) in
    let a = c.put.new.out.items in
    let b = c.put_event_or_end.new.out.items in
    let d = c.put-2.new.out.items in
    let e = c.put_event_or_end-2.new.out.items in
    on_ok_weaker c.put_event_or_end-2.result
    (λ last. joined c.args.out.now.items a e (codes "< ") (first ++ (codes "> " ++ second)) c.in_ok-put.ensures
    (joined a b e first (codes "> " ++ second) (c.in_ok-put_event_or_end.ensures.line rs is) (joined b d e (codes "> ") second c.in_ok-put-2.ensures last)))
    (c.put_event_or_end-2.ensures.line qs so)
