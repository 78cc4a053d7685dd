use Rattle.std.proofs.Common.{◌∙◌, ◌++◌, [], ap, arith, lt-ltb, sym}
use Rattle.std.specs.Prelude.{codes, if◌then◌else◌}
use Rattle.std.proofs.lemmas.Result.{on_ok_weaker}
use Rattle.wy_kernel.specs.Parts.{program_of}
use Rattle.wy_compare.specs.Compared.{part_text}
use Rattle.wy_compare.proofs.text.put_values.Goals as goal

pub returns-clause-text : goal.returns-clause-text
returns-clause-text g c = λ rs qs is so.
    let out = c.args.out.now.items in
    let n = c.args.values in
    let part = part_text (program_of c.args.program.now) c.args.program.now.lines.items rs qs (codes "values") n in
    on_ok_weaker c.put_part.result (λ put. put ∙ ap (λ b. out ++ (if b then part else [])) (sym (lt-ltb n c.args.paths (omega (arith, c.if-values-paths.false))))) (c.put_part.ensures.part rs qs is so)
