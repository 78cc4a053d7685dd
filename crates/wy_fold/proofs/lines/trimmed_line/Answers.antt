use Rattle.std.proofs.Common.{◌∙◌, ap, sym}
use Rattle.std.proofs.lemmas.Bool.{ltb-true}
use Rattle.std.proofs.lemmas.Str.Ascii.{trim_ascii_start_is}
use Rattle.wy_fold.specs.SourceLines.{trimmed}
use Rattle.wy_fold.proofs.SourceWalk.{line_there}
use Rattle.wy_fold.proofs.lines.trimmed_line.Goals as goal

pub returns-in-Some : goal.returns-in-Some
returns-in-Some c =
    let found = c.in-Some.ensures.lookup in
    trim_ascii_start_is _ _ c.trim_ascii_start.ensures.value
    ∙ ap trimmed (line_there c.args.lines.now c.args.number c.in-Some.line.now c.if-number-eq0.false (ltb-true _ _ (sym found.0)) found.1)
