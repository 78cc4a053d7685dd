use Rattle.std.proofs.Common.{sym, ap, ◌∙◌, ◌∷◌}
use Rattle.std.proofs.lemmas.List.{nil_from_length}
use Rattle.wy_value.proofs.Encodings.{code_points_pair, code_points_alone, code_points_last}
use Rattle.wy_value.specs.Encoding.{code_points}
use Rattle.wy_value.proofs.encoding.next_char.Goals as goal

pub returns-in-Some-pair-clause-first : goal.returns-in-Some-pair-clause-first
returns-in-Some-pair-clause-first c = code_points_pair _ _ _ _ _ c.in-Some.ensures.cases.0 (sym c.in-Some-pair.ensures)

pub returns-in-None-pair-clause-first : goal.returns-in-None-pair-clause-first
returns-in-None-pair-clause-first c =
    code_points_alone _ _ _ _ c.in-Some.ensures.cases.0 (sym c.in-None-pair.ensures) ∙ ap (λ u. u ∷ code_points c.args.others.now) (sym c.alone.ensures)

pub returns-in-None-clause-first : goal.returns-in-None-clause-first
returns-in-None-clause-first c =
    code_points_last _ _ (nil_from_length _ c.in-None.ensures.cases) ∙ ap (λ u. u ∷ code_points c.args.others.now) (sym c.alone-in-None.ensures)
