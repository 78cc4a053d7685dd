use Rattle.std.proofs.Common.{◌∙◌, sym, ap, ◌++◌, ◌∷◌, [], append_assoc}
use Rattle.std.specs.Prelude.{codes}
use Rattle.std.specs.Fmt.{decimal}
use Rattle.wy_reply.proofs.lines.damaged.Goals as goal

pub returns : goal.returns
returns c =
    ap (λ v. v.items) c.into_bytes.ensures.value
    ∙ c.in_ok-line.ensures.ok
    ∙ ap (λ z. codes "trace: Damaged at byte " ++ z) (sym (append_assoc (decimal c.args.byte) (codes ", " ++ c.args.rule.now) (10 ∷ [])))
