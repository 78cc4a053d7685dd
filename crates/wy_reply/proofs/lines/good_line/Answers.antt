use Rattle.std.proofs.Common.{◌∙◌, sym, ap, ◌++◌, ◌∷◌, [], append_assoc}
use Rattle.std.specs.Prelude.{codes}
use Rattle.std.specs.Fmt.{decimal}
use Rattle.wy_reply.proofs.lines.good_line.Goals as goal

pub returns : goal.returns
returns c =
    ap (λ v. v.items) c.into_bytes.ensures.value
    ∙ c.in_ok-line.ensures.ok
    ∙ ap (λ z. codes "certificate: " ++ (decimal c.args.events ++ (codes " events, " ++ z))) (sym (append_assoc (decimal c.args.by_data) (codes " in the data") (10 ∷ [])))
    ∙ ap (λ z. codes "certificate: " ++ z) (sym (append_assoc (decimal c.args.events) (codes " events, " ++ (decimal c.args.by_data ++ codes " in the data")) (10 ∷ [])))
