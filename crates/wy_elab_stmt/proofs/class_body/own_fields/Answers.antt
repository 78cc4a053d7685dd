use Rattle.std.proofs.Common.{ap, ◌∙◌, [], ◌∷◌, map, Some}
use Rattle.std.specs.Prelude.{option_map}
use Rattle.wy_kernel.specs.View.{body_of}
use Rattle.wy_elab_stmt.proofs.class_body.own_fields.Goals as goal

pub returns : goal.returns
returns c = λ w stale s. ap (map (option_map body_of)) c.in_ok-vec.ensures.items ∙ ap (λ x. Some x ∷ []) (c.implied_body-body.ensures w stale s)
