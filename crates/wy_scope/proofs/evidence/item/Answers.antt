use Rattle.std.proofs.Common.{◌∙◌, ap}
use Rattle.wy_whynot.specs.Evidence.{arm_of, tests_at}
use Rattle.wy_scope.specs.Evidence.{made_of}
use Rattle.wy_scope.proofs.Evident.{evident, marked_hits}
use Rattle.wy_scope.proofs.evidence.item.Goals as goal

pub returns : goal.returns
returns c = λ p rs call are is_index is.
    let l = c.args.link.now in
    let hits = c.in_ok-hits.hits.items in
    evident p rs call l hits _ _ c.method.result (c.in_ok-hits.ensures ∙ marked_hits rs call c.args.scope.now is c.at_site.result.now l.site (c.at_site.ensures rs is_index))
    (c.in_ok-tests_of.ensures ∙ ap (tests_at (arm_of l.kind)) c.deref.ensures.value)
    (c.in_ok-made_of.ensures ∙ ap (λ hs. made_of hs l c.method.result) c.deref-2.ensures.value)
    (c.method.ensures p are)
