use Rattle.std.proofs.Common.{ℕ, ◌++◌, ◌∷◌, [], List, take, take_all, get_or, sym, ap, ◌∙◌, append_assoc}
use Rattle.std.proofs.lemmas.List.{map-append, take_more}
use Rattle.wy_static.specs.declared.point.Link.{Link}
use Rattle.wy_static.specs.declared.point.Point.TheVariants as point
use Rattle.wy_static.specs.Along.{link_along, links_to_each}
use Rattle.wy_static.proofs.links.put_to_each.Goals as goal

pub loop-method-preserved : goal.loop-method-preserved
loop-method-preserved c =
    let w = c.args.way in
    let methods = c.args.methods.now in
    let i = c.loop-method.method-index in
    let n = get_or methods i 0 in
    let old = c.args.out.now.items in
    c.in_ok-put_along.ensures
    ∙ ap (λ (l : List Link). l ++ link_along w (point.Entry n) ∷ []) c.loop-method.invariant
    ∙ append_assoc old (links_to_each w (take i methods)) (link_along w (point.Entry n) ∷ [])
    ∙ ap (λ (l : List Link). old ++ l) (sym (map-append (λ (m : ℕ). link_along w (point.Entry m)) (take i methods) (n ∷ [])))
    ∙ ap (λ (ms : List ℕ). old ++ links_to_each w ms) (sym (take_more methods i 0 c.loop-method-test.true))

pub returns : goal.returns
returns c = c.loop-method.invariant ∙ ap (λ (ms : List ℕ). c.args.out.now.items ++ links_to_each c.args.way ms) (take_all c.loop-method.method-index c.args.methods.now c.loop-method-test.false)
