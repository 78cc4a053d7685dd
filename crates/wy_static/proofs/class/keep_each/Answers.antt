use Rattle.std.proofs.Common.{ℕ, ◌++◌, List, take, get_or, nat_eq, sym, ap, ◌∙◌}
use Rattle.std.specs.List.{flat_map}
use Rattle.std.proofs.lemmas.List.{flat_map_more, take_more}
use Rattle.wy_static.proofs.Behind.{all_of}
use Rattle.wy_static.specs.Rows.{kept_under, one_if}
use Rattle.wy_static.proofs.class.keep_each.Goals as goal

pub loop-above-preserved : goal.loop-above-preserved
loop-above-preserved c = λ q.
    let f : ℕ → List ℕ = λ d. one_if (nat_eq d q) c.args.class in
    let row = c.args.row.now in
    let i = c.loop-above.above-index in
    let x = get_or row i 0 in
    let old = kept_under c.args.below.now q in
    c.in_ok-keep.ensures q
    ∙ ap (λ (l : List ℕ). l ++ f x) (c.loop-above.invariant q)
    ∙ flat_map_more f old (take i row) x
    ∙ ap (λ (l : List ℕ). old ++ flat_map f l) (sym (take_more row i 0 c.loop-above-test.true))

pub returns : goal.returns
returns c = λ q. c.loop-above.invariant q ∙ ap (λ (l : List ℕ). kept_under c.args.below.now q ++ l) (all_of (λ d. one_if (nat_eq d q) c.args.class) c.args.row.now c.loop-above.above-index c.loop-above-test.false)
