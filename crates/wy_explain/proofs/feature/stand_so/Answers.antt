use Rattle.std.proofs.Common.{◌∙◌, sym, ap, arith}
use Rattle.wy_explain.specs.Rows.{begin_so}
use Rattle.wy_explain.specs.Views.{words_of}
use Rattle.wy_explain.proofs.Walks.{begins_here, further_on, none_left}
use Rattle.wy_explain.proofs.feature.stand_so.Goals as goal

pub loop-k-preserved : goal.loop-k-preserved
loop-k-preserved c =
    let differs = ap (λ ws. begin_so (words_of ws) (words_of c.args.signs.now)) (sym c.split_at.ensures.back) ∙ sym c.begin_so.ensures ∙ c.if-begin_so.false in
    c.loop-k.invariant ∙ further_on c.args.words.now c.args.signs.now c.loop-k.k (omega arith) differs

pub returns : goal.returns
returns c = c.begin_so-2.ensures ∙ sym (c.loop-k.invariant ∙ none_left c.args.words.now c.args.signs.now c.loop-k.k (omega arith))

pub returns-then-begin_so : goal.returns-then-begin_so
returns-then-begin_so c =
    let begins = ap (λ ws. begin_so (words_of ws) (words_of c.args.signs.now)) (sym c.split_at.ensures.back) ∙ sym c.begin_so.ensures ∙ c.if-begin_so.true in
    sym (c.loop-k.invariant ∙ begins_here c.args.words.now c.args.signs.now c.loop-k.k (omega arith) begins)
