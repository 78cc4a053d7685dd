use Rattle.std.proofs.Common.{◌∙◌, sym, arith}
use Rattle.wy_explain.proofs.Walks.{no_word_left}
use Rattle.wy_explain.proofs.feature.begin_so.Goals as goal

pub returns-then-k-words : goal.returns-then-k-words
returns-then-k-words c = sym (c.loop-k.invariant ∙ no_word_left c.args.words.now c.args.signs.now c.loop-k.k (omega arith) (omega arith))
