use Rattle.std.proofs.Common.{◌≡◌, drop, map}
use Rattle.std.specs.Prelude.{fold}
use Rattle.wy_explain.specs.Views.{words_of}
use Rattle.wy_explain.specs.Windows.{no_front, with_token}
use Rattle.wy_tree.specs.Tokens.{spanned_token}
use Rattle.wy_explain.proofs.window.front_of.Given as goal

abbrev pub invariant-loop-token : goal.invariant-loop-token
invariant-loop-token l =
    fold (with_token l.source) no_front (map spanned_token l.front)
    ≡ fold (with_token l.source) (record { end = l.end; last = l.last; words = words_of l.words.items }) (map spanned_token (drop l.token-index l.front))
