use Rattle.std.proofs.Common.{◌≡◌, ◌++◌, drop, map}
use Rattle.wy_explain.specs.Views.{words_of}
use Rattle.wy_explain.specs.Windows.{ahead_of}
use Rattle.wy_tree.specs.Tokens.{spanned_token}
use Rattle.wy_explain.proofs.window.ahead_of.Given as goal

abbrev pub invariant-loop-token : goal.invariant-loop-token
invariant-loop-token l = ahead_of l.source (map spanned_token l.tokens) ≡ words_of l.words.items ++ ahead_of l.source (map spanned_token (drop l.token-index l.tokens))
