-- What a program is read from.
use Rattle.std.specs.Prelude.{ℕ, List, map}
use Rattle.wy_tree.specs.Ast.{Ast}
use Rattle.wy_tree.specs.Tokens.{SpannedToken, Tokens}
use Rattle.wy_tree.specs.Trees.{IsTreeOf}

-- these are the tokens of a text, and this is their tree
pub record Reads (spans : List SpannedToken) (tree : Ast) : Type 0 where
  pub text : List ℕ
  pub tokens : Tokens text spans
  pub reads : IsTreeOf (map (λ (s : SpannedToken). s.token) spans) tree
