-- The tree of a text's tokens is what a text can say.
use Rattle.std.proofs.Common.{sym, subst, ℕ, List}
use Rattle.std.specs.Prelude.{map}
use Rattle.wy_tree.specs.Ast.{Ast}
use Rattle.wy_tree.specs.Tokens.{SpannedToken, Tokens}
use Rattle.wy_tree.specs.Trees.{IsTreeOf}
use Rattle.wy_syntax.specs.Declarations.{unit}
use Rattle.law_well_formed.specs.Written.{UnitWritten, HasNoKeyword}
use Rattle.law_well_formed.proofs.Named.{trees_written}
use Rattle.law_well_formed.proofs.Keywords.{no_keywords}

pub texts_written : (text : List ℕ) (spans : List SpannedToken) (tree : Ast) → Tokens text spans → IsTreeOf (map (λ (s : SpannedToken). s.token) spans) tree → UnitWritten (unit 0 tree)
texts_written text spans tree read well = trees_written tree well.0 (subst HasNoKeyword (sym well.1) (no_keywords text spans read))
