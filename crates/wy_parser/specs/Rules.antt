-- The rules in groups.
use Rattle.std.specs.Prelude.{List, [], Option, Some, None}
use Rattle.wy_tree.specs.Grammar.{rule}
use Rattle.wy_tree.specs.declared.grammar.Sort.{Sort}
use Rattle.wy_tree.specs.declared.grammar.Sort.TheVariants as sorts
use Rattle.wy_tree.specs.declared.grammar.Item.{Item}

unfoldable pub declaration_rule : Sort → List Item
declaration_rule sorts.Unit = rule sorts.Unit
declaration_rule sorts.Declaration = rule sorts.Declaration
declaration_rule sorts.Class = rule sorts.Class
declaration_rule sorts.Interface = rule sorts.Interface
declaration_rule sorts.Mod = rule sorts.Mod
declaration_rule sorts.Member = rule sorts.Member
declaration_rule sorts.Params = rule sorts.Params
declaration_rule _ = rule sorts.Param

unfoldable pub type_rule : Sort → List Item
type_rule sorts.Throws = rule sorts.Throws
type_rule sorts.Result = rule sorts.Result
type_rule sorts.Type = rule sorts.Type
type_rule sorts.RefType = rule sorts.RefType
type_rule sorts.Decls = rule sorts.Decls
type_rule sorts.Decl = rule sorts.Decl
type_rule _ = rule sorts.Init

unfoldable pub statement_rule : Sort → List Item
statement_rule sorts.Block = rule sorts.Block
statement_rule sorts.Local = rule sorts.Local
statement_rule sorts.Stmt = rule sorts.Stmt
statement_rule sorts.ForInit = rule sorts.ForInit
statement_rule sorts.Catch = rule sorts.Catch
statement_rule _ = rule sorts.Effect

unfoldable pub expression_rule : Sort → List Item
expression_rule sorts.Expr = rule sorts.Expr
expression_rule sorts.Cond = rule sorts.Cond
expression_rule sorts.Unary = rule sorts.Unary
expression_rule sorts.Cast = rule sorts.Cast
expression_rule sorts.Operand = rule sorts.Operand
expression_rule sorts.Postfix = rule sorts.Postfix
expression_rule sorts.Primary = rule sorts.Primary
expression_rule sorts.New = rule sorts.New
expression_rule _ = rule sorts.Args

-- the items, if there are any
abbrev pub items_of : Option (List Item) → List Item
items_of None = []
items_of (Some items) = items
