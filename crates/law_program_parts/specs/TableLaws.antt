-- The table of a tree: its declarations are few, and it keeps what is asked of the table of every program.
use Rattle.std.specs.Prelude.{ℕ, ◌≤◌, length}
use Rattle.wy_tree.specs.Ast.{Ast, tokens}
use Rattle.wy_tree.specs.Grammar.{WellFormed}
use Rattle.wy_kernel.specs.Table.{Table, IsTable}
use Rattle.wy_syntax.specs.Declarations.{unit}
use Rattle.wy_members.specs.Declarations.{table}
use Rattle.wy_members.specs.Constants.{IsTableOf}
use Rattle.wy_members.specs.Refusal.{KeepsRules}
use Rattle.wy_tree.specs.Tokens.{token_limit}

-- at most as many of each as tokens, beside the classes, the methods and the field of the library
abbrev pub class_limit : ℕ
class_limit = 1048594

abbrev pub method_limit : ℕ
method_limit = 1048612

abbrev pub field_limit : ℕ
field_limit = 1048577

pub record AreFew (t : Table) : Type 0 where
  pub classes : length t.classes ≤ class_limit
  pub methods : length t.methods ≤ method_limit
  pub fields : length t.fields ≤ field_limit

-- so few are those of a well-formed tree of at most 2^20 tokens: each takes a token of its own
abbrev pub TreesDeclareFew : Type 0
TreesDeclareFew = (tree : Ast) → WellFormed tree → length (tokens tree) ≤ token_limit → AreFew (table (unit 0 tree))

-- so where such a tree keeps the rules, its table is one
abbrev pub TreesHaveTables : Type 0
TreesHaveTables = (tree : Ast) → WellFormed tree → length (tokens tree) ≤ token_limit → KeepsRules (unit 0 tree) → (t : Table) → IsTableOf (unit 0 tree) t → IsTable t
