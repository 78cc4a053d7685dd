-- What stands in the program of a text: the members of each class, among the places of its statements and the fields of its table.
use Rattle.std.specs.Prelude.{◌≡◌}
use Rattle.wy_tree.specs.Ast.{Ast}
use Rattle.wy_tree.specs.Grammar.{WellFormed}
use Rattle.wy_kernel.specs.Program.{Program, first_source_class}
use Rattle.wy_kernel.specs.Table.{Table}
use Rattle.wy_syntax.specs.Declarations.{unit}
use Rattle.wy_members.specs.Declarations.{classes_of}
use Rattle.wy_members.specs.Constants.{IsTableOf}
use Rattle.wy_members.specs.Refusal.{KeepsRules}
use Rattle.wy_elab_body.specs.Places.{places_of}
use Rattle.law_program_parts.specs.Rows.{AllStand}
use Rattle.law_well_formed.specs.Written.{UnitWritten}

-- in a well-formed tree that says what a text can say and keeps the rules on declarations, the members of each class stand among the places of the tree's statements and
-- the fields of its table
abbrev pub TreesStand : Type 0
TreesStand =
    (tree : Ast) → WellFormed tree → UnitWritten (unit 0 tree) → KeepsRules (unit 0 tree)
    → (t : Table) → IsTableOf (unit 0 tree) t → (p : Program) → p.classes ≡ t.classes → p.fields ≡ t.fields
    → AllStand p t.constants (places_of t (unit 0 tree)) first_source_class (classes_of (unit 0 tree))
