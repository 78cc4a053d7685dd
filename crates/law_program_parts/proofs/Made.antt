-- The declarations of the program of a text, and its library.
use Rattle.std.proofs.Common.{◌≡◌, length, refl, sym, ap, subst, arith}
use Rattle.std.specs.List.{All}
use Rattle.wy_kernel.specs.Program.{Program}
use Rattle.wy_kernel.specs.Builtin as builtin
use Rattle.wy_kernel.specs.Subtyping.{IsAcyclic}
use Rattle.wy_kernel.specs.Table.{BeginsWith, NamesAmong}
use Rattle.wy_members.specs.Declarations.{CompilationUnit, table, class_rows, class_by_class, methods_of, fields_of}
use Rattle.wy_members.specs.Refusal.{KeepsRules}
use Rattle.wy_members.proofs.InRange.{names_among, acyclic}
use Rattle.wy_typing.specs.Programs.{IsDeclared}
use Rattle.law_program_parts.proofs.TypedMade.{comes}
use Rattle.law_program_parts.specs.DeclaredLaws.{DeclarationsStand, HasLibraryBodies, LibraryStands}
use Rattle.law_program_parts.proofs.DeclaredRows.{MethodStands, FieldStands, methods_stand, fields_stand}

-- ---- declarations

pub begins_classes : (unit : CompilationUnit) → BeginsWith (table unit).classes builtin.classes
unfolding table
begins_classes unit = (class_rows unit unit, refl)

pub begins_methods : (unit : CompilationUnit) → BeginsWith (table unit).methods builtin.methods
unfolding table
begins_methods unit = (class_by_class (methods_of unit) unit, refl)

pub begins_fields : (unit : CompilationUnit) → BeginsWith (table unit).fields builtin.fields
unfolding table
begins_fields unit = (class_by_class (fields_of unit) unit, refl)

of_table : (unit : CompilationUnit) (p : Program) → KeepsRules unit → (table unit).classes ≡ p.classes → (table unit).methods ≡ p.methods → (table unit).fields ≡ p.fields → IsDeclared p
of_table unit p keeps classes methods fields =
    let ms : All (MethodStands (length p.classes)) p.methods = subst (All (MethodStands (length p.classes))) methods (methods_stand unit (length p.classes) (ap length (sym classes))) in
    let fs : All (FieldStands (length p.classes)) p.fields = subst (All (FieldStands (length p.classes))) fields (fields_stand unit (length p.classes) (ap length (sym classes))) in
    record {
      library_classes = subst (λ l. BeginsWith l builtin.classes) classes (begins_classes unit);
      library_methods = subst (λ l. BeginsWith l builtin.methods) methods (begins_methods unit);
      library_fields = subst (λ l. BeginsWith l builtin.fields) fields (begins_fields unit);
      supertypes = subst NamesAmong classes (names_among unit);
      acyclic = subst IsAcyclic classes (acyclic unit keeps);
      methods = λ k d lt. (ms k d lt).among;
      fields = λ k d lt. (fs k d lt).among;
      params = λ k d lt. (ms k d lt).params;
      variables = λ k d lt. (fs k d lt).variable;
    }

pub declarations_stand : DeclarationsStand
declarations_stand unit tokens p h = let c = comes unit tokens p h in of_table unit p c.keeps c.classes c.methods c.fields

-- ---- the library

pub library_stands : LibraryStands
library_stands unit tokens p h =
    let c = comes unit tokens p h in
    subst HasLibraryBodies c.made.is (record { bodies = (c.made.bodies.methods, refl); statements = omega arith })
