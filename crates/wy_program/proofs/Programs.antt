-- The laws on the parts of a program, put together.
use Rattle.std.proofs.Common.{◌≡◌, ℕ, ◌≤◌, refl, sym, ap, subst, List, length, Ok}
use Rattle.wy_tree.specs.Ast.{Ast, tokens}
use Rattle.wy_tree.specs.Grammar.{WellFormed}
use Rattle.wy_kernel.specs.Program.{Program, Class, Method, Field}
use Rattle.wy_kernel.specs.Table.{Table, IsTable}
use Rattle.wy_syntax.specs.Declarations.{unit}
use Rattle.wy_members.specs.Declarations.{CompilationUnit, table}
use Rattle.wy_elab_expr.specs.Operators.{Settles}
use Rattle.wy_elab_body.specs.Places.{places_of}
use Rattle.wy_elab_stmt.specs.Elaborates.{Elaborates}
use Rattle.law_typed.specs.ExpressionsTyped.{table_of, MethodsFit}
use Rattle.law_typed.specs.StatementsTyped.{Makes}
use Rattle.law_program_parts.specs.Programs.{BodiesFit, ProgramsAreTyped, TablesHaveRows}
use Rattle.law_program_parts.specs.Rows.{NamesAgreeInTables}
use Rattle.law_program_parts.proofs.TypedMade.{Comes, comes}
use Rattle.law_program_parts.specs.DeclaredLaws.{ProgramsHaveLibrary}
use Rattle.law_program_parts.specs.MembersLaws.{TreesStand}
use Rattle.law_program_parts.specs.TableLaws.{AreFew, TreesHaveTables}
use Rattle.law_well_formed.specs.Written.{UnitWritten}

-- the table of a program is that by which it is made
same_table : (unit : CompilationUnit) (count : ℕ) (p : Program) (c : Comes unit count p) → table_of p c.t.constants ≡ c.t
same_table unit count p c = subst (λ (q : Program). table_of q c.t.constants ≡ c.t) c.made.is refl

-- the laws that are put together
pub record Laws : Type 0 where
  pub stand : TreesStand
  pub tables : TreesHaveTables
  pub rows : TablesHaveRows
  pub names : NamesAgreeInTables
  pub library : ProgramsHaveLibrary
  pub typed : ProgramsAreTyped

-- the bodies of the program of a tree that says what a text can say
pub bodies_fit : Laws → (tree : Ast) → WellFormed tree → length (tokens tree) ≤ 1048576 → UnitWritten (unit 0 tree) → (count : ℕ) (p : Program) → MethodsFit p → Elaborates (unit 0 tree) count (Ok p) → BodiesFit p
bodies_fit laws tree well few written count p fit h =
    let c = comes (unit 0 tree) count p h in
    let classes : p.classes ≡ c.t.classes = sym (ap (λ (x : Program). x.classes) c.made.is) in
    let fields : p.fields ≡ c.t.fields = sym (ap (λ (x : Program). x.fields) c.made.is) in
    let methods : c.t.methods ≡ (table (unit 0 tree)).methods = ap (λ (x : Table). x.methods) c.is_table.rows in
    let stand = laws.stand tree well written c.keeps c.t c.is_table p classes fields in
    let same = same_table (unit 0 tree) count p c in
    let makes : Makes p c.t.constants c.j (places_of c.t (unit 0 tree)) = record {
      table = subst IsTable (sym same) (laws.tables tree well few c.keeps c.t c.is_table);
      settled = subst (λ x. Settles x c.j) (sym same) c.settles;
      methods = fit;
      statements = sym (ap (λ (x : Program). x.statements) c.made.is);
    } in
    let library = laws.library c.j c.t (unit 0 tree) count p c.is_table makes stand c.becomes in
    laws.typed c.j c.t (unit 0 tree) count p (laws.rows c.t (unit 0 tree) methods) library makes (laws.names p (unit 0 tree) (sym c.classes)) stand c.becomes

-- so few parts are declared
pub record DeclaresFew (p : Program) : Type 0 where
  pub classes : length p.classes ≤ 1048594
  pub methods : length p.methods ≤ 1048612
  pub fields : length p.fields ≤ 1048577

-- those of the text's table
pub few_parts : (unit : CompilationUnit) (count : ℕ) (p : Program) → Elaborates unit count (Ok p) → AreFew (table unit) → DeclaresFew p
few_parts unit count p h few =
    let c = comes unit count p h in
    record {
      classes = subst (λ (l : List Class). length l ≤ 1048594) c.classes few.classes;
      methods = subst (λ (l : List Method). length l ≤ 1048612) c.methods few.methods;
      fields = subst (λ (l : List Field). length l ≤ 1048577) c.fields few.fields;
    }
