-- The sites of every program, put together.
use Rattle.std.proofs.Common.{◌≡◌, arith, ap, ◌∙◌, subst, ℕ, List, length, Some}
use Rattle.std.specs.Prelude.{slice_get}
use Rattle.wy_tree.specs.Ast.{tokens}
use Rattle.wy_kernel.specs.Program.{Program, Class, Method, Field}
use Rattle.wy_kernel.specs.Table.{Table}
use Rattle.wy_syntax.specs.Names.{width}
use Rattle.wy_syntax.specs.Declarations.{unit}
use Rattle.wy_members.specs.Declarations.{CompilationUnit, classes_of, table}
use Rattle.wy_elab_stmt.proofs.OneProgram.{as_wide}
use Rattle.law_structure.proofs.Productions.{unit_full}
use Rattle.law_structure.proofs.Elaborated.{MadeFrom, made_from}
use Rattle.wy_typing.specs.Sites.{IsToken, HasSites}
use Rattle.law_sites.specs.Laws.{SitesAreTokens}
use Rattle.law_sites.proofs.Tokens.{ClassesTokens}
use Rattle.law_sites.proofs.TreeClasses.{unit_tokens}
use Rattle.law_sites.proofs.TableRows.{class_sited, method_sited, field_sited}
use Rattle.law_sites.proofs.SitedPrograms.{program_sited}

made_sites : (n : ℕ) (unit : CompilationUnit) (p : Program) → MadeFrom unit p → ClassesTokens (IsToken n) (classes_of unit) → HasSites n p
made_sites n unit p m h =
    let s = program_sited (IsToken n) unit p m h in
    let rows : m.table ≡ _ = m.is_table.rows in
    let classes : p.classes ≡ (table unit).classes = s.classes ∙ ap (λ (x : Table). x.classes) rows in
    let methods : p.methods ≡ (table unit).methods = s.methods ∙ ap (λ (x : Table). x.methods) rows in
    let fields : p.fields ≡ (table unit).fields = s.fields ∙ ap (λ (x : Table). x.fields) rows in
    record {
      classes = λ c k behind found. class_sited (IsToken n) unit h c k behind (subst (λ (xs : List Class). slice_get xs c ≡ Some k) classes found);
      methods = λ k m behind found. method_sited (IsToken n) unit h k m behind (subst (λ (xs : List Method). slice_get xs k ≡ Some m) methods found);
      fields = λ k f behind found. field_sited (IsToken n) unit h k f behind (subst (λ (xs : List Field). slice_get xs k ≡ Some f) fields found);
      bodies = s.bodies;
      initializers = s.initializers;
      library = s.library;
    }

pub sites_are_tokens : SitesAreTokens
sites_are_tokens tree well count p h =
    let n = length (tokens tree) in
    let wide : width tree ≡ n = as_wide tree in
    made_sites n (unit 0 tree) p (made_from (unit 0 tree) count p h) (unit_tokens n 0 tree (unit_full tree well) (omega arith))
