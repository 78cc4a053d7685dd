-- What the code finds is what declarations become.
use Rattle.std.proofs.Common.{◌≡◌, ◌∙◌, sym, ap, subst, ℕ, List, Result, Ok, Err, map}
use Rattle.wy_kernel.specs.declared.program.Program as memory
use Rattle.wy_table.specs.declared.table.ClassTable.{ClassTable}
use Rattle.wy_kernel.specs.Program.{Program}
use Rattle.wy_kernel.specs.Parts.{program_of}
use Rattle.wy_kernel.specs.Table.{Table}
use Rattle.wy_constant.specs.declared.rule.Rule.{Rule}
use Rattle.wy_constant.specs.declared.rule.TypeError.{TypeError}
use Rattle.wy_constant.specs.declared.rule.TypeError.TheVariants.{Broken, NoMemory}
use Rattle.wy_constant.specs.Refusal.{Refusal, Gives}
use Rattle.wy_syntax.specs.declared.declaration.Declaration.{Declaration}
use Rattle.wy_syntax.specs.View.{declaration_of}
use Rattle.wy_members.specs.Declarations.{CompilationUnit}
use Rattle.wy_members.specs.Refusal.{IsRefusal, KeepsRules}
use Rattle.wy_members.specs.Constants.{IsTableOf}
use Rattle.wy_elab_expr.specs.Operators.{Judgement, Settles}
use Rattle.wy_elab_stmt.specs.Program.{program}
use Rattle.wy_elab_stmt.specs.Elaborates.{Elaborates, by_declarations, by_bodies, ElaboratesTo}

refused_in : (u : CompilationUnit) (n : ℕ) (e : TypeError) → ((rule : Rule) (token : ℕ) → e ≡ Broken rule token → IsRefusal u rule token) → ElaboratesTo u n (Err e)
refused_in u n NoMemory h = tt
refused_in u n (Broken rule token) h = by_declarations rule token (h rule token (λ i. Broken rule token))

abbrev failed : TypeError → Result ClassTable TypeError
failed e = Err e

-- a refusal of the declarations is one of the program
pub refused_due : (u : CompilationUnit) (n : ℕ) (all slice : List Declaration) (e f : TypeError) → f ≡ e → slice ≡ all → map declaration_of all ≡ u →
    ((rule : Rule) (token : ℕ) → failed e ≡ failed (Broken rule token) → IsRefusal (map declaration_of slice) rule token) → ElaboratesTo u n (Err f)
refused_due u n all slice e f same is read h =
    let there : map declaration_of slice ≡ u = ap (map declaration_of) is ∙ read in
    refused_in u n f (λ rule token at. subst (λ (x : CompilationUnit). IsRefusal x rule token) there (h rule token (ap failed (sym same ∙ at))))

bodies_in : (u : CompilationUnit) (n : ℕ) (t : Table) (j : Judgement) (r : Result memory.Program TypeError) → KeepsRules u → IsTableOf u t → Settles t j →
    Gives program_of r (program j t u n) → ElaboratesTo u n r
bodies_in u n t j (Ok p) keeps is settles given = subst (λ (x : Result Program Refusal). Elaborates u n x) given (by_bodies t j keeps is settles)
bodies_in u n t j (Err NoMemory) keeps is settles given = tt
bodies_in u n t j (Err (Broken rule token)) keeps is settles given = subst (λ (x : Result Program Refusal). Elaborates u n x) given (by_bodies t j keeps is settles)

-- what is made of the bodies is the program, or its refusal
pub bodies_due : (u : CompilationUnit) (n m : ℕ) (t : Table) (all first second : List Declaration) (r : Result memory.Program TypeError) → m ≡ n → first ≡ all → second ≡ all → map declaration_of all ≡ u →
    KeepsRules (map declaration_of first) → IsTableOf (map declaration_of first) t → (j : Judgement) × Settles t j →
    ((j : Judgement) → Settles t j → Gives program_of r (program j t (map declaration_of second) m)) → ElaboratesTo u n r
bodies_due u n m t all first second r many is same read keeps table judged given =
    let one : map declaration_of first ≡ u = ap (map declaration_of) is ∙ read in
    let other : map declaration_of second ≡ u = ap (map declaration_of) same ∙ read in
    let made : Gives program_of r (program judged.0 t u n) =
    subst (λ (k : ℕ). Gives program_of r (program judged.0 t u k)) many (subst (λ (x : CompilationUnit). Gives program_of r (program judged.0 t x m)) other (given judged.0 judged.1)) in
    bodies_in u n t judged.0 r (subst KeepsRules one keeps) (subst (λ (x : CompilationUnit). IsTableOf x t) one table) judged.1 made
