-- The bodies of every program: a print ends a line where the word in front of its `(` is `println`.
use Rattle.std.proofs.Common.{ℕ, Bool, false}
use Rattle.std.specs.Prelude.{Option, None}
use Rattle.wy_kernel.specs.Form as kernel
use Rattle.wy_kernel.specs.View.{NONE}
use Rattle.wy_kernel.specs.Program.{Program}
use Rattle.wy_syntax.specs.Syntax.{WrittenType, Braced, Statements, OwnCall, Header, ClassSyntax}
use Rattle.wy_members.specs.Declarations.{CompilationUnit, classes_of}
use Rattle.wy_elab_body.specs.declared.place.Role.{Role}
use Rattle.wy_elab_body.specs.declared.place.Role.TheVariants.{ConstructorBody}
use Rattle.wy_elab_body.specs.Parts.{NoValue}
use Rattle.wy_elab_body.specs.Jumps.{alone, inside}
use Rattle.wy_elab_body.specs.Statements.{Setting, number, plain, block, statements, joined, row_of}
use Rattle.wy_elab_body.specs.Bodies.{implied, parameters, outcome_of, brace_of, method_block, first_calls, constructor_block, implied_constructor_block, around_initializer, initializer_block}
use Rattle.wy_library.specs.Library.{library_bodies}
use Rattle.law_structure.proofs.Elaborated.{MadeFrom}
use Rattle.law_structure.proofs.Yields.{Yields, given, and_then, behind}
use Rattle.law_structure.proofs.FirstCalls.{any_calls, any_fields}
use Rattle.law_structure.proofs.EachBody.{BodyHas, BodiesHave, library_has, OfMembers, program_has}
use Rattle.law_own_traces.proofs.Calls.{Words}
use Rattle.law_own_traces.proofs.Said.{BlockCalls, AllCalls, MemberCalls, ClassesCalls}
use Rattle.law_own_traces.proofs.Printing.{Lines, AllLines, ListLines, row_lined, joined_lined, alone_lined, block_lined, statements_lined}

-- ---- blocks

evaluation_lined : (W : Words) (number site : ℕ) (askable : Bool) (e : kernel.Expression) → Lines W (kernel.Stmt number site askable NONE (kernel.Eval e))
evaluation_lined W number site askable e = (tt, tt)

calls_lined : (W : Words) (w : Setting) (c : ℕ) (k : ClassSyntax) (site : ℕ) (own : Option OwnCall) → Yields (first_calls w c k site own) (ListLines W)
calls_lined W = any_calls (Lines W) (evaluation_lined W)

method_lined : (W : Words) (w : Setting) (h : Header) (result : Option WrittenType) (b : Braced) → BlockCalls W b → Yields (method_block w h result b) (Lines W)
unfolding method_block
method_lined W w h result b i =
    behind (outcome_of w result) _ (Lines W) (λ outcome. behind (parameters w h.params) _ (Lines W) (λ params. block_lined W w (alone (number w (brace_of b)) outcome) b i))

constructor_lined : (W : Words) (w : Setting) (c : ℕ) (k : ClassSyntax) (h : Header) (own : Option OwnCall) (brace : ℕ) (parts : Statements) → AllCalls W parts → Yields (constructor_block w c k h own brace parts) (Lines W)
unfolding constructor_block
constructor_lined W w c k h own brace parts i =
    behind (parameters w h.params) _ (Lines W) (λ params.
    and_then (first_calls w c k h.name.token own) _ (ListLines W) (Lines W) (calls_lined W w c k h.name.token own) (λ calls x.
    and_then (statements w (inside (alone (number w brace) NoValue) (number w brace)) parts) _ (AllLines W) (Lines W) (statements_lined W w (inside (alone (number w brace) NoValue) (number w brace)) parts i) (λ xs y.
    given (Lines W) (plain w brace false (kernel.Block (joined calls xs))) (tt, joined_lined W calls xs x y))))

implied_constructor_lined : (W : Words) (w : Setting) (c : ℕ) (k : ClassSyntax) → Yields (implied_constructor_block w c k) (Lines W)
unfolding implied_constructor_block
implied_constructor_lined W w c k =
    and_then (first_calls w c k k.name.token None) _ (ListLines W) (Lines W) (calls_lined W w c k k.name.token None) (λ calls i.
    given (Lines W) (implied w k.name.token ConstructorBody (kernel.Block (row_of calls))) (tt, row_lined W calls i))

initializer_lined : (W : Words) (w : Setting) (k : ClassSyntax) (role : Role) (b : Braced) → BlockCalls W b → Yields (initializer_block w k role b) (ListLines W)
initializer_lined W w k role b h = alone_lined W (block w (around_initializer w k role) b) (block_lined W w (around_initializer w k role) b h)

-- ---- the program

members_lined : (W : Words) → OfMembers (Lines W) (λ w k role. Lines W) (MemberCalls W)
members_lined W = record {
  method = method_lined W;
  written = λ w c k h own brace parts end i. constructor_lined W w c k h own brace parts i;
  unwritten = implied_constructor_lined W;
  initializer = λ w k role is_static b i. initializer_lined W w k role b i;
  fields = λ w c k role is_static ms ty all i. any_fields (Lines W) (evaluation_lined W) w c is_static ty all;
  row = λ w k role xs h. (tt, row_lined W xs h);
}

-- the library prints nothing
library_lined : (W : Words) → BodiesHave (Lines W) library_bodies
library_lined W =
    library_has (BodyHas (Lines W)) (tt, (tt, tt)) (tt, (tt, tt)) (tt, tt) (tt, (tt, tt)) (tt, (tt, tt)) (tt, (tt, (tt, (tt, (tt, tt)))))
    (λ c k. (tt, (tt, tt))) (λ c k. (tt, (tt, tt)))

pub program_lined : (W : Words) (unit : CompilationUnit) (p : Program) → MadeFrom unit p → ClassesCalls W (classes_of unit) → BodiesHave (Lines W) p.bodies × BodiesHave (Lines W) p.init_bodies
program_lined W unit p m h = program_has (Lines W) (λ w k role. Lines W) (MemberCalls W) (members_lined W) (library_lined W) unit p m h
