-- The bodies of every program have apart what decides and what is tested, where what is written has.
use Rattle.std.proofs.Common.{ℕ, Bool, true, false, List, []}
use Rattle.std.specs.Prelude.{Option, Some, None, slice_get}
use Rattle.std.specs.List.{AllByRecursion}
use Rattle.wy_kernel.specs.Form as kernel
use Rattle.wy_kernel.specs.Program.{Program, Body, Method}
use Rattle.wy_kernel.specs.Builtin as builtin
use Rattle.wy_kernel.specs.Table.{Table}
use Rattle.wy_syntax.specs.Syntax.{WrittenType, Declarator, Row, Braced, Statements, OwnCall, Header, Member, ClassSyntax}
use Rattle.wy_syntax.specs.Syntax as source
use Rattle.wy_constant.specs.declared.rule.Rule.TheVariants.{NoMethod, Private}
use Rattle.wy_constant.specs.Scope.{Scope}
use Rattle.wy_members.specs.Declarations.{CompilationUnit, classes_of}
use Rattle.wy_elab_expr.specs.Meaning.{Meaning}
use Rattle.wy_elab_expr.specs.Meaning as found
use Rattle.wy_elab_expr.specs.Operators.{Judgement}
use Rattle.wy_elab_expr.specs.Members.{is_outside, brought_all, method_for}
use Rattle.wy_elab_expr.specs.Elaboration.{elaborated_all}
use Rattle.wy_elab_body.specs.declared.place.Role.{Role}
use Rattle.wy_elab_body.specs.declared.place.Role.TheVariants.{ConstructorBody}
use Rattle.wy_elab_body.specs.Parts.{NoValue, constructor_form, constructed_by, constructor_called, constructor_call}
use Rattle.wy_elab_body.specs.Jumps.{alone, inside}
use Rattle.wy_elab_body.specs.Statements.{Setting, number, plain, block, statements, joined, row_of}
use Rattle.wy_elab_body.specs.Bodies.{implied, parameters, outcome_of, brace_of, method_block, fields_call, first_calls, constructor_block, implied_constructor_block, around_initializer, own_place, field_initials, initializer_block}
use Rattle.wy_library.specs.Library.{library_bodies}
use Rattle.law_structure.proofs.Elaborated.{MadeFrom}
use Rattle.law_structure.proofs.Yields.{Yields, given, refused_found, anything, and_then, behind, then_found, of_choice}
use Rattle.law_structure.proofs.FirstCalls.{OfForms, calls_have, fields_have}
use Rattle.law_structure.proofs.EachBody.{BodyHas, BodiesHave, library_has, AllSaid, OfMembers, program_has}
use Rattle.law_structure.proofs.Sound.{Numbers}
use Rattle.law_structure.proofs.Clear.{Clear, ClearPlace, ClearRow, AllClear}
use Rattle.law_structure.proofs.ClearMembers.{brought_all_clear}
use Rattle.law_structure.proofs.Elaborations.{RowSigns, all_clear, initial_clear}
use Rattle.law_structure.proofs.Apart.{Apart, ApartAll, FirstSigns, DeclaratorSigns, BlockWords, AllWords, ListApart, row_apart, joined_apart, alone_apart, block_apart, statements_apart}

-- ---- what is written in a class

abbrev pub OwnSigns : Numbers → Option OwnCall → Type 0
OwnSigns S None = Unit {0}
OwnSigns S (Some call) = RowSigns S call.args

abbrev pub MemberWords : Numbers → Numbers → Member → Type 0
MemberWords S T (source.Initializer is_static b) = BlockWords S T b
MemberWords S T (source.Fields ms ty all) = DeclaratorSigns S all
MemberWords S T (source.Method h result (Some b)) = BlockWords S T b
MemberWords S T (source.Constructor h own brace parts end) = OwnSigns S own × AllWords S T parts
MemberWords S T _ = Unit {0}

abbrev pub MembersWords : Numbers → Numbers → List Member → Type 0
MembersWords S T ms = AllByRecursion (MemberWords S T) ms

abbrev pub ClassesWords : Numbers → Numbers → List ClassSyntax → Type 0
ClassesWords S T ks = AllSaid (MemberWords S T) ks

-- ---- calls at the head of a constructor

by_clear : (S : Numbers) (s : Scope) (class k : ℕ) (m : Option Method) (ms : List Meaning) (token : ℕ) → AllClear S ms → Yields (constructed_by s class k m ms token) (Clear S)
by_clear S s class k None ms token h = refused_found (Clear S) NoMethod token
by_clear S s class k (Some m) ms token h =
    of_choice (is_outside s m.is_private m.class) (found.refuse Private token) _ (Clear S) (refused_found (Clear S) Private token)
    (then_found (brought_all m.params ms) _ (ClearRow S) (Clear S) (brought_all_clear S m.params ms h) (λ es i. given (Clear S) (constructor_form class k es token) (tt, i)))

called_clear : (S : Numbers) (j : Judgement) (t : Table) (class : ℕ) (ms : List Meaning) (token : ℕ) → AllClear S ms → (s : Scope) → Yields (constructor_called j t class ms token s) (Clear S)
unfolding constructor_called
called_clear S j t class ms token h s = then_found (method_for j _ _ ms token) _ (λ k. Unit {0}) (Clear S) (anything _) (λ k x. by_clear S s class k (slice_get t.methods k) ms token h)

call_clear : (S : Numbers) (j : Judgement) (t : Table) (class : ℕ) (args : Row) (token : ℕ) → RowSigns S args → (s : Scope) → Yields (constructor_call j t class args token s) (Clear S)
unfolding constructor_call
call_clear S j t class args token h s = then_found (elaborated_all j t s args) _ (AllClear S) (Clear S) (all_clear S j t s args h) (λ ms i. called_clear S j t class ms token i s)

fields_form_clear : (S : Numbers) (k : Option ℕ) (c site : ℕ) → Clear S (fields_call k c site)
fields_form_clear S None c site = tt
fields_form_clear S (Some k) c site = (tt, tt)

own_place_clear : (S : Numbers) (b : Bool) (field token : ℕ) → ClearPlace S (own_place b field token)
own_place_clear S true field token = tt
own_place_clear S false field token = tt

forms_clear : (S T : Numbers) → OfForms (Apart S T) (Clear S) (OwnSigns S) (FirstSigns S)
forms_clear S T = record {
  evaluates = λ number site askable e h. h;
  superclass = λ w class site. called_clear S w.judgement w.table class [] site tt;
  own = λ w class call. call_clear S w.judgement w.table class call.args call.paren;
  fields = fields_form_clear S;
  value = λ w ty i token h s. initial_clear S w.judgement w.table s ty i token h;
  set = λ is_static field token e h. (own_place_clear S is_static field token, h);
}

calls_apart : (S T : Numbers) (w : Setting) (c : ℕ) (k : ClassSyntax) (site : ℕ) (own : Option OwnCall) → OwnSigns S own → Yields (first_calls w c k site own) (ListApart S T)
calls_apart S T = calls_have (Apart S T) (Clear S) (OwnSigns S) (FirstSigns S) (forms_clear S T)

-- ---- blocks

method_apart : (S T : Numbers) (w : Setting) (h : Header) (result : Option WrittenType) (b : Braced) → BlockWords S T b → Yields (method_block w h result b) (Apart S T)
unfolding method_block
method_apart S T w h result b i =
    behind (outcome_of w result) _ (Apart S T) (λ outcome. behind (parameters w h.params) _ (Apart S T) (λ params. block_apart S T w (alone (number w (brace_of b)) outcome) b i))

constructor_apart : (S T : Numbers) (w : Setting) (c : ℕ) (k : ClassSyntax) (h : Header) (own : Option OwnCall) (brace : ℕ) (parts : Statements) → OwnSigns S own → AllWords S T parts → Yields (constructor_block w c k h own brace parts) (Apart S T)
unfolding constructor_block
constructor_apart S T w c k h own brace parts g i =
    behind (parameters w h.params) _ (Apart S T) (λ params.
    and_then (first_calls w c k h.name.token own) _ (ListApart S T) (Apart S T) (calls_apart S T w c k h.name.token own g) (λ calls x.
    and_then (statements w (inside (alone (number w brace) NoValue) (number w brace)) parts) _ (ApartAll S T) (Apart S T) (statements_apart S T w (inside (alone (number w brace) NoValue) (number w brace)) parts i) (λ xs y.
    given (Apart S T) (plain w brace false (kernel.Block (joined calls xs))) (joined_apart S T calls xs x y))))

implied_constructor_apart : (S T : Numbers) (w : Setting) (c : ℕ) (k : ClassSyntax) → Yields (implied_constructor_block w c k) (Apart S T)
unfolding implied_constructor_block
implied_constructor_apart S T w c k =
    and_then (first_calls w c k k.name.token None) _ (ListApart S T) (Apart S T) (calls_apart S T w c k k.name.token None tt) (λ calls i.
    given (Apart S T) (implied w k.name.token ConstructorBody (kernel.Block (row_of calls))) (row_apart S T calls i))

initializer_apart : (S T : Numbers) (w : Setting) (k : ClassSyntax) (role : Role) (b : Braced) → BlockWords S T b → Yields (initializer_block w k role b) (ListApart S T)
initializer_apart S T w k role b h = alone_apart S T (block w (around_initializer w k role) b) (block_apart S T w (around_initializer w k role) b h)

fields_apart : (S T : Numbers) (w : Setting) (c : ℕ) (is_static : Bool) (ty : WrittenType) (all : List Declarator) → DeclaratorSigns S all → Yields (field_initials w c is_static ty all) (ListApart S T)
fields_apart S T = fields_have (Apart S T) (Clear S) (OwnSigns S) (FirstSigns S) (forms_clear S T)

-- ---- the program

abbrev pub ApartBody : Numbers → Numbers → Option Body → Type 0
ApartBody S T b = BodyHas (Apart S T) b

abbrev pub ApartBodies : Numbers → Numbers → List (Option Body) → Type 0
ApartBodies S T bs = BodiesHave (Apart S T) bs

members_apart : (S T : Numbers) → OfMembers (Apart S T) (λ w k role. Apart S T) (MemberWords S T)
members_apart S T = record {
  method = method_apart S T;
  written = λ w c k h own brace parts end i. constructor_apart S T w c k h own brace parts i.0 i.1;
  unwritten = implied_constructor_apart S T;
  initializer = λ w k role is_static b i. initializer_apart S T w k role b i;
  fields = λ w c k role is_static ms ty all i. fields_apart S T w c is_static ty all i;
  row = λ w k role xs h. row_apart S T xs h;
}

-- the site of the one test in the library
abbrev pub library_site : ℕ
library_site = builtin.method_site 5

library_apart : (S T : Numbers) → T library_site → ApartBodies S T library_bodies
library_apart S T h =
    library_has (ApartBody S T) ((tt, tt), tt) ((tt, tt), tt) tt ((tt, tt), tt) (tt, tt) ((tt, (tt, tt)), ((h, (tt, tt), (tt, tt), tt), ((((tt, tt), tt), tt), tt)))
    (λ c k. ((tt, tt), tt)) (λ c k. ((tt, (tt, tt)), tt))

pub program_apart : (S T : Numbers) (unit : CompilationUnit) (p : Program) → MadeFrom unit p → ClassesWords S T (classes_of unit) → T library_site → ApartBodies S T p.bodies × ApartBodies S T p.init_bodies
program_apart S T unit p m h x = program_has (Apart S T) (λ w k role. Apart S T) (MemberWords S T) (members_apart S T) (library_apart S T x) unit p m h
