-- The bodies of a class: of its methods and constructors, of `<fields>`, and of its initializer (JLS 8.3.2, 8.4.7, 8.6 to 8.8).
use Rattle.std.specs.Prelude.{ℕ, Bool, true, false, List, [], ◌∷◌, ◌++◌, flat_map, ◌&&◌, ◌==◌, Option, Some, None, slice_get, if◌then◌else◌}
use Rattle.std.specs.List.{position_from}
use Rattle.wy_kernel.specs.declared.types.Ty.{Ty}
use Rattle.wy_kernel.specs.Form as kernel
use Rattle.wy_kernel.specs.View.{NONE}
use Rattle.wy_kernel.specs.declared.types.MethodForm.{MethodForm}
use Rattle.wy_kernel.specs.declared.types.MethodForm.TheVariants as kind
use Rattle.wy_kernel.specs.Program.{Body, Method, object_class}
use Rattle.wy_syntax.specs.Syntax.{Named, WrittenType, Declarator, Initial, Braced, braced, Statements, Parameter, OwnCall, Header, ClassSyntax}
use Rattle.wy_constant.specs.Fields.{superclass, declared_field}
use Rattle.wy_elab_expr.specs.Members.{this_form}
use Rattle.wy_elab_expr.specs.Elaboration.{type_written, with_brackets, initialized}
use Rattle.wy_elab_body.specs.declared.place.Role.{Role}
use Rattle.wy_elab_body.specs.declared.place.Role.TheVariants.{ConstructorBody, SuperCall, FieldsCall}
use Rattle.wy_elab_body.specs.Places.{at, number_at, calls_superclass, has_fields_unit}
use Rattle.wy_elab_body.specs.Making.{Making, Makes, give, ◌>>=◌, expressed, declaring, each, begun}
use Rattle.wy_elab_body.specs.Parts.{Outcome, NoValue, ValueOf, NoReturn, constructor_called, constructor_call, object_called, constructor_form}
use Rattle.wy_elab_body.specs.Jumps.{Around, alone, inside}
use Rattle.wy_elab_body.specs.Statements.{Setting, number, plain, block, statements, joined, row_of}

abbrev pub number_of : Setting → ℕ → Role → ℕ
number_of w site role = number_at w.places (at site role)

-- a statement that stands for no words of its own
abbrev pub implied : Setting → ℕ → Role → kernel.Act → kernel.Statement
implied w site role act = kernel.Stmt (number_of w site role) site false NONE act

abbrev pub body_of : kernel.Statement → Making → ℕ → Body
body_of s m end = record { block = s; locals = m.locals; end = end }

-- ---- methods

-- the type of a parameter or a field, from its written type and the pairs behind its name
abbrev pub declared_type : Setting → WrittenType → ℕ → Makes Ty
declared_type w ty brackets = do
  base ← expressed (λ s. type_written w.table ty)
  give (with_brackets base brackets)

-- a parameter may be assigned also where it is final
abbrev pub parameter : Setting → Parameter → Makes ℕ
parameter w p = do
  ty ← declared_type w p.ty p.brackets
  declaring p.name ty false

unfoldable pub parameters : Setting → List Parameter → Makes Unit
parameters w [] = give tt
parameters w (p ∷ rest) = do
  k ← parameter w p
  parameters w rest

abbrev pub outcome_of : Setting → Option WrittenType → Makes Outcome
outcome_of w None = give NoValue
outcome_of w (Some ty) = do
  t ← declared_type w ty 0
  give (ValueOf t)

abbrev pub brace_of : Braced → ℕ
brace_of (braced brace parts end) = brace

abbrev pub end_of : Braced → ℕ
end_of (braced brace parts end) = end

unfoldable pub method_block : Setting → Header → Option WrittenType → Braced → Makes kernel.Statement
method_block w h result b = do
  outcome ← outcome_of w result
  params ← parameters w h.params
  block w (alone (number w (brace_of b)) outcome) b

-- ---- constructors (JLS 8.8.7)

abbrev pub or_object : Option ℕ → ℕ
or_object (Some d) = d
or_object None = object_class

abbrev pub superclass_of : Setting → ℕ → ℕ
superclass_of w c = or_object (superclass (slice_get w.table.classes c))

-- the call of the superclass's constructor that takes nothing, unless the superclass is Object
unfoldable pub implied_super_call : Setting → ℕ → ℕ → Makes (List kernel.Statement)
implied_super_call w c site =
    if calls_superclass w.table c then (do
      e ← expressed (constructor_called w.judgement w.table (superclass_of w c) [] site)
      give (implied w site SuperCall (kernel.Eval e) ∷ []))
    else give []

abbrev pub is_unit : MethodForm → Bool
is_unit kind.Fields = true
is_unit _ = false

abbrev pub is_fields_unit : ℕ → Method → Bool
is_fields_unit c m = m.class == c && is_unit m.form

abbrev pub fields_call : Option ℕ → ℕ → ℕ → kernel.Expression
fields_call (Some k) c site = constructor_form c k kernel.none site
fields_call None c site = kernel.Const kernel.Null

-- the call of `<fields>`, if the class has it
unfoldable pub implied_fields_call : Setting → ℕ → ClassSyntax → ℕ → List kernel.Statement
implied_fields_call w c k site =
    if has_fields_unit k then implied w site FieldsCall (kernel.Eval (fields_call (position_from (is_fields_unit c) 0 w.table.methods) c site)) ∷ [] else []

-- a call that is written at the head of a constructor; that of Object's is no statement
unfoldable pub own_call : Setting → ℕ → ℕ → OwnCall → Makes (List kernel.Statement)
own_call w c d call = do
  e ← expressed (constructor_call w.judgement w.table d call.args call.paren)
  give (plain w call.token true (kernel.Eval e) ∷ [])

unfoldable pub no_call : Setting → OwnCall → Makes (List kernel.Statement)
no_call w call = do
  nothing ← expressed (object_called w.judgement w.table call.args call.paren)
  give []

unfoldable pub written_super_call : Setting → ℕ → OwnCall → Makes (List kernel.Statement)
written_super_call w c call = if calls_superclass w.table c then own_call w c (superclass_of w c) call else no_call w call

-- what a constructor begins with, by the site of its name
unfoldable pub first_calls : Setting → ℕ → ClassSyntax → ℕ → Option OwnCall → Makes (List kernel.Statement)
first_calls w c k site None = do
  xs ← implied_super_call w c site
  give (xs ++ implied_fields_call w c k site)
first_calls w c k site (Some call) =
    if call.is_super then (do
      xs ← written_super_call w c call
      give (xs ++ implied_fields_call w c k site))
    else own_call w c c call

unfoldable pub constructor_block : Setting → ℕ → ClassSyntax → Header → Option OwnCall → ℕ → Statements → Makes kernel.Statement
constructor_block w c k h own brace parts = do
  params ← parameters w h.params
  calls ← first_calls w c k h.name.token own
  xs ← statements w (inside (alone (number w brace) NoValue) (number w brace)) parts
  give (plain w brace false (kernel.Block (joined calls xs)))

-- the constructor of a class that declares none (JLS 8.8.9)
unfoldable pub implied_constructor_block : Setting → ℕ → ClassSyntax → Makes kernel.Statement
implied_constructor_block w c k = do
  calls ← first_calls w c k k.name.token None
  give (implied w k.name.token ConstructorBody (kernel.Block (row_of calls)))

-- ---- initializers (JLS 8.3.2, 8.6, 8.7)

-- the body of `<fields>` or of a class's initializer, so far
pub record Growing : Type 0 where
  pub making : Making
  pub parts : List kernel.Statement

abbrev pub nothing_yet : ℕ → Bool → ℕ → Growing
nothing_yet c has_this site = record { making = begun c has_this site; parts = [] }

-- a class so far: the bodies of its members that are methods or constructors, in order
pub record Growth : Type 0 where
  pub initializer : Growing
  pub fields : Growing
  pub bodies : List (Option Body)

abbrev pub around_initializer : Setting → ClassSyntax → Role → Around
around_initializer w k role = inside (alone (number_of w k.name.token role) NoReturn) (number_of w k.name.token role)

-- the variable that a field is in its own initializer
abbrev pub own_place : Bool → ℕ → ℕ → kernel.Place
own_place is_static field token = if is_static then kernel.Static field token else kernel.Field this_form field token

abbrev pub or_zero : Option ℕ → ℕ
or_zero (Some n) = n
or_zero None = 0

abbrev pub field_number : Setting → ℕ → List ℕ → ℕ
field_number w c name = or_zero (declared_field w.table.fields c name)

abbrev pub assigned_first : Setting → ℕ → Bool → Ty → Named → Initial → Makes kernel.Statement
assigned_first w c is_static ty n i = do
  e ← expressed (λ s. initialized w.judgement w.table s ty i n.token)
  give (plain w n.token true (kernel.Eval (kernel.Set (own_place is_static (field_number w c n.name) n.token) e n.token)))

abbrev pub field_initial : Setting → ℕ → Bool → WrittenType → Declarator → Option Initial → Makes (List kernel.Statement)
field_initial w c is_static ty d None = give []
field_initial w c is_static ty d (Some i) = do
  t ← declared_type w ty d.brackets
  x ← assigned_first w c is_static t d.name i
  give (x ∷ [])

unfoldable pub field_initials : Setting → ℕ → Bool → WrittenType → List Declarator → Makes (List kernel.Statement)
field_initials w c is_static ty all = do
  xss ← each (λ d. field_initial w c is_static ty d d.initial) all
  give (flat_map (λ xs. xs) xss)

abbrev pub initializer_block : Setting → ClassSyntax → Role → Braced → Makes (List kernel.Statement)
initializer_block w k role b = do
  x ← block w (around_initializer w k role) b
  give (x ∷ [])

abbrev pub implied_body : Setting → ClassSyntax → Role → Growing → Body
implied_body w k role g = body_of (implied w k.name.token role (kernel.Block (row_of g.parts))) g.making k.name.token
