-- What a constructor begins with, and what gives fields their values: what holds of the forms holds of the statements that evaluate them.
use Rattle.std.proofs.Common.{ℕ, Bool, true, false, if◌then◌else◌, List, [], ◌∷◌, ◌++◌}
use Rattle.std.specs.Prelude.{Option, Some, None, flat_map}
use Rattle.std.specs.List.{All, AllByRecursion}
use Rattle.std.proofs.lemmas.List.Elements.{All-nil, All-cons, All-append}
use Rattle.wy_kernel.specs.declared.types.Ty.{Ty}
use Rattle.wy_kernel.specs.Form as kernel
use Rattle.wy_kernel.specs.View.{NONE}
use Rattle.wy_syntax.specs.Syntax.{WrittenType, Declarator, Initial, OwnCall, ClassSyntax}
use Rattle.wy_constant.specs.Scope.{Scope}
use Rattle.wy_elab_expr.specs.Elaboration.{initialized}
use Rattle.wy_elab_body.specs.declared.place.Role.TheVariants.{SuperCall, FieldsCall}
use Rattle.wy_elab_body.specs.Places.{calls_superclass, has_fields_unit}
use Rattle.wy_elab_body.specs.Making.{Makes, give, ◌>>=◌, expressed, each}
use Rattle.wy_elab_body.specs.Parts.{constructor_called, constructor_call, object_called}
use Rattle.wy_elab_body.specs.Statements.{Setting, number, plain}
use Rattle.wy_elab_body.specs.Bodies.{number_of, implied, declared_type, superclass_of, implied_super_call, implied_fields_call, own_call, no_call, written_super_call, fields_call, first_calls, own_place, field_number, assigned_first, field_initial, field_initials}
use Rattle.law_structure.proofs.Yields.{Yields, given, anything, and_then, behind, of_expressed, of_choice}

-- P holds of a statement that evaluates a form of which Q holds, and Q of the forms of calls and values of which Call and First hold
pub record OfForms (P : kernel.Statement → Type 0) (Q : kernel.Expression → Type 0) (Call : Option OwnCall → Type 0) (First : Option Initial → Type 0) : Type 0 where
  pub evaluates : (number site : ℕ) (askable : Bool) (e : kernel.Expression) → Q e → P (kernel.Stmt number site askable NONE (kernel.Eval e))
  pub superclass : (w : Setting) (class site : ℕ) (s : Scope) → Yields (constructor_called w.judgement w.table class [] site s) Q
  pub own : (w : Setting) (class : ℕ) (call : OwnCall) → Call (Some call) → (s : Scope) → Yields (constructor_call w.judgement w.table class call.args call.paren s) Q
  pub fields : (k : Option ℕ) (c site : ℕ) → Q (fields_call k c site)
  pub value : (w : Setting) (ty : Ty) (i : Initial) (token : ℕ) → First (Some i) → (s : Scope) → Yields (initialized w.judgement w.table s ty i token) Q
  pub set : (is_static : Bool) (field token : ℕ) (e : kernel.Expression) → Q e → Q (kernel.Set (own_place is_static field token) e token)

module _ (P : kernel.Statement → Type 0) (Q : kernel.Expression → Type 0) (Call : Option OwnCall → Type 0) (First : Option Initial → Type 0) (forms : OfForms P Q Call First) where
  abbrev Each : List kernel.Statement → Type 0
  Each xs = All P xs

  one : (x : kernel.Statement) → P x → Each (x ∷ [])
  one x h = All-cons P x [] h (All-nil P)

  -- ---- calls at the head of a constructor

  super_has : (w : Setting) (c site : ℕ) → Yields (implied_super_call w c site) Each
  unfolding implied_super_call
  super_has w c site =
      of_choice (calls_superclass w.table c) _ (give []) Each
      (and_then (expressed (constructor_called w.judgement w.table (superclass_of w c) [] site)) (λ e. give (implied w site SuperCall (kernel.Eval e) ∷ [])) Q Each
      (of_expressed (constructor_called w.judgement w.table (superclass_of w c) [] site) Q (forms.superclass w (superclass_of w c) site))
      (λ e h. given Each (implied w site SuperCall (kernel.Eval e) ∷ []) (one (implied w site SuperCall (kernel.Eval e)) (forms.evaluates (number_of w site SuperCall) site false e h))))
      (given Each [] (All-nil P))

  chosen : (b : Bool) (xs : List kernel.Statement) → Each xs → Each (if b then xs else [])
  chosen true xs h = h
  chosen false xs h = All-nil P

  fields_call_has : (w : Setting) (c : ℕ) (k : ClassSyntax) (site : ℕ) → Each (implied_fields_call w c k site)
  unfolding implied_fields_call
  fields_call_has w c k site = chosen (has_fields_unit k) _ (one _ (forms.evaluates (number_of w site FieldsCall) site false _ (forms.fields _ c site)))

  own_has : (w : Setting) (c class : ℕ) (call : OwnCall) → Call (Some call) → Yields (own_call w c class call) Each
  unfolding own_call
  own_has w c class call i =
      and_then (expressed (constructor_call w.judgement w.table class call.args call.paren)) (λ e. give (plain w call.token true (kernel.Eval e) ∷ [])) Q Each
      (of_expressed (constructor_call w.judgement w.table class call.args call.paren) Q (forms.own w class call i))
      (λ e h. given Each (plain w call.token true (kernel.Eval e) ∷ []) (one (plain w call.token true (kernel.Eval e)) (forms.evaluates (number w call.token) call.token true e h)))

  no_call_has : (w : Setting) (call : OwnCall) → Yields (no_call w call) Each
  unfolding no_call
  no_call_has w call = behind (expressed (object_called w.judgement w.table call.args call.paren)) (λ x. give []) Each (λ x. given Each [] (All-nil P))

  written_super_has : (w : Setting) (c : ℕ) (call : OwnCall) → Call (Some call) → Yields (written_super_call w c call) Each
  unfolding written_super_call
  written_super_has w c call i = of_choice (calls_superclass w.table c) (own_call w c (superclass_of w c) call) (no_call w call) Each (own_has w c (superclass_of w c) call i) (no_call_has w call)

  with_fields : (w : Setting) (c : ℕ) (k : ClassSyntax) (site : ℕ) (f : Makes (List kernel.Statement)) → Yields f Each → Yields (f >>= λ xs. give (xs ++ implied_fields_call w c k site)) Each
  with_fields w c k site f h =
      and_then f (λ xs. give (xs ++ implied_fields_call w c k site)) Each Each h (λ xs i.
      given Each (xs ++ implied_fields_call w c k site) (All-append P xs (implied_fields_call w c k site) i (fields_call_has w c k site)))

  pub calls_have : (w : Setting) (c : ℕ) (k : ClassSyntax) (site : ℕ) (own : Option OwnCall) → Call own → Yields (first_calls w c k site own) Each
  unfolding first_calls
  calls_have w c k site None i = with_fields w c k site (implied_super_call w c site) (super_has w c site)
  calls_have w c k site (Some call) i =
      of_choice call.is_super _ (own_call w c c call) Each
      (with_fields w c k site (written_super_call w c call) (written_super_has w c call i)) (own_has w c c call i)

  -- ---- values of fields

  field_has : (w : Setting) (c : ℕ) (is_static : Bool) (ty : WrittenType) (d : Declarator) (i : Option Initial) → First i → Yields (field_initial w c is_static ty d i) Each
  field_has w c is_static ty d None h = given Each [] (All-nil P)
  field_has w c is_static ty d (Some i) h =
      behind (declared_type w ty d.brackets) (λ t. assigned_first w c is_static t d.name i >>= λ x. give (x ∷ [])) Each (λ t.
      and_then (assigned_first w c is_static t d.name i) (λ x. give (x ∷ [])) P Each
      (and_then (expressed (λ s. initialized w.judgement w.table s t i d.name.token)) _ Q P
      (of_expressed (λ s. initialized w.judgement w.table s t i d.name.token) Q (forms.value w t i d.name.token h))
      (λ e x. given P (plain w d.name.token true (kernel.Eval (kernel.Set (own_place is_static (field_number w c d.name.name) d.name.token) e d.name.token)))
      (forms.evaluates (number w d.name.token) d.name.token true _ (forms.set is_static (field_number w c d.name.name) d.name.token e x))))
      (λ x h. given Each (x ∷ []) (one x h)))

  rows_have : (w : Setting) (c : ℕ) (is_static : Bool) (ty : WrittenType) (all : List Declarator) → AllByRecursion (λ (d : Declarator). First d.initial) all → Yields (each (λ (d : Declarator). field_initial w c is_static ty d d.initial) all) (λ xss. Each (flat_map (λ xs. xs) xss))
  unfolding each
  rows_have w c is_static ty [] h = given (λ (xss : List (List kernel.Statement)). Each (flat_map (λ xs. xs) xss)) [] (All-nil P)
  rows_have w c is_static ty (d ∷ rest) h =
      let R : List (List kernel.Statement) → Type 0 = λ xss. Each (flat_map (λ xs. xs) xss) in
      and_then (field_initial w c is_static ty d d.initial) _ Each R (field_has w c is_static ty d d.initial h.0) (λ xs i.
      and_then (each (λ (d : Declarator). field_initial w c is_static ty d d.initial) rest) _ R R (rows_have w c is_static ty rest h.1) (λ xss k.
      given R (xs ∷ xss) (All-append P xs (flat_map (λ ys. ys) xss) i k)))

  pub fields_have : (w : Setting) (c : ℕ) (is_static : Bool) (ty : WrittenType) (all : List Declarator) → AllByRecursion (λ (d : Declarator). First d.initial) all → Yields (field_initials w c is_static ty all) Each
  unfolding field_initials
  fields_have w c is_static ty all h =
      and_then (each (λ (d : Declarator). field_initial w c is_static ty d d.initial) all) _ (λ xss. Each (flat_map (λ xs. xs) xss)) Each (rows_have w c is_static ty all h) (λ xss i.
      given Each (flat_map (λ xs. xs) xss) i)

-- ---- whatever the forms are

pub all_so : {X : Type 0} (R : X → Type 0) → ((x : X) → R x) → (xs : List X) → AllByRecursion R xs
all_so R h [] = tt
all_so R h (x ∷ xs) = (h x, all_so R h xs)

abbrev AnyForm : kernel.Expression → Type 0
AnyForm e = Unit {0}

abbrev AnyCall : Option OwnCall → Type 0
AnyCall own = Unit {0}

abbrev AnyValue : Option Initial → Type 0
AnyValue i = Unit {0}

module _ (P : kernel.Statement → Type 0) (evaluates : (number site : ℕ) (askable : Bool) (e : kernel.Expression) → P (kernel.Stmt number site askable NONE (kernel.Eval e))) where
  any_forms : OfForms P AnyForm AnyCall AnyValue
  any_forms = record {
    evaluates = λ number site askable e h. evaluates number site askable e;
    superclass = λ w class site s. anything _;
    own = λ w class call h s. anything _;
    fields = λ k c site. tt;
    value = λ w ty i token h s. anything _;
    set = λ is_static field token e h. tt;
  }

  pub any_calls : (w : Setting) (c : ℕ) (k : ClassSyntax) (site : ℕ) (own : Option OwnCall) → Yields (first_calls w c k site own) (All P)
  any_calls w c k site own = calls_have P AnyForm AnyCall AnyValue any_forms w c k site own tt

  pub any_fields : (w : Setting) (c : ℕ) (is_static : Bool) (ty : WrittenType) (all : List Declarator) → Yields (field_initials w c is_static ty all) (All P)
  any_fields w c is_static ty all = fields_have P AnyForm AnyCall AnyValue any_forms w c is_static ty all (all_so (λ (d : Declarator). AnyValue d.initial) (λ d. tt) all)
