-- The sites of what stands in the bodies of a class are tokens of what is written there; those of what is implied are the name that it is implied by.
use Rattle.std.proofs.Common.{ℕ, Bool, true, false, if◌then◌else◌, List, [], ◌∷◌, ◌++◌}
use Rattle.std.specs.Prelude.{Option, Some, None, flat_map}
use Rattle.std.specs.List.{AllByRecursion}
use Rattle.std.proofs.ByRecursion.{All-append}
use Rattle.wy_kernel.specs.declared.types.Ty.{Ty}
use Rattle.wy_kernel.specs.Form as kernel
use Rattle.wy_syntax.specs.Syntax.{Named, WrittenType, Declarator, Initial, Braced, Statements, Parameter, OwnCall, Header, ClassSyntax}
use Rattle.wy_elab_expr.specs.Elaboration.{type_written, with_brackets, initialized}
use Rattle.wy_elab_body.specs.declared.place.Role.{Role}
use Rattle.wy_elab_body.specs.declared.place.Role.TheVariants.{ConstructorBody, SuperCall}
use Rattle.wy_elab_body.specs.Places.{calls_superclass, has_fields_unit}
use Rattle.wy_elab_body.specs.Making.{Makes, give, ◌>>=◌, expressed, declaring, each}
use Rattle.wy_elab_body.specs.Parts.{NoValue, ValueOf, constructor_called, constructor_call, object_called}
use Rattle.wy_elab_body.specs.Jumps.{alone, inside}
use Rattle.wy_elab_body.specs.Statements.{Setting, number, plain, block, statements, joined, row_of}
use Rattle.wy_elab_body.specs.Bodies.{implied, declared_type, parameter, parameters, outcome_of, brace_of, method_block, superclass_of, implied_super_call, implied_fields_call, own_call, no_call, written_super_call, fields_call, first_calls, constructor_block, implied_constructor_block, around_initializer, own_place, field_number, assigned_first, field_initial, field_initials, initializer_block}
use Rattle.wy_typing.specs.Sites.{Sited, PlaceSited}
use Rattle.law_sites.proofs.Tokens.{FirstTokens, DeclaratorTokens, BlockTokens, AllTokens, HeaderTokens, OwnTokens}
use Rattle.law_sites.proofs.Expressions.{initialized_sited}
use Rattle.law_sites.proofs.Keeping.{Keeps, given, and_then, behind, of_choice, of_expressed, of_any, of_declaring, of_each}
use Rattle.law_sites.proofs.SitedParts.{constructor_called_sited, constructor_call_sited}
use Rattle.law_sites.proofs.SitedStatements.{WholeSited, ListSited, PartsSited, row_sited, joined_sited, alone_sited, block_sited, statements_sited}

-- ---- methods

type_kept : (P : ℕ → Type 0) (w : Setting) (ty : WrittenType) (brackets : ℕ) → Keeps P (declared_type w ty brackets) (λ t. Unit {0})
type_kept P w ty brackets =
    behind (expressed (λ s. type_written w.table ty)) (λ base. give (with_brackets base brackets)) (λ t. Unit {0}) (of_any (λ s. type_written w.table ty)) (λ base. given (λ t. Unit {0}) (with_brackets base brackets) tt)

parameter_kept : (P : ℕ → Type 0) (w : Setting) (p : Parameter) → P p.name.token → Keeps P (parameter w p) (λ k. Unit {0})
parameter_kept P w p h = behind (declared_type w p.ty p.brackets) (λ ty. declaring p.name ty false) (λ k. Unit {0}) (type_kept P w p.ty p.brackets) (λ ty. of_declaring p.name ty false h)

parameters_kept : (P : ℕ → Type 0) (w : Setting) (ps : List Parameter) → AllByRecursion (λ (p : Parameter). P p.name.token) ps → Keeps P (parameters w ps) (λ x. Unit {0})
unfolding parameters
parameters_kept P w [] h = given (λ x. Unit {0}) tt tt
parameters_kept P w (p ∷ rest) h = behind (parameter w p) (λ k. parameters w rest) (λ x. Unit {0}) (parameter_kept P w p h.0) (λ k. parameters_kept P w rest h.1)

outcome_kept : (P : ℕ → Type 0) (w : Setting) (result : Option WrittenType) → Keeps P (outcome_of w result) (λ o. Unit {0})
outcome_kept P w None = given (λ o. Unit {0}) NoValue tt
outcome_kept P w (Some ty) = behind (declared_type w ty 0) (λ t. give (ValueOf t)) (λ o. Unit {0}) (type_kept P w ty 0) (λ t. given (λ o. Unit {0}) (ValueOf t) tt)

pub method_sited : (P : ℕ → Type 0) (w : Setting) (h : Header) (result : Option WrittenType) (b : Braced) → HeaderTokens P h → BlockTokens P b → Keeps P (method_block w h result b) (WholeSited P)
unfolding method_block
method_sited P w h result b i x =
    behind (outcome_of w result) _ (WholeSited P) (outcome_kept P w result) (λ outcome.
    behind (parameters w h.params) _ (WholeSited P) (parameters_kept P w h.params i.1) (λ params. block_sited P w (alone (number w (brace_of b)) outcome) b x))

-- ---- constructors

super_sited : (P : ℕ → Type 0) (w : Setting) (c site : ℕ) → P site → Keeps P (implied_super_call w c site) (ListSited P)
unfolding implied_super_call
super_sited P w c site h =
    of_choice (calls_superclass w.table c) _ (give []) (ListSited P)
    (and_then (expressed (constructor_called w.judgement w.table (superclass_of w c) [] site)) (λ e. give (implied w site SuperCall (kernel.Eval e) ∷ [])) (Sited P) (ListSited P)
    (of_expressed (constructor_called w.judgement w.table (superclass_of w c) [] site) (Sited P) (constructor_called_sited P w.judgement w.table (superclass_of w c) [] site h tt))
    (λ e i. given (ListSited P) (implied w site SuperCall (kernel.Eval e) ∷ []) (((h, i), tt), tt)))
    (given (ListSited P) [] tt)

fields_form_sited : (P : ℕ → Type 0) (k : Option ℕ) (c site : ℕ) → P site → Sited P (fields_call k c site)
fields_form_sited P None c site h = tt
fields_form_sited P (Some k) c site h = (h, tt, tt)

chosen : (P : ℕ → Type 0) (b : Bool) (xs : List kernel.Statement) → ListSited P xs → ListSited P (if b then xs else [])
chosen P true xs h = h
chosen P false xs h = tt

fields_call_sited : (P : ℕ → Type 0) (w : Setting) (c : ℕ) (k : ClassSyntax) (site : ℕ) → P site → ListSited P (implied_fields_call w c k site)
unfolding implied_fields_call
fields_call_sited P w c k site h = chosen P (has_fields_unit k) _ (((h, fields_form_sited P _ c site h), tt), tt)

own_sited : (P : ℕ → Type 0) (w : Setting) (c d : ℕ) (call : OwnCall) → OwnTokens P (Some call) → Keeps P (own_call w c d call) (ListSited P)
unfolding own_call
own_sited P w c d call h =
    and_then (expressed (constructor_call w.judgement w.table d call.args call.paren)) (λ e. give (plain w call.token true (kernel.Eval e) ∷ [])) (Sited P) (ListSited P)
    (of_expressed (constructor_call w.judgement w.table d call.args call.paren) (Sited P) (constructor_call_sited P w.judgement w.table d call.args call.paren h.1 h.2))
    (λ e i. given (ListSited P) (plain w call.token true (kernel.Eval e) ∷ []) (((h.0, i), tt), tt))

no_call_sited : (P : ℕ → Type 0) (w : Setting) (call : OwnCall) → Keeps P (no_call w call) (ListSited P)
unfolding no_call
no_call_sited P w call =
    behind (expressed (object_called w.judgement w.table call.args call.paren)) (λ x. give []) (ListSited P) (of_any (object_called w.judgement w.table call.args call.paren)) (λ x. given (ListSited P) [] tt)

written_super_sited : (P : ℕ → Type 0) (w : Setting) (c : ℕ) (call : OwnCall) → OwnTokens P (Some call) → Keeps P (written_super_call w c call) (ListSited P)
unfolding written_super_call
written_super_sited P w c call h = of_choice (calls_superclass w.table c) (own_call w c (superclass_of w c) call) (no_call w call) (ListSited P) (own_sited P w c (superclass_of w c) call h) (no_call_sited P w call)

with_fields : (P : ℕ → Type 0) (w : Setting) (c : ℕ) (k : ClassSyntax) (site : ℕ) (f : Makes (List kernel.Statement)) → P site → Keeps P f (ListSited P) → Keeps P (f >>= λ xs. give (xs ++ implied_fields_call w c k site)) (ListSited P)
with_fields P w c k site f h i =
    and_then f (λ xs. give (xs ++ implied_fields_call w c k site)) (ListSited P) (ListSited P) i (λ xs x.
    given (ListSited P) (xs ++ implied_fields_call w c k site) (All-append (WholeSited P) xs (implied_fields_call w c k site) x (fields_call_sited P w c k site h)))

calls_sited : (P : ℕ → Type 0) (w : Setting) (c : ℕ) (k : ClassSyntax) (site : ℕ) (own : Option OwnCall) → P site → OwnTokens P own → Keeps P (first_calls w c k site own) (ListSited P)
unfolding first_calls
calls_sited P w c k site None h i = with_fields P w c k site (implied_super_call w c site) h (super_sited P w c site h)
calls_sited P w c k site (Some call) h i =
    of_choice call.is_super _ (own_call w c c call) (ListSited P)
    (with_fields P w c k site (written_super_call w c call) h (written_super_sited P w c call i)) (own_sited P w c c call i)

pub constructor_sited : (P : ℕ → Type 0) (w : Setting) (c : ℕ) (k : ClassSyntax) (h : Header) (own : Option OwnCall) (brace : ℕ) (parts : Statements) → HeaderTokens P h → OwnTokens P own → P brace → AllTokens P parts →
    Keeps P (constructor_block w c k h own brace parts) (WholeSited P)
unfolding constructor_block
constructor_sited P w c k h own brace parts i x y z =
    behind (parameters w h.params) _ (WholeSited P) (parameters_kept P w h.params i.1) (λ params.
    and_then (first_calls w c k h.name.token own) _ (ListSited P) (WholeSited P) (calls_sited P w c k h.name.token own i.0 x) (λ calls a.
    and_then (statements w (inside (alone (number w brace) NoValue) (number w brace)) parts) _ (PartsSited P) (WholeSited P) (statements_sited P w (inside (alone (number w brace) NoValue) (number w brace)) parts z) (λ xs b.
    given (WholeSited P) (plain w brace false (kernel.Block (joined calls xs))) ((y, tt), joined_sited P calls xs a b))))

pub implied_constructor_sited : (P : ℕ → Type 0) (w : Setting) (c : ℕ) (k : ClassSyntax) → P k.name.token → Keeps P (implied_constructor_block w c k) (WholeSited P)
unfolding implied_constructor_block
implied_constructor_sited P w c k h =
    and_then (first_calls w c k k.name.token None) _ (ListSited P) (WholeSited P) (calls_sited P w c k k.name.token None h tt) (λ calls i.
    given (WholeSited P) (implied w k.name.token ConstructorBody (kernel.Block (row_of calls))) ((h, tt), row_sited P calls i))

-- ---- initializers

pub initializer_sited : (P : ℕ → Type 0) (w : Setting) (k : ClassSyntax) (role : Role) (b : Braced) → BlockTokens P b → Keeps P (initializer_block w k role b) (ListSited P)
initializer_sited P w k role b h = alone_sited P (block w (around_initializer w k role) b) (block_sited P w (around_initializer w k role) b h)

own_place_sited : (P : ℕ → Type 0) (is_static : Bool) (field token : ℕ) → P token → PlaceSited P (own_place is_static field token)
own_place_sited P true field token h = h
own_place_sited P false field token h = (h, tt)

assigned_sited : (P : ℕ → Type 0) (w : Setting) (c : ℕ) (is_static : Bool) (ty : Ty) (n : Named) (i : Initial) → P n.token → FirstTokens P (Some i) → Keeps P (assigned_first w c is_static ty n i) (WholeSited P)
assigned_sited P w c is_static ty n i h x =
    and_then (expressed (λ s. initialized w.judgement w.table s ty i n.token)) _ (Sited P) (WholeSited P)
    (of_expressed (λ s. initialized w.judgement w.table s ty i n.token) (Sited P) (λ s. initialized_sited P w.judgement w.table s ty i n.token x))
    (λ e y. given (WholeSited P) (plain w n.token true (kernel.Eval (kernel.Set (own_place is_static (field_number w c n.name) n.token) e n.token))) ((h, (h, own_place_sited P is_static (field_number w c n.name) n.token h, y)), tt))

field_sited : (P : ℕ → Type 0) (w : Setting) (c : ℕ) (is_static : Bool) (ty : WrittenType) (d : Declarator) (i : Option Initial) → P d.name.token → FirstTokens P i → Keeps P (field_initial w c is_static ty d i) (ListSited P)
field_sited P w c is_static ty d None h x = given (ListSited P) [] tt
field_sited P w c is_static ty d (Some i) h x =
    behind (declared_type w ty d.brackets) (λ t. assigned_first w c is_static t d.name i >>= λ x. give (x ∷ [])) (ListSited P) (type_kept P w ty d.brackets)
    (λ t. alone_sited P (assigned_first w c is_static t d.name i) (assigned_sited P w c is_static t d.name i h x))

flat_sited : (P : ℕ → Type 0) (xss : List (List kernel.Statement)) → AllByRecursion (ListSited P) xss → ListSited P (flat_map (λ xs. xs) xss)
flat_sited P [] h = tt
flat_sited P (xs ∷ rest) h = All-append (WholeSited P) xs (flat_map (λ ys. ys) rest) h.0 (flat_sited P rest h.1)

pub fields_sited : (P : ℕ → Type 0) (w : Setting) (c : ℕ) (is_static : Bool) (ty : WrittenType) (all : List Declarator) → DeclaratorTokens P all → Keeps P (field_initials w c is_static ty all) (ListSited P)
unfolding field_initials
fields_sited P w c is_static ty all h =
    and_then (each (λ (d : Declarator). field_initial w c is_static ty d d.initial) all) _ (AllByRecursion (ListSited P)) (ListSited P)
    (of_each (λ (d : Declarator). field_initial w c is_static ty d d.initial) (λ (d : Declarator). P d.name.token × FirstTokens P d.initial) (ListSited P) (λ d i. field_sited P w c is_static ty d d.initial i.0 i.1) all h)
    (λ xss i. given (ListSited P) (flat_map (λ xs. xs) xss) (flat_sited P xss i))
