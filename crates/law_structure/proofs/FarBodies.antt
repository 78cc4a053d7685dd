-- The tests in the blocks of methods, constructors and initializers reach as far as they should.
use Rattle.std.proofs.Common.{refl, ℕ, Bool, false, List, [], ◌∷◌}
use Rattle.std.specs.Prelude.{Option, None}
use Rattle.std.specs.List.{All}
use Rattle.wy_kernel.specs.Form as kernel
use Rattle.wy_kernel.specs.View.{NONE}
use Rattle.wy_syntax.specs.Syntax.{WrittenType, Declarator, Braced, braced, Statements, OwnCall, Header, ClassSyntax}
use Rattle.wy_elab_body.specs.declared.place.Role.{Role}
use Rattle.wy_elab_body.specs.declared.place.Role.TheVariants.{ConstructorBody}
use Rattle.wy_elab_body.specs.Parts.{Outcome, NoValue}
use Rattle.wy_elab_body.specs.Jumps.{alone, inside}
use Rattle.wy_elab_body.specs.Statements.{Setting, number, plain, block, statements, joined, row_of}
use Rattle.wy_elab_body.specs.Bodies.{number_of, implied, parameters, outcome_of, brace_of, method_block, first_calls, constructor_block, implied_constructor_block, around_initializer, field_initials, initializer_block}
use Rattle.law_structure.proofs.Yields.{Yields, given, and_then, behind, within_block}
use Rattle.law_structure.proofs.FirstCalls.{any_calls, any_fields}
use Rattle.law_structure.specs.Outermost.{ReachesAsFar, AllReachAsFar, BodyReachesAsFar}
use Rattle.law_structure.proofs.Far.{ListFar, alone_far, row_far, joined_far, block_far, statements_far}

-- the block of a body is made with nothing around it
own_block_far : (w : Setting) (o : Outcome) (b : Braced) → Yields (block w (alone (number w (brace_of b)) o) b) BodyReachesAsFar
unfolding block
own_block_far w o (braced brace parts end) =
    within_block _ BodyReachesAsFar
    (and_then (statements w (inside (alone (number w brace) o) (number w brace)) parts) _ (AllReachAsFar (number w brace) (number w brace) (number w brace ∷ [])) BodyReachesAsFar (statements_far w (inside (alone (number w brace) o) (number w brace)) parts) (λ xs h.
    given BodyReachesAsFar (plain w brace false (kernel.Block xs)) (refl, h)))

pub method_far : (w : Setting) (h : Header) (result : Option WrittenType) (b : Braced) → Yields (method_block w h result b) BodyReachesAsFar
unfolding method_block
method_far w h result b = behind (outcome_of w result) _ BodyReachesAsFar (λ outcome. behind (parameters w h.params) _ BodyReachesAsFar (λ params. own_block_far w outcome b))

-- ---- constructors

-- a statement that evaluates a form has no reach
evaluation_far : (B C : ℕ) (E : List ℕ) (number site : ℕ) (askable : Bool) (e : kernel.Expression) → ReachesAsFar B C E (kernel.Stmt number site askable NONE (kernel.Eval e))
evaluation_far B C E number site askable e = refl

calls_far : (B C : ℕ) (E : List ℕ) (w : Setting) (c : ℕ) (k : ClassSyntax) (site : ℕ) (own : Option OwnCall) → Yields (first_calls w c k site own) (ListFar B C E)
calls_far B C E = any_calls (ReachesAsFar B C E) (evaluation_far B C E)

pub constructor_far : (w : Setting) (c : ℕ) (k : ClassSyntax) (h : Header) (own : Option OwnCall) (brace : ℕ) (parts : Statements) → Yields (constructor_block w c k h own brace parts) BodyReachesAsFar
unfolding constructor_block
constructor_far w c k h own brace parts =
    let N = number w brace in
    behind (parameters w h.params) _ BodyReachesAsFar (λ params.
    and_then (first_calls w c k h.name.token own) _ (ListFar N N (N ∷ [])) BodyReachesAsFar (calls_far N N (N ∷ []) w c k h.name.token own) (λ calls i.
    and_then (statements w (inside (alone N NoValue) N) parts) _ (AllReachAsFar N N (N ∷ [])) BodyReachesAsFar (statements_far w (inside (alone N NoValue) N) parts) (λ xs j.
    given BodyReachesAsFar (plain w brace false (kernel.Block (joined calls xs))) (refl, joined_far N N (N ∷ []) calls xs i j))))

pub implied_constructor_far : (w : Setting) (c : ℕ) (k : ClassSyntax) → Yields (implied_constructor_block w c k) BodyReachesAsFar
unfolding implied_constructor_block
implied_constructor_far w c k =
    let N = number_of w k.name.token ConstructorBody in
    and_then (first_calls w c k k.name.token None) _ (ListFar N N (N ∷ [])) BodyReachesAsFar (calls_far N N (N ∷ []) w c k k.name.token None) (λ calls i.
    given BodyReachesAsFar (implied w k.name.token ConstructorBody (kernel.Block (row_of calls))) (refl, row_far N N (N ∷ []) calls i))

-- ---- initializers

-- a statement in a body that stands for no words of its own
abbrev pub InOwnBody : Setting → ClassSyntax → Role → kernel.Statement → Type 0
InOwnBody w k role = ReachesAsFar (number_of w k.name.token role) (number_of w k.name.token role) (number_of w k.name.token role ∷ [])

pub initializer_far : (w : Setting) (k : ClassSyntax) (role : Role) (b : Braced) → Yields (initializer_block w k role b) (All (InOwnBody w k role))
initializer_far w k role b =
    let N = number_of w k.name.token role in
    alone_far N N (N ∷ []) (block w (around_initializer w k role) b) (block_far w (around_initializer w k role) b)

pub fields_far : (B C : ℕ) (E : List ℕ) (w : Setting) (c : ℕ) (is_static : Bool) (ty : WrittenType) (all : List Declarator) → Yields (field_initials w c is_static ty all) (ListFar B C E)
fields_far B C E = any_fields (ReachesAsFar B C E) (evaluation_far B C E)
