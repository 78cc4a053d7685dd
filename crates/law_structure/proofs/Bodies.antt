-- The blocks of methods, constructors and initializers are sound.
use Rattle.std.proofs.Common.{refl, ℕ, Bool, false, List, [], ◌∷◌}
use Rattle.std.specs.Prelude.{Option, None}
use Rattle.std.specs.List.{All}
use Rattle.std.proofs.lemmas.List.Elements.{All-nil, All-cons}
use Rattle.wy_kernel.specs.Form as kernel
use Rattle.wy_kernel.specs.View.{NONE}
use Rattle.wy_syntax.specs.Syntax.{WrittenType, Declarator, Braced, Statements, OwnCall, Header, ClassSyntax}
use Rattle.wy_elab_body.specs.declared.place.Role.{Role}
use Rattle.wy_elab_body.specs.declared.place.Role.TheVariants.{ConstructorBody}
use Rattle.wy_elab_body.specs.Making.{give}
use Rattle.wy_elab_body.specs.Parts.{Outcome, NoValue, NoReturn}
use Rattle.wy_elab_body.specs.Jumps.{alone, inside}
use Rattle.wy_elab_body.specs.Statements.{Setting, number, plain, block, statements, joined, row_of}
use Rattle.wy_elab_body.specs.Bodies.{number_of, implied, parameters, outcome_of, brace_of, method_block, first_calls, constructor_block, implied_constructor_block, around_initializer, field_initials, initializer_block}
use Rattle.law_structure.proofs.Yields.{Yields, given, and_then, behind}
use Rattle.law_structure.proofs.FirstCalls.{any_calls, any_fields}
use Rattle.law_structure.proofs.Sound.{Numbers, and_one, nowhere, Sound, SoundAll}
use Rattle.law_structure.proofs.Fits.{Fits, fits_inside, nothing_around}
use Rattle.law_structure.proofs.Made.{AllSound, row_sound, joined_sound, block_sound, statements_made}

none_around : (body : ℕ) (o : Outcome) → Fits nowhere nowhere (alone body o) None
none_around body o = nothing_around (alone body o) refl refl refl

-- in the block of a body
pub in_own_block : (body : ℕ) (o : Outcome) (n : ℕ) → Fits nowhere (and_one nowhere n) (inside (alone body o) n) None
in_own_block body o n = fits_inside nowhere nowhere (alone body o) n (none_around body o)

pub method_sound : (w : Setting) (h : Header) (result : Option WrittenType) (b : Braced) → Yields (method_block w h result b) (Sound nowhere nowhere)
unfolding method_block
method_sound w h result b =
    behind (outcome_of w result) _ (Sound nowhere nowhere) (λ outcome.
    behind (parameters w h.params) _ (Sound nowhere nowhere) (λ params.
    block_sound nowhere nowhere w (alone (number w (brace_of b)) outcome) b (none_around (number w (brace_of b)) outcome)))

-- ---- constructors

-- a statement that evaluates a form has no reach
evaluation_sound : (J R : Numbers) (number site : ℕ) (askable : Bool) (e : kernel.Expression) → Sound J R (kernel.Stmt number site askable NONE (kernel.Eval e))
evaluation_sound J R number site askable e = refl

calls_sound : (J R : Numbers) (w : Setting) (c : ℕ) (k : ClassSyntax) (site : ℕ) (own : Option OwnCall) → Yields (first_calls w c k site own) (AllSound J R)
calls_sound J R = any_calls (Sound J R) (evaluation_sound J R)

pub constructor_sound : (w : Setting) (c : ℕ) (k : ClassSyntax) (h : Header) (own : Option OwnCall) (brace : ℕ) (parts : Statements) → Yields (constructor_block w c k h own brace parts) (Sound nowhere nowhere)
unfolding constructor_block
constructor_sound w c k h own brace parts =
    let R = and_one nowhere (number w brace) in
    behind (parameters w h.params) _ (Sound nowhere nowhere) (λ params.
    and_then (first_calls w c k h.name.token own) _ (AllSound nowhere R) (Sound nowhere nowhere) (calls_sound nowhere R w c k h.name.token own) (λ calls i.
    and_then (statements w (inside (alone (number w brace) NoValue) (number w brace)) parts) _ (SoundAll nowhere R) (Sound nowhere nowhere)
    (statements_made nowhere R w (inside (alone (number w brace) NoValue) (number w brace)) parts (in_own_block (number w brace) NoValue (number w brace))) (λ xs j.
    given (Sound nowhere nowhere) (plain w brace false (kernel.Block (joined calls xs))) (refl, joined_sound nowhere R calls xs i j))))

pub implied_constructor_sound : (w : Setting) (c : ℕ) (k : ClassSyntax) → Yields (implied_constructor_block w c k) (Sound nowhere nowhere)
unfolding implied_constructor_block
implied_constructor_sound w c k =
    let R = and_one nowhere (number_of w k.name.token ConstructorBody) in
    and_then (first_calls w c k k.name.token None) _ (AllSound nowhere R) (Sound nowhere nowhere) (calls_sound nowhere R w c k k.name.token None) (λ calls i.
    given (Sound nowhere nowhere) (implied w k.name.token ConstructorBody (kernel.Block (row_of calls))) (refl, row_sound nowhere R calls i))

-- ---- initializers

-- a statement in a body that stands for no words of its own
abbrev pub InOwnBody : Setting → ClassSyntax → Role → kernel.Statement → Type 0
InOwnBody w k role = Sound nowhere (and_one nowhere (number_of w k.name.token role))

pub initializer_sound : (w : Setting) (k : ClassSyntax) (role : Role) (b : Braced) → Yields (initializer_block w k role b) (All (InOwnBody w k role))
initializer_sound w k role b =
    let N = number_of w k.name.token role in
    let R = and_one nowhere N in
    and_then (block w (around_initializer w k role) b) (λ x. give (x ∷ [])) (Sound nowhere R) (AllSound nowhere R) (block_sound nowhere R w (around_initializer w k role) b (in_own_block N NoReturn N)) (λ x h.
    given (AllSound nowhere R) (x ∷ []) (All-cons (Sound nowhere R) x [] h (All-nil (Sound nowhere R))))

pub fields_sound : (J R : Numbers) (w : Setting) (c : ℕ) (is_static : Bool) (ty : WrittenType) (all : List Declarator) → Yields (field_initials w c is_static ty all) (AllSound J R)
fields_sound J R = any_fields (Sound J R) (evaluation_sound J R)
