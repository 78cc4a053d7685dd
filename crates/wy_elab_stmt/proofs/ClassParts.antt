-- What is made of one member of a class, and the bodies that it implies.
use Rattle.std.proofs.Common.{◌≡◌, ap, sym, subst, ◌∙◌, ℕ, List, [], ◌∷◌, ◌++◌, true, false, refl, Option, Some, Result, Ok, Err}
use Rattle.std.specs.Prelude.{None, not, if◌then◌else◌}
use Rattle.wy_kernel.specs.Form as kernel
use Rattle.wy_kernel.specs.Program.{Body}
use Rattle.wy_syntax.specs.Syntax as source
use Rattle.wy_constant.specs.declared.rule.TypeError.{TypeError}
use Rattle.wy_constant.specs.declared.rule.TypeError.TheVariants as error
use Rattle.wy_constant.specs.Refusal.{Refusal, Fails}
use Rattle.wy_constant.specs.Scope.{FixedText}
use Rattle.wy_elab_expr.specs.Meaning.{give, onward}
use Rattle.wy_elab_expr.specs.Views.{GetsTo}
use Rattle.wy_elab_body.specs.declared.place.Role.TheVariants.{InitializerBody, FieldsBody}
use Rattle.wy_elab_body.specs.Making.{Makes, begun}
use Rattle.wy_elab_body.specs.Places.{has_fields_unit}
use Rattle.wy_elab_body.specs.Statements.{Setting}
use Rattle.wy_elab_body.specs.Bodies.{Growing, Growth, end_of, constructor_block, initializer_block, method_block, implied_body}
use Rattle.wy_elab_stmt.specs.Classes.{ClassBodies, member, with_body, whole, is_static, grown, in_initializer, in_fields, fields_body, finished}
use Rattle.wy_elab_stmt.specs.ClassViews.{at_rest}

pub without_body : (w : Setting) (c : ℕ) (k : source.ClassSyntax) (h : source.Header) (result : Option source.WrittenType) (g : Growth) (texts : List FixedText) →
    member w c k g (source.Method h result None) texts ≡ Ok (with_body g None, texts)
unfolding member
without_body w c k h result g texts = refl

pub with_a_body : (w : Setting) (c : ℕ) (k : source.ClassSyntax) (h : source.Header) (result : Option source.WrittenType) (b : source.Braced) (g : Growth) (x : Body) (texts after : List FixedText) →
    whole (begun c (not (is_static h.modifiers)) h.name.token) (end_of b) (method_block w h result b) texts ≡ Ok (x, after) →
    member w c k g (source.Method h result (Some b)) texts ≡ Ok (with_body g (Some x), after)
unfolding member
with_a_body w c k h result b g x texts after is = ap (onward (λ y. give (with_body g (Some y)))) is

pub constructor_made : (w : Setting) (c : ℕ) (k : source.ClassSyntax) (h : source.Header) (own : Option source.OwnCall) (brace : ℕ) (parts : source.Statements) (end : ℕ) (g : Growth) (x : Body) (texts after : List FixedText) →
    whole (begun c true h.name.token) end (constructor_block w c k h own brace parts) texts ≡ Ok (x, after) →
    member w c k g (source.Constructor h own brace parts end) texts ≡ Ok (with_body g (Some x), after)
unfolding member
constructor_made w c k h own brace parts end g x texts after is = ap (onward (λ y. give (with_body g (Some y)))) is

pub static_block : (w : Setting) (c : ℕ) (k : source.ClassSyntax) (g : Growth) (b : source.Braced) (texts : List FixedText) →
    member w c k g (source.Initializer true b) texts ≡ in_initializer g (initializer_block w k InitializerBody b) texts
unfolding member
static_block w c k g b texts = refl

pub instance_block : (w : Setting) (c : ℕ) (k : source.ClassSyntax) (g : Growth) (b : source.Braced) (texts : List FixedText) →
    member w c k g (source.Initializer false b) texts ≡ in_fields g (initializer_block w k FieldsBody b) texts
unfolding member
instance_block w c k g b texts = refl

-- what is given by one is given by another that is the same
pub moved : {X A : Type 0} (see : X → A) (r : Result X TypeError) (after : List FixedText) (given other : Result (A × List FixedText) Refusal) → other ≡ given → GetsTo see r after given → GetsTo see r after other
moved see r after given other same is = subst (GetsTo see r after) (sym same) is

pub in_initializer_made : (g : Growth) (f : Makes (List kernel.Statement)) (x : Growing) (texts after : List FixedText) → grown g.initializer f texts ≡ Ok (x, after) →
    in_initializer g f texts ≡ Ok (record g { initializer = x }, after)
in_initializer_made g f x texts after is = ap (onward (λ y. give (record g { initializer = y }))) is

pub in_initializer_refused : (g : Growth) (f : Makes (List kernel.Statement)) (texts : List FixedText) (e : TypeError) → Fails e (grown g.initializer f texts) → Fails e (at_rest (in_initializer g f texts))
in_initializer_refused g f texts error.NoMemory is = tt
in_initializer_refused g f texts (error.Broken rule token) is = ap (λ r. at_rest (onward (λ y. give (record g { initializer = y })) r)) is

pub in_fields_made : (g : Growth) (f : Makes (List kernel.Statement)) (x : Growing) (texts after : List FixedText) → grown g.fields f texts ≡ Ok (x, after) →
    in_fields g f texts ≡ Ok (record g { fields = x }, after)
in_fields_made g f x texts after is = ap (onward (λ y. give (record g { fields = y }))) is

pub in_fields_refused : (g : Growth) (f : Makes (List kernel.Statement)) (texts : List FixedText) (e : TypeError) → Fails e (grown g.fields f texts) → Fails e (at_rest (in_fields g f texts))
in_fields_refused g f texts error.NoMemory is = tt
in_fields_refused g f texts (error.Broken rule token) is = ap (λ r. at_rest (onward (λ y. give (record g { fields = y })) r)) is

-- ---- the bodies that a class implies

pub fields_there : (w : Setting) (k : source.ClassSyntax) (g : Growing) → has_fields_unit k ≡ true → Some (implied_body w k FieldsBody g) ∷ [] ≡ fields_body w k g
fields_there w k g there = ap (λ b. if b then Some (implied_body w k FieldsBody g) ∷ [] else []) (sym there)

abbrev pub of_parts : List (Option Body) → Body → ClassBodies
of_parts bodies initializer = record { bodies = bodies; initializer = Some initializer }

pub finished_is : (w : Setting) (k : source.ClassSyntax) (implied : List (Option Body)) (g : Growth) (own front all : List (Option Body)) (x : Body) →
    own ≡ fields_body w k g.fields → front ≡ own ++ implied → all ≡ front ++ g.bodies → x ≡ implied_body w k InitializerBody g.initializer → of_parts all x ≡ finished w k implied g
finished_is w k implied g own front all x first second third last =
    ap (λ z. of_parts z x) (third ∙ ap (λ z. z ++ g.bodies) (second ∙ ap (λ z. z ++ implied) first))
    ∙ ap (of_parts (fields_body w k g.fields ++ implied ++ g.bodies)) last
