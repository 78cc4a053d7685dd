-- The bodies of a class: their sites, those of their locals and their ends are tokens of what is written in the class, or its name.
use Rattle.std.proofs.Common.{ℕ, Bool, true, false, not, if◌then◌else◌, List, [], ◌∷◌, ◌++◌}
use Rattle.std.specs.Prelude.{Option, Some, None}
use Rattle.std.specs.List.{AllByRecursion}
use Rattle.std.proofs.ByRecursion.{All-append, All-push}
use Rattle.std.proofs.lemmas.List.Elements.{All-nil, All-cons}
use Rattle.wy_kernel.specs.Form as kernel
use Rattle.wy_kernel.specs.Program.{Body, Local}
use Rattle.wy_syntax.specs.Syntax.{Braced, braced, Member, ClassSyntax}
use Rattle.wy_syntax.specs.Syntax as source
use Rattle.wy_elab_expr.specs.Meaning.{Gets}
use Rattle.wy_elab_expr.specs.Meaning as found
use Rattle.wy_elab_body.specs.declared.place.Role.{Role}
use Rattle.wy_elab_body.specs.declared.place.Role.TheVariants.{InitializerBody, FieldsBody}
use Rattle.wy_elab_body.specs.Places.{has_fields_unit, declares_constructor}
use Rattle.wy_elab_body.specs.Making.{Making, Makes, begun, resumed}
use Rattle.wy_elab_body.specs.Statements.{Setting}
use Rattle.wy_elab_body.specs.Bodies.{Growing, Growth, body_of, end_of, method_block, constructor_block, implied_constructor_block, initializer_block, field_initials, implied_body}
use Rattle.wy_elab_stmt.specs.Classes.{ClassBodies, whole, with_body, grown, in_initializer, in_fields, is_static, member, members, implied_constructor, none_yet, fields_body, finished, of_class, of_interface, class_bodies}
use Rattle.law_structure.proofs.Yields.{Yields, given, then_found, of_choice}
use Rattle.wy_typing.specs.Sites.{LocalsSited, BodySited}
use Rattle.law_sites.proofs.Tokens.{BlockTokens, MemberTokens, ClassTokens}
use Rattle.law_sites.proofs.Keeping.{Keeps, of_resumed}
use Rattle.law_sites.proofs.SitedStatements.{WholeSited, ListSited, row_sited}
use Rattle.law_sites.proofs.SitedBodies.{method_sited, constructor_sited, implied_constructor_sited, initializer_sited, fields_sited}

-- one that may be absent
abbrev pub SomeBodySited : (ℕ → Type 0) → Option Body → Type 0
SomeBodySited P None = Unit {0}
SomeBodySited P (Some b) = BodySited P b

abbrev pub BodiesSited : (ℕ → Type 0) → List (Option Body) → Type 0
BodiesSited P bs = AllByRecursion (SomeBodySited P) bs

-- ---- whole bodies

-- `this` has the site that the body begins with
begun_sited : (P : ℕ → Type 0) (class : ℕ) (has_this : Bool) (site : ℕ) → P site → LocalsSited P (begun class has_this site).locals
unfolding begun
begun_sited P class true site h = All-cons (λ (l : Local). P l.site) _ [] h (All-nil (λ (l : Local). P l.site))
begun_sited P class false site h = All-nil (λ (l : Local). P l.site)

end_sited : (P : ℕ → Type 0) (b : Braced) → BlockTokens P b → P (end_of b)
end_sited P (braced brace parts end) h = h.2

whole_sited : (P : ℕ → Type 0) (m : Making) (end : ℕ) (f : Makes kernel.Statement) → LocalsSited P m.locals → P end → Keeps P f (WholeSited P) → Yields (whole m end f) (BodySited P)
whole_sited P m end f l h i =
    then_found (resumed m f) (λ p. found.give (body_of p.0 p.1 end)) (λ p. WholeSited P p.0 × LocalsSited P p.1.locals) (BodySited P) (of_resumed m f (WholeSited P) l i) (λ p x.
    given (BodySited P) (body_of p.0 p.1 end) (record { block = x.0; locals = x.1; end = h }))

-- ---- bodies that grow from member to member

abbrev GrowingSited : (ℕ → Type 0) → Growing → Type 0
GrowingSited P g = ListSited P g.parts × LocalsSited P g.making.locals

record GrowthSited (P : ℕ → Type 0) (g : Growth) : Type 0 where
  pub initializer : GrowingSited P g.initializer
  pub fields : GrowingSited P g.fields
  pub bodies : BodiesSited P g.bodies

grown_sited : (P : ℕ → Type 0) (g : Growing) (f : Makes (List kernel.Statement)) → GrowingSited P g → Keeps P f (ListSited P) → Yields (grown g f) (GrowingSited P)
grown_sited P g f h i =
    then_found (resumed g.making f) _ (λ p. ListSited P p.0 × LocalsSited P p.1.locals) (GrowingSited P) (of_resumed g.making f (ListSited P) h.1 i) (λ p x.
    given (GrowingSited P) (record { making = p.1; parts = g.parts ++ p.0 }) (All-append (WholeSited P) g.parts p.0 h.0 x.0, x.1))

into_initializer : (P : ℕ → Type 0) (g : Growth) (f : Makes (List kernel.Statement)) → GrowthSited P g → Keeps P f (ListSited P) → Yields (in_initializer g f) (GrowthSited P)
into_initializer P g f h i =
    then_found (grown g.initializer f) _ (GrowingSited P) (GrowthSited P) (grown_sited P g.initializer f h.initializer i) (λ x k.
    given (GrowthSited P) (record g { initializer = x }) (record { initializer = k; fields = h.fields; bodies = h.bodies }))

into_fields : (P : ℕ → Type 0) (g : Growth) (f : Makes (List kernel.Statement)) → GrowthSited P g → Keeps P f (ListSited P) → Yields (in_fields g f) (GrowthSited P)
into_fields P g f h i =
    then_found (grown g.fields f) _ (GrowingSited P) (GrowthSited P) (grown_sited P g.fields f h.fields i) (λ x k.
    given (GrowthSited P) (record g { fields = x }) (record { initializer = h.initializer; fields = k; bodies = h.bodies }))

one_more : (P : ℕ → Type 0) (g : Growth) (b : Option Body) → GrowthSited P g → SomeBodySited P b → GrowthSited P (with_body g b)
one_more P g b h i = record { initializer = h.initializer; fields = h.fields; bodies = All-push (SomeBodySited P) g.bodies b h.bodies i }

behind_body : (P : ℕ → Type 0) (g : Growth) (f : Gets Body) → GrowthSited P g → Yields f (BodySited P) → Yields (λ s. found.onward (λ (b : Body). found.give (with_body g (Some b))) (f s)) (GrowthSited P)
behind_body P g f h i = then_found f (λ (b : Body). found.give (with_body g (Some b))) (BodySited P) (GrowthSited P) i (λ b k. given (GrowthSited P) (with_body g (Some b)) (one_more P g (Some b) h k))

-- ---- members

member_sited : (P : ℕ → Type 0) (w : Setting) (c : ℕ) (k : ClassSyntax) (g : Growth) (m : Member) → MemberTokens P m → GrowthSited P g → Yields (member w c k g m) (GrowthSited P)
unfolding member
member_sited P w c k g (source.Initializer true b) i h = into_initializer P g (initializer_block w k InitializerBody b) h (initializer_sited P w k InitializerBody b i)
member_sited P w c k g (source.Initializer false b) i h = into_fields P g (initializer_block w k FieldsBody b) h (initializer_sited P w k FieldsBody b i)
member_sited P w c k g (source.Fields ms ty all) i h =
    of_choice (is_static ms) (in_initializer g (field_initials w c true ty all)) (in_fields g (field_initials w c false ty all)) (GrowthSited P)
    (into_initializer P g (field_initials w c true ty all) h (fields_sited P w c true ty all i)) (into_fields P g (field_initials w c false ty all) h (fields_sited P w c false ty all i))
member_sited P w c k g (source.Method x result None) i h = given (GrowthSited P) (with_body g None) (one_more P g None h tt)
member_sited P w c k g (source.Method x result (Some b)) i h =
    behind_body P g (whole (begun c (not (is_static x.modifiers)) x.name.token) (end_of b) (method_block w x result b)) h
    (whole_sited P (begun c (not (is_static x.modifiers)) x.name.token) (end_of b) (method_block w x result b) (begun_sited P c (not (is_static x.modifiers)) x.name.token i.0.0) (end_sited P b i.1) (method_sited P w x result b i.0 i.1))
member_sited P w c k g (source.Constructor x own brace parts end) i h =
    behind_body P g (whole (begun c true x.name.token) end (constructor_block w c k x own brace parts)) h
    (whole_sited P (begun c true x.name.token) end (constructor_block w c k x own brace parts) (begun_sited P c true x.name.token i.0.0) i.4 (constructor_sited P w c k x own brace parts i.0 i.1 i.2 i.3))
member_sited P w c k g source.Member.Nothing i h = given (GrowthSited P) g h
member_sited P w c k g source.Member.Unknown i h = given (GrowthSited P) g h

members_sited : (P : ℕ → Type 0) (w : Setting) (c : ℕ) (k : ClassSyntax) (g : Growth) (ms : List Member) → AllByRecursion (MemberTokens P) ms → GrowthSited P g → Yields (members w c k g ms) (GrowthSited P)
unfolding members
members_sited P w c k g [] i h = given (GrowthSited P) g h
members_sited P w c k g (m ∷ rest) i h =
    then_found (member w c k g m) (λ next. members w c k next rest) (GrowthSited P) (GrowthSited P) (member_sited P w c k g m i.0 h) (λ next x. members_sited P w c k next rest i.1 x)

-- ---- classes

implied_sited : (P : ℕ → Type 0) (w : Setting) (c : ℕ) (k : ClassSyntax) → P k.name.token → Yields (implied_constructor w c k) (BodiesSited P)
unfolding implied_constructor
implied_sited P w c k h =
    of_choice (declares_constructor k) (found.give []) _ (BodiesSited P)
    (given (BodiesSited P) [] tt)
    (then_found (whole (begun c true k.name.token) k.name.token (implied_constructor_block w c k)) (λ body. found.give (Some body ∷ [])) (BodySited P) (BodiesSited P)
    (whole_sited P (begun c true k.name.token) k.name.token (implied_constructor_block w c k) (begun_sited P c true k.name.token h) h (implied_constructor_sited P w c k h)) (λ b i.
    given (BodiesSited P) (Some b ∷ []) (i, tt)))

pub record ClassSited (P : ℕ → Type 0) (b : ClassBodies) : Type 0 where
  pub bodies : BodiesSited P b.bodies
  pub initializer : SomeBodySited P b.initializer

none_yet_sited : (P : ℕ → Type 0) (c : ℕ) (k : ClassSyntax) → P k.name.token → GrowthSited P (none_yet c k)
none_yet_sited P c k h = record { initializer = (tt, begun_sited P c false k.name.token h); fields = (tt, begun_sited P c true k.name.token h); bodies = tt }

implied_body_sited : (P : ℕ → Type 0) (w : Setting) (k : ClassSyntax) (role : Role) (g : Growing) → P k.name.token → GrowingSited P g → BodySited P (implied_body w k role g)
implied_body_sited P w k role g h i = record { block = ((h, tt), row_sited P g.parts i.0); locals = i.1; end = h }

fields_body_sited : (P : ℕ → Type 0) (w : Setting) (k : ClassSyntax) (g : Growing) → P k.name.token → GrowingSited P g → BodiesSited P (fields_body w k g)
fields_body_sited P w k g h i = elim (has_fields_unit k) as (λ b. BodiesSited P (if b then Some (implied_body w k FieldsBody g) ∷ [] else [])) [
  | true ↦ (implied_body_sited P w k FieldsBody g h i, tt)
  | false ↦ tt
]

finished_sited : (P : ℕ → Type 0) (w : Setting) (k : ClassSyntax) (bs : List (Option Body)) (g : Growth) → P k.name.token → BodiesSited P bs → GrowthSited P g → ClassSited P (finished w k bs g)
finished_sited P w k bs g h i x = record {
  bodies = All-append (SomeBodySited P) (fields_body w k g.fields ++ bs) g.bodies (All-append (SomeBodySited P) (fields_body w k g.fields) bs (fields_body_sited P w k g.fields h x.fields) i) x.bodies;
  initializer = implied_body_sited P w k InitializerBody g.initializer h x.initializer;
}

pub class_bodies_sited : (P : ℕ → Type 0) (w : Setting) (c : ℕ) (k : ClassSyntax) → ClassTokens P k → Yields (class_bodies w c k) (ClassSited P)
unfolding class_bodies
class_bodies_sited P w c k h =
    of_choice k.is_interface (of_interface w c k) (of_class w c k) (ClassSited P)
    (then_found (members w c k (none_yet c k) k.members) _ (GrowthSited P) (ClassSited P) (members_sited P w c k (none_yet c k) k.members h.members (none_yet_sited P c k h.name)) (λ g i.
    given (ClassSited P) (record { bodies = g.bodies; initializer = None }) (record { bodies = i.bodies; initializer = tt })))
    (then_found (implied_constructor w c k) _ (BodiesSited P) (ClassSited P) (implied_sited P w c k h.name) (λ bs x.
    then_found (members w c k (none_yet c k) k.members) _ (GrowthSited P) (ClassSited P) (members_sited P w c k (none_yet c k) k.members h.members (none_yet_sited P c k h.name)) (λ g i.
    given (ClassSited P) (finished w k bs g) (finished_sited P w k bs g h.name x i))))
