-- All bodies of a class, made in the order of the text: the constructor that it doesn't declare first, and then member by member.
use Rattle.std.specs.Prelude.{ℕ, Bool, true, false, not, List, [], ◌∷◌, ◌++◌, Option, Some, None, if◌then◌else◌}
use Rattle.wy_kernel.specs.Form as kernel
use Rattle.wy_kernel.specs.Program.{Body}
use Rattle.wy_syntax.specs.declared.declaration.Modifier.TheVariants as modifier
use Rattle.wy_syntax.specs.Syntax.{Named, WrittenType, Declarator, Braced, Statements, Placed, OwnCall, Header, Member, ClassSyntax}
use Rattle.wy_syntax.specs.Syntax as source
use Rattle.wy_members.specs.Declarations.{has}
use Rattle.wy_elab_expr.specs.Meaning.{Gets, give, ◌>>=◌}
use Rattle.wy_elab_body.specs.declared.place.Role.TheVariants.{InitializerBody, FieldsBody}
use Rattle.wy_elab_body.specs.Places.{has_fields_unit, declares_constructor}
use Rattle.wy_elab_body.specs.Making.{Making, Makes, begun, resumed}
use Rattle.wy_elab_body.specs.Statements.{Setting}
use Rattle.wy_elab_body.specs.Bodies.{Growing, Growth, nothing_yet, body_of, end_of, method_block, constructor_block, implied_constructor_block, initializer_block, field_initials, implied_body}

-- a body from its beginning to its end
abbrev pub whole : Making → ℕ → Makes kernel.Statement → Gets Body
whole m end f = do
  p ← resumed m f
  give (body_of p.0 p.1 end)

abbrev pub with_body : Growth → Option Body → Growth
with_body g b = record g { bodies = g.bodies ++ b ∷ [] }

-- what is made goes behind what stands in a body so far
abbrev pub grown : Growing → Makes (List kernel.Statement) → Gets Growing
grown g f = do
  p ← resumed g.making f
  give (record { making = p.1; parts = g.parts ++ p.0 })

abbrev pub in_initializer : Growth → Makes (List kernel.Statement) → Gets Growth
in_initializer g f = do
  x ← grown g.initializer f
  give (record g { initializer = x })

abbrev pub in_fields : Growth → Makes (List kernel.Statement) → Gets Growth
in_fields g f = do
  x ← grown g.fields f
  give (record g { fields = x })

abbrev pub is_static : List Placed → Bool
is_static ms = has modifier.Static ms

unfoldable pub member : Setting → ℕ → ClassSyntax → Growth → Member → Gets Growth
member w c k g (source.Initializer true b) = in_initializer g (initializer_block w k InitializerBody b)
member w c k g (source.Initializer false b) = in_fields g (initializer_block w k FieldsBody b)
member w c k g (source.Fields ms ty all) =
    if is_static ms then in_initializer g (field_initials w c true ty all) else in_fields g (field_initials w c false ty all)
member w c k g (source.Method h result None) = give (with_body g None)
member w c k g (source.Method h result (Some b)) = do
  body ← whole (begun c (not (is_static h.modifiers)) h.name.token) (end_of b) (method_block w h result b)
  give (with_body g (Some body))
member w c k g (source.Constructor h own brace parts end) = do
  body ← whole (begun c true h.name.token) end (constructor_block w c k h own brace parts)
  give (with_body g (Some body))
member w c k g _ = give g

unfoldable pub members : Setting → ℕ → ClassSyntax → Growth → List Member → Gets Growth
members w c k g [] = give g
members w c k g (m ∷ rest) = do
  next ← member w c k g m
  members w c k next rest

unfoldable pub implied_constructor : Setting → ℕ → ClassSyntax → Gets (List (Option Body))
implied_constructor w c k =
    if declares_constructor k then give []
    else (do
      body ← whole (begun c true k.name.token) k.name.token (implied_constructor_block w c k)
      give (Some body ∷ []))

-- the bodies of a class's methods by their numbers, and that of its initializer
pub record ClassBodies : Type 0 where
  pub bodies : List (Option Body)
  pub initializer : Option Body

abbrev pub none_yet : ℕ → ClassSyntax → Growth
none_yet c k = record { initializer = nothing_yet c false k.name.token; fields = nothing_yet c true k.name.token; bodies = [] }

abbrev pub fields_body : Setting → ClassSyntax → Growing → List (Option Body)
fields_body w k g = if has_fields_unit k then Some (implied_body w k FieldsBody g) ∷ [] else []

abbrev pub finished : Setting → ClassSyntax → List (Option Body) → Growth → ClassBodies
finished w k implied g = record { bodies = fields_body w k g.fields ++ implied ++ g.bodies; initializer = Some (implied_body w k InitializerBody g.initializer) }

abbrev pub of_class : Setting → ℕ → ClassSyntax → Gets ClassBodies
of_class w c k = do
  implied ← implied_constructor w c k
  g ← members w c k (none_yet c k) k.members
  give (finished w k implied g)

-- an interface has no initializer and no constructor, and its methods have no bodies
abbrev pub of_interface : Setting → ℕ → ClassSyntax → Gets ClassBodies
of_interface w c k = do
  g ← members w c k (none_yet c k) k.members
  give (record { bodies = g.bodies; initializer = None })

unfoldable pub class_bodies : Setting → ℕ → ClassSyntax → Gets ClassBodies
class_bodies w c k = if k.is_interface then of_interface w c k else of_class w c k
