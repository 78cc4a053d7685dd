-- The abstract syntax in memory as contracts see it.
use Rattle.std.specs.Prelude.{List, [], ◌∷◌, map, Option, Some, None, option_map, string_bytes}
use Rattle.std.specs.declared.boxed.Box.{Box}
use Rattle.std.specs.declared.alloc.Global.{Global}
use Rattle.std.specs.declared.vec.Vec.{Vec}
use Rattle.wy_tree.specs.Seen.{seen}
use Rattle.wy_syntax.specs.Syntax as plain
use Rattle.wy_syntax.specs.declared.name.Named.{Named}
use Rattle.wy_syntax.specs.declared.name.WrittenBase.{WrittenBase}
use Rattle.wy_syntax.specs.declared.name.WrittenBase.TheVariants as bases
use Rattle.wy_syntax.specs.declared.name.WrittenType.{WrittenType}
use Rattle.wy_syntax.specs.declared.expression.Expression.{Expression}
use Rattle.wy_syntax.specs.declared.expression.Initial.{Initial}
use Rattle.wy_syntax.specs.declared.expression.Element.{Element}
use Rattle.wy_syntax.specs.declared.expression.Expression.TheOpen as layer
use Rattle.wy_syntax.specs.declared.expression.Expression.TheOpen.{Expression-F, Initial-F, Element-F}
use Rattle.wy_syntax.specs.declared.expression.Expression.TheFolds.{fold-Expression, fold-Initial, fold-Element}
use Rattle.wy_syntax.specs.declared.statement.Declarator.{Declarator}
use Rattle.wy_syntax.specs.declared.statement.Effect.{Effect}
use Rattle.wy_syntax.specs.declared.statement.ForInit.{ForInit}
use Rattle.wy_syntax.specs.declared.statement.ForInit.TheVariants as inits
use Rattle.wy_syntax.specs.declared.statement.Statement.{Statement}
use Rattle.wy_syntax.specs.declared.statement.Catch.{Catch}
use Rattle.wy_syntax.specs.declared.statement.Block.{Block}
use Rattle.wy_syntax.specs.declared.statement.Statement.TheOpen as acts
use Rattle.wy_syntax.specs.declared.statement.Statement.TheOpen.{Statement-F, Catch-F, Block-F}
use Rattle.wy_syntax.specs.declared.statement.Statement.TheFolds.{fold-Statement, fold-Catch, fold-Block}
use Rattle.wy_syntax.specs.declared.declaration.Placed.{Placed}
use Rattle.wy_syntax.specs.declared.declaration.Parameter.{Parameter}
use Rattle.wy_syntax.specs.declared.declaration.Outcome.{Outcome}
use Rattle.wy_syntax.specs.declared.declaration.Outcome.TheVariants as outcomes
use Rattle.wy_syntax.specs.declared.declaration.OwnCall.{OwnCall}
use Rattle.wy_syntax.specs.declared.declaration.Header.{Header}
use Rattle.wy_syntax.specs.declared.declaration.Member.{Member}
use Rattle.wy_syntax.specs.declared.declaration.Member.TheVariants as members
use Rattle.wy_syntax.specs.declared.declaration.ClassSyntax.{ClassSyntax}
use Rattle.wy_syntax.specs.declared.declaration.Declaration.{Declaration}
use Rattle.wy_syntax.specs.declared.declaration.Declaration.TheVariants as tops

abbrev pub named_of : Named → plain.Named
named_of n = record { name = string_bytes n.name; token = n.token }

abbrev pub base_seen : WrittenBase → plain.Base
base_seen (bases.Primitive p) = plain.Basic p
base_seen (bases.Class name) = plain.Class (string_bytes name)

abbrev pub type_seen : WrittenType → plain.WrittenType
type_seen t = record { base = base_seen t.base; token = t.token; brackets = t.brackets }

-- ---- expressions

abbrev pub row_of : List plain.Expression → plain.Row
row_of [] = plain.none
row_of (e ∷ rest) = plain.more e (row_of rest)

-- an element before those after it are known
abbrev pub Before : Type 0
Before = plain.Elements → plain.Elements

abbrev pub elements_of : List Before → plain.Elements
elements_of [] = plain.no_more
elements_of (e ∷ rest) = e (elements_of rest)

abbrev pub expression_step : Expression-F plain.Expression plain.Initial Before → plain.Expression
expression_step (layer.Literal value token) = plain.Literal (seen value) token
expression_step (layer.Name name token) = plain.Name (string_bytes name) token
expression_step (layer.This token) = plain.This token
expression_step (layer.Group inner token) = plain.Group inner.value token
expression_step (layer.Invoke name args token) = plain.Invoke (string_bytes name) (row_of args.items) token
expression_step (layer.Field object name token) = plain.Field object.value (string_bytes name) token
expression_step (layer.InvokeOn object name args token) = plain.InvokeOn object.value (string_bytes name) (row_of args.items) token
expression_step (layer.SuperField name token) = plain.SuperField (string_bytes name) token
expression_step (layer.SuperInvoke name args token) = plain.SuperInvoke (string_bytes name) (row_of args.items) token
expression_step (layer.Element array index token) = plain.Element array.value index.value token
expression_step (layer.NewObject class args token) = plain.NewObject (named_of class) (row_of args.items) token
expression_step (layer.NewArray base base_token sizes brackets token) = plain.NewArray (base_seen base) base_token (row_of sizes.items) brackets token
expression_step (layer.NewList base base_token brackets elements brace token) = plain.NewList (base_seen base) base_token brackets (elements_of elements.items) brace token
expression_step (layer.Unary op operand token) = plain.Unary op operand.value token
expression_step (layer.Step is_before is_up operand token) = plain.Step is_before is_up operand.value token
expression_step (layer.Binary op left right token) = plain.Binary op left.value right.value token
expression_step (layer.Both left right token) = plain.Both left.value right.value token
expression_step (layer.Either left right token) = plain.Either left.value right.value token
expression_step (layer.InstanceOf left ty token) = plain.InstanceOf left.value (type_seen ty) token
expression_step (layer.Cast ty operand token) = plain.Cast (type_seen ty) operand.value token
expression_step (layer.Choice test main other token) = plain.Choice test.value main.value other.value token
expression_step (layer.Assign left value token) = plain.Assign left.value value.value token
expression_step (layer.Update op left value token) = plain.Update op left.value value.value token
expression_step layer.Wrong = plain.Wrong

abbrev pub initial_step : Initial-F plain.Expression plain.Initial Before → plain.Initial
initial_step (layer.Value value) = plain.Value value
initial_step (layer.Listed elements brace) = plain.Listed (elements_of elements.items) brace

abbrev pub element_step : Element-F plain.Expression plain.Initial Before → Before
element_step e rest = plain.element e.before e.initial rest

-- what an expression says, what a variable is given first, and an element
unfoldable pub expression_of : Expression → plain.Expression
expression_of = fold-Expression plain.Expression plain.Initial Before expression_step initial_step element_step

-- what stands in another
abbrev pub inner_of : Box Expression Global → plain.Expression
inner_of e = expression_of e.value

unfoldable pub initial_of : Initial → plain.Initial
initial_of = fold-Initial plain.Expression plain.Initial Before expression_step initial_step element_step

unfoldable pub element_of : Element → Before
element_of = fold-Element plain.Expression plain.Initial Before expression_step initial_step element_step

-- ---- statements

abbrev pub declarator_of : Declarator → plain.Declarator
declarator_of d = record { name = named_of d.name; brackets = d.brackets; initial = option_map initial_of d.initial }

abbrev pub declarators_of : Vec Declarator Global → List plain.Declarator
declarators_of all = map declarator_of all.items

abbrev pub effect_of : Effect → plain.Effect
effect_of e = record { value = expression_of e.value; token = e.token }

abbrev pub for_init_of : ForInit → plain.ForInit
for_init_of inits.Nothing = plain.ForInit.Nothing
for_init_of (inits.Declared ty is_final all) = plain.ForInit.Declared is_final (type_seen ty) (declarators_of all)
for_init_of (inits.Effects effects) = plain.ForInit.Effects (map effect_of effects.items)

abbrev pub statements_of : List plain.Statement → plain.Statements
statements_of [] = plain.done
statements_of (s ∷ rest) = plain.first s (statements_of rest)

abbrev pub other_of : Option (Box plain.Statement Global) → plain.Other
other_of None = plain.absent
other_of (Some s) = plain.present s.value

abbrev pub last_of : Option plain.Braced → plain.Last
last_of None = plain.nowhere
last_of (Some b) = plain.finally b

-- a clause of a `try`, before those after it are known
abbrev pub Clause : Type 0
Clause = plain.Catches → plain.Catches

abbrev pub clauses_of : List Clause → plain.Catches
clauses_of [] = plain.uncaught
clauses_of (c ∷ rest) = c (clauses_of rest)

-- clauses in front of others
abbrev pub clauses_before : List Clause → plain.Catches → plain.Catches
clauses_before [] others = others
clauses_before (c ∷ rest) others = c (clauses_before rest others)

abbrev pub statement_step : Statement-F plain.Statement plain.Braced Clause → plain.Statement
statement_step (acts.Block block) = plain.Statement.Block block
statement_step (acts.Empty token) = plain.Empty token
statement_step (acts.Declare is_final ty all) = plain.Declare is_final (type_seen ty) (declarators_of all)
statement_step (acts.Effect effect) = plain.Perform (effect_of effect)
statement_step (acts.If test main other token) = plain.If (expression_of test) main.value (other_of other) token
statement_step (acts.While test body token) = plain.While (expression_of test) body.value token
statement_step (acts.Do body test token) = plain.Do body.value (expression_of test) token
statement_step (acts.For init test updates body token) = plain.For (for_init_of init) (option_map expression_of test) (map effect_of updates.items) body.value token
statement_step (acts.Labelled name body) = plain.Labelled (named_of name) body.value
statement_step (acts.Break label token) = plain.Break (option_map named_of label) token
statement_step (acts.Continue label token) = plain.Continue (option_map named_of label) token
statement_step (acts.Return value token) = plain.Return (option_map expression_of value) token
statement_step (acts.Throw value token) = plain.Throw (expression_of value) token
statement_step (acts.Try main catches last token) = plain.Try main (clauses_of catches.items) (last_of last) token
statement_step acts.Wrong = plain.Statement.Unknown

abbrev pub catch_step : Catch-F plain.Statement plain.Braced Clause → Clause
catch_step c rest = plain.catch c.is_final (named_of c.class) (named_of c.name) c.block rest

abbrev pub block_step : Block-F plain.Statement plain.Braced Clause → plain.Braced
block_step b = plain.braced b.brace (statements_of b.parts.items) b.end

-- what a statement says, a clause of a `try`, and a block
unfoldable pub statement_of : Statement → plain.Statement
statement_of = fold-Statement plain.Statement plain.Braced Clause statement_step block_step catch_step

-- what stands in another, and what may stand in it
abbrev pub body_of : Box Statement Global → plain.Statement
body_of s = statement_of s.value

abbrev pub other_body_of : Option (Box Statement Global) → plain.Other
other_body_of None = plain.absent
other_body_of (Some s) = plain.present (body_of s)

unfoldable pub clause_of : Catch → Clause
clause_of = fold-Catch plain.Statement plain.Braced Clause statement_step block_step catch_step

unfoldable pub block_of : Block → plain.Braced
block_of = fold-Block plain.Statement plain.Braced Clause statement_step block_step catch_step

-- ---- declarations

abbrev pub placed_of : Placed → plain.Placed
placed_of p = record { modifier = p.modifier; token = p.token }

abbrev pub parameter_of : Parameter → plain.Parameter
parameter_of p = record { is_final = p.is_final; ty = type_seen p.ty; name = named_of p.name; brackets = p.brackets }

abbrev pub outcome_of : Outcome → Option plain.WrittenType
outcome_of outcomes.Nothing = None
outcome_of (outcomes.Value ty) = Some (type_seen ty)

abbrev pub own_call_of : OwnCall → plain.OwnCall
own_call_of c = record { is_super = c.is_super; args = row_of (map expression_of c.args.items); paren = c.paren; token = c.token }

abbrev pub header_of : Header → plain.Header
header_of h = record {
  modifiers = map placed_of h.modifiers.items;
  name = named_of h.name;
  params = map parameter_of h.params.items;
  throws = map named_of h.throws.items;
}

abbrev pub member_of : Member → plain.Member
member_of members.Nothing = plain.Member.Nothing
member_of (members.Initializer is_static block) = plain.Initializer is_static (block_of block)
member_of (members.Fields modifiers ty all) = plain.Fields (map placed_of modifiers.items) (type_seen ty) (declarators_of all)
member_of (members.Method header result body) = plain.Method (header_of header) (outcome_of result) (option_map block_of body)
member_of (members.Constructor header own_call brace parts end) =
    plain.Constructor (header_of header) (option_map own_call_of own_call) brace (statements_of (map statement_of parts.items)) end
member_of members.Wrong = plain.Member.Unknown

abbrev pub class_of : ClassSyntax → plain.ClassSyntax
class_of c = record {
  is_interface = c.is_interface;
  modifiers = map placed_of c.modifiers.items;
  name = named_of c.name;
  above = option_map named_of c.above;
  interfaces = map named_of c.interfaces.items;
  members = map member_of c.members.items;
  end = c.end;
}

abbrev pub declaration_of : Declaration → plain.Declaration
declaration_of tops.Nothing = plain.Declaration.Nothing
declaration_of (tops.Class c) = plain.Declaration.Declared (class_of c)
declaration_of tops.Wrong = plain.Declaration.Unknown
