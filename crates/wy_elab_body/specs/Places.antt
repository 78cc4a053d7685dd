-- Where the statements of a program stand, and the numbers that follow from it: those of the library first, and then by site.
use Rattle.std.specs.Prelude.{ℕ, ◌+◌, ◌*◌, Bool, true, not, ◌||◌, ◌&&◌, ◌==◌, nat_lt, if◌then◌else◌, List, [], ◌∷◌, ◌++◌, map, filter, flat_map, count_by, Option, Some, None, is_some, slice_get}
use Rattle.std.specs.List.{list_any}
use Rattle.wy_kernel.specs.Program.{object_class, library_statements}
use Rattle.wy_kernel.specs.Table.{Table}
use Rattle.wy_syntax.specs.Syntax.{Declarator, Effect, ForInit, Statement, Block, Empty, Declare, Perform, If, While, Do, For, Labelled, Break, Continue, Return, Throw, Try, Unknown, Braced, braced, Statements, done, first, Other, absent, present, Last, nowhere, finally, Catches, uncaught, catch, Placed, OwnCall, Header, Member, Initializer, Fields, Method, Constructor, ClassSyntax}
use Rattle.wy_syntax.specs.Syntax as source
use Rattle.wy_constant.specs.Fields.{superclass}
use Rattle.wy_elab_body.specs.declared.place.Role.{Role}
use Rattle.wy_elab_body.specs.declared.place.Role.TheVariants.{InitializerBody, FieldsBody, ConstructorBody, SuperCall, FieldsCall, Written}
use Rattle.wy_elab_body.specs.declared.place.Place.{Place}
use Rattle.wy_members.specs.Declarations.{CompilationUnit, class_by_class, initializes_objects, is_constructor}

unfoldable pub order_of : Role → ℕ
order_of InitializerBody = 0
order_of FieldsBody = 1
order_of ConstructorBody = 2
order_of SuperCall = 3
order_of FieldsCall = 4
order_of Written = 5

abbrev pub at : ℕ → Role → Place
at site role = record { site = site; role = role }

abbrev pub written : ℕ → Place
written site = at site Written

abbrev pub stands_before : Place → Place → Bool
stands_before p q = nat_lt p.site q.site || p.site == q.site && nat_lt (order_of p.role) (order_of q.role)

-- a number that rises along the text
abbrev pub key_of : Place → ℕ
key_of p = p.site * 8 + order_of p.role

-- ---- the places of statements in a body

abbrev pub declarator_places : List Declarator → List Place
declarator_places all = map (λ (d : Declarator). written d.name.token) all

abbrev pub effect_places : List Effect → List Place
effect_places all = map (λ (e : Effect). written e.token) all

abbrev pub init_places : ForInit → List Place
init_places source.ForInit.Nothing = []
init_places (source.ForInit.Declared is_final ty all) = declarator_places all
init_places (source.ForInit.Effects all) = effect_places all

unfoldable mutual
  -- each declarator is a statement
  pub places : Statement → List Place
  places (Block b) = block_places b
  places (Empty token) = written token ∷ []
  places (Declare is_final ty all) = declarator_places all
  places (Perform e) = written e.token ∷ []
  places (If test main other token) = written token ∷ (places main ++ other_places other)
  places (While test body token) = written token ∷ places body
  places (Do body test token) = written token ∷ places body
  places (For init test updates body token) = written token ∷ (init_places init ++ effect_places updates ++ places body)
  places (Labelled name body) = written name.token ∷ places body
  places (Break label token) = written token ∷ []
  places (Continue label token) = written token ∷ []
  places (Return value token) = written token ∷ []
  places (Throw value token) = written token ∷ []
  places (Try main catches last token) = written token ∷ (block_places main ++ catch_places catches ++ last_places last)
  places Unknown = []

  pub block_places : Braced → List Place
  block_places (braced brace parts end) = written brace ∷ all_places parts

  pub all_places : Statements → List Place
  all_places done = []
  all_places (first s rest) = places s ++ all_places rest

  pub other_places : Other → List Place
  other_places absent = []
  other_places (present s) = places s

  pub last_places : Last → List Place
  last_places nowhere = []
  last_places (finally b) = block_places b

  pub catch_places : Catches → List Place
  catch_places uncaught = []
  catch_places (catch is_final class name block rest) = block_places block ++ catch_places rest

-- ---- the places of statements in a class (JLS 8.3.2, 8.6, 8.7, 8.8.7)

-- a class calls a constructor of its superclass, unless that is Object
abbrev pub is_object : Option ℕ → Bool
is_object (Some c) = c == object_class
is_object None = true

unfoldable pub calls_superclass : Table → ℕ → Bool
calls_superclass t c = not (is_object (superclass (slice_get t.classes c)))

-- it has instance initializers, which are the unit `<fields>`
abbrev pub has_fields_unit : ClassSyntax → Bool
has_fields_unit k = list_any initializes_objects k.members

abbrev pub declares_constructor : ClassSyntax → Bool
declares_constructor k = list_any is_constructor k.members

abbrev pub place_if : Bool → ℕ → Role → List Place
place_if b site role = if b then at site role ∷ [] else []

-- the calls that begin a constructor without one of its own, by the site of its name or its class's
abbrev pub implied_calls : Table → ℕ → ClassSyntax → ℕ → List Place
implied_calls t c k site = place_if (calls_superclass t c) site SuperCall ++ place_if (has_fields_unit k) site FieldsCall

-- the calls that begin a constructor: `this(..)` stands alone, and `super(..)` to Object is no statement
abbrev pub first_calls : Table → ℕ → ClassSyntax → ℕ → Option OwnCall → List Place
first_calls t c k site None = implied_calls t c k site
first_calls t c k site (Some call) =
    if call.is_super then place_if (calls_superclass t c) call.token Written ++ place_if (has_fields_unit k) site FieldsCall else written call.token ∷ []

-- a field without initializer is no statement
abbrev pub initialized_places : List Declarator → List Place
initialized_places all = declarator_places (filter (λ (d : Declarator). is_some d.initial) all)

unfoldable pub member_places : Table → ℕ → ClassSyntax → Member → List Place
member_places t c k (Initializer is_static block) = block_places block
member_places t c k (Fields ms ty all) = initialized_places all
member_places t c k (Method h result (Some block)) = block_places block
member_places t c k (Method h result None) = []
member_places t c k (Constructor h own_call brace parts end) = first_calls t c k h.name.token own_call ++ written brace ∷ all_places parts
member_places t c k _ = []

abbrev pub implied_constructor_places : Table → ℕ → ClassSyntax → List Place
implied_constructor_places t c k = if declares_constructor k then [] else at k.name.token ConstructorBody ∷ implied_calls t c k k.name.token

-- an interface has no initializer and no constructor
unfoldable pub class_places : Table → ℕ → ClassSyntax → List Place
class_places t c k =
    if k.is_interface then [] else at k.name.token InitializerBody ∷ (
    place_if (has_fields_unit k) k.name.token FieldsBody ++ implied_constructor_places t c k ++ flat_map (member_places t c k) k.members)

abbrev pub places_of : Table → CompilationUnit → List Place
places_of t unit = class_by_class (class_places t) unit

-- ---- numbers

-- the number of the statement at a place: as many as the library has and as stand before it
unfoldable pub number_at : List Place → Place → ℕ
number_at all p = library_statements + count_by (λ q. stands_before q p) all
