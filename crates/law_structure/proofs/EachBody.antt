-- What is made of each member keeps a property of bodies: so do all bodies of every program.
use Rattle.std.proofs.Common.{subst, ℕ, suc, ◌+◌, ◌*◌, ◌-◌, Bool, true, false, not, if◌then◌else◌, List, [], ◌∷◌, ◌++◌, Ok}
use Rattle.std.specs.Prelude.{Option, Some, None, flat_map, map}
use Rattle.std.specs.List.{All, AllByRecursion}
use Rattle.std.proofs.lemmas.List.Elements.{All-nil, All-cons, All-append, All-push, All-contains}
use Rattle.wy_kernel.specs.Form as kernel
use Rattle.wy_kernel.specs.Program.{Program, Body, Class, first_source_class}
use Rattle.wy_kernel.specs.Builtin as builtin
use Rattle.wy_syntax.specs.Syntax.{WrittenType, Declarator, Braced, Statements, Placed, OwnCall, Header, Member, ClassSyntax}
use Rattle.wy_syntax.specs.Syntax as source
use Rattle.wy_members.specs.Declarations.{CompilationUnit, classes_of}
use Rattle.wy_elab_expr.specs.Meaning.{Gets}
use Rattle.wy_elab_expr.specs.Meaning as found
use Rattle.wy_elab_body.specs.declared.place.Role.{Role}
use Rattle.wy_elab_body.specs.declared.place.Role.TheVariants.{InitializerBody, FieldsBody}
use Rattle.wy_elab_body.specs.Places.{has_fields_unit, declares_constructor}
use Rattle.wy_elab_body.specs.Making.{Making, Makes, begun, resumed}
use Rattle.wy_elab_body.specs.Statements.{Setting, row_of}
use Rattle.wy_elab_body.specs.Bodies.{Growing, Growth, implied, body_of, end_of, method_block, constructor_block, implied_constructor_block, initializer_block, field_initials, implied_body}
use Rattle.wy_library.specs.Library.{library_bodies, library_init_bodies, above_in_library, object_to_string, object_equals, plain_throwable, throwable_with_message, get_message, throwable_to_string, plain_constructor, constructor_with_message, constructors_of, below_throwable}
use Rattle.wy_elab_stmt.specs.Classes.{ClassBodies, whole, with_body, grown, in_initializer, in_fields, is_static, member, members, implied_constructor, none_yet, fields_body, finished, of_class, of_interface, class_bodies}
use Rattle.wy_elab_stmt.specs.Program.{Bodies, and_more, no_bodies, bodies_from, setting}
use Rattle.wy_elab_stmt.specs.Elaborates.{Elaborates}
use Rattle.law_structure.specs.Within.{IsBodyOf}
use Rattle.law_structure.proofs.Elaborated.{MadeFrom, made_from}
use Rattle.law_structure.proofs.Yields.{Yields, given, then_found, of_choice, of_resumed}
use Rattle.law_structure.proofs.FirstCalls.{all_so}

-- the block of a body has the property, where there is one
abbrev pub BodyHas : (kernel.Statement → Type 0) → Option Body → Type 0
BodyHas B None = Unit {0}
BodyHas B (Some b) = B b.block

abbrev pub BodiesHave : (kernel.Statement → Type 0) → List (Option Body) → Type 0
BodiesHave B bs = All (BodyHas B) bs

-- ---- the library

constructors_have : (P : Option Body → Type 0) → ((c k : ℕ) → P (plain_constructor c k (above_in_library c))) → ((c k : ℕ) → P (constructor_with_message c k (above_in_library c))) → (cs : List ℕ) → All P (flat_map constructors_of cs)
constructors_have P f g [] = All-nil P
constructors_have P f g (c ∷ rest) =
    let plain = plain_constructor c (6 + 2 * (c - 3)) (above_in_library c) in
    let other = constructor_with_message c (7 + 2 * (c - 3)) (above_in_library c) in
    All-append P (constructors_of c) (flat_map constructors_of rest) (All-cons P plain (other ∷ []) (f c (6 + 2 * (c - 3))) (All-cons P other [] (g c (7 + 2 * (c - 3))) (All-nil P))) (constructors_have P f g rest)

-- its bodies, one by one
pub library_has : (P : Option Body → Type 0) → P object_to_string → P object_equals → P plain_throwable → P throwable_with_message → P get_message → P throwable_to_string →
    ((c k : ℕ) → P (plain_constructor c k (above_in_library c))) → ((c k : ℕ) → P (constructor_with_message c k (above_in_library c))) → All P library_bodies
unfolding library_bodies
library_has P h i j k l m f g =
    let rest = flat_map constructors_of below_throwable in
    let v = throwable_to_string ∷ rest in
    let w = get_message ∷ v in
    let x = throwable_with_message ∷ w in
    let y = plain_throwable ∷ x in
    let z = object_equals ∷ y in
    All-cons P object_to_string z h (All-cons P object_equals y i (All-cons P plain_throwable x j (All-cons P throwable_with_message w k (All-cons P get_message v l (All-cons P throwable_to_string rest m (constructors_have P f g below_throwable))))))

none_of : (B : kernel.Statement → Type 0) (ks : List Class) → BodiesHave B (map (λ (k : Class). None) ks)
none_of B [] = All-nil (BodyHas B)
none_of B (k ∷ rest) = All-cons (BodyHas B) None (map (λ (k : Class). None) rest) tt (none_of B rest)

library_init_has : (B : kernel.Statement → Type 0) → BodiesHave B library_init_bodies
unfolding library_init_bodies
library_init_has B = none_of B builtin.classes

-- ---- classes

-- what is said of each member
abbrev pub AllSaid : (Member → Type 0) → List ClassSyntax → Type 0
AllSaid Said ks = AllByRecursion (λ (k : ClassSyntax). AllByRecursion Said k.members) ks

-- B holds of the block that is made of a member of which it is said, and Own of each statement that initializers and fields with values become
pub record OfMembers (B : kernel.Statement → Type 0) (Own : Setting → ClassSyntax → Role → kernel.Statement → Type 0) (Said : Member → Type 0) : Type 0 where
  pub method : (w : Setting) (h : Header) (result : Option WrittenType) (b : Braced) → Said (source.Method h result (Some b)) → Yields (method_block w h result b) B
  pub written : (w : Setting) (c : ℕ) (k : ClassSyntax) (h : Header) (own : Option OwnCall) (brace : ℕ) (parts : Statements) (end : ℕ) → Said (source.Constructor h own brace parts end) → Yields (constructor_block w c k h own brace parts) B
  pub unwritten : (w : Setting) (c : ℕ) (k : ClassSyntax) → Yields (implied_constructor_block w c k) B
  pub initializer : (w : Setting) (k : ClassSyntax) (role : Role) (is_static : Bool) (b : Braced) → Said (source.Initializer is_static b) → Yields (initializer_block w k role b) (All (Own w k role))
  pub fields : (w : Setting) (c : ℕ) (k : ClassSyntax) (role : Role) (is_static : Bool) (ms : List Placed) (ty : WrittenType) (all : List Declarator) → Said (source.Fields ms ty all) → Yields (field_initials w c is_static ty all) (All (Own w k role))
  pub row : (w : Setting) (k : ClassSyntax) (role : Role) (xs : List kernel.Statement) → All (Own w k role) xs → B (implied w k.name.token role (kernel.Block (row_of xs)))

module _ (B : kernel.Statement → Type 0) (Own : Setting → ClassSyntax → Role → kernel.Statement → Type 0) (Said : Member → Type 0) (made : OfMembers B Own Said) where
  abbrev Has : Option Body → Type 0
  Has = BodyHas B

  abbrev Ends : Body → Type 0
  Ends b = B b.block

  abbrev AllHave : List (Option Body) → Type 0
  AllHave bs = All Has bs

  whole_has : (m : Making) (end : ℕ) (f : Makes kernel.Statement) → Yields f B → Yields (whole m end f) Ends
  whole_has m end f h =
      then_found (resumed m f) (λ p. found.give (body_of p.0 p.1 end)) (λ p. B p.0) Ends (of_resumed m f B h) (λ p i. given Ends (body_of p.0 p.1 end) i)

  record Grows (w : Setting) (k : ClassSyntax) (g : Growth) : Type 0 where
    pub initializer : All (Own w k InitializerBody) g.initializer.parts
    pub fields : All (Own w k FieldsBody) g.fields.parts
    pub bodies : AllHave g.bodies

  grown_so : (P : kernel.Statement → Type 0) (g : Growing) → All P g.parts → (f : Makes (List kernel.Statement)) → Yields f (All P) → Yields (grown g f) (λ x. All P x.parts)
  grown_so P g h f i =
      then_found (resumed g.making f) _ (λ p. All P p.0) (λ x. All P x.parts) (of_resumed g.making f (All P) i) (λ p k.
      given (λ (x : Growing). All P x.parts) (record { making = p.1; parts = g.parts ++ p.0 }) (All-append P g.parts p.0 h k))

  into_initializer : (w : Setting) (k : ClassSyntax) (g : Growth) (f : Makes (List kernel.Statement)) → Grows w k g → Yields f (All (Own w k InitializerBody)) → Yields (in_initializer g f) (Grows w k)
  into_initializer w k g f h i =
      then_found (grown g.initializer f) _ (λ x. All (Own w k InitializerBody) x.parts) (Grows w k) (grown_so (Own w k InitializerBody) g.initializer h.initializer f i) (λ x j.
      given (Grows w k) (record g { initializer = x }) (record { initializer = j; fields = h.fields; bodies = h.bodies }))

  into_fields : (w : Setting) (k : ClassSyntax) (g : Growth) (f : Makes (List kernel.Statement)) → Grows w k g → Yields f (All (Own w k FieldsBody)) → Yields (in_fields g f) (Grows w k)
  into_fields w k g f h i =
      then_found (grown g.fields f) _ (λ x. All (Own w k FieldsBody) x.parts) (Grows w k) (grown_so (Own w k FieldsBody) g.fields h.fields f i) (λ x j.
      given (Grows w k) (record g { fields = x }) (record { initializer = h.initializer; fields = j; bodies = h.bodies }))

  one_more : (w : Setting) (k : ClassSyntax) (g : Growth) (b : Option Body) → Grows w k g → Has b → Grows w k (with_body g b)
  one_more w k g b h i = record { initializer = h.initializer; fields = h.fields; bodies = All-push Has g.bodies b h.bodies i }

  behind_body : (w : Setting) (k : ClassSyntax) (g : Growth) (f : Gets Body) → Grows w k g → Yields f Ends → Yields (λ s. found.onward (λ (b : Body). found.give (with_body g (Some b))) (f s)) (Grows w k)
  behind_body w k g f h i = then_found f (λ (b : Body). found.give (with_body g (Some b))) Ends (Grows w k) i (λ b j. given (Grows w k) (with_body g (Some b)) (one_more w k g (Some b) h j))

  member_has : (w : Setting) (c : ℕ) (k : ClassSyntax) (g : Growth) (m : Member) → Said m → Grows w k g → Yields (member w c k g m) (Grows w k)
  unfolding member
  member_has w c k g (source.Initializer true b) i h = into_initializer w k g (initializer_block w k InitializerBody b) h (made.initializer w k InitializerBody true b i)
  member_has w c k g (source.Initializer false b) i h = into_fields w k g (initializer_block w k FieldsBody b) h (made.initializer w k FieldsBody false b i)
  member_has w c k g (source.Fields ms ty all) i h =
      of_choice (is_static ms) (in_initializer g (field_initials w c true ty all)) (in_fields g (field_initials w c false ty all)) (Grows w k)
      (into_initializer w k g (field_initials w c true ty all) h (made.fields w c k InitializerBody true ms ty all i))
      (into_fields w k g (field_initials w c false ty all) h (made.fields w c k FieldsBody false ms ty all i))
  member_has w c k g (source.Method x result None) i h = given (Grows w k) (with_body g None) (one_more w k g None h tt)
  member_has w c k g (source.Method x result (Some b)) i h =
      behind_body w k g (whole (begun c (not (is_static x.modifiers)) x.name.token) (end_of b) (method_block w x result b)) h
      (whole_has (begun c (not (is_static x.modifiers)) x.name.token) (end_of b) (method_block w x result b) (made.method w x result b i))
  member_has w c k g (source.Constructor x own brace parts end) i h =
      behind_body w k g (whole (begun c true x.name.token) end (constructor_block w c k x own brace parts)) h
      (whole_has (begun c true x.name.token) end (constructor_block w c k x own brace parts) (made.written w c k x own brace parts end i))
  member_has w c k g source.Member.Nothing i h = given (Grows w k) g h
  member_has w c k g source.Member.Unknown i h = given (Grows w k) g h

  members_have : (w : Setting) (c : ℕ) (k : ClassSyntax) (g : Growth) (ms : List Member) → AllByRecursion Said ms → Grows w k g → Yields (members w c k g ms) (Grows w k)
  unfolding members
  members_have w c k g [] i h = given (Grows w k) g h
  members_have w c k g (m ∷ rest) i h =
      then_found (member w c k g m) (λ next. members w c k next rest) (Grows w k) (Grows w k) (member_has w c k g m i.0 h) (λ next x. members_have w c k next rest i.1 x)

  unwritten_has : (w : Setting) (c : ℕ) (k : ClassSyntax) → Yields (implied_constructor w c k) AllHave
  unfolding implied_constructor
  unwritten_has w c k =
      of_choice (declares_constructor k) (found.give []) _ AllHave
      (given AllHave [] (All-nil Has))
      (then_found (whole (begun c true k.name.token) k.name.token (implied_constructor_block w c k)) (λ body. found.give (Some body ∷ [])) Ends AllHave
      (whole_has (begun c true k.name.token) k.name.token (implied_constructor_block w c k) (made.unwritten w c k)) (λ b h. given AllHave (Some b ∷ []) (All-cons Has (Some b) [] h (All-nil Has))))

  record ClassHas (b : ClassBodies) : Type 0 where
    pub bodies : AllHave b.bodies
    pub initializer : Has b.initializer

  none_grows : (w : Setting) (c : ℕ) (k : ClassSyntax) → Grows w k (none_yet c k)
  none_grows w c k = record { initializer = All-nil _; fields = All-nil _; bodies = All-nil Has }

  fields_body_has : (w : Setting) (k : ClassSyntax) (g : Growing) → All (Own w k FieldsBody) g.parts → AllHave (fields_body w k g)
  fields_body_has w k g h = elim (has_fields_unit k) as (λ b. AllHave (if b then Some (implied_body w k FieldsBody g) ∷ [] else [])) [
    | true ↦ All-cons Has (Some (implied_body w k FieldsBody g)) [] (made.row w k FieldsBody g.parts h) (All-nil Has)
    | false ↦ All-nil Has
  ]

  finished_has : (w : Setting) (k : ClassSyntax) (bs : List (Option Body)) (g : Growth) → AllHave bs → Grows w k g → ClassHas (finished w k bs g)
  finished_has w k bs g h i = record {
    bodies = All-append Has (fields_body w k g.fields ++ bs) g.bodies (All-append Has (fields_body w k g.fields) bs (fields_body_has w k g.fields i.fields) h) i.bodies;
    initializer = made.row w k InitializerBody g.initializer.parts i.initializer;
  }

  class_has : (w : Setting) (c : ℕ) (k : ClassSyntax) → AllByRecursion Said k.members → Yields (class_bodies w c k) ClassHas
  unfolding class_bodies
  class_has w c k i =
      of_choice k.is_interface (of_interface w c k) (of_class w c k) ClassHas
      (then_found (members w c k (none_yet c k) k.members) _ (Grows w k) ClassHas (members_have w c k (none_yet c k) k.members i (none_grows w c k)) (λ g h.
      given ClassHas (record { bodies = g.bodies; initializer = None }) (record { bodies = h.bodies; initializer = tt })))
      (then_found (implied_constructor w c k) _ AllHave ClassHas (unwritten_has w c k) (λ bs x.
      then_found (members w c k (none_yet c k) k.members) _ (Grows w k) ClassHas (members_have w c k (none_yet c k) k.members i (none_grows w c k)) (λ g h.
      given ClassHas (finished w k bs g) (finished_has w k bs g x h))))

  -- ---- the program

  record ListsHave (b : Bodies) : Type 0 where
    pub methods : AllHave b.methods
    pub initializers : AllHave b.initializers

  lists_have : (w : Setting) (c : ℕ) (ks : List ClassSyntax) → AllSaid Said ks → Yields (bodies_from w c ks) ListsHave
  unfolding bodies_from
  lists_have w c [] i = given ListsHave no_bodies (record { methods = All-nil Has; initializers = All-nil Has })
  lists_have w c (k ∷ rest) i =
      then_found (class_bodies w c k) _ ClassHas ListsHave (class_has w c k i.0) (λ x h.
      then_found (bodies_from w (suc c) rest) _ ListsHave ListsHave (lists_have w (suc c) rest i.1) (λ xs y.
      given ListsHave (and_more x xs) (record { methods = All-append Has x.bodies xs.methods h.bodies y.methods; initializers = All-cons Has x.initializer xs.initializers h.initializer y.initializers })))

  pub program_has : AllHave library_bodies → (unit : CompilationUnit) (p : Program) → MadeFrom unit p → AllSaid Said (classes_of unit) → AllHave p.bodies × AllHave p.init_bodies
  program_has library unit p m h =
      let all = (lists_have (setting m.judgement m.table unit) first_source_class (classes_of unit) h).by m.texts m.after m.bodies m.made in
      let P : Program → Type 0 = λ q. AllHave q.bodies × AllHave q.init_bodies in
      subst P m.is (All-append Has library_bodies m.bodies.methods library all.methods, All-append Has library_init_bodies m.bodies.initializers (library_init_has B) all.initializers)

-- ---- whatever its members are

abbrev pub AnyMember : Member → Type 0
AnyMember m = Unit {0}

any_members : (ks : List ClassSyntax) → AllSaid AnyMember ks
any_members ks = all_so (λ (k : ClassSyntax). AllByRecursion AnyMember k.members) (λ k. all_so AnyMember (λ m. tt) k.members) ks

pub every_body : (B : kernel.Statement → Type 0) (Own : Setting → ClassSyntax → Role → kernel.Statement → Type 0) → OfMembers B Own AnyMember → BodiesHave B library_bodies →
    (unit : CompilationUnit) (tokens : ℕ) (p : Program) → Elaborates unit tokens (Ok p) → (b : Body) → IsBodyOf p b → B b.block
every_body B Own made library unit tokens p h b c =
    let both = program_has B Own AnyMember made library unit p (made_from unit tokens p h) (any_members (classes_of unit)) in
    All-contains (BodyHas B) (p.bodies ++ p.init_bodies) (Some b) (All-append (BodyHas B) p.bodies p.init_bodies both.0 both.1) c
