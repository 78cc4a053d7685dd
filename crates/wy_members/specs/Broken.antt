-- The ways in which a declaration breaks a rule, each at its token: that of the name which the rule is about (JLS 8, 9).
use Rattle.std.specs.Prelude.{◌≡◌, ◌⊎◌, ℕ, ◌<◌, Bool, true, false, not, if◌then◌else◌, List, [], ◌∷◌, ◌++◌, map, filter, flat_map, Option, Some, None, is_some, option_map, option_to_list, slice_get, slice_index_or, codes}
use Rattle.std.specs.List.{Contains, list_all, enumerate_from}
use Rattle.wy_kernel.specs.Program.{Class, Method, Field, object_class, first_source_class}
use Rattle.wy_kernel.specs.Builtin.{throwable_class}
use Rattle.wy_kernel.specs.Subtyping.{direct_supertypes, Supertype, Substitutable, class_type}
use Rattle.wy_kernel.specs.Table.{Table}
use Rattle.wy_kernel.specs.declared.types.Ty.{Ty}
use Rattle.wy_syntax.specs.declared.declaration.Modifier.TheVariants as modifier
use Rattle.wy_syntax.specs.Syntax.{Named, WrittenType, Placed, Parameter, Header, Member, ClassSyntax, Declaration, Declared}
use Rattle.wy_syntax.specs.Syntax as syntax
use Rattle.wy_constant.specs.declared.rule.Rule.{Rule}
use Rattle.wy_constant.specs.declared.rule.Rule.TheVariants as rule
use Rattle.wy_overloads.specs.Choice.{Has, Equivalent, Counts, NearestHasBody}
use Rattle.wy_members.specs.Declarations.{CompilationUnit, classes_of, denoted, has, is_abstract_in, table}

-- ---- what stands in a class

abbrev pub header_of : Member → Option Header
header_of (syntax.Method h result body) = Some h
header_of (syntax.Constructor h own_call brace parts end) = Some h
header_of _ = None

abbrev pub constructor_header : Member → Option Header
constructor_header (syntax.Constructor h own_call brace parts end) = Some h
constructor_header _ = None

-- of a method without a body, and of one with a body
abbrev pub header_without_body : Member → Option Header
header_without_body (syntax.Method h result None) = Some h
header_without_body _ = None

abbrev pub header_with_body : Member → Option Header
header_with_body (syntax.Method h result (Some body)) = Some h
header_with_body _ = None

-- the class that a type names, if it names one
abbrev pub named_by : syntax.Base → ℕ → List Named
named_by (syntax.Basic p) token = []
named_by (syntax.Class name) token = record { name = name; token = token } ∷ []

abbrev pub named_in_types : List WrittenType → List Named
named_in_types types = flat_map (λ (ty : WrittenType). named_by ty.base ty.token) types

abbrev pub parameter_types_written : Header → List WrittenType
parameter_types_written h = map (λ (p : Parameter). p.ty) h.params

-- the classes that the types of a member name
abbrev pub named_in : Member → List Named
named_in (syntax.Fields ms ty declarators) = named_in_types (ty ∷ [])
named_in (syntax.Method h result body) = named_in_types (option_to_list result ++ parameter_types_written h)
named_in (syntax.Constructor h own_call brace parts end) = named_in_types (parameter_types_written h)
named_in _ = []

abbrev pub thrown_in : Member → List Named
thrown_in m = flat_map (λ (h : Header). h.throws) (option_to_list (header_of m))

-- each name in a class that has to denote a class or an interface, outside bodies
abbrev pub names_in : ClassSyntax → List Named
names_in k = option_to_list k.above ++ k.interfaces ++ flat_map (λ m. named_in m ++ thrown_in m) k.members

abbrev pub modifiers_of : Member → List Placed
modifiers_of (syntax.Fields ms ty declarators) = ms
modifiers_of (syntax.Method h result body) = h.modifiers
modifiers_of (syntax.Constructor h own_call brace parts end) = h.modifiers
modifiers_of _ = []

-- the modifiers of a class, and those of each member
abbrev pub modifiers_in : ClassSyntax → List (List Placed)
modifiers_in k = k.modifiers ∷ map modifiers_of k.members

-- ---- what is compared

abbrev pub is_known : CompilationUnit → Member → Bool
is_known unit m = list_all (λ (n : Named). is_some (denoted unit n.name)) (named_in m)

abbrev pub with_known_members : CompilationUnit → Declaration → Declaration
with_known_members unit (Declared k) = Declared (record k { members = filter (is_known unit) k.members })
with_known_members unit d = d

-- the unit without the members of unknown types: these are compared with none
abbrev pub known_part : CompilationUnit → CompilationUnit
known_part unit = map (with_known_members unit) unit

abbrev pub is_interface_in : List Class → ℕ → Bool
is_interface_in classes c = slice_index_or (map (λ (k : Class). k.is_interface) classes) c false

-- an interface that a class extends counts as Object, and a class where interfaces are named as absent
abbrev pub with_fitting_supertypes : List Class → Class → Class
with_fitting_supertypes classes k = record k {
  above = option_map (λ d. if is_interface_in classes d then object_class else d) k.above;
  interfaces = filter (is_interface_in classes) k.interfaces;
}

-- what overrides and implements: private methods neither do so nor are overridden, and fields have no part in it
abbrev pub inheriting : Table → Table
inheriting t = record {
  classes = map (with_fitting_supertypes t.classes) t.classes;
  methods = filter (λ (m : Method). not m.is_private) t.methods;
  fields = [];
  constants = [];
}

unfoldable pub compared : CompilationUnit → Table
compared unit = inheriting (table (known_part unit))

-- x stands before y
abbrev pub Precedes : {X : Type 0} → List X → X → X → Type 0
Precedes xs x y = (i : ℕ) × (j : ℕ) × (i < j) × (slice_get xs i ≡ Some x) × (slice_get xs j ≡ Some y)

-- row c of the table
abbrev pub IsRow : Table → ℕ → Class → Type 0
IsRow t c row = slice_get t.classes c ≡ Some row

-- class c as it stands in the text
abbrev pub IsSourceClass : CompilationUnit → ℕ → ClassSyntax → Type 0
IsSourceClass unit c k = Contains (enumerate_from first_source_class (classes_of unit)) (c, k)

-- class c, written as k, has this member
pub record HasMember (unit : CompilationUnit) (c : ℕ) (k : ClassSyntax) (m : Member) : Type 0 where
  pub written : IsSourceClass unit c k
  pub member : Contains k.members m

-- ---- Duplicate

-- no class of the text has these names, whose static members a program may use
abbrev pub reserved_names : List (List ℕ)
reserved_names = codes "System" ∷ codes "Integer" ∷ codes "Long" ∷ codes "Math" ∷ []

pub data IsDuplicate (unit : CompilationUnit) : ℕ → Type 0 where
  -- a class or an interface has the name of an earlier one, or of one of the library (JLS 7.6)
  again_class : {a b : Class} → Precedes (table unit).classes a b → a.name ≡ b.name → IsDuplicate unit b.site
  reserved : {k : ClassSyntax} → Contains (classes_of unit) k → Contains reserved_names k.name.name → IsDuplicate unit k.name.token
  -- a field has the name of an earlier one of its class (JLS 8.3)
  again_field : {a b : Field} → Precedes (table unit).fields a b → a.class ≡ b.class → a.name ≡ b.name → IsDuplicate unit b.site
  -- a method has the name and the parameter types of an earlier one of its class; each constructor has the name `new` (JLS 8.4.2, 8.8.2)
  again_method : {a b : Method} → Precedes (table (known_part unit)).methods a b → a.class ≡ b.class → a.name ≡ b.name → a.params ≡ b.params → IsDuplicate unit b.site
  -- a parameter has the name of an earlier one (JLS 8.4.1, 8.8.1)
  again_parameter : {c : ℕ} {k : ClassSyntax} {m : Member} {h : Header} {a b : Parameter} → HasMember unit c k m → header_of m ≡ Some h → Precedes h.params a b → a.name.name ≡ b.name.name → IsDuplicate unit b.name.token
  -- a modifier or `@Override` stands twice (JLS 8.1.1, 8.3.1, 8.4.3, 8.8.3, 9.1.1, 9.7.5)
  again_modifier : {k : ClassSyntax} {ms : List Placed} {a b : Placed} → Contains (classes_of unit) k → Contains (modifiers_in k) ms → Precedes ms a b → a.modifier ≡ b.modifier → IsDuplicate unit b.token

-- ---- UnknownName

pub data IsUnknownName (unit : CompilationUnit) : ℕ → Type 0 where
  -- a name denotes no class or interface (JLS 6.5.5)
  unknown_class : {k : ClassSyntax} {n : Named} → Contains (classes_of unit) k → Contains (names_in k) n → denoted unit n.name ≡ None → IsUnknownName unit n.token
  -- a constructor has another name than its class (JLS 8.8)
  unknown_constructor : {c : ℕ} {k : ClassSyntax} {m : Member} {h : Header} → HasMember unit c k m → constructor_header m ≡ Some h → (h.name.name ≡ k.name.name → ⊥) → IsUnknownName unit h.name.token

-- ---- Cycle

-- class c is above one that it extends or implements
abbrev pub IsAboveItself : List Class → ℕ → Type 0
IsAboveItself classes c = (d : ℕ) × Contains (direct_supertypes classes c) d × Supertype classes d c

pub data IsCycle (unit : CompilationUnit) : ℕ → Type 0 where
  -- a class or an interface is above itself (JLS 8.1.4, 9.1.3)
  above_itself : {c : ℕ} {row : Class} → IsRow (table unit) c row → IsAboveItself (table unit).classes c → IsCycle unit row.site

-- no class at or above class c is above itself: the rules below judge these classes alone
abbrev pub IsJudged : CompilationUnit → ℕ → Type 0
IsJudged unit c = (d : ℕ) → Supertype (table unit).classes c d → IsAboveItself (table unit).classes d → ⊥

-- ---- BadOverride: the supertypes of a class

-- class c, written as k, extends class d with this row
pub record Extends (unit : CompilationUnit) (c : ℕ) (k : ClassSyntax) (d : ℕ) (row : Class) : Type 0 where
  pub name : Named
  pub written : IsSourceClass unit c k
  pub clause : k.above ≡ Some name
  pub denotes : denoted unit name.name ≡ Some d
  pub found : IsRow (table unit) d row

-- class c, written as k, implements class d with this row, or extends it as an interface does
pub record Implements (unit : CompilationUnit) (c : ℕ) (k : ClassSyntax) (d : ℕ) (row : Class) : Type 0 where
  pub name : Named
  pub written : IsSourceClass unit c k
  pub clause : Contains k.interfaces name
  pub denotes : denoted unit name.name ≡ Some d
  pub found : IsRow (table unit) d row

pub data HasWrongSupertype (unit : CompilationUnit) (c : ℕ) : ℕ → Type 0 where
  -- a class extends an interface (JLS 8.1.4)
  extends_interface : {k : ClassSyntax} {d : ℕ} {row : Class} → Extends unit c k d row → row.is_interface ≡ true → HasWrongSupertype unit c k.name.token
  -- a class implements a class, or an interface extends one (JLS 8.1.5, 9.1.3)
  implements_class : {k : ClassSyntax} {d : ℕ} {row : Class} → Implements unit c k d row → row.is_interface ≡ false → HasWrongSupertype unit c k.name.token
  -- a class extends a final one (JLS 8.1.1.2)
  extends_final : {k : ClassSyntax} {d : ℕ} {row : Class} → Extends unit c k d row → row.is_final ≡ true → HasWrongSupertype unit c k.name.token
  -- a class extends one of the library that is neither Object nor a Throwable
  extends_library : {k : ClassSyntax} {d : ℕ} {row : Class} → Extends unit c k d row → d < first_source_class → (d ≡ object_class → ⊥) → (Supertype (table unit).classes d throwable_class → ⊥) → HasWrongSupertype unit c k.name.token

-- ---- BadOverride: the methods of a class

-- method m of class c overrides or hides method k, which another class declares (JLS 8.4.8.1, 8.4.8.2, 9.4.1)
pub record Overrides (t : Table) (c : ℕ) (m : Method) (k : ℕ) (other : Method) : Type 0 where
  pub method : Contains t.methods m
  pub own : m.class ≡ c
  pub same : Equivalent t (class_type c) m k other
  pub elsewhere : other.class ≡ c → ⊥

-- class c has method k, and declares none with its name and parameter types (JLS 8.4.8, 9.4.1)
pub record Inherits (t : Table) (c k : ℕ) (m : Method) : Type 0 where
  pub has : Has t (class_type c) m.name k m
  pub undeclared : (j : ℕ) (other : Method) → Equivalent t (class_type c) m j other → other.class ≡ c → ⊥

-- the result of m may stand for that of each equivalent method
abbrev pub StandsForEach : Table → Ty → Method → Type 0
StandsForEach t type m = (j : ℕ) (other : Method) → Equivalent t type m j other → Substitutable t.classes m.result other.result

-- of the methods equivalent to m none both counts and has a result that may stand for theirs
abbrev pub HasNoCommonResult : Table → Ty → Method → Type 0
HasNoCommonResult t type m = (j : ℕ) (other : Method) → Equivalent t type m j other → Counts t type j other → StandsForEach t type other → ⊥

pub data HasWrongMethod (t : Table) (c : ℕ) : ℕ → Type 0 where
  -- a method's result may not stand for that of one which it overrides or hides (JLS 8.4.8.3)
  wrong_result : {k : ℕ} {m other : Method} → Overrides t c m k other → (Substitutable t.classes m.result other.result → ⊥) → HasWrongMethod t c m.site
  -- a static method against one of an instance (JLS 8.4.8.1, 8.4.8.2)
  static_against_instance : {k : ℕ} {m other : Method} → Overrides t c m k other → (m.form ≡ other.form → ⊥) → HasWrongMethod t c m.site
  -- a method overrides or hides a final one (JLS 8.4.3.3)
  overrides_final : {k : ℕ} {m other : Method} → Overrides t c m k other → other.is_final ≡ true → HasWrongMethod t c m.site
  -- of methods that a class inherits, the one that counts has no result that may stand for all of theirs, or none counts (JLS 8.4.8.4, 9.4.1.3)
  inherited_results : {row : Class} {k : ℕ} {m : Method} → IsRow t c row → Inherits t c k m → HasNoCommonResult t (class_type c) m → HasWrongMethod t c row.site
  -- a class inherits a static method and one of an instance, of one name and the same parameter types (JLS 8.4.8.4)
  inherited_static : {row : Class} {k : ℕ} {m other : Method} (j : ℕ) → IsRow t c row → Inherits t c k m → Equivalent t (class_type c) m j other → (m.form ≡ other.form → ⊥) → HasWrongMethod t c row.site

-- ---- NotImplemented

pub data IsNotImplemented (unit : CompilationUnit) (c : ℕ) : ℕ → Type 0 where
  -- a class that isn't abstract declares an abstract method (JLS 8.1.1.1)
  declares_abstract : {row : Class} {m : Method} → IsRow (table unit) c row → row.is_abstract ≡ false → Contains (table unit).methods m → m.class ≡ c → m.is_abstract ≡ true → IsNotImplemented unit c m.site
  -- a class that isn't abstract inherits an abstract method, and the nearest class that declares one like it has no body for it, or
  -- no class declares one (JLS 8.1.1.1, 8.4.8.1)
  left_in : {row : Class} {k : ℕ} {m : Method} → IsRow (compared unit) c row → row.is_abstract ≡ false → Inherits (compared unit) c k m → (NearestHasBody (compared unit) (class_type c) m → ⊥) → m.is_abstract ≡ true → IsNotImplemented unit c row.site
  -- a method that isn't abstract has no body (JLS 8.4.7)
  body_missing : {k : ClassSyntax} {m : Member} {h : Header} → HasMember unit c k m → header_without_body m ≡ Some h → is_abstract_in k h ≡ false → IsNotImplemented unit c h.name.token
  -- an abstract method has a body (JLS 8.4.7)
  body_too_much : {k : ClassSyntax} {m : Member} {h : Header} → HasMember unit c k m → header_with_body m ≡ Some h → is_abstract_in k h ≡ true → IsNotImplemented unit c h.name.token
  -- a constructor, which has a body, is abstract (JLS 8.8.3)
  abstract_constructor : {k : ClassSyntax} {m : Member} {h : Header} → HasMember unit c k m → constructor_header m ≡ Some h → has modifier.Abstract h.modifiers ≡ true → IsNotImplemented unit c h.name.token
  -- a static or a private method has no body (JLS 8.4.3.1, 9.4)
  static_without_body : {k : ClassSyntax} {m : Member} {h : Header} → HasMember unit c k m → header_without_body m ≡ Some h → has modifier.Static h.modifiers ≡ true → IsNotImplemented unit c h.name.token
  private_without_body : {k : ClassSyntax} {m : Member} {h : Header} → HasMember unit c k m → header_without_body m ≡ Some h → has modifier.Private h.modifiers ≡ true → IsNotImplemented unit c h.name.token

-- ---- all rules on declarations

-- the rule is broken at the token
abbrev pub Breaks : CompilationUnit → Rule → ℕ → Type 0
Breaks unit rule.Duplicate token = IsDuplicate unit token
Breaks unit rule.UnknownName token = IsUnknownName unit token
Breaks unit rule.Cycle token = IsCycle unit token
Breaks unit rule.BadOverride token = (c : ℕ) × IsJudged unit c × (HasWrongSupertype unit c token ⊎ HasWrongMethod (compared unit) c token)
Breaks unit rule.NotImplemented token = (c : ℕ) × IsJudged unit c × IsNotImplemented unit c token
Breaks unit _ token = ⊥
