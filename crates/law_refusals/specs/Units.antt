-- That something in a class or in a whole program breaks a rule (JLS 7.3, 8, 12.1.4).
use Rattle.std.specs.Prelude.{◌≡◌, ℕ, true, false, not, List, ◌∷◌, Option, Some, None, Ok}
use Rattle.std.specs.List.{All, Contains}
use Rattle.wy_kernel.specs.Table.{Table}
use Rattle.wy_syntax.specs.Syntax.{WrittenType, Declarator, Placed, OwnCall, Header, Braced, Statements, Member, ClassSyntax}
use Rattle.wy_syntax.specs.Syntax as source
use Rattle.wy_constant.specs.declared.rule.Rule.{Rule}
use Rattle.wy_constant.specs.declared.rule.Rule.TheVariants as rule
use Rattle.wy_constant.specs.Scope.{FixedText, body_of}
use Rattle.wy_members.specs.Declarations.{CompilationUnit, classes_of}
use Rattle.wy_members.specs.Broken.{IsSourceClass, Breaks}
use Rattle.wy_members.specs.Refusal.{KeepsRules}
use Rattle.wy_members.specs.Constants.{IsTableOf}
use Rattle.wy_elab_expr.specs.Operators.{Judgement, Settles}
use Rattle.wy_elab_body.specs.declared.place.Role.TheVariants.{InitializerBody, FieldsBody}
use Rattle.wy_elab_body.specs.Places.{declares_constructor}
use Rattle.wy_elab_body.specs.Statements.{Setting}
use Rattle.wy_elab_body.specs.Bodies.{Growth, around_initializer}
use Rattle.wy_elab_stmt.specs.Classes.{is_static, member, none_yet}
use Rattle.wy_elab_stmt.specs.Program.{is_main, setting}
use Rattle.law_refusals.specs.Members.{IsBrokenMethod, IsBrokenConstructor, HasBadStart, HasBadField, IsBrokenBlock}

-- ---- classes

-- the member leads from what its class is so far to what it is then
pub record Grows (w : Setting) (c : ℕ) (k : ClassSyntax) (g : Growth) (m : Member) (next : Growth) : Type 0 where
  pub before : List FixedText
  pub after : List FixedText
  pub made : member w c k g m before ≡ Ok (next, after)

-- one of the members, behind what leads to the class so far
pub data InMembers (w : Setting) (c : ℕ) (k : ClassSyntax) : Growth → List Member → Growth → Member → Type 0 where
  here : {g : Growth} {m : Member} {rest : List Member} → InMembers w c k g (m ∷ rest) g m
  later : {g next there : Growth} {other m : Member} {rest : List Member} → Grows w c k g other next → InMembers w c k next rest there m → InMembers w c k g (other ∷ rest) there m

-- something in a member of class c, written as k and so far as it is, breaks the rule at the token
pub data IsBrokenMember (w : Setting) (c : ℕ) (k : ClassSyntax) (g : Growth) : Member → Rule → ℕ → Type 0 where
  of_method : {h : Header} {result : Option WrittenType} {b : Braced} {r : Rule} {token : ℕ} → IsBrokenMethod w (body_of c (not (is_static h.modifiers))) h result b r token → IsBrokenMember w c k g (source.Method h result (Some b)) r token
  of_constructor : {h : Header} {own : Option OwnCall} {brace end : ℕ} {parts : Statements} {r : Rule} {token : ℕ} → IsBrokenConstructor w (body_of c true) c k h own brace parts r token →
      IsBrokenMember w c k g (source.Constructor h own brace parts end) r token
  of_static_block : {b : Braced} {r : Rule} {token : ℕ} → IsBrokenBlock w (around_initializer w k InitializerBody) g.initializer.making.scope b r token → IsBrokenMember w c k g (source.Initializer true b) r token
  of_block : {b : Braced} {r : Rule} {token : ℕ} → IsBrokenBlock w (around_initializer w k FieldsBody) g.fields.making.scope b r token → IsBrokenMember w c k g (source.Initializer false b) r token
  of_static_fields : {modifiers : List Placed} {ty : WrittenType} {all : List Declarator} {r : Rule} {token : ℕ} → is_static modifiers ≡ true → HasBadField w c true ty g.initializer.making.scope all r token →
      IsBrokenMember w c k g (source.Fields modifiers ty all) r token
  of_fields : {modifiers : List Placed} {ty : WrittenType} {all : List Declarator} {r : Rule} {token : ℕ} → is_static modifiers ≡ false → HasBadField w c false ty g.fields.making.scope all r token →
      IsBrokenMember w c k g (source.Fields modifiers ty all) r token

-- something in the bodies of class c, written as k, breaks the rule at the token
pub data IsBrokenClass (w : Setting) (c : ℕ) (k : ClassSyntax) (r : Rule) (token : ℕ) : Type 0 where
  -- the constructor of a class that declares none (JLS 8.8.9)
  implied : k.is_interface ≡ false → declares_constructor k ≡ false → HasBadStart w (body_of c true) c k.name.token None r token → IsBrokenClass w c k r token
  of_member : {g : Growth} {m : Member} → InMembers w c k (none_yet c k) k.members g m → IsBrokenMember w c k g m r token → IsBrokenClass w c k r token

-- ---- programs

-- the member is `public static void main(String[])` with a body
pub data IsMain (unit : CompilationUnit) : Member → Type 0 where
  main : {h : Header} {b : Braced} → is_main unit h ≡ true → IsMain unit (source.Method h None (Some b))

-- no class of the text has a main
abbrev pub HasNoMain : CompilationUnit → Type 0
HasNoMain unit = (k : ClassSyntax) (m : Member) → Contains (classes_of unit) k → Contains k.members m → IsMain unit m → ⊥

-- something in the program, of so many tokens, breaks the rule at the token
pub data IsBrokenUnit (unit : CompilationUnit) (tokens : ℕ) : Rule → ℕ → Type 0 where
  -- a declaration (JLS 8, 9)
  of_declaration : {r : Rule} {token : ℕ} → Breaks unit r token → IsBrokenUnit unit tokens r token
  -- a body of a class, where the declarations keep the rules and the table of the program settles the rest
  of_body : {t : Table} {j : Judgement} {c : ℕ} {k : ClassSyntax} {r : Rule} {token : ℕ} → KeepsRules unit → IsTableOf unit t → Settles t j → IsSourceClass unit c k → IsBrokenClass (setting j t unit) c k r token →
      IsBrokenUnit unit tokens r token
  -- no class has a main (JLS 12.1.4)
  no_main : HasNoMain unit → IsBrokenUnit unit tokens rule.NoMain tokens
