-- The grammar: which trees are texts (JLS 18, restated).
use Rattle.std.specs.Prelude.{◌≤◌, ◌≡◌, Bool, true, false, ◌||◌, List, [], ◌∷◌, ◌++◌}
use Rattle.wy_tree.specs.Kinds.{kind_of, same}
use Rattle.wy_tree.specs.Seen.{Tok}
use Rattle.wy_tree.specs.Ast.{Ast, Asts, Leaf, Node, none, more, node, deep}
use Rattle.wy_tree.specs.Conditions.{is_name, fine, joins}
use Rattle.wy_tree.specs.declared.kind.Kind.{Kind}
use Rattle.wy_tree.specs.declared.kind.Kind.TheVariants as kinds
use Rattle.wy_tree.specs.declared.tree.Form.{Form}
use Rattle.wy_tree.specs.declared.tree.Form.TheVariants as form
use Rattle.wy_tree.specs.declared.grammar.Class.{Class}
use Rattle.wy_tree.specs.declared.grammar.Class.TheVariants.{Exactly, Name, Element, Modifying, Setting, Prefixing, Own}
use Rattle.wy_tree.specs.declared.grammar.Sort.{Sort}
use Rattle.wy_tree.specs.declared.grammar.Sort.TheVariants as sorts
use Rattle.wy_tree.specs.declared.grammar.Row.{Row}
use Rattle.wy_tree.specs.declared.grammar.Row.TheVariants as rows
use Rattle.wy_tree.specs.declared.grammar.Item.{Item}
use Rattle.wy_tree.specs.declared.grammar.Item.TheVariants.{One, Part, Parts}

abbrev pub is_own : Kind → Bool
is_own k = same k kinds.This || same k kinds.Super

abbrev pub is_modifying : Kind → Bool
is_modifying k = same k kinds.Modifier || (same k kinds.Static || same k kinds.Final)

abbrev pub is_setting : Kind → Bool
is_setting k = same k kinds.Assign || same k kinds.OpAssign

abbrev pub is_prefixing : Kind → Bool
is_prefixing k = same k kinds.Plus || (same k kinds.Step || same k kinds.Flip)

-- the kinds of a class
abbrev pub allows : Class → Kind → Bool
allows (Exactly j) k = same k j
allows Name k = is_name k
allows Element k = is_name k || same k kinds.Prim
allows Modifying k = is_modifying k
allows Setting k = is_setting k
allows Prefixing k = is_prefixing k
allows Own k = is_own k

-- a token of one kind
abbrev pub a : Kind → Item
a k = One (Exactly k)

abbrev pub name : Item
name = One Name

-- the node that a production makes
abbrev pub form_of : Sort → Form
form_of sorts.Unit = form.Unit
form_of sorts.Declaration = form.Unit
form_of sorts.Class = form.Class
form_of sorts.Interface = form.Interface
form_of sorts.Mod = form.Mod
form_of sorts.Member = form.Member
form_of sorts.Params = form.Params
form_of sorts.Param = form.Param
form_of sorts.Throws = form.Throws
form_of sorts.Result = form.Result
form_of sorts.Type = form.TypeNode
form_of sorts.RefType = form.TypeNode
form_of sorts.Decls = form.Decls
form_of sorts.Decl = form.Decl
form_of sorts.Init = form.Init
form_of sorts.Block = form.Block
form_of sorts.Local = form.Stmt
form_of sorts.Stmt = form.Stmt
form_of sorts.ForInit = form.ForInit
form_of sorts.Catch = form.Catch
form_of sorts.Expr = form.Expr
form_of sorts.Effect = form.Expr
form_of sorts.Cond = form.Cond
form_of sorts.Unary = form.Unary
form_of sorts.Cast = form.Cast
form_of sorts.Operand = form.Unary
form_of sorts.Postfix = form.Postfix
form_of sorts.Primary = form.Primary
form_of sorts.New = form.New
form_of sorts.Args = form.Args
form_of _ = form.Binary

-- the operands of a level of binary operators (JLS 15.17 to 15.24)
abbrev pub tighter : Sort → Sort
tighter sorts.OrElse = sorts.AndAlso
tighter sorts.AndAlso = sorts.Or
tighter sorts.Or = sorts.Xor
tighter sorts.Xor = sorts.And
tighter sorts.And = sorts.Equality
tighter sorts.Equality = sorts.Relation
tighter sorts.Relation = sorts.Shift
tighter sorts.Shift = sorts.Sum
tighter sorts.Sum = sorts.Product
tighter _ = sorts.Unary

-- the binary operators of a level between operands of one sort
abbrev pub operates : Sort → Kind → Bool
operates sorts.OrElse k = same k kinds.OrElse
operates sorts.AndAlso k = same k kinds.AndAlso
operates sorts.Or k = same k kinds.Or
operates sorts.Xor k = same k kinds.Xor
operates sorts.And k = same k kinds.And
operates sorts.Equality k = same k kinds.Equality
operates sorts.Relation k = same k kinds.Relation
operates sorts.Shift k = same k kinds.Shift
operates sorts.Sum k = same k kinds.Plus || same k kinds.Minus
operates sorts.Product k = same k kinds.Times
operates _ k = false

-- the right side of each production
abbrev pub rule : Sort → List Item
rule sorts.Unit = Parts (rows.Any sorts.Declaration) ∷ []
rule sorts.Declaration = Parts rows.Declared ∷ []
rule sorts.Class =
    Parts (rows.Any sorts.Mod) ∷ a kinds.Class ∷ name ∷ Parts rows.Superclass ∷ Parts rows.Interfaces
    ∷ a kinds.OpenBrace ∷ Parts (rows.Any sorts.Member) ∷ a kinds.CloseBrace ∷ []
rule sorts.Interface =
    Parts (rows.Any sorts.Mod) ∷ a kinds.Interface ∷ name ∷ Parts rows.Supers
    ∷ a kinds.OpenBrace ∷ Parts rows.Methods ∷ a kinds.CloseBrace ∷ []
rule sorts.Mod = Parts rows.ModForm ∷ []
rule sorts.Member = Parts rows.MemberForm ∷ []
rule sorts.Params = a kinds.OpenParen ∷ Parts (rows.Series sorts.Param) ∷ a kinds.CloseParen ∷ []
rule sorts.Param = Parts rows.MaybeFinal ∷ Part sorts.Type ∷ name ∷ Parts rows.Brackets ∷ []
rule sorts.Throws = a kinds.Throws ∷ name ∷ Parts rows.Names ∷ []
rule sorts.Result = Parts rows.ResultForm ∷ []
rule sorts.Type = One Element ∷ Parts rows.Brackets ∷ []
rule sorts.RefType = Part sorts.Type ∷ []
rule sorts.Decls = Part sorts.Decl ∷ Parts (rows.Further sorts.Decl) ∷ []
rule sorts.Decl = name ∷ Parts rows.Brackets ∷ Parts rows.Initial ∷ []
rule sorts.Init = Parts rows.InitForm ∷ []
rule sorts.Block = a kinds.OpenBrace ∷ Parts (rows.Any sorts.Local) ∷ a kinds.CloseBrace ∷ []
rule sorts.Local = Parts rows.LocalForm ∷ []
rule sorts.Stmt = Parts rows.StmtForm ∷ []
rule sorts.ForInit = Parts rows.ForInitForm ∷ []
rule sorts.Catch =
    a kinds.Catch ∷ a kinds.OpenParen ∷ Parts rows.MaybeFinal ∷ name ∷ name ∷ a kinds.CloseParen ∷ Part sorts.Block ∷ []
rule sorts.Expr = Part sorts.Cond ∷ Parts rows.Assigned ∷ []
rule sorts.Effect = Part sorts.Expr ∷ []
rule sorts.Cond = Part sorts.OrElse ∷ Parts rows.Choice ∷ []
rule sorts.Unary = Parts rows.UnaryForm ∷ []
rule sorts.Cast = a kinds.OpenParen ∷ Parts rows.CastForm ∷ []
rule sorts.Operand = Part sorts.Unary ∷ []
rule sorts.Postfix = Part sorts.Primary ∷ Parts rows.Steps ∷ []
rule sorts.Primary = Parts rows.PrimaryForm ∷ []
rule sorts.New = a kinds.New ∷ Parts rows.NewForm ∷ []
rule sorts.Args = a kinds.OpenParen ∷ Parts (rows.Series sorts.Expr) ∷ a kinds.CloseParen ∷ []
rule level = Part (tighter level) ∷ []

-- what a row may be
pub data Alternative : Row → List Item → Type 0 where
  none_of : {x : Sort} → Alternative (rows.Any x) []
  some_of : {x : Sort} → Alternative (rows.Any x) (Part x ∷ Parts (rows.Any x) ∷ [])
  absent : {x : Sort} → Alternative (rows.Maybe x) []
  present : {x : Sort} → Alternative (rows.Maybe x) (Part x ∷ [])
  no_series : {x : Sort} → Alternative (rows.Series x) []
  series : {x : Sort} → Alternative (rows.Series x) (Part x ∷ Parts (rows.Further x) ∷ [])
  no_further : {x : Sort} → Alternative (rows.Further x) []
  further : {x : Sort} → Alternative (rows.Further x) (a kinds.Comma ∷ Part x ∷ Parts (rows.Further x) ∷ [])
  no_names : Alternative rows.Names []
  names : Alternative rows.Names (a kinds.Comma ∷ name ∷ Parts rows.Names ∷ [])
  no_brackets : Alternative rows.Brackets []
  brackets : Alternative rows.Brackets (a kinds.OpenBracket ∷ a kinds.CloseBracket ∷ Parts rows.Brackets ∷ [])
  not_final : Alternative rows.MaybeFinal []
  is_final : Alternative rows.MaybeFinal (a kinds.Final ∷ [])
  -- declarations
  a_class : Alternative rows.Declared (Part sorts.Class ∷ [])
  an_interface : Alternative rows.Declared (Part sorts.Interface ∷ [])
  nothing : Alternative rows.Declared (a kinds.Semicolon ∷ [])
  no_superclass : Alternative rows.Superclass []
  superclass : Alternative rows.Superclass (a kinds.Extends ∷ name ∷ [])
  no_interfaces : Alternative rows.Interfaces []
  interfaces : Alternative rows.Interfaces (a kinds.Implements ∷ name ∷ Parts rows.Names ∷ [])
  no_supers : Alternative rows.Supers []
  supers : Alternative rows.Supers (a kinds.Extends ∷ name ∷ Parts rows.Names ∷ [])
  no_methods : Alternative rows.Methods []
  no_method : Alternative rows.Methods (a kinds.Semicolon ∷ Parts rows.Methods ∷ [])
  method : Alternative rows.Methods
      (Parts (rows.Any sorts.Mod) ∷ Part sorts.Result ∷ name ∷ Part sorts.Params ∷ Parts (rows.Maybe sorts.Throws) ∷ a kinds.Semicolon ∷ Parts rows.Methods ∷ [])
  modifier : Alternative rows.ModForm (One Modifying ∷ [])
  annotation : Alternative rows.ModForm (a kinds.At ∷ a kinds.Override ∷ [])
  -- members
  no_member : Alternative rows.MemberForm (a kinds.Semicolon ∷ [])
  initializer : Alternative rows.MemberForm (Part sorts.Block ∷ [])
  static_initializer : Alternative rows.MemberForm (a kinds.Static ∷ Part sorts.Block ∷ [])
  a_member : Alternative rows.MemberForm (Parts (rows.Any sorts.Mod) ∷ Parts rows.MemberTail ∷ [])
  fields : Alternative rows.MemberTail (Part sorts.Type ∷ Part sorts.Decls ∷ a kinds.Semicolon ∷ [])
  a_method : Alternative rows.MemberTail (Part sorts.Result ∷ name ∷ Part sorts.Params ∷ Parts (rows.Maybe sorts.Throws) ∷ Parts rows.MethodBody ∷ [])
  a_constructor : Alternative rows.MemberTail
      (name ∷ Part sorts.Params ∷ Parts (rows.Maybe sorts.Throws) ∷ a kinds.OpenBrace ∷ Parts rows.OwnCall ∷ Parts (rows.Any sorts.Local) ∷ a kinds.CloseBrace ∷ [])
  with_body : Alternative rows.MethodBody (Part sorts.Block ∷ [])
  without_body : Alternative rows.MethodBody (a kinds.Semicolon ∷ [])
  no_own_call : Alternative rows.OwnCall []
  own_call : Alternative rows.OwnCall (One Own ∷ Part sorts.Args ∷ a kinds.Semicolon ∷ [])
  no_result : Alternative rows.ResultForm (a kinds.Void ∷ [])
  a_result : Alternative rows.ResultForm (Part sorts.Type ∷ [])
  no_initial : Alternative rows.Initial []
  initial : Alternative rows.Initial (a kinds.Assign ∷ Part sorts.Init ∷ [])
  -- A comma may stand behind the last element, and alone.
  a_value : Alternative rows.InitForm (Part sorts.Expr ∷ [])
  an_array : Alternative rows.InitForm (a kinds.OpenBrace ∷ Parts rows.Elements ∷ a kinds.CloseBrace ∷ [])
  no_elements : Alternative rows.Elements []
  comma_alone : Alternative rows.Elements (a kinds.Comma ∷ [])
  elements : Alternative rows.Elements (Part sorts.Init ∷ Parts rows.MoreElements ∷ [])
  no_more_elements : Alternative rows.MoreElements []
  more_elements : Alternative rows.MoreElements (a kinds.Comma ∷ Parts rows.AfterComma ∷ [])
  comma_last : Alternative rows.AfterComma []
  comma_between : Alternative rows.AfterComma (Part sorts.Init ∷ Parts rows.MoreElements ∷ [])
  -- statements
  a_declaration : Alternative rows.LocalForm (Parts rows.MaybeFinal ∷ Part sorts.Type ∷ Part sorts.Decls ∷ a kinds.Semicolon ∷ [])
  a_statement : Alternative rows.LocalForm (Part sorts.Stmt ∷ [])
  a_block : Alternative rows.StmtForm (Part sorts.Block ∷ [])
  empty : Alternative rows.StmtForm (a kinds.Semicolon ∷ [])
  an_effect : Alternative rows.StmtForm (Part sorts.Effect ∷ a kinds.Semicolon ∷ [])
  an_if : Alternative rows.StmtForm (a kinds.If ∷ a kinds.OpenParen ∷ Part sorts.Expr ∷ a kinds.CloseParen ∷ Part sorts.Stmt ∷ Parts rows.Otherwise ∷ [])
  a_while : Alternative rows.StmtForm (a kinds.While ∷ a kinds.OpenParen ∷ Part sorts.Expr ∷ a kinds.CloseParen ∷ Part sorts.Stmt ∷ [])
  a_do : Alternative rows.StmtForm
      (a kinds.Do ∷ Part sorts.Stmt ∷ a kinds.While ∷ a kinds.OpenParen ∷ Part sorts.Expr ∷ a kinds.CloseParen ∷ a kinds.Semicolon ∷ [])
  a_for : Alternative rows.StmtForm
      (a kinds.For ∷ a kinds.OpenParen ∷ Parts (rows.Maybe sorts.ForInit) ∷ a kinds.Semicolon ∷ Parts (rows.Maybe sorts.Expr) ∷ a kinds.Semicolon
      ∷ Parts (rows.Series sorts.Effect) ∷ a kinds.CloseParen ∷ Part sorts.Stmt ∷ [])
  labelled : Alternative rows.StmtForm (name ∷ a kinds.Colon ∷ Part sorts.Stmt ∷ [])
  a_break : Alternative rows.StmtForm (a kinds.Break ∷ Parts rows.Label ∷ a kinds.Semicolon ∷ [])
  a_continue : Alternative rows.StmtForm (a kinds.Continue ∷ Parts rows.Label ∷ a kinds.Semicolon ∷ [])
  a_return : Alternative rows.StmtForm (a kinds.Return ∷ Parts (rows.Maybe sorts.Expr) ∷ a kinds.Semicolon ∷ [])
  a_throw : Alternative rows.StmtForm (a kinds.Throw ∷ Part sorts.Expr ∷ a kinds.Semicolon ∷ [])
  a_try : Alternative rows.StmtForm (a kinds.Try ∷ Part sorts.Block ∷ Parts rows.Handlers ∷ [])
  no_else : Alternative rows.Otherwise []
  an_else : Alternative rows.Otherwise (a kinds.Else ∷ Part sorts.Stmt ∷ [])
  no_label : Alternative rows.Label []
  label : Alternative rows.Label (name ∷ [])
  -- A try has a catch or a finally (JLS 14.20).
  catches : Alternative rows.Handlers (Part sorts.Catch ∷ Parts (rows.Any sorts.Catch) ∷ Parts rows.Finally ∷ [])
  only_finally : Alternative rows.Handlers (a kinds.Finally ∷ Part sorts.Block ∷ [])
  no_finally : Alternative rows.Finally []
  finally : Alternative rows.Finally (a kinds.Finally ∷ Part sorts.Block ∷ [])
  for_declaration : Alternative rows.ForInitForm (Parts rows.MaybeFinal ∷ Part sorts.Type ∷ Part sorts.Decls ∷ [])
  for_effects : Alternative rows.ForInitForm (Part sorts.Effect ∷ Parts (rows.Further sorts.Effect) ∷ [])
  -- expressions
  not_assigned : Alternative rows.Assigned []
  assigned : Alternative rows.Assigned (One Setting ∷ Part sorts.Expr ∷ [])
  no_choice : Alternative rows.Choice []
  choice : Alternative rows.Choice (a kinds.Question ∷ Part sorts.Expr ∷ a kinds.Colon ∷ Part sorts.Cond ∷ [])
  negated : Alternative rows.UnaryForm (a kinds.Minus ∷ Parts rows.Negated ∷ [])
  prefixed : Alternative rows.UnaryForm (One Prefixing ∷ Part sorts.Unary ∷ [])
  a_cast : Alternative rows.UnaryForm (Part sorts.Cast ∷ [])
  a_postfix : Alternative rows.UnaryForm (Part sorts.Postfix ∷ [])
  -- The two largest literals stand only here (JLS 3.10.1).
  big : Alternative rows.Negated (a kinds.Big ∷ [])
  small : Alternative rows.Negated (Part sorts.Unary ∷ [])
  to_primitive : Alternative rows.CastForm (a kinds.Prim ∷ a kinds.CloseParen ∷ Part sorts.Unary ∷ [])
  to_reference : Alternative rows.CastForm (Part sorts.RefType ∷ a kinds.CloseParen ∷ Part sorts.Operand ∷ [])
  no_steps : Alternative rows.Steps []
  steps : Alternative rows.Steps (a kinds.Step ∷ Parts rows.Steps ∷ [])
  literal : Alternative rows.PrimaryForm (a kinds.Literal ∷ [])
  this : Alternative rows.PrimaryForm (a kinds.This ∷ [])
  named : Alternative rows.PrimaryForm (name ∷ Parts (rows.Maybe sorts.Args) ∷ [])
  grouped : Alternative rows.PrimaryForm (a kinds.OpenParen ∷ Part sorts.Expr ∷ a kinds.CloseParen ∷ [])
  created : Alternative rows.PrimaryForm (Part sorts.New ∷ [])
  inherited : Alternative rows.PrimaryForm (a kinds.Super ∷ a kinds.Dot ∷ name ∷ Parts (rows.Maybe sorts.Args) ∷ [])
  an_object : Alternative rows.NewForm (name ∷ Part sorts.Args ∷ [])
  sized : Alternative rows.NewForm (One Element ∷ a kinds.OpenBracket ∷ Part sorts.Expr ∷ a kinds.CloseBracket ∷ Parts rows.Dimensions ∷ [])
  listed : Alternative rows.NewForm
      (One Element ∷ a kinds.OpenBracket ∷ a kinds.CloseBracket ∷ Parts rows.Brackets ∷ a kinds.OpenBrace ∷ Parts rows.Elements ∷ a kinds.CloseBrace ∷ [])
  no_dimensions : Alternative rows.Dimensions []
  dimension : Alternative rows.Dimensions (a kinds.OpenBracket ∷ Part sorts.Expr ∷ a kinds.CloseBracket ∷ Parts rows.Dimensions ∷ [])
  unsized : Alternative rows.Dimensions (a kinds.OpenBracket ∷ a kinds.CloseBracket ∷ Parts rows.Brackets ∷ [])

-- What may follow a tree of a sort in a larger tree of that sort, which it begins: binary operators are left-associative.
pub data Suffix : Sort → List Item → Type 0 where
  operator : {x : Sort} {k : Kind} → operates x k ≡ true → Suffix x (a k ∷ Part (tighter x) ∷ [])
  instance_of : Suffix sorts.Relation (a kinds.Instanceof ∷ Part sorts.RefType ∷ [])
  member : Suffix sorts.Primary (a kinds.Dot ∷ name ∷ Parts (rows.Maybe sorts.Args) ∷ [])
  element : Suffix sorts.Primary (a kinds.OpenBracket ∷ Part sorts.Expr ∷ a kinds.CloseBracket ∷ [])

mutual
  -- a tree of a sort
  pub data Is : Sort → Ast → Type 0 where
    made : {x : Sort} {t : Ast} {ts : Asts} → Match (rule x) ts → fine x ts ≡ true → t ≡ node (form_of x) ts → Is x t
    grown : {x : Sort} {t l : Ast} {ts : Asts} {items : List Item} → Is x l → Suffix x items → Match items ts → joins l ts ≡ true
        → t ≡ Node (form_of x) (more l ts) → Is x t

  -- the parts that items stand for
  pub data Match : List Item → Asts → Type 0 where
    done : Match [] none
    token : {c : Class} {o : Tok} {items : List Item} {ts : Asts} → allows c (kind_of o) ≡ true → Match items ts → Match (One c ∷ items) (more (Leaf o) ts)
    part : {x : Sort} {t : Ast} {items : List Item} {ts : Asts} → Is x t → Match items ts → Match (Part x ∷ items) (more t ts)
    chosen : {r : Row} {way items : List Item} {ts : Asts} → Alternative r way → Match (way ++ items) ts → Match (Parts r ∷ items) ts

-- a text's tree, within the limits
abbrev pub WellFormed : Ast → Type 0
WellFormed t = Is sorts.Unit t × (deep t ≤ 300)
