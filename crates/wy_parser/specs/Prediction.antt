-- The way that a text takes at each choice of the grammar, by its next tokens.
use Rattle.std.specs.Prelude.{Bool, true, false, not, ◌&&◌, ◌||◌, if◌then◌else◌, List, [], ◌∷◌, Option, Some, None}
use Rattle.wy_tree.specs.Seen.{Tok}
use Rattle.wy_tree.specs.Kinds.{kind_of, same}
use Rattle.wy_tree.specs.Conditions.{is_name}
use Rattle.wy_tree.specs.Grammar.{a, name, tighter, operates, is_own, is_modifying, is_setting, is_prefixing}
use Rattle.wy_tree.specs.declared.kind.Kind.{Kind}
use Rattle.wy_tree.specs.declared.kind.Kind.TheVariants as kinds
use Rattle.wy_tree.specs.declared.grammar.Class.TheVariants.{Element, Modifying, Setting, Prefixing, Own}
use Rattle.wy_tree.specs.declared.grammar.Sort.{Sort}
use Rattle.wy_tree.specs.declared.grammar.Sort.TheVariants as sorts
use Rattle.wy_tree.specs.declared.grammar.Row.{Row}
use Rattle.wy_tree.specs.declared.grammar.Row.TheVariants as rows
use Rattle.wy_tree.specs.declared.grammar.Item.{Item}
use Rattle.wy_tree.specs.declared.grammar.Item.TheVariants.{One, Part, Parts}

-- the kind of the first, the second and the third token
abbrev pub first_kind : List Tok → Kind
first_kind [] = kinds.Nothing
first_kind (o ∷ s) = kind_of o

abbrev pub rest : List Tok → List Tok
rest [] = []
rest (o ∷ s) = s

abbrev pub second : List Tok → Kind
second s = first_kind (rest s)

abbrev pub third : List Tok → Kind
third s = first_kind (rest (rest s))

-- the tokens behind modifiers
unfoldable pub past_modifiers : List Tok → List Tok
past_modifiers [] = []
past_modifiers (o ∷ []) = if is_modifying (kind_of o) then [] else o ∷ []
past_modifiers (o ∷ (o' ∷ s)) =
    if is_modifying (kind_of o) then past_modifiers (o' ∷ s) else
    (if same (kind_of o) kinds.At && same (kind_of o') kinds.Override then past_modifiers s else o ∷ (o' ∷ s))

-- the tokens behind pairs of brackets
unfoldable pub past_pairs : List Tok → List Tok
past_pairs [] = []
past_pairs (o ∷ []) = o ∷ []
past_pairs (o ∷ (o' ∷ s)) = if same (kind_of o) kinds.OpenBracket && same (kind_of o') kinds.CloseBracket then past_pairs s else o ∷ (o' ∷ s)

-- a primitive type or a name
abbrev pub is_element : Kind → Bool
is_element k = is_name k || same k kinds.Prim

-- a name and a parameter list
abbrev pub names_method : List Tok → Bool
names_method s = is_name (first_kind s) && same (second s) kinds.OpenParen

-- a parameter list behind a type and a name, or void
unfoldable pub heads_method : List Tok → Bool
heads_method s = same (first_kind s) kinds.Void || (is_element (first_kind s) && names_method (past_pairs (rest s)))

unfoldable pub heads_interface : List Tok → Bool
heads_interface s = same (first_kind (past_modifiers s)) kinds.Interface

unfoldable pub declares : List Tok → Bool
declares s =
    (same (first_kind s) kinds.Final || same (first_kind s) kinds.Prim)
    || (is_name (first_kind s) && (is_name (second s) || (same (second s) kinds.OpenBracket && same (third s) kinds.CloseBracket)))

-- what the operand of a cast to a name begins with (JLS 15.16)
abbrev pub begins_operand : Kind → Bool
begins_operand kinds.Word = true
begins_operand kinds.Override = true
begins_operand kinds.Literal = true
begins_operand kinds.This = true
begins_operand kinds.Super = true
begins_operand kinds.New = true
begins_operand kinds.OpenParen = true
begins_operand kinds.Flip = true
begins_operand _ = false

unfoldable pub casts_to_name : List Tok → Bool
casts_to_name s = (same (first_kind s) kinds.OpenBracket && same (second s) kinds.CloseBracket) || (same (first_kind s) kinds.CloseParen && begins_operand (second s))

-- `(` and a primitive type, or a name in brackets, or a name and `)` before an operand
unfoldable pub casts : List Tok → Bool
casts s = same (first_kind s) kinds.OpenParen && (same (second s) kinds.Prim || (is_name (second s) && casts_to_name (rest (rest s))))

-- whether one more comes
abbrev pub comes : Sort → Kind → Bool
comes sorts.Declaration k = not (same k kinds.Nothing)
comes sorts.Mod k = is_modifying k || same k kinds.At
comes sorts.Catch k = same k kinds.Catch
comes _ k = not (same k kinds.CloseBrace)

-- whether it is there
abbrev pub is_there : Sort → Kind → Bool
is_there sorts.Throws k = same k kinds.Throws
is_there sorts.Args k = same k kinds.OpenParen
is_there _ k = not (same k kinds.Semicolon)

-- a row that is there exactly where its first token is
abbrev pub begun : Bool → List Item → List Item
begun b items = if b then items else []

unfoldable pub predict_list : Row → List Tok → List Item
predict_list (rows.Any x) s = begun (comes x (first_kind s)) (Part x ∷ Parts (rows.Any x) ∷ [])
predict_list (rows.Maybe x) s = begun (is_there x (first_kind s)) (Part x ∷ [])
predict_list (rows.Series x) s = begun (not (same (first_kind s) kinds.CloseParen)) (Part x ∷ Parts (rows.Further x) ∷ [])
predict_list (rows.Further x) s = begun (same (first_kind s) kinds.Comma) (a kinds.Comma ∷ Part x ∷ Parts (rows.Further x) ∷ [])
predict_list rows.Names s = begun (same (first_kind s) kinds.Comma) (a kinds.Comma ∷ name ∷ Parts rows.Names ∷ [])
predict_list rows.Brackets s = begun (same (first_kind s) kinds.OpenBracket) (a kinds.OpenBracket ∷ a kinds.CloseBracket ∷ Parts rows.Brackets ∷ [])
predict_list _ s = begun (same (first_kind s) kinds.Final) (a kinds.Final ∷ [])

unfoldable pub predict_method : List Tok → List Item
predict_method s =
    if same (first_kind s) kinds.CloseBrace then [] else
    (if same (first_kind s) kinds.Semicolon then a kinds.Semicolon ∷ Parts rows.Methods ∷ [] else
    Parts (rows.Any sorts.Mod) ∷ Part sorts.Result ∷ name ∷ Part sorts.Params ∷ Parts (rows.Maybe sorts.Throws) ∷ a kinds.Semicolon ∷ Parts rows.Methods ∷ [])

unfoldable pub predict_declared : List Tok → List Item
predict_declared s =
    if same (first_kind s) kinds.Semicolon then a kinds.Semicolon ∷ [] else
    (if heads_interface s then Part sorts.Interface ∷ [] else Part sorts.Class ∷ [])

unfoldable pub predict_declaration : Row → List Tok → List Item
predict_declaration rows.Declared s = predict_declared s
predict_declaration rows.Superclass s = begun (same (first_kind s) kinds.Extends) (a kinds.Extends ∷ name ∷ [])
predict_declaration rows.Interfaces s = begun (same (first_kind s) kinds.Implements) (a kinds.Implements ∷ name ∷ Parts rows.Names ∷ [])
predict_declaration rows.Supers s = begun (same (first_kind s) kinds.Extends) (a kinds.Extends ∷ name ∷ Parts rows.Names ∷ [])
predict_declaration rows.Methods s = predict_method s
predict_declaration _ s = if same (first_kind s) kinds.At then a kinds.At ∷ a kinds.Override ∷ [] else One Modifying ∷ []

unfoldable pub predict_member_form : List Tok → List Item
predict_member_form s =
    if same (first_kind s) kinds.Semicolon then a kinds.Semicolon ∷ [] else
    (if same (first_kind s) kinds.OpenBrace then Part sorts.Block ∷ [] else
    (if same (first_kind s) kinds.Static && same (second s) kinds.OpenBrace then a kinds.Static ∷ Part sorts.Block ∷ [] else
    Parts (rows.Any sorts.Mod) ∷ Parts rows.MemberTail ∷ []))

unfoldable pub predict_member_tail : List Tok → List Item
predict_member_tail s =
    if is_name (first_kind s) && same (second s) kinds.OpenParen then
    name ∷ Part sorts.Params ∷ Parts (rows.Maybe sorts.Throws) ∷ a kinds.OpenBrace ∷ Parts rows.OwnCall ∷ Parts (rows.Any sorts.Local) ∷ a kinds.CloseBrace ∷ [] else
    (if heads_method s then Part sorts.Result ∷ name ∷ Part sorts.Params ∷ Parts (rows.Maybe sorts.Throws) ∷ Parts rows.MethodBody ∷ [] else
    Part sorts.Type ∷ Part sorts.Decls ∷ a kinds.Semicolon ∷ [])

unfoldable pub predict_member : Row → List Tok → List Item
predict_member rows.MemberForm s = predict_member_form s
predict_member rows.MemberTail s = predict_member_tail s
predict_member rows.MethodBody s = if same (first_kind s) kinds.Semicolon then a kinds.Semicolon ∷ [] else Part sorts.Block ∷ []
predict_member rows.OwnCall s = begun (is_own (first_kind s) && same (second s) kinds.OpenParen) (One Own ∷ Part sorts.Args ∷ a kinds.Semicolon ∷ [])
predict_member _ s = if same (first_kind s) kinds.Void then a kinds.Void ∷ [] else Part sorts.Type ∷ []

unfoldable pub predict_elements : List Tok → List Item
predict_elements s =
    if same (first_kind s) kinds.CloseBrace then [] else
    (if same (first_kind s) kinds.Comma then a kinds.Comma ∷ [] else Part sorts.Init ∷ Parts rows.MoreElements ∷ [])

unfoldable pub predict_initial : Row → List Tok → List Item
predict_initial rows.Initial s = begun (same (first_kind s) kinds.Assign) (a kinds.Assign ∷ Part sorts.Init ∷ [])
predict_initial rows.InitForm s = if same (first_kind s) kinds.OpenBrace then a kinds.OpenBrace ∷ Parts rows.Elements ∷ a kinds.CloseBrace ∷ [] else Part sorts.Expr ∷ []
predict_initial rows.Elements s = predict_elements s
predict_initial rows.MoreElements s = begun (same (first_kind s) kinds.Comma) (a kinds.Comma ∷ Parts rows.AfterComma ∷ [])
predict_initial _ s = begun (not (same (first_kind s) kinds.CloseBrace)) (Part sorts.Init ∷ Parts rows.MoreElements ∷ [])

unfoldable pub predict_leaving : List Tok → List Item
predict_leaving s =
    if same (first_kind s) kinds.Break then a kinds.Break ∷ Parts rows.Label ∷ a kinds.Semicolon ∷ [] else
    (if same (first_kind s) kinds.Continue then a kinds.Continue ∷ Parts rows.Label ∷ a kinds.Semicolon ∷ [] else
    (if same (first_kind s) kinds.Return then a kinds.Return ∷ Parts (rows.Maybe sorts.Expr) ∷ a kinds.Semicolon ∷ [] else
    (if same (first_kind s) kinds.Throw then a kinds.Throw ∷ Part sorts.Expr ∷ a kinds.Semicolon ∷ [] else
    (if is_name (first_kind s) && same (second s) kinds.Colon then name ∷ a kinds.Colon ∷ Part sorts.Stmt ∷ [] else
    Part sorts.Effect ∷ a kinds.Semicolon ∷ []))))

unfoldable pub predict_looping : List Tok → List Item
predict_looping s =
    if same (first_kind s) kinds.While then a kinds.While ∷ a kinds.OpenParen ∷ Part sorts.Expr ∷ a kinds.CloseParen ∷ Part sorts.Stmt ∷ [] else
    (if same (first_kind s) kinds.Do then a kinds.Do ∷ Part sorts.Stmt ∷ a kinds.While ∷ a kinds.OpenParen ∷ Part sorts.Expr ∷ a kinds.CloseParen ∷ a kinds.Semicolon ∷ [] else
    (if same (first_kind s) kinds.For then
    a kinds.For ∷ a kinds.OpenParen ∷ Parts (rows.Maybe sorts.ForInit) ∷ a kinds.Semicolon ∷ Parts (rows.Maybe sorts.Expr) ∷ a kinds.Semicolon
    ∷ Parts (rows.Series sorts.Effect) ∷ a kinds.CloseParen ∷ Part sorts.Stmt ∷ [] else
    predict_leaving s))

unfoldable pub predict_statement_form : List Tok → List Item
predict_statement_form s =
    if same (first_kind s) kinds.OpenBrace then Part sorts.Block ∷ [] else
    (if same (first_kind s) kinds.Semicolon then a kinds.Semicolon ∷ [] else
    (if same (first_kind s) kinds.If then a kinds.If ∷ a kinds.OpenParen ∷ Part sorts.Expr ∷ a kinds.CloseParen ∷ Part sorts.Stmt ∷ Parts rows.Otherwise ∷ [] else
    (if same (first_kind s) kinds.Try then a kinds.Try ∷ Part sorts.Block ∷ Parts rows.Handlers ∷ [] else
    predict_looping s)))

unfoldable pub predict_statement : Row → List Tok → List Item
predict_statement rows.LocalForm s = if declares s then Parts rows.MaybeFinal ∷ Part sorts.Type ∷ Part sorts.Decls ∷ a kinds.Semicolon ∷ [] else Part sorts.Stmt ∷ []
predict_statement rows.StmtForm s = predict_statement_form s
predict_statement rows.Otherwise s = begun (same (first_kind s) kinds.Else) (a kinds.Else ∷ Part sorts.Stmt ∷ [])
predict_statement rows.Label s = begun (is_name (first_kind s)) (name ∷ [])
predict_statement rows.Handlers s =
    if same (first_kind s) kinds.Catch then Part sorts.Catch ∷ Parts (rows.Any sorts.Catch) ∷ Parts rows.Finally ∷ [] else a kinds.Finally ∷ Part sorts.Block ∷ []
predict_statement rows.Finally s = begun (same (first_kind s) kinds.Finally) (a kinds.Finally ∷ Part sorts.Block ∷ [])
predict_statement _ s =
    if declares s then Parts rows.MaybeFinal ∷ Part sorts.Type ∷ Part sorts.Decls ∷ [] else Part sorts.Effect ∷ Parts (rows.Further sorts.Effect) ∷ []

unfoldable pub predict_unary : List Tok → List Item
predict_unary s =
    if same (first_kind s) kinds.Minus then a kinds.Minus ∷ Parts rows.Negated ∷ [] else
    (if is_prefixing (first_kind s) then One Prefixing ∷ Part sorts.Unary ∷ [] else
    (if casts s then Part sorts.Cast ∷ [] else Part sorts.Postfix ∷ []))

unfoldable pub predict_operator : Row → List Tok → List Item
predict_operator rows.Assigned s = begun (is_setting (first_kind s)) (One Setting ∷ Part sorts.Expr ∷ [])
predict_operator rows.Choice s = begun (same (first_kind s) kinds.Question) (a kinds.Question ∷ Part sorts.Expr ∷ a kinds.Colon ∷ Part sorts.Cond ∷ [])
predict_operator rows.UnaryForm s = predict_unary s
predict_operator rows.Negated s = if same (first_kind s) kinds.Big then a kinds.Big ∷ [] else Part sorts.Unary ∷ []
predict_operator rows.CastForm s =
    if same (first_kind s) kinds.Prim && same (second s) kinds.CloseParen then a kinds.Prim ∷ a kinds.CloseParen ∷ Part sorts.Unary ∷ []
    else Part sorts.RefType ∷ a kinds.CloseParen ∷ Part sorts.Operand ∷ []
predict_operator _ s = begun (same (first_kind s) kinds.Step) (a kinds.Step ∷ Parts rows.Steps ∷ [])

unfoldable pub predict_primary : List Tok → List Item
predict_primary s =
    if same (first_kind s) kinds.Literal then a kinds.Literal ∷ [] else
    (if same (first_kind s) kinds.This then a kinds.This ∷ [] else
    (if same (first_kind s) kinds.OpenParen then a kinds.OpenParen ∷ Part sorts.Expr ∷ a kinds.CloseParen ∷ [] else
    (if same (first_kind s) kinds.New then Part sorts.New ∷ [] else
    (if same (first_kind s) kinds.Super then a kinds.Super ∷ a kinds.Dot ∷ name ∷ Parts (rows.Maybe sorts.Args) ∷ [] else
    name ∷ Parts (rows.Maybe sorts.Args) ∷ []))))

unfoldable pub predict_new : List Tok → List Item
predict_new s =
    if is_element (first_kind s) && same (second s) kinds.OpenParen then name ∷ Part sorts.Args ∷ [] else
    (if is_element (first_kind s) && (same (second s) kinds.OpenBracket && same (third s) kinds.CloseBracket) then
    One Element ∷ a kinds.OpenBracket ∷ a kinds.CloseBracket ∷ Parts rows.Brackets ∷ a kinds.OpenBrace ∷ Parts rows.Elements ∷ a kinds.CloseBrace ∷ [] else
    One Element ∷ a kinds.OpenBracket ∷ Part sorts.Expr ∷ a kinds.CloseBracket ∷ Parts rows.Dimensions ∷ [])

unfoldable pub predict_dimension : List Tok → List Item
predict_dimension s =
    if same (first_kind s) kinds.OpenBracket then
    (if same (second s) kinds.CloseBracket then a kinds.OpenBracket ∷ a kinds.CloseBracket ∷ Parts rows.Brackets ∷ []
    else a kinds.OpenBracket ∷ Part sorts.Expr ∷ a kinds.CloseBracket ∷ Parts rows.Dimensions ∷ [])
    else []

-- the alternative of a row that the text takes, if it is a text
abbrev pub predict : Row → List Tok → List Item
predict (rows.Any x) s = predict_list (rows.Any x) s
predict (rows.Maybe x) s = predict_list (rows.Maybe x) s
predict (rows.Series x) s = predict_list (rows.Series x) s
predict (rows.Further x) s = predict_list (rows.Further x) s
predict rows.Names s = predict_list rows.Names s
predict rows.Brackets s = predict_list rows.Brackets s
predict rows.MaybeFinal s = predict_list rows.MaybeFinal s
predict rows.Declared s = predict_declaration rows.Declared s
predict rows.Superclass s = predict_declaration rows.Superclass s
predict rows.Interfaces s = predict_declaration rows.Interfaces s
predict rows.Supers s = predict_declaration rows.Supers s
predict rows.Methods s = predict_declaration rows.Methods s
predict rows.ModForm s = predict_declaration rows.ModForm s
predict rows.MemberForm s = predict_member rows.MemberForm s
predict rows.MemberTail s = predict_member rows.MemberTail s
predict rows.MethodBody s = predict_member rows.MethodBody s
predict rows.OwnCall s = predict_member rows.OwnCall s
predict rows.ResultForm s = predict_member rows.ResultForm s
predict rows.Initial s = predict_initial rows.Initial s
predict rows.InitForm s = predict_initial rows.InitForm s
predict rows.Elements s = predict_initial rows.Elements s
predict rows.MoreElements s = predict_initial rows.MoreElements s
predict rows.AfterComma s = predict_initial rows.AfterComma s
predict rows.LocalForm s = predict_statement rows.LocalForm s
predict rows.StmtForm s = predict_statement rows.StmtForm s
predict rows.Otherwise s = predict_statement rows.Otherwise s
predict rows.Label s = predict_statement rows.Label s
predict rows.Handlers s = predict_statement rows.Handlers s
predict rows.Finally s = predict_statement rows.Finally s
predict rows.ForInitForm s = predict_statement rows.ForInitForm s
predict rows.Assigned s = predict_operator rows.Assigned s
predict rows.Choice s = predict_operator rows.Choice s
predict rows.UnaryForm s = predict_operator rows.UnaryForm s
predict rows.Negated s = predict_operator rows.Negated s
predict rows.CastForm s = predict_operator rows.CastForm s
predict rows.Steps s = predict_operator rows.Steps s
predict rows.PrimaryForm s = predict_primary s
predict rows.NewForm s = predict_new s
predict rows.Dimensions s = predict_dimension s

-- what goes on with a tree of a sort
unfoldable pub continued_level : Sort → Kind → Option (List Item)
continued_level x k = if operates x k then Some (a k ∷ Part (tighter x) ∷ []) else None

unfoldable pub continued_primary : Kind → Option (List Item)
continued_primary k =
    if same k kinds.Dot then Some (a kinds.Dot ∷ name ∷ Parts (rows.Maybe sorts.Args) ∷ []) else
    (if same k kinds.OpenBracket then Some (a kinds.OpenBracket ∷ Part sorts.Expr ∷ a kinds.CloseBracket ∷ []) else None)

unfoldable pub continued_relation : Kind → Option (List Item)
continued_relation k = if same k kinds.Instanceof then Some (a kinds.Instanceof ∷ Part sorts.RefType ∷ []) else continued_level sorts.Relation k

abbrev pub continued_by : Sort → Kind → Option (List Item)
continued_by sorts.Relation k = continued_relation k
continued_by sorts.Primary k = continued_primary k
continued_by x k = continued_level x k

abbrev pub continued : Sort → List Tok → Option (List Item)
continued x s = continued_by x (first_kind s)
