-- The way that is taken is one of the grammar.
use Rattle.std.proofs.Common.{Bool, true, false, not, ◌&&◌, if◌then◌else◌, ◌≡◌, List, [], ◌∷◌, Some, None, refl, subst}
use Rattle.wy_tree.specs.Seen.{Tok}
use Rattle.wy_tree.specs.Kinds.{same}
use Rattle.wy_tree.specs.Grammar as grammar
use Rattle.wy_tree.specs.Grammar.{a, name, tighter, operates, Alternative, Suffix, is_own, is_prefixing, is_setting}
use Rattle.wy_tree.specs.Conditions.{is_name}
use Rattle.wy_tree.specs.declared.kind.Kind.{Kind}
use Rattle.wy_tree.specs.declared.kind.Kind.TheVariants as kinds
use Rattle.wy_tree.specs.declared.grammar.Class.TheVariants.{Element, Modifying, Own, Prefixing, Setting}
use Rattle.wy_tree.specs.declared.grammar.Sort.{Sort}
use Rattle.wy_tree.specs.declared.grammar.Sort.TheVariants as sorts
use Rattle.wy_tree.specs.declared.grammar.Row.{Row}
use Rattle.wy_tree.specs.declared.grammar.Row.TheVariants as rows
use Rattle.wy_tree.specs.declared.grammar.Item.{Item}
use Rattle.wy_tree.specs.declared.grammar.Item.TheVariants.{One, Part, Parts}
use Rattle.wy_parser.specs.Prediction.{first_kind, is_element, casts, comes, declares, heads_interface, heads_method, is_there, second, third, predict, continued, continued_level, continued_primary, continued_relation, predict_list, predict_declared, predict_method, predict_declaration, predict_member_form, predict_member_tail, predict_member, predict_elements, predict_initial, predict_leaving, predict_looping, predict_statement_form, predict_statement, predict_unary, predict_operator, predict_primary, predict_new, predict_dimension}

-- of two ways the one that a test tells
either : (P : List Item → Type 0) (b : Bool) (x y : List Item) → P x → P y → P (if b then x else y)
either P true x y p q = p
either P false x y p q = q

any_of_row : (x : Sort) (s : List Tok) → Alternative (rows.Any x) (predict_list (rows.Any x) s)
unfolding predict_list
any_of_row x s = either (Alternative (rows.Any x)) (comes x (first_kind s)) (Part x ∷ Parts (rows.Any x) ∷ []) [] (grammar.some_of) (grammar.none_of)

maybe_row : (x : Sort) (s : List Tok) → Alternative (rows.Maybe x) (predict_list (rows.Maybe x) s)
unfolding predict_list
maybe_row x s = either (Alternative (rows.Maybe x)) (is_there x (first_kind s)) (Part x ∷ []) [] (grammar.present) (grammar.absent)

series_of_row : (x : Sort) (s : List Tok) → Alternative (rows.Series x) (predict_list (rows.Series x) s)
unfolding predict_list
series_of_row x s = either (Alternative (rows.Series x)) (not (same (first_kind s) kinds.CloseParen)) (Part x ∷ Parts (rows.Further x) ∷ []) [] (grammar.series) (grammar.no_series)

further_row : (x : Sort) (s : List Tok) → Alternative (rows.Further x) (predict_list (rows.Further x) s)
unfolding predict_list
further_row x s = either (Alternative (rows.Further x)) (same (first_kind s) kinds.Comma) (a kinds.Comma ∷ Part x ∷ Parts (rows.Further x) ∷ []) [] (grammar.further) (grammar.no_further)

names_row : (s : List Tok) → Alternative rows.Names (predict_list rows.Names s)
unfolding predict_list
names_row s = either (Alternative rows.Names) (same (first_kind s) kinds.Comma) (a kinds.Comma ∷ name ∷ Parts rows.Names ∷ []) [] (grammar.names) (grammar.no_names)

brackets_row : (s : List Tok) → Alternative rows.Brackets (predict_list rows.Brackets s)
unfolding predict_list
brackets_row s = either (Alternative rows.Brackets) (same (first_kind s) kinds.OpenBracket) (a kinds.OpenBracket ∷ a kinds.CloseBracket ∷ Parts rows.Brackets ∷ []) [] (grammar.brackets) (grammar.no_brackets)

maybefinal_row : (s : List Tok) → Alternative rows.MaybeFinal (predict_list rows.MaybeFinal s)
unfolding predict_list
maybefinal_row s = either (Alternative rows.MaybeFinal) (same (first_kind s) kinds.Final) (a kinds.Final ∷ []) [] (grammar.is_final) (grammar.not_final)

method_is : (s : List Tok) → Alternative rows.Methods (predict_method s)
unfolding predict_method
method_is s = either (Alternative rows.Methods) (same (first_kind s) kinds.CloseBrace) ([]) (if same (first_kind s) kinds.Semicolon then a kinds.Semicolon ∷ Parts rows.Methods ∷ [] else Parts (rows.Any sorts.Mod) ∷ Part sorts.Result ∷ name ∷ Part sorts.Params ∷ Parts (rows.Maybe sorts.Throws) ∷ a kinds.Semicolon ∷ Parts rows.Methods ∷ []) (grammar.no_methods) (either (Alternative rows.Methods) (same (first_kind s) kinds.Semicolon) (a kinds.Semicolon ∷ Parts rows.Methods ∷ []) (Parts (rows.Any sorts.Mod) ∷ Part sorts.Result ∷ name ∷ Part sorts.Params ∷ Parts (rows.Maybe sorts.Throws) ∷ a kinds.Semicolon ∷ Parts rows.Methods ∷ []) (grammar.no_method) (grammar.method))

declared_is : (s : List Tok) → Alternative rows.Declared (predict_declared s)
unfolding predict_declared
declared_is s = either (Alternative rows.Declared) (same (first_kind s) kinds.Semicolon) (a kinds.Semicolon ∷ []) (if heads_interface s then Part sorts.Interface ∷ [] else Part sorts.Class ∷ []) (grammar.nothing) (either (Alternative rows.Declared) (heads_interface s) (Part sorts.Interface ∷ []) (Part sorts.Class ∷ []) (grammar.an_interface) (grammar.a_class))

declared_row : (s : List Tok) → Alternative rows.Declared (predict_declaration rows.Declared s)
unfolding predict_declaration
declared_row s = declared_is s

superclass_row : (s : List Tok) → Alternative rows.Superclass (predict_declaration rows.Superclass s)
unfolding predict_declaration
superclass_row s = either (Alternative rows.Superclass) (same (first_kind s) kinds.Extends) (a kinds.Extends ∷ name ∷ []) [] (grammar.superclass) (grammar.no_superclass)

interfaces_row : (s : List Tok) → Alternative rows.Interfaces (predict_declaration rows.Interfaces s)
unfolding predict_declaration
interfaces_row s = either (Alternative rows.Interfaces) (same (first_kind s) kinds.Implements) (a kinds.Implements ∷ name ∷ Parts rows.Names ∷ []) [] (grammar.interfaces) (grammar.no_interfaces)

supers_row : (s : List Tok) → Alternative rows.Supers (predict_declaration rows.Supers s)
unfolding predict_declaration
supers_row s = either (Alternative rows.Supers) (same (first_kind s) kinds.Extends) (a kinds.Extends ∷ name ∷ Parts rows.Names ∷ []) [] (grammar.supers) (grammar.no_supers)

methods_row : (s : List Tok) → Alternative rows.Methods (predict_declaration rows.Methods s)
unfolding predict_declaration
methods_row s = method_is s

modform_row : (s : List Tok) → Alternative rows.ModForm (predict_declaration rows.ModForm s)
unfolding predict_declaration
modform_row s = either (Alternative rows.ModForm) (same (first_kind s) kinds.At) (a kinds.At ∷ a kinds.Override ∷ []) (One Modifying ∷ []) (grammar.annotation) (grammar.modifier)

member_form_is : (s : List Tok) → Alternative rows.MemberForm (predict_member_form s)
unfolding predict_member_form
member_form_is s = either (Alternative rows.MemberForm) (same (first_kind s) kinds.Semicolon) (a kinds.Semicolon ∷ []) (if same (first_kind s) kinds.OpenBrace then Part sorts.Block ∷ [] else (if same (first_kind s) kinds.Static && same (second s) kinds.OpenBrace then a kinds.Static ∷ Part sorts.Block ∷ [] else Parts (rows.Any sorts.Mod) ∷ Parts rows.MemberTail ∷ [])) (grammar.no_member) (either (Alternative rows.MemberForm) (same (first_kind s) kinds.OpenBrace) (Part sorts.Block ∷ []) (if same (first_kind s) kinds.Static && same (second s) kinds.OpenBrace then a kinds.Static ∷ Part sorts.Block ∷ [] else Parts (rows.Any sorts.Mod) ∷ Parts rows.MemberTail ∷ []) (grammar.initializer) (either (Alternative rows.MemberForm) (same (first_kind s) kinds.Static && same (second s) kinds.OpenBrace) (a kinds.Static ∷ Part sorts.Block ∷ []) (Parts (rows.Any sorts.Mod) ∷ Parts rows.MemberTail ∷ []) (grammar.static_initializer) (grammar.a_member)))

member_tail_is : (s : List Tok) → Alternative rows.MemberTail (predict_member_tail s)
unfolding predict_member_tail
member_tail_is s = either (Alternative rows.MemberTail) (is_name (first_kind s) && same (second s) kinds.OpenParen) (name ∷ Part sorts.Params ∷ Parts (rows.Maybe sorts.Throws) ∷ a kinds.OpenBrace ∷ Parts rows.OwnCall ∷ Parts (rows.Any sorts.Local) ∷ a kinds.CloseBrace ∷ []) (if heads_method s then Part sorts.Result ∷ name ∷ Part sorts.Params ∷ Parts (rows.Maybe sorts.Throws) ∷ Parts rows.MethodBody ∷ [] else Part sorts.Type ∷ Part sorts.Decls ∷ a kinds.Semicolon ∷ []) (grammar.a_constructor) (either (Alternative rows.MemberTail) (heads_method s) (Part sorts.Result ∷ name ∷ Part sorts.Params ∷ Parts (rows.Maybe sorts.Throws) ∷ Parts rows.MethodBody ∷ []) (Part sorts.Type ∷ Part sorts.Decls ∷ a kinds.Semicolon ∷ []) (grammar.a_method) (grammar.fields))

memberform_row : (s : List Tok) → Alternative rows.MemberForm (predict_member rows.MemberForm s)
unfolding predict_member
memberform_row s = member_form_is s

membertail_row : (s : List Tok) → Alternative rows.MemberTail (predict_member rows.MemberTail s)
unfolding predict_member
membertail_row s = member_tail_is s

methodbody_row : (s : List Tok) → Alternative rows.MethodBody (predict_member rows.MethodBody s)
unfolding predict_member
methodbody_row s = either (Alternative rows.MethodBody) (same (first_kind s) kinds.Semicolon) (a kinds.Semicolon ∷ []) (Part sorts.Block ∷ []) (grammar.without_body) (grammar.with_body)

owncall_row : (s : List Tok) → Alternative rows.OwnCall (predict_member rows.OwnCall s)
unfolding predict_member
owncall_row s = either (Alternative rows.OwnCall) (is_own (first_kind s) && same (second s) kinds.OpenParen) (One Own ∷ Part sorts.Args ∷ a kinds.Semicolon ∷ []) [] (grammar.own_call) (grammar.no_own_call)

resultform_row : (s : List Tok) → Alternative rows.ResultForm (predict_member rows.ResultForm s)
unfolding predict_member
resultform_row s = either (Alternative rows.ResultForm) (same (first_kind s) kinds.Void) (a kinds.Void ∷ []) (Part sorts.Type ∷ []) (grammar.no_result) (grammar.a_result)

elements_is : (s : List Tok) → Alternative rows.Elements (predict_elements s)
unfolding predict_elements
elements_is s = either (Alternative rows.Elements) (same (first_kind s) kinds.CloseBrace) ([]) (if same (first_kind s) kinds.Comma then a kinds.Comma ∷ [] else Part sorts.Init ∷ Parts rows.MoreElements ∷ []) (grammar.no_elements) (either (Alternative rows.Elements) (same (first_kind s) kinds.Comma) (a kinds.Comma ∷ []) (Part sorts.Init ∷ Parts rows.MoreElements ∷ []) (grammar.comma_alone) (grammar.elements))

initial_row : (s : List Tok) → Alternative rows.Initial (predict_initial rows.Initial s)
unfolding predict_initial
initial_row s = either (Alternative rows.Initial) (same (first_kind s) kinds.Assign) (a kinds.Assign ∷ Part sorts.Init ∷ []) [] (grammar.initial) (grammar.no_initial)

initform_row : (s : List Tok) → Alternative rows.InitForm (predict_initial rows.InitForm s)
unfolding predict_initial
initform_row s = either (Alternative rows.InitForm) (same (first_kind s) kinds.OpenBrace) (a kinds.OpenBrace ∷ Parts rows.Elements ∷ a kinds.CloseBrace ∷ []) (Part sorts.Expr ∷ []) (grammar.an_array) (grammar.a_value)

elements_row : (s : List Tok) → Alternative rows.Elements (predict_initial rows.Elements s)
unfolding predict_initial
elements_row s = elements_is s

moreelements_row : (s : List Tok) → Alternative rows.MoreElements (predict_initial rows.MoreElements s)
unfolding predict_initial
moreelements_row s = either (Alternative rows.MoreElements) (same (first_kind s) kinds.Comma) (a kinds.Comma ∷ Parts rows.AfterComma ∷ []) [] (grammar.more_elements) (grammar.no_more_elements)

aftercomma_row : (s : List Tok) → Alternative rows.AfterComma (predict_initial rows.AfterComma s)
unfolding predict_initial
aftercomma_row s = either (Alternative rows.AfterComma) (not (same (first_kind s) kinds.CloseBrace)) (Part sorts.Init ∷ Parts rows.MoreElements ∷ []) [] (grammar.comma_between) (grammar.comma_last)

leaving_is : (s : List Tok) → Alternative rows.StmtForm (predict_leaving s)
unfolding predict_leaving
leaving_is s = either (Alternative rows.StmtForm) (same (first_kind s) kinds.Break) (a kinds.Break ∷ Parts rows.Label ∷ a kinds.Semicolon ∷ []) (if same (first_kind s) kinds.Continue then a kinds.Continue ∷ Parts rows.Label ∷ a kinds.Semicolon ∷ [] else (if same (first_kind s) kinds.Return then a kinds.Return ∷ Parts (rows.Maybe sorts.Expr) ∷ a kinds.Semicolon ∷ [] else (if same (first_kind s) kinds.Throw then a kinds.Throw ∷ Part sorts.Expr ∷ a kinds.Semicolon ∷ [] else (if is_name (first_kind s) && same (second s) kinds.Colon then name ∷ a kinds.Colon ∷ Part sorts.Stmt ∷ [] else Part sorts.Effect ∷ a kinds.Semicolon ∷ [])))) (grammar.a_break) (either (Alternative rows.StmtForm) (same (first_kind s) kinds.Continue) (a kinds.Continue ∷ Parts rows.Label ∷ a kinds.Semicolon ∷ []) (if same (first_kind s) kinds.Return then a kinds.Return ∷ Parts (rows.Maybe sorts.Expr) ∷ a kinds.Semicolon ∷ [] else (if same (first_kind s) kinds.Throw then a kinds.Throw ∷ Part sorts.Expr ∷ a kinds.Semicolon ∷ [] else (if is_name (first_kind s) && same (second s) kinds.Colon then name ∷ a kinds.Colon ∷ Part sorts.Stmt ∷ [] else Part sorts.Effect ∷ a kinds.Semicolon ∷ []))) (grammar.a_continue) (either (Alternative rows.StmtForm) (same (first_kind s) kinds.Return) (a kinds.Return ∷ Parts (rows.Maybe sorts.Expr) ∷ a kinds.Semicolon ∷ []) (if same (first_kind s) kinds.Throw then a kinds.Throw ∷ Part sorts.Expr ∷ a kinds.Semicolon ∷ [] else (if is_name (first_kind s) && same (second s) kinds.Colon then name ∷ a kinds.Colon ∷ Part sorts.Stmt ∷ [] else Part sorts.Effect ∷ a kinds.Semicolon ∷ [])) (grammar.a_return) (either (Alternative rows.StmtForm) (same (first_kind s) kinds.Throw) (a kinds.Throw ∷ Part sorts.Expr ∷ a kinds.Semicolon ∷ []) (if is_name (first_kind s) && same (second s) kinds.Colon then name ∷ a kinds.Colon ∷ Part sorts.Stmt ∷ [] else Part sorts.Effect ∷ a kinds.Semicolon ∷ []) (grammar.a_throw) (either (Alternative rows.StmtForm) (is_name (first_kind s) && same (second s) kinds.Colon) (name ∷ a kinds.Colon ∷ Part sorts.Stmt ∷ []) (Part sorts.Effect ∷ a kinds.Semicolon ∷ []) (grammar.labelled) (grammar.an_effect)))))

looping_is : (s : List Tok) → Alternative rows.StmtForm (predict_looping s)
unfolding predict_looping
looping_is s = either (Alternative rows.StmtForm) (same (first_kind s) kinds.While) (a kinds.While ∷ a kinds.OpenParen ∷ Part sorts.Expr ∷ a kinds.CloseParen ∷ Part sorts.Stmt ∷ []) (if same (first_kind s) kinds.Do then a kinds.Do ∷ Part sorts.Stmt ∷ a kinds.While ∷ a kinds.OpenParen ∷ Part sorts.Expr ∷ a kinds.CloseParen ∷ a kinds.Semicolon ∷ [] else (if same (first_kind s) kinds.For then a kinds.For ∷ a kinds.OpenParen ∷ Parts (rows.Maybe sorts.ForInit) ∷ a kinds.Semicolon ∷ Parts (rows.Maybe sorts.Expr) ∷ a kinds.Semicolon ∷ Parts (rows.Series sorts.Effect) ∷ a kinds.CloseParen ∷ Part sorts.Stmt ∷ [] else predict_leaving s)) (grammar.a_while) (either (Alternative rows.StmtForm) (same (first_kind s) kinds.Do) (a kinds.Do ∷ Part sorts.Stmt ∷ a kinds.While ∷ a kinds.OpenParen ∷ Part sorts.Expr ∷ a kinds.CloseParen ∷ a kinds.Semicolon ∷ []) (if same (first_kind s) kinds.For then a kinds.For ∷ a kinds.OpenParen ∷ Parts (rows.Maybe sorts.ForInit) ∷ a kinds.Semicolon ∷ Parts (rows.Maybe sorts.Expr) ∷ a kinds.Semicolon ∷ Parts (rows.Series sorts.Effect) ∷ a kinds.CloseParen ∷ Part sorts.Stmt ∷ [] else predict_leaving s) (grammar.a_do) (either (Alternative rows.StmtForm) (same (first_kind s) kinds.For) (a kinds.For ∷ a kinds.OpenParen ∷ Parts (rows.Maybe sorts.ForInit) ∷ a kinds.Semicolon ∷ Parts (rows.Maybe sorts.Expr) ∷ a kinds.Semicolon ∷ Parts (rows.Series sorts.Effect) ∷ a kinds.CloseParen ∷ Part sorts.Stmt ∷ []) (predict_leaving s) (grammar.a_for) (leaving_is s)))

statement_form_is : (s : List Tok) → Alternative rows.StmtForm (predict_statement_form s)
unfolding predict_statement_form
statement_form_is s = either (Alternative rows.StmtForm) (same (first_kind s) kinds.OpenBrace) (Part sorts.Block ∷ []) (if same (first_kind s) kinds.Semicolon then a kinds.Semicolon ∷ [] else (if same (first_kind s) kinds.If then a kinds.If ∷ a kinds.OpenParen ∷ Part sorts.Expr ∷ a kinds.CloseParen ∷ Part sorts.Stmt ∷ Parts rows.Otherwise ∷ [] else (if same (first_kind s) kinds.Try then a kinds.Try ∷ Part sorts.Block ∷ Parts rows.Handlers ∷ [] else predict_looping s))) (grammar.a_block) (either (Alternative rows.StmtForm) (same (first_kind s) kinds.Semicolon) (a kinds.Semicolon ∷ []) (if same (first_kind s) kinds.If then a kinds.If ∷ a kinds.OpenParen ∷ Part sorts.Expr ∷ a kinds.CloseParen ∷ Part sorts.Stmt ∷ Parts rows.Otherwise ∷ [] else (if same (first_kind s) kinds.Try then a kinds.Try ∷ Part sorts.Block ∷ Parts rows.Handlers ∷ [] else predict_looping s)) (grammar.empty) (either (Alternative rows.StmtForm) (same (first_kind s) kinds.If) (a kinds.If ∷ a kinds.OpenParen ∷ Part sorts.Expr ∷ a kinds.CloseParen ∷ Part sorts.Stmt ∷ Parts rows.Otherwise ∷ []) (if same (first_kind s) kinds.Try then a kinds.Try ∷ Part sorts.Block ∷ Parts rows.Handlers ∷ [] else predict_looping s) (grammar.an_if) (either (Alternative rows.StmtForm) (same (first_kind s) kinds.Try) (a kinds.Try ∷ Part sorts.Block ∷ Parts rows.Handlers ∷ []) (predict_looping s) (grammar.a_try) (looping_is s))))

localform_row : (s : List Tok) → Alternative rows.LocalForm (predict_statement rows.LocalForm s)
unfolding predict_statement
localform_row s = either (Alternative rows.LocalForm) (declares s) (Parts rows.MaybeFinal ∷ Part sorts.Type ∷ Part sorts.Decls ∷ a kinds.Semicolon ∷ []) (Part sorts.Stmt ∷ []) (grammar.a_declaration) (grammar.a_statement)

stmtform_row : (s : List Tok) → Alternative rows.StmtForm (predict_statement rows.StmtForm s)
unfolding predict_statement
stmtform_row s = statement_form_is s

otherwise_row : (s : List Tok) → Alternative rows.Otherwise (predict_statement rows.Otherwise s)
unfolding predict_statement
otherwise_row s = either (Alternative rows.Otherwise) (same (first_kind s) kinds.Else) (a kinds.Else ∷ Part sorts.Stmt ∷ []) [] (grammar.an_else) (grammar.no_else)

label_row : (s : List Tok) → Alternative rows.Label (predict_statement rows.Label s)
unfolding predict_statement
label_row s = either (Alternative rows.Label) (is_name (first_kind s)) (name ∷ []) [] (grammar.label) (grammar.no_label)

handlers_row : (s : List Tok) → Alternative rows.Handlers (predict_statement rows.Handlers s)
unfolding predict_statement
handlers_row s = either (Alternative rows.Handlers) (same (first_kind s) kinds.Catch) (Part sorts.Catch ∷ Parts (rows.Any sorts.Catch) ∷ Parts rows.Finally ∷ []) (a kinds.Finally ∷ Part sorts.Block ∷ []) (grammar.catches) (grammar.only_finally)

finally_row : (s : List Tok) → Alternative rows.Finally (predict_statement rows.Finally s)
unfolding predict_statement
finally_row s = either (Alternative rows.Finally) (same (first_kind s) kinds.Finally) (a kinds.Finally ∷ Part sorts.Block ∷ []) [] (grammar.finally) (grammar.no_finally)

forinitform_row : (s : List Tok) → Alternative rows.ForInitForm (predict_statement rows.ForInitForm s)
unfolding predict_statement
forinitform_row s = either (Alternative rows.ForInitForm) (declares s) (Parts rows.MaybeFinal ∷ Part sorts.Type ∷ Part sorts.Decls ∷ []) (Part sorts.Effect ∷ Parts (rows.Further sorts.Effect) ∷ []) (grammar.for_declaration) (grammar.for_effects)

unary_is : (s : List Tok) → Alternative rows.UnaryForm (predict_unary s)
unfolding predict_unary
unary_is s = either (Alternative rows.UnaryForm) (same (first_kind s) kinds.Minus) (a kinds.Minus ∷ Parts rows.Negated ∷ []) (if is_prefixing (first_kind s) then One Prefixing ∷ Part sorts.Unary ∷ [] else (if casts s then Part sorts.Cast ∷ [] else Part sorts.Postfix ∷ [])) (grammar.negated) (either (Alternative rows.UnaryForm) (is_prefixing (first_kind s)) (One Prefixing ∷ Part sorts.Unary ∷ []) (if casts s then Part sorts.Cast ∷ [] else Part sorts.Postfix ∷ []) (grammar.prefixed) (either (Alternative rows.UnaryForm) (casts s) (Part sorts.Cast ∷ []) (Part sorts.Postfix ∷ []) (grammar.a_cast) (grammar.a_postfix)))

assigned_row : (s : List Tok) → Alternative rows.Assigned (predict_operator rows.Assigned s)
unfolding predict_operator
assigned_row s = either (Alternative rows.Assigned) (is_setting (first_kind s)) (One Setting ∷ Part sorts.Expr ∷ []) [] (grammar.assigned) (grammar.not_assigned)

choice_row : (s : List Tok) → Alternative rows.Choice (predict_operator rows.Choice s)
unfolding predict_operator
choice_row s = either (Alternative rows.Choice) (same (first_kind s) kinds.Question) (a kinds.Question ∷ Part sorts.Expr ∷ a kinds.Colon ∷ Part sorts.Cond ∷ []) [] (grammar.choice) (grammar.no_choice)

unaryform_row : (s : List Tok) → Alternative rows.UnaryForm (predict_operator rows.UnaryForm s)
unfolding predict_operator
unaryform_row s = unary_is s

negated_row : (s : List Tok) → Alternative rows.Negated (predict_operator rows.Negated s)
unfolding predict_operator
negated_row s = either (Alternative rows.Negated) (same (first_kind s) kinds.Big) (a kinds.Big ∷ []) (Part sorts.Unary ∷ []) (grammar.big) (grammar.small)

castform_row : (s : List Tok) → Alternative rows.CastForm (predict_operator rows.CastForm s)
unfolding predict_operator
castform_row s = either (Alternative rows.CastForm) (same (first_kind s) kinds.Prim && same (second s) kinds.CloseParen) (a kinds.Prim ∷ a kinds.CloseParen ∷ Part sorts.Unary ∷ []) (Part sorts.RefType ∷ a kinds.CloseParen ∷ Part sorts.Operand ∷ []) (grammar.to_primitive) (grammar.to_reference)

steps_row : (s : List Tok) → Alternative rows.Steps (predict_operator rows.Steps s)
unfolding predict_operator
steps_row s = either (Alternative rows.Steps) (same (first_kind s) kinds.Step) (a kinds.Step ∷ Parts rows.Steps ∷ []) [] (grammar.steps) (grammar.no_steps)

primary_is : (s : List Tok) → Alternative rows.PrimaryForm (predict_primary s)
unfolding predict_primary
primary_is s = either (Alternative rows.PrimaryForm) (same (first_kind s) kinds.Literal) (a kinds.Literal ∷ []) (if same (first_kind s) kinds.This then a kinds.This ∷ [] else (if same (first_kind s) kinds.OpenParen then a kinds.OpenParen ∷ Part sorts.Expr ∷ a kinds.CloseParen ∷ [] else (if same (first_kind s) kinds.New then Part sorts.New ∷ [] else (if same (first_kind s) kinds.Super then a kinds.Super ∷ a kinds.Dot ∷ name ∷ Parts (rows.Maybe sorts.Args) ∷ [] else name ∷ Parts (rows.Maybe sorts.Args) ∷ [])))) (grammar.literal) (either (Alternative rows.PrimaryForm) (same (first_kind s) kinds.This) (a kinds.This ∷ []) (if same (first_kind s) kinds.OpenParen then a kinds.OpenParen ∷ Part sorts.Expr ∷ a kinds.CloseParen ∷ [] else (if same (first_kind s) kinds.New then Part sorts.New ∷ [] else (if same (first_kind s) kinds.Super then a kinds.Super ∷ a kinds.Dot ∷ name ∷ Parts (rows.Maybe sorts.Args) ∷ [] else name ∷ Parts (rows.Maybe sorts.Args) ∷ []))) (grammar.this) (either (Alternative rows.PrimaryForm) (same (first_kind s) kinds.OpenParen) (a kinds.OpenParen ∷ Part sorts.Expr ∷ a kinds.CloseParen ∷ []) (if same (first_kind s) kinds.New then Part sorts.New ∷ [] else (if same (first_kind s) kinds.Super then a kinds.Super ∷ a kinds.Dot ∷ name ∷ Parts (rows.Maybe sorts.Args) ∷ [] else name ∷ Parts (rows.Maybe sorts.Args) ∷ [])) (grammar.grouped) (either (Alternative rows.PrimaryForm) (same (first_kind s) kinds.New) (Part sorts.New ∷ []) (if same (first_kind s) kinds.Super then a kinds.Super ∷ a kinds.Dot ∷ name ∷ Parts (rows.Maybe sorts.Args) ∷ [] else name ∷ Parts (rows.Maybe sorts.Args) ∷ []) (grammar.created) (either (Alternative rows.PrimaryForm) (same (first_kind s) kinds.Super) (a kinds.Super ∷ a kinds.Dot ∷ name ∷ Parts (rows.Maybe sorts.Args) ∷ []) (name ∷ Parts (rows.Maybe sorts.Args) ∷ []) (grammar.inherited) (grammar.named)))))

new_is : (s : List Tok) → Alternative rows.NewForm (predict_new s)
unfolding predict_new
new_is s = either (Alternative rows.NewForm) (is_element (first_kind s) && same (second s) kinds.OpenParen) (name ∷ Part sorts.Args ∷ []) (if is_element (first_kind s) && (same (second s) kinds.OpenBracket && same (third s) kinds.CloseBracket) then One Element ∷ a kinds.OpenBracket ∷ a kinds.CloseBracket ∷ Parts rows.Brackets ∷ a kinds.OpenBrace ∷ Parts rows.Elements ∷ a kinds.CloseBrace ∷ [] else One Element ∷ a kinds.OpenBracket ∷ Part sorts.Expr ∷ a kinds.CloseBracket ∷ Parts rows.Dimensions ∷ []) (grammar.an_object) (either (Alternative rows.NewForm) (is_element (first_kind s) && (same (second s) kinds.OpenBracket && same (third s) kinds.CloseBracket)) (One Element ∷ a kinds.OpenBracket ∷ a kinds.CloseBracket ∷ Parts rows.Brackets ∷ a kinds.OpenBrace ∷ Parts rows.Elements ∷ a kinds.CloseBrace ∷ []) (One Element ∷ a kinds.OpenBracket ∷ Part sorts.Expr ∷ a kinds.CloseBracket ∷ Parts rows.Dimensions ∷ []) (grammar.listed) (grammar.sized))

dimension_is : (s : List Tok) → Alternative rows.Dimensions (predict_dimension s)
unfolding predict_dimension
dimension_is s = either (Alternative rows.Dimensions) (same (first_kind s) kinds.OpenBracket) (if same (second s) kinds.CloseBracket then a kinds.OpenBracket ∷ a kinds.CloseBracket ∷ Parts rows.Brackets ∷ [] else a kinds.OpenBracket ∷ Part sorts.Expr ∷ a kinds.CloseBracket ∷ Parts rows.Dimensions ∷ []) ([]) (either (Alternative rows.Dimensions) (same (second s) kinds.CloseBracket) (a kinds.OpenBracket ∷ a kinds.CloseBracket ∷ Parts rows.Brackets ∷ []) (a kinds.OpenBracket ∷ Part sorts.Expr ∷ a kinds.CloseBracket ∷ Parts rows.Dimensions ∷ []) (grammar.unsized) (grammar.dimension)) (grammar.no_dimensions)

pub predict_is : (row : Row) (s : List Tok) → Alternative row (predict row s)
predict_is (rows.Any x) s = any_of_row x s
predict_is (rows.Maybe x) s = maybe_row x s
predict_is (rows.Series x) s = series_of_row x s
predict_is (rows.Further x) s = further_row x s
predict_is rows.Names s = names_row s
predict_is rows.Brackets s = brackets_row s
predict_is rows.MaybeFinal s = maybefinal_row s
predict_is rows.Declared s = declared_row s
predict_is rows.Superclass s = superclass_row s
predict_is rows.Interfaces s = interfaces_row s
predict_is rows.Supers s = supers_row s
predict_is rows.Methods s = methods_row s
predict_is rows.ModForm s = modform_row s
predict_is rows.MemberForm s = memberform_row s
predict_is rows.MemberTail s = membertail_row s
predict_is rows.MethodBody s = methodbody_row s
predict_is rows.OwnCall s = owncall_row s
predict_is rows.ResultForm s = resultform_row s
predict_is rows.Initial s = initial_row s
predict_is rows.InitForm s = initform_row s
predict_is rows.Elements s = elements_row s
predict_is rows.MoreElements s = moreelements_row s
predict_is rows.AfterComma s = aftercomma_row s
predict_is rows.LocalForm s = localform_row s
predict_is rows.StmtForm s = stmtform_row s
predict_is rows.Otherwise s = otherwise_row s
predict_is rows.Label s = label_row s
predict_is rows.Handlers s = handlers_row s
predict_is rows.Finally s = finally_row s
predict_is rows.ForInitForm s = forinitform_row s
predict_is rows.Assigned s = assigned_row s
predict_is rows.Choice s = choice_row s
predict_is rows.UnaryForm s = unaryform_row s
predict_is rows.Negated s = negated_row s
predict_is rows.CastForm s = castform_row s
predict_is rows.Steps s = steps_row s
predict_is rows.PrimaryForm s = primary_is s
predict_is rows.NewForm s = new_is s
predict_is rows.Dimensions s = dimension_is s

some_is : {A : Type 0} {a b : A} → Some a ≡ Some b → a ≡ b
some_is e = cc

level_is : (x : Sort) (k : Kind) (items : List Item) → continued_level x k ≡ Some items → Suffix x items
unfolding continued_level
level_is x k items e =
    let by : (b : Bool) → operates x k ≡ b → (if b then Some (a k ∷ Part (tighter x) ∷ []) else None) ≡ Some items → Suffix x items =
    elim [ true ↦ λ f q. subst (Suffix x) (some_is q) (grammar.operator f) | false ↦ λ f q. absurd (cc) ] in
    by (operates x k) refl e

relation_is : (k : Kind) (items : List Item) → continued_relation k ≡ Some items → Suffix sorts.Relation items
unfolding continued_relation
relation_is k items e =
    let by : (b : Bool) → (if b then Some (a kinds.Instanceof ∷ Part sorts.RefType ∷ []) else continued_level sorts.Relation k) ≡ Some items → Suffix sorts.Relation items =
    elim [ true ↦ λ q. subst (Suffix sorts.Relation) (some_is q) grammar.instance_of | false ↦ λ q. level_is sorts.Relation k items q ] in
    by (same k kinds.Instanceof) e

primary_suffix_is : (k : Kind) (items : List Item) → continued_primary k ≡ Some items → Suffix sorts.Primary items
unfolding continued_primary
primary_suffix_is k items e =
    let last : (b : Bool) → (if b then Some (a kinds.OpenBracket ∷ Part sorts.Expr ∷ a kinds.CloseBracket ∷ []) else None) ≡ Some items → Suffix sorts.Primary items =
    elim [ true ↦ λ q. subst (Suffix sorts.Primary) (some_is q) grammar.element | false ↦ λ q. absurd (cc) ] in
    let by : (b : Bool) → (if b then Some (a kinds.Dot ∷ name ∷ Parts (rows.Maybe sorts.Args) ∷ []) else (if same k kinds.OpenBracket then Some (a kinds.OpenBracket ∷ Part sorts.Expr ∷ a kinds.CloseBracket ∷ []) else None)) ≡ Some items → Suffix sorts.Primary items =
    elim [ true ↦ λ q. subst (Suffix sorts.Primary) (some_is q) grammar.member | false ↦ λ q. last (same k kinds.OpenBracket) q ] in
    by (same k kinds.Dot) e

pub continued_is : (x : Sort) (s : List Tok) (items : List Item) → continued x s ≡ Some items → Suffix x items
continued_is sorts.Relation s items e = relation_is (first_kind s) items e
continued_is sorts.Primary s items e = primary_suffix_is (first_kind s) items e
continued_is x s items e = level_is x (first_kind s) items e
