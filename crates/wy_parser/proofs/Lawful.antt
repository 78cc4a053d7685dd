-- Each item of the grammar may be followed by what comes next.
use Rattle.std.proofs.Common.{Bool, true, false, not, ◌≡◌, List, [], ◌∷◌, Option, Some, None, if◌then◌else◌, refl, ◌∙◌, ap}
use Rattle.wy_tree.specs.Seen.{Tok}
use Rattle.wy_tree.specs.Kinds.{same}
use Rattle.wy_tree.specs.Grammar as grammar
use Rattle.wy_tree.specs.Grammar.{a, name, tighter, operates, rule, Alternative, Suffix}
use Rattle.wy_tree.specs.declared.kind.Kind.{Kind}
use Rattle.wy_tree.specs.declared.kind.Kind.TheVariants as kinds
use Rattle.wy_tree.specs.declared.grammar.Class.TheVariants.{Element, Modifying, Own, Prefixing, Setting}
use Rattle.wy_tree.specs.declared.grammar.Sort.{Sort}
use Rattle.wy_tree.specs.declared.grammar.Sort.TheVariants as sorts
use Rattle.wy_tree.specs.declared.grammar.Row.TheVariants as rows
use Rattle.wy_tree.specs.declared.grammar.Row.{Row}
use Rattle.wy_tree.specs.declared.grammar.Item.{Item}
use Rattle.wy_tree.specs.declared.grammar.Item.TheVariants.{One, Part, Parts}
use Rattle.wy_parser.specs.Prediction.{first_kind, continued, continued_level, continued_relation, continued_primary}
use Rattle.wy_parser.proofs.Truth.{is_false}
use Rattle.wy_parser.proofs.Firsts.{every, implied}
use Rattle.wy_parser.proofs.Follows.{ends, meets, row_meets, occurs, Lawful, lawful_ok}

-- what may follow a tree of a sort; behind an array creation no bracket
abbrev pub rule_meets : Sort → Kind → Bool
rule_meets sorts.New k = not (same k kinds.OpenBracket)
rule_meets x k = meets x k

pub rule_lawful : (x : Sort) → Lawful (rule x) (rule_meets x)
unfolding every
rule_lawful sorts.Unit = lawful_ok (rule sorts.Unit) (rule_meets sorts.Unit) refl
rule_lawful sorts.Declaration = lawful_ok (rule sorts.Declaration) (rule_meets sorts.Declaration) refl
rule_lawful sorts.Class = lawful_ok (rule sorts.Class) (rule_meets sorts.Class) refl
rule_lawful sorts.Interface = lawful_ok (rule sorts.Interface) (rule_meets sorts.Interface) refl
rule_lawful sorts.Mod = lawful_ok (rule sorts.Mod) (rule_meets sorts.Mod) refl
rule_lawful sorts.Member = lawful_ok (rule sorts.Member) (rule_meets sorts.Member) refl
rule_lawful sorts.Params = lawful_ok (rule sorts.Params) (rule_meets sorts.Params) refl
rule_lawful sorts.Param = lawful_ok (rule sorts.Param) (rule_meets sorts.Param) refl
rule_lawful sorts.Throws = lawful_ok (rule sorts.Throws) (rule_meets sorts.Throws) refl
rule_lawful sorts.Result = lawful_ok (rule sorts.Result) (rule_meets sorts.Result) refl
rule_lawful sorts.Type = lawful_ok (rule sorts.Type) (rule_meets sorts.Type) refl
rule_lawful sorts.RefType = lawful_ok (rule sorts.RefType) (rule_meets sorts.RefType) refl
rule_lawful sorts.Decls = lawful_ok (rule sorts.Decls) (rule_meets sorts.Decls) refl
rule_lawful sorts.Decl = lawful_ok (rule sorts.Decl) (rule_meets sorts.Decl) refl
rule_lawful sorts.Init = lawful_ok (rule sorts.Init) (rule_meets sorts.Init) refl
rule_lawful sorts.Block = lawful_ok (rule sorts.Block) (rule_meets sorts.Block) refl
rule_lawful sorts.Local = lawful_ok (rule sorts.Local) (rule_meets sorts.Local) refl
rule_lawful sorts.Stmt = lawful_ok (rule sorts.Stmt) (rule_meets sorts.Stmt) refl
rule_lawful sorts.ForInit = lawful_ok (rule sorts.ForInit) (rule_meets sorts.ForInit) refl
rule_lawful sorts.Catch = lawful_ok (rule sorts.Catch) (rule_meets sorts.Catch) refl
rule_lawful sorts.Expr = lawful_ok (rule sorts.Expr) (rule_meets sorts.Expr) refl
rule_lawful sorts.Effect = lawful_ok (rule sorts.Effect) (rule_meets sorts.Effect) refl
rule_lawful sorts.Cond = lawful_ok (rule sorts.Cond) (rule_meets sorts.Cond) refl
rule_lawful sorts.OrElse = lawful_ok (rule sorts.OrElse) (rule_meets sorts.OrElse) refl
rule_lawful sorts.AndAlso = lawful_ok (rule sorts.AndAlso) (rule_meets sorts.AndAlso) refl
rule_lawful sorts.Or = lawful_ok (rule sorts.Or) (rule_meets sorts.Or) refl
rule_lawful sorts.Xor = lawful_ok (rule sorts.Xor) (rule_meets sorts.Xor) refl
rule_lawful sorts.And = lawful_ok (rule sorts.And) (rule_meets sorts.And) refl
rule_lawful sorts.Equality = lawful_ok (rule sorts.Equality) (rule_meets sorts.Equality) refl
rule_lawful sorts.Relation = lawful_ok (rule sorts.Relation) (rule_meets sorts.Relation) refl
rule_lawful sorts.Shift = lawful_ok (rule sorts.Shift) (rule_meets sorts.Shift) refl
rule_lawful sorts.Sum = lawful_ok (rule sorts.Sum) (rule_meets sorts.Sum) refl
rule_lawful sorts.Product = lawful_ok (rule sorts.Product) (rule_meets sorts.Product) refl
rule_lawful sorts.Unary = lawful_ok (rule sorts.Unary) (rule_meets sorts.Unary) refl
rule_lawful sorts.Cast = lawful_ok (rule sorts.Cast) (rule_meets sorts.Cast) refl
rule_lawful sorts.Operand = lawful_ok (rule sorts.Operand) (rule_meets sorts.Operand) refl
rule_lawful sorts.Postfix = lawful_ok (rule sorts.Postfix) (rule_meets sorts.Postfix) refl
rule_lawful sorts.Primary = lawful_ok (rule sorts.Primary) (rule_meets sorts.Primary) refl
rule_lawful sorts.New = lawful_ok (rule sorts.New) (rule_meets sorts.New) refl
rule_lawful sorts.Args = lawful_ok (rule sorts.Args) (rule_meets sorts.Args) refl

pub way_lawful : {row : Row} {way : List Item} → Alternative row way → (items : List Item) → occurs row items ≡ true → Lawful way (row_meets row)
unfolding every
way_lawful (grammar.none_of {x = sorts.Declaration}) items o = lawful_ok ([]) (row_meets (rows.Any sorts.Declaration)) refl
way_lawful (grammar.none_of {x = sorts.Mod}) items o = lawful_ok ([]) (row_meets (rows.Any sorts.Mod)) refl
way_lawful (grammar.none_of {x = sorts.Member}) items o = lawful_ok ([]) (row_meets (rows.Any sorts.Member)) refl
way_lawful (grammar.none_of {x = sorts.Local}) items o = lawful_ok ([]) (row_meets (rows.Any sorts.Local)) refl
way_lawful (grammar.none_of {x = sorts.Catch}) items o = lawful_ok ([]) (row_meets (rows.Any sorts.Catch)) refl
way_lawful (grammar.none_of {x}) items o = absurd (cc)
way_lawful (grammar.some_of {x = sorts.Declaration}) items o = lawful_ok (Part sorts.Declaration ∷ Parts (rows.Any sorts.Declaration) ∷ []) (row_meets (rows.Any sorts.Declaration)) refl
way_lawful (grammar.some_of {x = sorts.Mod}) items o = lawful_ok (Part sorts.Mod ∷ Parts (rows.Any sorts.Mod) ∷ []) (row_meets (rows.Any sorts.Mod)) refl
way_lawful (grammar.some_of {x = sorts.Member}) items o = lawful_ok (Part sorts.Member ∷ Parts (rows.Any sorts.Member) ∷ []) (row_meets (rows.Any sorts.Member)) refl
way_lawful (grammar.some_of {x = sorts.Local}) items o = lawful_ok (Part sorts.Local ∷ Parts (rows.Any sorts.Local) ∷ []) (row_meets (rows.Any sorts.Local)) refl
way_lawful (grammar.some_of {x = sorts.Catch}) items o = lawful_ok (Part sorts.Catch ∷ Parts (rows.Any sorts.Catch) ∷ []) (row_meets (rows.Any sorts.Catch)) refl
way_lawful (grammar.some_of {x}) items o = absurd (cc)
way_lawful (grammar.absent {x = sorts.Throws}) items o = lawful_ok ([]) (row_meets (rows.Maybe sorts.Throws)) refl
way_lawful (grammar.absent {x = sorts.Args}) items o = lawful_ok ([]) (row_meets (rows.Maybe sorts.Args)) refl
way_lawful (grammar.absent {x = sorts.ForInit}) items o = lawful_ok ([]) (row_meets (rows.Maybe sorts.ForInit)) refl
way_lawful (grammar.absent {x = sorts.Expr}) items o = lawful_ok ([]) (row_meets (rows.Maybe sorts.Expr)) refl
way_lawful (grammar.absent {x}) items o = absurd (cc)
way_lawful (grammar.present {x = sorts.Throws}) items o = lawful_ok (Part sorts.Throws ∷ []) (row_meets (rows.Maybe sorts.Throws)) refl
way_lawful (grammar.present {x = sorts.Args}) items o = lawful_ok (Part sorts.Args ∷ []) (row_meets (rows.Maybe sorts.Args)) refl
way_lawful (grammar.present {x = sorts.ForInit}) items o = lawful_ok (Part sorts.ForInit ∷ []) (row_meets (rows.Maybe sorts.ForInit)) refl
way_lawful (grammar.present {x = sorts.Expr}) items o = lawful_ok (Part sorts.Expr ∷ []) (row_meets (rows.Maybe sorts.Expr)) refl
way_lawful (grammar.present {x}) items o = absurd (cc)
way_lawful (grammar.no_series {x = sorts.Param}) items o = lawful_ok ([]) (row_meets (rows.Series sorts.Param)) refl
way_lawful (grammar.no_series {x = sorts.Expr}) items o = lawful_ok ([]) (row_meets (rows.Series sorts.Expr)) refl
way_lawful (grammar.no_series {x = sorts.Effect}) items o = lawful_ok ([]) (row_meets (rows.Series sorts.Effect)) refl
way_lawful (grammar.no_series {x}) items o = absurd (cc)
way_lawful (grammar.series {x = sorts.Param}) items o = lawful_ok (Part sorts.Param ∷ Parts (rows.Further sorts.Param) ∷ []) (row_meets (rows.Series sorts.Param)) refl
way_lawful (grammar.series {x = sorts.Expr}) items o = lawful_ok (Part sorts.Expr ∷ Parts (rows.Further sorts.Expr) ∷ []) (row_meets (rows.Series sorts.Expr)) refl
way_lawful (grammar.series {x = sorts.Effect}) items o = lawful_ok (Part sorts.Effect ∷ Parts (rows.Further sorts.Effect) ∷ []) (row_meets (rows.Series sorts.Effect)) refl
way_lawful (grammar.series {x}) items o = absurd (cc)
way_lawful (grammar.no_further {x = sorts.Param}) items o = lawful_ok ([]) (row_meets (rows.Further sorts.Param)) refl
way_lawful (grammar.no_further {x = sorts.Expr}) items o = lawful_ok ([]) (row_meets (rows.Further sorts.Expr)) refl
way_lawful (grammar.no_further {x = sorts.Effect}) items o = lawful_ok ([]) (row_meets (rows.Further sorts.Effect)) refl
way_lawful (grammar.no_further {x = sorts.Decl}) items o = lawful_ok ([]) (row_meets (rows.Further sorts.Decl)) refl
way_lawful (grammar.no_further {x}) items o = absurd (cc)
way_lawful (grammar.further {x = sorts.Param}) items o = lawful_ok (a kinds.Comma ∷ Part sorts.Param ∷ Parts (rows.Further sorts.Param) ∷ []) (row_meets (rows.Further sorts.Param)) refl
way_lawful (grammar.further {x = sorts.Expr}) items o = lawful_ok (a kinds.Comma ∷ Part sorts.Expr ∷ Parts (rows.Further sorts.Expr) ∷ []) (row_meets (rows.Further sorts.Expr)) refl
way_lawful (grammar.further {x = sorts.Effect}) items o = lawful_ok (a kinds.Comma ∷ Part sorts.Effect ∷ Parts (rows.Further sorts.Effect) ∷ []) (row_meets (rows.Further sorts.Effect)) refl
way_lawful (grammar.further {x = sorts.Decl}) items o = lawful_ok (a kinds.Comma ∷ Part sorts.Decl ∷ Parts (rows.Further sorts.Decl) ∷ []) (row_meets (rows.Further sorts.Decl)) refl
way_lawful (grammar.further {x}) items o = absurd (cc)
way_lawful grammar.no_names items o = lawful_ok ([]) (row_meets rows.Names) refl
way_lawful grammar.names items o = lawful_ok (a kinds.Comma ∷ name ∷ Parts rows.Names ∷ []) (row_meets rows.Names) refl
way_lawful grammar.no_brackets items o = lawful_ok ([]) (row_meets rows.Brackets) refl
way_lawful grammar.brackets items o = lawful_ok (a kinds.OpenBracket ∷ a kinds.CloseBracket ∷ Parts rows.Brackets ∷ []) (row_meets rows.Brackets) refl
way_lawful grammar.not_final items o = lawful_ok ([]) (row_meets rows.MaybeFinal) refl
way_lawful grammar.is_final items o = lawful_ok (a kinds.Final ∷ []) (row_meets rows.MaybeFinal) refl
way_lawful grammar.a_class items o = lawful_ok (Part sorts.Class ∷ []) (row_meets rows.Declared) refl
way_lawful grammar.an_interface items o = lawful_ok (Part sorts.Interface ∷ []) (row_meets rows.Declared) refl
way_lawful grammar.nothing items o = lawful_ok (a kinds.Semicolon ∷ []) (row_meets rows.Declared) refl
way_lawful grammar.no_superclass items o = lawful_ok ([]) (row_meets rows.Superclass) refl
way_lawful grammar.superclass items o = lawful_ok (a kinds.Extends ∷ name ∷ []) (row_meets rows.Superclass) refl
way_lawful grammar.no_interfaces items o = lawful_ok ([]) (row_meets rows.Interfaces) refl
way_lawful grammar.interfaces items o = lawful_ok (a kinds.Implements ∷ name ∷ Parts rows.Names ∷ []) (row_meets rows.Interfaces) refl
way_lawful grammar.no_supers items o = lawful_ok ([]) (row_meets rows.Supers) refl
way_lawful grammar.supers items o = lawful_ok (a kinds.Extends ∷ name ∷ Parts rows.Names ∷ []) (row_meets rows.Supers) refl
way_lawful grammar.no_methods items o = lawful_ok ([]) (row_meets rows.Methods) refl
way_lawful grammar.no_method items o = lawful_ok (a kinds.Semicolon ∷ Parts rows.Methods ∷ []) (row_meets rows.Methods) refl
way_lawful grammar.method items o = lawful_ok (Parts (rows.Any sorts.Mod) ∷ Part sorts.Result ∷ name ∷ Part sorts.Params ∷ Parts (rows.Maybe sorts.Throws) ∷ a kinds.Semicolon ∷ Parts rows.Methods ∷ []) (row_meets rows.Methods) refl
way_lawful grammar.modifier items o = lawful_ok (One Modifying ∷ []) (row_meets rows.ModForm) refl
way_lawful grammar.annotation items o = lawful_ok (a kinds.At ∷ a kinds.Override ∷ []) (row_meets rows.ModForm) refl
way_lawful grammar.no_member items o = lawful_ok (a kinds.Semicolon ∷ []) (row_meets rows.MemberForm) refl
way_lawful grammar.initializer items o = lawful_ok (Part sorts.Block ∷ []) (row_meets rows.MemberForm) refl
way_lawful grammar.static_initializer items o = lawful_ok (a kinds.Static ∷ Part sorts.Block ∷ []) (row_meets rows.MemberForm) refl
way_lawful grammar.a_member items o = lawful_ok (Parts (rows.Any sorts.Mod) ∷ Parts rows.MemberTail ∷ []) (row_meets rows.MemberForm) refl
way_lawful grammar.fields items o = lawful_ok (Part sorts.Type ∷ Part sorts.Decls ∷ a kinds.Semicolon ∷ []) (row_meets rows.MemberTail) refl
way_lawful grammar.a_method items o = lawful_ok (Part sorts.Result ∷ name ∷ Part sorts.Params ∷ Parts (rows.Maybe sorts.Throws) ∷ Parts rows.MethodBody ∷ []) (row_meets rows.MemberTail) refl
way_lawful grammar.a_constructor items o = lawful_ok (name ∷ Part sorts.Params ∷ Parts (rows.Maybe sorts.Throws) ∷ a kinds.OpenBrace ∷ Parts rows.OwnCall ∷ Parts (rows.Any sorts.Local) ∷ a kinds.CloseBrace ∷ []) (row_meets rows.MemberTail) refl
way_lawful grammar.with_body items o = lawful_ok (Part sorts.Block ∷ []) (row_meets rows.MethodBody) refl
way_lawful grammar.without_body items o = lawful_ok (a kinds.Semicolon ∷ []) (row_meets rows.MethodBody) refl
way_lawful grammar.no_own_call items o = lawful_ok ([]) (row_meets rows.OwnCall) refl
way_lawful grammar.own_call items o = lawful_ok (One Own ∷ Part sorts.Args ∷ a kinds.Semicolon ∷ []) (row_meets rows.OwnCall) refl
way_lawful grammar.no_result items o = lawful_ok (a kinds.Void ∷ []) (row_meets rows.ResultForm) refl
way_lawful grammar.a_result items o = lawful_ok (Part sorts.Type ∷ []) (row_meets rows.ResultForm) refl
way_lawful grammar.no_initial items o = lawful_ok ([]) (row_meets rows.Initial) refl
way_lawful grammar.initial items o = lawful_ok (a kinds.Assign ∷ Part sorts.Init ∷ []) (row_meets rows.Initial) refl
way_lawful grammar.a_value items o = lawful_ok (Part sorts.Expr ∷ []) (row_meets rows.InitForm) refl
way_lawful grammar.an_array items o = lawful_ok (a kinds.OpenBrace ∷ Parts rows.Elements ∷ a kinds.CloseBrace ∷ []) (row_meets rows.InitForm) refl
way_lawful grammar.no_elements items o = lawful_ok ([]) (row_meets rows.Elements) refl
way_lawful grammar.comma_alone items o = lawful_ok (a kinds.Comma ∷ []) (row_meets rows.Elements) refl
way_lawful grammar.elements items o = lawful_ok (Part sorts.Init ∷ Parts rows.MoreElements ∷ []) (row_meets rows.Elements) refl
way_lawful grammar.no_more_elements items o = lawful_ok ([]) (row_meets rows.MoreElements) refl
way_lawful grammar.more_elements items o = lawful_ok (a kinds.Comma ∷ Parts rows.AfterComma ∷ []) (row_meets rows.MoreElements) refl
way_lawful grammar.comma_last items o = lawful_ok ([]) (row_meets rows.AfterComma) refl
way_lawful grammar.comma_between items o = lawful_ok (Part sorts.Init ∷ Parts rows.MoreElements ∷ []) (row_meets rows.AfterComma) refl
way_lawful grammar.a_declaration items o = lawful_ok (Parts rows.MaybeFinal ∷ Part sorts.Type ∷ Part sorts.Decls ∷ a kinds.Semicolon ∷ []) (row_meets rows.LocalForm) refl
way_lawful grammar.a_statement items o = lawful_ok (Part sorts.Stmt ∷ []) (row_meets rows.LocalForm) refl
way_lawful grammar.a_block items o = lawful_ok (Part sorts.Block ∷ []) (row_meets rows.StmtForm) refl
way_lawful grammar.empty items o = lawful_ok (a kinds.Semicolon ∷ []) (row_meets rows.StmtForm) refl
way_lawful grammar.an_effect items o = lawful_ok (Part sorts.Effect ∷ a kinds.Semicolon ∷ []) (row_meets rows.StmtForm) refl
way_lawful grammar.an_if items o = lawful_ok (a kinds.If ∷ a kinds.OpenParen ∷ Part sorts.Expr ∷ a kinds.CloseParen ∷ Part sorts.Stmt ∷ Parts rows.Otherwise ∷ []) (row_meets rows.StmtForm) refl
way_lawful grammar.a_while items o = lawful_ok (a kinds.While ∷ a kinds.OpenParen ∷ Part sorts.Expr ∷ a kinds.CloseParen ∷ Part sorts.Stmt ∷ []) (row_meets rows.StmtForm) refl
way_lawful grammar.a_do items o = lawful_ok (a kinds.Do ∷ Part sorts.Stmt ∷ a kinds.While ∷ a kinds.OpenParen ∷ Part sorts.Expr ∷ a kinds.CloseParen ∷ a kinds.Semicolon ∷ []) (row_meets rows.StmtForm) refl
way_lawful grammar.a_for items o = lawful_ok (a kinds.For ∷ a kinds.OpenParen ∷ Parts (rows.Maybe sorts.ForInit) ∷ a kinds.Semicolon ∷ Parts (rows.Maybe sorts.Expr) ∷ a kinds.Semicolon ∷ Parts (rows.Series sorts.Effect) ∷ a kinds.CloseParen ∷ Part sorts.Stmt ∷ []) (row_meets rows.StmtForm) refl
way_lawful grammar.labelled items o = lawful_ok (name ∷ a kinds.Colon ∷ Part sorts.Stmt ∷ []) (row_meets rows.StmtForm) refl
way_lawful grammar.a_break items o = lawful_ok (a kinds.Break ∷ Parts rows.Label ∷ a kinds.Semicolon ∷ []) (row_meets rows.StmtForm) refl
way_lawful grammar.a_continue items o = lawful_ok (a kinds.Continue ∷ Parts rows.Label ∷ a kinds.Semicolon ∷ []) (row_meets rows.StmtForm) refl
way_lawful grammar.a_return items o = lawful_ok (a kinds.Return ∷ Parts (rows.Maybe sorts.Expr) ∷ a kinds.Semicolon ∷ []) (row_meets rows.StmtForm) refl
way_lawful grammar.a_throw items o = lawful_ok (a kinds.Throw ∷ Part sorts.Expr ∷ a kinds.Semicolon ∷ []) (row_meets rows.StmtForm) refl
way_lawful grammar.a_try items o = lawful_ok (a kinds.Try ∷ Part sorts.Block ∷ Parts rows.Handlers ∷ []) (row_meets rows.StmtForm) refl
way_lawful grammar.no_else items o = lawful_ok ([]) (row_meets rows.Otherwise) refl
way_lawful grammar.an_else items o = lawful_ok (a kinds.Else ∷ Part sorts.Stmt ∷ []) (row_meets rows.Otherwise) refl
way_lawful grammar.no_label items o = lawful_ok ([]) (row_meets rows.Label) refl
way_lawful grammar.label items o = lawful_ok (name ∷ []) (row_meets rows.Label) refl
way_lawful grammar.catches items o = lawful_ok (Part sorts.Catch ∷ Parts (rows.Any sorts.Catch) ∷ Parts rows.Finally ∷ []) (row_meets rows.Handlers) refl
way_lawful grammar.only_finally items o = lawful_ok (a kinds.Finally ∷ Part sorts.Block ∷ []) (row_meets rows.Handlers) refl
way_lawful grammar.no_finally items o = lawful_ok ([]) (row_meets rows.Finally) refl
way_lawful grammar.finally items o = lawful_ok (a kinds.Finally ∷ Part sorts.Block ∷ []) (row_meets rows.Finally) refl
way_lawful grammar.for_declaration items o = lawful_ok (Parts rows.MaybeFinal ∷ Part sorts.Type ∷ Part sorts.Decls ∷ []) (row_meets rows.ForInitForm) refl
way_lawful grammar.for_effects items o = lawful_ok (Part sorts.Effect ∷ Parts (rows.Further sorts.Effect) ∷ []) (row_meets rows.ForInitForm) refl
way_lawful grammar.not_assigned items o = lawful_ok ([]) (row_meets rows.Assigned) refl
way_lawful grammar.assigned items o = lawful_ok (One Setting ∷ Part sorts.Expr ∷ []) (row_meets rows.Assigned) refl
way_lawful grammar.no_choice items o = lawful_ok ([]) (row_meets rows.Choice) refl
way_lawful grammar.choice items o = lawful_ok (a kinds.Question ∷ Part sorts.Expr ∷ a kinds.Colon ∷ Part sorts.Cond ∷ []) (row_meets rows.Choice) refl
way_lawful grammar.negated items o = lawful_ok (a kinds.Minus ∷ Parts rows.Negated ∷ []) (row_meets rows.UnaryForm) refl
way_lawful grammar.prefixed items o = lawful_ok (One Prefixing ∷ Part sorts.Unary ∷ []) (row_meets rows.UnaryForm) refl
way_lawful grammar.a_cast items o = lawful_ok (Part sorts.Cast ∷ []) (row_meets rows.UnaryForm) refl
way_lawful grammar.a_postfix items o = lawful_ok (Part sorts.Postfix ∷ []) (row_meets rows.UnaryForm) refl
way_lawful grammar.big items o = lawful_ok (a kinds.Big ∷ []) (row_meets rows.Negated) refl
way_lawful grammar.small items o = lawful_ok (Part sorts.Unary ∷ []) (row_meets rows.Negated) refl
way_lawful grammar.to_primitive items o = lawful_ok (a kinds.Prim ∷ a kinds.CloseParen ∷ Part sorts.Unary ∷ []) (row_meets rows.CastForm) refl
way_lawful grammar.to_reference items o = lawful_ok (Part sorts.RefType ∷ a kinds.CloseParen ∷ Part sorts.Operand ∷ []) (row_meets rows.CastForm) refl
way_lawful grammar.no_steps items o = lawful_ok ([]) (row_meets rows.Steps) refl
way_lawful grammar.steps items o = lawful_ok (a kinds.Step ∷ Parts rows.Steps ∷ []) (row_meets rows.Steps) refl
way_lawful grammar.literal items o = lawful_ok (a kinds.Literal ∷ []) (row_meets rows.PrimaryForm) refl
way_lawful grammar.this items o = lawful_ok (a kinds.This ∷ []) (row_meets rows.PrimaryForm) refl
way_lawful grammar.named items o = lawful_ok (name ∷ Parts (rows.Maybe sorts.Args) ∷ []) (row_meets rows.PrimaryForm) refl
way_lawful grammar.grouped items o = lawful_ok (a kinds.OpenParen ∷ Part sorts.Expr ∷ a kinds.CloseParen ∷ []) (row_meets rows.PrimaryForm) refl
way_lawful grammar.created items o = lawful_ok (Part sorts.New ∷ []) (row_meets rows.PrimaryForm) refl
way_lawful grammar.inherited items o = lawful_ok (a kinds.Super ∷ a kinds.Dot ∷ name ∷ Parts (rows.Maybe sorts.Args) ∷ []) (row_meets rows.PrimaryForm) refl
way_lawful grammar.an_object items o = lawful_ok (name ∷ Part sorts.Args ∷ []) (row_meets rows.NewForm) refl
way_lawful grammar.sized items o = lawful_ok (One Element ∷ a kinds.OpenBracket ∷ Part sorts.Expr ∷ a kinds.CloseBracket ∷ Parts rows.Dimensions ∷ []) (row_meets rows.NewForm) refl
way_lawful grammar.listed items o = lawful_ok (One Element ∷ a kinds.OpenBracket ∷ a kinds.CloseBracket ∷ Parts rows.Brackets ∷ a kinds.OpenBrace ∷ Parts rows.Elements ∷ a kinds.CloseBrace ∷ []) (row_meets rows.NewForm) refl
way_lawful grammar.no_dimensions items o = lawful_ok ([]) (row_meets rows.Dimensions) refl
way_lawful grammar.dimension items o = lawful_ok (a kinds.OpenBracket ∷ Part sorts.Expr ∷ a kinds.CloseBracket ∷ Parts rows.Dimensions ∷ []) (row_meets rows.Dimensions) refl
way_lawful grammar.unsized items o = lawful_ok (a kinds.OpenBracket ∷ a kinds.CloseBracket ∷ Parts rows.Brackets ∷ []) (row_meets rows.Dimensions) refl

pub suffix_lawful : {x : Sort} {items : List Item} → Suffix x items → Lawful items (meets x)
unfolding every
suffix_lawful (grammar.operator {x = sorts.OrElse} e) = ((λ k f. f), refl, tt)
suffix_lawful (grammar.operator {x = sorts.AndAlso} e) = ((λ k f. f), refl, tt)
suffix_lawful (grammar.operator {x = sorts.Or} e) = ((λ k f. f), refl, tt)
suffix_lawful (grammar.operator {x = sorts.Xor} e) = ((λ k f. f), refl, tt)
suffix_lawful (grammar.operator {x = sorts.And} e) = ((λ k f. f), refl, tt)
suffix_lawful (grammar.operator {x = sorts.Equality} e) = ((λ k f. f), refl, tt)
suffix_lawful (grammar.operator {x = sorts.Relation} e) = ((λ k f. f), refl, tt)
suffix_lawful (grammar.operator {x = sorts.Shift} e) = ((λ k f. f), refl, tt)
suffix_lawful (grammar.operator {x = sorts.Sum} e) = ((λ k f. f), refl, tt)
suffix_lawful (grammar.operator {x = sorts.Product} e) = ((λ k f. f), refl, tt)
suffix_lawful (grammar.operator {x} e) = absurd (cc)
suffix_lawful grammar.instance_of = lawful_ok (a kinds.Instanceof ∷ Part sorts.RefType ∷ []) (meets sorts.Relation) refl
suffix_lawful grammar.member = lawful_ok (a kinds.Dot ∷ name ∷ Parts (rows.Maybe sorts.Args) ∷ []) (meets sorts.Primary) refl
suffix_lawful grammar.element = lawful_ok (a kinds.OpenBracket ∷ Part sorts.Expr ∷ a kinds.CloseBracket ∷ []) (meets sorts.Primary) refl

no_operator : (x : Sort) (k : Kind) → operates x k ≡ false → continued_level x k ≡ None
unfolding continued_level
no_operator x k e = ap (λ b. if b then Some (a k ∷ Part (tighter x) ∷ []) else None) e

no_instanceof : (k : Kind) → same k kinds.Instanceof ≡ false → continued_level sorts.Relation k ≡ None → continued_relation k ≡ None
unfolding continued_relation
no_instanceof k e f = ap (λ b. if b then Some (a kinds.Instanceof ∷ Part sorts.RefType ∷ []) else continued_level sorts.Relation k) e ∙ f

no_selector : (k : Kind) → same k kinds.Dot ≡ false → same k kinds.OpenBracket ≡ false → continued_primary k ≡ None
unfolding continued_primary
no_selector k e f =
    let element : Option (List Item) = Some (a kinds.OpenBracket ∷ Part sorts.Expr ∷ a kinds.CloseBracket ∷ []) in
    ap (λ b. if b then Some (a kinds.Dot ∷ name ∷ Parts (rows.Maybe sorts.Args) ∷ []) else (if same k kinds.OpenBracket then element else None)) e
    ∙ ap (λ b. if b then element else None) f

stop_OrElse : (k : Kind) → ends sorts.OrElse k ≡ true → continued_level sorts.OrElse k ≡ None
unfolding every
stop_OrElse k e = no_operator sorts.OrElse k (is_false (operates sorts.OrElse k) (implied (ends sorts.OrElse) (λ k. not (operates sorts.OrElse k)) refl k e))

meets_OrElse : (k : Kind) → ends sorts.OrElse k ≡ true → meets sorts.OrElse k ≡ true
unfolding every
meets_OrElse k e = implied (ends sorts.OrElse) (meets sorts.OrElse) refl k e

stop_AndAlso : (k : Kind) → ends sorts.AndAlso k ≡ true → continued_level sorts.AndAlso k ≡ None
unfolding every
stop_AndAlso k e = no_operator sorts.AndAlso k (is_false (operates sorts.AndAlso k) (implied (ends sorts.AndAlso) (λ k. not (operates sorts.AndAlso k)) refl k e))

meets_AndAlso : (k : Kind) → ends sorts.AndAlso k ≡ true → meets sorts.AndAlso k ≡ true
unfolding every
meets_AndAlso k e = implied (ends sorts.AndAlso) (meets sorts.AndAlso) refl k e

stop_Or : (k : Kind) → ends sorts.Or k ≡ true → continued_level sorts.Or k ≡ None
unfolding every
stop_Or k e = no_operator sorts.Or k (is_false (operates sorts.Or k) (implied (ends sorts.Or) (λ k. not (operates sorts.Or k)) refl k e))

meets_Or : (k : Kind) → ends sorts.Or k ≡ true → meets sorts.Or k ≡ true
unfolding every
meets_Or k e = implied (ends sorts.Or) (meets sorts.Or) refl k e

stop_Xor : (k : Kind) → ends sorts.Xor k ≡ true → continued_level sorts.Xor k ≡ None
unfolding every
stop_Xor k e = no_operator sorts.Xor k (is_false (operates sorts.Xor k) (implied (ends sorts.Xor) (λ k. not (operates sorts.Xor k)) refl k e))

meets_Xor : (k : Kind) → ends sorts.Xor k ≡ true → meets sorts.Xor k ≡ true
unfolding every
meets_Xor k e = implied (ends sorts.Xor) (meets sorts.Xor) refl k e

stop_And : (k : Kind) → ends sorts.And k ≡ true → continued_level sorts.And k ≡ None
unfolding every
stop_And k e = no_operator sorts.And k (is_false (operates sorts.And k) (implied (ends sorts.And) (λ k. not (operates sorts.And k)) refl k e))

meets_And : (k : Kind) → ends sorts.And k ≡ true → meets sorts.And k ≡ true
unfolding every
meets_And k e = implied (ends sorts.And) (meets sorts.And) refl k e

stop_Equality : (k : Kind) → ends sorts.Equality k ≡ true → continued_level sorts.Equality k ≡ None
unfolding every
stop_Equality k e = no_operator sorts.Equality k (is_false (operates sorts.Equality k) (implied (ends sorts.Equality) (λ k. not (operates sorts.Equality k)) refl k e))

meets_Equality : (k : Kind) → ends sorts.Equality k ≡ true → meets sorts.Equality k ≡ true
unfolding every
meets_Equality k e = implied (ends sorts.Equality) (meets sorts.Equality) refl k e

stop_Relation : (k : Kind) → ends sorts.Relation k ≡ true → continued_level sorts.Relation k ≡ None
unfolding every
stop_Relation k e = no_operator sorts.Relation k (is_false (operates sorts.Relation k) (implied (ends sorts.Relation) (λ k. not (operates sorts.Relation k)) refl k e))

meets_Relation : (k : Kind) → ends sorts.Relation k ≡ true → meets sorts.Relation k ≡ true
unfolding every
meets_Relation k e = implied (ends sorts.Relation) (meets sorts.Relation) refl k e

stop_Shift : (k : Kind) → ends sorts.Shift k ≡ true → continued_level sorts.Shift k ≡ None
unfolding every
stop_Shift k e = no_operator sorts.Shift k (is_false (operates sorts.Shift k) (implied (ends sorts.Shift) (λ k. not (operates sorts.Shift k)) refl k e))

meets_Shift : (k : Kind) → ends sorts.Shift k ≡ true → meets sorts.Shift k ≡ true
unfolding every
meets_Shift k e = implied (ends sorts.Shift) (meets sorts.Shift) refl k e

stop_Sum : (k : Kind) → ends sorts.Sum k ≡ true → continued_level sorts.Sum k ≡ None
unfolding every
stop_Sum k e = no_operator sorts.Sum k (is_false (operates sorts.Sum k) (implied (ends sorts.Sum) (λ k. not (operates sorts.Sum k)) refl k e))

meets_Sum : (k : Kind) → ends sorts.Sum k ≡ true → meets sorts.Sum k ≡ true
unfolding every
meets_Sum k e = implied (ends sorts.Sum) (meets sorts.Sum) refl k e

stop_Product : (k : Kind) → ends sorts.Product k ≡ true → continued_level sorts.Product k ≡ None
unfolding every
stop_Product k e = no_operator sorts.Product k (is_false (operates sorts.Product k) (implied (ends sorts.Product) (λ k. not (operates sorts.Product k)) refl k e))

meets_Product : (k : Kind) → ends sorts.Product k ≡ true → meets sorts.Product k ≡ true
unfolding every
meets_Product k e = implied (ends sorts.Product) (meets sorts.Product) refl k e

stop_relation : (k : Kind) → ends sorts.Relation k ≡ true → continued_relation k ≡ None
unfolding every
stop_relation k e = no_instanceof k (is_false (same k kinds.Instanceof) (implied (ends sorts.Relation) (λ k. not (same k kinds.Instanceof)) refl k e)) (stop_Relation k e)

stop_primary : (k : Kind) → ends sorts.Primary k ≡ true → continued_primary k ≡ None
unfolding every
stop_primary k e =
    no_selector k (is_false (same k kinds.Dot) (implied (ends sorts.Primary) (λ k. not (same k kinds.Dot)) refl k e))
    (is_false (same k kinds.OpenBracket) (implied (ends sorts.Primary) (λ k. not (same k kinds.OpenBracket)) refl k e))

meets_Primary : (k : Kind) → ends sorts.Primary k ≡ true → meets sorts.Primary k ≡ true
unfolding every
meets_Primary k e = implied (ends sorts.Primary) (meets sorts.Primary) refl k e

-- what follows a whole tree does not go on with it
pub no_more : (x : Sort) (s : List Tok) → ends x (first_kind s) ≡ true → continued x s ≡ None
unfolding continued_level
no_more sorts.OrElse s e = stop_OrElse (first_kind s) e
no_more sorts.AndAlso s e = stop_AndAlso (first_kind s) e
no_more sorts.Or s e = stop_Or (first_kind s) e
no_more sorts.Xor s e = stop_Xor (first_kind s) e
no_more sorts.And s e = stop_And (first_kind s) e
no_more sorts.Equality s e = stop_Equality (first_kind s) e
no_more sorts.Relation s e = stop_relation (first_kind s) e
no_more sorts.Shift s e = stop_Shift (first_kind s) e
no_more sorts.Sum s e = stop_Sum (first_kind s) e
no_more sorts.Product s e = stop_Product (first_kind s) e
no_more sorts.Primary s e = stop_primary (first_kind s) e
no_more x s e = refl

pub ends_meets : (x : Sort) (k : Kind) → ends x k ≡ true → meets x k ≡ true
ends_meets sorts.OrElse k e = meets_OrElse k e
ends_meets sorts.AndAlso k e = meets_AndAlso k e
ends_meets sorts.Or k e = meets_Or k e
ends_meets sorts.Xor k e = meets_Xor k e
ends_meets sorts.And k e = meets_And k e
ends_meets sorts.Equality k e = meets_Equality k e
ends_meets sorts.Relation k e = meets_Relation k e
ends_meets sorts.Shift k e = meets_Shift k e
ends_meets sorts.Sum k e = meets_Sum k e
ends_meets sorts.Product k e = meets_Product k e
ends_meets sorts.Primary k e = meets_Primary k e
ends_meets sorts.Unit k e = absurd (cc)
ends_meets x k e = e
