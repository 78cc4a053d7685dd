-- The way of a row that its first token alone tells.
use Rattle.std.proofs.Common.{Bool, true, false, not, ◌&&◌, if◌then◌else◌, ◌≡◌, List, [], ◌∷◌, refl, ◌∙◌}
use Rattle.wy_tree.specs.Seen.{Tok}
use Rattle.wy_tree.specs.Kinds.{same}
use Rattle.wy_tree.specs.Conditions.{is_name}
use Rattle.wy_tree.specs.Grammar.{a, name, is_setting}
use Rattle.wy_tree.specs.declared.kind.Kind.{Kind}
use Rattle.wy_tree.specs.declared.kind.Kind.TheVariants as kinds
use Rattle.wy_tree.specs.declared.grammar.Class.TheVariants.{Modifying, Setting}
use Rattle.wy_tree.specs.declared.grammar.Sort.{Sort}
use Rattle.wy_tree.specs.declared.grammar.Sort.TheVariants as sorts
use Rattle.wy_tree.specs.declared.grammar.Row.TheVariants as rows
use Rattle.wy_tree.specs.declared.grammar.Item.{Item}
use Rattle.wy_tree.specs.declared.grammar.Item.TheVariants.{One, Part, Parts}
use Rattle.wy_parser.specs.Prediction.{first_kind, second, comes, is_there, begun, predict_list, predict_method, predict_declaration, predict_member, predict_elements, predict_initial, predict_leaving, predict_looping, predict_statement_form, predict_statement, predict_operator, predict_primary, predict_member_form}
use Rattle.wy_parser.proofs.Truth.{and_left, is_not, not_not}
use Rattle.wy_parser.proofs.Firsts.{begins, first_in, every, implied}
use Rattle.wy_parser.proofs.Follows.{ends, row_meets, occurs}

pub here : (b : Bool) (items : List Item) → b ≡ true → begun b items ≡ items
here true items e = refl
here false items e = absurd (cc)

pub absent_here : (b : Bool) (items : List Item) → not b ≡ true → begun b items ≡ []
absent_here true items e = absurd (cc)
absent_here false items e = refl

pub yes : (b : Bool) (x y : List Item) → b ≡ true → (if b then x else y) ≡ x
yes true x y e = refl
yes false x y e = absurd (cc)

pub no : (b : Bool) (x y : List Item) → not b ≡ true → (if b then x else y) ≡ y
no true x y e = absurd (cc)
no false x y e = refl

comes_first : (x : Sort) (items : List Item) → occurs (rows.Any x) items ≡ true → (k : Kind) → begins x k ≡ true → comes x k ≡ true
unfolding every
comes_first sorts.Declaration items o k e = implied (begins sorts.Declaration) (comes sorts.Declaration) refl k e
comes_first sorts.Mod items o k e = implied (begins sorts.Mod) (comes sorts.Mod) refl k e
comes_first sorts.Member items o k e = implied (begins sorts.Member) (comes sorts.Member) refl k e
comes_first sorts.Local items o k e = implied (begins sorts.Local) (comes sorts.Local) refl k e
comes_first sorts.Catch items o k e = implied (begins sorts.Catch) (comes sorts.Catch) refl k e
comes_first x items o k e = absurd (cc)

is_there_first : (x : Sort) (items : List Item) → occurs (rows.Maybe x) items ≡ true → (k : Kind) → begins x k ≡ true → is_there x k ≡ true
unfolding every
is_there_first sorts.Throws items o k e = implied (begins sorts.Throws) (is_there sorts.Throws) refl k e
is_there_first sorts.Args items o k e = implied (begins sorts.Args) (is_there sorts.Args) refl k e
is_there_first sorts.ForInit items o k e = implied (begins sorts.ForInit) (is_there sorts.ForInit) refl k e
is_there_first sorts.Expr items o k e = implied (begins sorts.Expr) (is_there sorts.Expr) refl k e
is_there_first x items o k e = absurd (cc)

no_end_first : (x : Sort) (items : List Item) → occurs (rows.Series x) items ≡ true → (k : Kind) → begins x k ≡ true → not (same k kinds.CloseParen) ≡ true
unfolding every
no_end_first sorts.Param items o k e = implied (begins sorts.Param) (λ k. not (same k kinds.CloseParen)) refl k e
no_end_first sorts.Expr items o k e = implied (begins sorts.Expr) (λ k. not (same k kinds.CloseParen)) refl k e
no_end_first sorts.Effect items o k e = implied (begins sorts.Effect) (λ k. not (same k kinds.CloseParen)) refl k e
no_end_first x items o k e = absurd (cc)

pub tells_none_of : (x : Sort) (u : List Tok) → row_meets (rows.Any x) (first_kind u) ≡ true → predict_list (rows.Any x) u ≡ []
unfolding predict_list
tells_none_of x u f = absent_here (comes x (first_kind u)) (Part x ∷ Parts (rows.Any x) ∷ []) f

pub tells_some_of : (x : Sort) (items : List Item) → occurs (rows.Any x) items ≡ true → (u : List Tok) → begins x (first_kind u) ≡ true → predict_list (rows.Any x) u ≡ Part x ∷ Parts (rows.Any x) ∷ []
unfolding predict_list
tells_some_of x items o u f = here (comes x (first_kind u)) (Part x ∷ Parts (rows.Any x) ∷ []) (comes_first x items o (first_kind u) f)

pub tells_absent : (x : Sort) (u : List Tok) → row_meets (rows.Maybe x) (first_kind u) ≡ true → predict_list (rows.Maybe x) u ≡ []
unfolding predict_list
tells_absent x u f = absent_here (is_there x (first_kind u)) (Part x ∷ []) (and_left (not (is_there x (first_kind u))) (ends x (first_kind u)) f)

pub tells_present : (x : Sort) (items : List Item) → occurs (rows.Maybe x) items ≡ true → (u : List Tok) → begins x (first_kind u) ≡ true → predict_list (rows.Maybe x) u ≡ Part x ∷ []
unfolding predict_list
tells_present x items o u f = here (is_there x (first_kind u)) (Part x ∷ []) (is_there_first x items o (first_kind u) f)

pub tells_no_series : (x : Sort) (u : List Tok) → row_meets (rows.Series x) (first_kind u) ≡ true → predict_list (rows.Series x) u ≡ []
unfolding predict_list
tells_no_series x u f = absent_here (not (same (first_kind u) kinds.CloseParen)) (Part x ∷ Parts (rows.Further x) ∷ []) (not_not (same (first_kind u) kinds.CloseParen) f)

pub tells_series : (x : Sort) (items : List Item) → occurs (rows.Series x) items ≡ true → (u : List Tok) → begins x (first_kind u) ≡ true → predict_list (rows.Series x) u ≡ Part x ∷ Parts (rows.Further x) ∷ []
unfolding predict_list
tells_series x items o u f = here (not (same (first_kind u) kinds.CloseParen)) (Part x ∷ Parts (rows.Further x) ∷ []) (no_end_first x items o (first_kind u) f)

pub tells_no_further : (x : Sort) (u : List Tok) → row_meets (rows.Further x) (first_kind u) ≡ true → predict_list (rows.Further x) u ≡ []
unfolding predict_list
tells_no_further x u f = absent_here (same (first_kind u) kinds.Comma) (a kinds.Comma ∷ Part x ∷ Parts (rows.Further x) ∷ []) (and_left (not (same (first_kind u) kinds.Comma)) (ends x (first_kind u)) f)

pub tells_further : (x : Sort) (u : List Tok) → same (first_kind u) kinds.Comma ≡ true → predict_list (rows.Further x) u ≡ a kinds.Comma ∷ Part x ∷ Parts (rows.Further x) ∷ []
unfolding predict_list
tells_further x u f = here (same (first_kind u) kinds.Comma) (a kinds.Comma ∷ Part x ∷ Parts (rows.Further x) ∷ []) f

pub tells_names : (u : List Tok) → first_in (a kinds.Comma ∷ name ∷ Parts rows.Names ∷ []) (row_meets rows.Names) (first_kind u) ≡ true → predict_list rows.Names u ≡ a kinds.Comma ∷ name ∷ Parts rows.Names ∷ []
unfolding predict_list every
tells_names u f = here (same (first_kind u) kinds.Comma) (a kinds.Comma ∷ name ∷ Parts rows.Names ∷ []) (implied (first_in (a kinds.Comma ∷ name ∷ Parts rows.Names ∷ []) (row_meets rows.Names)) (λ k. same k kinds.Comma) refl (first_kind u) f)

pub tells_no_names : (u : List Tok) → row_meets rows.Names (first_kind u) ≡ true → predict_list rows.Names u ≡ []
unfolding predict_list every
tells_no_names u f = absent_here (same (first_kind u) kinds.Comma) (a kinds.Comma ∷ name ∷ Parts rows.Names ∷ []) (implied (row_meets rows.Names) (λ k. not (same k kinds.Comma)) refl (first_kind u) f)

pub tells_brackets : (u : List Tok) → first_in (a kinds.OpenBracket ∷ a kinds.CloseBracket ∷ Parts rows.Brackets ∷ []) (row_meets rows.Brackets) (first_kind u) ≡ true → predict_list rows.Brackets u ≡ a kinds.OpenBracket ∷ a kinds.CloseBracket ∷ Parts rows.Brackets ∷ []
unfolding predict_list every
tells_brackets u f = here (same (first_kind u) kinds.OpenBracket) (a kinds.OpenBracket ∷ a kinds.CloseBracket ∷ Parts rows.Brackets ∷ []) (implied (first_in (a kinds.OpenBracket ∷ a kinds.CloseBracket ∷ Parts rows.Brackets ∷ []) (row_meets rows.Brackets)) (λ k. same k kinds.OpenBracket) refl (first_kind u) f)

pub tells_no_brackets : (u : List Tok) → row_meets rows.Brackets (first_kind u) ≡ true → predict_list rows.Brackets u ≡ []
unfolding predict_list every
tells_no_brackets u f = absent_here (same (first_kind u) kinds.OpenBracket) (a kinds.OpenBracket ∷ a kinds.CloseBracket ∷ Parts rows.Brackets ∷ []) (implied (row_meets rows.Brackets) (λ k. not (same k kinds.OpenBracket)) refl (first_kind u) f)

pub tells_is_final : (u : List Tok) → first_in (a kinds.Final ∷ []) (row_meets rows.MaybeFinal) (first_kind u) ≡ true → predict_list rows.MaybeFinal u ≡ a kinds.Final ∷ []
unfolding predict_list every
tells_is_final u f = here (same (first_kind u) kinds.Final) (a kinds.Final ∷ []) (implied (first_in (a kinds.Final ∷ []) (row_meets rows.MaybeFinal)) (λ k. same k kinds.Final) refl (first_kind u) f)

pub tells_not_final : (u : List Tok) → row_meets rows.MaybeFinal (first_kind u) ≡ true → predict_list rows.MaybeFinal u ≡ []
unfolding predict_list every
tells_not_final u f = absent_here (same (first_kind u) kinds.Final) (a kinds.Final ∷ []) (implied (row_meets rows.MaybeFinal) (λ k. not (same k kinds.Final)) refl (first_kind u) f)

pub tells_superclass : (u : List Tok) → first_in (a kinds.Extends ∷ name ∷ []) (row_meets rows.Superclass) (first_kind u) ≡ true → predict_declaration rows.Superclass u ≡ a kinds.Extends ∷ name ∷ []
unfolding predict_declaration every
tells_superclass u f = here (same (first_kind u) kinds.Extends) (a kinds.Extends ∷ name ∷ []) (implied (first_in (a kinds.Extends ∷ name ∷ []) (row_meets rows.Superclass)) (λ k. same k kinds.Extends) refl (first_kind u) f)

pub tells_no_superclass : (u : List Tok) → row_meets rows.Superclass (first_kind u) ≡ true → predict_declaration rows.Superclass u ≡ []
unfolding predict_declaration every
tells_no_superclass u f = absent_here (same (first_kind u) kinds.Extends) (a kinds.Extends ∷ name ∷ []) (implied (row_meets rows.Superclass) (λ k. not (same k kinds.Extends)) refl (first_kind u) f)

pub tells_interfaces : (u : List Tok) → first_in (a kinds.Implements ∷ name ∷ Parts rows.Names ∷ []) (row_meets rows.Interfaces) (first_kind u) ≡ true → predict_declaration rows.Interfaces u ≡ a kinds.Implements ∷ name ∷ Parts rows.Names ∷ []
unfolding predict_declaration every
tells_interfaces u f = here (same (first_kind u) kinds.Implements) (a kinds.Implements ∷ name ∷ Parts rows.Names ∷ []) (implied (first_in (a kinds.Implements ∷ name ∷ Parts rows.Names ∷ []) (row_meets rows.Interfaces)) (λ k. same k kinds.Implements) refl (first_kind u) f)

pub tells_no_interfaces : (u : List Tok) → row_meets rows.Interfaces (first_kind u) ≡ true → predict_declaration rows.Interfaces u ≡ []
unfolding predict_declaration every
tells_no_interfaces u f = absent_here (same (first_kind u) kinds.Implements) (a kinds.Implements ∷ name ∷ Parts rows.Names ∷ []) (implied (row_meets rows.Interfaces) (λ k. not (same k kinds.Implements)) refl (first_kind u) f)

pub tells_supers : (u : List Tok) → first_in (a kinds.Extends ∷ name ∷ Parts rows.Names ∷ []) (row_meets rows.Supers) (first_kind u) ≡ true → predict_declaration rows.Supers u ≡ a kinds.Extends ∷ name ∷ Parts rows.Names ∷ []
unfolding predict_declaration every
tells_supers u f = here (same (first_kind u) kinds.Extends) (a kinds.Extends ∷ name ∷ Parts rows.Names ∷ []) (implied (first_in (a kinds.Extends ∷ name ∷ Parts rows.Names ∷ []) (row_meets rows.Supers)) (λ k. same k kinds.Extends) refl (first_kind u) f)

pub tells_no_supers : (u : List Tok) → row_meets rows.Supers (first_kind u) ≡ true → predict_declaration rows.Supers u ≡ []
unfolding predict_declaration every
tells_no_supers u f = absent_here (same (first_kind u) kinds.Extends) (a kinds.Extends ∷ name ∷ Parts rows.Names ∷ []) (implied (row_meets rows.Supers) (λ k. not (same k kinds.Extends)) refl (first_kind u) f)

pub tells_initial : (u : List Tok) → first_in (a kinds.Assign ∷ Part sorts.Init ∷ []) (row_meets rows.Initial) (first_kind u) ≡ true → predict_initial rows.Initial u ≡ a kinds.Assign ∷ Part sorts.Init ∷ []
unfolding predict_initial every
tells_initial u f = here (same (first_kind u) kinds.Assign) (a kinds.Assign ∷ Part sorts.Init ∷ []) (implied (first_in (a kinds.Assign ∷ Part sorts.Init ∷ []) (row_meets rows.Initial)) (λ k. same k kinds.Assign) refl (first_kind u) f)

pub tells_no_initial : (u : List Tok) → row_meets rows.Initial (first_kind u) ≡ true → predict_initial rows.Initial u ≡ []
unfolding predict_initial every
tells_no_initial u f = absent_here (same (first_kind u) kinds.Assign) (a kinds.Assign ∷ Part sorts.Init ∷ []) (implied (row_meets rows.Initial) (λ k. not (same k kinds.Assign)) refl (first_kind u) f)

pub tells_more_elements : (u : List Tok) → first_in (a kinds.Comma ∷ Parts rows.AfterComma ∷ []) (row_meets rows.MoreElements) (first_kind u) ≡ true → predict_initial rows.MoreElements u ≡ a kinds.Comma ∷ Parts rows.AfterComma ∷ []
unfolding predict_initial every
tells_more_elements u f = here (same (first_kind u) kinds.Comma) (a kinds.Comma ∷ Parts rows.AfterComma ∷ []) (implied (first_in (a kinds.Comma ∷ Parts rows.AfterComma ∷ []) (row_meets rows.MoreElements)) (λ k. same k kinds.Comma) refl (first_kind u) f)

pub tells_no_more_elements : (u : List Tok) → row_meets rows.MoreElements (first_kind u) ≡ true → predict_initial rows.MoreElements u ≡ []
unfolding predict_initial every
tells_no_more_elements u f = absent_here (same (first_kind u) kinds.Comma) (a kinds.Comma ∷ Parts rows.AfterComma ∷ []) (implied (row_meets rows.MoreElements) (λ k. not (same k kinds.Comma)) refl (first_kind u) f)

pub tells_comma_between : (u : List Tok) → first_in (Part sorts.Init ∷ Parts rows.MoreElements ∷ []) (row_meets rows.AfterComma) (first_kind u) ≡ true → predict_initial rows.AfterComma u ≡ Part sorts.Init ∷ Parts rows.MoreElements ∷ []
unfolding predict_initial every
tells_comma_between u f = here (not (same (first_kind u) kinds.CloseBrace)) (Part sorts.Init ∷ Parts rows.MoreElements ∷ []) (implied (first_in (Part sorts.Init ∷ Parts rows.MoreElements ∷ []) (row_meets rows.AfterComma)) (λ k. not (same k kinds.CloseBrace)) refl (first_kind u) f)

pub tells_comma_last : (u : List Tok) → row_meets rows.AfterComma (first_kind u) ≡ true → predict_initial rows.AfterComma u ≡ []
unfolding predict_initial every
tells_comma_last u f = absent_here (not (same (first_kind u) kinds.CloseBrace)) (Part sorts.Init ∷ Parts rows.MoreElements ∷ []) (implied (row_meets rows.AfterComma) (λ k. not (not (same k kinds.CloseBrace))) refl (first_kind u) f)

pub tells_label : (u : List Tok) → first_in (name ∷ []) (row_meets rows.Label) (first_kind u) ≡ true → predict_statement rows.Label u ≡ name ∷ []
unfolding predict_statement every
tells_label u f = here (is_name (first_kind u)) (name ∷ []) (implied (first_in (name ∷ []) (row_meets rows.Label)) is_name refl (first_kind u) f)

pub tells_no_label : (u : List Tok) → row_meets rows.Label (first_kind u) ≡ true → predict_statement rows.Label u ≡ []
unfolding predict_statement every
tells_no_label u f = absent_here (is_name (first_kind u)) (name ∷ []) (implied (row_meets rows.Label) (λ k. not (is_name k)) refl (first_kind u) f)

pub tells_finally : (u : List Tok) → first_in (a kinds.Finally ∷ Part sorts.Block ∷ []) (row_meets rows.Finally) (first_kind u) ≡ true → predict_statement rows.Finally u ≡ a kinds.Finally ∷ Part sorts.Block ∷ []
unfolding predict_statement every
tells_finally u f = here (same (first_kind u) kinds.Finally) (a kinds.Finally ∷ Part sorts.Block ∷ []) (implied (first_in (a kinds.Finally ∷ Part sorts.Block ∷ []) (row_meets rows.Finally)) (λ k. same k kinds.Finally) refl (first_kind u) f)

pub tells_no_finally : (u : List Tok) → row_meets rows.Finally (first_kind u) ≡ true → predict_statement rows.Finally u ≡ []
unfolding predict_statement every
tells_no_finally u f = absent_here (same (first_kind u) kinds.Finally) (a kinds.Finally ∷ Part sorts.Block ∷ []) (implied (row_meets rows.Finally) (λ k. not (same k kinds.Finally)) refl (first_kind u) f)

pub tells_assigned : (u : List Tok) → first_in (One Setting ∷ Part sorts.Expr ∷ []) (row_meets rows.Assigned) (first_kind u) ≡ true → predict_operator rows.Assigned u ≡ One Setting ∷ Part sorts.Expr ∷ []
unfolding predict_operator every
tells_assigned u f = here (is_setting (first_kind u)) (One Setting ∷ Part sorts.Expr ∷ []) (implied (first_in (One Setting ∷ Part sorts.Expr ∷ []) (row_meets rows.Assigned)) is_setting refl (first_kind u) f)

pub tells_not_assigned : (u : List Tok) → row_meets rows.Assigned (first_kind u) ≡ true → predict_operator rows.Assigned u ≡ []
unfolding predict_operator every
tells_not_assigned u f = absent_here (is_setting (first_kind u)) (One Setting ∷ Part sorts.Expr ∷ []) (implied (row_meets rows.Assigned) (λ k. not (is_setting k)) refl (first_kind u) f)

pub tells_choice : (u : List Tok) → first_in (a kinds.Question ∷ Part sorts.Expr ∷ a kinds.Colon ∷ Part sorts.Cond ∷ []) (row_meets rows.Choice) (first_kind u) ≡ true → predict_operator rows.Choice u ≡ a kinds.Question ∷ Part sorts.Expr ∷ a kinds.Colon ∷ Part sorts.Cond ∷ []
unfolding predict_operator every
tells_choice u f = here (same (first_kind u) kinds.Question) (a kinds.Question ∷ Part sorts.Expr ∷ a kinds.Colon ∷ Part sorts.Cond ∷ []) (implied (first_in (a kinds.Question ∷ Part sorts.Expr ∷ a kinds.Colon ∷ Part sorts.Cond ∷ []) (row_meets rows.Choice)) (λ k. same k kinds.Question) refl (first_kind u) f)

pub tells_no_choice : (u : List Tok) → row_meets rows.Choice (first_kind u) ≡ true → predict_operator rows.Choice u ≡ []
unfolding predict_operator every
tells_no_choice u f = absent_here (same (first_kind u) kinds.Question) (a kinds.Question ∷ Part sorts.Expr ∷ a kinds.Colon ∷ Part sorts.Cond ∷ []) (implied (row_meets rows.Choice) (λ k. not (same k kinds.Question)) refl (first_kind u) f)

pub tells_steps : (u : List Tok) → first_in (a kinds.Step ∷ Parts rows.Steps ∷ []) (row_meets rows.Steps) (first_kind u) ≡ true → predict_operator rows.Steps u ≡ a kinds.Step ∷ Parts rows.Steps ∷ []
unfolding predict_operator every
tells_steps u f = here (same (first_kind u) kinds.Step) (a kinds.Step ∷ Parts rows.Steps ∷ []) (implied (first_in (a kinds.Step ∷ Parts rows.Steps ∷ []) (row_meets rows.Steps)) (λ k. same k kinds.Step) refl (first_kind u) f)

pub tells_no_steps : (u : List Tok) → row_meets rows.Steps (first_kind u) ≡ true → predict_operator rows.Steps u ≡ []
unfolding predict_operator every
tells_no_steps u f = absent_here (same (first_kind u) kinds.Step) (a kinds.Step ∷ Parts rows.Steps ∷ []) (implied (row_meets rows.Steps) (λ k. not (same k kinds.Step)) refl (first_kind u) f)

pub tells_an_else : (u : List Tok) → same (first_kind u) kinds.Else ≡ true → predict_statement rows.Otherwise u ≡ a kinds.Else ∷ Part sorts.Stmt ∷ []
unfolding predict_statement
tells_an_else u f = here (same (first_kind u) kinds.Else) (a kinds.Else ∷ Part sorts.Stmt ∷ []) f

pub tells_no_else : (u : List Tok) → same (first_kind u) kinds.Else ≡ false → predict_statement rows.Otherwise u ≡ []
unfolding predict_statement
tells_no_else u f = absent_here (same (first_kind u) kinds.Else) (a kinds.Else ∷ Part sorts.Stmt ∷ []) (is_not (same (first_kind u) kinds.Else) f)

pub tells_no_methods : (u : List Tok) → first_in ([]) (row_meets rows.Methods) (first_kind u) ≡ true → predict_declaration rows.Methods u ≡ []
unfolding predict_declaration predict_method every
tells_no_methods u f =
    yes (same (first_kind u) kinds.CloseBrace) _ _ (implied (first_in ([]) (row_meets rows.Methods)) (λ k. same k kinds.CloseBrace) refl (first_kind u) f)

pub tells_no_method : (u : List Tok) → first_in (a kinds.Semicolon ∷ Parts rows.Methods ∷ []) (row_meets rows.Methods) (first_kind u) ≡ true → predict_declaration rows.Methods u ≡ a kinds.Semicolon ∷ Parts rows.Methods ∷ []
unfolding predict_declaration predict_method every
tells_no_method u f =
    no (same (first_kind u) kinds.CloseBrace) _ _ (implied (first_in (a kinds.Semicolon ∷ Parts rows.Methods ∷ []) (row_meets rows.Methods)) (λ k. not (same k kinds.CloseBrace)) refl (first_kind u) f)
    ∙ yes (same (first_kind u) kinds.Semicolon) _ _ (implied (first_in (a kinds.Semicolon ∷ Parts rows.Methods ∷ []) (row_meets rows.Methods)) (λ k. same k kinds.Semicolon) refl (first_kind u) f)

pub tells_method : (u : List Tok) → first_in (Parts (rows.Any sorts.Mod) ∷ Part sorts.Result ∷ name ∷ Part sorts.Params ∷ Parts (rows.Maybe sorts.Throws) ∷ a kinds.Semicolon ∷ Parts rows.Methods ∷ []) (row_meets rows.Methods) (first_kind u) ≡ true → predict_declaration rows.Methods u ≡ Parts (rows.Any sorts.Mod) ∷ Part sorts.Result ∷ name ∷ Part sorts.Params ∷ Parts (rows.Maybe sorts.Throws) ∷ a kinds.Semicolon ∷ Parts rows.Methods ∷ []
unfolding predict_declaration predict_method every
tells_method u f =
    no (same (first_kind u) kinds.CloseBrace) _ _ (implied (first_in (Parts (rows.Any sorts.Mod) ∷ Part sorts.Result ∷ name ∷ Part sorts.Params ∷ Parts (rows.Maybe sorts.Throws) ∷ a kinds.Semicolon ∷ Parts rows.Methods ∷ []) (row_meets rows.Methods)) (λ k. not (same k kinds.CloseBrace)) refl (first_kind u) f)
    ∙ no (same (first_kind u) kinds.Semicolon) _ _ (implied (first_in (Parts (rows.Any sorts.Mod) ∷ Part sorts.Result ∷ name ∷ Part sorts.Params ∷ Parts (rows.Maybe sorts.Throws) ∷ a kinds.Semicolon ∷ Parts rows.Methods ∷ []) (row_meets rows.Methods)) (λ k. not (same k kinds.Semicolon)) refl (first_kind u) f)

pub tells_annotation : (u : List Tok) → first_in (a kinds.At ∷ a kinds.Override ∷ []) (row_meets rows.ModForm) (first_kind u) ≡ true → predict_declaration rows.ModForm u ≡ a kinds.At ∷ a kinds.Override ∷ []
unfolding predict_declaration every
tells_annotation u f =
    yes (same (first_kind u) kinds.At) _ _ (implied (first_in (a kinds.At ∷ a kinds.Override ∷ []) (row_meets rows.ModForm)) (λ k. same k kinds.At) refl (first_kind u) f)

pub tells_modifier : (u : List Tok) → first_in (One Modifying ∷ []) (row_meets rows.ModForm) (first_kind u) ≡ true → predict_declaration rows.ModForm u ≡ One Modifying ∷ []
unfolding predict_declaration every
tells_modifier u f =
    no (same (first_kind u) kinds.At) _ _ (implied (first_in (One Modifying ∷ []) (row_meets rows.ModForm)) (λ k. not (same k kinds.At)) refl (first_kind u) f)

pub tells_without_body : (u : List Tok) → first_in (a kinds.Semicolon ∷ []) (row_meets rows.MethodBody) (first_kind u) ≡ true → predict_member rows.MethodBody u ≡ a kinds.Semicolon ∷ []
unfolding predict_member every
tells_without_body u f =
    yes (same (first_kind u) kinds.Semicolon) _ _ (implied (first_in (a kinds.Semicolon ∷ []) (row_meets rows.MethodBody)) (λ k. same k kinds.Semicolon) refl (first_kind u) f)

pub tells_with_body : (u : List Tok) → first_in (Part sorts.Block ∷ []) (row_meets rows.MethodBody) (first_kind u) ≡ true → predict_member rows.MethodBody u ≡ Part sorts.Block ∷ []
unfolding predict_member every
tells_with_body u f =
    no (same (first_kind u) kinds.Semicolon) _ _ (implied (first_in (Part sorts.Block ∷ []) (row_meets rows.MethodBody)) (λ k. not (same k kinds.Semicolon)) refl (first_kind u) f)

pub tells_no_result : (u : List Tok) → first_in (a kinds.Void ∷ []) (row_meets rows.ResultForm) (first_kind u) ≡ true → predict_member rows.ResultForm u ≡ a kinds.Void ∷ []
unfolding predict_member every
tells_no_result u f =
    yes (same (first_kind u) kinds.Void) _ _ (implied (first_in (a kinds.Void ∷ []) (row_meets rows.ResultForm)) (λ k. same k kinds.Void) refl (first_kind u) f)

pub tells_a_result : (u : List Tok) → first_in (Part sorts.Type ∷ []) (row_meets rows.ResultForm) (first_kind u) ≡ true → predict_member rows.ResultForm u ≡ Part sorts.Type ∷ []
unfolding predict_member every
tells_a_result u f =
    no (same (first_kind u) kinds.Void) _ _ (implied (first_in (Part sorts.Type ∷ []) (row_meets rows.ResultForm)) (λ k. not (same k kinds.Void)) refl (first_kind u) f)

pub tells_an_array : (u : List Tok) → first_in (a kinds.OpenBrace ∷ Parts rows.Elements ∷ a kinds.CloseBrace ∷ []) (row_meets rows.InitForm) (first_kind u) ≡ true → predict_initial rows.InitForm u ≡ a kinds.OpenBrace ∷ Parts rows.Elements ∷ a kinds.CloseBrace ∷ []
unfolding predict_initial every
tells_an_array u f =
    yes (same (first_kind u) kinds.OpenBrace) _ _ (implied (first_in (a kinds.OpenBrace ∷ Parts rows.Elements ∷ a kinds.CloseBrace ∷ []) (row_meets rows.InitForm)) (λ k. same k kinds.OpenBrace) refl (first_kind u) f)

pub tells_a_value : (u : List Tok) → first_in (Part sorts.Expr ∷ []) (row_meets rows.InitForm) (first_kind u) ≡ true → predict_initial rows.InitForm u ≡ Part sorts.Expr ∷ []
unfolding predict_initial every
tells_a_value u f =
    no (same (first_kind u) kinds.OpenBrace) _ _ (implied (first_in (Part sorts.Expr ∷ []) (row_meets rows.InitForm)) (λ k. not (same k kinds.OpenBrace)) refl (first_kind u) f)

pub tells_no_elements : (u : List Tok) → first_in ([]) (row_meets rows.Elements) (first_kind u) ≡ true → predict_initial rows.Elements u ≡ []
unfolding predict_initial predict_elements every
tells_no_elements u f =
    yes (same (first_kind u) kinds.CloseBrace) _ _ (implied (first_in ([]) (row_meets rows.Elements)) (λ k. same k kinds.CloseBrace) refl (first_kind u) f)

pub tells_comma_alone : (u : List Tok) → first_in (a kinds.Comma ∷ []) (row_meets rows.Elements) (first_kind u) ≡ true → predict_initial rows.Elements u ≡ a kinds.Comma ∷ []
unfolding predict_initial predict_elements every
tells_comma_alone u f =
    no (same (first_kind u) kinds.CloseBrace) _ _ (implied (first_in (a kinds.Comma ∷ []) (row_meets rows.Elements)) (λ k. not (same k kinds.CloseBrace)) refl (first_kind u) f)
    ∙ yes (same (first_kind u) kinds.Comma) _ _ (implied (first_in (a kinds.Comma ∷ []) (row_meets rows.Elements)) (λ k. same k kinds.Comma) refl (first_kind u) f)

pub tells_elements : (u : List Tok) → first_in (Part sorts.Init ∷ Parts rows.MoreElements ∷ []) (row_meets rows.Elements) (first_kind u) ≡ true → predict_initial rows.Elements u ≡ Part sorts.Init ∷ Parts rows.MoreElements ∷ []
unfolding predict_initial predict_elements every
tells_elements u f =
    no (same (first_kind u) kinds.CloseBrace) _ _ (implied (first_in (Part sorts.Init ∷ Parts rows.MoreElements ∷ []) (row_meets rows.Elements)) (λ k. not (same k kinds.CloseBrace)) refl (first_kind u) f)
    ∙ no (same (first_kind u) kinds.Comma) _ _ (implied (first_in (Part sorts.Init ∷ Parts rows.MoreElements ∷ []) (row_meets rows.Elements)) (λ k. not (same k kinds.Comma)) refl (first_kind u) f)

pub tells_catches : (u : List Tok) → first_in (Part sorts.Catch ∷ Parts (rows.Any sorts.Catch) ∷ Parts rows.Finally ∷ []) (row_meets rows.Handlers) (first_kind u) ≡ true → predict_statement rows.Handlers u ≡ Part sorts.Catch ∷ Parts (rows.Any sorts.Catch) ∷ Parts rows.Finally ∷ []
unfolding predict_statement every
tells_catches u f =
    yes (same (first_kind u) kinds.Catch) _ _ (implied (first_in (Part sorts.Catch ∷ Parts (rows.Any sorts.Catch) ∷ Parts rows.Finally ∷ []) (row_meets rows.Handlers)) (λ k. same k kinds.Catch) refl (first_kind u) f)

pub tells_only_finally : (u : List Tok) → first_in (a kinds.Finally ∷ Part sorts.Block ∷ []) (row_meets rows.Handlers) (first_kind u) ≡ true → predict_statement rows.Handlers u ≡ a kinds.Finally ∷ Part sorts.Block ∷ []
unfolding predict_statement every
tells_only_finally u f =
    no (same (first_kind u) kinds.Catch) _ _ (implied (first_in (a kinds.Finally ∷ Part sorts.Block ∷ []) (row_meets rows.Handlers)) (λ k. not (same k kinds.Catch)) refl (first_kind u) f)

pub tells_big : (u : List Tok) → first_in (a kinds.Big ∷ []) (row_meets rows.Negated) (first_kind u) ≡ true → predict_operator rows.Negated u ≡ a kinds.Big ∷ []
unfolding predict_operator every
tells_big u f =
    yes (same (first_kind u) kinds.Big) _ _ (implied (first_in (a kinds.Big ∷ []) (row_meets rows.Negated)) (λ k. same k kinds.Big) refl (first_kind u) f)

pub tells_small : (u : List Tok) → first_in (Part sorts.Unary ∷ []) (row_meets rows.Negated) (first_kind u) ≡ true → predict_operator rows.Negated u ≡ Part sorts.Unary ∷ []
unfolding predict_operator every
tells_small u f =
    no (same (first_kind u) kinds.Big) _ _ (implied (first_in (Part sorts.Unary ∷ []) (row_meets rows.Negated)) (λ k. not (same k kinds.Big)) refl (first_kind u) f)

pub tells_literal : (u : List Tok) → first_in (a kinds.Literal ∷ []) (row_meets rows.PrimaryForm) (first_kind u) ≡ true → predict_primary u ≡ a kinds.Literal ∷ []
unfolding predict_primary every
tells_literal u f =
    yes (same (first_kind u) kinds.Literal) _ _ (implied (first_in (a kinds.Literal ∷ []) (row_meets rows.PrimaryForm)) (λ k. same k kinds.Literal) refl (first_kind u) f)

pub tells_this : (u : List Tok) → first_in (a kinds.This ∷ []) (row_meets rows.PrimaryForm) (first_kind u) ≡ true → predict_primary u ≡ a kinds.This ∷ []
unfolding predict_primary every
tells_this u f =
    no (same (first_kind u) kinds.Literal) _ _ (implied (first_in (a kinds.This ∷ []) (row_meets rows.PrimaryForm)) (λ k. not (same k kinds.Literal)) refl (first_kind u) f)
    ∙ yes (same (first_kind u) kinds.This) _ _ (implied (first_in (a kinds.This ∷ []) (row_meets rows.PrimaryForm)) (λ k. same k kinds.This) refl (first_kind u) f)

pub tells_grouped : (u : List Tok) → first_in (a kinds.OpenParen ∷ Part sorts.Expr ∷ a kinds.CloseParen ∷ []) (row_meets rows.PrimaryForm) (first_kind u) ≡ true → predict_primary u ≡ a kinds.OpenParen ∷ Part sorts.Expr ∷ a kinds.CloseParen ∷ []
unfolding predict_primary every
tells_grouped u f =
    no (same (first_kind u) kinds.Literal) _ _ (implied (first_in (a kinds.OpenParen ∷ Part sorts.Expr ∷ a kinds.CloseParen ∷ []) (row_meets rows.PrimaryForm)) (λ k. not (same k kinds.Literal)) refl (first_kind u) f)
    ∙ no (same (first_kind u) kinds.This) _ _ (implied (first_in (a kinds.OpenParen ∷ Part sorts.Expr ∷ a kinds.CloseParen ∷ []) (row_meets rows.PrimaryForm)) (λ k. not (same k kinds.This)) refl (first_kind u) f)
    ∙ yes (same (first_kind u) kinds.OpenParen) _ _ (implied (first_in (a kinds.OpenParen ∷ Part sorts.Expr ∷ a kinds.CloseParen ∷ []) (row_meets rows.PrimaryForm)) (λ k. same k kinds.OpenParen) refl (first_kind u) f)

pub tells_created : (u : List Tok) → first_in (Part sorts.New ∷ []) (row_meets rows.PrimaryForm) (first_kind u) ≡ true → predict_primary u ≡ Part sorts.New ∷ []
unfolding predict_primary every
tells_created u f =
    no (same (first_kind u) kinds.Literal) _ _ (implied (first_in (Part sorts.New ∷ []) (row_meets rows.PrimaryForm)) (λ k. not (same k kinds.Literal)) refl (first_kind u) f)
    ∙ no (same (first_kind u) kinds.This) _ _ (implied (first_in (Part sorts.New ∷ []) (row_meets rows.PrimaryForm)) (λ k. not (same k kinds.This)) refl (first_kind u) f)
    ∙ no (same (first_kind u) kinds.OpenParen) _ _ (implied (first_in (Part sorts.New ∷ []) (row_meets rows.PrimaryForm)) (λ k. not (same k kinds.OpenParen)) refl (first_kind u) f)
    ∙ yes (same (first_kind u) kinds.New) _ _ (implied (first_in (Part sorts.New ∷ []) (row_meets rows.PrimaryForm)) (λ k. same k kinds.New) refl (first_kind u) f)

pub tells_inherited : (u : List Tok) → first_in (a kinds.Super ∷ a kinds.Dot ∷ name ∷ Parts (rows.Maybe sorts.Args) ∷ []) (row_meets rows.PrimaryForm) (first_kind u) ≡ true → predict_primary u ≡ a kinds.Super ∷ a kinds.Dot ∷ name ∷ Parts (rows.Maybe sorts.Args) ∷ []
unfolding predict_primary every
tells_inherited u f =
    no (same (first_kind u) kinds.Literal) _ _ (implied (first_in (a kinds.Super ∷ a kinds.Dot ∷ name ∷ Parts (rows.Maybe sorts.Args) ∷ []) (row_meets rows.PrimaryForm)) (λ k. not (same k kinds.Literal)) refl (first_kind u) f)
    ∙ no (same (first_kind u) kinds.This) _ _ (implied (first_in (a kinds.Super ∷ a kinds.Dot ∷ name ∷ Parts (rows.Maybe sorts.Args) ∷ []) (row_meets rows.PrimaryForm)) (λ k. not (same k kinds.This)) refl (first_kind u) f)
    ∙ no (same (first_kind u) kinds.OpenParen) _ _ (implied (first_in (a kinds.Super ∷ a kinds.Dot ∷ name ∷ Parts (rows.Maybe sorts.Args) ∷ []) (row_meets rows.PrimaryForm)) (λ k. not (same k kinds.OpenParen)) refl (first_kind u) f)
    ∙ no (same (first_kind u) kinds.New) _ _ (implied (first_in (a kinds.Super ∷ a kinds.Dot ∷ name ∷ Parts (rows.Maybe sorts.Args) ∷ []) (row_meets rows.PrimaryForm)) (λ k. not (same k kinds.New)) refl (first_kind u) f)
    ∙ yes (same (first_kind u) kinds.Super) _ _ (implied (first_in (a kinds.Super ∷ a kinds.Dot ∷ name ∷ Parts (rows.Maybe sorts.Args) ∷ []) (row_meets rows.PrimaryForm)) (λ k. same k kinds.Super) refl (first_kind u) f)

pub tells_named : (u : List Tok) → first_in (name ∷ Parts (rows.Maybe sorts.Args) ∷ []) (row_meets rows.PrimaryForm) (first_kind u) ≡ true → predict_primary u ≡ name ∷ Parts (rows.Maybe sorts.Args) ∷ []
unfolding predict_primary every
tells_named u f =
    no (same (first_kind u) kinds.Literal) _ _ (implied (first_in (name ∷ Parts (rows.Maybe sorts.Args) ∷ []) (row_meets rows.PrimaryForm)) (λ k. not (same k kinds.Literal)) refl (first_kind u) f)
    ∙ no (same (first_kind u) kinds.This) _ _ (implied (first_in (name ∷ Parts (rows.Maybe sorts.Args) ∷ []) (row_meets rows.PrimaryForm)) (λ k. not (same k kinds.This)) refl (first_kind u) f)
    ∙ no (same (first_kind u) kinds.OpenParen) _ _ (implied (first_in (name ∷ Parts (rows.Maybe sorts.Args) ∷ []) (row_meets rows.PrimaryForm)) (λ k. not (same k kinds.OpenParen)) refl (first_kind u) f)
    ∙ no (same (first_kind u) kinds.New) _ _ (implied (first_in (name ∷ Parts (rows.Maybe sorts.Args) ∷ []) (row_meets rows.PrimaryForm)) (λ k. not (same k kinds.New)) refl (first_kind u) f)
    ∙ no (same (first_kind u) kinds.Super) _ _ (implied (first_in (name ∷ Parts (rows.Maybe sorts.Args) ∷ []) (row_meets rows.PrimaryForm)) (λ k. not (same k kinds.Super)) refl (first_kind u) f)

pub tells_a_block : (u : List Tok) → first_in (Part sorts.Block ∷ []) (row_meets rows.StmtForm) (first_kind u) ≡ true → predict_statement rows.StmtForm u ≡ Part sorts.Block ∷ []
unfolding predict_statement predict_statement_form predict_looping predict_leaving every
tells_a_block u f =
    yes (same (first_kind u) kinds.OpenBrace) _ _ (implied (first_in (Part sorts.Block ∷ []) (row_meets rows.StmtForm)) (λ k. same k kinds.OpenBrace) refl (first_kind u) f)

pub tells_empty : (u : List Tok) → first_in (a kinds.Semicolon ∷ []) (row_meets rows.StmtForm) (first_kind u) ≡ true → predict_statement rows.StmtForm u ≡ a kinds.Semicolon ∷ []
unfolding predict_statement predict_statement_form predict_looping predict_leaving every
tells_empty u f =
    no (same (first_kind u) kinds.OpenBrace) _ _ (implied (first_in (a kinds.Semicolon ∷ []) (row_meets rows.StmtForm)) (λ k. not (same k kinds.OpenBrace)) refl (first_kind u) f)
    ∙ yes (same (first_kind u) kinds.Semicolon) _ _ (implied (first_in (a kinds.Semicolon ∷ []) (row_meets rows.StmtForm)) (λ k. same k kinds.Semicolon) refl (first_kind u) f)

pub tells_an_if : (u : List Tok) → first_in (a kinds.If ∷ a kinds.OpenParen ∷ Part sorts.Expr ∷ a kinds.CloseParen ∷ Part sorts.Stmt ∷ Parts rows.Otherwise ∷ []) (row_meets rows.StmtForm) (first_kind u) ≡ true → predict_statement rows.StmtForm u ≡ a kinds.If ∷ a kinds.OpenParen ∷ Part sorts.Expr ∷ a kinds.CloseParen ∷ Part sorts.Stmt ∷ Parts rows.Otherwise ∷ []
unfolding predict_statement predict_statement_form predict_looping predict_leaving every
tells_an_if u f =
    no (same (first_kind u) kinds.OpenBrace) _ _ (implied (first_in (a kinds.If ∷ a kinds.OpenParen ∷ Part sorts.Expr ∷ a kinds.CloseParen ∷ Part sorts.Stmt ∷ Parts rows.Otherwise ∷ []) (row_meets rows.StmtForm)) (λ k. not (same k kinds.OpenBrace)) refl (first_kind u) f)
    ∙ no (same (first_kind u) kinds.Semicolon) _ _ (implied (first_in (a kinds.If ∷ a kinds.OpenParen ∷ Part sorts.Expr ∷ a kinds.CloseParen ∷ Part sorts.Stmt ∷ Parts rows.Otherwise ∷ []) (row_meets rows.StmtForm)) (λ k. not (same k kinds.Semicolon)) refl (first_kind u) f)
    ∙ yes (same (first_kind u) kinds.If) _ _ (implied (first_in (a kinds.If ∷ a kinds.OpenParen ∷ Part sorts.Expr ∷ a kinds.CloseParen ∷ Part sorts.Stmt ∷ Parts rows.Otherwise ∷ []) (row_meets rows.StmtForm)) (λ k. same k kinds.If) refl (first_kind u) f)

pub tells_a_try : (u : List Tok) → first_in (a kinds.Try ∷ Part sorts.Block ∷ Parts rows.Handlers ∷ []) (row_meets rows.StmtForm) (first_kind u) ≡ true → predict_statement rows.StmtForm u ≡ a kinds.Try ∷ Part sorts.Block ∷ Parts rows.Handlers ∷ []
unfolding predict_statement predict_statement_form predict_looping predict_leaving every
tells_a_try u f =
    no (same (first_kind u) kinds.OpenBrace) _ _ (implied (first_in (a kinds.Try ∷ Part sorts.Block ∷ Parts rows.Handlers ∷ []) (row_meets rows.StmtForm)) (λ k. not (same k kinds.OpenBrace)) refl (first_kind u) f)
    ∙ no (same (first_kind u) kinds.Semicolon) _ _ (implied (first_in (a kinds.Try ∷ Part sorts.Block ∷ Parts rows.Handlers ∷ []) (row_meets rows.StmtForm)) (λ k. not (same k kinds.Semicolon)) refl (first_kind u) f)
    ∙ no (same (first_kind u) kinds.If) _ _ (implied (first_in (a kinds.Try ∷ Part sorts.Block ∷ Parts rows.Handlers ∷ []) (row_meets rows.StmtForm)) (λ k. not (same k kinds.If)) refl (first_kind u) f)
    ∙ yes (same (first_kind u) kinds.Try) _ _ (implied (first_in (a kinds.Try ∷ Part sorts.Block ∷ Parts rows.Handlers ∷ []) (row_meets rows.StmtForm)) (λ k. same k kinds.Try) refl (first_kind u) f)

pub tells_a_while : (u : List Tok) → first_in (a kinds.While ∷ a kinds.OpenParen ∷ Part sorts.Expr ∷ a kinds.CloseParen ∷ Part sorts.Stmt ∷ []) (row_meets rows.StmtForm) (first_kind u) ≡ true → predict_statement rows.StmtForm u ≡ a kinds.While ∷ a kinds.OpenParen ∷ Part sorts.Expr ∷ a kinds.CloseParen ∷ Part sorts.Stmt ∷ []
unfolding predict_statement predict_statement_form predict_looping predict_leaving every
tells_a_while u f =
    no (same (first_kind u) kinds.OpenBrace) _ _ (implied (first_in (a kinds.While ∷ a kinds.OpenParen ∷ Part sorts.Expr ∷ a kinds.CloseParen ∷ Part sorts.Stmt ∷ []) (row_meets rows.StmtForm)) (λ k. not (same k kinds.OpenBrace)) refl (first_kind u) f)
    ∙ no (same (first_kind u) kinds.Semicolon) _ _ (implied (first_in (a kinds.While ∷ a kinds.OpenParen ∷ Part sorts.Expr ∷ a kinds.CloseParen ∷ Part sorts.Stmt ∷ []) (row_meets rows.StmtForm)) (λ k. not (same k kinds.Semicolon)) refl (first_kind u) f)
    ∙ no (same (first_kind u) kinds.If) _ _ (implied (first_in (a kinds.While ∷ a kinds.OpenParen ∷ Part sorts.Expr ∷ a kinds.CloseParen ∷ Part sorts.Stmt ∷ []) (row_meets rows.StmtForm)) (λ k. not (same k kinds.If)) refl (first_kind u) f)
    ∙ no (same (first_kind u) kinds.Try) _ _ (implied (first_in (a kinds.While ∷ a kinds.OpenParen ∷ Part sorts.Expr ∷ a kinds.CloseParen ∷ Part sorts.Stmt ∷ []) (row_meets rows.StmtForm)) (λ k. not (same k kinds.Try)) refl (first_kind u) f)
    ∙ yes (same (first_kind u) kinds.While) _ _ (implied (first_in (a kinds.While ∷ a kinds.OpenParen ∷ Part sorts.Expr ∷ a kinds.CloseParen ∷ Part sorts.Stmt ∷ []) (row_meets rows.StmtForm)) (λ k. same k kinds.While) refl (first_kind u) f)

pub tells_a_do : (u : List Tok) → first_in (a kinds.Do ∷ Part sorts.Stmt ∷ a kinds.While ∷ a kinds.OpenParen ∷ Part sorts.Expr ∷ a kinds.CloseParen ∷ a kinds.Semicolon ∷ []) (row_meets rows.StmtForm) (first_kind u) ≡ true → predict_statement rows.StmtForm u ≡ a kinds.Do ∷ Part sorts.Stmt ∷ a kinds.While ∷ a kinds.OpenParen ∷ Part sorts.Expr ∷ a kinds.CloseParen ∷ a kinds.Semicolon ∷ []
unfolding predict_statement predict_statement_form predict_looping predict_leaving every
tells_a_do u f =
    no (same (first_kind u) kinds.OpenBrace) _ _ (implied (first_in (a kinds.Do ∷ Part sorts.Stmt ∷ a kinds.While ∷ a kinds.OpenParen ∷ Part sorts.Expr ∷ a kinds.CloseParen ∷ a kinds.Semicolon ∷ []) (row_meets rows.StmtForm)) (λ k. not (same k kinds.OpenBrace)) refl (first_kind u) f)
    ∙ no (same (first_kind u) kinds.Semicolon) _ _ (implied (first_in (a kinds.Do ∷ Part sorts.Stmt ∷ a kinds.While ∷ a kinds.OpenParen ∷ Part sorts.Expr ∷ a kinds.CloseParen ∷ a kinds.Semicolon ∷ []) (row_meets rows.StmtForm)) (λ k. not (same k kinds.Semicolon)) refl (first_kind u) f)
    ∙ no (same (first_kind u) kinds.If) _ _ (implied (first_in (a kinds.Do ∷ Part sorts.Stmt ∷ a kinds.While ∷ a kinds.OpenParen ∷ Part sorts.Expr ∷ a kinds.CloseParen ∷ a kinds.Semicolon ∷ []) (row_meets rows.StmtForm)) (λ k. not (same k kinds.If)) refl (first_kind u) f)
    ∙ no (same (first_kind u) kinds.Try) _ _ (implied (first_in (a kinds.Do ∷ Part sorts.Stmt ∷ a kinds.While ∷ a kinds.OpenParen ∷ Part sorts.Expr ∷ a kinds.CloseParen ∷ a kinds.Semicolon ∷ []) (row_meets rows.StmtForm)) (λ k. not (same k kinds.Try)) refl (first_kind u) f)
    ∙ no (same (first_kind u) kinds.While) _ _ (implied (first_in (a kinds.Do ∷ Part sorts.Stmt ∷ a kinds.While ∷ a kinds.OpenParen ∷ Part sorts.Expr ∷ a kinds.CloseParen ∷ a kinds.Semicolon ∷ []) (row_meets rows.StmtForm)) (λ k. not (same k kinds.While)) refl (first_kind u) f)
    ∙ yes (same (first_kind u) kinds.Do) _ _ (implied (first_in (a kinds.Do ∷ Part sorts.Stmt ∷ a kinds.While ∷ a kinds.OpenParen ∷ Part sorts.Expr ∷ a kinds.CloseParen ∷ a kinds.Semicolon ∷ []) (row_meets rows.StmtForm)) (λ k. same k kinds.Do) refl (first_kind u) f)

pub tells_a_for : (u : List Tok) → first_in (a kinds.For ∷ a kinds.OpenParen ∷ Parts (rows.Maybe sorts.ForInit) ∷ a kinds.Semicolon ∷ Parts (rows.Maybe sorts.Expr) ∷ a kinds.Semicolon ∷ Parts (rows.Series sorts.Effect) ∷ a kinds.CloseParen ∷ Part sorts.Stmt ∷ []) (row_meets rows.StmtForm) (first_kind u) ≡ true → predict_statement rows.StmtForm u ≡ a kinds.For ∷ a kinds.OpenParen ∷ Parts (rows.Maybe sorts.ForInit) ∷ a kinds.Semicolon ∷ Parts (rows.Maybe sorts.Expr) ∷ a kinds.Semicolon ∷ Parts (rows.Series sorts.Effect) ∷ a kinds.CloseParen ∷ Part sorts.Stmt ∷ []
unfolding predict_statement predict_statement_form predict_looping predict_leaving every
tells_a_for u f =
    no (same (first_kind u) kinds.OpenBrace) _ _ (implied (first_in (a kinds.For ∷ a kinds.OpenParen ∷ Parts (rows.Maybe sorts.ForInit) ∷ a kinds.Semicolon ∷ Parts (rows.Maybe sorts.Expr) ∷ a kinds.Semicolon ∷ Parts (rows.Series sorts.Effect) ∷ a kinds.CloseParen ∷ Part sorts.Stmt ∷ []) (row_meets rows.StmtForm)) (λ k. not (same k kinds.OpenBrace)) refl (first_kind u) f)
    ∙ no (same (first_kind u) kinds.Semicolon) _ _ (implied (first_in (a kinds.For ∷ a kinds.OpenParen ∷ Parts (rows.Maybe sorts.ForInit) ∷ a kinds.Semicolon ∷ Parts (rows.Maybe sorts.Expr) ∷ a kinds.Semicolon ∷ Parts (rows.Series sorts.Effect) ∷ a kinds.CloseParen ∷ Part sorts.Stmt ∷ []) (row_meets rows.StmtForm)) (λ k. not (same k kinds.Semicolon)) refl (first_kind u) f)
    ∙ no (same (first_kind u) kinds.If) _ _ (implied (first_in (a kinds.For ∷ a kinds.OpenParen ∷ Parts (rows.Maybe sorts.ForInit) ∷ a kinds.Semicolon ∷ Parts (rows.Maybe sorts.Expr) ∷ a kinds.Semicolon ∷ Parts (rows.Series sorts.Effect) ∷ a kinds.CloseParen ∷ Part sorts.Stmt ∷ []) (row_meets rows.StmtForm)) (λ k. not (same k kinds.If)) refl (first_kind u) f)
    ∙ no (same (first_kind u) kinds.Try) _ _ (implied (first_in (a kinds.For ∷ a kinds.OpenParen ∷ Parts (rows.Maybe sorts.ForInit) ∷ a kinds.Semicolon ∷ Parts (rows.Maybe sorts.Expr) ∷ a kinds.Semicolon ∷ Parts (rows.Series sorts.Effect) ∷ a kinds.CloseParen ∷ Part sorts.Stmt ∷ []) (row_meets rows.StmtForm)) (λ k. not (same k kinds.Try)) refl (first_kind u) f)
    ∙ no (same (first_kind u) kinds.While) _ _ (implied (first_in (a kinds.For ∷ a kinds.OpenParen ∷ Parts (rows.Maybe sorts.ForInit) ∷ a kinds.Semicolon ∷ Parts (rows.Maybe sorts.Expr) ∷ a kinds.Semicolon ∷ Parts (rows.Series sorts.Effect) ∷ a kinds.CloseParen ∷ Part sorts.Stmt ∷ []) (row_meets rows.StmtForm)) (λ k. not (same k kinds.While)) refl (first_kind u) f)
    ∙ no (same (first_kind u) kinds.Do) _ _ (implied (first_in (a kinds.For ∷ a kinds.OpenParen ∷ Parts (rows.Maybe sorts.ForInit) ∷ a kinds.Semicolon ∷ Parts (rows.Maybe sorts.Expr) ∷ a kinds.Semicolon ∷ Parts (rows.Series sorts.Effect) ∷ a kinds.CloseParen ∷ Part sorts.Stmt ∷ []) (row_meets rows.StmtForm)) (λ k. not (same k kinds.Do)) refl (first_kind u) f)
    ∙ yes (same (first_kind u) kinds.For) _ _ (implied (first_in (a kinds.For ∷ a kinds.OpenParen ∷ Parts (rows.Maybe sorts.ForInit) ∷ a kinds.Semicolon ∷ Parts (rows.Maybe sorts.Expr) ∷ a kinds.Semicolon ∷ Parts (rows.Series sorts.Effect) ∷ a kinds.CloseParen ∷ Part sorts.Stmt ∷ []) (row_meets rows.StmtForm)) (λ k. same k kinds.For) refl (first_kind u) f)

pub tells_a_break : (u : List Tok) → first_in (a kinds.Break ∷ Parts rows.Label ∷ a kinds.Semicolon ∷ []) (row_meets rows.StmtForm) (first_kind u) ≡ true → predict_statement rows.StmtForm u ≡ a kinds.Break ∷ Parts rows.Label ∷ a kinds.Semicolon ∷ []
unfolding predict_statement predict_statement_form predict_looping predict_leaving every
tells_a_break u f =
    no (same (first_kind u) kinds.OpenBrace) _ _ (implied (first_in (a kinds.Break ∷ Parts rows.Label ∷ a kinds.Semicolon ∷ []) (row_meets rows.StmtForm)) (λ k. not (same k kinds.OpenBrace)) refl (first_kind u) f)
    ∙ no (same (first_kind u) kinds.Semicolon) _ _ (implied (first_in (a kinds.Break ∷ Parts rows.Label ∷ a kinds.Semicolon ∷ []) (row_meets rows.StmtForm)) (λ k. not (same k kinds.Semicolon)) refl (first_kind u) f)
    ∙ no (same (first_kind u) kinds.If) _ _ (implied (first_in (a kinds.Break ∷ Parts rows.Label ∷ a kinds.Semicolon ∷ []) (row_meets rows.StmtForm)) (λ k. not (same k kinds.If)) refl (first_kind u) f)
    ∙ no (same (first_kind u) kinds.Try) _ _ (implied (first_in (a kinds.Break ∷ Parts rows.Label ∷ a kinds.Semicolon ∷ []) (row_meets rows.StmtForm)) (λ k. not (same k kinds.Try)) refl (first_kind u) f)
    ∙ no (same (first_kind u) kinds.While) _ _ (implied (first_in (a kinds.Break ∷ Parts rows.Label ∷ a kinds.Semicolon ∷ []) (row_meets rows.StmtForm)) (λ k. not (same k kinds.While)) refl (first_kind u) f)
    ∙ no (same (first_kind u) kinds.Do) _ _ (implied (first_in (a kinds.Break ∷ Parts rows.Label ∷ a kinds.Semicolon ∷ []) (row_meets rows.StmtForm)) (λ k. not (same k kinds.Do)) refl (first_kind u) f)
    ∙ no (same (first_kind u) kinds.For) _ _ (implied (first_in (a kinds.Break ∷ Parts rows.Label ∷ a kinds.Semicolon ∷ []) (row_meets rows.StmtForm)) (λ k. not (same k kinds.For)) refl (first_kind u) f)
    ∙ yes (same (first_kind u) kinds.Break) _ _ (implied (first_in (a kinds.Break ∷ Parts rows.Label ∷ a kinds.Semicolon ∷ []) (row_meets rows.StmtForm)) (λ k. same k kinds.Break) refl (first_kind u) f)

pub tells_a_continue : (u : List Tok) → first_in (a kinds.Continue ∷ Parts rows.Label ∷ a kinds.Semicolon ∷ []) (row_meets rows.StmtForm) (first_kind u) ≡ true → predict_statement rows.StmtForm u ≡ a kinds.Continue ∷ Parts rows.Label ∷ a kinds.Semicolon ∷ []
unfolding predict_statement predict_statement_form predict_looping predict_leaving every
tells_a_continue u f =
    no (same (first_kind u) kinds.OpenBrace) _ _ (implied (first_in (a kinds.Continue ∷ Parts rows.Label ∷ a kinds.Semicolon ∷ []) (row_meets rows.StmtForm)) (λ k. not (same k kinds.OpenBrace)) refl (first_kind u) f)
    ∙ no (same (first_kind u) kinds.Semicolon) _ _ (implied (first_in (a kinds.Continue ∷ Parts rows.Label ∷ a kinds.Semicolon ∷ []) (row_meets rows.StmtForm)) (λ k. not (same k kinds.Semicolon)) refl (first_kind u) f)
    ∙ no (same (first_kind u) kinds.If) _ _ (implied (first_in (a kinds.Continue ∷ Parts rows.Label ∷ a kinds.Semicolon ∷ []) (row_meets rows.StmtForm)) (λ k. not (same k kinds.If)) refl (first_kind u) f)
    ∙ no (same (first_kind u) kinds.Try) _ _ (implied (first_in (a kinds.Continue ∷ Parts rows.Label ∷ a kinds.Semicolon ∷ []) (row_meets rows.StmtForm)) (λ k. not (same k kinds.Try)) refl (first_kind u) f)
    ∙ no (same (first_kind u) kinds.While) _ _ (implied (first_in (a kinds.Continue ∷ Parts rows.Label ∷ a kinds.Semicolon ∷ []) (row_meets rows.StmtForm)) (λ k. not (same k kinds.While)) refl (first_kind u) f)
    ∙ no (same (first_kind u) kinds.Do) _ _ (implied (first_in (a kinds.Continue ∷ Parts rows.Label ∷ a kinds.Semicolon ∷ []) (row_meets rows.StmtForm)) (λ k. not (same k kinds.Do)) refl (first_kind u) f)
    ∙ no (same (first_kind u) kinds.For) _ _ (implied (first_in (a kinds.Continue ∷ Parts rows.Label ∷ a kinds.Semicolon ∷ []) (row_meets rows.StmtForm)) (λ k. not (same k kinds.For)) refl (first_kind u) f)
    ∙ no (same (first_kind u) kinds.Break) _ _ (implied (first_in (a kinds.Continue ∷ Parts rows.Label ∷ a kinds.Semicolon ∷ []) (row_meets rows.StmtForm)) (λ k. not (same k kinds.Break)) refl (first_kind u) f)
    ∙ yes (same (first_kind u) kinds.Continue) _ _ (implied (first_in (a kinds.Continue ∷ Parts rows.Label ∷ a kinds.Semicolon ∷ []) (row_meets rows.StmtForm)) (λ k. same k kinds.Continue) refl (first_kind u) f)

pub tells_a_return : (u : List Tok) → first_in (a kinds.Return ∷ Parts (rows.Maybe sorts.Expr) ∷ a kinds.Semicolon ∷ []) (row_meets rows.StmtForm) (first_kind u) ≡ true → predict_statement rows.StmtForm u ≡ a kinds.Return ∷ Parts (rows.Maybe sorts.Expr) ∷ a kinds.Semicolon ∷ []
unfolding predict_statement predict_statement_form predict_looping predict_leaving every
tells_a_return u f =
    no (same (first_kind u) kinds.OpenBrace) _ _ (implied (first_in (a kinds.Return ∷ Parts (rows.Maybe sorts.Expr) ∷ a kinds.Semicolon ∷ []) (row_meets rows.StmtForm)) (λ k. not (same k kinds.OpenBrace)) refl (first_kind u) f)
    ∙ no (same (first_kind u) kinds.Semicolon) _ _ (implied (first_in (a kinds.Return ∷ Parts (rows.Maybe sorts.Expr) ∷ a kinds.Semicolon ∷ []) (row_meets rows.StmtForm)) (λ k. not (same k kinds.Semicolon)) refl (first_kind u) f)
    ∙ no (same (first_kind u) kinds.If) _ _ (implied (first_in (a kinds.Return ∷ Parts (rows.Maybe sorts.Expr) ∷ a kinds.Semicolon ∷ []) (row_meets rows.StmtForm)) (λ k. not (same k kinds.If)) refl (first_kind u) f)
    ∙ no (same (first_kind u) kinds.Try) _ _ (implied (first_in (a kinds.Return ∷ Parts (rows.Maybe sorts.Expr) ∷ a kinds.Semicolon ∷ []) (row_meets rows.StmtForm)) (λ k. not (same k kinds.Try)) refl (first_kind u) f)
    ∙ no (same (first_kind u) kinds.While) _ _ (implied (first_in (a kinds.Return ∷ Parts (rows.Maybe sorts.Expr) ∷ a kinds.Semicolon ∷ []) (row_meets rows.StmtForm)) (λ k. not (same k kinds.While)) refl (first_kind u) f)
    ∙ no (same (first_kind u) kinds.Do) _ _ (implied (first_in (a kinds.Return ∷ Parts (rows.Maybe sorts.Expr) ∷ a kinds.Semicolon ∷ []) (row_meets rows.StmtForm)) (λ k. not (same k kinds.Do)) refl (first_kind u) f)
    ∙ no (same (first_kind u) kinds.For) _ _ (implied (first_in (a kinds.Return ∷ Parts (rows.Maybe sorts.Expr) ∷ a kinds.Semicolon ∷ []) (row_meets rows.StmtForm)) (λ k. not (same k kinds.For)) refl (first_kind u) f)
    ∙ no (same (first_kind u) kinds.Break) _ _ (implied (first_in (a kinds.Return ∷ Parts (rows.Maybe sorts.Expr) ∷ a kinds.Semicolon ∷ []) (row_meets rows.StmtForm)) (λ k. not (same k kinds.Break)) refl (first_kind u) f)
    ∙ no (same (first_kind u) kinds.Continue) _ _ (implied (first_in (a kinds.Return ∷ Parts (rows.Maybe sorts.Expr) ∷ a kinds.Semicolon ∷ []) (row_meets rows.StmtForm)) (λ k. not (same k kinds.Continue)) refl (first_kind u) f)
    ∙ yes (same (first_kind u) kinds.Return) _ _ (implied (first_in (a kinds.Return ∷ Parts (rows.Maybe sorts.Expr) ∷ a kinds.Semicolon ∷ []) (row_meets rows.StmtForm)) (λ k. same k kinds.Return) refl (first_kind u) f)

pub tells_a_throw : (u : List Tok) → first_in (a kinds.Throw ∷ Part sorts.Expr ∷ a kinds.Semicolon ∷ []) (row_meets rows.StmtForm) (first_kind u) ≡ true → predict_statement rows.StmtForm u ≡ a kinds.Throw ∷ Part sorts.Expr ∷ a kinds.Semicolon ∷ []
unfolding predict_statement predict_statement_form predict_looping predict_leaving every
tells_a_throw u f =
    no (same (first_kind u) kinds.OpenBrace) _ _ (implied (first_in (a kinds.Throw ∷ Part sorts.Expr ∷ a kinds.Semicolon ∷ []) (row_meets rows.StmtForm)) (λ k. not (same k kinds.OpenBrace)) refl (first_kind u) f)
    ∙ no (same (first_kind u) kinds.Semicolon) _ _ (implied (first_in (a kinds.Throw ∷ Part sorts.Expr ∷ a kinds.Semicolon ∷ []) (row_meets rows.StmtForm)) (λ k. not (same k kinds.Semicolon)) refl (first_kind u) f)
    ∙ no (same (first_kind u) kinds.If) _ _ (implied (first_in (a kinds.Throw ∷ Part sorts.Expr ∷ a kinds.Semicolon ∷ []) (row_meets rows.StmtForm)) (λ k. not (same k kinds.If)) refl (first_kind u) f)
    ∙ no (same (first_kind u) kinds.Try) _ _ (implied (first_in (a kinds.Throw ∷ Part sorts.Expr ∷ a kinds.Semicolon ∷ []) (row_meets rows.StmtForm)) (λ k. not (same k kinds.Try)) refl (first_kind u) f)
    ∙ no (same (first_kind u) kinds.While) _ _ (implied (first_in (a kinds.Throw ∷ Part sorts.Expr ∷ a kinds.Semicolon ∷ []) (row_meets rows.StmtForm)) (λ k. not (same k kinds.While)) refl (first_kind u) f)
    ∙ no (same (first_kind u) kinds.Do) _ _ (implied (first_in (a kinds.Throw ∷ Part sorts.Expr ∷ a kinds.Semicolon ∷ []) (row_meets rows.StmtForm)) (λ k. not (same k kinds.Do)) refl (first_kind u) f)
    ∙ no (same (first_kind u) kinds.For) _ _ (implied (first_in (a kinds.Throw ∷ Part sorts.Expr ∷ a kinds.Semicolon ∷ []) (row_meets rows.StmtForm)) (λ k. not (same k kinds.For)) refl (first_kind u) f)
    ∙ no (same (first_kind u) kinds.Break) _ _ (implied (first_in (a kinds.Throw ∷ Part sorts.Expr ∷ a kinds.Semicolon ∷ []) (row_meets rows.StmtForm)) (λ k. not (same k kinds.Break)) refl (first_kind u) f)
    ∙ no (same (first_kind u) kinds.Continue) _ _ (implied (first_in (a kinds.Throw ∷ Part sorts.Expr ∷ a kinds.Semicolon ∷ []) (row_meets rows.StmtForm)) (λ k. not (same k kinds.Continue)) refl (first_kind u) f)
    ∙ no (same (first_kind u) kinds.Return) _ _ (implied (first_in (a kinds.Throw ∷ Part sorts.Expr ∷ a kinds.Semicolon ∷ []) (row_meets rows.StmtForm)) (λ k. not (same k kinds.Return)) refl (first_kind u) f)
    ∙ yes (same (first_kind u) kinds.Throw) _ _ (implied (first_in (a kinds.Throw ∷ Part sorts.Expr ∷ a kinds.Semicolon ∷ []) (row_meets rows.StmtForm)) (λ k. same k kinds.Throw) refl (first_kind u) f)

pub no_word_labelled : (u : List Tok) → first_in (name ∷ a kinds.Colon ∷ Part sorts.Stmt ∷ []) (row_meets rows.StmtForm) (first_kind u) ≡ true → predict_statement rows.StmtForm u ≡ (if is_name (first_kind u) && same (second u) kinds.Colon then name ∷ a kinds.Colon ∷ Part sorts.Stmt ∷ [] else Part sorts.Effect ∷ a kinds.Semicolon ∷ [])
unfolding predict_statement predict_statement_form predict_looping predict_leaving every
no_word_labelled u f =
    no (same (first_kind u) kinds.OpenBrace) _ _ (implied (first_in (name ∷ a kinds.Colon ∷ Part sorts.Stmt ∷ []) (row_meets rows.StmtForm)) (λ k. not (same k kinds.OpenBrace)) refl (first_kind u) f)
    ∙ no (same (first_kind u) kinds.Semicolon) _ _ (implied (first_in (name ∷ a kinds.Colon ∷ Part sorts.Stmt ∷ []) (row_meets rows.StmtForm)) (λ k. not (same k kinds.Semicolon)) refl (first_kind u) f)
    ∙ no (same (first_kind u) kinds.If) _ _ (implied (first_in (name ∷ a kinds.Colon ∷ Part sorts.Stmt ∷ []) (row_meets rows.StmtForm)) (λ k. not (same k kinds.If)) refl (first_kind u) f)
    ∙ no (same (first_kind u) kinds.Try) _ _ (implied (first_in (name ∷ a kinds.Colon ∷ Part sorts.Stmt ∷ []) (row_meets rows.StmtForm)) (λ k. not (same k kinds.Try)) refl (first_kind u) f)
    ∙ no (same (first_kind u) kinds.While) _ _ (implied (first_in (name ∷ a kinds.Colon ∷ Part sorts.Stmt ∷ []) (row_meets rows.StmtForm)) (λ k. not (same k kinds.While)) refl (first_kind u) f)
    ∙ no (same (first_kind u) kinds.Do) _ _ (implied (first_in (name ∷ a kinds.Colon ∷ Part sorts.Stmt ∷ []) (row_meets rows.StmtForm)) (λ k. not (same k kinds.Do)) refl (first_kind u) f)
    ∙ no (same (first_kind u) kinds.For) _ _ (implied (first_in (name ∷ a kinds.Colon ∷ Part sorts.Stmt ∷ []) (row_meets rows.StmtForm)) (λ k. not (same k kinds.For)) refl (first_kind u) f)
    ∙ no (same (first_kind u) kinds.Break) _ _ (implied (first_in (name ∷ a kinds.Colon ∷ Part sorts.Stmt ∷ []) (row_meets rows.StmtForm)) (λ k. not (same k kinds.Break)) refl (first_kind u) f)
    ∙ no (same (first_kind u) kinds.Continue) _ _ (implied (first_in (name ∷ a kinds.Colon ∷ Part sorts.Stmt ∷ []) (row_meets rows.StmtForm)) (λ k. not (same k kinds.Continue)) refl (first_kind u) f)
    ∙ no (same (first_kind u) kinds.Return) _ _ (implied (first_in (name ∷ a kinds.Colon ∷ Part sorts.Stmt ∷ []) (row_meets rows.StmtForm)) (λ k. not (same k kinds.Return)) refl (first_kind u) f)
    ∙ no (same (first_kind u) kinds.Throw) _ _ (implied (first_in (name ∷ a kinds.Colon ∷ Part sorts.Stmt ∷ []) (row_meets rows.StmtForm)) (λ k. not (same k kinds.Throw)) refl (first_kind u) f)

pub no_word_an_effect : (u : List Tok) → first_in (Part sorts.Effect ∷ a kinds.Semicolon ∷ []) (row_meets rows.StmtForm) (first_kind u) ≡ true → predict_statement rows.StmtForm u ≡ (if is_name (first_kind u) && same (second u) kinds.Colon then name ∷ a kinds.Colon ∷ Part sorts.Stmt ∷ [] else Part sorts.Effect ∷ a kinds.Semicolon ∷ [])
unfolding predict_statement predict_statement_form predict_looping predict_leaving every
no_word_an_effect u f =
    no (same (first_kind u) kinds.OpenBrace) _ _ (implied (first_in (Part sorts.Effect ∷ a kinds.Semicolon ∷ []) (row_meets rows.StmtForm)) (λ k. not (same k kinds.OpenBrace)) refl (first_kind u) f)
    ∙ no (same (first_kind u) kinds.Semicolon) _ _ (implied (first_in (Part sorts.Effect ∷ a kinds.Semicolon ∷ []) (row_meets rows.StmtForm)) (λ k. not (same k kinds.Semicolon)) refl (first_kind u) f)
    ∙ no (same (first_kind u) kinds.If) _ _ (implied (first_in (Part sorts.Effect ∷ a kinds.Semicolon ∷ []) (row_meets rows.StmtForm)) (λ k. not (same k kinds.If)) refl (first_kind u) f)
    ∙ no (same (first_kind u) kinds.Try) _ _ (implied (first_in (Part sorts.Effect ∷ a kinds.Semicolon ∷ []) (row_meets rows.StmtForm)) (λ k. not (same k kinds.Try)) refl (first_kind u) f)
    ∙ no (same (first_kind u) kinds.While) _ _ (implied (first_in (Part sorts.Effect ∷ a kinds.Semicolon ∷ []) (row_meets rows.StmtForm)) (λ k. not (same k kinds.While)) refl (first_kind u) f)
    ∙ no (same (first_kind u) kinds.Do) _ _ (implied (first_in (Part sorts.Effect ∷ a kinds.Semicolon ∷ []) (row_meets rows.StmtForm)) (λ k. not (same k kinds.Do)) refl (first_kind u) f)
    ∙ no (same (first_kind u) kinds.For) _ _ (implied (first_in (Part sorts.Effect ∷ a kinds.Semicolon ∷ []) (row_meets rows.StmtForm)) (λ k. not (same k kinds.For)) refl (first_kind u) f)
    ∙ no (same (first_kind u) kinds.Break) _ _ (implied (first_in (Part sorts.Effect ∷ a kinds.Semicolon ∷ []) (row_meets rows.StmtForm)) (λ k. not (same k kinds.Break)) refl (first_kind u) f)
    ∙ no (same (first_kind u) kinds.Continue) _ _ (implied (first_in (Part sorts.Effect ∷ a kinds.Semicolon ∷ []) (row_meets rows.StmtForm)) (λ k. not (same k kinds.Continue)) refl (first_kind u) f)
    ∙ no (same (first_kind u) kinds.Return) _ _ (implied (first_in (Part sorts.Effect ∷ a kinds.Semicolon ∷ []) (row_meets rows.StmtForm)) (λ k. not (same k kinds.Return)) refl (first_kind u) f)
    ∙ no (same (first_kind u) kinds.Throw) _ _ (implied (first_in (Part sorts.Effect ∷ a kinds.Semicolon ∷ []) (row_meets rows.StmtForm)) (λ k. not (same k kinds.Throw)) refl (first_kind u) f)

pub tells_no_member : (u : List Tok) → first_in (a kinds.Semicolon ∷ []) (row_meets rows.MemberForm) (first_kind u) ≡ true → predict_member rows.MemberForm u ≡ a kinds.Semicolon ∷ []
unfolding predict_member predict_member_form every
tells_no_member u f =
    yes (same (first_kind u) kinds.Semicolon) _ _ (implied (first_in (a kinds.Semicolon ∷ []) (row_meets rows.MemberForm)) (λ k. same k kinds.Semicolon) refl (first_kind u) f)

pub tells_initializer : (u : List Tok) → first_in (Part sorts.Block ∷ []) (row_meets rows.MemberForm) (first_kind u) ≡ true → predict_member rows.MemberForm u ≡ Part sorts.Block ∷ []
unfolding predict_member predict_member_form every
tells_initializer u f =
    no (same (first_kind u) kinds.Semicolon) _ _ (implied (first_in (Part sorts.Block ∷ []) (row_meets rows.MemberForm)) (λ k. not (same k kinds.Semicolon)) refl (first_kind u) f)
    ∙ yes (same (first_kind u) kinds.OpenBrace) _ _ (implied (first_in (Part sorts.Block ∷ []) (row_meets rows.MemberForm)) (λ k. same k kinds.OpenBrace) refl (first_kind u) f)

pub no_sign_static_initializer : (u : List Tok) → first_in (a kinds.Static ∷ Part sorts.Block ∷ []) (row_meets rows.MemberForm) (first_kind u) ≡ true → predict_member rows.MemberForm u ≡ (if same (first_kind u) kinds.Static && same (second u) kinds.OpenBrace then a kinds.Static ∷ Part sorts.Block ∷ [] else Parts (rows.Any sorts.Mod) ∷ Parts rows.MemberTail ∷ [])
unfolding predict_member predict_member_form every
no_sign_static_initializer u f =
    no (same (first_kind u) kinds.Semicolon) _ _ (implied (first_in (a kinds.Static ∷ Part sorts.Block ∷ []) (row_meets rows.MemberForm)) (λ k. not (same k kinds.Semicolon)) refl (first_kind u) f)
    ∙ no (same (first_kind u) kinds.OpenBrace) _ _ (implied (first_in (a kinds.Static ∷ Part sorts.Block ∷ []) (row_meets rows.MemberForm)) (λ k. not (same k kinds.OpenBrace)) refl (first_kind u) f)

pub no_sign_a_member : (u : List Tok) → first_in (Parts (rows.Any sorts.Mod) ∷ Parts rows.MemberTail ∷ []) (row_meets rows.MemberForm) (first_kind u) ≡ true → predict_member rows.MemberForm u ≡ (if same (first_kind u) kinds.Static && same (second u) kinds.OpenBrace then a kinds.Static ∷ Part sorts.Block ∷ [] else Parts (rows.Any sorts.Mod) ∷ Parts rows.MemberTail ∷ [])
unfolding predict_member predict_member_form every
no_sign_a_member u f =
    no (same (first_kind u) kinds.Semicolon) _ _ (implied (first_in (Parts (rows.Any sorts.Mod) ∷ Parts rows.MemberTail ∷ []) (row_meets rows.MemberForm)) (λ k. not (same k kinds.Semicolon)) refl (first_kind u) f)
    ∙ no (same (first_kind u) kinds.OpenBrace) _ _ (implied (first_in (Parts (rows.Any sorts.Mod) ∷ Parts rows.MemberTail ∷ []) (row_meets rows.MemberForm)) (λ k. not (same k kinds.OpenBrace)) refl (first_kind u) f)
