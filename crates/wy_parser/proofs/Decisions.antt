-- The way of each row is the one that the tokens tell.
use Rattle.std.proofs.Common.{Bool, true, not, ◌≡◌, List, ◌++◌}
use Rattle.wy_tree.specs.Seen.{Tok}
use Rattle.wy_tree.specs.Kinds.{same}
use Rattle.wy_tree.specs.Ast.{Asts, tokens_all}
use Rattle.wy_tree.specs.Grammar as grammar
use Rattle.wy_tree.specs.Grammar.{Alternative, Match}
use Rattle.wy_tree.specs.declared.kind.Kind.{Kind}
use Rattle.wy_tree.specs.declared.kind.Kind.TheVariants as kinds
use Rattle.wy_tree.specs.declared.grammar.Row.{Row}
use Rattle.wy_tree.specs.declared.grammar.Item.{Item}
use Rattle.wy_parser.specs.Prediction.{first_kind, predict}
use Rattle.wy_parser.proofs.Truth.{is_false}
use Rattle.wy_parser.proofs.Firsts.{first_in}
use Rattle.wy_parser.proofs.Follows.{row_meets, occurs, Lawful}
use Rattle.wy_parser.proofs.Fronts.{tells_none_of, tells_some_of, tells_absent, tells_present, tells_no_series, tells_series, tells_no_further, tells_further, tells_names, tells_no_names, tells_brackets, tells_no_brackets, tells_is_final, tells_not_final, tells_superclass, tells_no_superclass, tells_interfaces, tells_no_interfaces, tells_supers, tells_no_supers, tells_initial, tells_no_initial, tells_more_elements, tells_no_more_elements, tells_comma_between, tells_comma_last, tells_label, tells_no_label, tells_finally, tells_no_finally, tells_assigned, tells_not_assigned, tells_choice, tells_no_choice, tells_steps, tells_no_steps, tells_an_else, tells_no_else, tells_no_methods, tells_no_method, tells_method, tells_annotation, tells_modifier, tells_without_body, tells_with_body, tells_no_result, tells_a_result, tells_an_array, tells_a_value, tells_no_elements, tells_comma_alone, tells_elements, tells_catches, tells_only_finally, tells_big, tells_small, tells_literal, tells_this, tells_grouped, tells_created, tells_inherited, tells_named, tells_a_block, tells_empty, tells_an_if, tells_a_try, tells_a_while, tells_a_do, tells_a_for, tells_a_break, tells_a_continue, tells_a_return, tells_a_throw, tells_no_member, tells_initializer}
use Rattle.wy_parser.proofs.Members.{tells_nothing, tells_a_class, tells_an_interface, tells_static_initializer, tells_a_member, tells_a_constructor, tells_a_method, tells_fields}
use Rattle.wy_parser.proofs.Statements.{tells_own_call, tells_no_own_call, tells_labelled, tells_an_effect, tells_a_declaration, tells_for_declaration, tells_a_statement, tells_for_effects}
use Rattle.wy_parser.proofs.Expressions.{tells_negated, tells_prefixed, tells_a_cast, tells_a_postfix, tells_to_primitive, tells_to_reference, tells_an_object, tells_sized, tells_listed, tells_dimension, tells_unsized, tells_no_dimensions}

-- no else behind an if that has none
abbrev pub lets : {row : Row} {way : List Item} → Alternative row way → Kind → Bool
lets grammar.no_else k = not (same k kinds.Else)
lets _ k = true

pub decides : {row : Row} {way : List Item} (y : Alternative row way) (items : List Item) (ts : Asts) → Match (way ++ items) ts → (s : List Tok) (F : Kind → Bool) → F (first_kind s) ≡ true
    → ((k : Kind) → first_in items F k ≡ true → row_meets row k ≡ true) → occurs row items ≡ true → Lawful items F → lets y (first_kind (tokens_all ts ++ s)) ≡ true
    → first_in way (row_meets row) (first_kind (tokens_all ts ++ s)) ≡ true → predict row (tokens_all ts ++ s) ≡ way
decides (grammar.none_of {x}) items ts w s F f m o l q g = tells_none_of x (tokens_all ts ++ s) g
decides (grammar.some_of {x}) items ts w s F f m o l q g = tells_some_of x items o (tokens_all ts ++ s) g
decides (grammar.absent {x}) items ts w s F f m o l q g = tells_absent x (tokens_all ts ++ s) g
decides (grammar.present {x}) items ts w s F f m o l q g = tells_present x items o (tokens_all ts ++ s) g
decides (grammar.no_series {x}) items ts w s F f m o l q g = tells_no_series x (tokens_all ts ++ s) g
decides (grammar.series {x}) items ts w s F f m o l q g = tells_series x items o (tokens_all ts ++ s) g
decides (grammar.no_further {x}) items ts w s F f m o l q g = tells_no_further x (tokens_all ts ++ s) g
decides (grammar.further {x}) items ts w s F f m o l q g = tells_further x (tokens_all ts ++ s) g
decides grammar.no_names items ts w s F f m o l q g = tells_no_names (tokens_all ts ++ s) g
decides grammar.names items ts w s F f m o l q g = tells_names (tokens_all ts ++ s) g
decides grammar.no_brackets items ts w s F f m o l q g = tells_no_brackets (tokens_all ts ++ s) g
decides grammar.brackets items ts w s F f m o l q g = tells_brackets (tokens_all ts ++ s) g
decides grammar.not_final items ts w s F f m o l q g = tells_not_final (tokens_all ts ++ s) g
decides grammar.is_final items ts w s F f m o l q g = tells_is_final (tokens_all ts ++ s) g
decides grammar.a_class items ts w s F f m o l q g = tells_a_class _ ts w s
decides grammar.an_interface items ts w s F f m o l q g = tells_an_interface _ ts w s
decides grammar.nothing items ts w s F f m o l q g = tells_nothing (tokens_all ts ++ s) g
decides grammar.no_superclass items ts w s F f m o l q g = tells_no_superclass (tokens_all ts ++ s) g
decides grammar.superclass items ts w s F f m o l q g = tells_superclass (tokens_all ts ++ s) g
decides grammar.no_interfaces items ts w s F f m o l q g = tells_no_interfaces (tokens_all ts ++ s) g
decides grammar.interfaces items ts w s F f m o l q g = tells_interfaces (tokens_all ts ++ s) g
decides grammar.no_supers items ts w s F f m o l q g = tells_no_supers (tokens_all ts ++ s) g
decides grammar.supers items ts w s F f m o l q g = tells_supers (tokens_all ts ++ s) g
decides grammar.no_methods items ts w s F f m o l q g = tells_no_methods (tokens_all ts ++ s) g
decides grammar.no_method items ts w s F f m o l q g = tells_no_method (tokens_all ts ++ s) g
decides grammar.method items ts w s F f m o l q g = tells_method (tokens_all ts ++ s) g
decides grammar.modifier items ts w s F f m o l q g = tells_modifier (tokens_all ts ++ s) g
decides grammar.annotation items ts w s F f m o l q g = tells_annotation (tokens_all ts ++ s) g
decides grammar.no_member items ts w s F f m o l q g = tells_no_member (tokens_all ts ++ s) g
decides grammar.initializer items ts w s F f m o l q g = tells_initializer (tokens_all ts ++ s) g
decides grammar.static_initializer items ts w s F f m o l q g = tells_static_initializer _ ts w s
decides grammar.a_member items ts w s F f m o l q g = tells_a_member items ts w s g
decides grammar.fields items ts w s F f m o l q g = tells_fields _ ts w s
decides grammar.a_method items ts w s F f m o l q g = tells_a_method _ ts w s
decides grammar.a_constructor items ts w s F f m o l q g = tells_a_constructor _ ts w s
decides grammar.with_body items ts w s F f m o l q g = tells_with_body (tokens_all ts ++ s) g
decides grammar.without_body items ts w s F f m o l q g = tells_without_body (tokens_all ts ++ s) g
decides grammar.no_own_call items ts w s F f m o l q g = tells_no_own_call items ts w F s f o l
decides grammar.own_call items ts w s F f m o l q g = tells_own_call _ ts w s
decides grammar.no_result items ts w s F f m o l q g = tells_no_result (tokens_all ts ++ s) g
decides grammar.a_result items ts w s F f m o l q g = tells_a_result (tokens_all ts ++ s) g
decides grammar.no_initial items ts w s F f m o l q g = tells_no_initial (tokens_all ts ++ s) g
decides grammar.initial items ts w s F f m o l q g = tells_initial (tokens_all ts ++ s) g
decides grammar.a_value items ts w s F f m o l q g = tells_a_value (tokens_all ts ++ s) g
decides grammar.an_array items ts w s F f m o l q g = tells_an_array (tokens_all ts ++ s) g
decides grammar.no_elements items ts w s F f m o l q g = tells_no_elements (tokens_all ts ++ s) g
decides grammar.comma_alone items ts w s F f m o l q g = tells_comma_alone (tokens_all ts ++ s) g
decides grammar.elements items ts w s F f m o l q g = tells_elements (tokens_all ts ++ s) g
decides grammar.no_more_elements items ts w s F f m o l q g = tells_no_more_elements (tokens_all ts ++ s) g
decides grammar.more_elements items ts w s F f m o l q g = tells_more_elements (tokens_all ts ++ s) g
decides grammar.comma_last items ts w s F f m o l q g = tells_comma_last (tokens_all ts ++ s) g
decides grammar.comma_between items ts w s F f m o l q g = tells_comma_between (tokens_all ts ++ s) g
decides grammar.a_declaration items ts w s F f m o l q g = tells_a_declaration _ ts w s
decides grammar.a_statement items ts w s F f m o l q g = tells_a_statement _ ts w s
decides grammar.a_block items ts w s F f m o l q g = tells_a_block (tokens_all ts ++ s) g
decides grammar.empty items ts w s F f m o l q g = tells_empty (tokens_all ts ++ s) g
decides grammar.an_effect items ts w s F f m o l q g = tells_an_effect _ ts w s
decides grammar.an_if items ts w s F f m o l q g = tells_an_if (tokens_all ts ++ s) g
decides grammar.a_while items ts w s F f m o l q g = tells_a_while (tokens_all ts ++ s) g
decides grammar.a_do items ts w s F f m o l q g = tells_a_do (tokens_all ts ++ s) g
decides grammar.a_for items ts w s F f m o l q g = tells_a_for (tokens_all ts ++ s) g
decides grammar.labelled items ts w s F f m o l q g = tells_labelled _ ts w s
decides grammar.a_break items ts w s F f m o l q g = tells_a_break (tokens_all ts ++ s) g
decides grammar.a_continue items ts w s F f m o l q g = tells_a_continue (tokens_all ts ++ s) g
decides grammar.a_return items ts w s F f m o l q g = tells_a_return (tokens_all ts ++ s) g
decides grammar.a_throw items ts w s F f m o l q g = tells_a_throw (tokens_all ts ++ s) g
decides grammar.a_try items ts w s F f m o l q g = tells_a_try (tokens_all ts ++ s) g
decides grammar.no_else items ts w s F f m o l q g = tells_no_else (tokens_all ts ++ s) (is_false (same (first_kind (tokens_all ts ++ s)) kinds.Else) q)
decides grammar.an_else items ts w s F f m o l q g = tells_an_else (tokens_all ts ++ s) g
decides grammar.no_label items ts w s F f m o l q g = tells_no_label (tokens_all ts ++ s) g
decides grammar.label items ts w s F f m o l q g = tells_label (tokens_all ts ++ s) g
decides grammar.catches items ts w s F f m o l q g = tells_catches (tokens_all ts ++ s) g
decides grammar.only_finally items ts w s F f m o l q g = tells_only_finally (tokens_all ts ++ s) g
decides grammar.no_finally items ts w s F f m o l q g = tells_no_finally (tokens_all ts ++ s) g
decides grammar.finally items ts w s F f m o l q g = tells_finally (tokens_all ts ++ s) g
decides grammar.for_declaration items ts w s F f m o l q g = tells_for_declaration _ ts w s
decides grammar.for_effects items ts w s F f m o l q g = tells_for_effects items ts w F s f m
decides grammar.not_assigned items ts w s F f m o l q g = tells_not_assigned (tokens_all ts ++ s) g
decides grammar.assigned items ts w s F f m o l q g = tells_assigned (tokens_all ts ++ s) g
decides grammar.no_choice items ts w s F f m o l q g = tells_no_choice (tokens_all ts ++ s) g
decides grammar.choice items ts w s F f m o l q g = tells_choice (tokens_all ts ++ s) g
decides grammar.negated items ts w s F f m o l q g = tells_negated (tokens_all ts ++ s) g
decides grammar.prefixed items ts w s F f m o l q g = tells_prefixed (tokens_all ts ++ s) g
decides grammar.a_cast items ts w s F f m o l q g = tells_a_cast _ ts w s
decides grammar.a_postfix items ts w s F f m o l q g = tells_a_postfix items ts w F s f m
decides grammar.big items ts w s F f m o l q g = tells_big (tokens_all ts ++ s) g
decides grammar.small items ts w s F f m o l q g = tells_small (tokens_all ts ++ s) g
decides grammar.to_primitive items ts w s F f m o l q g = tells_to_primitive _ ts w s
decides grammar.to_reference items ts w s F f m o l q g = tells_to_reference _ ts w s
decides grammar.no_steps items ts w s F f m o l q g = tells_no_steps (tokens_all ts ++ s) g
decides grammar.steps items ts w s F f m o l q g = tells_steps (tokens_all ts ++ s) g
decides grammar.literal items ts w s F f m o l q g = tells_literal (tokens_all ts ++ s) g
decides grammar.this items ts w s F f m o l q g = tells_this (tokens_all ts ++ s) g
decides grammar.named items ts w s F f m o l q g = tells_named (tokens_all ts ++ s) g
decides grammar.grouped items ts w s F f m o l q g = tells_grouped (tokens_all ts ++ s) g
decides grammar.created items ts w s F f m o l q g = tells_created (tokens_all ts ++ s) g
decides grammar.inherited items ts w s F f m o l q g = tells_inherited (tokens_all ts ++ s) g
decides grammar.an_object items ts w s F f m o l q g = tells_an_object _ ts w s
decides grammar.sized items ts w s F f m o l q g = tells_sized _ ts w s
decides grammar.listed items ts w s F f m o l q g = tells_listed _ ts w s
decides grammar.no_dimensions items ts w s F f m o l q g = tells_no_dimensions (tokens_all ts ++ s) g
decides grammar.dimension items ts w s F f m o l q g = tells_dimension _ ts w s
decides grammar.unsized items ts w s F f m o l q g = tells_unsized _ ts w s
