-- Productions and the syntax that they are, computed.
use Rattle.std.proofs.Common.{◌≡◌, ℕ, true, false, List, [], ◌∷◌, Some, None, refl}
use Rattle.std.specs.Prelude.{codes}
use Rattle.wy_kernel.specs.declared.operator.BinOp.TheVariants as binary
use Rattle.wy_tree.specs.Seen.{Word, Key, Sign}
use Rattle.wy_tree.specs.Kinds.{kind_of, word_kind_of, declaring_key_kind, branching_key_kind, bracket_sign_kind, logic_sign_kind, comparing_sign_kind, arithmetic_sign_kind, lone_sign_kind}
use Rattle.wy_tree.specs.Ast.{Ast, Leaf, Node, none, more}
use Rattle.wy_tree.specs.declared.tree.Form.TheVariants as form
use Rattle.wy_syntax.specs.Syntax as plain
use Rattle.wy_syntax.specs.Names.{operator, is_up}
use Rattle.wy_syntax.specs.Expressions.{expression, binary as binary_by, postfix, primary, arguments_of, arguments}
use Rattle.wy_syntax.specs.Statements.{effects, effects_behind, statement, by_word, loop_while, loop_for, for_test, body_behind}

abbrev word : List ℕ → Ast
word text = Leaf (Word text)

abbrev key : List ℕ → Ast
key text = Leaf (Key text)

abbrev sign : List ℕ → Ast
sign text = Leaf (Sign text)

-- `a + b`
sum_is : expression 7 (Node form.Binary (more (word (codes "a")) (more (sign (codes "+")) (more (word (codes "b")) none))))
    ≡ plain.Binary binary.Add (plain.Name (codes "a") 7) (plain.Name (codes "b") 9) 8
unfolding expression binary_by operator kind_of word_kind_of bracket_sign_kind logic_sign_kind comparing_sign_kind arithmetic_sign_kind
sum_is = refl

-- `a++`
step_is : expression 0 (Node form.Postfix (more (word (codes "a")) (more (sign (codes "++")) none))) ≡ plain.Step false true (plain.Name (codes "a") 0) 1
unfolding expression postfix is_up kind_of word_kind_of
step_is = refl

-- `(a)`
group_is : expression 0 (Node form.Primary (more (sign (codes "(")) (more (word (codes "a")) (more (sign (codes ")")) none)))) ≡ plain.Group (plain.Name (codes "a") 1) 0
unfolding expression primary kind_of word_kind_of bracket_sign_kind
group_is = refl

-- `f(a, b)`
call_is : expression 0 (Node form.Primary (more (word (codes "f")) (more (Node form.Args (more (sign (codes "(")) (more (word (codes "a")) (more (sign (codes ",")) (more (word (codes "b")) (more (sign (codes ")")) none)))))) none)))
    ≡ plain.Invoke (codes "f") (plain.more (plain.Name (codes "a") 2) (plain.more (plain.Name (codes "b") 4) plain.none)) 1
unfolding expression primary arguments_of arguments kind_of word_kind_of
call_is = refl

-- `break l;`
break_is : statement 3 (Node form.Stmt (more (key (codes "break")) (more (word (codes "l")) (more (sign (codes ";")) none)))) ≡ plain.Break (Some (record { name = codes "l"; token = 4 })) 3
unfolding statement by_word kind_of declaring_key_kind branching_key_kind
break_is = refl

-- `while (a) ;`
while_is : statement 3 (Node form.Stmt (more (key (codes "while")) (more (sign (codes "(")) (more (word (codes "a")) (more (sign (codes ")")) (more (sign (codes ";")) none))))))
    ≡ plain.While (plain.Name (codes "a") 5) (plain.Empty 7) 3
unfolding statement by_word loop_while expression kind_of word_kind_of declaring_key_kind branching_key_kind bracket_sign_kind
while_is = refl

-- `for (;; a++, b++) ;`: the body is no update
for_is : statement 0
    (Node form.Stmt (more (key (codes "for")) (more (sign (codes "(")) (more (sign (codes ";")) (more (sign (codes ";"))
    (more (Node form.Postfix (more (word (codes "a")) (more (sign (codes "++")) none))) (more (sign (codes ",")) (more (Node form.Postfix (more (word (codes "b")) (more (sign (codes "++")) none)))
    (more (sign (codes ")")) (more (sign (codes ";")) none))))))))))
    ≡ plain.For plain.ForInit.Nothing None
    (record { value = plain.Step false true (plain.Name (codes "a") 4) 5; token = 4 } ∷ record { value = plain.Step false true (plain.Name (codes "b") 7) 8; token = 7 } ∷ [])
    (plain.Empty 10) 0
unfolding statement by_word loop_for for_test effects effects_behind body_behind expression postfix is_up kind_of word_kind_of declaring_key_kind branching_key_kind bracket_sign_kind logic_sign_kind comparing_sign_kind arithmetic_sign_kind lone_sign_kind
for_is = refl
