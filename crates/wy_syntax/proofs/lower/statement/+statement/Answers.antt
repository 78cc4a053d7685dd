use Rattle.std.proofs.Common.{◌∙◌, ap, sym, map, arith}
use Rattle.std.proofs.lemmas.Bool.{ltb-true, ltb-false}
use Rattle.wy_tree.specs.Ast.{Node, view, views, deepest}
use Rattle.wy_syntax.specs.Names.{widths}
use Rattle.wy_syntax.specs.Statements.{braces, clause}
use Rattle.wy_syntax.specs.View.{statement_of, body_of, statements_of, block_of, clause_of, clauses_of, clauses_before}
use Rattle.wy_syntax.proofs.StatementViews.{view_wrong, view_block, view_braced, view_try}
use Rattle.wy_syntax.proofs.Rows.{statements_before, statements_before_done, clauses_before_none}
use Rattle.wy_syntax.proofs.Shapes.{carried, leaf_is, node_is, one_is, two_are, four_are, one_before, two_before, four_before, six_are, seven_are, with_first}
use Rattle.wy_syntax.proofs.StatementProductions.{of_block, of_stmt, of_no_statement, braces_are, no_braces, block_node, block_leaf, statements_go, statements_alone, statements_end, by_word_is, by_no_word, word_if, word_while, word_do, word_for, word_break, word_continue, word_return, word_throw, word_try, word_final, word_other, branch_is, no_branch, otherwise_is, no_otherwise, while_is, no_while, do_is, no_do, for_semicolon, for_given, no_for, behind_is, nothing_behind, test_absent, test_given, test_alone, no_test, tested_is, body_here, body_on, body_alone, body_end, other_effect, other_two, other_nothing, labelled_is, not_labelled, try_is, no_try, catches_go, catches_stop, catches_end, clause_grown, clause_six, clause_seven, no_clause, last_here, last_on, last_alone, last_end}
use Rattle.wy_syntax.proofs.lower.statement.+statement.Goals as goal
use Rattle.wy_syntax.proofs.lower.statement.+statement.Goals.{otherwise-in_default-via-then-parts-lt2, otherwise-in_default-via-else-parts-lt2+else-parts-lt3, loop_while-in_default-via-then-parts-lt4, loop_while-in_default-via-else-parts-lt4+else-parts-lt5, other-in_default-via-then-behind-lt1, other-in_default-via-else-behind-lt1+else-behind-lt2+else-behind-lt3}

-- ---- by form and by word

pub production-returns-in-Block : goal.production-returns-in-Block
production-returns-in-Block t c = carried _ statement_of _ _ (of_block _ _ _ c.in-Block.is) c.braced.ensures

pub production-returns-in-Stmt : goal.production-returns-in-Stmt
production-returns-in-Stmt t c = carried _ statement_of _ _ (of_stmt _ _ _ c.in-Stmt.is) c.by_word.ensures

pub production-returns-in_default : goal.production-returns-in_default
production-returns-in_default t c = view_wrong ∙ of_no_statement _ _ _ c.in_default.not-Block c.in_default.not-Stmt

pub by_word-returns : goal.by_word-returns
by_word-returns t c =
    let shape = one_before c.args.parts.now _ c.in-len1-up.len_at_least c.word-item.is in
    carried _ statement_of _ _ (by_word_is _ _ _ _ _ shape c.leaf_kind.ensures) c.by_kind.ensures

pub by_word-returns-in_default : goal.by_word-returns-in_default
by_word-returns-in_default t c = view_wrong ∙ by_no_word _ c.args.parts.now c.in_default.len_below

pub by_kind-returns-in-If : goal.by_kind-returns-in-If
by_kind-returns-in-If t c = carried _ statement_of _ _ (word_if _ _ _ _ _ c.in-If.is c.width.ensures) c.branch-alloc.ensures

pub by_kind-returns-in-While : goal.by_kind-returns-in-While
by_kind-returns-in-While t c = carried _ statement_of _ _ (word_while _ _ _ _ _ c.in-While.is c.width.ensures) c.loop_while.ensures

pub by_kind-returns-in-Do : goal.by_kind-returns-in-Do
by_kind-returns-in-Do t c = carried _ statement_of _ _ (word_do _ _ _ _ _ c.in-Do.is c.width.ensures) c.loop_do.ensures

pub by_kind-returns-in-For : goal.by_kind-returns-in-For
by_kind-returns-in-For t c = carried _ statement_of _ _ (word_for _ _ _ _ _ c.in-For.is c.width.ensures) c.loop_for.ensures

pub by_kind-returns-in-Break : goal.by_kind-returns-in-Break
by_kind-returns-in-Break t c = carried _ statement_of _ _ (word_break _ _ _ _ _ c.in-Break.is c.width.ensures) c.broken.ensures

pub by_kind-returns-in-Continue : goal.by_kind-returns-in-Continue
by_kind-returns-in-Continue t c = carried _ statement_of _ _ (word_continue _ _ _ _ _ c.in-Continue.is c.width.ensures) c.continued.ensures

pub by_kind-returns-in-Return : goal.by_kind-returns-in-Return
by_kind-returns-in-Return t c = carried _ statement_of _ _ (word_return _ _ _ _ _ c.in-Return.is c.width.ensures) c.returned.ensures

pub by_kind-returns-in-Throw : goal.by_kind-returns-in-Throw
by_kind-returns-in-Throw t c = carried _ statement_of _ _ (word_throw _ _ _ _ _ c.in-Throw.is c.width.ensures) c.thrown.ensures

pub by_kind-returns-in-Try : goal.by_kind-returns-in-Try
by_kind-returns-in-Try t c = carried _ statement_of _ _ (word_try _ _ _ _ _ c.in-Try.is c.width.ensures) c.tried.ensures

pub by_kind-returns-in-Final : goal.by_kind-returns-in-Final
by_kind-returns-in-Final t c = carried _ statement_of _ _ (word_final _ _ _ _ _ c.in-Final.is c.width.ensures) c.declared.ensures

pub by_kind-returns-in_default : goal.by_kind-returns-in_default
by_kind-returns-in_default t c =
    let not = c.in_default in
    carried _ statement_of _ _ (word_other _ _ _ _ not.not-If not.not-While not.not-Do not.not-For not.not-Break not.not-Continue not.not-Return not.not-Throw not.not-Try not.not-Final) c.other.ensures

-- ---- blocks

pub braces-returns : goal.braces-returns
braces-returns t c =
    let shape = one_before c.args.parts.now _ c.in-len1-up.len_at_least c.brace-item.is in
    view_braced _ ∙ braces_are _ _ _ _ _ _ _ shape c.width.ensures c.in_ok-parts.ensures c.widths.ensures

pub braces-returns-in_default : goal.braces-returns-in_default
braces-returns-in_default t c = c.empty_block.ensures ∙ no_braces _ c.args.parts.now c.in_default.len_below

pub block-returns-in-Leaf : goal.block-returns-in-Leaf
block-returns-in-Leaf t c = c.empty_block.ensures ∙ block_leaf _ _ _ (leaf_is _ _ c.in-Leaf.is)

pub block-returns-in-Node : goal.block-returns-in-Node
block-returns-in-Node t c = carried _ block_of _ _ (ap (braces c.args.first) (ap views c.deref.ensures.value) ∙ block_node _ _ _ _ (node_is _ _ _ c.in-Node.is)) c.braces.ensures

pub statements-loop-left-preserved : goal.statements-loop-left-preserved
statements-loop-left-preserved t c =
    let shape = one_before c.loop-left.left.now _ c.in-len1-up.len_at_least c.part-item.is in
    let after = one_before _ _ c.in-len1-up-behind.len_at_least c._next-item.is in
    record {
      row = statements_go _ _ _ _ _ _ _ _ _ _ _ c.in_ok-push.ensures.items shape after c.width.ensures c.in_ok-statement.ensures c.loop-left.invariant.row;
      within = omega (arith, ap widths shape);
      shallow = omega (arith, ap deepest shape);
    }

pub statements-returns-in_default-behind : goal.statements-returns-in_default-behind
statements-returns-in_default-behind t c =
    let shape = one_before c.loop-left.left.now _ c.in-len1-up.len_at_least c.part-item.is in
    sym (statements_before_done (map statement_of c.loop-left.found.items)) ∙ ap (statements_before (map statement_of c.loop-left.found.items)) (statements_alone c.loop-left.at _ _ _ shape c.in_default-behind.len_below) ∙ c.loop-left.invariant.row

pub statements-returns : goal.statements-returns
statements-returns t c =
    sym (statements_before_done (map statement_of c.loop-left.found.items)) ∙ ap (statements_before (map statement_of c.loop-left.found.items)) (statements_end c.loop-left.at c.loop-left.left.now c.in_default.len_below) ∙ c.loop-left.invariant.row

-- ---- `if`, `while` and `do`

pub branch-returns : goal.branch-returns
branch-returns t c =
    let shape = four_before c.args.parts.now _ _ _ _ c.in-len4-up.len_at_least c.paren-item.is c.test-item.is c.close-item.is c.main-item.is in
    c.conditional.ensures ∙ branch_is _ _ _ _ _ _ _ _ _ _ _ _ _ _ _ shape c.width.ensures c.width-2.ensures c.width-3.ensures c.width-4.ensures c.in_ok-test.ensures c.in_ok-main.ensures c.in_ok-other.ensures

pub branch-returns-in_default : goal.branch-returns-in_default
branch-returns-in_default t c = view_wrong ∙ no_branch _ _ c.args.parts.now c.in_default.len_below

pub otherwise-returns : goal.otherwise-returns
otherwise-returns t c =
    let shape = two_are c.args.parts.now _ _ c.in-len2.len_at_least c.in-len2.len_below c.word-item.is c.body-item.is in
    otherwise_is _ _ _ _ _ _ shape c.width.ensures c.in_ok-body.ensures

pub otherwise-returns-in_default : goal.otherwise-returns-in_default
otherwise-returns-in_default t c =
    no_otherwise c.args.first c.args.parts.now (elim c.in_default.branch [ otherwise-in_default-via-then-parts-lt2 w ↦ λ e. omega (arith, ltb-true, ltb-false) | otherwise-in_default-via-else-parts-lt2+else-parts-lt3 w ↦ λ e. omega (arith, ltb-true, ltb-false) ])

pub loop_while-returns : goal.loop_while-returns
loop_while-returns t c =
    let shape = four_are c.args.parts.now _ _ _ _ c.in-len4.len_at_least c.in-len4.len_below c.paren-item.is c.test-item.is c.close-item.is c.body-item.is in
    c.repeated.ensures ∙ while_is _ _ _ _ _ _ _ _ _ _ _ _ shape c.width.ensures c.width-2.ensures c.width-3.ensures c.in_ok-test.ensures c.in_ok-body.ensures

pub loop_while-returns-in_default : goal.loop_while-returns-in_default
loop_while-returns-in_default t c =
    view_wrong ∙ no_while c.args.token c.args.first c.args.parts.now (elim c.in_default.branch [ loop_while-in_default-via-then-parts-lt4 w ↦ λ e. omega (arith, ltb-true, ltb-false) | loop_while-in_default-via-else-parts-lt4+else-parts-lt5 w ↦ λ e. omega (arith, ltb-true, ltb-false) ])

pub loop_do-returns : goal.loop_do-returns
loop_do-returns t c =
    let shape = four_before c.args.parts.now _ _ _ _ c.in-len4-up.len_at_least c.body-item.is c.word-item.is c.paren-item.is c.test-item.is in
    c.repeated_first.ensures ∙ do_is _ _ _ _ _ _ _ _ _ _ _ _ _ shape c.width.ensures c.width-2.ensures c.width-3.ensures c.in_ok-body.ensures c.in_ok-test.ensures

pub loop_do-returns-in_default : goal.loop_do-returns-in_default
loop_do-returns-in_default t c = view_wrong ∙ no_do _ _ c.args.parts.now c.in_default.len_below

-- ---- `for`

pub loop_for-returns-then-is_leaf : goal.loop_for-returns-then-is_leaf
loop_for-returns-then-is_leaf t c =
    let shape = two_before c.args.parts.now _ _ c.in-len2-up.len_at_least c.paren-item.is c.init-item.is in
    carried _ statement_of _ _ (for_semicolon _ _ _ _ _ _ _ _ shape (cc) c.width.ensures c.width-2.ensures) c.for_test.ensures

pub loop_for-returns-in_default : goal.loop_for-returns-in_default
loop_for-returns-in_default t c = view_wrong ∙ no_for _ _ c.args.parts.now c.in_default.len_below

pub loop_for-returns-in_default-behind : goal.loop_for-returns-in_default-behind
loop_for-returns-in_default-behind t c =
    let shape = two_before c.args.parts.now _ _ c.in-len2-up.len_at_least c.paren-item.is c.init-item.is in
    view_wrong ∙ nothing_behind c.args.token _ _ _ c.in_default-behind.len_below ∙ for_given c.args.token c.args.first _ _ _ _ _ _ _ shape (cc) c.width.ensures c.width-2.ensures c.in_ok-init.ensures

pub loop_for-returns : goal.loop_for-returns
loop_for-returns t c =
    let shape = two_before c.args.parts.now _ _ c.in-len2-up.len_at_least c.paren-item.is c.init-item.is in
    let after = one_before _ _ c.in-len1-up.len_at_least c.semicolon-item.is in
    carried _ statement_of _ _ (behind_is _ _ _ _ _ _ _ after c.width-3.ensures ∙ for_given _ _ _ _ _ _ _ _ _ shape (cc) c.width.ensures c.width-2.ensures c.in_ok-init.ensures) c.for_test-2.ensures

pub for_test-returns-in_default : goal.for_test-returns-in_default
for_test-returns-in_default t c = view_wrong ∙ no_test _ _ _ c.args.parts.now c.in_default.len_below

pub for_test-returns-in_default-behind : goal.for_test-returns-in_default-behind
for_test-returns-in_default-behind t c =
    let shape = one_before c.args.parts.now _ c.in-len1-up.len_at_least c.test-item.is in
    view_wrong ∙ test_alone _ _ _ _ _ _ shape c.in_default-behind.len_below

pub for_test-returns-then-is_leaf : goal.for_test-returns-then-is_leaf
for_test-returns-then-is_leaf t c =
    let shape = one_before c.args.parts.now _ c.in-len1-up.len_at_least c.test-item.is in
    let after = one_before _ _ c.in-len1-up-behind.len_at_least c.next-item.is in
    c.counted.ensures ∙ tested_is _ _ _ _ _ _ _ c.in_ok-updates.ensures c.in_ok-body.ensures ∙ test_absent _ _ _ _ _ _ _ _ _ shape after (cc) c.width.ensures

pub for_test-returns : goal.for_test-returns
for_test-returns t c =
    let shape = one_before c.args.parts.now _ c.in-len1-up.len_at_least c.test-item.is in
    let after = one_before _ _ c.in-len1-up-behind.len_at_least c.next-item.is in
    c.counted-2.ensures ∙ tested_is _ _ _ _ _ _ _ c.in_ok-updates-2.ensures c.in_ok-body-2.ensures ∙ test_given _ _ _ _ _ _ _ _ _ _ _ shape after (cc) c.width.ensures c.width-2.ensures c.in_ok-test.ensures

pub body_behind-returns-then-is_leaf : goal.body_behind-returns-then-is_leaf
body_behind-returns-then-is_leaf t c =
    let shape = one_before c.loop-left.left.now _ c.in-len1-up.len_at_least c.part-item.is in
    let after = one_before _ _ c.in-len1-up-behind.len_at_least c.body-item.is in
    carried _ body_of _ _ (body_here _ _ _ _ _ _ _ _ shape after (cc) c.width-at.ensures c.loop-left.invariant.rest) c.boxed.ensures

pub body_behind-loop-left-preserved : goal.body_behind-loop-left-preserved
body_behind-loop-left-preserved t c =
    let shape = one_before c.loop-left.left.now _ c.in-len1-up.len_at_least c.part-item.is in
    let after = one_before _ _ c.in-len1-up-behind.len_at_least c.body-item.is in
    record {
      rest = body_on _ _ _ _ _ _ _ _ shape after (cc) c.width-at.ensures c.loop-left.invariant.rest;
      within = omega (arith, ap widths shape);
      shallow = omega (arith, ap deepest shape);
    }

pub body_behind-returns-in_default-behind : goal.body_behind-returns-in_default-behind
body_behind-returns-in_default-behind t c =
    let shape = one_before c.loop-left.left.now _ c.in-len1-up.len_at_least c.part-item.is in
    carried _ body_of _ _ (body_alone _ _ _ _ _ shape c.in_default-behind.len_below c.loop-left.invariant.rest) c.wrong_body.ensures

pub body_behind-returns : goal.body_behind-returns
body_behind-returns t c = carried _ body_of _ _ (body_end _ c.loop-left.left.now _ c.in_default.len_below c.loop-left.invariant.rest) c.wrong_body-2.ensures

-- ---- expressions, labels and declarations

pub other-returns-in-len1 : goal.other-returns-in-len1
other-returns-in-len1 t c =
    let shape = one_is c.args.behind.now _ c.in-len1.len_at_least c.in-len1.len_below c._semicolon-item.is in
    carried _ statement_of _ _ (other_effect _ _ _ _ shape) c.performed.ensures

pub other-returns-in-len2 : goal.other-returns-in-len2
other-returns-in-len2 t c =
    let shape = two_are c.args.behind.now _ _ c.in-len2.len_at_least c.in-len2.len_below c.mark-item.is c.last-item.is in
    carried _ statement_of _ _ (other_two _ _ _ _ _ shape) c.two_behind.ensures

pub other-returns-in_default : goal.other-returns-in_default
other-returns-in_default t c =
    view_wrong ∙ other_nothing c.args.first _ c.args.behind.now
    (elim c.in_default.branch [ other-in_default-via-then-behind-lt1 w ↦ λ e. omega (arith, ltb-true, ltb-false) | other-in_default-via-else-behind-lt1+else-behind-lt2+else-behind-lt3 w ↦ λ e. omega (arith, ltb-true, ltb-false) ])
    (elim c.in_default.branch [ other-in_default-via-then-behind-lt1 w ↦ λ e. omega (arith, ltb-true, ltb-false) | other-in_default-via-else-behind-lt1+else-behind-lt2+else-behind-lt3 w ↦ λ e. omega (arith, ltb-true, ltb-false) ])

pub two_behind-returns-then-is_leaf : goal.two_behind-returns-then-is_leaf
two_behind-returns-then-is_leaf t c = carried _ statement_of _ _ (labelled_is _ _ _ _ _ _ _ (cc) c.width.ensures c.width-then-is_leaf.ensures c.in_ok-body.ensures) c.labelled.ensures

pub two_behind-returns : goal.two_behind-returns
two_behind-returns t c = carried _ statement_of _ _ (not_labelled _ _ _ _ (cc)) c.declaration.ensures

-- ---- `try`

pub tried-returns : goal.tried-returns
tried-returns t c =
    let shape = one_before c.args.parts.now _ c.in-len1-up.len_at_least c.main-item.is in
    view_try _ c.in_ok-catches.catches _ _ ∙ try_is _ _ _ _ _ _ _ _ _ shape c.width.ensures c.in_ok-main.ensures c.in_ok-catches.ensures c.in_ok-last.ensures

pub tried-returns-in_default : goal.tried-returns-in_default
tried-returns-in_default t c = view_wrong ∙ no_try _ _ c.args.parts.now c.in_default.len_below

pub catches-loop-left-preserved : goal.catches-loop-left-preserved
catches-loop-left-preserved t c =
    let shape = with_first _ _ _ _ (one_before c.loop-left.left.now _ c.in-len1-up.len_at_least c.part-item.is) (node_is _ _ _ c.in-Node.is ∙ ap (λ z. Node c.in-Node.form (views z)) (sym c.deref.ensures.value)) in
    let inner = with_first _ _ _ _ (one_before c.loop-left.left.now _ c.in-len1-up.len_at_least c.part-item.is) (node_is _ _ _ c.in-Node.is ∙ ap (λ z. Node c.in-Node.form (views z)) (sym c.deref-in-len1-up.ensures.value)) in
    record {
      row = catches_go _ _ _ _ _ _ _ _ _ (λ r. c.in_ok-put_clause.ensures r) shape (c.widths-at.ensures ∙ ap (λ z. widths (views z)) (c.deref-in-len1-up.ensures.value ∙ sym c.deref.ensures.value)) c.loop-left.invariant.row;
      within = omega (arith, ap widths inner);
      shallow = omega (arith, ap deepest shape);
    }

pub catches-put_clause-requires : goal.catches-put_clause-requires
catches-put_clause-requires t c =
    let shape = (with_first _ _ _ _ (one_before c.loop-left.left.now _ c.in-len1-up.len_at_least c.part-item.is) (node_is _ _ _ c.in-Node.is ∙ ap (λ z. Node c.in-Node.form (views z)) (sym c.deref.ensures.value))) in
    (omega (arith, ap deepest shape), omega (arith, ap widths shape))

pub catches-widths-at-requires : goal.catches-widths-at-requires
catches-widths-at-requires t c =
    let shape = (with_first _ _ _ _ (one_before c.loop-left.left.now _ c.in-len1-up.len_at_least c.part-item.is) (node_is _ _ _ c.in-Node.is ∙ ap (λ z. Node c.in-Node.form (views z)) (sym c.deref-in-len1-up.ensures.value))) in
    omega (arith, ap widths shape)

pub catches-overflow_add-at : goal.catches-overflow_add-at
catches-overflow_add-at t c =
    let shape = (with_first _ _ _ _ (one_before c.loop-left.left.now _ c.in-len1-up.len_at_least c.part-item.is) (node_is _ _ _ c.in-Node.is ∙ ap (λ z. Node c.in-Node.form (views z)) (sym c.deref-in-len1-up.ensures.value))) in
    omega (arith, ap widths shape)

pub catches-returns-in_default-part : goal.catches-returns-in_default-part
catches-returns-in_default-part t c =
    let shape = with_first _ _ _ _ (one_before c.loop-left.left.now _ c.in-len1-up.len_at_least c.part-item.is) (leaf_is _ _ c.in_default-part.is) in
    sym (clauses_before_none (map clause_of c.loop-left.found.items)) ∙ ap (clauses_before (map clause_of c.loop-left.found.items)) (catches_stop c.loop-left.at _ _ _ shape) ∙ c.loop-left.invariant.row

pub catches-returns : goal.catches-returns
catches-returns t c =
    sym (clauses_before_none (map clause_of c.loop-left.found.items)) ∙ ap (clauses_before (map clause_of c.loop-left.found.items)) (catches_end c.loop-left.at c.loop-left.left.now c.in_default.len_below) ∙ c.loop-left.invariant.row

pub put_clause-returns-in_ok-push-in-len6 : goal.put_clause-returns-in_ok-push-in-len6
put_clause-returns-in_ok-push-in-len6 t c =
    let shape = six_are c.args.parts.now _ _ _ _ _ _ c.in-len6.len_at_least c.in-len6.len_below c.word-item.is c.paren-item.is c.class-item.is c.name-item.is c.close-item.is c.body-item.is in
    clause_grown _ _ _ (clause c.args.first (views c.args.parts.now)) c.in_ok-push-in-len6.ensures.items (λ r. c.in_ok-caught-in-len6.ensures r ∙ clause_six _ _ _ _ _ _ _ _ _ _ r shape c.width.ensures c.width-in-len6.ensures)

pub put_clause-returns-in_ok-push-in-len7 : goal.put_clause-returns-in_ok-push-in-len7
put_clause-returns-in_ok-push-in-len7 t c =
    let shape = seven_are c.args.parts.now _ _ _ _ _ _ _ c.in-len7.len_at_least c.in-len7.len_below c.word-item-then-parts-lt8.is c.paren-item-then-parts-lt8.is c.modifier-item.is c.class-item-then-parts-lt8.is c.name-item-then-parts-lt8.is c.close-item-then-parts-lt8.is c.body-item-then-parts-lt8.is in
    clause_grown _ _ _ (clause c.args.first (views c.args.parts.now)) c.in_ok-push-in-len7.ensures.items (λ r. c.in_ok-caught-in-len7.ensures r ∙ clause_seven _ _ _ _ _ _ _ _ _ _ _ _ r shape c.width-in-len7.ensures c.width-in-len7-2.ensures c.width-in-len7-3.ensures)

pub put_clause-returns-in_default : goal.put_clause-returns-in_default
put_clause-returns-in_default t c = λ r. ap (clauses_before (map clause_of c.args.found.now.items)) (no_clause c.args.first c.args.parts.now r (λ e. omega (arith, ltb-true, ltb-false)) (λ e. omega (arith, ltb-true, ltb-false)))

pub put_clause-returns-in_default-2 : goal.put_clause-returns-in_default-2
put_clause-returns-in_default-2 t c = λ r. ap (clauses_before (map clause_of c.args.found.now.items)) (no_clause c.args.first c.args.parts.now r (λ e. omega (arith, ltb-true, ltb-false)) (λ e. omega (arith, ltb-true, ltb-false)))

pub last_of-returns-then-is_leaf : goal.last_of-returns-then-is_leaf
last_of-returns-then-is_leaf t c =
    let shape = one_before c.loop-left.left.now _ c.in-len1-up.len_at_least c.part-item.is in
    let after = one_before _ _ c.in-len1-up-behind.len_at_least c.body-item.is in
    last_here _ _ _ _ _ _ _ _ _ shape after (cc) c.width-at.ensures c.in_ok-block.ensures c.loop-left.invariant.rest

pub last_of-loop-left-preserved : goal.last_of-loop-left-preserved
last_of-loop-left-preserved t c =
    let shape = one_before c.loop-left.left.now _ c.in-len1-up.len_at_least c.part-item.is in
    let after = one_before _ _ c.in-len1-up-behind.len_at_least c.body-item.is in
    record {
      rest = last_on _ _ _ _ _ _ _ _ shape after (cc) c.width-at.ensures c.loop-left.invariant.rest;
      within = omega (arith, ap widths shape);
      shallow = omega (arith, ap deepest shape);
    }

pub last_of-returns-in_default-behind : goal.last_of-returns-in_default-behind
last_of-returns-in_default-behind t c =
    let shape = one_before c.loop-left.left.now _ c.in-len1-up.len_at_least c.part-item.is in
    last_alone _ _ _ _ _ shape c.in_default-behind.len_below c.loop-left.invariant.rest

pub last_of-returns : goal.last_of-returns
last_of-returns t c = last_end _ c.loop-left.left.now _ c.in_default.len_below c.loop-left.invariant.rest
