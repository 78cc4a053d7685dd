use Rattle.std.proofs.Common.{◌∙◌, ap, sym, map, arith}
use Rattle.std.proofs.lemmas.Bool.{ltb-true, ltb-false}
use Rattle.wy_tree.specs.Ast.{more, none, view, deepest}
use Rattle.wy_syntax.specs.Names.{widths}
use Rattle.wy_syntax.specs.Syntax as plain
use Rattle.wy_syntax.specs.View.{expression_of, element_of, elements_of, row_of}
use Rattle.wy_syntax.proofs.ExpressionViews.{view_wrong, view_new_array, view_new_list, view_element_at}
use Rattle.wy_syntax.proofs.Rows.{followed, followed_by_none, elements_followed, elements_followed_by_none}
use Rattle.wy_syntax.proofs.Shapes.{carried, leaf_is, node_is, one_is, two_are, three_are, four_are, five_are, one_before, two_before, three_before, with_first, with_third}
use Rattle.wy_syntax.proofs.Productions.{expression_leaf, of_expr, of_cond, of_binary, of_unary, of_cast, of_postfix, of_primary, of_new, of_no_expression, assignment_is, assignment_of_node, assignment_wrong, choice_is, choice_wrong, binary_is, binary_instance, binary_of_node, binary_wrong, unary_is, unary_of_node, unary_wrong, cast_is, cast_wrong, postfix_is, postfix_wrong, primary_call, primary_three, primary_four, primary_wrong, creation_object, creation_array, creation_wrong, array_sized, array_wrong, arguments_go, arguments_end, sizes_go, sizes_stop, sizes_end, arguments_of_is, arguments_of_nothing, no_arguments_of, listed_here, listed_on, listed_wrong, element_on, elements_stop, elements_end, inside_is, inside_of_node, inside_nothing}
use Rattle.wy_syntax.proofs.lower.expression.+lowering.Goals as goal
use Rattle.wy_syntax.proofs.lower.expression.+lowering.Goals.{assignment-in_default-via-then-parts-lt3, assignment-in_default-via-else-parts-lt3+else-parts-lt4, binary-in_default-via-then-parts-lt3, binary-in_default-via-else-parts-lt3+else-parts-lt4, unary-in_default-via-then-parts-lt2, unary-in_default-via-else-parts-lt2+else-parts-lt3, cast-in_default-via-then-parts-lt4, cast-in_default-via-else-parts-lt4+else-parts-lt5, choice-in_default-via-then-parts-lt5, choice-in_default-via-else-parts-lt5+else-parts-lt6, primary-in_default-via-then-parts-lt2, primary-in_default-via-else-parts-lt2+else-parts-lt3+else-parts-lt4+else-parts-lt5, creation-in_default-behind-via-then-behind-lt1, creation-in_default-behind-via-else-behind-lt1+else-behind-lt2}

pub expression-returns-in-Leaf : goal.expression-returns-in-Leaf
expression-returns-in-Leaf t c = carried _ expression_of _ _ (expression_leaf _ _ _ (leaf_is _ _ c.in-Leaf.is)) c.leaf.ensures

-- ---- a production by its form

pub production-returns-in-Expr : goal.production-returns-in-Expr
production-returns-in-Expr t c = carried _ expression_of _ _ (of_expr _ _ _ c.in-Expr.is) c.assignment.ensures

pub production-returns-in-Cond : goal.production-returns-in-Cond
production-returns-in-Cond t c = carried _ expression_of _ _ (of_cond _ _ _ c.in-Cond.is) c.choice.ensures

pub production-returns-in-Binary : goal.production-returns-in-Binary
production-returns-in-Binary t c = carried _ expression_of _ _ (of_binary _ _ _ c.in-Binary.is) c.binary.ensures

pub production-returns-in-Unary : goal.production-returns-in-Unary
production-returns-in-Unary t c = carried _ expression_of _ _ (of_unary _ _ _ c.in-Unary.is) c.unary.ensures

pub production-returns-in-Cast : goal.production-returns-in-Cast
production-returns-in-Cast t c = carried _ expression_of _ _ (of_cast _ _ _ c.in-Cast.is) c.cast.ensures

pub production-returns-in-Postfix : goal.production-returns-in-Postfix
production-returns-in-Postfix t c = carried _ expression_of _ _ (of_postfix _ _ _ c.in-Postfix.is) c.postfix.ensures

pub production-returns-in-Primary : goal.production-returns-in-Primary
production-returns-in-Primary t c = carried _ expression_of _ _ (of_primary _ _ _ c.in-Primary.is) c.primary.ensures

pub production-returns-in-New : goal.production-returns-in-New
production-returns-in-New t c = carried _ expression_of _ _ (of_new _ _ _ c.in-New.is) c.creation.ensures

pub production-returns-in_default : goal.production-returns-in_default
production-returns-in_default t c =
    let not = c.in_default in
    view_wrong ∙ of_no_expression _ _ _ not.not-Expr not.not-Cond not.not-Binary not.not-Unary not.not-Cast not.not-Postfix not.not-Primary not.not-New

-- ---- assignments, choices and operators

pub assignment-boxed-requires-2 : goal.assignment-boxed-requires-2
assignment-boxed-requires-2 t c =
    let shape = three_are c.args.parts.now _ _ _ c.in-len3.len_at_least c.in-len3.len_below c.left-item.is c.sign-item.is c.value-item.is in
    (omega (arith, ap deepest shape), omega (arith, ap widths (shape ∙ ap (λ s. more (view c.left-item.result) (more s (more (view c.value-item.result) none))) (leaf_is _ _ c.in-Leaf.is))))

pub assignment-returns : goal.assignment-returns
assignment-returns t c =
    let shape = three_are c.args.parts.now _ _ _ c.in-len3.len_at_least c.in-len3.len_below c.left-item.is c.sign-item.is c.value-item.is in
    c.assigned.ensures ∙ assignment_is _ _ _ _ _ _ _ _ _ shape (leaf_is _ _ c.in-Leaf.is) c.width.ensures c.in_ok-left.ensures c.in_ok-value.ensures

pub assignment-returns-in_default-sign : goal.assignment-returns-in_default-sign
assignment-returns-in_default-sign t c =
    let shape = three_are c.args.parts.now _ _ _ c.in-len3.len_at_least c.in-len3.len_below c.left-item.is c.sign-item.is c.value-item.is in
    view_wrong ∙ assignment_of_node _ _ _ _ _ _ _ shape (node_is _ _ _ c.in_default-sign.is)

pub assignment-returns-in_default : goal.assignment-returns-in_default
assignment-returns-in_default t c =
    view_wrong ∙ assignment_wrong c.args.first c.args.parts.now (elim c.in_default.branch [ assignment-in_default-via-then-parts-lt3 w ↦ λ e. omega (arith, ltb-true, ltb-false) | assignment-in_default-via-else-parts-lt3+else-parts-lt4 w ↦ λ e. omega (arith, ltb-true, ltb-false) ])

pub choice-returns : goal.choice-returns
choice-returns t c =
    let shape = five_are c.args.parts.now _ _ _ _ _ c.in-len5.len_at_least c.in-len5.len_below c.test-item.is c.question-item.is c.main-item.is c.colon-item.is c.other-item.is in
    c.chosen.ensures ∙ choice_is _ _ _ _ _ _ _ _ _ _ _ _ _ _ shape c.width.ensures c.width-2.ensures c.width-3.ensures c.width-4.ensures c.in_ok-test.ensures c.in_ok-main.ensures c.in_ok-other.ensures

pub choice-returns-in_default : goal.choice-returns-in_default
choice-returns-in_default t c =
    view_wrong ∙ choice_wrong c.args.first c.args.parts.now (elim c.in_default.branch [ choice-in_default-via-then-parts-lt5 w ↦ λ e. omega (arith, ltb-true, ltb-false) | choice-in_default-via-else-parts-lt5+else-parts-lt6 w ↦ λ e. omega (arith, ltb-true, ltb-false) ])

pub binary-boxed-requires-2 : goal.binary-boxed-requires-2
binary-boxed-requires-2 t c =
    let shape = three_are c.args.parts.now _ _ _ c.in-len3.len_at_least c.in-len3.len_below c.left-item.is c.sign-item.is c.right-item.is in
    (omega (arith, ap deepest shape), omega (arith, ap widths (shape ∙ ap (λ s. more (view c.left-item.result) (more s (more (view c.right-item.result) none))) (leaf_is _ _ c.in-Leaf.is))))

pub binary-instance_of-requires : goal.binary-instance_of-requires
binary-instance_of-requires t c =
    let shape = three_are c.args.parts.now _ _ _ c.in-len3.len_at_least c.in-len3.len_below c.left-item.is c.sign-item.is c.right-item.is in
    omega (arith, ap widths (shape ∙ ap (λ s. more (view c.left-item.result) (more s (more (view c.right-item.result) none))) (leaf_is _ _ c.in-Leaf.is)))

pub binary-returns-then-is_kind : goal.binary-returns-then-is_kind
binary-returns-then-is_kind t c =
    let shape = three_are c.args.parts.now _ _ _ c.in-len3.len_at_least c.in-len3.len_below c.left-item.is c.sign-item.is c.right-item.is in
    carried _ expression_of _ _ (binary_instance _ _ _ _ _ _ _ _ shape (leaf_is _ _ c.in-Leaf.is) (cc) c.width.ensures c.in_ok-left.ensures) c.instance_of.ensures

pub binary-returns : goal.binary-returns
binary-returns t c =
    let shape = three_are c.args.parts.now _ _ _ c.in-len3.len_at_least c.in-len3.len_below c.left-item.is c.sign-item.is c.right-item.is in
    c.joined.ensures ∙ binary_is _ _ _ _ _ _ _ _ _ shape (leaf_is _ _ c.in-Leaf.is) (cc) c.width.ensures c.in_ok-left.ensures c.in_ok-right.ensures

pub binary-returns-in_default-sign : goal.binary-returns-in_default-sign
binary-returns-in_default-sign t c =
    let shape = three_are c.args.parts.now _ _ _ c.in-len3.len_at_least c.in-len3.len_below c.left-item.is c.sign-item.is c.right-item.is in
    view_wrong ∙ binary_of_node _ _ _ _ _ _ _ shape (node_is _ _ _ c.in_default-sign.is)

pub binary-returns-in_default : goal.binary-returns-in_default
binary-returns-in_default t c =
    view_wrong ∙ binary_wrong c.args.first c.args.parts.now (elim c.in_default.branch [ binary-in_default-via-then-parts-lt3 w ↦ λ e. omega (arith, ltb-true, ltb-false) | binary-in_default-via-else-parts-lt3+else-parts-lt4 w ↦ λ e. omega (arith, ltb-true, ltb-false) ])

pub unary-boxed-requires : goal.unary-boxed-requires
unary-boxed-requires t c =
    let shape = two_are c.args.parts.now _ _ c.in-len2.len_at_least c.in-len2.len_below c.sign-item.is c.operand-item.is in
    (omega (arith, ap deepest shape), omega (arith, ap widths (shape ∙ ap (λ s. more s (more (view c.operand-item.result) none)) (leaf_is _ _ c.in-Leaf.is))))

pub unary-returns : goal.unary-returns
unary-returns t c =
    let shape = two_are c.args.parts.now _ _ c.in-len2.len_at_least c.in-len2.len_below c.sign-item.is c.operand-item.is in
    c.prefixed.ensures ∙ unary_is _ _ _ _ _ _ shape (leaf_is _ _ c.in-Leaf.is) c.in_ok-operand.ensures

pub unary-returns-in_default-sign : goal.unary-returns-in_default-sign
unary-returns-in_default-sign t c =
    let shape = two_are c.args.parts.now _ _ c.in-len2.len_at_least c.in-len2.len_below c.sign-item.is c.operand-item.is in
    view_wrong ∙ unary_of_node _ _ _ _ _ _ shape (node_is _ _ _ c.in_default-sign.is)

pub unary-returns-in_default : goal.unary-returns-in_default
unary-returns-in_default t c =
    view_wrong ∙ unary_wrong c.args.first c.args.parts.now (elim c.in_default.branch [ unary-in_default-via-then-parts-lt2 w ↦ λ e. omega (arith, ltb-true, ltb-false) | unary-in_default-via-else-parts-lt2+else-parts-lt3 w ↦ λ e. omega (arith, ltb-true, ltb-false) ])

pub cast-returns : goal.cast-returns
cast-returns t c =
    let shape = four_are c.args.parts.now _ _ _ _ c.in-len4.len_at_least c.in-len4.len_below c.paren-item.is c.ty-item.is c.close-item.is c.operand-item.is in
    carried _ expression_of _ _ (cast_is _ _ _ _ _ _ _ _ _ _ shape c.width.ensures c.width-2.ensures c.width-3.ensures c.in_ok-operand.ensures) c.cast_to.ensures

pub cast-returns-in_default : goal.cast-returns-in_default
cast-returns-in_default t c =
    view_wrong ∙ cast_wrong c.args.first c.args.parts.now (elim c.in_default.branch [ cast-in_default-via-then-parts-lt4 w ↦ λ e. omega (arith, ltb-true, ltb-false) | cast-in_default-via-else-parts-lt4+else-parts-lt5 w ↦ λ e. omega (arith, ltb-true, ltb-false) ])

-- ---- steps

pub postfix-returns-in-empty : goal.postfix-returns-in-empty
postfix-returns-in-empty t c = view_wrong ∙ postfix_wrong _ c.args.parts.now (omega arith)

pub postfix-returns-in_ok-operand-in-len1-up : goal.postfix-returns-in_ok-operand-in-len1-up
postfix-returns-in_ok-operand-in-len1-up t c =
    let shape = one_before c.args.parts.now _ c.in-len1-up.len_at_least c.operand-item.is in
    carried _ expression_of _ _ (postfix_is _ _ _ _ _ _ shape c.width.ensures c.in_ok-operand-in-len1-up.ensures) c.stepped.ensures

-- ---- calls, parentheses, members and elements

pub primary-returns-in_ok-args-in-len2 : goal.primary-returns-in_ok-args-in-len2
primary-returns-in_ok-args-in-len2 t c =
    let shape = two_are c.args.parts.now _ _ c.in-len2.len_at_least c.in-len2.len_below c.name-item.is c.args-item.is in
    carried _ expression_of _ _ (primary_call _ _ _ _ _ _ shape c.width.ensures c.in_ok-args-in-len2.ensures) c.invoked.ensures

pub primary-returns-in-len3 : goal.primary-returns-in-len3
primary-returns-in-len3 t c =
    let shape = three_are c.args.parts.now _ _ _ c.in-len3.len_at_least c.in-len3.len_below c.front-item.is c.middle-item.is c.last-item.is in
    carried _ expression_of _ _ (primary_three _ _ _ _ _ shape) c.three.ensures

pub primary-returns-in-len4 : goal.primary-returns-in-len4
primary-returns-in-len4 t c =
    let shape = four_are c.args.parts.now _ _ _ _ c.in-len4.len_at_least c.in-len4.len_below c.front-item-then-parts-lt5.is c.middle-item-then-parts-lt5.is c.inner-item.is c.last-item-then-parts-lt5.is in
    carried _ expression_of _ _ (primary_four _ _ _ _ _ _ shape) c.four.ensures

pub primary-returns-in_default : goal.primary-returns-in_default
primary-returns-in_default t c =
    view_wrong ∙ primary_wrong c.args.first c.args.parts.now
    (elim c.in_default.branch [ primary-in_default-via-then-parts-lt2 w ↦ λ e. omega (arith, ltb-true, ltb-false) | primary-in_default-via-else-parts-lt2+else-parts-lt3+else-parts-lt4+else-parts-lt5 w ↦ λ e. omega (arith, ltb-true, ltb-false) ])
    (elim c.in_default.branch [ primary-in_default-via-then-parts-lt2 w ↦ λ e. omega (arith, ltb-true, ltb-false) | primary-in_default-via-else-parts-lt2+else-parts-lt3+else-parts-lt4+else-parts-lt5 w ↦ λ e. omega (arith, ltb-true, ltb-false) ])
    (elim c.in_default.branch [ primary-in_default-via-then-parts-lt2 w ↦ λ e. omega (arith, ltb-true, ltb-false) | primary-in_default-via-else-parts-lt2+else-parts-lt3+else-parts-lt4+else-parts-lt5 w ↦ λ e. omega (arith, ltb-true, ltb-false) ])

-- ---- creations

pub creation-returns-in_ok-args-in-len1 : goal.creation-returns-in_ok-args-in-len1
creation-returns-in_ok-args-in-len1 t c =
    let shape = two_before c.args.parts.now _ _ c.in-len2-up.len_at_least c.word-item.is c.ty-item.is in
    let last = one_is _ _ c.in-len1.len_at_least c.in-len1.len_below c.args-item.is in
    carried _ expression_of _ _ (creation_object _ _ _ _ _ _ _ _ (with_third _ _ _ _ _ shape last) c.width.ensures c.width-in-len1.ensures c.in_ok-args-in-len1.ensures) c.object.ensures

pub creation-returns-in_default-behind : goal.creation-returns-in_default-behind
creation-returns-in_default-behind t c =
    let shape = two_before c.args.parts.now _ _ c.in-len2-up.len_at_least c.word-item.is c.ty-item.is in
    carried _ expression_of _ _ (creation_array _ _ _ _ _ _ shape
    (elim c.in_default-behind.branch [ creation-in_default-behind-via-then-behind-lt1 w ↦ λ e. omega (arith, ltb-true, ltb-false) | creation-in_default-behind-via-else-behind-lt1+else-behind-lt2 w ↦ λ e. omega (arith, ltb-true, ltb-false) ])
    c.width.ensures) c.array.ensures

pub creation-returns-in_default : goal.creation-returns-in_default
creation-returns-in_default t c = view_wrong ∙ creation_wrong _ c.args.parts.now c.in_default.len_below

pub array-returns : goal.array-returns
array-returns t c =
    let shape = two_before c.args.brackets.now _ _ c.in-len2-up.len_at_least c.bracket-item.is c.inner-item.is in
    view_new_array _ _ _ _ _ ∙ array_sized _ _ _ _ _ _ _ _ _ _ _ shape (cc) c.width.ensures c.in_ok-base.ensures c.in_ok-sizes.ensures c.empty_pairs.ensures

pub array-returns-in_default : goal.array-returns-in_default
array-returns-in_default t c = view_wrong ∙ array_wrong _ _ _ c.args.brackets.now c.in_default.len_below

-- ---- rows

pub arguments-loop-left-preserved : goal.arguments-loop-left-preserved
arguments-loop-left-preserved t c =
    let shape = two_before c.loop-left.left.now _ _ c.in-len2-up.len_at_least c.value-item.is c.mark-item.is in
    record {
      row = arguments_go _ _ _ _ _ _ _ _ _ _ _ c.in_ok-push.ensures.items shape c.width.ensures c.width-in-len2-up.ensures c.in_ok-expression.ensures c.loop-left.invariant.row;
      within = omega (arith, ap widths shape);
      shallow = omega (arith, ap deepest shape);
    }

pub arguments-returns : goal.arguments-returns
arguments-returns t c =
    sym (followed_by_none _) ∙ ap (followed _) (arguments_end _ c.loop-left.left.now c.in_default.len_below) ∙ c.loop-left.invariant.row

pub sizes-loop-left-preserved : goal.sizes-loop-left-preserved
sizes-loop-left-preserved t c =
    let shape = three_before c.loop-left.left.now _ _ _ c.in-len3-up.len_at_least c.bracket-item.is c.size-item.is c.close-item.is in
    record {
      row = sizes_go _ _ _ _ _ _ _ _ _ _ _ _ _ c.in_ok-push.ensures.items shape (cc) c.width.ensures c.width-in-len3-up.ensures c.width-in-len3-up-2.ensures c.in_ok-expression.ensures c.loop-left.invariant.row;
      within = omega (arith, ap widths shape);
      shallow = omega (arith, ap deepest shape);
    }

pub sizes-returns-then-is_leaf : goal.sizes-returns-then-is_leaf
sizes-returns-then-is_leaf t c =
    let shape = three_before c.loop-left.left.now _ _ _ c.in-len3-up.len_at_least c.bracket-item.is c.size-item.is c.close-item.is in
    sym (followed_by_none _) ∙ ap (followed _) (sizes_stop _ _ _ _ _ _ shape (cc)) ∙ c.loop-left.invariant.row

pub sizes-returns : goal.sizes-returns
sizes-returns t c = sym (followed_by_none _) ∙ ap (followed _) (sizes_end _ c.loop-left.left.now c.in_default.len_below) ∙ c.loop-left.invariant.row

pub arguments_of-returns : goal.arguments_of-returns
arguments_of-returns t c =
    let shape = one_before _ _ c.in-len1-up.len_at_least c.paren-item.is in
    carried _ (λ found. row_of (map expression_of found.items)) _ _ (arguments_of_is _ _ _ _ _ _ c.in-Some.ensures shape c.width.ensures) c.arguments.ensures

-- ---- elements in braces

pub listed-returns-then-is_leaf : goal.listed-returns-then-is_leaf
listed-returns-then-is_leaf t c =
    let shape = one_before c.loop-left.left.now _ c.in-len1-up.len_at_least c.part-item.is in
    view_new_list _ _ _ c.in_ok-elements.elements _ _ ∙ listed_here _ _ _ _ _ _ _ _ _ _ shape (cc) c.in_ok-elements.ensures c.loop-left.invariant.rest

pub listed-loop-left-preserved : goal.listed-loop-left-preserved
listed-loop-left-preserved t c =
    let shape = one_before c.loop-left.left.now _ c.in-len1-up.len_at_least c.part-item.is in
    record {
      rest = listed_on _ _ _ _ _ _ _ _ _ _ shape (cc) c.width-brace.ensures c.loop-left.invariant.rest;
      within = omega (arith, ap widths shape);
      shallow = omega (arith, ap deepest shape);
    }

pub listed-returns : goal.listed-returns
listed-returns t c = view_wrong ∙ listed_wrong _ _ _ _ _ c.loop-left.left.now _ c.in_default.len_below c.loop-left.invariant.rest

pub elements-returns-then-is_mark : goal.elements-returns-then-is_mark
elements-returns-then-is_mark t c =
    let shape = two_before c.loop-left.left.now _ _ c.in-len2-up.len_at_least c.part-item.is c.mark-item.is in
    sym (elements_followed_by_none (map element_of c.loop-left.found.items)) ∙ ap (elements_followed (map element_of c.loop-left.found.items)) (elements_stop c.loop-left.before _ _ _ _ shape (cc)) ∙ c.loop-left.invariant.row

pub elements-loop-left-preserved : goal.elements-loop-left-preserved
elements-loop-left-preserved t c =
    let shape = two_before c.loop-left.left.now _ _ c.in-len2-up.len_at_least c.part-item.is c.mark-item.is in
    record {
      row = element_on _ _ _ _ _ _ _ _ _ _ _ c.in_ok-push.ensures.items shape (cc) c.width.ensures c.width-in-len2-up.ensures (λ r. view_element_at _ r ∙ ap (λ i. plain.element c.loop-left.before i r) c.in_ok-initial.ensures) c.loop-left.invariant.row;
      within = omega (arith, ap widths shape);
      shallow = omega (arith, ap deepest shape);
    }

pub elements-returns : goal.elements-returns
elements-returns t c = sym (elements_followed_by_none (map element_of c.loop-left.found.items)) ∙ ap (elements_followed (map element_of c.loop-left.found.items)) (elements_end c.loop-left.before c.loop-left.left.now c.in_default.len_below) ∙ c.loop-left.invariant.row

pub inside-elements-requires : goal.inside-elements-requires
inside-elements-requires t c =
    let shape = one_before c.args.parts.now _ c.in-len1-up.len_at_least c.brace-item.is in
    (omega (arith, ap deepest shape), omega (arith, ap widths (with_first _ _ _ _ shape (leaf_is _ _ c.in-Leaf.is))))

pub inside-returns-in-Leaf : goal.inside-returns-in-Leaf
inside-returns-in-Leaf t c =
    let shape = one_before c.args.parts.now _ c.in-len1-up.len_at_least c.brace-item.is in
    carried _ (λ found. elements_of (map element_of found.items)) _ _ (inside_is _ _ _ _ _ shape (leaf_is _ _ c.in-Leaf.is)) c.elements.ensures

pub inside-returns-in-Node : goal.inside-returns-in-Node
inside-returns-in-Node t c =
    let shape = one_before c.args.parts.now _ c.in-len1-up.len_at_least c.brace-item.is in
    ap (λ es. elements_of (map element_of es)) c.new-in-Node.ensures.items ∙ inside_of_node _ _ _ _ _ _ shape (node_is _ _ _ c.in-Node.is)

pub inside-returns-in_default : goal.inside-returns-in_default
inside-returns-in_default t c = ap (λ es. elements_of (map element_of es)) c.new.ensures.items ∙ inside_nothing _ c.args.parts.now c.in_default.len_below

pub arguments_of-returns-in_default : goal.arguments_of-returns-in_default
arguments_of-returns-in_default t c = ap (λ es. row_of (map expression_of es)) c.new.ensures.items ∙ no_arguments_of _ _ c.in_default.ensures

pub arguments_of-returns-in_default-parts : goal.arguments_of-returns-in_default-parts
arguments_of-returns-in_default-parts t c =
    ap (λ es. row_of (map expression_of es)) c.new-in_default-parts.ensures.items ∙ arguments_of_nothing _ _ c.in-Some.parts.now c.in-Some.ensures c.in_default-parts.len_below
