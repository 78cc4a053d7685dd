use Rattle.std.proofs.Common.{◌≡◌, ◌+◌, ◌*◌, drop, map, max}
use denote.Param.Weighed.{most}
use Rattle.wy_table.specs.ClassTable.{table_of}
use Rattle.wy_kernel.specs.View.{expression}
use Rattle.wy_syntax.specs.declared.expression.Expression.{size-Expression}
use Rattle.wy_syntax.specs.View.{expression_of, row_of}
use Rattle.wy_syntax.specs.View.{element_of as element_seen, elements_of as elements_seen}
use Rattle.wy_elab_expr.specs.Elaboration.{elaborated_all, elements_of}
use Rattle.wy_elab_expr.specs.Views.{Judged, after, behind_elements, meaning_of}
use Rattle.wy_elab_expr.proofs.elaboration.+elaboration.Given as goal

abbrev pub invariant-elaborated_all-loop-arg : goal.invariant-elaborated_all-loop-arg
invariant-elaborated_all-loop-arg l =
    Judged (table_of l.table) (λ j. after (map meaning_of l.all.items) (elaborated_all j (table_of l.table) l.scope (row_of (map expression_of (drop l.arg-index l.args))) l.texts)
    ≡ elaborated_all j (table_of l.table) l.scope (row_of (map expression_of l.args)) l.initial.texts)

abbrev pub invariant-elements_of-loop-element : goal.invariant-elements_of-loop-element
invariant-elements_of-loop-element l =
    Judged (table_of l.table) (λ j. behind_elements (map expression l.forms.items) l.sites.items (elements_of j (table_of l.table) l.scope l.ty (elements_seen (map element_seen (drop l.element-index l.elements))) l.texts)
    ≡ elements_of j (table_of l.table) l.scope l.ty (elements_seen (map element_seen l.elements)) l.initial.texts)

-- eight for each level of an expression: four for those that look for forms, then what takes a form apart, and what goes along a row
abbrev pub decreases-elaborated : goal.decreases-elaborated
decreases-elaborated l = 8 * goal.size-elaborated l + 3

abbrev pub decreases-elaborated_call : goal.decreases-elaborated_call
decreases-elaborated_call l = 8 * goal.size-elaborated_call l + 2

abbrev pub decreases-elaborated_operator : goal.decreases-elaborated_operator
decreases-elaborated_operator l = 8 * goal.size-elaborated_operator l + 1

abbrev pub decreases-elaborated_choice : goal.decreases-elaborated_choice
decreases-elaborated_choice l = 8 * goal.size-elaborated_choice l

abbrev pub decreases-target : goal.decreases-target
decreases-target l = 8 * goal.size-target l + 3

abbrev pub decreases-initialized : goal.decreases-initialized
decreases-initialized l = 8 * goal.size-initialized l + 3

abbrev pub decreases-elaborated_all : goal.decreases-elaborated_all
decreases-elaborated_all l = 8 * goal.size-elaborated_all l + 5

abbrev pub decreases-elements_of : goal.decreases-elements_of
decreases-elements_of l = 8 * goal.size-elements_of l + 5

abbrev pub decreases-invoked : goal.decreases-invoked
decreases-invoked l = 8 * goal.size-invoked l + 6

abbrev pub decreases-read_field : goal.decreases-read_field
decreases-read_field l = 8 * goal.size-read_field l + 6

abbrev pub decreases-invoked_super : goal.decreases-invoked_super
decreases-invoked_super l = 8 * goal.size-invoked_super l + 6

abbrev pub decreases-new_object : goal.decreases-new_object
decreases-new_object l = 8 * goal.size-new_object l + 6

abbrev pub decreases-new_sized : goal.decreases-new_sized
decreases-new_sized l = 8 * goal.size-new_sized l + 6

abbrev pub decreases-new_listed : goal.decreases-new_listed
decreases-new_listed l = 8 * goal.size-new_listed l + 6

abbrev pub decreases-unary : goal.decreases-unary
decreases-unary l = 8 * goal.size-unary l + 6

abbrev pub decreases-step_of : goal.decreases-step_of
decreases-step_of l = 8 * goal.size-step_of l + 6

abbrev pub decreases-type_test : goal.decreases-type_test
decreases-type_test l = 8 * goal.size-type_test l + 6

abbrev pub decreases-cast_to : goal.decreases-cast_to
decreases-cast_to l = 8 * goal.size-cast_to l + 6

abbrev pub decreases-field_place : goal.decreases-field_place
decreases-field_place l = 8 * goal.size-field_place l + 6

abbrev pub decreases-invoked_on : goal.decreases-invoked_on
decreases-invoked_on l = 8 * max (size-Expression l.object.now) (most size-Expression l.args.now) + 6

abbrev pub decreases-read_element : goal.decreases-read_element
decreases-read_element l = 8 * max (size-Expression l.array.now) (size-Expression l.index.now) + 6

abbrev pub decreases-element_place : goal.decreases-element_place
decreases-element_place l = 8 * max (size-Expression l.array.now) (size-Expression l.index.now) + 6

abbrev pub decreases-binary : goal.decreases-binary
decreases-binary l = 8 * max (size-Expression l.left.now) (size-Expression l.right.now) + 6

abbrev pub decreases-both : goal.decreases-both
decreases-both l = 8 * max (size-Expression l.left.now) (size-Expression l.right.now) + 6

abbrev pub decreases-either : goal.decreases-either
decreases-either l = 8 * max (size-Expression l.left.now) (size-Expression l.right.now) + 6

abbrev pub decreases-assignment_to : goal.decreases-assignment_to
decreases-assignment_to l = 8 * max (size-Expression l.left.now) (size-Expression l.value.now) + 6

abbrev pub decreases-update_of : goal.decreases-update_of
decreases-update_of l = 8 * max (size-Expression l.left.now) (size-Expression l.value.now) + 6

abbrev pub decreases-choice_between : goal.decreases-choice_between
decreases-choice_between l = 8 * max (size-Expression l.test.now) (max (size-Expression l.main.now) (size-Expression l.other.now)) + 6
