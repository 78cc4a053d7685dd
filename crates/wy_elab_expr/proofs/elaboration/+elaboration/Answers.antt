use Rattle.std.proofs.Common.{arith, map, rules, sym, ◌∙◌}
use Rattle.std.proofs.lemmas.Result.{err_from_is_err_and}
use Rattle.wy_table.specs.ClassTable.{table_of}
use Rattle.wy_syntax.specs.View.{expression_of, row_of}
use Rattle.wy_elab_expr.specs.Views.{class_name_of, meaning_of, stream_of}
use Rattle.wy_elab_expr.proofs.Dots.{read_of_class, read_stops, read_goes, target_of_class, target_stops, target_goes, stream_stops, class_stops, object_fails, object_stops, stream_goes, class_goes, object_goes, call_found, call_seen}
use Rattle.wy_elab_expr.proofs.Layers.{no_target, no_place_left, no_call_left, no_operator_left, wrong_left, wrong_is_refused}
use Rattle.wy_elab_expr.proofs.Sequence.{goes_on, stops, ends, elements_go, elements_stop, elements_end}
use Rattle.wy_elab_expr.proofs.elaboration.+elaboration.Goals as goal

pub elaborated_all-returns-in_err-m : goal.elaborated_all-returns-in_err-m
elaborated_all-returns-in_err-m t c = λ j h.
    let p = err_from_is_err_and c.from_residual.result c.from_residual.ensures.1 in
    rw (p.1, p.2) (stops j (table_of c.args.table.now) c.args.scope.now c.args.args.now c.loop-arg.arg-index c.arg-item.result c.loop-arg.all.items c.loop-arg.texts _ _
    c.loop-arg-test.true c.arg-item.is (c.in_err-m.ensures j h) (c.loop-arg.invariant j h))

pub elaborated_all-loop-arg-preserved : goal.elaborated_all-loop-arg-preserved
elaborated_all-loop-arg-preserved t c = λ j h.
    goes_on j (table_of c.args.table.now) c.args.scope.now c.args.args.now c.loop-arg.arg-index c.arg-item.result c.loop-arg.all.items c.push.new.self.items c.in_ok-m.m c.loop-arg.texts c.elaborated.new.texts _
    c.loop-arg-test.true c.arg-item.is (c.in_ok-m.ensures j h) c.in_ok-push.ensures.items (c.loop-arg.invariant j h)

pub elaborated_all-returns : goal.elaborated_all-returns
elaborated_all-returns t c = λ j h.
    ends j (table_of c.args.table.now) c.args.scope.now c.args.args.now c.loop-arg.arg-index c.loop-arg.all.items c.loop-arg.texts _ c.loop-arg-test.false (c.loop-arg.invariant j h)

pub elements_of-returns-in_err-form : goal.elements_of-returns-in_err-form
elements_of-returns-in_err-form t c = λ j h.
    let p = err_from_is_err_and c.from_residual.result c.from_residual.ensures.1 in
    rw (p.1, p.2) (elements_stop j (table_of c.args.table.now) c.args.scope.now c.args.ty c.args.elements.now c.loop-element.element-index c.element-item.result c.loop-element.forms.items c.loop-element.sites.items c.loop-element.texts _ _
    c.loop-element-test.true c.element-item.is (c.in_err-form.ensures j h) (c.loop-element.invariant j h))

pub elements_of-loop-element-preserved : goal.elements_of-loop-element-preserved
elements_of-loop-element-preserved t c = λ j h.
    elements_go j (table_of c.args.table.now) c.args.scope.now c.args.ty c.args.elements.now c.loop-element.element-index c.element-item.result c.loop-element.forms.items c.push.new.self.items
    c.loop-element.sites.items c.push-in-loop-element.new.self.items c.in_ok-form.form c.loop-element.texts c.initialized.new.texts _
    c.loop-element-test.true c.element-item.is (c.in_ok-form.ensures j h) c.in_ok-push.ensures.items c.in_ok-push-2.ensures.items (c.loop-element.invariant j h)

pub elements_of-returns : goal.elements_of-returns
elements_of-returns t c = λ j h.
    elements_end j (table_of c.args.table.now) c.args.scope.now c.args.ty c.args.elements.now c.loop-element.element-index c.loop-element.forms.items c.loop-element.sites.items c.loop-element.texts _
    c.loop-element-test.false (c.loop-element.invariant j h)

pub target-returns-in_default : goal.target-returns-in_default
target-returns-in_default t c = λ j h.
    no_target j (table_of c.args.table.now) c.args.scope.now c.args.texts.now c.args.e.now c.in_default.not-Name c.in_default.not-Group c.in_default.not-Field c.in_default.not-SuperField c.in_default.not-Element

pub read_field-returns-in-Some : goal.read_field-returns-in-Some
read_field-returns-in-Some t c = λ j h.
    read_of_class j (table_of c.args.table.now) c.args.scope.now c.args.texts.now c.args.texts.now (expression_of c.args.object.now) c.args.name.now c.args.token (class_name_of c.in-Some.c) c.qualified_name.result (search rules) (c.qualified_name.ensures c.args.texts.now)

pub read_field-returns-in_err-m-in-None : goal.read_field-returns-in_err-m-in-None
read_field-returns-in_err-m-in-None t c = λ j h.
    let p = err_from_is_err_and c.from_residual.result c.from_residual.ensures.1 in
    rw (p.1, p.2) (read_stops j (table_of c.args.table.now) c.args.scope.now c.args.texts.now (expression_of c.args.object.now) c.args.name.now c.args.token _ (search rules) (c.in_err-m-in-None.ensures j h))

pub read_field-returns-in_ok-m-in-None : goal.read_field-returns-in_ok-m-in-None
read_field-returns-in_ok-m-in-None t c = λ j h.
    read_goes j (table_of c.args.table.now) c.args.scope.now c.args.texts.now c.elaborated.new.texts c.field_read.new.texts (expression_of c.args.object.now) c.args.name.now c.args.token (meaning_of c.in_ok-m-in-None.m) c.field_read.result (search rules) (c.in_ok-m-in-None.ensures j h) c.field_read.ensures

pub field_place-returns-in-Some : goal.field_place-returns-in-Some
field_place-returns-in-Some t c = λ j h.
    target_of_class j (table_of c.args.table.now) c.args.scope.now c.args.texts.now c.args.texts.now (expression_of c.args.object.now) c.args.name.now c.args.token (class_name_of c.in-Some.c) c.class_target.result (search rules) (c.class_target.ensures c.args.texts.now)

pub field_place-returns-in_err-m-in-None : goal.field_place-returns-in_err-m-in-None
field_place-returns-in_err-m-in-None t c = λ j h.
    let p = err_from_is_err_and c.from_residual.result c.from_residual.ensures.1 in
    rw (p.1, p.2) (target_stops j (table_of c.args.table.now) c.args.scope.now c.args.texts.now (expression_of c.args.object.now) c.args.name.now c.args.token _ (search rules) (c.in_err-m-in-None.ensures j h))

pub field_place-returns-in_ok-m-in-None : goal.field_place-returns-in_ok-m-in-None
field_place-returns-in_ok-m-in-None t c = λ j h.
    target_goes j (table_of c.args.table.now) c.args.scope.now c.args.texts.now c.elaborated.new.texts c.field_target.new.texts (expression_of c.args.object.now) c.args.name.now c.args.token (meaning_of c.in_ok-m-in-None.m) c.field_target.result (search rules) (c.in_ok-m-in-None.ensures j h) c.field_target.ensures

pub invoked_on-returns-in_err-args-in-Some : goal.invoked_on-returns-in_err-args-in-Some
invoked_on-returns-in_err-args-in-Some t c = λ j h.
    let p = err_from_is_err_and c.from_residual.result c.from_residual.ensures.1 in
    rw (p.1, p.2) (stream_stops j (table_of c.args.table.now) c.args.scope.now c.args.texts.now (expression_of c.args.object.now) c.args.name.now (row_of (map expression_of c.args.args.now)) c.args.token (stream_of c.in-Some.stream) _ (search rules) (c.in_err-args-in-Some.ensures j h))

pub invoked_on-returns-in_err-args-in-Some-class_in : goal.invoked_on-returns-in_err-args-in-Some-class_in
invoked_on-returns-in_err-args-in-Some-class_in t c = λ j h.
    let p = err_from_is_err_and c.from_residual-in_err-args-in-Some-class_in.result c.from_residual-in_err-args-in-Some-class_in.ensures.1 in
    rw (p.1, p.2) (class_stops j (table_of c.args.table.now) c.args.scope.now c.args.texts.now (expression_of c.args.object.now) c.args.name.now (row_of (map expression_of c.args.args.now)) c.args.token (class_name_of c.in-Some-class_in.c) _ (search rules) (search rules) (c.in_err-args-in-Some-class_in.ensures j h))

pub invoked_on-returns-in_err-m-in-None-class_in : goal.invoked_on-returns-in_err-m-in-None-class_in
invoked_on-returns-in_err-m-in-None-class_in t c = λ j h.
    let p = err_from_is_err_and c.from_residual-in_err-m-in-None-class_in.result c.from_residual-in_err-m-in-None-class_in.ensures.1 in
    rw (p.1, p.2) (object_fails j (table_of c.args.table.now) c.args.scope.now c.args.texts.now (expression_of c.args.object.now) c.args.name.now (row_of (map expression_of c.args.args.now)) c.args.token _ (search rules) (search rules) (c.in_err-m-in-None-class_in.ensures j h))

pub invoked_on-returns-in_err-args-in-None-class_in : goal.invoked_on-returns-in_err-args-in-None-class_in
invoked_on-returns-in_err-args-in-None-class_in t c = λ j h.
    let p = err_from_is_err_and c.from_residual-in_err-args-in-None-class_in.result c.from_residual-in_err-args-in-None-class_in.ensures.1 in
    rw (p.1, p.2) (object_stops j (table_of c.args.table.now) c.args.scope.now c.args.texts.now c.elaborated.new.texts (expression_of c.args.object.now) c.args.name.now (row_of (map expression_of c.args.args.now)) c.args.token (meaning_of c.in_ok-m-in-None-class_in.m) _ (search rules) (search rules) (c.in_ok-m-in-None-class_in.ensures j h) (c.in_err-args-in-None-class_in.ensures j h))

pub invoked_on-returns-in_ok-args-in-Some : goal.invoked_on-returns-in_ok-args-in-Some
invoked_on-returns-in_ok-args-in-Some t c = λ j h.
    stream_goes j (table_of c.args.table.now) c.args.scope.now c.args.texts.now c.elaborated_all.new.texts c.called_on_stream.new.texts (expression_of c.args.object.now) c.args.name.now (row_of (map expression_of c.args.args.now)) c.args.token (stream_of c.in-Some.stream) (map meaning_of c.in_ok-args-in-Some.args.items) c.called_on_stream.result
    (search rules) (c.in_ok-args-in-Some.ensures j h) c.called_on_stream.ensures

pub invoked_on-returns-in_ok-args-in-Some-class_in : goal.invoked_on-returns-in_ok-args-in-Some-class_in
invoked_on-returns-in_ok-args-in-Some-class_in t c = λ j h.
    class_goes j (table_of c.args.table.now) c.args.scope.now c.args.texts.now c.elaborated_all-in-Some-class_in.new.texts c.called_on_class.new.texts (expression_of c.args.object.now) c.args.name.now (row_of (map expression_of c.args.args.now)) c.args.token (class_name_of c.in-Some-class_in.c) (map meaning_of c.in_ok-args-in-Some-class_in.args.items) c.called_on_class.result
    (search rules) (search rules) (c.in_ok-args-in-Some-class_in.ensures j h) (c.called_on_class.ensures j h)

pub invoked_on-returns-in_ok-args-in-None-class_in : goal.invoked_on-returns-in_ok-args-in-None-class_in
invoked_on-returns-in_ok-args-in-None-class_in t c = λ j h.
    object_goes j (table_of c.args.table.now) c.args.scope.now c.args.texts.now c.elaborated.new.texts c.elaborated_all-in-None-class_in.new.texts c.called_on.new.texts (expression_of c.args.object.now) c.args.name.now (row_of (map expression_of c.args.args.now)) c.args.token (meaning_of c.in_ok-m-in-None-class_in.m) (map meaning_of c.in_ok-args-in-None-class_in.args.items) c.called_on.result
    (search rules) (search rules) (c.in_ok-m-in-None-class_in.ensures j h) (c.in_ok-args-in-None-class_in.ensures j h) (c.called_on.ensures j h)

pub elaborated_call-returns-in-InvokeOn : goal.elaborated_call-returns-in-InvokeOn
elaborated_call-returns-in-InvokeOn t c = λ j h.
    call_found j (table_of c.args.table.now) c.args.scope.now c.args.texts.now c.invoked_on.new.texts c.args.e.now _ c.invoked_on.result
    (call_seen c.args.e.now c.deref-in-InvokeOn.result.now c.in-InvokeOn.object c.in-InvokeOn.name c.in-InvokeOn.args c.in-InvokeOn.token c.as_str-in-InvokeOn.result.now c.deref-in-InvokeOn-2.result.now
    c.in-InvokeOn.is c.deref-in-InvokeOn.ensures (search rules) c.deref-in-InvokeOn-2.ensures.value) (c.invoked_on.ensures j h)

pub elaborated-elaborated_call-requires : goal.elaborated-elaborated_call-requires
elaborated-elaborated_call-requires t c =
    (omega (arith, c.decreases), no_place_left c.args.e.now c.in_default.not-Literal c.in_default.not-Name c.in_default.not-This c.in_default.not-Group c.in_default.not-Field c.in_default.not-SuperField c.in_default.not-Element)

pub elaborated_call-elaborated_operator-requires : goal.elaborated_call-elaborated_operator-requires
elaborated_call-elaborated_operator-requires t c =
    (omega (arith, c.decreases), sym (no_call_left c.args.e.now c.in_default.not-Invoke c.in_default.not-InvokeOn c.in_default.not-SuperInvoke c.in_default.not-NewObject c.in_default.not-NewArray c.in_default.not-NewList) ∙ c.requires)

pub elaborated_operator-elaborated_choice-requires : goal.elaborated_operator-elaborated_choice-requires
elaborated_operator-elaborated_choice-requires t c =
    (omega (arith, c.decreases), sym (no_operator_left c.args.e.now c.in_default.not-Unary c.in_default.not-Binary c.in_default.not-Both c.in_default.not-Either c.in_default.not-InstanceOf c.in_default.not-Cast) ∙ c.requires)

pub elaborated_choice-returns-in_default : goal.elaborated_choice-returns-in_default
elaborated_choice-returns-in_default t c = λ j h.
    rw c.refused.ensures (wrong_is_refused j (table_of c.args.table.now) c.args.scope.now c.args.texts.now c.args.e.now (sym (wrong_left c.args.e.now c.in_default.not-Step c.in_default.not-Choice c.in_default.not-Assign c.in_default.not-Update) ∙ c.requires))
