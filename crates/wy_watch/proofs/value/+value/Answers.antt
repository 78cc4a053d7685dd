use Rattle.std.proofs.Common.{◌∙◌, ap, sym, subst}
use Rattle.std.specs.Prelude.{IfSome}
use Rattle.wy_syntax.specs.View.{expression_of}
use Rattle.wy_view.specs.References.{ValueBelow}
use Rattle.wy_watch.specs.Sight.{sight_seen}
use Rattle.wy_watch.specs.Value.{binary, both, choice, chosen, class_in, either, element, index_in, is_this, member_in, named, truth_of, unary, value, value_of_field}
use Rattle.wy_watch.proofs.Forms.{no_value, of_literal, of_name, of_this, of_group, of_field, of_element, of_unary, of_binary, of_both, of_either, of_choice}
use Rattle.wy_watch.proofs.Looking.{look_as, look_on, no_look}
use Rattle.wy_watch.proofs.Plain.{operated_plain}
use Rattle.wy_watch.proofs.value.+value.Goals as goal

-- ---- the forms

pub value-returns-in-Literal-clause-looks : goal.value-returns-in-Literal-clause-looks
value-returns-in-Literal-clause-looks g t c = no_look _ _ _ (λ rs told. c.literal.ensures ∙ sym (ap (λ e. value (sight_seen rs c.args.sight.now) (expression_of e)) c.in-Literal.is ∙ of_literal (sight_seen rs c.args.sight.now) _ _))

pub value-returns-in-Name-clause-looks : goal.value-returns-in-Name-clause-looks
value-returns-in-Name-clause-looks g t c = look_as _ _ _ _ _ (λ rs told. ap (named (sight_seen rs c.args.sight.now)) c.as_str.ensures.value ∙ sym (ap (λ e. value (sight_seen rs c.args.sight.now) (expression_of e)) c.in-Name.is ∙ of_name (sight_seen rs c.args.sight.now) _ _)) c.named.ensures.looks

pub value-returns-in-This-clause-looks : goal.value-returns-in-This-clause-looks
value-returns-in-This-clause-looks g t c = look_as _ _ _ _ _ (λ rs told. sym (ap (λ e. value (sight_seen rs c.args.sight.now) (expression_of e)) c.in-This.is ∙ of_this (sight_seen rs c.args.sight.now) _)) c.this_value.ensures.looks

pub value-returns-in-Group-clause-looks : goal.value-returns-in-Group-clause-looks
value-returns-in-Group-clause-looks g t c =
    look_as _ _ _ _ _
    (λ rs told. ap (λ x. value (sight_seen rs c.args.sight.now) (expression_of x)) c.deref.ensures ∙ sym (ap (λ e. value (sight_seen rs c.args.sight.now) (expression_of e)) c.in-Group.is ∙ of_group (sight_seen rs c.args.sight.now) _ _))
    c.value.ensures.looks

pub value-returns-in-Field-clause-looks : goal.value-returns-in-Field-clause-looks
value-returns-in-Field-clause-looks g t c =
    look_as _ _ _ _ _
    (λ rs told. ap (λ x. value_of_field (sight_seen rs c.args.sight.now) c.as_str-in-Field.result.now (expression_of x)) c.deref-in-Field.ensures
    ∙ ap (λ name. value_of_field (sight_seen rs c.args.sight.now) name (expression_of c.in-Field.object.value)) c.as_str-in-Field.ensures.value ∙ sym (ap (λ e. value (sight_seen rs c.args.sight.now) (expression_of e)) c.in-Field.is ∙ of_field (sight_seen rs c.args.sight.now) _ _ _))
    c.field.ensures.looks

pub value-returns-in-Element-clause-looks : goal.value-returns-in-Element-clause-looks
value-returns-in-Element-clause-looks g t c =
    look_as _ _ _ _ _
    (λ rs told. ap (λ x. element (sight_seen rs c.args.sight.now) (value (sight_seen rs c.args.sight.now) (expression_of x)) (index_in (value (sight_seen rs c.args.sight.now) (expression_of c.deref-in-Element-2.result.now)))) c.deref-in-Element.ensures
    ∙ ap (λ x. element (sight_seen rs c.args.sight.now) (value (sight_seen rs c.args.sight.now) (expression_of c.in-Element.array.value)) (index_in (value (sight_seen rs c.args.sight.now) (expression_of x)))) c.deref-in-Element-2.ensures ∙ sym (ap (λ e. value (sight_seen rs c.args.sight.now) (expression_of e)) c.in-Element.is ∙ of_element (sight_seen rs c.args.sight.now) _ _ _))
    c.indexed.ensures.looks

pub value-returns-in-Unary-clause-looks : goal.value-returns-in-Unary-clause-looks
value-returns-in-Unary-clause-looks g t c =
    look_as _ _ _ _ _
    (λ rs told. ap (λ x. unary c.in-Unary.op (value (sight_seen rs c.args.sight.now) (expression_of x))) c.deref-in-Unary.ensures ∙ sym (ap (λ e. value (sight_seen rs c.args.sight.now) (expression_of e)) c.in-Unary.is ∙ of_unary (sight_seen rs c.args.sight.now) _ _ _))
    c.unary.ensures.looks

pub value-returns-in-Binary-clause-looks : goal.value-returns-in-Binary-clause-looks
value-returns-in-Binary-clause-looks g t c =
    look_as _ _ _ _ _
    (λ rs told. ap (λ x. binary c.in-Binary.op (value (sight_seen rs c.args.sight.now) (expression_of x)) (value (sight_seen rs c.args.sight.now) (expression_of c.deref-in-Binary-2.result.now))) c.deref-in-Binary.ensures
    ∙ ap (λ x. binary c.in-Binary.op (value (sight_seen rs c.args.sight.now) (expression_of c.in-Binary.left.value)) (value (sight_seen rs c.args.sight.now) (expression_of x))) c.deref-in-Binary-2.ensures ∙ sym (ap (λ e. value (sight_seen rs c.args.sight.now) (expression_of e)) c.in-Binary.is ∙ of_binary (sight_seen rs c.args.sight.now) _ _ _ _))
    c.binary.ensures.looks

pub value-returns-in-Both-clause-looks : goal.value-returns-in-Both-clause-looks
value-returns-in-Both-clause-looks g t c =
    look_as _ _ _ _ _
    (λ rs told. ap (λ x. both (truth_of (sight_seen rs c.args.sight.now) (expression_of x)) (truth_of (sight_seen rs c.args.sight.now) (expression_of c.deref-in-Both-2.result.now))) c.deref-in-Both.ensures
    ∙ ap (λ x. both (truth_of (sight_seen rs c.args.sight.now) (expression_of c.in-Both.left.value)) (truth_of (sight_seen rs c.args.sight.now) (expression_of x))) c.deref-in-Both-2.ensures ∙ sym (ap (λ e. value (sight_seen rs c.args.sight.now) (expression_of e)) c.in-Both.is ∙ of_both (sight_seen rs c.args.sight.now) _ _ _))
    c.both.ensures.looks

pub value-returns-in-Either-clause-looks : goal.value-returns-in-Either-clause-looks
value-returns-in-Either-clause-looks g t c =
    look_as _ _ _ _ _
    (λ rs told. ap (λ x. either (truth_of (sight_seen rs c.args.sight.now) (expression_of x)) (truth_of (sight_seen rs c.args.sight.now) (expression_of c.deref-in-Either-2.result.now))) c.deref-in-Either.ensures
    ∙ ap (λ x. either (truth_of (sight_seen rs c.args.sight.now) (expression_of c.in-Either.left.value)) (truth_of (sight_seen rs c.args.sight.now) (expression_of x))) c.deref-in-Either-2.ensures ∙ sym (ap (λ e. value (sight_seen rs c.args.sight.now) (expression_of e)) c.in-Either.is ∙ of_either (sight_seen rs c.args.sight.now) _ _ _))
    c.either.ensures.looks

pub value-returns-in-Choice-clause-looks : goal.value-returns-in-Choice-clause-looks
value-returns-in-Choice-clause-looks g t c =
    look_as _ _ _ _ _
    (λ rs told. ap (λ x. choice (truth_of (sight_seen rs c.args.sight.now) (expression_of x)) (value (sight_seen rs c.args.sight.now) (expression_of c.deref-in-Choice-2.result.now)) (value (sight_seen rs c.args.sight.now) (expression_of c.deref-in-Choice-3.result.now))) c.deref-in-Choice.ensures
    ∙ ap (λ x. choice (truth_of (sight_seen rs c.args.sight.now) (expression_of c.in-Choice.test.value)) (value (sight_seen rs c.args.sight.now) (expression_of x)) (value (sight_seen rs c.args.sight.now) (expression_of c.deref-in-Choice-3.result.now))) c.deref-in-Choice-2.ensures
    ∙ ap (λ x. choice (truth_of (sight_seen rs c.args.sight.now) (expression_of c.in-Choice.test.value)) (value (sight_seen rs c.args.sight.now) (expression_of c.in-Choice.main.value)) (value (sight_seen rs c.args.sight.now) (expression_of x))) c.deref-in-Choice-3.ensures ∙ sym (ap (λ e. value (sight_seen rs c.args.sight.now) (expression_of e)) c.in-Choice.is ∙ of_choice (sight_seen rs c.args.sight.now) _ _ _ _))
    c.choice.ensures.looks

pub value-returns-in_default-clause-looks : goal.value-returns-in_default-clause-looks
value-returns-in_default-clause-looks g t c =
    no_look _ _ _ (λ rs told. sym (no_value (sight_seen rs c.args.sight.now) c.args.e.now c.in_default.not-Literal c.in_default.not-Name c.in_default.not-This c.in_default.not-Group c.in_default.not-Field c.in_default.not-Element c.in_default.not-Unary c.in_default.not-Binary c.in_default.not-Both c.in_default.not-Either c.in_default.not-Choice))

-- ---- operators

pub binary-returns-in-Some-Some-clause-below : goal.binary-returns-in-Some-Some-clause-below
binary-returns-in-Some-Some-clause-below g t c =
    subst (λ v. IfSome v (ValueBelow c.args.sight.now.moment)) (sym c.operate.ensures) (operated_plain c.args.sight.now.moment c.args.op c.in-Some-Some.a c.in-Some-Some.b)

pub choice-returns-in-Some-clause-looks : goal.choice-returns-in-Some-clause-looks
choice-returns-in-Some-clause-looks g t c =
    look_on _ _ _ _ _ _ _ _
    (λ rs is e. sym (ap (λ q. choice q (value (sight_seen rs c.args.sight.now) (expression_of c.args.main.now)) (value (sight_seen rs c.args.sight.now) (expression_of c.args.other.now))) (sym e ∙ c.in-Some.is)))
    c.in_ok-test.ensures.looks c.chosen.ensures.looks

pub chosen-returns-then-test-clause-looks : goal.chosen-returns-then-test-clause-looks
chosen-returns-then-test-clause-looks g t c =
    look_as _ _ _ _ _ (λ rs told. sym (ap (λ b. chosen b (value (sight_seen rs c.args.sight.now) (expression_of c.args.main.now)) (value (sight_seen rs c.args.sight.now) (expression_of c.args.other.now))) c.if-test.true)) c.value.ensures.looks

pub chosen-returns-else-test-clause-looks : goal.chosen-returns-else-test-clause-looks
chosen-returns-else-test-clause-looks g t c =
    look_as _ _ _ _ _ (λ rs told. sym (ap (λ b. chosen b (value (sight_seen rs c.args.sight.now) (expression_of c.args.main.now)) (value (sight_seen rs c.args.sight.now) (expression_of c.args.other.now))) c.if-test.false)) c.value-else-test.ensures.looks

-- ---- members and elements

pub field-returns-clause-looks : goal.field-returns-clause-looks
field-returns-clause-looks g t c =
    look_on _ _ _ _ _ _ _ _
    (λ rs is e. ap (member_in (sight_seen rs c.args.sight.now) c.args.name.now (class_in (sight_seen rs c.args.sight.now) (expression_of c.args.object.now)) (is_this (expression_of c.args.object.now))) e)
    c.in_ok-of.ensures.looks c.member_named.ensures.looks

pub indexed-returns-clause-looks : goal.indexed-returns-clause-looks
indexed-returns-clause-looks g t c =
    look_on _ _ _ _ _ _ _ _
    (λ rs is e. ap (λ v. element (sight_seen rs c.args.sight.now) v (index_in (value (sight_seen rs c.args.sight.now) (expression_of c.args.index.now)))) e)
    c.in_ok-of.ensures.looks
    (look_on _ _ _ _ _ _ _ (λ rs. element (sight_seen rs c.args.sight.now) c.in_ok-of.of (index_in (value (sight_seen rs c.args.sight.now) (expression_of c.args.index.now))))
    (λ rs is e. ap (element (sight_seen rs c.args.sight.now) c.in_ok-of.of) (c.index_in.ensures ∙ ap index_in e)) c.in_ok-at.ensures.looks c.element.ensures.looks)
