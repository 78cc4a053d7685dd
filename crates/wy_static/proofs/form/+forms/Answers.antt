use Rattle.std.proofs.Common.{OnOk, ◌≡◌, map, ap, ◌∙◌, ⊎_elim, ◌++◌, List}
use Rattle.wy_kernel.specs.View.{expression, row_of, part_seen}
use Rattle.wy_kernel.specs.View.{place as place_seen}
use Rattle.wy_static.specs.Forms.{arm_owner, forms, part_forms, place_forms, row_forms}
use Rattle.wy_static.specs.Seen.{forms_seen, form_seen}
use Rattle.wy_static.proofs.Behind.{all_of, at, behind_on, seen_more}
use Rattle.wy_static.proofs.Forms.{alone, no_part, of_each, of_row, with_itself}
use Rattle.wy_kernel.proofs.ExpressionViews.{view_read, view_set, view_upd, view_un, view_bin, view_conv, view_cast, view_instance, view_cond, view_new, view_new_array, view_call, view_cat, view_lib, view_field, view_elem}
use Rattle.wy_static.proofs.form.+forms.Goals as goal

pub put_forms-returns-in-Read : goal.put_forms-returns-in-Read
put_forms-returns-in-Read t c = with_itself c.put_place.result (forms_seen c.args.out.now.items) (forms_seen c.push.new.self.items) (forms_seen c.put_place.new.out.items) c.args.owner c.args.e.now _ (ap expression c.in-Read.is ∙ view_read _) (seen_more form_seen _ _ _ c.in_ok-push.ensures.items) c.put_place.ensures

pub put_forms-returns-in_ok-put_place-in-Set : goal.put_forms-returns-in_ok-put_place-in-Set
put_forms-returns-in_ok-put_place-in-Set t c =
    let o = c.args.owner in
    let mid = forms_seen c.push.new.self.items in
    let new = forms_seen c.put_forms.new.out.items in
    with_itself c.put_forms.result (forms_seen c.args.out.now.items) mid new o c.args.e.now _ (ap expression c.in-Set.is ∙ view_set _ _ _) (seen_more form_seen _ _ _ c.in_ok-push.ensures.items)
    (behind_on c.put_forms.result mid (forms_seen c.put_place-in-Set.new.out.items) new (place_forms o (place_seen c.in-Set.place)) (forms o (expression c.in-Set.value.value)) c.in_ok-put_place-in-Set.ensures (rw (← c.deref.ensures) c.put_forms.ensures))

pub put_forms-returns-in_ok-put_place-in-Upd : goal.put_forms-returns-in_ok-put_place-in-Upd
put_forms-returns-in_ok-put_place-in-Upd t c =
    let o = c.args.owner in
    let mid = forms_seen c.push.new.self.items in
    let new = forms_seen c.put_part.new.out.items in
    with_itself c.put_part.result (forms_seen c.args.out.now.items) mid new o c.args.e.now _ (ap expression c.in-Upd.is ∙ view_upd _ _ _ _ _ _ _ _) (seen_more form_seen _ _ _ c.in_ok-push.ensures.items)
    (behind_on c.put_part.result mid (forms_seen c.put_place-in-Upd.new.out.items) new (place_forms o (place_seen c.in-Upd.place)) (part_forms o (part_seen c.in-Upd.value)) c.in_ok-put_place-in-Upd.ensures c.put_part.ensures)

pub put_forms-returns-in_ok-put_part-in-Cond : goal.put_forms-returns-in_ok-put_part-in-Cond
put_forms-returns-in_ok-put_part-in-Cond t c =
    let o = c.args.owner in
    let site = c.in-Cond.site in
    let r = c.put_part-in-Cond-2.result in
    let mid = forms_seen c.push.new.self.items in
    let first = forms_seen c.put_forms-in-Cond.new.out.items in
    let second = forms_seen c.put_part-in-Cond.new.out.items in
    let new = forms_seen c.put_part-in-Cond-2.new.out.items in
    let main = part_forms (arm_owner site 1) (part_seen c.in-Cond.yes) in
    let other = part_forms (arm_owner site 0) (part_seen c.in-Cond.no) in
    with_itself r (forms_seen c.args.out.now.items) mid new o c.args.e.now _ (ap expression c.in-Cond.is ∙ view_cond _ _ _ _ _) (seen_more form_seen _ _ _ c.in_ok-push.ensures.items)
    (behind_on r mid first new (forms o (expression c.in-Cond.test.value)) (main ++ other) (rw (← c.deref-in-Cond.ensures) c.in_ok-put_forms-in-Cond.ensures)
    (behind_on r first second new main other (rw (← c.arm.ensures) c.in_ok-put_part-in-Cond.ensures) (rw (← c.arm-in-Cond.ensures) c.put_part-in-Cond-2.ensures)))

pub put_forms-returns-in_ok-put_row-in-NewArray : goal.put_forms-returns-in_ok-put_row-in-NewArray
put_forms-returns-in_ok-put_row-in-NewArray t c =
    let o = c.args.owner in
    let r = c.put_row-in-NewArray.result in
    let mid = forms_seen c.push.new.self.items in
    let new = forms_seen c.put_row-in-NewArray.new.out.items in
    with_itself r (forms_seen c.args.out.now.items) mid new o c.args.e.now _ (ap expression c.in-NewArray.is ∙ view_new_array _ _ _ _ _) (seen_more form_seen _ _ _ c.in_ok-push.ensures.items)
    (behind_on r mid (forms_seen c.put_row.new.out.items) new (row_forms o (row_of (map expression c.in-NewArray.dims.items))) (row_forms o (row_of (map expression c.in-NewArray.elements.items))) (rw (← c.deref-in-NewArray.ensures.value) c.in_ok-put_row-in-NewArray.ensures) (rw (← c.deref-in-NewArray-2.ensures.value) c.put_row-in-NewArray.ensures))

pub put_forms-returns-in_ok-put_part-in-Call : goal.put_forms-returns-in_ok-put_part-in-Call
put_forms-returns-in_ok-put_part-in-Call t c =
    let o = c.args.owner in
    let r = c.put_row-in-Call.result in
    let mid = forms_seen c.push.new.self.items in
    let new = forms_seen c.put_row-in-Call.new.out.items in
    with_itself r (forms_seen c.args.out.now.items) mid new o c.args.e.now _ (ap expression c.in-Call.is ∙ view_call _ _ _ _ _ _) (seen_more form_seen _ _ _ c.in_ok-push.ensures.items)
    (behind_on r mid (forms_seen c.put_part-in-Call.new.out.items) new (part_forms o (part_seen c.in-Call.receiver)) (row_forms o (row_of (map expression c.in-Call.args.items))) c.in_ok-put_part-in-Call.ensures (rw (← c.deref-in-Call.ensures.value) c.put_row-in-Call.ensures))

pub put_forms-returns-in-Const : goal.put_forms-returns-in-Const
put_forms-returns-in-Const t c = alone (forms_seen c.args.out.now.items) (forms_seen c.push.new.self.items) c.args.owner c.args.e.now c.in-Const.is (seen_more form_seen _ _ _ c.in_ok-push.ensures.items)

pub put_forms-returns-in-Const-2 : goal.put_forms-returns-in-Const-2
put_forms-returns-in-Const-2 t c = alone (forms_seen c.args.out.now.items) (forms_seen c.push.new.self.items) c.args.owner c.args.e.now c.in-Const.is (seen_more form_seen _ _ _ c.in_ok-push.ensures.items)

pub put_forms-returns-in-New : goal.put_forms-returns-in-New
put_forms-returns-in-New t c =
    let o = c.args.owner in
    let r = c.put_row-in-New.result in
    let mid = forms_seen c.push.new.self.items in
    let new = forms_seen c.put_row-in-New.new.out.items in
    let pushed = seen_more form_seen _ _ _ c.in_ok-push.ensures.items in
    let found : OnOk r (new ≡ mid ++ row_forms o (row_of (map expression c.in-New.args.items))) = rw (← c.deref-in-New.ensures.value) c.put_row-in-New.ensures in
    ⊎_elim (λ h. with_itself r (forms_seen c.args.out.now.items) mid new o c.args.e.now _ (ap expression h.3 ∙ view_new _ _ _ _) pushed found)
    (λ h. with_itself r (forms_seen c.args.out.now.items) mid new o c.args.e.now _ (ap expression h.2 ∙ view_lib _ _ _) pushed found)
    c.in-New.is

pub put_forms-returns-in_ok-put_forms-in-Bin : goal.put_forms-returns-in_ok-put_forms-in-Bin
put_forms-returns-in_ok-put_forms-in-Bin t c =
    let o = c.args.owner in
    let r = c.put_forms-in-Bin-2.result in
    let mid = forms_seen c.push.new.self.items in
    let new = forms_seen c.put_forms-in-Bin-2.new.out.items in
    let pushed = seen_more form_seen _ _ _ c.in_ok-push.ensures.items in
    let left = forms o (expression c.in-Bin.left.value) in
    let right = forms o (expression c.in-Bin.right.value) in
    let found : OnOk r (new ≡ mid ++ (left ++ right)) = behind_on r mid (forms_seen c.put_forms-in-Bin.new.out.items) new left right (rw (← c.deref-in-Bin.ensures) c.in_ok-put_forms-in-Bin.ensures) (rw (← c.deref-in-Bin-2.ensures) c.put_forms-in-Bin-2.ensures) in
    ⊎_elim (λ h. with_itself r (forms_seen c.args.out.now.items) mid new o c.args.e.now _ (ap expression h.2 ∙ view_bin _ _ _ _) pushed found)
    (λ h. with_itself r (forms_seen c.args.out.now.items) mid new o c.args.e.now _ (ap expression h.3 ∙ view_cat _ _ _ _ _) pushed found)
    c.in-Bin.is

pub put_forms-returns-in-Un : goal.put_forms-returns-in-Un
put_forms-returns-in-Un t c =
    let o = c.args.owner in
    let r = c.put_forms-in-Un.result in
    let old = forms_seen c.args.out.now.items in
    let mid = forms_seen c.push.new.self.items in
    let new = forms_seen c.put_forms-in-Un.new.out.items in
    let pushed = seen_more form_seen _ _ _ c.in_ok-push.ensures.items in
    let found : OnOk r (new ≡ mid ++ forms o (expression c.in-Un.operand.value)) = rw (← c.deref-in-Un.ensures) c.put_forms-in-Un.ensures in
    ⊎_elim (λ h. with_itself r old mid new o c.args.e.now _ (ap expression h.1 ∙ view_un _ _) pushed found)
    (⊎_elim (λ h. with_itself r old mid new o c.args.e.now _ (ap expression h.1 ∙ view_conv _ _) pushed found)
    (⊎_elim (λ h. with_itself r old mid new o c.args.e.now _ (ap expression h.2 ∙ view_cast _ _ _) pushed found)
    (λ h. with_itself r old mid new o c.args.e.now _ (ap expression h.1 ∙ view_instance _ _) pushed found)))
    c.in-Un.is

pub put_place-returns-in-Field : goal.put_place-returns-in-Field
put_place-returns-in-Field t c = at (place_forms c.args.owner) c.put_forms.result (forms_seen c.args.out.now.items) (forms_seen c.put_forms.new.out.items) (place_seen c.args.place.now) _ (ap place_seen c.in-Field.is ∙ view_field _ _ _) (rw (← c.deref.ensures) c.put_forms.ensures)

pub put_place-returns-in_ok-put_forms-in-Elem : goal.put_place-returns-in_ok-put_forms-in-Elem
put_place-returns-in_ok-put_forms-in-Elem t c =
    let o = c.args.owner in
    let r = c.put_forms-in-Elem-2.result in
    let old = forms_seen c.args.out.now.items in
    let new = forms_seen c.put_forms-in-Elem-2.new.out.items in
    at (place_forms o) r old new (place_seen c.args.place.now) _ (ap place_seen c.in-Elem.is ∙ view_elem _ _ _)
    (behind_on r old (forms_seen c.put_forms-in-Elem.new.out.items) new (forms o (expression c.in-Elem.array.value)) (forms o (expression c.in-Elem.index.value)) (rw (← c.deref-in-Elem.ensures) c.in_ok-put_forms-in-Elem.ensures) (rw (← c.deref-in-Elem-2.ensures) c.put_forms-in-Elem-2.ensures))

pub put_place-returns-in-Local : goal.put_place-returns-in-Local
put_place-returns-in-Local t c = no_part (forms_seen c.args.out.now.items) c.args.owner c.args.place.now c.in-Local.is

pub put_place-returns-in-Local-2 : goal.put_place-returns-in-Local-2
put_place-returns-in-Local-2 t c = no_part (forms_seen c.args.out.now.items) c.args.owner c.args.place.now c.in-Local.is

pub put_row-returns : goal.put_row-returns
put_row-returns t c = c.loop-e.invariant ∙ ap (λ (l : List _). forms_seen c.args.out.now.items ++ l) (all_of (of_each c.args.owner) c.args.row.now c.loop-e.e-index c.loop-e-test.false ∙ of_row c.args.owner c.args.row.now)
