-- The event goes behind those that wrote its slot, where it wrote one that is asked about.
use Rattle.std.proofs.Common.{◌≡◌, Some, None, cond, refl, sym, ap, ◌∙◌, subst}
use Rattle.std.specs.BTreeMap.{UpdatesBy, get}
use Rattle.std.specs.Ordering.{is_eq}
use Rattle.wy_event.specs.Record.{recorded}
use Rattle.wy_index.specs.Order.{slot_cmp}
use Rattle.wy_check.specs.Keys.{key_cmp, key_of}
use Rattle.wy_check.specs.Writes.{written_in}
use Rattle.wy_check.proofs.Histories.{has_some, listed_none, no_slot, no_write, not_asked, not_written, one_write}
use Rattle.wy_check.proofs.history.note_write.Goals.{else-is_write-via-then-is_write+else-not-is_no_slot, else-is_write-via-else-is_write}
use Rattle.wy_check.proofs.history.note_write.Goals as goal

pub returns-in_ok-push : goal.returns-in_ok-push
unfolding recorded
returns-in_ok-push c = λ x.
    let old = c.args.writes.now in
    let w = c.push.new.self in
    let new = c.get_mut.follows.lender w in
    let r = recorded c.args.event.now in
    let at : Some c.in-Some.written.now ≡ get key_cmp old (key_of c.args.event.now.slot) = subst (λ k. Some c.in-Some.written.now ≡ get key_cmp old k) c.key_of.ensures c.in-Some.ensures.value in
    let holds : UpdatesBy key_cmp (key_cmp (key_of c.args.event.now.slot)) old new (Some w) = subst (λ k. UpdatesBy key_cmp (key_cmp k) old new (Some w)) c.key_of.ensures ((c.get_mut.follows.holds w).3 (has_some c.in-Some.written.now _ c.in-Some.ensures.value)) in
    one_write x c.args.n r c.in-Some.written.now w (get key_cmp old (key_of c.args.event.now.slot)) (get key_cmp old (key_of x)) (get key_cmp new (key_of x))
    (sym c.is_write.ensures ∙ c.if-is_write.true) (sym c.is_no_slot.ensures ∙ c.if-not-is_no_slot.true) (holds.0 (key_of x)) (λ same. ap (λ s. get key_cmp old (key_of s)) same) at c.in_ok-push.ensures.items

pub returns-in_default : goal.returns-in_default
unfolding recorded
returns-in_default c = λ x.
    let old = c.args.writes.now in
    let none : None ≡ written_in old c.args.event.now.slot = listed_none _ (subst (λ k. None ≡ get key_cmp old k) c.key_of.ensures c.in_default.ensures.value) in
    ap (λ m. written_in m x) c.get_mut.follows.holds-at-none ∙ not_asked x c.args.n (recorded c.args.event.now) (written_in old) none

pub returns-else-is_write : goal.returns-else-is_write
unfolding recorded
returns-else-is_write c = λ x.
    let r = recorded c.args.event.now in
    not_written x c.args.n r (written_in c.args.writes.now x) (elim c.else-is_write.branch [
      | else-is_write-via-then-is_write+else-not-is_no_slot w ↦ no_slot x r (sym w.is_no_slot.ensures ∙ w.if-not-is_no_slot.false)
      | else-is_write-via-else-is_write w ↦ no_write x r (sym c.is_write.ensures ∙ w.if-is_write.false)
    ])
