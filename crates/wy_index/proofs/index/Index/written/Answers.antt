-- The last posting before the moment is of the last write, if it is of the slot.
use Rattle.std.proofs.Common.{◌≡◌, ◌<◌, ℕ, suc, true, refl, sym, subst, arith, List, Some}
use Rattle.std.specs.Prelude.{slice_get}
use Rattle.std.specs.Ordering.{is_lt}
use Rattle.wy_index.specs.declared.posting.Posting.{Posting}
use Rattle.wy_index.specs.declared.posting.Find.{Find}
use Rattle.wy_index.specs.Finds.{IsFound, IsLastBefore}
use Rattle.wy_index.specs.Order.{IsInOrder, posting_cmp}
use Rattle.wy_index.proofs.Orders.{earlier_before}
use Rattle.wy_index.proofs.Writes.{none_in_front, last_in_front, other_in_front, earlier_event}
use Rattle.wy_index.proofs.index.Index.written.Goals as goal

in_front : (postings : List Posting) (target : Posting) (find : Find) → IsInOrder postings → IsFound postings find → is_lt (posting_cmp find.posting target) ≡ true
    → (i : ℕ) (p : Posting) → i < suc find.place → slice_get postings i ≡ Some p → is_lt (posting_cmp p target) ≡ true
in_front postings target find up here less i p lt at = earlier_before postings target p find.posting i find.place up (omega (arith, lt)) at here less

pub returns-in_default-clause-write : goal.returns-in_default-clause-write
returns-in_default-clause-write c = λ rs is.
    let target : Posting = record { slot = c.args.slot; event = c.args.before } in
    let last = subst (IsLastBefore c.args.self.now.postings target) c.in_default.is c.requires.last in
    sym (none_in_front rs c.args.self.now.postings is.postings is.in_order c.args.slot c.args.before 0 (λ i p lt at. absurd (omega (arith, lt))) last refl)

pub returns-then-is_same-clause-write : goal.returns-then-is_same-clause-write
returns-then-is_same-clause-write c = λ rs is.
    let target : Posting = record { slot = c.args.slot; event = c.args.before } in
    let find = c.in-Some.find in
    let last = subst (IsLastBefore c.args.self.now.postings target) c.in-Some.is c.requires.last in
    sym (last_in_front rs c.args.self.now.postings is.postings is.in_order c.args.slot c.args.before (suc find.place) (in_front c.args.self.now.postings target find is.in_order last.0 last.1) last.2 find.place find.posting refl last.0 cc)

pub returns-then-is_same-clause-before : goal.returns-then-is_same-clause-before
returns-then-is_same-clause-before c =
    let target : Posting = record { slot = c.args.slot; event = c.args.before } in
    let last = subst (IsLastBefore c.args.self.now.postings target) c.in-Some.is c.requires.last in
    earlier_event c.args.slot c.args.before c.in-Some.find.posting last.1 cc

pub returns-else-is_same-clause-write : goal.returns-else-is_same-clause-write
returns-else-is_same-clause-write c = λ rs is.
    let target : Posting = record { slot = c.args.slot; event = c.args.before } in
    let find = c.in-Some.find in
    let last = subst (IsLastBefore c.args.self.now.postings target) c.in-Some.is c.requires.last in
    sym (other_in_front rs c.args.self.now.postings is.postings is.in_order c.args.slot c.args.before (suc find.place) (in_front c.args.self.now.postings target find is.in_order last.0 last.1) last.2 find.place find.posting refl last.0 cc)
