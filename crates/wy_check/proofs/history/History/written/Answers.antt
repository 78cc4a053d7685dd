use Rattle.std.proofs.Common.{◌≡◌, ◌∙◌, Some, None, sym, subst}
use Rattle.std.specs.BTreeMap.{get}
use Rattle.std.specs.List.Sorted.{IsNonDecreasing}
use Rattle.wy_check.specs.Keys.{key_cmp, key_of}
use Rattle.wy_check.specs.Writes.{IsLastBelow, writes_of}
use Rattle.wy_check.proofs.Histories.{kept_is, kept_some, last_is_written, writes_order}
use Rattle.wy_check.proofs.history.History.written.Goals as goal

pub returns-in-Some : goal.returns-in-Some
returns-in-Some c = λ rs seen asked.
    let x = c.args.slot in
    let here : c.deref.result.now ≡ writes_of x rs = c.deref.ensures.value ∙ kept_is (get key_cmp c.args.self.now.writes (key_of x)) c.in-Some.events.now (writes_of x rs) (subst (λ k. Some c.in-Some.events.now ≡ get key_cmp c.args.self.now.writes k) c.key_of.ensures c.in-Some.ensures.value) (seen.writes x) in
    last_is_written x rs c.args.moment c.last_below.result (subst (λ ws. IsLastBelow ws c.args.moment c.last_below.result) here (c.last_below.ensures (subst IsNonDecreasing (sym here) (writes_order x rs))))

pub returns-in-None : goal.returns-in-None
returns-in-None c = λ rs seen asked. absurd (kept_some (get key_cmp c.args.self.now.writes (key_of c.args.slot)) (subst (λ k. None ≡ get key_cmp c.args.self.now.writes k) c.key_of.ensures c.in-None.ensures.value) asked)
