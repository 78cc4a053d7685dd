use Rattle.std.proofs.Common.{◌∙◌, ◌++◌, List, append-nil, refl, sym, ap, subst}
use Rattle.std.specs.Prelude.{OnOk}
use Rattle.wy_event.specs.Record.{Recorded, recorded}
use Rattle.wy_ask.specs.Held.{HasStored}
use Rattle.wy_ask.proofs.Storing.{passed, passed_by, taken}
use Rattle.wy_ask.proofs.stored.Stores.note.Goals as goal

pub returns-then-not-is_set-clause-stored : goal.returns-then-not-is_set-clause-stored
unfolding recorded
returns-then-not-is_set-clause-stored c = λ sets stored.
    let none = passed (recorded c.args.event.now) (sym c.is_set.ensures ∙ c.if-not-is_set.true) in
    subst (HasStored c.args.self.now) (sym (ap (λ (l : List Recorded). sets ++ l) none ∙ append-nil sets)) stored

pub returns-in-Some-clause-stored : goal.returns-in-Some-clause-stored
unfolding recorded
returns-in-Some-clause-stored c = λ sets stored.
    let one = taken (recorded c.args.event.now) c.in-Some.key (sym c.is_set.ensures ∙ c.if-not-is_set.false) (sym c.in-Some.ensures) in
    subst (λ l. OnOk c.store.result (HasStored c.store.new.self (sets ++ l))) (sym one) (c.store.ensures.stored sets (recorded c.args.event.now) stored (sym c.in-Some.ensures) refl)

pub returns-in-None-clause-stored : goal.returns-in-None-clause-stored
unfolding recorded
returns-in-None-clause-stored c = λ sets stored.
    let none = passed_by (recorded c.args.event.now) (sym c.in-None.ensures) in
    subst (HasStored c.args.self.now) (sym (ap (λ (l : List Recorded). sets ++ l) none ∙ append-nil sets)) stored
