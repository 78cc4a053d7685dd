use Rattle.std.proofs.Common.{◌<◌, ◌∙◌, Some, ap, refl, sym}
use Rattle.wy_explore.specs.declared.explorer.Change.TheVariants.{Asked, Looked}
use Rattle.wy_explore.specs.Explorer.{IsAnswered, IsWithin, event_asked, positions}
use Rattle.wy_explore.proofs.Pasts.{all_left, before, last_holds, nothing_before, nothing_left, same_ring}
use Rattle.std.specs.Prelude.{reverse}
use Rattle.wy_explore.proofs.explorer.Explorer.undo.Goals as goal

pub returns-in-Some-Looked-clause-undoes : goal.returns-in-Some-Looked-clause-undoes
returns-in-Some-Looked-clause-undoes c =
    let x = c.args.self.now in
    let asked = event_asked x.question in
    let last = sym c.in-Some-Looked.ensures.value ∙ ap Some c.in-Some-Looked.field-0-is in (
      record { asked = asked; cursor = c.in-Some-Looked.cursor },
      positions asked (reverse c.pop_back.new.self.items),
      before asked x.past c.pop_back.new.self (Looked c.in-Some-Looked.cursor) last c.in-Some-Looked.ensures.items,
      refl,
    )

pub returns-in-Some-Looked-clause-within : goal.returns-in-Some-Looked-clause-within
returns-in-Some-Looked-clause-within c = λ count all.
    let x = c.args.self.now in
    let last = sym c.in-Some-Looked.ensures.value ∙ ap Some c.in-Some-Looked.field-0-is in
    record {
      now = all.now;
      cursor = last_holds (IsWithin count) (λ n. n < count) x.past.items (Looked c.in-Some-Looked.cursor) last all.past;
      past = all_left (IsWithin count) (λ n. n < count) x.past c.pop_back.new.self c.in-Some-Looked.ensures.items all.past;
    }

pub returns-in-Some-Asked-clause-undoes : goal.returns-in-Some-Asked-clause-undoes
returns-in-Some-Asked-clause-undoes c =
    let x = c.args.self.now in
    let asked = event_asked c.in-Some-Asked.question in
    let change = Asked c.in-Some-Asked.question c.in-Some-Asked.cursor in
    let last = sym c.in-Some-Asked.ensures.value ∙ ap Some c.in-Some-Asked.field-0-is in (
      record { asked = asked; cursor = c.in-Some-Asked.cursor },
      positions asked (reverse c.pop_back.new.self.items),
      before (event_asked x.question) x.past c.pop_back.new.self change last c.in-Some-Asked.ensures.items,
      refl,
    )

pub returns-in-Some-Asked-clause-within : goal.returns-in-Some-Asked-clause-within
returns-in-Some-Asked-clause-within c = λ count all.
    let x = c.args.self.now in
    let change = Asked c.in-Some-Asked.question c.in-Some-Asked.cursor in
    let last = sym c.in-Some-Asked.ensures.value ∙ ap Some c.in-Some-Asked.field-0-is in
    let held = last_holds (IsWithin count) (λ n. n < count) x.past.items change last all.past in
    record {
      now = held.0;
      cursor = held.1;
      past = all_left (IsWithin count) (λ n. n < count) x.past c.pop_back.new.self c.in-Some-Asked.ensures.items all.past;
    }

pub returns-in-None-clause-undoes : goal.returns-in-None-clause-undoes
returns-in-None-clause-undoes c =
    let x = c.args.self.now in
    let none = sym (c.in-None.ensures {u = tt}).value in (
      nothing_before (event_asked x.question) x.past none,
      same_ring x c.pop_back.new.self _ (nothing_left x.past c.pop_back.new.self none (c.in-None.ensures {u = tt}).items),
    )

pub returns-in-Some-Looked-clause-answered : goal.returns-in-Some-Looked-clause-answered
returns-in-Some-Looked-clause-answered c = λ p rs all.
    let x = c.args.self.now in
    let last = sym c.in-Some-Looked.ensures.value ∙ ap Some c.in-Some-Looked.field-0-is in
    record {
      now = all.now;
      cursor = last_holds (IsAnswered p rs) (λ n. Unit {0}) x.past.items (Looked c.in-Some-Looked.cursor) last all.past;
      past = all_left (IsAnswered p rs) (λ n. Unit {0}) x.past c.pop_back.new.self c.in-Some-Looked.ensures.items all.past;
    }

pub returns-in-Some-Asked-clause-answered : goal.returns-in-Some-Asked-clause-answered
returns-in-Some-Asked-clause-answered c = λ p rs all.
    let x = c.args.self.now in
    let change = Asked c.in-Some-Asked.question c.in-Some-Asked.cursor in
    let last = sym c.in-Some-Asked.ensures.value ∙ ap Some c.in-Some-Asked.field-0-is in
    let held = last_holds (IsAnswered p rs) (λ n. Unit {0}) x.past.items change last all.past in
    record {
      now = held.0;
      cursor = held.1;
      past = all_left (IsAnswered p rs) (λ n. Unit {0}) x.past c.pop_back.new.self c.in-Some-Asked.ensures.items all.past;
    }
