use Rattle.std.proofs.Common.{◌<◌, sym, subst}
use Rattle.std.specs.Prelude.{IfSome}
use Rattle.wy_explore.specs.Explorer.{HoldsOf, IsAnswered, IsWithin}
use Rattle.wy_explore.proofs.Pasts.{all_kept, asked_about}
use Rattle.wy_explore.proofs.explorer.Explorer.ask_about.Goals as goal

pub returns-clause-session : goal.returns-clause-session
returns-clause-session c =
    let x = c.args.self.now in
    asked_about x.question x.cursor c.args.asked c.replace-question.result c.replace-cursor.result c.replace-question.new.self c.replace-cursor.new.self
    x.past c.push_back.new.self x.room
    c.replace-question.ensures.value c.replace-cursor.ensures.value c.replace-question.ensures.after c.replace-cursor.ensures.after c.push_back.ensures.items

pub returns-clause-within : goal.returns-clause-within
returns-clause-within c = λ count one all.
    let x = c.args.self.now in
    record {
      now = subst (HoldsOf (IsWithin count)) (sym c.replace-question.ensures.after) one;
      cursor = subst (λ o. IfSome o (λ n. n < count)) (sym c.replace-cursor.ensures.after) one.0;
      past = all_kept (IsWithin count) (λ n. n < count) x.past c.push_back.new.self _ c.push_back.ensures.items all.past (
        subst (HoldsOf (IsWithin count)) (sym c.replace-question.ensures.value) all.now,
        subst (λ o. IfSome o (λ n. n < count)) (sym c.replace-cursor.ensures.value) all.cursor,
      );
    }

pub returns-clause-answered : goal.returns-clause-answered
returns-clause-answered c = λ p rs one all.
    let x = c.args.self.now in
    record {
      now = subst (HoldsOf (IsAnswered p rs)) (sym c.replace-question.ensures.after) one;
      cursor = subst (λ o. IfSome o (λ n. Unit {0})) (sym c.replace-cursor.ensures.after) tt;
      past = all_kept (IsAnswered p rs) (λ n. Unit {0}) x.past c.push_back.new.self _ c.push_back.ensures.items all.past (
        subst (HoldsOf (IsAnswered p rs)) (sym c.replace-question.ensures.value) all.now,
        subst (λ o. IfSome o (λ n. Unit {0})) (sym c.replace-cursor.ensures.value) all.cursor,
      );
    }
