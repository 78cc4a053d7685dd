use Rattle.std.proofs.Common.{◌∙◌}
use Rattle.wy_explore.specs.Explorer.{session_of}
use Rattle.wy_ask.proofs.Opening.{stays_on}
use Rattle.wy_session.proofs.Desks.{answered_here, desk_on, is_asked, ready_on, said_over, said_replied}
use Rattle.wy_session.proofs.desk.DeskRespond.reply.Goals as goal

pub returns-in-End-clause-said : goal.returns-in-End-clause-said
returns-in-End-clause-said g c = λ x s desk.
    let tells = g.V.EventView.tells in
    let o = c.args.self.now.opened in
    let e = c.args.self.now.explorer in
    let here = answered_here (tells o.view) o x s e desk in (
      session_of c.apply.new.self,
      said_over (tells o.view) o x s e c.apply.new.self c.args.line.now c.in_ok-reply.reply desk (c.in_ok-reply.ensures.reply x.records desk.scene.records here) c.in-End.is,
      desk_on tells x s e c.apply.new.self o c.apply.new.opened desk c.apply.ensures.stays (c.apply.ensures.answered x.records desk.scene.records here),
    )

pub returns : goal.returns
returns g c =
    let tells = g.V.EventView.tells in
    let o = c.args.self.now.opened in
    let links = c.args.self.now.links in
    let old = c.args.self.now.explorer in
    let next = c.apply.new.self in
    let read = c.apply.new.opened in
    let last = c.reply_lines.new.opened in
    let stays = stays_on tells o read last c.apply.ensures.stays c.reply_lines.ensures.stays in
    record {
      ready = ready_on tells links old next o last c.requires stays c.apply.ensures.within;
      said = λ x s desk.
          let here = answered_here (tells o.view) o x s old desk in
          let replies = c.in_ok-reply.ensures.reply x.records desk.scene.records here in
          let answered = c.apply.ensures.answered x.records desk.scene.records here in
          let stands = desk_on tells x s old next o read desk c.apply.ensures.stays answered in
          let text = c.in_ok-reply_lines.ensures.text x stands.scene stands.answered (is_asked o x old next c.args.line.now c.in_ok-reply.reply replies) in (
            session_of next,
            said_replied (tells o.view) o x s old next c.args.line.now c.in_ok-reply_lines.field-0.items c.in_ok-reply.reply desk replies c.in_default.not-End text,
            desk_on tells x s old next o last desk stays answered,
          );
      keeps = stays.keeps;
      answers = c.in_ok-reply_lines.ensures.answers ∙ c.in_ok-reply.ensures.answers;
    }
