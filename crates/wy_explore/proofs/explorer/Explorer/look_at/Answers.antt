use Rattle.wy_explore.proofs.Pasts.{looked}
use Rattle.wy_explore.proofs.explorer.Explorer.look_at.Goals as goal

pub returns-clause-session : goal.returns-clause-session
returns-clause-session c =
    let x = c.args.self.now in
    looked x.question x.cursor c.replace-cursor.result c.replace-cursor.new.self c.args.event x.past c.push_back.new.self x.room
    c.replace-cursor.ensures.value c.replace-cursor.ensures.after c.push_back.ensures.items
