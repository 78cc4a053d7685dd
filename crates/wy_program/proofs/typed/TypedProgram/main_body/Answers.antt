use Rattle.wy_program.proofs.Bodies.{main_within, main_has_body}
use Rattle.wy_program.proofs.typed.TypedProgram.main_body.Goals as goal

pub body-requires : goal.body-requires
body-requires c = main_within c.args.self.now.program c.args.self.now.fits

pub unwrap-requires : goal.unwrap-requires
unwrap-requires c = main_has_body c.before.args.self.now.program _ _ c.before.args.self.now.fits c.body.ensures
