use Rattle.std.proofs.Common.{ap}
use Rattle.wy_kernel.specs.Program.{Method}
use Rattle.wy_program.proofs.Mains.{main_among, main_stands}
use Rattle.wy_program.proofs.typed.TypedProgram.main_line.Goals as goal

pub method-main-requires : goal.method-main-requires
method-main-requires c = main_among c.args.self.now.program c.args.self.now.fits

pub line-requires : goal.line-requires
line-requires c = main_stands c.args.self.now.program _ _ c.args.self.now.fits c.args.self.now.stands (ap (λ (m : Method). m.site) c.method-main.ensures)
