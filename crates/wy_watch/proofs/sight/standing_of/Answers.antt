use Rattle.std.proofs.Common.{◌∙◌, Some, ap}
use Rattle.std.specs.Prelude.{option_map}
use Rattle.wy_event.specs.Record.{recorded}
use Rattle.wy_kernel.specs.Parts.{program_of}
use Rattle.wy_watch.specs.Sight.{Standing, locals_in, standing_with}
use Rattle.wy_watch.proofs.sight.standing_of.Goals as goal

pub returns-in-Some-clause-standing : goal.returns-in-Some-clause-standing
returns-in-Some-clause-standing c =
    let p = program_of c.args.program.now in
    let e = Some (recorded c.args.event.now) in
    ap (λ ls. let at : Standing = record { frame = c.args.frame; class = c.in-Some.class; locals = ls } in Some at) (c.locals_of-locals.ensures.locals ∙ ap locals_in c.frame_body-body.ensures)
    ∙ ap (option_map (standing_with p c.args.frame e)) c.in-Some.ensures

pub returns-in-None-clause-standing : goal.returns-in-None-clause-standing
returns-in-None-clause-standing c =
    let p = program_of c.args.program.now in
    let e = Some (recorded c.args.event.now) in
    ap (option_map (standing_with p c.args.frame e)) c.in-None.ensures
