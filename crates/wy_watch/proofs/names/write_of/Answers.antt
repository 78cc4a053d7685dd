use Rattle.std.proofs.Common.{◌∙◌, ap}
use Rattle.std.specs.Prelude.{option_map}
use Rattle.wy_event.specs.declared.record.Slot.TheVariants.{Local}
use Rattle.wy_watch.specs.declared.names.Written.{Written}
use Rattle.wy_watch.proofs.Owning.{own_write}
use Rattle.wy_watch.proofs.names.write_of.Goals as goal

-- by the program's owners
pub returns-in-Some-clause-write : goal.returns-in-Some-clause-write
returns-in-Some-clause-write g c = λ rs is.
    let s = c.args.sight.now in
    let same = own_write s rs (Local c.args.frame c.args.index) s.moment c.requires.fit in
    ap (option_map (λ n. let w : Written = record { index = c.args.index; event = n } in w)) (c.in-Some.ensures.write rs is ∙ same)

pub returns-in-None-clause-write : goal.returns-in-None-clause-write
returns-in-None-clause-write g c = λ rs is.
    let s = c.args.sight.now in
    let same = own_write s rs (Local c.args.frame c.args.index) s.moment c.requires.fit in
    ap (option_map (λ n. let w : Written = record { index = c.args.index; event = n } in w)) (c.in-None.ensures.write rs is ∙ same)
