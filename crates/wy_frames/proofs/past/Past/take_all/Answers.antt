use Rattle.std.proofs.Common.{sym, ◌∙◌}
use Rattle.std.specs.Option.{option_to_list}
use Rattle.wy_frames.specs.Pieces.{frame_in}
use Rattle.wy_frames.proofs.Scans.{one_more, refused_there, passed_there, rests_there, rest_is_shorter}
use Rattle.wy_frames.proofs.past.Past.take_all.Goals as goal

pub frames-smaller : goal.frames-smaller
frames-smaller c = rest_is_shorter c.frames.rest.now (frame_in c.in-Some.piece) (sym c.in-Some.ensures)

pub frames-preserved : goal.frames-preserved
frames-preserved c = λ from s fed h l.
    let x = c.frames.invariant from s fed h l in
    one_more c.args.ranges.now c.args.steps from s fed c.args.placed.now.items c.frames.placed.items c.keep.new.placed.items c.frames.self c.take.new.self c.frames.rest.now (frame_in c.in-Some.piece) (option_to_list c.in-Ok.next) x (sym c.in-Some.ensures) (c.in-Ok.ensures x.standing x.holds) c.in_ok-keep-in-Ok.ensures.ok

pub returns-in-Err-clause-err : goal.returns-in-Err-clause-err
returns-in-Err-clause-err c = λ from s fed h l.
    let x = c.frames.invariant from s fed h l in
    refused_there c.args.ranges.now c.args.steps from s fed c.args.placed.now.items c.frames.placed.items c.frames.self c.frames.rest.now (frame_in c.in-Some.piece) c.in-Err.error x (sym c.in-Some.ensures) (c.in-Err.ensures x.standing x.holds)

pub returns-then-is_passed-clause-err : goal.returns-then-is_passed-clause-err
returns-then-is_passed-clause-err c = λ from s fed h l. passed_there c.args.ranges.now c.args.steps from s fed c.args.placed.now.items c.frames.placed.items c.frames.self c.frames.rest.now (c.frames.invariant from s fed h l) (sym c.in_default.ensures) (sym c.is_passed.ensures ∙ c.if-is_passed.true)

pub returns-clause-ok : goal.returns-clause-ok
returns-clause-ok c = λ from s fed h l. rests_there c.args.ranges.now c.args.steps from s fed c.args.placed.now.items c.frames.placed.items c.frames.self c.frames.rest.now (c.frames.invariant from s fed h l) (sym c.in_default.ensures) (sym c.is_passed.ensures ∙ c.if-is_passed.false)
