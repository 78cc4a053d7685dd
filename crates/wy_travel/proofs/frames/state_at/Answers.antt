-- The frame of the event comes first, and then the frame of each.
use Rattle.std.proofs.Common.{◌∙◌, ◌-◌, ◌∷◌, [], length, length-append, sym, ap, subst, arith}
use Rattle.std.proofs.lemmas.List.Elements.{All-nil, All-push}
use Rattle.std.specs.Prelude.{All}
use Rattle.wy_kernel.specs.Parts.{program_of}
use Rattle.wy_kernel.specs.View.{present}
use Rattle.wy_index.proofs.Numbers.{absent_number, present_number}
use Rattle.wy_view.specs.References.{OptionBelow}
use Rattle.wy_view.proofs.Views.{keeps_on}
use Rattle.wy_travel.specs.declared.frames.Frame.{Frame}
use Rattle.wy_travel.specs.Backtrace.{IsBelow}
use Rattle.wy_travel.proofs.Outward.{all_shown, none_shown, one_further, option_up, shown_from}
use Rattle.wy_travel.proofs.Reading.{index_kept}
use Rattle.wy_travel.proofs.frames.state_at.Goals as goal

pub loop-call-init : goal.loop-call-init
loop-call-init g c =
    let m = c.args.event in
    let none = c.new-frames.ensures.items in
    let next = present c.in_ok-call.field-0.frame in
    record {
      within = option_up m (m - length c.new-frames.result.items) next (omega (arith, ap length none)) c.in_ok-call.ensures.below;
      frames = λ rs is.
          let p = program_of c.args.program.now in
          ap (λ done. shown_from p rs m done next) none ∙ none_shown p rs m next (c.in_ok-call.ensures.frame rs is);
      below = subst (All (IsBelow m)) (sym none) (All-nil (IsBelow m));
      keeps = c.in_ok-call.ensures.keeps;
      faults = c.in_ok-call.ensures.answers;
      forward = omega (arith, c.in_ok-call.ensures.step);
    }

pub place_of-requires-in-loop-call : goal.place_of-requires-in-loop-call
place_of-requires-in-loop-call g c =
    let v = c.loop-call.invariant in
    let lt = subst (OptionBelow (c.args.event - length c.loop-call.frames.items)) (present_number c.loop-call.call c.loop-call-test.true) v.within in
    omega (arith, lt, c.requires.there, v.keeps.count)

pub written_among-requires-clause-index : goal.written_among-requires-clause-index
written_among-requires-clause-index g c =
    let told = g.V.EventView.tells in
    let first = told c.args.view.now in
    let last = told c.place_of-in-loop-call.new.view in
    index_kept c.args.index.now first last (keeps_on first (told c.loop-call.view) last c.loop-call.invariant.keeps c.in_ok-place.ensures.keeps) c.requires.index

pub loop-call-preserved : goal.loop-call-preserved
loop-call-preserved g c =
    let told = g.V.EventView.tells in
    let v = c.loop-call.invariant in
    let m = c.args.event in
    let done = c.loop-call.frames.items in
    let call = c.loop-call.call in
    let some = present_number call c.loop-call-test.true in
    let place = c.in_ok-place.place in
    let frame : Frame = record { call = call; locals = c.in_ok-locals.locals } in
    let more = c.in_ok-keep.ensures in
    let longer = length-append done (frame ∷ []) in
    let lt = subst (OptionBelow (m - length done)) some v.within in
    let first = told c.args.view.now in
    let now = told c.loop-call.view in
    let read = told c.place_of-in-loop-call.new.view in
    let after = told c.written_among.new.view in
    record {
      within = option_up call (m - length c.keep.new.frames.items) (present place.frame) (omega (arith, lt, ap length more, longer)) c.in_ok-place.ensures.below;
      frames = λ rs is.
          let p = program_of c.args.program.now in
          let here = v.keeps.records ∙ is in
          ap (λ l. shown_from p rs m l (present place.frame)) more
          ∙ one_further p rs m done frame place.locals (present place.frame) lt (c.in_ok-locals.ensures.locals rs (c.in_ok-place.ensures.keeps.records ∙ here)) (c.in_ok-place.ensures.locals rs here) (c.in_ok-place.ensures.frame rs here)
          ∙ ap (shown_from p rs m done) (sym some)
          ∙ v.frames rs is;
      below = subst (All (IsBelow m)) (sym more) (All-push (IsBelow m) done frame v.below (record { call = omega (arith, lt); locals = c.in_ok-locals.ensures.below }));
      keeps = keeps_on first now after v.keeps (keeps_on now read after c.in_ok-place.ensures.keeps c.in_ok-locals.ensures.keeps);
      faults = c.in_ok-locals.ensures.answers ∙ c.in_ok-place.ensures.answers ∙ v.faults;
      forward = omega (arith, v.forward, c.in_ok-place.ensures.step, c.in_ok-locals.ensures.forward);
    }

pub loop-call-smaller : goal.loop-call-smaller
loop-call-smaller g c =
    let v = c.loop-call.invariant in
    let done = c.loop-call.frames.items in
    let frame : Frame = record { call = c.loop-call.call; locals = c.in_ok-locals.locals } in
    let lt = subst (OptionBelow (c.args.event - length done)) (present_number c.loop-call.call c.loop-call-test.true) v.within in
    omega (arith, lt, ap length c.in_ok-keep.ensures, length-append done (frame ∷ []))

pub returns-clause-frames : goal.returns-clause-frames
returns-clause-frames g c = λ rs is.
    let p = program_of c.args.program.now in
    let done = c.loop-call.frames.items in
    all_shown p rs c.args.event done ∙ ap (shown_from p rs c.args.event done) (sym (absent_number c.loop-call.call c.loop-call-test.false)) ∙ c.loop-call.invariant.frames rs is
