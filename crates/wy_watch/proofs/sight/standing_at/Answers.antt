use Rattle.std.proofs.Common.{◌≡◌, ◌∙◌, IfOk, sym, ap, option_map, subst, arith}
use Rattle.wy_index.proofs.Numbers.{absent_number, present_number}
use Rattle.wy_kernel.specs.Parts.{program_of}
use Rattle.wy_view.specs.References.{OptionBelow}
use Rattle.wy_watch.specs.Sight.{standing_in, standing_seen}
use Rattle.wy_watch.proofs.sight.standing_at.Goals as goal

pub returns-then-frame-clause-standing : goal.returns-then-frame-clause-standing
returns-then-frame-clause-standing g c = λ rs is.
    ap (standing_in (program_of c.args.program.now) rs) (sym (absent_number c.in_ok-frame.frame c.if-frame.true) ∙ c.in_ok-frame.ensures.frame rs is)

pub standing_in-requires : goal.standing_in-requires
standing_in-requires g c =
    let lt = subst (OptionBelow c.args.event) (present_number c.in_ok-frame.frame c.if-frame.false) c.in_ok-frame.ensures.below in
    omega (arith, lt, c.requires.there, c.in_ok-frame.ensures.keeps.count)

pub returns-clause-standing : goal.returns-clause-standing
returns-clause-standing g c = λ rs is.
    let frame = sym (present_number c.in_ok-frame.frame c.if-frame.false) ∙ c.in_ok-frame.ensures.frame rs is in
    subst (λ t. IfOk c.standing_in.result (λ s. option_map standing_seen s ≡ t)) (ap (standing_in (program_of c.args.program.now) rs) frame)
    (c.standing_in.ensures.standing rs (c.in_ok-frame.ensures.keeps.records ∙ is))
