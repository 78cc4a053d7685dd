use Rattle.std.proofs.Common.{◌∙◌, not, sym, ap}
use Rattle.std.specs.Prelude.{nat_eq}
use Rattle.std.specs.List.{list_any}
use Rattle.wy_event.specs.declared.record.Cover.{Cover}
use Rattle.wy_index.specs.Found.{is_call_of, is_init_of}
use Rattle.wy_whynot.specs.Executed.{caught, executed, gave}
use Rattle.wy_whynot.proofs.Firsts.{found_one}
use Rattle.wy_whynot.proofs.executed.is_executed.Goals as goal

pub returns-in-Start : goal.returns-in-Start
unfolding executed
returns-in-Start c = λ rs is. sym (ap (executed rs c.args.coverage.now) c.in-Start.is)

pub returns-in-Entry : goal.returns-in-Entry
unfolding executed
returns-in-Entry c = λ rs is. found_one (is_call_of c.in-Entry.method) rs c.first_call.result (c.first_call.ensures rs is) ∙ sym (ap (executed rs c.args.coverage.now) c.in-Entry.is)

pub returns-in-Init : goal.returns-in-Init
unfolding executed
returns-in-Init c = λ rs is. found_one (is_init_of c.in-Init.class) rs c.first_init.result (c.first_init.ensures rs is) ∙ sym (ap (executed rs c.args.coverage.now) c.in-Init.is)

pub returns-in-Statement : goal.returns-in-Statement
unfolding executed
returns-in-Statement c = λ rs is. ap (λ (x : Cover). not (nat_eq x.begins 0)) c.cover_of.ensures ∙ sym (ap (executed rs c.args.coverage.now) c.in-Statement.is)

pub returns-in-Arm : goal.returns-in-Arm
unfolding executed
returns-in-Arm c = λ rs is. c.any_gave.ensures ∙ ap (list_any (gave c.in-Arm.value)) (c.at_site.ensures rs is) ∙ sym (ap (executed rs c.args.coverage.now) c.in-Arm.is)

pub returns-in-Catch : goal.returns-in-Catch
unfolding executed
returns-in-Catch c = λ rs is. c.any_caught.ensures ∙ ap (list_any caught) (c.at_site-in-Catch.ensures rs is) ∙ sym (ap (executed rs c.args.coverage.now) c.in-Catch.is)
