use Rattle.std.proofs.Common.{ap}
use Rattle.std.specs.Prelude.{option_and_then}
use Rattle.wy_watch.specs.Sight.{sight_seen}
use Rattle.wy_watch.specs.Value.{field_of}
use Rattle.wy_watch.proofs.Looking.{look_as, no_look}
use Rattle.wy_watch.proofs.value.member_of_this.Goals as goal

pub returns-in-Some-clause-looks : goal.returns-in-Some-clause-looks
returns-in-Some-clause-looks g c =
    look_as _ _ _ _ _ (λ rs told. ap (option_and_then (λ f. field_of (sight_seen rs c.args.sight.now) f c.args.this)) c.in-Some.ensures.field) c.field_of.ensures.looks

pub returns-in-None-clause-looks : goal.returns-in-None-clause-looks
returns-in-None-clause-looks g c =
    no_look _ _ _ (λ rs told. ap (option_and_then (λ f. field_of (sight_seen rs c.args.sight.now) f c.args.this)) c.in-None.ensures.field)
