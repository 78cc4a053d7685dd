use Rattle.std.proofs.Common.{sym, ap, ◌∙◌, Some, None, lt-ltb, le-ltb}
use Rattle.std.specs.Prelude.{if◌then◌else◌}
use Rattle.wy_index.specs.Index.{owners_of}
use Rattle.wy_index.proofs.Creations.{creation_from}
use Rattle.wy_index.proofs.index.Index.creation.Goals as goal

pub returns-in-Some-clause-creation : goal.returns-in-Some-clause-creation
returns-in-Some-clause-creation c = λ rs is. sym (creation_from (owners_of c.args.self.now) rs c.args.slot c.args.before (Some c.in-Some.event) (c.in-Some.ensures rs is)
    ∙ ap (λ b. if b then Some c.in-Some.event else None) (lt-ltb c.in-Some.event c.args.before c.if-event-before.true))

pub returns-in_default-clause-creation : goal.returns-in_default-clause-creation
returns-in_default-clause-creation c = λ rs is. sym (creation_from (owners_of c.args.self.now) rs c.args.slot c.args.before (Some c.in-Some.event) (c.in-Some.ensures rs is)
    ∙ ap (λ b. if b then Some c.in-Some.event else None) (le-ltb c.in-Some.event c.args.before c.if-event-before.false))

pub returns-in_default-2-clause-creation : goal.returns-in_default-2-clause-creation
returns-in_default-2-clause-creation c = λ rs is. sym (creation_from (owners_of c.args.self.now) rs c.args.slot c.args.before None (c.in_default.ensures rs is))
