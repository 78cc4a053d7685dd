use Rattle.wy_overloads.proofs.Related.{or_second, untrue}
use Rattle.wy_members.proofs.broken.overriding.stands_wrongly.Goals as goal

pub returns-else-differs_in_form : goal.returns-else-differs_in_form
returns-else-differs_in_form c = or_second _ (λ differs. untrue _ c.if-differs_in_form.false (c.differs_in_form.ensures.1 differs)) c.has_no_common_result.ensures
