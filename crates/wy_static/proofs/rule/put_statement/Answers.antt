use Rattle.std.proofs.Common.{ap, ◌∙◌, ◌++◌}
use Rattle.wy_kernel.specs.View.{act}
use Rattle.wy_static.specs.Ways.{act_forms}
use Rattle.wy_static.specs.Seen.{forms_seen, seen_by}
use Rattle.wy_static.proofs.Rules.{statement_goes}
use Rattle.wy_static.proofs.rule.put_statement.Goals as goal

pub returns : goal.returns
returns c = statement_goes (seen_by c.args.dispatcher.now) c.put_owned.result c.args.s.now c.owner_of-owner.result (forms_seen c.put_act_forms.new.out.items) c.args.out.now.items c.put_flow.new.out.items c.put_printing.new.out.items c.put_owned.new.out.items c.owner_of-owner.ensures
    (c.in_ok-put_act_forms.ensures ∙ ap (λ xs. forms_seen xs ++ act_forms c.owner_of-owner.result (act c.args.s.now.form)) c.new-forms.ensures.items) c.in_ok-put_flow.ensures c.in_ok-put_printing.ensures (rw (← c.deref.ensures.value) c.put_owned.ensures)
