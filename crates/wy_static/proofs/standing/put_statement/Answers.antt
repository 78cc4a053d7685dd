use Rattle.std.proofs.Common.{ap, ◌∙◌, ◌++◌}
use Rattle.wy_kernel.specs.View.{act}
use Rattle.wy_static.specs.Seen.{forms_seen}
use Rattle.wy_static.specs.Ways.{act_forms}
use Rattle.wy_static.proofs.Stands.{statement_stands}
use Rattle.wy_static.proofs.standing.put_statement.Goals as goal

pub returns : goal.returns
returns c = statement_stands c.args.method c.put_try.result c.args.s.now c.owner_of.result (forms_seen c.put_act_forms.new.out.items) c.args.out.now.items c.put_own.new.out.items c.put_all_arms.new.out.items c.put_try.new.out.items c.owner_of.ensures
    (c.in_ok-put_act_forms.ensures ∙ ap (λ xs. forms_seen xs ++ act_forms c.owner_of.result (act c.args.s.now.form)) c.new-forms.ensures.items) c.in_ok-put_own.ensures (rw (← c.deref.ensures.value) c.in_ok-put_all_arms.ensures) c.put_try.ensures
