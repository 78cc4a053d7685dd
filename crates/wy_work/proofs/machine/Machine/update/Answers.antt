use Rattle.std.proofs.lemmas.Result.{err_from_is_err_and}
use Rattle.wy_kernel.specs.View.{expression}
use Rattle.wy_work.specs.Machines.{standing}
use Rattle.wy_work.proofs.Places.{element_seen, field_seen, local_seen, static_seen}
use Rattle.wy_work.proofs.Assigns.{element_update_failed, element_updated, field_update_failed, field_updated, local_updated, static_update}
use Rattle.wy_work.proofs.machine.Machine.update.Goals as goal

pub returns-in-Local : goal.returns-in-Local
returns-in-Local g c = record { goes = λ is. local_updated _ (standing g.R.Register.keeps g.R.Register.kept c.args.self.now) (standing g.R.Register.keeps g.R.Register.kept c.args.self.now).state _ _ (expression c.args.expr.now) _ _ is _ (local_seen c.args.at.now _ c.in-Local.is) c.local-slot.ensures.step c.located.ensures.goes }

pub returns-in_ok-push_expr-in-Static : goal.returns-in_ok-push_expr-in-Static
returns-in_ok-push_expr-in-Static g c = record { goes = λ is. static_update _ (standing g.R.Register.keeps g.R.Register.kept c.args.self.now) (standing g.R.Register.keeps g.R.Register.kept c.push_expr.new.self) _ _ c.args.expr _ _ _ is (static_seen c.args.at.now _ _ c.in-Static.is) c.in_ok-push_expr-in-Static.ensures c.initialize_owner.ensures.goes }

pub returns-in_err-slot-in-Field : goal.returns-in_err-slot-in-Field
returns-in_err-slot-in-Field g c = record {
  goes = λ is.
      let h = err_from_is_err_and c.from_residual-in_err-slot-in-Field.result c.from_residual-in_err-slot-in-Field.ensures.1 in
      rw (h.1, h.2) (field_update_failed _ (standing g.R.Register.keeps g.R.Register.kept c.args.self.now) _ _ (expression c.args.expr.now) _ is _ _ _ _ _ (field_seen c.args.at.now _ _ _ c.in-Field.is) c.top.ensures c.last_uses-uses.ensures.last c.in_err-slot-in-Field.ensures.step c.in_err-slot-in-Field.ensures.around);
}

pub returns-in_ok-slot-in-Field : goal.returns-in_ok-slot-in-Field
returns-in_ok-slot-in-Field g c = record { goes = λ is. field_updated _ (standing g.R.Register.keeps g.R.Register.kept c.args.self.now) _ _ _ (expression c.args.expr.now) _ _ is _ _ _ _ _ (field_seen c.args.at.now _ _ _ c.in-Field.is) c.top.ensures c.last_uses-uses.ensures.last c.in_ok-slot-in-Field.ensures.step c.in_ok-slot-in-Field.ensures.around c.located-in-Field.ensures.goes }

pub returns-in_err-slot-in-Elem : goal.returns-in_err-slot-in-Elem
returns-in_err-slot-in-Elem g c = record {
  goes = λ is.
      let h = err_from_is_err_and c.from_residual-in_err-slot-in-Elem.result c.from_residual-in_err-slot-in-Elem.ensures.1 in
      rw (h.1, h.2) (element_update_failed _ (standing g.R.Register.keeps g.R.Register.kept c.args.self.now) _ _ (expression c.args.expr.now) _ is _ _ _ _ _ _ (element_seen c.args.at.now _ _ _ c.in-Elem.is) c.value_at-array.ensures c.top-index.ensures c.last_uses-uses-in-Elem.ensures.last c.in_err-slot-in-Elem.ensures.step c.in_err-slot-in-Elem.ensures.around);
}

pub returns-in_ok-slot-in-Elem : goal.returns-in_ok-slot-in-Elem
returns-in_ok-slot-in-Elem g c = record { goes = λ is. element_updated _ (standing g.R.Register.keeps g.R.Register.kept c.args.self.now) _ _ _ (expression c.args.expr.now) _ _ is _ _ _ _ _ _ (element_seen c.args.at.now _ _ _ c.in-Elem.is) c.value_at-array.ensures c.top-index.ensures c.last_uses-uses-in-Elem.ensures.last c.in_ok-slot-in-Elem.ensures.step c.in_ok-slot-in-Elem.ensures.around c.located-in-Elem.ensures.goes }
