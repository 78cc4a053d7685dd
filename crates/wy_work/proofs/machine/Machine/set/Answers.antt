use Rattle.std.proofs.lemmas.Result.{err_from_is_err_and}
use Rattle.wy_work.specs.Machines.{standing}
use Rattle.wy_kernel.specs.View.{expression}
use Rattle.wy_work.proofs.Places.{element_set, element_set_failed, element_seen, field_set, field_set_failed, field_seen, local_set, local_seen, set_of, static_set, static_seen}
use Rattle.wy_work.proofs.machine.Machine.set.Goals as goal

pub returns-in-Local : goal.returns-in-Local
returns-in-Local g c = record { goes = λ value is. local_set _ (standing g.R.Register.keeps g.R.Register.kept c.args.self.now) (standing g.R.Register.keeps g.R.Register.kept c.args.self.now).state _ _ (expression c.args.expr.now) _ _ c.args.site value (set_of (expression c.args.expr.now) _ _ value c.args.site is (local_seen c.args.at.now _ c.in-Local.is)) c.local-slot.ensures.step c.store.ensures.goes }

pub returns-in_ok-push_expr-in-Static : goal.returns-in_ok-push_expr-in-Static
returns-in_ok-push_expr-in-Static g c = record { goes = λ value is. static_set _ (standing g.R.Register.keeps g.R.Register.kept c.args.self.now) (standing g.R.Register.keeps g.R.Register.kept c.push_expr.new.self) _ _ c.args.expr _ _ c.in_ok-push_expr-in-Static.ensures value c.args.site (set_of (expression c.args.expr.now) _ _ value c.args.site is (static_seen c.args.at.now _ _ c.in-Static.is)) c.initialize_owner.ensures.goes }

pub returns-in_err-slot-in-Field : goal.returns-in_err-slot-in-Field
returns-in_err-slot-in-Field g c = record {
  goes = λ value is.
      let h = err_from_is_err_and c.from_residual-in_err-slot-in-Field.result c.from_residual-in_err-slot-in-Field.ensures.1 in
      rw (h.1, h.2) (field_set_failed _ (standing g.R.Register.keeps g.R.Register.kept c.args.self.now) _ _ (expression c.args.expr.now) _ _ _ _ _ c.args.site value (set_of (expression c.args.expr.now) _ _ value c.args.site is (field_seen c.args.at.now _ _ _ c.in-Field.is)) c.value_at-object.ensures c.uses_at-uses.ensures c.in_err-slot-in-Field.ensures.step c.in_err-slot-in-Field.ensures.around);
}

pub returns-in_ok-slot-in-Field : goal.returns-in_ok-slot-in-Field
returns-in_ok-slot-in-Field g c = record { goes = λ value is. field_set _ (standing g.R.Register.keeps g.R.Register.kept c.args.self.now) _ _ _ (expression c.args.expr.now) _ _ _ _ _ _ c.args.site value (set_of (expression c.args.expr.now) _ _ value c.args.site is (field_seen c.args.at.now _ _ _ c.in-Field.is)) c.value_at-object.ensures c.uses_at-uses.ensures c.in_ok-slot-in-Field.ensures.step c.in_ok-slot-in-Field.ensures.around c.store-in-Field.ensures.goes }

pub returns-in_err-slot-in-Elem : goal.returns-in_err-slot-in-Elem
returns-in_err-slot-in-Elem g c = record {
  goes = λ value is.
      let h = err_from_is_err_and c.from_residual-in_err-slot-in-Elem.result c.from_residual-in_err-slot-in-Elem.ensures.1 in
      rw (h.1, h.2) (element_set_failed _ (standing g.R.Register.keeps g.R.Register.kept c.args.self.now) _ _ (expression c.args.expr.now) _ _ _ _ _ _ c.args.site value (set_of (expression c.args.expr.now) _ _ value c.args.site is (element_seen c.args.at.now _ _ _ c.in-Elem.is)) c.value_at-array.ensures c.value_at-index.ensures c.uses_under_top-uses.ensures c.in_err-slot-in-Elem.ensures.step c.in_err-slot-in-Elem.ensures.around);
}

pub returns-in_ok-slot-in-Elem : goal.returns-in_ok-slot-in-Elem
returns-in_ok-slot-in-Elem g c = record { goes = λ value is. element_set _ (standing g.R.Register.keeps g.R.Register.kept c.args.self.now) _ _ _ (expression c.args.expr.now) _ _ _ _ _ _ _ c.args.site value (set_of (expression c.args.expr.now) _ _ value c.args.site is (element_seen c.args.at.now _ _ _ c.in-Elem.is)) c.value_at-array.ensures c.value_at-index.ensures c.uses_under_top-uses.ensures c.in_ok-slot-in-Elem.ensures.step c.in_ok-slot-in-Elem.ensures.around c.store-in-Elem.ensures.goes }
