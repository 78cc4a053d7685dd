use Rattle.std.proofs.Common.{◌∙◌, ap, map}
use Rattle.wy_kernel.specs.Form as plain
use Rattle.wy_kernel.specs.View.{expression, row_of, part_seen}
use Rattle.wy_work.specs.Machines.{standing}
use Rattle.wy_kernel.proofs.ExpressionViews.{view_call, view_read, view_set}
use Rattle.wy_work.proofs.Updates.{update_seen}
use Rattle.wy_work.proofs.Readies.{as_many, static_called, static_fetched, static_stored, static_updated}
use Rattle.wy_work.proofs.machine.Machine.ready.Goals as goal

pub returns-in-Some : goal.returns-in-Some
returns-in-Some g c = record {
  goes = static_fetched _ (standing g.R.Register.keeps g.R.Register.kept c.args.self.now) c.fetch.result (standing g.R.Register.keeps g.R.Register.kept c.fetch.new.self) (expression c.args.expr.now) _ c.in-Some.slot c.in-Some.ensures (ap expression c.in-Read.is ∙ view_read c.in-Read.place) c.fetch.ensures.goes;
}

pub returns-in-Some-static_slot : goal.returns-in-Some-static_slot
returns-in-Some-static_slot g c = record {
  goes = static_stored _ (standing g.R.Register.keeps g.R.Register.kept c.args.self.now) c.store.result (standing g.R.Register.keeps g.R.Register.kept c.store.new.self) (expression c.args.expr.now) _ c.in-Some-static_slot.slot c.in-Some-static_slot.ensures _ c.in-Set.site (ap expression c.in-Set.is ∙ view_set c.in-Set.place c.in-Set.value c.in-Set.site) c.store.ensures.goes;
}

pub returns-in-Some-static_slot-2 : goal.returns-in-Some-static_slot-2
returns-in-Some-static_slot-2 g c = record {
  goes = static_updated _ (standing g.R.Register.keeps g.R.Register.kept c.args.self.now) c.located.result (standing g.R.Register.keeps g.R.Register.kept c.located.new.self) (expression c.args.expr.now) _ c.in-Some-static_slot-2.slot c.in-Some-static_slot-2.ensures c.in-Upd.op _ c.in-Upd.value_ty c.in-Upd.ty c.in-Upd.wide c.in-Upd.gives_old c.in-Upd.site
      (update_seen c.args.expr.now c.in-Upd.place c.in-Upd.op c.in-Upd.value c.in-Upd.value_ty c.in-Upd.ty c.in-Upd.wide c.in-Upd.gives_old c.in-Upd.site c.in-Upd.is) c.located.ensures.goes;
}

pub returns-in-Static : goal.returns-in-Static
returns-in-Static g c = record {
  goes =
      let of = c.in-Call in
      static_called _ (standing g.R.Register.keeps g.R.Register.kept c.args.self.now) c.call_static.result (standing g.R.Register.keeps g.R.Register.kept c.call_static.new.self) (expression c.args.expr.now) of.method c.len.result (part_seen of.receiver) of.ty (row_of (map expression of.args.items)) of.site
      (ap expression of.is ∙ view_call of.form of.method of.receiver of.ty of.args of.site ∙ ap (λ k. plain.Call k of.method (part_seen of.receiver) of.ty (row_of (map expression of.args.items)) of.site) c.in-Static.is)
      (as_many of.args c.len.result c.len.ensures) c.call_static.ensures.goes;
}
