use Rattle.std.proofs.Common.{◌∙◌, refl, ap, sym, rules, arith}
use Rattle.std.specs.Prelude.{option_map}
use Rattle.wy_table.specs.ClassTable.{table_of}
use Rattle.wy_kernel.specs.Table.{constant_value}
use Rattle.wy_members.specs.Initializers.{initializers_seen}
use Rattle.wy_members.proofs.Sweeps.{goes_on_itself, swept_further, swept_new, swept_all}
use Rattle.wy_members.proofs.constant_field.sweep.Goals as goal
use Rattle.wy_members.proofs.constant_field.sweep.Goals.{in-Some, in_default}

pub loop-field-init : goal.loop-field-init
loop-field-init c = record { goes_on = goes_on_itself (initializers_seen c.args.all.now) (table_of c.args.table.now); result = (refl, λ j lt. absurd (omega arith)) }

pub loop-field-preserved : goal.loop-field-preserved
loop-field-preserved c =
    let all = initializers_seen c.args.all.now in
    let old = table_of c.args.table.now in
    let now = table_of c.loop-field.table in
    elim c.match-branch-2.branch [
      | in-Some w ↦ swept_new all old now (table_of c.match-branch-2.table) c.loop-field.found c.match-branch-2.found c.loop-field.field (constant_value w.in-Some.value) c.loop-field.invariant (sym c.in_ok-value.ensures ∙ ap (option_map constant_value) w.in-Some.is) w.learn.ensures.within (ap table_of w.table-is ∙ w.learn.ensures.same) w.found-is
      | in_default w ↦ swept_further all old now (table_of c.match-branch-2.table) c.loop-field.found c.match-branch-2.found c.loop-field.field c.loop-field.invariant (sym c.in_ok-value.ensures ∙ ap (option_map constant_value) w.in_default.is) (ap table_of w.table-is) w.found-is
    ]

pub returns-clause-found : goal.returns-clause-found
returns-clause-found c =
    swept_all (initializers_seen c.args.all.now) (table_of c.args.table.now) (table_of c.loop-field.table) c.loop-field.found c.loop-field.field c.fields-field-end.result c.loop-field.invariant (search rules) (search rules)
