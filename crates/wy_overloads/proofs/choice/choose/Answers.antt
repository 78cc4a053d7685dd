use Rattle.std.proofs.Common.{◌≡◌, ℕ, ap, subst, Ok, Err}
use Rattle.wy_table.specs.ClassTable.{table_of}
use Rattle.wy_constant.specs.declared.rule.Rule.{Rule}
use Rattle.wy_constant.specs.declared.rule.TypeError.TheVariants.{Broken}
use Rattle.wy_overloads.specs.LineageView.{lineage_of}
use Rattle.wy_overloads.specs.Choice.{Chosen, Refused}
use Rattle.wy_overloads.proofs.Hierarchies.{chosen_along, refused_along}
use Rattle.wy_overloads.proofs.Related.{is_table_of}
use Rattle.wy_overloads.proofs.Unique.{one_chosen_in, none_chosen_and_refused, one_rule}
use Rattle.wy_overloads.proofs.choice.choose.Goals as goal

pub returns-in-Some-clause-chosen : goal.returns-in-Some-clause-chosen
returns-in-Some-clause-chosen c m =
    let t = table_of c.args.table.now in
    let P : ℕ → Type 0 = λ n. Chosen t c.args.receiver.now c.args.name.now c.args.args.now n in
    let it : P c.in-Some.method = (chosen_along t _ c.args.receiver.now c.args.name.now c.args.args.now c.in-Some.method c.of_table-lineage.ensures).0 c.in-Some.ensures in (
      λ e. (let same : c.in-Some.method ≡ m = cc in subst P same it),
      λ h. (let same : c.in-Some.method ≡ m = one_chosen_in t c.args.receiver.now c.args.name.now c.args.args.now c.in-Some.method m (is_table_of c.args.table.now) it h in ap (λ n. Ok n) same),
    )

pub returns-in-Some-clause-refused : goal.returns-in-Some-clause-refused
returns-in-Some-clause-refused c rule =
    let t = table_of c.args.table.now in
    let it = (chosen_along t _ c.args.receiver.now c.args.name.now c.args.args.now c.in-Some.method c.of_table-lineage.ensures).0 c.in-Some.ensures in
    (λ e. absurd (cc), λ h. absurd (none_chosen_and_refused t c.args.receiver.now c.args.name.now c.args.args.now c.in-Some.method rule it h))

pub returns-in-None-clause-chosen : goal.returns-in-None-clause-chosen
returns-in-None-clause-chosen c m =
    let t = table_of c.args.table.now in
    (λ e. absurd (cc), λ h. absurd (c.in-None.ensures m ((chosen_along t _ c.args.receiver.now c.args.name.now c.args.args.now m c.of_table-lineage.ensures).1 h)))

pub returns-in-None-clause-refused : goal.returns-in-None-clause-refused
returns-in-None-clause-refused c rule =
    let t = table_of c.args.table.now in
    let P : Rule → Type 0 = λ r. Refused t c.args.receiver.now c.args.name.now c.args.args.now r in
    let none : (k : ℕ) → Chosen (lineage_of c.of_table-lineage.result) c.args.receiver.now c.args.name.now c.args.args.now k → ⊥ = c.in-None.ensures in
    let it : P c.refusal.result = (refused_along t _ c.args.receiver.now c.args.name.now c.args.args.now c.refusal.result c.of_table-lineage.ensures).0 (c.refusal.ensures none) in (
      λ e. (let same : c.refusal.result ≡ rule = cc in subst P same it),
      λ h. ap (λ r. Err (Broken r c.args.token)) (one_rule t c.args.receiver.now c.args.name.now c.args.args.now c.refusal.result rule it h),
    )
