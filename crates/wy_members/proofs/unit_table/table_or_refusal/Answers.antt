use Rattle.std.proofs.Common.{Option, subst}
use Rattle.std.specs.Prelude.{MatchOption}
use Rattle.wy_members.specs.declared.broken.breach.Breach.{Breach}
use Rattle.wy_members.specs.Names.{unit_of}
use Rattle.wy_members.specs.Refusal.{IsRefusal, KeepsRules}
use Rattle.wy_members.proofs.InRange.{acyclic}
use Rattle.wy_members.proofs.unit_table.table_or_refusal.Goals as goal

pub program_table-requires-clause-acyclic : goal.program_table-requires-clause-acyclic
program_table-requires-clause-acyclic c =
    let unit = unit_of c.args.names.now in
    let P : Option Breach → Type 0 = λ o. MatchOption o (KeepsRules unit) (λ b. IsRefusal unit b.rule b.token) in
    let keeps : KeepsRules unit = subst P c.in-None.is c.requires.judged in
    acyclic unit keeps
