use Rattle.wy_table.specs.ClassTable.{table_of}
use Rattle.wy_table.specs.Hierarchy.{rows_of}
use Rattle.wy_overloads.proofs.Related.{is_table_of}
use Rattle.law_judgement.proofs.Judged.{judged}
use Rattle.law_judgement.proofs.a_table_is_judged.Goals as goal

pub returns : goal.returns
unfolding table_of
returns c = let t = c.args._table.now in judged (table_of t) (rows_of t.hierarchy) (is_table_of t) t.keeps_supertypes
