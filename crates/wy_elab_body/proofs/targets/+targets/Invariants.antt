use Rattle.std.proofs.Common.{◌≡◌, ◌++◌, take, map}
use Rattle.wy_elab_body.specs.Jumps.{targets_of_all, targets_of_catches}
use Rattle.wy_kernel.specs.View.{clause, clauses_of, statement, statements_of}
use Rattle.wy_elab_body.proofs.targets.+targets.Given as goal

abbrev pub invariant-put_all-loop-part : goal.invariant-put_all-loop-part
invariant-put_all-loop-part l = l.all.items ≡ l.initial.all.items ++ targets_of_all l.body l.catcher (statements_of (map statement (take l.part-index l.parts)))

abbrev pub invariant-put_catches-loop-catch : goal.invariant-put_catches-loop-catch
invariant-put_catches-loop-catch l = l.all.items ≡ l.initial.all.items ++ targets_of_catches l.body l.catcher (clauses_of (map clause (take l.catch-index l.catches)))
