use Rattle.std.proofs.Common.{◌≡◌, ◌++◌, take, map}
use Rattle.wy_elab_body.specs.Places.{all_places, catch_places}
use Rattle.wy_syntax.specs.View.{clause_of, clauses_of, statement_of, statements_of}
use Rattle.wy_elab_body.proofs.places.+places.Given as goal

abbrev pub invariant-put_catches-loop-catch : goal.invariant-put_catches-loop-catch
invariant-put_catches-loop-catch l = l.all.items ≡ l.initial.all.items ++ catch_places (clauses_of (map clause_of (take l.catch-index l.catches)))

abbrev pub invariant-put_statements-loop-part : goal.invariant-put_statements-loop-part
invariant-put_statements-loop-part l = l.all.items ≡ l.initial.all.items ++ all_places (statements_of (map statement_of (take l.part-index l.parts)))
