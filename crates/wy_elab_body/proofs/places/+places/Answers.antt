-- The places of a `try`: those of its first block, of its clauses and of its last block behind its own.
use Rattle.std.proofs.Common.{ap, sym, ◌∙◌, ◌∷◌, ◌++◌, map}
use Rattle.wy_syntax.specs.View.{block_of, clause_of, clauses_of, statement_of}
use Rattle.wy_elab_body.specs.Places.{places, written, block_places, catch_places, last_places}
use Rattle.wy_elab_body.specs.Views.{last_seen}
use Rattle.wy_elab_body.proofs.PlaceArms.{four_more, of_try, on_ok}
use Rattle.wy_elab_body.proofs.places.+places.Goals as goal

pub put_statement-returns-in_ok-put_catches-in-Try : goal.put_statement-returns-in_ok-put_catches-in-Try
put_statement-returns-in_ok-put_catches-in-Try n c =
    let old = c.args.all.now.items in
    let main = block_places (block_of c.in-Try.main) in
    let last = last_places (last_seen c.in-Try.last) in
    on_ok c.put_last.result _ _ (λ k.
    four_more _ _ _ _ _ (written c.in-Try.token) main (catch_places (clauses_of (map clause_of c.as_slice-in-Try.result.now))) last c.in_ok-put_written-in-Try.ensures c.in_ok-put_block-in-Try.ensures c.in_ok-put_catches-in-Try.ensures k
    ∙ ap (λ cs. old ++ written c.in-Try.token ∷ (main ++ catch_places (clauses_of (map clause_of cs)) ++ last)) c.as_slice-in-Try.ensures.value
    ∙ ap (λ z. old ++ z) (sym (of_try c.in-Try.main c.in-Try.catches c.in-Try.last c.in-Try.token))
    ∙ ap (λ s. old ++ places (statement_of s)) (sym c.in-Try.is)) c.put_last.ensures
