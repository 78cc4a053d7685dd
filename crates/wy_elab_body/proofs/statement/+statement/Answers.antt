-- Each part of a block makes its statements, or is refused.
use Rattle.std.proofs.Common.{◌≡◌, ap, sym, ◌∙◌, subst, ℕ, ◌+◌, ◌*◌, ◌<◌, List, map, Option, arith}
use Rattle.std.specs.declared.alloc.Global.{Global}
use Rattle.std.specs.declared.vec.Vec.{Vec}
use Rattle.std.proofs.lemmas.Result.{err_from_is_err_and}
use Rattle.wy_kernel.specs.View.{statement}
use Rattle.wy_syntax.specs.Syntax as source
use Rattle.wy_syntax.specs.declared.statement.Statement.{Statement}
use Rattle.wy_syntax.specs.declared.statement.Statement.TheVariants as form
use Rattle.wy_syntax.specs.declared.statement.Catch.{Catch}
use Rattle.wy_syntax.specs.declared.statement.Block.{Block}
use Rattle.wy_syntax.specs.View.{block_of, clause_of, clauses_of, statement_of}
use Rattle.wy_elab_body.specs.Statements.{statement as plain_statement}
use Rattle.wy_elab_body.specs.Views.{MakesTo, around_of, last_seen, making_of}
use Rattle.wy_syntax.proofs.StatementViews.{view_try}
use Rattle.wy_elab_body.proofs.Sizes.{size, size_braced, size_catches, size_last}
use Rattle.wy_elab_body.proofs.Rows.{goes_on, stops, ends}
use Rattle.wy_elab_body.proofs.Clauses as clauses
use Rattle.wy_elab_body.proofs.statement.+statement.Goals as goal

pub statements-returns-in_err-more : goal.statements-returns-in_err-more
statements-returns-in_err-more n c = λ w s.
    let p = err_from_is_err_and c.from_residual.result c.from_residual.ensures.1 in
    rw (p.1, p.2) (stops w (around_of c.args.around.now) _ c.args.parts.now c.loop-part.part-index _ _ _ _ c.loop-part-test.true c.part-item.is (c.in_err-more.ensures w s) (c.loop-part.invariant w s))

pub statements-loop-part-preserved : goal.statements-loop-part-preserved
statements-loop-part-preserved n c = λ w s.
    goes_on w (around_of c.args.around.now) _ _ _ c.args.parts.now c.loop-part.part-index _ _ _ _ c.loop-part-test.true c.part-item.is (c.in_ok-more.ensures w s) c.in_ok-append.ensures.items (c.loop-part.invariant w s)

pub statements-returns : goal.statements-returns
statements-returns n c = λ w s. ends w (around_of c.args.around.now) _ c.args.parts.now c.loop-part.part-index _ _ c.loop-part-test.false (c.loop-part.invariant w s)

pub clauses-returns-in_err-made : goal.clauses-returns-in_err-made
clauses-returns-in_err-made n c = λ w s.
    let p = err_from_is_err_and c.from_residual.result c.from_residual.ensures.1 in
    rw (p.1, p.2) (clauses.stops w (around_of c.args.around.now) _ c.args.catches.now c.loop-catch.catch-index _ _ _ _ c.loop-catch-test.true c.catch-item.is (c.in_err-made.ensures.form w s) (c.loop-catch.invariant w s))

pub clauses-loop-catch-preserved : goal.clauses-loop-catch-preserved
clauses-loop-catch-preserved n c = λ w s.
    clauses.goes_on w (around_of c.args.around.now) _ _ c.args.catches.now c.loop-catch.catch-index _ _ _ _ _ c.loop-catch-test.true c.catch-item.is (c.in_ok-made.ensures.form w s) c.in_ok-made.ensures.site c.in_ok-push.ensures.items (c.loop-catch.invariant w s)

pub clauses-returns : goal.clauses-returns
clauses-returns n c = λ w s. clauses.ends w (around_of c.args.around.now) _ c.args.catches.now c.loop-catch.catch-index _ _ c.loop-catch-test.false (c.loop-catch.invariant w s)

-- a `try` as it lies in memory, with its clauses as a slice
try_seen : (main : Block) (catches : Vec Catch Global) (slice : List Catch) (last : Option Block) (token : ℕ) (s : Statement) → s ≡ form.Try main catches last token → slice ≡ catches.items →
    statement_of s ≡ source.Try (block_of main) (clauses_of (map clause_of slice)) (last_seen last) token
try_seen main catches slice last token s is same =
    ap statement_of is ∙ view_try main catches last token ∙ ap (λ cs. source.Try (block_of main) (clauses_of (map clause_of cs)) (last_seen last) token) (sym same)

try_size : (main : Block) (slice : List Catch) (last : Option Block) (token : ℕ) (s : Statement) →
    statement_of s ≡ source.Try (block_of main) (clauses_of (map clause_of slice)) (last_seen last) token →
    2 * (size_braced (block_of main) + size_catches (clauses_of (map clause_of slice)) + size_last (last_seen last)) + 2 < 2 * size (statement_of s)
unfolding size
try_size main slice last token s is = let e = ap size is in omega (arith, e)

pub statement-tried-requires : goal.statement-tried-requires
statement-tried-requires n c =
    let less = try_size c.in-Try.main c.as_slice-in-Try.result.now c.in-Try.last c.in-Try.token c.args.s.now
    (try_seen c.in-Try.main c.in-Try.catches c.as_slice-in-Try.result.now c.in-Try.last c.in-Try.token c.args.s.now c.in-Try.is c.as_slice-in-Try.ensures.value) in
    (omega (arith, less, c.decreases), tt)

pub statement-returns-in-Try : goal.statement-returns-in-Try
statement-returns-in-Try n c = λ w s.
    let given : source.Statement → Type 0 = λ z.
    MakesTo statement c.tried.result (making_of c.tried.new.making c.tried.new.texts) (plain_statement w (around_of c.args.around.now) z (making_of c.args.making.now c.args.texts.now)) in
    let is = try_seen c.in-Try.main c.in-Try.catches c.as_slice-in-Try.result.now c.in-Try.last c.in-Try.token c.args.s.now c.in-Try.is c.as_slice-in-Try.ensures.value in
    subst given (sym is) (c.tried.ensures w s)
