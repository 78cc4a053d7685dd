-- The sizes of source statements, which fall from a statement to those within it.
use Rattle.std.proofs.Common.{◌≡◌, ap, ℕ, zero, suc, ◌+◌, ◌<◌, List, [], ◌∷◌, map, length, get_or, refl, arith, Option, Some}
use Rattle.std.specs.declared.alloc.Global.{Global}
use Rattle.std.specs.declared.boxed.Box.{Box}
use Rattle.std.specs.declared.vec.Vec.{Vec}
use Rattle.wy_syntax.specs.declared.name.Named.{Named}
use Rattle.wy_syntax.specs.declared.expression.Expression.{Expression}
use Rattle.wy_syntax.specs.declared.statement.Effect.{Effect}
use Rattle.wy_syntax.specs.declared.statement.ForInit.{ForInit}
use Rattle.wy_syntax.specs.declared.statement.Statement.{Statement}
use Rattle.wy_syntax.specs.declared.statement.Catch.{Catch}
use Rattle.wy_syntax.specs.declared.statement.Block.{Block}
use Rattle.wy_syntax.specs.declared.statement.Statement.TheVariants as form
use Rattle.wy_syntax.specs.Syntax as plain
use Rattle.wy_syntax.specs.View.{other_body_of, statement_of, block_of, clause_of, statements_of, clauses_of}
use Rattle.wy_elab_body.specs.Views.{last_seen}
use Rattle.wy_syntax.proofs.StatementViews.{view_braced, view_clause, view_block, view_if, view_while, view_do, view_for, view_labelled, view_try}

unfoldable mutual
  pub size : plain.Statement → ℕ
  size (plain.Statement.Block b) = suc (size_braced b)
  size (plain.Empty token) = 1
  size (plain.Declare is_final ty all) = 1
  size (plain.Perform e) = 1
  size (plain.If test main last token) = suc (size main + size_other last)
  size (plain.While test body token) = suc (size body)
  size (plain.Do body test token) = suc (size body)
  size (plain.For init test updates body token) = suc (size body)
  size (plain.Labelled name body) = suc (size body)
  size (plain.Break label token) = 1
  size (plain.Continue label token) = 1
  size (plain.Return value token) = 1
  size (plain.Throw value token) = 1
  size (plain.Try main catches last token) = suc (suc (size_braced main + size_catches catches + size_last last))
  size plain.Statement.Unknown = 1

  pub size_braced : plain.Braced → ℕ
  size_braced (plain.braced brace parts end) = suc (size_all parts)

  pub size_all : plain.Statements → ℕ
  size_all plain.done = 0
  size_all (plain.first s rest) = suc (size s + size_all rest)

  pub size_other : plain.Other → ℕ
  size_other plain.absent = 0
  size_other (plain.present s) = suc (size s)

  pub size_last : plain.Last → ℕ
  size_last plain.nowhere = 0
  size_last (plain.finally b) = suc (size_braced b)

  pub size_catches : plain.Catches → ℕ
  size_catches plain.uncaught = 0
  size_catches (plain.catch is_final class name block rest) = suc (size_braced block + size_catches rest)

pub of_block : (block : Block) → size (statement_of (form.Block block)) ≡ suc (size_braced (block_of block))
unfolding size
of_block block = ap size (view_block block)

pub of_if : (test : Expression) (main : Box Statement Global) (last : Option (Box Statement Global)) (token : ℕ) → size (statement_of (form.If test main last token)) ≡ suc (size (statement_of main.value) + size_other (other_body_of last))
unfolding size
of_if test main last token = ap size (view_if test main last token)

pub of_while : (test : Expression) (body : Box Statement Global) (token : ℕ) → size (statement_of (form.While test body token)) ≡ suc (size (statement_of body.value))
unfolding size
of_while test body token = ap size (view_while test body token)

pub of_do : (body : Box Statement Global) (test : Expression) (token : ℕ) → size (statement_of (form.Do body test token)) ≡ suc (size (statement_of body.value))
unfolding size
of_do body test token = ap size (view_do body test token)

pub of_for : (init : ForInit) (test : Option Expression) (updates : Vec Effect Global) (body : Box Statement Global) (token : ℕ) → size (statement_of (form.For init test updates body token)) ≡ suc (size (statement_of body.value))
unfolding size
of_for init test updates body token = ap size (view_for init test updates body token)

pub of_labelled : (name : Named) (body : Box Statement Global) → size (statement_of (form.Labelled name body)) ≡ suc (size (statement_of body.value))
unfolding size
of_labelled name body = ap size (view_labelled name body)

pub of_try : (main : Block) (catches : Vec Catch Global) (last : Option Block) (token : ℕ) → size (statement_of (form.Try main catches last token)) ≡ suc (suc (size_braced (block_of main) + size_catches (clauses_of (map clause_of catches.items)) + size_last (last_seen last)))
unfolding size
of_try main catches last token = ap size (view_try main catches last token)

pub of_braces : (b : Block) → size_braced (block_of b) ≡ suc (size_all (statements_of (map statement_of b.parts.items)))
unfolding size
of_braces b = ap size_braced (view_braced b)

pub of_other : (s : Box Statement Global) → size_other (other_body_of (Some s)) ≡ suc (size (statement_of s.value))
unfolding size
of_other s = refl

pub of_last : (b : Block) → size_last (last_seen (Some b)) ≡ suc (size_braced (block_of b))
unfolding size
of_last b = refl

pub of_part : (xs : List Statement) (i : ℕ) (x : Statement) → i < length xs → x ≡ get_or xs i x → size (statement_of x) < size_all (statements_of (map statement_of xs))
unfolding size
of_part [] i x less is = absurd (omega (arith, less))
of_part (y ∷ xs) zero x less is =
    let e : size (statement_of x) ≡ size (statement_of y) = ap (λ z. size (statement_of z)) is in
    omega (arith, e)
of_part (y ∷ xs) (suc i) x less is = let h = of_part xs i x (omega (arith, less)) is in omega (arith, h)

of_clause : (c : Catch) (rest : plain.Catches) → size_catches (clause_of c rest) ≡ suc (size_braced (block_of c.block) + size_catches rest)
unfolding size
of_clause c rest = ap size_catches (view_clause c rest)

pub of_catch : (xs : List Catch) (i : ℕ) (x : Catch) → i < length xs → x ≡ get_or xs i x → size_braced (block_of x.block) < size_catches (clauses_of (map clause_of xs))
of_catch [] i x less is = absurd (omega (arith, less))
of_catch (y ∷ xs) zero x less is =
    let e : size_braced (block_of x.block) ≡ size_braced (block_of y.block) = ap (λ z. size_braced (block_of z.block)) is in
    omega (arith, e, of_clause y (clauses_of (map clause_of xs)))
of_catch (y ∷ xs) (suc i) x less is = let h = of_catch xs i x (omega (arith, less)) is in omega (arith, h, of_clause y (clauses_of (map clause_of xs)))
