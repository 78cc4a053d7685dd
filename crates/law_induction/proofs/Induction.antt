-- What is shown of each form from its parts is shown of all.
use Rattle.std.proofs.Common.{ℕ, Bool}
use Rattle.wy_kernel.specs.Form.{Expression, Const, Str, Read, Set, Upd, Un, Bin, Conv, Cast, InstanceOf, Cond, New, NewArray, Call, Cat, Lib, Place, Local, Static, Field, Elem, Part, absent, the, Row, none, more, Statement, Stmt, Act, Block, Eval, Declare, If, While, Do, For, Labelled, Jump, Return, Throw, Try, Print, Other, nothing, this, Statements, done, first, Catches, uncaught, catch}
use Rattle.law_induction.specs.Forms.{OfPart, OfRow, OfPlace, Parts, OfOther, OfStatements, OfCatches, ActParts}

module _ (E : Expression → Type 1) (step : (e : Expression) → Parts E e → E e) where
  mutual
    pub of_expression : (e : Expression) → E e
    of_expression (Const v) = step (Const v) tt
    of_expression (Str n) = step (Str n) tt
    of_expression (Read place) = step (Read place) (of_place place)
    of_expression (Set place value site) = step (Set place value site) (of_place place, of_expression value)
    of_expression (Upd place op value value_ty ty wide gives_old site) = step (Upd place op value value_ty ty wide gives_old site) (of_place place, of_part value)
    of_expression (Un op operand) = step (Un op operand) (of_expression operand)
    of_expression (Bin op left right site) = step (Bin op left right site) (of_expression left, of_expression right)
    of_expression (Conv to operand) = step (Conv to operand) (of_expression operand)
    of_expression (Cast ty operand site) = step (Cast ty operand site) (of_expression operand)
    of_expression (InstanceOf ty operand) = step (InstanceOf ty operand) (of_expression operand)
    of_expression (Cond form test if_true if_false site) = step (Cond form test if_true if_false site) (of_expression test, of_part if_true, of_part if_false)
    of_expression (New c constructor args site) = step (New c constructor args site) (of_row args)
    of_expression (NewArray ty dims elements sites site) = step (NewArray ty dims elements sites site) (of_row dims, of_row elements)
    of_expression (Call form m receiver ty args site) = step (Call form m receiver ty args site) (of_part receiver, of_row args)
    of_expression (Cat left right left_ty right_ty site) = step (Cat left right left_ty right_ty site) (of_expression left, of_expression right)
    of_expression (Lib op args site) = step (Lib op args site) (of_row args)

    of_place : (x : Place) → OfPlace E x
    of_place (Local i) = tt
    of_place (Static f site) = tt
    of_place (Field object f site) = of_expression object
    of_place (Elem array index site) = (of_expression array, of_expression index)

    of_part : (x : Part) → OfPart E x
    of_part absent = tt
    of_part (the e) = of_expression e

    of_row : (x : Row) → OfRow E x
    of_row none = tt
    of_row (more e rest) = (of_expression e, of_row rest)

  pub part_of : (x : Part) → OfPart E x
  part_of x = of_part x

  module _ (S : Statement → Type 1) (act : (number site : ℕ) (askable : Bool) (reach : ℕ) (x : Act) → ActParts E S x → S (Stmt number site askable reach x)) where
    mutual
      pub of_statement : (x : Statement) → S x
      of_statement (Stmt number site askable reach x) = of_act number site askable reach x

      of_act : (number site : ℕ) (askable : Bool) (reach : ℕ) (x : Act) → S (Stmt number site askable reach x)
      of_act number site askable reach (Block parts) = act number site askable reach (Block parts) (of_statements parts)
      of_act number site askable reach (Eval value) = act number site askable reach (Eval value) (of_expression value)
      of_act number site askable reach (Declare k) = act number site askable reach (Declare k) tt
      of_act number site askable reach (If test a b) = act number site askable reach (If test a b) (of_expression test, of_statement a, of_other b)
      of_act number site askable reach (While test body) = act number site askable reach (While test body) (of_expression test, of_statement body)
      of_act number site askable reach (Do body test) = act number site askable reach (Do body test) (of_statement body, of_expression test)
      of_act number site askable reach (For inits test updates body) = act number site askable reach (For inits test updates body) (of_statements inits, part_of test, of_statements updates, of_statement body)
      of_act number site askable reach (Labelled body) = act number site askable reach (Labelled body) (of_statement body)
      of_act number site askable reach (Jump target) = act number site askable reach (Jump target) tt
      of_act number site askable reach (Return value) = act number site askable reach (Return value) (part_of value)
      of_act number site askable reach (Throw value) = act number site askable reach (Throw value) (of_expression value)
      of_act number site askable reach (Try main catches last) = act number site askable reach (Try main catches last) (of_statement main, of_catches catches, of_other last)
      of_act number site askable reach (Print operand ty ends_line at) = act number site askable reach (Print operand ty ends_line at) (part_of operand)

      of_other : (x : Other) → OfOther S x
      of_other nothing = tt
      of_other (this s) = of_statement s

      of_statements : (x : Statements) → OfStatements S x
      of_statements done = tt
      of_statements (first s rest) = (of_statement s, of_statements rest)

      of_catches : (x : Catches) → OfCatches S x
      of_catches uncaught = tt
      of_catches (catch c k site block rest) = (of_statement block, of_catches rest)
