-- What holds of each site in a part holds wherever it is asked less of a site.
use Rattle.std.proofs.Common.{ℕ}
use Rattle.std.proofs.lemmas.List.Elements.{All-weaker}
use Rattle.wy_kernel.specs.Form.{Expression, Const, Str, Read, Set, Upd, Un, Bin, Conv, Cast, InstanceOf, Cond, New, NewArray, Call, Cat, Lib, Place, Local, Static, Field, Elem, Part, absent, the, Row, none, more, Statement, Stmt, Act, Eval, If, While, Do, For, Return, Throw, Try, Print, Catches, uncaught, catch}
use Rattle.wy_kernel.specs.Program.{Body}
use Rattle.wy_kernel.specs.Program as part
use Rattle.wy_kernel.specs.Statements.{statements}
use Rattle.wy_typing.specs.Sites.{Sited, PlaceSited, PartSited, RowSited, StatementSited, ActSited, CatchesSited, BodySited}
use Rattle.wy_typing.proofs.Listed.{weaker}

module _ (P Q : ℕ → Type 0) (so : (n : ℕ) → P n → Q n) where
  mutual
    expression_so : (e : Expression) → Sited P e → Sited Q e
    expression_so (Const value) h = tt
    expression_so (Str text) h = tt
    expression_so (Read place) h = place_so place h
    expression_so (Set place value site) h = (so site h.0, place_so place h.1, expression_so value h.2)
    expression_so (Upd place op value value_ty ty wide gives_old site) h = (so site h.0, place_so place h.1, part_so value h.2)
    expression_so (Un op operand) h = expression_so operand h
    expression_so (Bin op left right site) h = (so site h.0, expression_so left h.1, expression_so right h.2)
    expression_so (Conv to operand) h = expression_so operand h
    expression_so (Cast ty operand site) h = (so site h.0, expression_so operand h.1)
    expression_so (InstanceOf ty operand) h = expression_so operand h
    expression_so (Cond form test if_true if_false site) h = (so site h.0, expression_so test h.1, part_so if_true h.2, part_so if_false h.3)
    expression_so (New class constructor args site) h = (so site h.0, row_so args h.1)
    expression_so (NewArray ty dims elements element_sites site) h = (so site h.0, row_so dims h.1, row_so elements h.2, weaker P Q so element_sites h.3)
    expression_so (Call form method receiver ty args site) h = (so site h.0, part_so receiver h.1, row_so args h.2)
    expression_so (Cat left right left_ty right_ty site) h = (so site h.0, expression_so left h.1, expression_so right h.2)
    expression_so (Lib op args site) h = (so site h.0, row_so args h.1)

    place_so : (p : Place) → PlaceSited P p → PlaceSited Q p
    place_so (Local index) h = tt
    place_so (Static field site) h = so site h
    place_so (Field object field site) h = (so site h.0, expression_so object h.1)
    place_so (Elem array index site) h = (so site h.0, expression_so array h.1, expression_so index h.2)

    part_so : (x : Part) → PartSited P x → PartSited Q x
    part_so absent h = tt
    part_so (the e) h = expression_so e h

    row_so : (r : Row) → RowSited P r → RowSited Q r
    row_so none h = tt
    row_so (more e rest) h = (expression_so e h.0, row_so rest h.1)

  catches_so : (cs : Catches) → CatchesSited P cs → CatchesSited Q cs
  catches_so uncaught h = tt
  catches_so (catch class local site block rest) h = (so site h.0, catches_so rest h.1)

  act_so : (a : Act) → ActSited P a → ActSited Q a
  act_so (Eval value) h = expression_so value h
  act_so (If test x y) h = expression_so test h
  act_so (While test body) h = expression_so test h
  act_so (Do body test) h = expression_so test h
  act_so (For inits test updates body) h = part_so test h
  act_so (Return value) h = part_so value h
  act_so (Throw value) h = expression_so value h
  act_so (Try main catches last) h = catches_so catches h
  act_so (Print operand ty ends_line site) h = (so site h.0, part_so operand h.1)
  act_so _ h = h

  statement_so : (s : Statement) → StatementSited P s → StatementSited Q s
  statement_so (Stmt number site askable reach act) h = (so site h.0, act_so act h.1)

  pub body_so : (b : Body) → BodySited P b → BodySited Q b
  body_so b h = record {
    block = weaker (StatementSited P) (StatementSited Q) statement_so (statements b.block) h.block;
    locals = All-weaker (λ (l : part.Local). P l.site) (λ (l : part.Local). Q l.site) (λ l i. so l.site i) b.locals h.locals;
    end = so b.end h.end;
  }
