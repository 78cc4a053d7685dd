-- The sites of what decides in a program: the forms `&&`, `||` and `?:` have that of their sign, and tests of statements that of their word.
use Rattle.std.specs.Prelude.{◌≢◌, ◌≡◌, ℕ, true, List, [], ◌∷◌, ◌++◌}
use Rattle.std.specs.List.{Contains}
use Rattle.wy_kernel.specs.Form.{Expression, Const, Str, Read, Set, Upd, Un, Bin, Conv, Cast, InstanceOf, Cond, New, NewArray, Call, Cat, Lib, Place, Local, Static, Field, Elem, Part, absent, the, Row, none, more, Statement, Stmt, Act, Eval, If, While, Do, For, Return, Throw, Print}
use Rattle.wy_kernel.specs.Program.{Program}
use Rattle.wy_kernel.specs.Statements.{statements_of}
use Rattle.law_structure.specs.Numbers.{site_of}
use Rattle.law_structure.specs.Reaches.{is_testing}

abbrev mutual
  -- the sites of all forms `&&`, `||` and `?:` in an expression
  pub deciding : Expression → List ℕ
  deciding (Const value) = []
  deciding (Str text) = []
  deciding (Read place) = deciding_in_place place
  deciding (Set place value site) = deciding_in_place place ++ deciding value
  deciding (Upd place op value value_ty ty wide gives_old site) = deciding_in_place place ++ deciding_in_part value
  deciding (Un op operand) = deciding operand
  deciding (Bin op left right site) = deciding left ++ deciding right
  deciding (Conv to operand) = deciding operand
  deciding (Cast ty operand site) = deciding operand
  deciding (InstanceOf ty operand) = deciding operand
  deciding (Cond form test if_true if_false site) = site ∷ (deciding test ++ (deciding_in_part if_true ++ deciding_in_part if_false))
  deciding (New class constructor args site) = deciding_in_row args
  deciding (NewArray ty dims elements element_sites site) = deciding_in_row dims ++ deciding_in_row elements
  deciding (Call form method receiver ty args site) = deciding_in_part receiver ++ deciding_in_row args
  deciding (Cat left right left_ty right_ty site) = deciding left ++ deciding right
  deciding (Lib op args site) = deciding_in_row args

  pub deciding_in_place : Place → List ℕ
  deciding_in_place (Local index) = []
  deciding_in_place (Static field site) = []
  deciding_in_place (Field object field site) = deciding object
  deciding_in_place (Elem array index site) = deciding array ++ deciding index

  pub deciding_in_part : Part → List ℕ
  deciding_in_part absent = []
  deciding_in_part (the e) = deciding e

  pub deciding_in_row : Row → List ℕ
  deciding_in_row none = []
  deciding_in_row (more e rest) = deciding e ++ deciding_in_row rest

-- those in the expressions of a statement, without the statements within it
abbrev pub deciding_in_act : Act → List ℕ
deciding_in_act (Eval value) = deciding value
deciding_in_act (If test if_true if_false) = deciding test
deciding_in_act (While test inner) = deciding test
deciding_in_act (Do inner test) = deciding test
deciding_in_act (For inits test updates inner) = deciding_in_part test
deciding_in_act (Return value) = deciding_in_part value
deciding_in_act (Throw value) = deciding value
deciding_in_act (Print operand ty ends_line site) = deciding_in_part operand
deciding_in_act _ = []

abbrev pub deciding_in_statement : Statement → List ℕ
deciding_in_statement (Stmt number site askable reach act) = deciding_in_act act

-- no form `&&`, `||` or `?:` has the site of a statement with a test
abbrev pub TestsStandApart : Program → Type 0
TestsStandApart p = (s t : Statement) (site : ℕ) → Contains (statements_of p) s → Contains (statements_of p) t →
    is_testing s ≡ true → Contains (deciding_in_statement t) site → site_of s ≢ site
