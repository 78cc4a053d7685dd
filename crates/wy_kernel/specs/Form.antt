-- Kernel forms as what they say, without where they lie in memory (JLS 14, 15).
use Rattle.std.specs.Prelude.{ℕ, ℤ, Bool, List, Option}
use Rattle.wy_kernel.specs.declared.operator.Primitive.{Primitive}
use Rattle.wy_kernel.specs.declared.operator.UnOp.{UnOp}
use Rattle.wy_kernel.specs.declared.operator.BinOp.{BinOp}
use Rattle.wy_kernel.specs.declared.types.Ty.{Ty}
use Rattle.wy_kernel.specs.declared.form.CondForm.{CondForm}
use Rattle.wy_kernel.specs.declared.form.CallForm.{CallForm}
use Rattle.wy_kernel.specs.declared.form.LibOp.{LibOp}

-- a constant that stands in a form
pub data Constant : Type 0 where
  Null : Constant
  Truth : Bool → Constant
  Byte : ℤ → Constant
  Short : ℤ → Constant
  Char : ℕ → Constant
  Int : ℤ → Constant
  Long : ℤ → Constant

mutual
  pub data Expression : Type 0 where
    Const : (value : Constant) → Expression
    Str : (text : ℕ) → Expression
    Read : (place : Place) → Expression
    Set : (place : Place) (value : Expression) (site : ℕ) → Expression
    Upd : (place : Place) (op : BinOp) (value : Part) (value_ty ty : Ty) (wide : Option Primitive) (gives_old : Bool) (site : ℕ) → Expression
    Un : (op : UnOp) (operand : Expression) → Expression
    Bin : (op : BinOp) (left right : Expression) (site : ℕ) → Expression
    Conv : (to : Primitive) (operand : Expression) → Expression
    Cast : (ty : Ty) (operand : Expression) (site : ℕ) → Expression
    InstanceOf : (ty : Ty) (operand : Expression) → Expression
    Cond : (form : CondForm) (test : Expression) (if_true if_false : Part) (site : ℕ) → Expression
    New : (class : ℕ) (constructor : Option ℕ) (args : Row) (site : ℕ) → Expression
    NewArray : (ty : Ty) (dims elements : Row) (element_sites : List ℕ) (site : ℕ) → Expression
    Call : (form : CallForm) (method : ℕ) (receiver : Part) (ty : Ty) (args : Row) (site : ℕ) → Expression
    Cat : (left right : Expression) (left_ty right_ty : Ty) (site : ℕ) → Expression
    Lib : (op : LibOp) (args : Row) (site : ℕ) → Expression

  pub data Place : Type 0 where
    Local : (index : ℕ) → Place
    Static : (field site : ℕ) → Place
    Field : (object : Expression) (field site : ℕ) → Place
    Elem : (array index : Expression) (site : ℕ) → Place

  -- a part that may be absent
  pub data Part : Type 0 where
    absent : Part
    the : Expression → Part

  -- parts in order
  pub data Row : Type 0 where
    none : Row
    more : Expression → Row → Row

mutual
  -- reach is the number of the statement whose end ends the reach of its tests
  pub data Statement : Type 0 where
    Stmt : (number site : ℕ) (askable : Bool) (reach : ℕ) (form : Act) → Statement

  -- what a statement does
  pub data Act : Type 0 where
    Block : (parts : Statements) → Act
    Eval : (value : Expression) → Act
    Declare : (local : ℕ) → Act
    If : (test : Expression) (if_true : Statement) (if_false : Other) → Act
    While : (test : Expression) (body : Statement) → Act
    Do : (body : Statement) (test : Expression) → Act
    For : (inits : Statements) (test : Part) (updates : Statements) (body : Statement) → Act
    Labelled : (body : Statement) → Act
    Jump : (target : ℕ) → Act
    Return : (value : Part) → Act
    Throw : (value : Expression) → Act
    Try : (first : Statement) (catches : Catches) (last : Other) → Act
    Print : (operand : Part) (ty : Ty) (ends_line : Bool) (site : ℕ) → Act

  -- a statement that may be absent
  pub data Other : Type 0 where
    nothing : Other
    this : Statement → Other

  -- one after another
  pub data Statements : Type 0 where
    done : Statements
    first : Statement → Statements → Statements

  -- the clauses of a `try`, in order
  pub data Catches : Type 0 where
    uncaught : Catches
    catch : (class local site : ℕ) (block : Statement) (rest : Catches) → Catches
