-- The abstract syntax as what it says, without where it lies in memory (JLS 4.3, 6.2, 8, 9, 14, 15). Each form keeps the number of its operator,
-- its name or its first token; a call that of its `(`.
use Rattle.std.specs.Prelude.{ℕ, Bool, List, Option}
use Rattle.wy_kernel.specs.declared.operator.Primitive.{Primitive}
use Rattle.wy_kernel.specs.declared.operator.UnOp.{UnOp}
use Rattle.wy_kernel.specs.declared.operator.BinOp.{BinOp}
use Rattle.wy_tree.specs.Seen.{Tok}
use Rattle.wy_syntax.specs.declared.declaration.Modifier.{Modifier}

-- ---- names and types

pub record Named : Type 0 where
  pub name : List ℕ
  pub token : ℕ

-- what a type begins with: a primitive type, or the name of a class
pub data Base : Type 0 where
  Basic : Primitive → Base
  Class : List ℕ → Base

pub record WrittenType : Type 0 where
  pub base : Base
  pub token : ℕ
  pub brackets : ℕ

-- ---- expressions

mutual
  pub data Expression : Type 0 where
    Literal : (value : Tok) (token : ℕ) → Expression
    Name : (name : List ℕ) (token : ℕ) → Expression
    This : (token : ℕ) → Expression
    Group : (inner : Expression) (token : ℕ) → Expression
    Invoke : (name : List ℕ) (args : Row) (token : ℕ) → Expression
    Field : (object : Expression) (name : List ℕ) (token : ℕ) → Expression
    InvokeOn : (object : Expression) (name : List ℕ) (args : Row) (token : ℕ) → Expression
    SuperField : (name : List ℕ) (token : ℕ) → Expression
    SuperInvoke : (name : List ℕ) (args : Row) (token : ℕ) → Expression
    Element : (array index : Expression) (token : ℕ) → Expression
    NewObject : (class : Named) (args : Row) (token : ℕ) → Expression
    -- so many pairs stand behind the sizes
    NewArray : (base : Base) (base_token : ℕ) (sizes : Row) (brackets token : ℕ) → Expression
    NewList : (base : Base) (base_token brackets : ℕ) (elements : Elements) (brace token : ℕ) → Expression
    Unary : (op : UnOp) (operand : Expression) (token : ℕ) → Expression
    Step : (is_before is_up : Bool) (operand : Expression) (token : ℕ) → Expression
    Binary : (op : BinOp) (left right : Expression) (token : ℕ) → Expression
    Both : (left right : Expression) (token : ℕ) → Expression
    Either : (left right : Expression) (token : ℕ) → Expression
    InstanceOf : (left : Expression) (ty : WrittenType) (token : ℕ) → Expression
    Cast : (ty : WrittenType) (operand : Expression) (token : ℕ) → Expression
    Choice : (test main other : Expression) (token : ℕ) → Expression
    Assign : (left value : Expression) (token : ℕ) → Expression
    Update : (op : BinOp) (left value : Expression) (token : ℕ) → Expression
    -- what is none
    Wrong : Expression

  -- expressions in order
  pub data Row : Type 0 where
    none : Row
    more : Expression → Row → Row

  -- what a variable or an element is given first
  pub data Initial : Type 0 where
    Value : Expression → Initial
    Listed : (elements : Elements) (brace : ℕ) → Initial

  -- elements in braces, each with the number of the token before it
  pub data Elements : Type 0 where
    no_more : Elements
    element : (before : ℕ) (first : Initial) (rest : Elements) → Elements

-- ---- statements

pub record Declarator : Type 0 where
  pub name : Named
  pub brackets : ℕ
  pub initial : Option Initial

-- an expression that is a statement, and its first token
pub record Effect : Type 0 where
  pub value : Expression
  pub token : ℕ

pub data ForInit : Type 0 where
  Nothing : ForInit
  Declared : (is_final : Bool) (ty : WrittenType) (declarators : List Declarator) → ForInit
  Effects : List Effect → ForInit

mutual
  pub data Statement : Type 0 where
    Block : Braced → Statement
    Empty : (token : ℕ) → Statement
    Declare : (is_final : Bool) (ty : WrittenType) (declarators : List Declarator) → Statement
    Perform : Effect → Statement
    If : (test : Expression) (main : Statement) (other : Other) (token : ℕ) → Statement
    While : (test : Expression) (body : Statement) (token : ℕ) → Statement
    Do : (body : Statement) (test : Expression) (token : ℕ) → Statement
    For : (init : ForInit) (test : Option Expression) (updates : List Effect) (body : Statement) (token : ℕ) → Statement
    Labelled : (name : Named) (body : Statement) → Statement
    Break : (label : Option Named) (token : ℕ) → Statement
    Continue : (label : Option Named) (token : ℕ) → Statement
    Return : (value : Option Expression) (token : ℕ) → Statement
    Throw : (value : Expression) (token : ℕ) → Statement
    Try : (main : Braced) (catches : Catches) (last : Last) (token : ℕ) → Statement
    -- what is none
    Unknown : Statement

  -- statements between braces, with the numbers of the braces
  pub data Braced : Type 0 where
    braced : (brace : ℕ) (parts : Statements) (end : ℕ) → Braced

  pub data Statements : Type 0 where
    done : Statements
    first : Statement → Statements → Statements

  -- a statement that may be absent
  pub data Other : Type 0 where
    absent : Other
    present : Statement → Other

  -- a block that may be absent
  pub data Last : Type 0 where
    nowhere : Last
    finally : Braced → Last

  pub data Catches : Type 0 where
    uncaught : Catches
    catch : (is_final : Bool) (class name : Named) (block : Braced) (rest : Catches) → Catches

-- ---- declarations

pub record Placed : Type 0 where
  pub modifier : Modifier
  pub token : ℕ

pub record Parameter : Type 0 where
  pub is_final : Bool
  pub ty : WrittenType
  pub name : Named
  pub brackets : ℕ

-- `this(..)` or `super(..)` at the head of a constructor
pub record OwnCall : Type 0 where
  pub is_super : Bool
  pub args : Row
  pub paren : ℕ
  pub token : ℕ

-- what stands before the body of a method or a constructor
pub record Header : Type 0 where
  pub modifiers : List Placed
  pub name : Named
  pub params : List Parameter
  pub throws : List Named

pub data Member : Type 0 where
  Nothing : Member
  Initializer : (is_static : Bool) (block : Braced) → Member
  Fields : (modifiers : List Placed) (ty : WrittenType) (declarators : List Declarator) → Member
  -- no result is void
  Method : (header : Header) (result : Option WrittenType) (body : Option Braced) → Member
  Constructor : (header : Header) (own_call : Option OwnCall) (brace : ℕ) (parts : Statements) (end : ℕ) → Member
  -- what is none
  Unknown : Member

-- a class or an interface; interfaces are those that it implements, or extends
pub record ClassSyntax : Type 0 where
  pub is_interface : Bool
  pub modifiers : List Placed
  pub name : Named
  pub above : Option Named
  pub interfaces : List Named
  pub members : List Member
  pub end : ℕ

pub data Declaration : Type 0 where
  Nothing : Declaration
  Declared : ClassSyntax → Declaration
  -- what is none
  Unknown : Declaration
