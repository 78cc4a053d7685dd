-- That something holds of an expression and of each expression that stands in it, to any depth.
use Rattle.wy_syntax.specs.Syntax.{Expression, Literal, Name, This, Group, Invoke, Field, InvokeOn, SuperField, SuperInvoke, Element, NewObject, NewArray, NewList, Unary, Step, Binary, Both, Either, InstanceOf, Cast, Choice, Assign, Update, Wrong, Row, none, more, Initial, Value, Listed, Elements, no_more, element}

abbrev mutual
  pub Throughout : (Expression → Type 0) → Expression → Type 0
  Throughout P (Literal value token) = P (Literal value token)
  Throughout P (Name name token) = P (Name name token)
  Throughout P (This token) = P (This token)
  Throughout P (Group inner token) = P (Group inner token) × Throughout P inner
  Throughout P (Invoke name args token) = P (Invoke name args token) × ThroughoutRow P args
  Throughout P (Field object name token) = P (Field object name token) × Throughout P object
  Throughout P (InvokeOn object name args token) = P (InvokeOn object name args token) × Throughout P object × ThroughoutRow P args
  Throughout P (SuperField name token) = P (SuperField name token)
  Throughout P (SuperInvoke name args token) = P (SuperInvoke name args token) × ThroughoutRow P args
  Throughout P (Element array index token) = P (Element array index token) × Throughout P array × Throughout P index
  Throughout P (NewObject class args token) = P (NewObject class args token) × ThroughoutRow P args
  Throughout P (NewArray base base_token sizes brackets token) = P (NewArray base base_token sizes brackets token) × ThroughoutRow P sizes
  Throughout P (NewList base base_token brackets elements brace token) = P (NewList base base_token brackets elements brace token) × ThroughoutElements P elements
  Throughout P (Unary op operand token) = P (Unary op operand token) × Throughout P operand
  Throughout P (Step is_before is_up operand token) = P (Step is_before is_up operand token) × Throughout P operand
  Throughout P (Binary op left right token) = P (Binary op left right token) × Throughout P left × Throughout P right
  Throughout P (Both left right token) = P (Both left right token) × Throughout P left × Throughout P right
  Throughout P (Either left right token) = P (Either left right token) × Throughout P left × Throughout P right
  Throughout P (InstanceOf left ty token) = P (InstanceOf left ty token) × Throughout P left
  Throughout P (Cast ty operand token) = P (Cast ty operand token) × Throughout P operand
  Throughout P (Choice test main other token) = P (Choice test main other token) × Throughout P test × Throughout P main × Throughout P other
  Throughout P (Assign left value token) = P (Assign left value token) × Throughout P left × Throughout P value
  Throughout P (Update op left value token) = P (Update op left value token) × Throughout P left × Throughout P value
  Throughout P Wrong = P Wrong

  pub ThroughoutRow : (Expression → Type 0) → Row → Type 0
  ThroughoutRow P none = Unit {0}
  ThroughoutRow P (more e rest) = Throughout P e × ThroughoutRow P rest

  pub ThroughoutInitial : (Expression → Type 0) → Initial → Type 0
  ThroughoutInitial P (Value e) = Throughout P e
  ThroughoutInitial P (Listed elements brace) = ThroughoutElements P elements

  pub ThroughoutElements : (Expression → Type 0) → Elements → Type 0
  ThroughoutElements P no_more = Unit {0}
  ThroughoutElements P (element before first rest) = ThroughoutInitial P first × ThroughoutElements P rest
