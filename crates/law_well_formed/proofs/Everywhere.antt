-- What holds throughout an expression where something that is no weaker does.
use Rattle.wy_syntax.specs.Syntax.{Expression, Literal, Name, This, Group, Invoke, Field, InvokeOn, SuperField, SuperInvoke, Element, NewObject, NewArray, NewList, Unary, Step, Binary, Both, Either, InstanceOf, Cast, Choice, Assign, Update, Wrong, Row, none, more, Initial, Value, Listed, Elements, no_more, element}
use Rattle.law_typed.specs.Throughout.{Throughout, ThroughoutRow, ThroughoutInitial, ThroughoutElements}

module _ (P Q : Expression → Type 0) (f : (e : Expression) → P e → Q e) where
  mutual
    pub everywhere : (e : Expression) → Throughout P e → Throughout Q e
    everywhere (Literal value token) h = f (Literal value token) h
    everywhere (Name name token) h = f (Name name token) h
    everywhere (This token) h = f (This token) h
    everywhere (Group inner token) h = (f (Group inner token) h.0, everywhere inner h.1)
    everywhere (Invoke name args token) h = (f (Invoke name args token) h.0, everywhere_row args h.1)
    everywhere (Field object name token) h = (f (Field object name token) h.0, everywhere object h.1)
    everywhere (InvokeOn object name args token) h = (f (InvokeOn object name args token) h.0, everywhere object h.1, everywhere_row args h.2)
    everywhere (SuperField name token) h = f (SuperField name token) h
    everywhere (SuperInvoke name args token) h = (f (SuperInvoke name args token) h.0, everywhere_row args h.1)
    everywhere (Element array index token) h = (f (Element array index token) h.0, everywhere array h.1, everywhere index h.2)
    everywhere (NewObject class args token) h = (f (NewObject class args token) h.0, everywhere_row args h.1)
    everywhere (NewArray base base_token sizes brackets token) h = (f (NewArray base base_token sizes brackets token) h.0, everywhere_row sizes h.1)
    everywhere (NewList base base_token brackets elements brace token) h = (f (NewList base base_token brackets elements brace token) h.0, everywhere_elements elements h.1)
    everywhere (Unary op operand token) h = (f (Unary op operand token) h.0, everywhere operand h.1)
    everywhere (Step is_before is_up operand token) h = (f (Step is_before is_up operand token) h.0, everywhere operand h.1)
    everywhere (Binary op left right token) h = (f (Binary op left right token) h.0, everywhere left h.1, everywhere right h.2)
    everywhere (Both left right token) h = (f (Both left right token) h.0, everywhere left h.1, everywhere right h.2)
    everywhere (Either left right token) h = (f (Either left right token) h.0, everywhere left h.1, everywhere right h.2)
    everywhere (InstanceOf left ty token) h = (f (InstanceOf left ty token) h.0, everywhere left h.1)
    everywhere (Cast ty operand token) h = (f (Cast ty operand token) h.0, everywhere operand h.1)
    everywhere (Choice test main other token) h = (f (Choice test main other token) h.0, everywhere test h.1, everywhere main h.2, everywhere other h.3)
    everywhere (Assign left value token) h = (f (Assign left value token) h.0, everywhere left h.1, everywhere value h.2)
    everywhere (Update op left value token) h = (f (Update op left value token) h.0, everywhere left h.1, everywhere value h.2)
    everywhere Wrong h = f Wrong h

    pub everywhere_row : (x : Row) → ThroughoutRow P x → ThroughoutRow Q x
    everywhere_row none h = tt
    everywhere_row (more e rest) h = (everywhere e h.0, everywhere_row rest h.1)

    pub everywhere_initial : (x : Initial) → ThroughoutInitial P x → ThroughoutInitial Q x
    everywhere_initial (Value e) h = everywhere e h
    everywhere_initial (Listed elements brace) h = everywhere_elements elements h

    pub everywhere_elements : (x : Elements) → ThroughoutElements P x → ThroughoutElements Q x
    everywhere_elements no_more h = tt
    everywhere_elements (element before first rest) h = (everywhere_initial first h.0, everywhere_elements rest h.1)
