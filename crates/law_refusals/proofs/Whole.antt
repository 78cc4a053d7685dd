-- What is written with nothing missing has no part that is none.
use Rattle.std.proofs.Common.{Bool, true, false, List, [], ◌∷◌}
use Rattle.std.specs.Prelude.{if◌then◌else◌, is_some, ◌||◌}
use Rattle.std.specs.List.{All}
use Rattle.std.proofs.lemmas.List.Elements.{All-contains, All-nil, All-cons, All-append}
use Rattle.wy_kernel.specs.Table.{Table}
use Rattle.wy_syntax.specs.Syntax.{Expression, Row, none, more, Initial, Value, Listed, Elements, no_more, element, Literal, Name, This, Group, Invoke, Field, InvokeOn, SuperField, SuperInvoke, Element, NewObject, NewArray, NewList, Unary, Step, Binary, Both, Either, InstanceOf, Cast, Choice, Assign, Update, Wrong}
use Rattle.wy_constant.specs.Scope.{Scope}
use Rattle.wy_elab_expr.specs.Elaboration.{class_in, stream_in}
use Rattle.law_refusals.specs.Found.{listed, values_in, values_of, operands, Within, itself, inside}
use Rattle.law_refusals.specs.ExpressionLaws.{IsWhole}
use Rattle.law_well_formed.specs.Complete.{IsComplete, AreComplete, IsCompleteInitial, HasCompleteElements}

one : (e : Expression) → IsComplete e → All IsComplete (e ∷ [])
one e h = All-cons IsComplete e [] h (All-nil IsComplete)

two : (e f : Expression) → IsComplete e → IsComplete f → All IsComplete (e ∷ f ∷ [])
two e f h k = All-cons IsComplete e (f ∷ []) h (one f k)

pub all_row : (r : Row) → AreComplete r → All IsComplete (listed r)
all_row none h = All-nil IsComplete
all_row (more e rest) h = All-cons IsComplete e (listed rest) h.0 (all_row rest h.1)

mutual
  all_elements : (elements : Elements) → HasCompleteElements elements → All IsComplete (values_in elements)
  all_elements no_more h = All-nil IsComplete
  all_elements (element before first rest) h = All-append IsComplete (values_of first) (values_in rest) (all_initial first h.0) (all_elements rest h.1)

  all_initial : (i : Initial) → IsCompleteInitial i → All IsComplete (values_of i)
  all_initial (Value e) h = one e h
  all_initial (Listed elements brace) h = all_elements elements h

pub written_values : (i : Initial) → IsCompleteInitial i → All IsComplete (values_of i)
written_values i h = all_initial i h

both : (b : Bool) (xs ys : List Expression) → All IsComplete xs → All IsComplete ys → All IsComplete (if b then xs else ys)
both true xs ys h k = h
both false xs ys h k = k

all_operands : (t : Table) (s : Scope) (e : Expression) → IsComplete e → All IsComplete (operands t s e)
all_operands t s (Literal value token) h = All-nil IsComplete
all_operands t s (Name name token) h = All-nil IsComplete
all_operands t s (This token) h = All-nil IsComplete
all_operands t s (Group inner token) h = one inner h.1
all_operands t s (Invoke name args token) h = all_row args h.1
all_operands t s (Field object name token) h = both (is_some (class_in t s object)) [] (object ∷ []) (All-nil IsComplete) (one object h.1)
all_operands t s (InvokeOn object name args token) h = both (is_some (stream_in t s object) || is_some (class_in t s object)) (listed args) (object ∷ listed args) (all_row args h.2) (All-cons IsComplete object (listed args) h.1 (all_row args h.2))
all_operands t s (SuperField name token) h = All-nil IsComplete
all_operands t s (SuperInvoke name args token) h = all_row args h.1
all_operands t s (Element array index token) h = two array index h.1 h.2
all_operands t s (NewObject class args token) h = all_row args h.1
all_operands t s (NewArray base at sizes brackets token) h = all_row sizes h.1
all_operands t s (NewList base at brackets elements brace token) h = all_elements elements h.1
all_operands t s (Unary op operand token) h = one operand h.1
all_operands t s (Step is_before is_up operand token) h = one operand h.1
all_operands t s (Binary op left right token) h = two left right h.1 h.2
all_operands t s (Both left right token) h = two left right h.1 h.2
all_operands t s (Either left right token) h = two left right h.1 h.2
all_operands t s (InstanceOf left ty token) h = one left h.1
all_operands t s (Cast ty operand token) h = one operand h.1
all_operands t s (Choice test main other token) h = All-cons IsComplete test (main ∷ other ∷ []) h.1 (two main other h.2 h.3)
all_operands t s (Assign left value token) h = two left value h.1 h.2
all_operands t s (Update op left value token) h = two left value h.1 h.2
all_operands t s Wrong h = absurd h

written_part : (t : Table) (s : Scope) {part whole : Expression} → Within t s part whole → IsComplete whole → IsComplete part
written_part t s itself h = h
written_part t s (inside {operand = operand} {whole = whole} stands within) h = written_part t s within (All-contains IsComplete (operands t s whole) operand (all_operands t s whole h) stands)

pub whole : (t : Table) (s : Scope) (e : Expression) → IsComplete e → IsWhole t s e
whole t s e h within = written_part t s within h
