-- Literals, parentheses and what is no expression break no rule themselves.
use Rattle.std.proofs.Common.{ℕ, List}
use Rattle.wy_kernel.specs.declared.types.Ty.{Ty}
use Rattle.wy_kernel.specs.Program.{Method}
use Rattle.wy_kernel.specs.Table.{Table}
use Rattle.wy_syntax.specs.Syntax.{Base, Expression, Row, Initial}
use Rattle.wy_constant.specs.declared.rule.Rule.TheVariants as rule
use Rattle.wy_constant.specs.Scope.{Scope}
use Rattle.wy_elab_expr.specs.Meaning.{Meaning}
use Rattle.wy_elab_expr.specs.Members.{LibraryMethod}
use Rattle.wy_elab_expr.specs.Operators.{Judgement}
use Rattle.law_refusals.specs.Calls.{Way, IsCall, Asks, Means, IsLibraryCall}
use Rattle.law_refusals.specs.Breaches.{Writes, Passes, Needs, Decides, Assigns, Changes, IsElement, IsFieldOf, IsFieldOfClass, Selects, NamesField, IsUnknownName, IsNotImplemented, IsNoMethod, IsAmbiguous, IsBadOperand, IsBadAssign, IsBadCast, IsPrivate, IsNotInStatic, IsNotOffered, ExpressionBreaks}
use Rattle.law_refusals.specs.Breaches as way
use Rattle.law_refusals.specs.Quiet.{IsQuiet, literal, group, wrong, QuietFormsBreakNothing}

writes : {e : Expression} {b : Base} {n : ℕ} → IsQuiet e → Writes e b n → ⊥
writes literal h = elim h [ ]
writes group h = elim h [ ]
writes wrong h = elim h [ ]

passes : {e : Expression} {r : Row} {n : ℕ} → IsQuiet e → Passes e r n → ⊥
passes literal h = elim h [ ]
passes group h = elim h [ ]
passes wrong h = elim h [ ]

needs : {e f : Expression} {n : ℕ} → IsQuiet e → Needs e f n → ⊥
needs literal h = elim h [ ]
needs group h = elim h [ ]
needs wrong h = elim h [ ]

decides : {e f : Expression} {n : ℕ} → IsQuiet e → Decides e f n → ⊥
decides literal h = elim h [ ]
decides group h = elim h [ ]
decides wrong h = elim h [ ]

assigns : {e f : Expression} {n : ℕ} → IsQuiet e → Assigns e f n → ⊥
assigns literal h = elim h [ ]
assigns group h = elim h [ ]
assigns wrong h = elim h [ ]

changes : {e f : Expression} {n : ℕ} → IsQuiet e → Changes e f n → ⊥
changes q (way.Changes.assigned h) = assigns q h
changes q way.step = elim q [ ]

element : {t : Table} {e : Expression} {ty : Ty} {i : Initial} {n : ℕ} → IsQuiet e → IsElement t e ty i n → ⊥
element literal h = elim h [ ]
element group h = elim h [ ]
element wrong h = elim h [ ]

module _ (j : Judgement) (t : Table) (s : Scope) where
  field_of : {e : Expression} {c n : ℕ} {name : List ℕ} → IsQuiet e → IsFieldOf j t s e c name n → ⊥
  field_of literal h = elim h [ ]
  field_of group h = elim h [ ]
  field_of wrong h = elim h [ ]

  field_of_class : {e : Expression} {c n : ℕ} {name : List ℕ} → IsQuiet e → IsFieldOfClass t s e c name n → ⊥
  field_of_class literal h = elim h [ ]
  field_of_class group h = elim h [ ]
  field_of_class wrong h = elim h [ ]

  selects : {e : Expression} {c n : ℕ} {name : List ℕ} → IsQuiet e → Selects j t s e c name n → ⊥
  selects q (way.through h) = field_of q h
  selects q (way.by_class h) = field_of_class q h

  names_field : {e : Expression} {c n : ℕ} {name : List ℕ} → IsQuiet e → NamesField j t s e c name n → ⊥
  names_field q (way.alone h) = elim q [ ]
  names_field q (way.behind h) = selects q h

  call : {e : Expression} {w : Way} {ty : Ty} {name : List ℕ} {r : Row} {n : ℕ} → IsQuiet e → IsCall j t s e w ty name r n → ⊥
  call literal h = elim h [ ]
  call group h = elim h [ ]
  call wrong h = elim h [ ]

  library_call : {e : Expression} {methods : List LibraryMethod} {name : List ℕ} {r : Row} {n : ℕ} → IsQuiet e → IsLibraryCall j t s e methods name r n → ⊥
  library_call literal h = elim h [ ]
  library_call group h = elim h [ ]
  library_call wrong h = elim h [ ]

  asks : {e : Expression} {w : Way} {ty : Ty} {name : List ℕ} {ms : List Meaning} {n : ℕ} → IsQuiet e → Asks j t s e w ty name ms n → ⊥
  asks q h = call q h.call

  means : {e : Expression} {w : Way} {n : ℕ} {m : Method} → IsQuiet e → Means j t s e w n m → ⊥
  means q h = asks q h.asks

  unknown_name : {e : Expression} {n : ℕ} → IsQuiet e → IsUnknownName j t s e n → ⊥
  unknown_name q (way.simple h k) = elim q [ ]
  unknown_name q (way.IsUnknownName.no_field h k l) = selects q h
  unknown_name q (way.no_fields h k l m o) = elim q [ ]
  unknown_name q (way.no_class h k) = writes q h

  not_implemented : {e : Expression} {n : ℕ} → IsQuiet e → IsNotImplemented j t s e n → ⊥
  not_implemented q (way.abstract_method h k) = means q h
  not_implemented q (way.interface h k) = elim q [ ]
  not_implemented q (way.abstract_class h k l) = elim q [ ]

  no_method : {e : Expression} {n : ℕ} → IsQuiet e → IsNoMethod j t s e n → ⊥
  no_method q (way.none_applies h k) = asks q h
  no_method q (way.IsNoMethod.of_library h k l m o) = library_call q h
  no_method q (way.IsNoMethod.of_object h) = elim q [ ]
  no_method q (way.read h k) = elim q [ ]
  no_method q (way.print_nothing h k) = elim q [ ]
  no_method q (way.print_more h k) = elim q [ ]

  ambiguous : {e : Expression} {n : ℕ} → IsQuiet e → IsAmbiguous j t s e n → ⊥
  ambiguous q (way.several h k) = asks q h

  bad_operand : {e : Expression} {n : ℕ} → IsQuiet e → IsBadOperand j t s e n → ⊥
  bad_operand q (way.void_argument h k l) = passes q h
  bad_operand q (way.void_operand h k l) = needs q h
  bad_operand q (way.void_field h k l) = elim q [ ]
  bad_operand q (way.void_call h k l) = elim q [ ]
  bad_operand q (way.void_element h k l) = element q h
  bad_operand q (way.unary h k) = elim q [ ]
  bad_operand q (way.binary h k l) = elim q [ ]
  bad_operand q (way.condition h k l) = decides q h
  bad_operand q (way.choice h k l) = elim q [ ]
  bad_operand q (way.update h k l) = elim q [ ]
  bad_operand q (way.no_array h k) = elim q [ ]
  bad_operand q (way.index h k) = elim q [ ]
  bad_operand q (way.size h k l) = elim q [ ]
  bad_operand q (way.IsBadOperand.no_variable h) = elim q [ ]
  bad_operand q (way.IsBadOperand.no_number h k) = elim q [ ]

  bad_assign : {e : Expression} {n : ℕ} → IsQuiet e → IsBadAssign j t s e n → ⊥
  bad_assign q (way.value h k l m) = elim q [ ]
  bad_assign q (way.element h k l m) = element q h
  bad_assign q (way.braces h k) = element q h
  bad_assign q (way.IsBadAssign.no_variable h k) = assigns q h
  bad_assign q (way.fixed h k l) = changes q h

  bad_cast : {e : Expression} {n : ℕ} → IsQuiet e → IsBadCast j t s e n → ⊥
  bad_cast q (way.IsBadCast.cast h k l m) = elim q [ ]
  bad_cast q (way.IsBadCast.tested h k l m) = elim q [ ]

  private : {e : Expression} {n : ℕ} → IsQuiet e → IsPrivate j t s e n → ⊥
  private q (way.IsPrivate.field h k l) = names_field q h
  private q (way.IsPrivate.method h k) = means q h

  not_in_static : {e : Expression} {n : ℕ} → IsQuiet e → IsNotInStatic j t s e n → ⊥
  not_in_static q (way.this h) = elim q [ ]
  not_in_static q (way.super_field h) = elim q [ ]
  not_in_static q (way.super_method h) = elim q [ ]
  not_in_static q (way.IsNotInStatic.field h k l m) = elim q [ ]
  not_in_static q (way.field_of_class h k l) = field_of_class q h
  not_in_static q (way.IsNotInStatic.method h k l) = means q h
  not_in_static q (way.method_of_class h k) = means q h
  not_in_static q (way.method_of_texts h k) = elim q [ ]

  not_offered : {e : Expression} {n : ℕ} → IsQuiet e → IsNotOffered j t s e n → ⊥
  not_offered q (way.IsNotOffered.no_field h k l) = selects q h
  not_offered q (way.no_constant h k l) = elim q [ ]
  not_offered q (way.no_method h k) = asks q h
  not_offered q (way.IsNotOffered.of_library h k) = library_call q h
  not_offered q (way.of_input h k) = elim q [ ]
  not_offered q (way.of_output h k) = elim q [ ]
  not_offered q (way.null_printed h k l) = elim q [ ]
  not_offered q (way.chars_printed h k l) = elim q [ ]
  not_offered q (way.static_field h k l) = field_of q h
  not_offered q (way.static_of_object h k) = means q h
  not_offered q (way.static_of_super h k) = means q h

pub quiet : QuietFormsBreakNothing
quiet j t s e rule.UnknownName n q h = unknown_name j t s q h
quiet j t s e rule.NotImplemented n q h = not_implemented j t s q h
quiet j t s e rule.NoMethod n q h = no_method j t s q h
quiet j t s e rule.Ambiguous n q h = ambiguous j t s q h
quiet j t s e rule.BadOperand n q h = bad_operand j t s q h
quiet j t s e rule.BadAssign n q h = bad_assign j t s q h
quiet j t s e rule.BadCast n q h = bad_cast j t s q h
quiet j t s e rule.Private n q h = private j t s q h
quiet j t s e rule.NotInStatic n q h = not_in_static j t s q h
quiet j t s e rule.NotOffered n q h = not_offered j t s q h
quiet j t s e _ n q h = h
