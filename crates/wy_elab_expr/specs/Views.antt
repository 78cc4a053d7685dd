-- What the code of this crate gives, as the definitions see it.
use Rattle.std.specs.Prelude.{◌≡◌, ℕ, List, [], ◌∷◌, ◌++◌, map, Option, Some, None, option_map, if◌then◌else◌, Result, Ok, Err}
use Rattle.std.specs.declared.alloc.Global.{Global}
use Rattle.std.specs.declared.boxed.Box.{Box}
use Rattle.std.specs.declared.vec.Vec.{Vec}
use Rattle.wy_kernel.specs.declared.form.Expr.{Expr}
use Rattle.wy_kernel.specs.Form as kernel
use Rattle.wy_kernel.specs.Form.{Row, more}
use Rattle.wy_kernel.specs.Table.{Table, constant_value}
use Rattle.wy_kernel.specs.View.{expression, place, row_of}
use Rattle.wy_constant.specs.declared.rule.TypeError.{TypeError}
use Rattle.wy_constant.specs.declared.rule.Rule.TheVariants.{BadOperand}
use Rattle.wy_syntax.specs.Syntax as source
use Rattle.wy_constant.specs.Refusal.{Refusal, Fails}
use Rattle.wy_constant.specs.Scope.{Scope, FixedText}
use Rattle.wy_elab_expr.specs.declared.meaning.Meaning as memory
use Rattle.wy_elab_expr.specs.declared.meaning.Meaning.TheVariants as meanings
use Rattle.wy_elab_expr.specs.declared.spot.Spot as memory_spot
use Rattle.wy_elab_expr.specs.declared.call.Through as memory_through
use Rattle.wy_elab_expr.specs.declared.call.Through.TheVariants as throughs
use Rattle.wy_elab_expr.specs.declared.library.LibraryMethod as memory_library
use Rattle.wy_elab_expr.specs.declared.printing.Printed as memory_printed
use Rattle.wy_elab_expr.specs.declared.printing.Stream as memory_stream
use Rattle.wy_elab_expr.specs.declared.printing.Stream.TheVariants as streams
use Rattle.wy_elab_expr.specs.declared.names.ClassName as memory_names
use Rattle.wy_elab_expr.specs.declared.array.Listing as memory_array
use Rattle.wy_elab_expr.specs.declared.typed.Typed as memory_typed
use Rattle.wy_elab_expr.specs.declared.operand.OperandTypes as memory_operands
use Rattle.wy_elab_expr.specs.Meaning.{Meaning, Known, Formed, Gets, brought, refuse, type_of}
use Rattle.wy_elab_expr.specs.Members.{Spot, spot, front, int_type, LibraryMethod, Through, Nothing, Object, OfClass, Super}
use Rattle.wy_elab_expr.specs.Elaboration.{ClassName, Listing, listing, Printed, Typed, Stream, Input, Output, elaborated, is_index, target}
use Rattle.wy_elab_expr.specs.Operators.{Judgement, Settles, OperandTypes}

-- a form that stands in another
abbrev pub inner_of : Box Expr Global → kernel.Expression
inner_of e = expression e.value

abbrev pub meaning_of : memory.Meaning → Meaning
meaning_of (meanings.Known value token) = Known (constant_value value) token
meaning_of (meanings.Formed form ty) = Formed (inner_of form) ty

-- what a function returned, seen by a view, and the texts after it, are what the definition gives; want of memory is free
abbrev pub GetsTo : {X A : Type 0} → (X → A) → Result X TypeError → List FixedText → Result (A × List FixedText) Refusal → Type 0
GetsTo see (Ok x) after given = given ≡ Ok (see x, after)
GetsTo see (Err e) after given = Fails e given

-- the same for what leaves the texts as they are
abbrev pub GivesAlways : {X A : Type 0} → (X → A) → Result X TypeError → Gets A → Type 0
GivesAlways see result given = (texts : List FixedText) → GetsTo see result texts (given texts)

abbrev pub spot_of : memory_spot.Spot → Spot
spot_of p = spot (place p.place) p.ty p.is_fixed

-- forms as a row
abbrev pub row_seen : Vec Expr Global → Row
row_seen v = row_of (map expression v.items)

-- a row with these in front
abbrev pub in_front : List kernel.Expression → Row → Row
in_front [] rest = rest
in_front (e ∷ front) rest = more e (in_front front rest)

abbrev pub behind : List kernel.Expression → Result (Row × List FixedText) Refusal → Result (Row × List FixedText) Refusal
behind front (Ok p) = Ok (in_front front p.0, p.1)
behind front (Err e) = Err e

-- a row with this in front, if there is one
abbrev pub fronted : Option kernel.Expression → Result (Row × List FixedText) Refusal → Result (Row × List FixedText) Refusal
fronted object (Ok p) = Ok (front object p.0, p.1)
fronted object (Err e) = Err e

-- what was found behind others
abbrev pub after : List Meaning → Result (List Meaning × List FixedText) Refusal → Result (List Meaning × List FixedText) Refusal
after front (Ok p) = Ok (front ++ p.0, p.1)
after front (Err e) = Err e

-- elements behind others
abbrev pub behind_elements : List kernel.Expression → List ℕ → Result (Listing × List FixedText) Refusal → Result (Listing × List FixedText) Refusal
behind_elements forms sites (Ok p) = Ok (listing (in_front forms p.0.forms) (sites ++ p.0.sites), p.1)
behind_elements forms sites (Err e) = Err e

abbrev pub through_of : memory_through.Through → Through
through_of throughs.Nothing = Nothing
through_of (throughs.Object e) = Object (inner_of e)
through_of throughs.OfClass = OfClass
through_of throughs.Super = Super

abbrev pub library_method : memory_library.LibraryMethod → LibraryMethod
library_method m = record { name = m.name.now; params = m.params.now; op = m.op; outcome = m.outcome }

abbrev pub printed_of : memory_printed.Printed → Printed
printed_of p = record { form = expression p.form; ty = p.ty }

abbrev pub typed_of : memory_typed.Typed → Typed
typed_of t = record { form = expression t.form; ty = t.ty }

abbrev pub stream_of : memory_stream.Stream → Stream
stream_of streams.Input = Input
stream_of streams.Output = Output

abbrev pub class_name_of : memory_names.ClassName → ClassName
class_name_of c = record { name = c.name.now; token = c.token }

-- the name that an expression is
abbrev pub written_name : source.Expression → Option ClassName
written_name (source.Name name token) = Some (record { name = name; token = token })
written_name _ = None

-- the form of a size of an array
abbrev pub size_of : Meaning → ℕ → Gets kernel.Expression
size_of m token = if is_index (type_of m) then brought int_type m else refuse BadOperand token

abbrev pub listing_of : memory_array.Listing → Listing
listing_of l = listing (row_seen l.forms) l.sites.items

-- for each judgement that the table settles
abbrev pub Judged : Table → (Judgement → Type 0) → Type 0
Judged t P = (j : Judgement) → Settles t j → P j

-- what an expression is found to be, with the texts before and after
abbrev pub IsFound : Table → Scope → source.Expression → Result memory.Meaning TypeError → List FixedText → List FixedText → Type 0
IsFound t s e result before later = Judged t (λ j. GetsTo meaning_of result later (elaborated j t s e before))

-- the variable that an expression is, if it is one
abbrev pub IsTarget : Table → Scope → source.Expression → Result (Option memory_spot.Spot) TypeError → List FixedText → List FixedText → Type 0
IsTarget t s e result before later = Judged t (λ j. GetsTo (λ p. option_map spot_of p) result later (target j t s e before))

abbrev pub operands_of : memory_operands.OperandTypes → OperandTypes
operands_of o = record { left = o.left; right = o.right; outcome = o.outcome }
