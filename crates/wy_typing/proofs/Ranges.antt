-- The type of an expression names a class of the program, if it names one.
use Rattle.std.proofs.Common.{◌≡◌, ℕ, suc, ◌≤◌, ap, subst, List, ◌++◌, length, Some, arith}
use Rattle.std.specs.Prelude.{slice_get}
use Rattle.std.specs.List.{All}
use Rattle.std.proofs.lemmas.List.Elements.{All-get_or}
use Rattle.std.proofs.lemmas.Option.{slice_get_within, get_or_from_slice_get}
use Rattle.wy_kernel.specs.declared.operator.BinOp.{BinOp}
use Rattle.wy_kernel.specs.declared.types.Base.{Base}
use Rattle.wy_kernel.specs.declared.types.Base.TheVariants.{Primitive as Basic, Class as Named}
use Rattle.wy_kernel.specs.declared.types.Ty.{Ty}
use Rattle.wy_kernel.specs.declared.types.Ty.TheVariants.{Of}
use Rattle.wy_kernel.specs.declared.form.LibOp.{LibOp}
use Rattle.wy_kernel.specs.Form.{Constant, Truth, Byte, Short, Char, Int, Long, Expression, Place}
use Rattle.wy_kernel.specs.Form as kernel
use Rattle.wy_kernel.specs.Program.{Program, Class, Method, string_class}
use Rattle.wy_kernel.specs.Program as parts
use Rattle.wy_kernel.specs.Builtin as builtin
use Rattle.wy_kernel.specs.Subtyping.{class_type}
use Rattle.wy_kernel.specs.Table.{IsTypeOf, IsMethodOf, IsFieldOf}
use Rattle.wy_typing.specs.Types as types
use Rattle.wy_typing.specs.Types.{constant_type, Operates, Offers}
use Rattle.wy_typing.specs.Expressions as typing
use Rattle.wy_typing.specs.Expressions.{HasType, IsPlace, IsMethod, IsField, IsMade}
use Rattle.wy_typing.specs.Programs.{IsTypeIn}
use Rattle.wy_typing.specs.Laws.{TypesAreKnown}

pub all_at : {X : Type 0} (P : X → Type 0) (xs : List X) (k : ℕ) (x : X) → All P xs → slice_get xs k ≡ Some x → P x
all_at P xs k x h e = subst P (get_or_from_slice_get xs k x x e) (All-get_or P xs k x (slice_get_within xs k x e) h)

pub library_many : (rest : List Class) → 18 ≤ length (builtin.classes ++ rest)
unfolding builtin.classes
library_many rest = omega arith

pub array_known : (many : ℕ) (base : Base) (m n : ℕ) → IsTypeOf many (Of base m) → IsTypeOf many (Of base n)
array_known many (Named c) m n h = h
array_known many (Basic p) m n h = tt

module _ (p : Program) (many_classes : 18 ≤ length p.classes) (methods : All (IsMethodOf (length p.classes)) p.methods) (fields : All (IsFieldOf (length p.classes)) p.fields) where
  abbrev pub Known : Ty → Type 0
  Known ty = IsTypeOf (length p.classes) ty

  pub array_of_known : (base : Base) (m n : ℕ) → Known (Of base m) → Known (Of base n)
  array_of_known base m n h = array_known (length p.classes) base m n h

  constant_known : (c : Constant) → Known (constant_type c)
  constant_known kernel.Null = tt
  constant_known (Truth b) = tt
  constant_known (Byte z) = tt
  constant_known (Short z) = tt
  constant_known (Char n) = tt
  constant_known (Int z) = tt
  constant_known (Long z) = tt

  pub text_known : Known (class_type string_class)
  text_known = omega (arith, many_classes)

  outcome_known : {op : BinOp} {a b c : Ty} → Operates p.classes op a b c → Known c
  outcome_known (types.on_numbers e f h) = tt
  outcome_known (types.shifting e f h) = tt
  outcome_known (types.comparing e h) = tt
  outcome_known (types.on_booleans e) = tt
  outcome_known (types.on_references e h k l) = tt

  offered_known : {op : LibOp} {params : List Ty} {ty : Ty} → Offers op params ty → Known ty
  offered_known types.array_length = tt
  offered_known types.length = tt
  offered_known types.is_empty = tt
  offered_known types.char_at = tt
  offered_known types.part_from = text_known
  offered_known types.part = text_known
  offered_known types.same = tt
  offered_known types.compare = tt
  offered_known types.itself = text_known
  offered_known types.char_text = text_known
  offered_known types.int_value = text_known
  offered_known types.long_text = text_known
  offered_known types.boolean_text = text_known
  offered_known types.parse_int = tt
  offered_known types.int_text = text_known
  offered_known types.abs_int = tt
  offered_known types.abs_long = tt
  offered_known types.max_int = tt
  offered_known types.max_long = tt
  offered_known types.min_int = tt
  offered_known types.min_long = tt
  offered_known types.read_byte = tt
  offered_known types.class_text = text_known
  offered_known types.object_text = text_known

  method_known : (k : ℕ) (m : Method) → IsMethod p k m → Known m.result
  method_known k m e = (all_at (IsMethodOf (length p.classes)) p.methods k m methods e).result

  field_known : (k : ℕ) (f : parts.Field) → IsField p k f → Known f.ty
  field_known k f e = (all_at (IsFieldOf (length p.classes)) p.fields k f fields e).ty

  made_known : (c : ℕ) → IsMade p c → Known (class_type c)
  made_known c h = slice_get_within p.classes c h.0 h.1

  module _ (locals : List Ty) (known : All (IsTypeIn p) locals) where
    mutual
      pub type_known : {e : Expression} {ty : Ty} → HasType p locals e ty → Known ty
      type_known (typing.constant {c}) = constant_known c
      type_known (typing.text lt) = text_known
      type_known (typing.read h) = place_known h
      type_known (typing.assigned h g) = place_known h
      type_known (typing.updated h g u) = tt
      type_known (typing.stepped h o q) = tt
      type_known (typing.extended h g o f) = place_known h
      type_known (typing.signed n q h) = tt
      type_known (typing.negated h) = tt
      type_known (typing.operated h g o) = outcome_known o
      type_known (typing.converted a b h) = tt
      type_known (typing.cast r h c) = r.1
      type_known (typing.tested r h c) = tt
      type_known (typing.both h g) = tt
      type_known (typing.either h g) = tt
      type_known (typing.chosen h v k a b) = k
      type_known (typing.made_plain h) = made_known 0 h
      type_known (typing.made {c} h m f o b g) = made_known c h
      type_known (typing.array n lt k g) = k
      type_known (typing.filled {base} {brackets} k g) = array_of_known base brackets (suc brackets) k
      type_known (typing.called {k} {m} e f b g) = method_known k m e
      type_known (typing.called_on {k = k} {m = m} e f b g r l h) = method_known k m e
      type_known (typing.begun {k} {m} e f b g h) = method_known k m e
      type_known (typing.joined h g o) = text_known
      type_known (typing.offered o g) = offered_known o

      place_known : {place : Place} {ty : Ty} → IsPlace p locals place ty → Known ty
      place_known (typing.local {i} {ty} e) = (all_at (IsTypeIn p) locals i ty known e).known
      place_known (typing.static {k} {f} e s) = field_known k f e
      place_known (typing.field {k = k} {f = f} e s g) = field_known k f e
      place_known (typing.element {base = base} {brackets = brackets} a i) = array_of_known base (suc brackets) brackets (type_known a)

pub types_are_known : TypesAreKnown
types_are_known p locals e ty is known h =
    type_known p (omega (arith, library_many is.library_classes.0, ap length is.library_classes.1)) is.methods is.fields locals known h
