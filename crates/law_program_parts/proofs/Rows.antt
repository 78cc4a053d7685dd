-- The bodies of a class and its methods, side by side.
use Rattle.std.proofs.Common.{◌≡◌, ℕ, ◌+◌, Bool, true, false, not, refl, sym, ◌∙◌, ap, subst, List, [], ◌∷◌, ◌++◌, Option, Some, None, if◌then◌else◌, ◌||◌}
use Rattle.std.specs.Prelude.{unwrap_or, codes}
use Rattle.std.specs.List.{AllByRecursion, list_any}
use Rattle.wy_kernel.specs.declared.types.Base.{Base}
use Rattle.wy_kernel.specs.declared.types.Base.TheVariants.{Class as Named}
use Rattle.wy_kernel.specs.declared.types.Ty.{Ty}
use Rattle.wy_kernel.specs.declared.types.Ty.TheVariants.{Void, Of}
use Rattle.wy_kernel.specs.declared.types.MethodForm.TheVariants as kind
use Rattle.wy_kernel.specs.Program.{Program, Method, Body, object_class}
use Rattle.wy_syntax.specs.declared.declaration.Modifier.TheVariants as modifier
use Rattle.wy_syntax.specs.Syntax.{Member, ClassSyntax, Parameter, Header, WrittenType}
use Rattle.wy_syntax.specs.Syntax as source
use Rattle.wy_members.specs.Declarations.{CompilationUnit, initializes_objects, base_type, type_with, result_type, types_of, parameter_types, has, method_row, form_of, methods_in, implied, fields_unit, implied_constructor, methods_of}
use Rattle.wy_elab_body.specs.Places.{has_fields_unit, declares_constructor}
use Rattle.wy_elab_stmt.specs.Classes.{ClassBodies, is_static}
use Rattle.wy_typing.specs.Programs.{IsBody, IsBodyOf, this_types, result_of}
use Rattle.law_typed.specs.Bodies.{BaseDenotes, Denotes, ParamsDenote, ResultDenotes, this_of, FitsHeader}
use Rattle.law_program_parts.specs.Classes.{MembersFit, UnitFits, ImpliedFits, ClassFits}
use Rattle.law_program_parts.specs.Rows.{NamesAgree, MayLackBody, IsHeader, RowsFit, BodiesFitRows}

pub join : (p : Program) (ms ns : List Method) (bs cs : List (Option Body)) → RowsFit p ms bs → RowsFit p ns cs → RowsFit p (ms ++ ns) (bs ++ cs)
join p [] ns [] cs h k = k
join p (m ∷ ms) ns (b ∷ bs) cs h k = (h.0, join p ms ns bs cs h.1 k)
join p [] ns (b ∷ bs) cs h k = absurd h
join p (m ∷ ms) ns [] cs h k = absurd h

-- ---- headers of methods alone

pub no_units : (ms : List Member) → AllByRecursion IsHeader ms → list_any initializes_objects ms ≡ false
no_units [] h = refl
no_units (source.Method hd result None ∷ ms) h = no_units ms h.1
no_units (source.Method hd result (Some b) ∷ ms) h = absurd h.0
no_units (source.Member.Nothing ∷ ms) h = no_units ms h.1
no_units (source.Constructor hd own brace parts end ∷ ms) h = absurd h.0
no_units (source.Initializer s b ∷ ms) h = absurd h.0
no_units (source.Fields modifiers ty ds ∷ ms) h = absurd h.0
no_units (source.Member.Unknown ∷ ms) h = absurd h.0

pub abstract_row : (b x : Bool) → b ≡ true → b || x ≡ true
abstract_row true x e = refl
abstract_row false x e = absurd (cc)

-- an interface has rows for its headers alone
pub no_row_by : (Q : List Method → Type 0) (a b rows : List Method) (x y : Bool) → x ≡ false → y ≡ true → Q rows → Q ((if x then a else []) ++ (if y then [] else b) ++ rows)
no_row_by Q a b rows false true e f h = h
no_row_by Q a b rows true y e f h = absurd (cc)
no_row_by Q a b rows false false e f h = absurd (cc)

-- ---- a class

module _ (p : Program) (unit : CompilationUnit) (c : ℕ) (k : ClassSyntax) (names : NamesAgree p unit) where
  -- ---- written types

  base_is : (base : source.Base) (b : Base) → BaseDenotes p.classes base b → b ≡ base_type unit base
  base_is (source.Basic q) b h = h
  base_is (source.Class name) b h = h.2 ∙ ap (λ (x : ℕ). Named x) (sym (ap (λ (o : Option ℕ). unwrap_or o object_class) (names name h.0 h.1)))

  type_is : (ty : WrittenType) (more : ℕ) (x : Ty) → Denotes p.classes ty more x → x ≡ type_with unit ty more
  type_is ty more x h = h.2 ∙ ap (λ (b : Base). Of b (ty.brackets + more)) (base_is ty.base h.0 h.1)

  params_are : (ps : List Parameter) (xs : List Ty) → ParamsDenote p.classes ps xs → xs ≡ types_of unit ps
  params_are [] [] h = refl
  params_are [] (x ∷ xs) h = absurd h
  params_are (q ∷ qs) [] h = absurd h
  params_are (q ∷ qs) (x ∷ xs) h = ap (λ (y : Ty). y ∷ xs) (type_is q.ty q.brackets x h.0) ∙ ap (λ (ys : List Ty). type_with unit q.ty q.brackets ∷ ys) (params_are qs xs h.1)

  result_is : (result : Option WrittenType) (x : Ty) → ResultDenotes p.classes result x → x ≡ result_type unit result
  result_is None x h = h
  result_is (Some ty) x h = type_is ty 0 x h

  -- ---- rows

  this_by : (b : Bool) → this_of (not b) c ≡ this_types (if b then kind.Static else kind.Instance) c
  this_by true = refl
  this_by false = refl

  result_by : (b : Bool) (x : Ty) → Some x ≡ result_of (if b then kind.Static else kind.Instance) x
  result_by true x = refl
  result_by false x = refl

  header_fits : (this : List Ty) (out : Option Ty) (h : Header) (result : Option WrittenType) (b : Body) (has_this : Bool) → FitsHeader p has_this c h result b → this_of has_this c ≡ this → Some (result_type unit result) ≡ out → IsBody p (this ++ parameter_types unit h) out b
  header_fits this out h result b has_this f e g =
      let P : List Ty → Option Ty → Type 0 = λ l o. IsBody p l o b in
      let params = params_are h.params f.0 f.2 in let given = result_is result f.1 f.3 in
      subst (λ (l : List Ty). P l out) (ap (λ (l : List Ty). l ++ f.0) e ∙ ap (λ (l : List Ty). this ++ l) params) (subst (λ (o : Option Ty). P (this_of has_this c ++ f.0) o) (ap (λ (x : Ty). Some x) given ∙ g) f.4)

  method_fits : (h : Header) (result : Option WrittenType) (b : Body) → FitsHeader p (not (is_static h.modifiers)) c h result b → IsBodyOf p (method_row unit c k h h.name.name (result_type unit result) (form_of h)) b
  method_fits h result b f = header_fits (this_types (form_of h) c) (result_of (form_of h) (result_type unit result)) h result b (not (is_static h.modifiers)) f (this_by (has modifier.Static h.modifiers)) (result_by (has modifier.Static h.modifiers) (result_type unit result))

  constructor_fits : (h : Header) (b : Body) → FitsHeader p true c h None b → IsBodyOf p (method_row unit c k h (codes "new") Void kind.Constructor) b
  constructor_fits h b f = header_fits (this_types kind.Constructor c) (Some Void) h None b true f refl refl

  rows : (ms : List Member) (bs : List (Option Body)) → AllByRecursion (MayLackBody k) ms → MembersFit p c ms bs → RowsFit p (methods_in unit c k ms) bs
  rows [] [] a f = tt
  rows [] (b ∷ bs) a f = absurd f
  rows (source.Method h result None ∷ ms) (None ∷ bs) a f = (a.0, rows ms bs a.1 f)
  rows (source.Method h result None ∷ ms) (Some b ∷ bs) a f = absurd f
  rows (source.Method h result None ∷ ms) [] a f = absurd f
  rows (source.Method h result (Some block) ∷ ms) (Some b ∷ bs) a f = (method_fits h result b f.0, rows ms bs a.1 f.1)
  rows (source.Method h result (Some block) ∷ ms) (None ∷ bs) a f = absurd f
  rows (source.Method h result (Some block) ∷ ms) [] a f = absurd f
  rows (source.Constructor h own brace parts end ∷ ms) (Some b ∷ bs) a f = (constructor_fits h b f.0, rows ms bs a.1 f.1)
  rows (source.Constructor h own brace parts end ∷ ms) (None ∷ bs) a f = absurd f
  rows (source.Constructor h own brace parts end ∷ ms) [] a f = absurd f
  rows (source.Initializer s block ∷ ms) bs a f = rows ms bs a.1 f
  rows (source.Fields modifiers ty ds ∷ ms) bs a f = rows ms bs a.1 f
  rows (source.Member.Nothing ∷ ms) bs a f = rows ms bs a.1 f
  rows (source.Member.Unknown ∷ ms) bs a f = rows ms bs a.1 f

  unit_rows : (b : Bool) (bs : List (Option Body)) → UnitFits p c b bs → RowsFit p (if b then implied c k (codes "<fields>") kind.Fields ∷ [] else []) bs
  unit_rows true (Some b ∷ []) h = (h, tt)
  unit_rows true [] h = absurd h
  unit_rows true (None ∷ bs) h = absurd h
  unit_rows true (Some b ∷ x ∷ bs) h = absurd h
  unit_rows false [] h = tt
  unit_rows false (x ∷ bs) h = absurd h

  implied_rows : (i b : Bool) (bs : List (Option Body)) → i ≡ false → ImpliedFits p c b bs → RowsFit p (if i || b then [] else implied c k (codes "new") kind.Constructor ∷ []) bs
  implied_rows true b bs e h = absurd (cc)
  implied_rows false false (Some b ∷ []) e h = (h, tt)
  implied_rows false false [] e h = absurd h
  implied_rows false false (None ∷ bs) e h = absurd h
  implied_rows false false (Some b ∷ x ∷ bs) e h = absurd h
  implied_rows false true [] e h = tt
  implied_rows false true (x ∷ bs) e h = absurd h

  pub all_rows : (x : ClassBodies) → k.is_interface ≡ false → AllByRecursion (MayLackBody k) k.members → ClassFits p c k x → RowsFit p (methods_of unit c k) x.bodies
  all_rows x e a f =
      let P : List (Option Body) → Type 0 = λ l. RowsFit p (methods_of unit c k) l in
      subst P (sym f.bodies)
      (join p (fields_unit c k ++ implied_constructor c k) (methods_in unit c k k.members) (f.unit ++ f.implied) f.members
      (join p (fields_unit c k) (implied_constructor c k) f.unit f.implied (unit_rows (has_fields_unit k) f.unit f.unit_fits) (implied_rows k.is_interface (declares_constructor k) f.implied e f.implied_fits))
      (rows k.members f.members a f.members_fit))

pub bodies_fit_rows : BodiesFitRows
bodies_fit_rows p unit c k x names e a f = all_rows p unit c k names x e a f
