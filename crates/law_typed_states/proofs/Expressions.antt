-- Each expression that has a type gives a value of it, from what its parts give.
use Rattle.std.proofs.Common.{◌≡◌, ℕ, Bool, false, List, [], ◌∷◌, length, inl, inr, Option, Some, refl, ap, ◌∙◌}
use Rattle.std.specs.Prelude.{None as Absent}
use Rattle.std.specs.Prelude.{pos}
use Rattle.wy_kernel.specs.declared.operator.Primitive.{Primitive}
use Rattle.wy_kernel.specs.declared.operator.Primitive.TheVariants as prim
use Rattle.wy_kernel.specs.declared.operator.BinOp.{BinOp}
use Rattle.wy_kernel.specs.declared.operator.UnOp.{UnOp}
use Rattle.wy_kernel.specs.declared.operator.UnOp.TheVariants.{Not}
use Rattle.wy_kernel.specs.declared.form.CondForm.{CondForm}
use Rattle.wy_kernel.specs.declared.form.LibOp.{LibOp}
use Rattle.wy_kernel.specs.declared.types.Ty.{Ty}
use Rattle.wy_kernel.specs.declared.types.MethodForm.{MethodForm}
use Rattle.wy_kernel.specs.declared.types.MethodForm.TheVariants as kinds
use Rattle.wy_kernel.specs.declared.form.CallForm.{CallForm}
use Rattle.wy_kernel.specs.declared.form.CallForm.TheVariants as call
use Rattle.wy_kernel.specs.Form.{Constant, Expression, Const, Str, Read, Set, Upd, Un, Bin, Conv, Cast, InstanceOf, Cond, New, NewArray, Call, Cat, Lib, Place, Local, Static, Field, Elem, Part, Row, none, more}
use Rattle.wy_kernel.specs.Program.{Method, object_class}
use Rattle.wy_kernel.specs.Subtyping.{class_type}
use Rattle.wy_value.specs.declared.value.Value.TheVariants as val
use Rattle.wy_meaning.specs.World.{World}
use Rattle.wy_meaning.specs.Expression.{constant_value, part_or, update, eval, locate, eval_part, eval_row}
use Rattle.wy_meaning.specs.Expression as meaning
use Rattle.wy_typing.specs.Types.{int_type, Fits}
use Rattle.wy_typing.specs.Expressions as typing
use Rattle.wy_typing.specs.Expressions.{HasType, Gives, IsPlace, GivesAll, IsMethod, MakesReady, MayBeCalled, fitting}
use Rattle.wy_typing.specs.Programs.{this_types}
use Rattle.law_induction.specs.Law.{FrameKind}
use Rattle.law_induction.specs.Forms.{OfPart, OfRow, OfPlace, Parts}
use Rattle.law_induction.proofs.Induction.{of_expression}
use Rattle.law_typed_states.specs.Typed.{local_types}
use Rattle.law_typed_states.proofs.Values.{constant_is, stepped_as}
use Rattle.law_typed_states.proofs.Rules.{Ground, A, p}
use Rattle.law_typed_states.proofs.Places.{Methods, world_of, Locates, reads_place, sets_place, updates_place}
use Rattle.law_typed_states.proofs.Forms.{T, ticked, constant_types, fixed_is, fitting_types, unary_types, binary_types, convert_types, cast_types, instance_types, conditional_types, cat_types, append_types}
use Rattle.law_typed_states.proofs.Calls.{AllTypes, chosen_types, direct_types, static_types, create_types}
use Rattle.law_typed_states.proofs.Arrays.{array_types, filled_types}
use Rattle.law_typed_states.proofs.Offered.{library_types}

module _ (G : Ground) (M : Methods G) (i : FrameKind) where
  abbrev w : World (A G)
  w = world_of G M

  abbrev locals : List Ty
  locals = local_types (p G) i

  -- the expression gives a value of each type that it has
  pub record Typed (e : Expression) : Type 1 where
    pub by : (ty : Ty) → HasType (p G) locals e ty → T G M i (eval w e) ty

  pub given : (e : Expression) (ty : Ty) → Typed e → Gives (p G) locals e ty → T G M i (eval w e) ty
  given e ty d (fitting {a = a} h f) = fitting_types G M i (eval w e) a ty (d.by a h) f

  pub given_all : (row : Row) (ts : List Ty) → OfRow Typed row → GivesAll (p G) locals row ts → AllTypes G M i (eval_row w row) ts
  unfolding eval_row
  given_all none [] d typing.nothing = tt
  given_all none (t ∷ ts) d h = elim h [ ]
  given_all (more e rest) [] d h = elim h [ ]
  given_all (more e rest) (t ∷ ts) d (typing.and_more h hs) = (given e t d.0 h, given_all rest ts d.1 hs)

  pub located : (x : Place) (ty : Ty) → OfPlace Typed x → IsPlace (p G) locals x ty → Locates G M i (locate w x) ty
  unfolding locate
  located (Local k) ty d (typing.local e) = (e, tt)
  located (Static k site) ty d (typing.static {f = f} e s) = (f, e, s, refl, tt)
  located (Field object k site) ty d (typing.field {f = f} e s g) = (f, e, refl, given object _ d g)
  located (Elem array index site) ty d (typing.element {base = b} {brackets = n} h k) = (b, n, refl, d.0.by _ h, d.1.by _ k)

  pub not_static : (f : MethodForm) (c : ℕ) → MakesReady f → this_types f c ≡ class_type c ∷ []
  not_static f c (inl e) = ap (λ g. this_types g c) e
  not_static f c (inr e) = ap (λ g. this_types g c) e

  -- ---- each form, by the rules for its type

  of_constant : (v : Constant) (ty : Ty) → HasType (p G) locals (Const v) ty → T G M i (eval w (Const v)) ty
  unfolding eval
  of_constant v ty typing.constant = ticked G M i _ ty (constant_types G M i (constant_value v) ty (λ n. constant_is (p G) n v))

  of_str : (k : ℕ) (ty : Ty) → HasType (p G) locals (Str k) ty → T G M i (eval w (Str k)) ty
  unfolding eval
  of_str k ty (typing.text h) = ticked G M i _ ty (constant_types G M i (val.Fixed k) ty (λ n. fixed_is G M i k n))

  of_read : (x : Place) (ty : Ty) → OfPlace Typed x → HasType (p G) locals (Read x) ty → T G M i (eval w (Read x)) ty
  unfolding eval
  of_read x ty d (typing.read h) = ticked G M i _ ty (record { by = λ P. reads_place G M i (locate w x) ty (located x ty d h) })

  of_set : (x : Place) (e : Expression) (site : ℕ) (ty : Ty) → OfPlace Typed x → Typed e → HasType (p G) locals (Set x e site) ty → T G M i (eval w (Set x e site)) ty
  unfolding eval
  of_set x e site ty d de (typing.assigned h g) = ticked G M i _ ty (record { by = λ P. sets_place G M i (locate w x) (eval w e) site ty (located x ty d h) (given e ty de g) })

  of_update : (x : Place) (o : BinOp) (value : Part) (value_ty place_ty : Ty) (wide : Option Primitive) (gives_old : Bool) (site : ℕ) (ty : Ty) → OfPlace Typed x → OfPart Typed value → HasType (p G) locals (Upd x o value value_ty place_ty wide gives_old site) ty → T G M i (eval w (Upd x o value value_ty place_ty wide gives_old site)) ty
  unfolding eval eval_part part_or update
  of_update x o value value_ty place_ty wide gives_old site ty d de (typing.updated {value = e} {to = to} {from = from} {wide = r} h k u) = ticked G M i _ ty (record { by = λ P. updates_place G M i (locate w x) o (eval w e) to from r false site (located x _ d h) (de.by _ k) u })
  of_update x o value value_ty place_ty wide gives_old site ty d de (typing.stepped {to = to} {wide = r} h k u) = ticked G M i _ ty (record { by = λ P. updates_place G M i (locate w x) o _ to prim.Int r gives_old site (located x _ d h) (constant_types G M i (val.Int (pos 1)) int_type (λ n. refl)) (stepped_as k u) })
  of_update x o value value_ty place_ty wide gives_old site ty d de (typing.extended {value = e} h k j f) = ticked G M i _ ty (append_types G M i (locate w x) (eval w e) site _ value_ty (located x _ d h) (de.by _ k) f)

  of_unary : (o : UnOp) (e : Expression) (ty : Ty) → Typed e → HasType (p G) locals (Un o e) ty → T G M i (eval w (Un o e)) ty
  unfolding eval
  of_unary o e ty d (typing.signed n q h) = ticked G M i _ ty (unary_types G M i o (eval w e) ty (d.by _ h))
  of_unary o e ty d (typing.negated h) = ticked G M i _ ty (unary_types G M i Not (eval w e) ty (d.by _ h))

  of_binary : (o : BinOp) (l r : Expression) (site : ℕ) (ty : Ty) → Typed l → Typed r → HasType (p G) locals (Bin o l r site) ty → T G M i (eval w (Bin o l r site)) ty
  unfolding eval
  of_binary o l r site ty dl dr (typing.operated {a = a} {b = b} h k c) = ticked G M i _ ty (binary_types G M i o (eval w l) (eval w r) site a b ty (dl.by _ h) (dr.by _ k) c)

  of_conversion : (to : Primitive) (e : Expression) (ty : Ty) → Typed e → HasType (p G) locals (Conv to e) ty → T G M i (eval w (Conv to e)) ty
  unfolding eval
  of_conversion to e ty d (typing.converted {from = from} t f h) = ticked G M i _ ty (convert_types G M i to from (eval w e) t f (d.by _ h))

  of_cast : (to : Ty) (e : Expression) (site : ℕ) (ty : Ty) → Typed e → HasType (p G) locals (Cast to e site) ty → T G M i (eval w (Cast to e site)) ty
  unfolding eval
  of_cast to e site ty d (typing.cast {from = from} r h c) = ticked G M i _ ty (cast_types G M i to from (eval w e) site r.0 (d.by _ h))

  of_instance_of : (of : Ty) (e : Expression) (ty : Ty) → Typed e → HasType (p G) locals (InstanceOf of e) ty → T G M i (eval w (InstanceOf of e)) ty
  unfolding eval
  of_instance_of of e ty d (typing.tested {from = from} r h c) = ticked G M i _ ty (instance_types G M i of from (eval w e) (d.by _ h))

  of_conditional : (f : CondForm) (t : Expression) (a b : Part) (site : ℕ) (ty : Ty) → Typed t → OfPart Typed a → OfPart Typed b → HasType (p G) locals (Cond f t a b site) ty → T G M i (eval w (Cond f t a b site)) ty
  unfolding eval eval_part
  of_conditional f t a b site ty d da db (typing.both h k) = ticked G M i _ ty (conditional_types G M i (eval w t) _ _ site ty (d.by _ h) (da.by _ k) (refl, tt))
  of_conditional f t a b site ty d da db (typing.either h k) = ticked G M i _ ty (conditional_types G M i (eval w t) _ _ site ty (d.by _ h) (refl, tt) (db.by _ k))
  of_conditional f t a b site ty d da db (typing.chosen {main = m} {other = o} h v k g j) = ticked G M i _ ty (conditional_types G M i (eval w t) _ _ site ty (d.by _ h) (given m ty da g) (given o ty db j))

  of_creation : (c : ℕ) (constructor : Option ℕ) (args : Row) (site : ℕ) (ty : Ty) → OfRow Typed args → HasType (p G) locals (New c constructor args site) ty → T G M i (eval w (New c constructor args site)) ty
  unfolding eval eval_row
  of_creation c constructor args site ty d (typing.made_plain m) = ticked G M i _ ty (create_types G M i object_class Absent [] [] site m tt tt)
  of_creation c constructor args site ty d (typing.made {k = k} {m = md} m e f q b a) = ticked G M i _ ty (create_types G M i c (Some k) md.params (eval_row w args) site m (md, e, ap (λ g. this_types g md.class) f ∙ ap (λ x. class_type x ∷ []) q, refl) (given_all args md.params d a))

  of_array : (of : Ty) (dims elements : Row) (sites : List ℕ) (site : ℕ) (ty : Ty) → OfRow Typed dims → OfRow Typed elements → HasType (p G) locals (NewArray of dims elements sites site) ty → T G M i (eval w (NewArray of dims elements sites site)) ty
  unfolding eval eval_row
  of_array of dims elements sites site ty dd de (typing.array {base = b} {brackets = n} m lt known h) = ticked G M i _ ty (array_types G M i b n m (eval_row w dims) site lt known (given_all dims _ dd h))
  of_array of dims elements sites site ty dd de (typing.filled {base = b} {brackets = n} known h) = ticked G M i _ ty (filled_types G M i b n (length sites) (eval_row w elements) sites site known (given_all elements _ de h))

  receives : (e : Expression) (ty : Ty) (c : ℕ) → Typed e → Gives (p G) locals e ty → Fits (p G).classes ty (class_type c) → T G M i (eval w e) (class_type c)
  receives e ty c d g f = fitting_types G M i (eval w e) ty (class_type c) (given e ty d g) f

  of_call_on : (f : CallForm) (k : ℕ) (md : Method) (e : Expression) (args : Row) (site : ℕ) → IsMethod (p G) k md → md.form ≡ kinds.Instance → MayBeCalled (p G) f k md → T G M i (eval w e) (class_type md.class) → AllTypes G M i (eval_row w args) md.params → T G M i (meaning.call w f k (Some (eval w e)) (eval_row w args) site) md.result
  unfolding meaning.call part_or
  of_call_on call.Chosen k md e args site m s c d da = chosen_types G M i k md m s c (eval w e) (eval_row w args) site d da
  of_call_on call.Direct k md e args site m s c d da = direct_types G M i k md (eval w e) (eval_row w args) site m (ap (λ g. this_types g md.class) s) d da
  of_call_on call.Static k md e args site m s c d da = absurd c

  of_call : (f : CallForm) (k : ℕ) (receiver : Part) (on : Ty) (args : Row) (site : ℕ) (ty : Ty) → OfPart Typed receiver → OfRow Typed args → HasType (p G) locals (Call f k receiver on args site) ty → T G M i (eval w (Call f k receiver on args site)) ty
  unfolding eval eval_part meaning.call part_or
  of_call f k receiver on args site ty dr da (typing.called {m = md} m s b a) = ticked G M i _ ty (static_types G M i k md (eval_row w args) site m s (given_all args md.params da a))
  of_call f k receiver on args site ty dr da (typing.called_on {m = md} {receiver = e} m s c g r q a) = ticked G M i _ ty (of_call_on f k md e args site m s c (receives e on md.class dr g q) (given_all args md.params da a))
  of_call f k receiver on args site ty dr da (typing.begun {m = md} {receiver = e} m s b g a) = ticked G M i _ ty (direct_types G M i k md (eval w e) (eval_row w args) site m (not_static md.form md.class s) (given e _ dr g) (given_all args md.params da a))

  of_cat : (l r : Expression) (a b : Ty) (site : ℕ) (ty : Ty) → Typed l → Typed r → HasType (p G) locals (Cat l r a b site) ty → T G M i (eval w (Cat l r a b site)) ty
  unfolding eval
  of_cat l r a b site ty dl dr (typing.joined h k j) = ticked G M i _ ty (cat_types G M i (eval w l) (eval w r) site a b (dl.by _ h) (dr.by _ k))

  of_library : (o : LibOp) (args : Row) (site : ℕ) (ty : Ty) → OfRow Typed args → HasType (p G) locals (Lib o args site) ty → T G M i (eval w (Lib o args site)) ty
  unfolding eval
  of_library o args site ty d (typing.offered {params = ts} f a) = ticked G M i _ ty (library_types G M i (eval_row w args) site f (given_all args ts d a))

  pub step : (e : Expression) → Parts Typed e → Typed e
  step (Const v) d = record { by = of_constant v }
  step (Str k) d = record { by = of_str k }
  step (Read x) d = record { by = λ ty. of_read x ty d }
  step (Set x e site) d = record { by = λ ty. of_set x e site ty d.0 d.1 }
  step (Upd x o value value_ty place_ty wide gives_old site) d = record { by = λ ty. of_update x o value value_ty place_ty wide gives_old site ty d.0 d.1 }
  step (Un o e) d = record { by = λ ty. of_unary o e ty d }
  step (Bin o l r site) d = record { by = λ ty. of_binary o l r site ty d.0 d.1 }
  step (Conv to e) d = record { by = λ ty. of_conversion to e ty d }
  step (Cast to e site) d = record { by = λ ty. of_cast to e site ty d }
  step (InstanceOf of e) d = record { by = λ ty. of_instance_of of e ty d }
  step (Cond f t a b site) d = record { by = λ ty. of_conditional f t a b site ty d.0 d.1 d.2 }
  step (New c constructor args site) d = record { by = λ ty. of_creation c constructor args site ty d }
  step (NewArray of dims elements sites site) d = record { by = λ ty. of_array of dims elements sites site ty d.0 d.1 }
  step (Call f k receiver on args site) d = record { by = λ ty. of_call f k receiver on args site ty d.0 d.1 }
  step (Cat l r a b site) d = record { by = λ ty. of_cat l r a b site ty d.0 d.1 }
  step (Lib o args site) d = record { by = λ ty. of_library o args site ty d }

  -- so does every expression
  pub typed : (e : Expression) → Typed e
  typed e = of_expression Typed step e
