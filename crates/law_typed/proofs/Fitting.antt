-- Each body of the library fits its method.
use Rattle.std.proofs.Common.{◌≡◌, ℕ, zero, suc, ◌<◌, ◌≤◌, true, false, refl, sym, ap, subst, List, [], ◌∷◌, ◌++◌, length, Option, Some, None, arith, inl, inr}
use Rattle.std.specs.Prelude.{slice_get, codes}
use Rattle.std.specs.List.{All, Contains}
use Rattle.std.specs.Option.{option_to_list}
use Rattle.std.proofs.lemmas.List.Elements.{All-nil, All-cons}
use Rattle.wy_kernel.specs.declared.operator.BinOp.TheVariants as op
use Rattle.wy_kernel.specs.declared.types.Ty.{Ty}
use Rattle.wy_kernel.specs.declared.types.Ty.TheVariants.{Void}
use Rattle.wy_kernel.specs.declared.types.MethodForm.TheVariants as kind
use Rattle.wy_kernel.specs.declared.form.CallForm.TheVariants as call
use Rattle.wy_kernel.specs.Form as kernel
use Rattle.wy_kernel.specs.View.{NONE}
use Rattle.wy_kernel.specs.declared.form.LibOp.TheVariants as lib
use Rattle.wy_kernel.specs.Program.{Program, Class, Method, Body, Local, string_class, object_class}
use Rattle.wy_kernel.specs.Subtyping.{Below, same, declared, to_object, of_null, class_type, object_type, direct_supertypes, named_above}
use Rattle.wy_kernel.specs.Table.{BeginsWith}
use Rattle.wy_kernel.specs.Builtin as builtin
use Rattle.wy_kernel.specs.Builtin.{throwable_class}
use Rattle.wy_library.specs.Library.{library_bodies, this_form, other_form, library_local}
use Rattle.wy_library.specs.Library as library
use Rattle.wy_typing.specs.Types as types
use Rattle.wy_typing.specs.Types.{text_type}
use Rattle.wy_typing.specs.Expressions as typing
use Rattle.wy_typing.specs.Expressions.{HasType, HasBody, IsMethod}
use Rattle.wy_typing.specs.Programs.{IsTypeIn, IsBodyOf}
use Rattle.law_typed.specs.Library.{HasLibrary, LibraryFits}

the_same : {X : Type 0} {x y : X} → Some x ≡ Some y → x ≡ y
the_same e = cc

get_front : {X : Type 0} (xs ys : List X) (k : ℕ) (x : X) → slice_get xs k ≡ Some x → slice_get (xs ++ ys) k ≡ Some x
get_front [] ys k x e = absurd (cc)
get_front (z ∷ xs) ys zero x e = e
get_front (z ∷ xs) ys (suc k) x e = get_front xs ys k x e

at_front : {X : Type 0} (all xs : List X) (k : ℕ) (x : X) → BeginsWith all xs → slice_get xs k ≡ Some x → slice_get all k ≡ Some x
at_front {X} all xs k x h e = let P : List X → Type 0 = λ l. slice_get l k ≡ Some x in subst P (sym h.1) (get_front xs h.0 k x e)

library_many : (rest : List Class) → 18 ≤ length (builtin.classes ++ rest)
unfolding builtin.classes
library_many rest = omega arith

abbrev IsThere : Option (Option Body) → Type 0
IsThere (Some (Some b)) = Unit {0}
IsThere (Some None) = ⊥
IsThere None = ⊥

contained : (k : Class) (d : ℕ) → k.above ≡ Some d → Contains (named_above (Some k)) d
contained k d e = let P : Option ℕ → Type 0 = λ o. Contains (option_to_list o ++ k.interfaces) d in subst P (sym e) (0, omega arith, refl)

module _ (p : Program) (h : HasLibrary p) where
  many : 18 ≤ length p.classes
  many = omega (arith, library_many h.classes.0, ap length h.classes.1)

  has_body_by : (k : ℕ) (o : Option (Option Body)) → slice_get library_bodies k ≡ o → IsThere o → HasBody p k
  has_body_by k (Some (Some b)) e t = (b, at_front p.bodies library_bodies k (Some b) h.bodies e)
  has_body_by k (Some None) e t = absurd t
  has_body_by k None e t = absurd t

  has_body : (k : ℕ) → IsThere (slice_get library_bodies k) → HasBody p k
  has_body k t = has_body_by k (slice_get library_bodies k) refl t

  method_at : (k : ℕ) (m : Method) → slice_get builtin.methods k ≡ Some m → IsMethod p k m
  method_at k m e = at_front p.methods builtin.methods k m h.methods e

  up : (c d : ℕ) (k : Class) → slice_get builtin.classes c ≡ Some k → k.above ≡ Some d → Below p.classes (class_type c) (class_type d)
  unfolding direct_supertypes
  up c d k e is =
      let P : Option Class → Type 0 = λ o. Contains (named_above o) d in
      declared (subst P (sym (at_front p.classes builtin.classes c k h.classes e)) (contained k d is))

  class_in : (c : ℕ) → c < 18 → IsTypeIn p (class_type c)
  class_in c lt = record { variable = tt; known = omega (arith, lt, many) }

  one_local : (c : ℕ) → c < 18 → All (IsTypeIn p) (class_type c ∷ [])
  one_local c lt = All-cons (IsTypeIn p) (class_type c) [] (class_in c lt) (All-nil (IsTypeIn p))

  two_locals : (c d : ℕ) → c < 18 → d < 18 → All (IsTypeIn p) (class_type c ∷ class_type d ∷ [])
  two_locals c d lt less = All-cons (IsTypeIn p) (class_type c) (class_type d ∷ []) (class_in c lt) (one_local d less)

  -- ---- the constructors of the classes below Throwable

  calls : (locals : List Ty) (c d k : ℕ) (m : Method) (row : Class) (args : kernel.Row) (site : ℕ) → slice_get locals 0 ≡ Some (class_type c) → slice_get builtin.classes c ≡ Some row → row.above ≡ Some d → slice_get builtin.methods k ≡ Some m → m.form ≡ kind.Constructor → m.class ≡ d →
      IsThere (slice_get library_bodies k) → typing.GivesAll p locals args m.params → HasType p locals (kernel.Call call.Direct k (kernel.the this_form) (class_type d) args site) m.result
  calls locals c d k m row args site this is above found form own there given =
      let P : ℕ → Type 0 = λ x. HasType p locals (kernel.Call call.Direct k (kernel.the this_form) (class_type x) args site) m.result in
      let Q : ℕ → Type 0 = λ x. Below p.classes (class_type c) (class_type x) in
      subst P own (typing.begun (method_at k m found) (inl form) (has_body k there) (typing.fitting (typing.read (typing.local this)) (inr (tt, subst Q (sym own) (up c d row is above)))) given)

  -- a body by its locals and its parts
  abbrev made : ℕ → ℕ → ℕ → List Local → kernel.Statements → Body
  made m number class others parts = record {
    block = kernel.Stmt number (builtin.method_site m) false NONE (kernel.Block parts);
    locals = library_local m (codes "this") class ∷ others;
    end = builtin.method_site m;
  }

  plain_fits : (c d m k n q : ℕ) (row : Class) → c < 18 → n < 74 → q < 74 → slice_get builtin.classes c ≡ Some row → row.above ≡ Some d → slice_get builtin.methods k ≡ Some (builtin.constructor k d []) → IsThere (slice_get library_bodies k) →
      IsBodyOf p (builtin.constructor m c []) (made m n c [] (library.only (library.statement m q (library.superclass_called m k d kernel.none))))
  plain_fits c d m k n q row lt few less is above found there = record {
    locals = one_local c lt;
    begins = ([], refl);
    block = (
      omega (arith, h.statements, few),
      inl refl,
      (
        (
          omega (arith, h.statements, less),
          inl refl,
          (Void, calls (class_type c ∷ []) c d k (builtin.constructor k d []) row kernel.none (builtin.method_site m) refl is above found refl refl there typing.nothing),
        ),
        tt,
      ),
    );
  }

  message_fits : (c d m k n q : ℕ) (row : Class) → c < 18 → n < 74 → q < 74 → slice_get builtin.classes c ≡ Some row → row.above ≡ Some d → slice_get builtin.methods k ≡ Some (builtin.constructor k d (builtin.text ∷ [])) → IsThere (slice_get library_bodies k) →
      IsBodyOf p (builtin.constructor m c (builtin.text ∷ [])) (made m n c (library_local m (codes "m") string_class ∷ []) (library.only (library.statement m q (library.superclass_called m k d (library.one other_form)))))
  message_fits c d m k n q row lt few less is above found there = record {
    locals = two_locals c string_class lt (omega arith);
    begins = ([], refl);
    block = (
      omega (arith, h.statements, few),
      inl refl,
      (
        (
          omega (arith, h.statements, less),
          inl refl,
          (
            Void,
            calls (class_type c ∷ text_type ∷ []) c d k (builtin.constructor k d (builtin.text ∷ [])) row (library.one other_form) (builtin.method_site m) refl is above found refl refl there
                (typing.and_more (typing.fitting (typing.read (typing.local refl)) (inl refl)) typing.nothing),
          ),
        ),
        tt,
      ),
    );
  }

  -- ---- Object and Throwable

  this_object : (locals : List Ty) (c site : ℕ) → slice_get locals 0 ≡ Some (class_type c) → typing.GivesAll p locals (library.one this_form) (object_type ∷ [])
  this_object locals c site e = typing.and_more (typing.fitting (typing.read (typing.local e)) (inr (tt, to_object tt))) typing.nothing

  message_field : slice_get p.fields 0 ≡ Some (record { name = codes "message"; site = builtin.no_site; class = throwable_class; ty = builtin.text; is_static = false; is_final = false; is_fixed = false; is_private = true })
  unfolding builtin.fields
  message_field = at_front p.fields builtin.fields 0 _ h.fields refl

  message_place : (locals : List Ty) (site : ℕ) → slice_get locals 0 ≡ Some (class_type throwable_class) → typing.IsPlace p locals (kernel.Field this_form 0 site) text_type
  message_place locals site e = typing.field message_field refl (typing.fitting (typing.read (typing.local e)) (inl refl))

  to_string_fits : IsBodyOf p (builtin.instance 0 object_class (codes "toString") [] builtin.text) (made 0 0 object_class [] (library.only (library.statement 0 1 (kernel.Return (kernel.the (kernel.Lib lib.ObjectText (library.one this_form) (builtin.method_site 0)))))))
  to_string_fits = record {
    locals = one_local 0 (omega arith);
    begins = ([], refl);
    block = (omega (arith, h.statements), inl refl, ((omega (arith, h.statements), inl refl, (text_type, refl, tt, typing.fitting (typing.offered types.object_text (this_object (object_type ∷ []) 0 0 refl)) (inl refl))), tt));
  }

  equals_fits : IsBodyOf p (builtin.instance 1 object_class (codes "equals") (object_type ∷ []) types.boolean_type) (made 1 2 object_class (library_local 1 (codes "o") object_class ∷ []) (library.only (library.statement 1 3 (kernel.Return (kernel.the (kernel.Bin op.Eq this_form other_form (builtin.method_site 1)))))))
  equals_fits = record {
    locals = two_locals 0 0 (omega arith) (omega arith);
    begins = ([], refl);
    block = (
      omega (arith, h.statements),
      inl refl,
      (
        (
          omega (arith, h.statements),
          inl refl,
          (types.boolean_type, refl, tt, typing.fitting (typing.operated (typing.read (typing.local refl)) (typing.read (typing.local refl)) (types.on_references refl (inr tt) (inr tt) (types.up (inr tt) (inr tt) same))) (inl refl)),
        ),
        tt,
      ),
    );
  }

  throwable_fits : IsBodyOf p (builtin.constructor 2 throwable_class []) (made 2 4 throwable_class [] kernel.done)
  throwable_fits = record { locals = one_local throwable_class (omega arith); begins = ([], refl); block = (omega (arith, h.statements), inl refl, tt) }

  with_message_fits : IsBodyOf p (builtin.constructor 3 throwable_class (builtin.text ∷ [])) (made 3 5 throwable_class (library_local 3 (codes "m") string_class ∷ []) (library.only (library.statement 3 6 (kernel.Eval (kernel.Set (kernel.Field this_form 0 (builtin.method_site 3)) other_form (builtin.method_site 3))))))
  with_message_fits = record {
    locals = two_locals throwable_class string_class (omega arith) (omega arith);
    begins = ([], refl);
    block = (
      omega (arith, h.statements),
      inl refl,
      (
        (
          omega (arith, h.statements),
          inl refl,
          (text_type, typing.assigned (message_place (class_type throwable_class ∷ text_type ∷ []) (builtin.method_site 3) refl) (typing.fitting (typing.read (typing.local refl)) (inl refl))),
        ),
        tt,
      ),
    );
  }

  get_message_fits : IsBodyOf p (builtin.instance 4 throwable_class (codes "getMessage") [] builtin.text) (made 4 7 throwable_class [] (library.only (library.statement 4 8 (kernel.Return (kernel.the (kernel.Read (kernel.Field this_form 0 (builtin.method_site 4))))))))
  get_message_fits = record {
    locals = one_local throwable_class (omega arith);
    begins = ([], refl);
    block = (
      omega (arith, h.statements),
      inl refl,
      (
        (
          omega (arith, h.statements),
          inl refl,
          (text_type, refl, tt, typing.fitting (typing.read (message_place (class_type throwable_class ∷ []) (builtin.method_site 4) refl)) (inl refl)),
        ),
        tt,
      ),
    );
  }

  abbrev Two : List Ty
  Two = class_type throwable_class ∷ text_type ∷ []

  get_message : IsMethod p 4 (builtin.instance 4 throwable_class (codes "getMessage") [] builtin.text)
  unfolding builtin.methods builtin.first_methods
  get_message = method_at 4 _ refl

  class_text_typed : HasType p Two library.class_text text_type
  class_text_typed = typing.offered types.class_text (this_object Two throwable_class 0 refl)

  throwable_to_string_fits : IsBodyOf p (builtin.instance 5 throwable_class (codes "toString") [] builtin.text) (made 5 9 throwable_class (library_local 5 (codes "text") string_class ∷ []) (
      kernel.first (library.statement 5 10 library.message_asked) (kernel.first (kernel.Stmt 11 (builtin.method_site 5) false 9 library.without_message) (library.only (library.statement 5 13 library.with_message)))))
  throwable_to_string_fits = record {
    locals = two_locals throwable_class string_class (omega arith) (omega arith);
    begins = (text_type ∷ [], refl);
    block = (
      omega (arith, h.statements),
      inl refl,
      (
        (
          omega (arith, h.statements),
          inl refl,
          (
            text_type,
            typing.assigned (typing.local refl)
                (typing.fitting (typing.called_on get_message refl refl (typing.fitting (typing.read (typing.local refl)) (inl refl)) (tt, (class_in throwable_class (omega arith)).known) (inl refl) typing.nothing) (inl refl)),
          ),
        ),
        (
          (
            omega (arith, h.statements),
            inr (omega (arith, h.statements)),
            (
              typing.operated (typing.read (typing.local refl)) typing.constant (types.on_references refl (inr tt) (inl refl) (types.down (inr tt) (inl refl) (of_null tt))),
              (omega (arith, h.statements), inl refl, (text_type, refl, tt, typing.fitting class_text_typed (inl refl))),
              tt,
            ),
          ),
          (
            (
              omega (arith, h.statements),
              inl refl,
              (
                text_type,
                refl,
                tt,
                typing.fitting
                    (typing.joined (typing.joined class_text_typed (typing.text h.text) (inl (refl, tt))) (typing.read (typing.local refl)) (inl (refl, tt))) (inl refl),
              ),
            ),
            tt,
          ),
        ),
      ),
    );
  }

  -- ---- all

  abbrev Fits : Method → Option Body → Type 0
  Fits m None = Unit {0}
  Fits m (Some b) = IsBodyOf p m b

  abbrev AllFit : List Method → List (Option Body) → Type 0
  AllFit [] bs = Unit {0}
  AllFit (m ∷ ms) [] = Unit {0}
  AllFit (m ∷ ms) (b ∷ bs) = Fits m b × AllFit ms bs

  fits_at : (ms : List Method) (bs : List (Option Body)) (k : ℕ) (m : Method) (b : Body) → AllFit ms bs → slice_get ms k ≡ Some m → slice_get bs k ≡ Some (Some b) → IsBodyOf p m b
  fits_at [] bs k m b f e is = absurd (cc)
  fits_at (x ∷ xs) [] k m b f e is = absurd (cc)
  fits_at (x ∷ xs) (y ∷ ys) zero m b f e is =
      let P : Method → Type 0 = λ z. Fits z y in let Q : Option Body → Type 0 = λ z. Fits m z in
      subst Q (the_same is) (subst P (the_same e) f.0)
  fits_at (x ∷ xs) (y ∷ ys) (suc k) m b f e is = fits_at xs ys k m b f.1 e is

  all_fit : AllFit builtin.methods library_bodies
  unfolding builtin.methods builtin.first_methods builtin.classes library_bodies
  all_fit = (
    to_string_fits,
    (
      equals_fits,
      (
        throwable_fits,
        (
          with_message_fits,
          (
            get_message_fits,
            (
              throwable_to_string_fits,
              (
                plain_fits 3 2 6 2 14 15 (builtin.extending (Some 2) (codes "Exception")) (omega arith) (omega arith) (omega arith) refl refl refl tt,
                (
                  message_fits 3 2 7 3 16 17 (builtin.extending (Some 2) (codes "Exception")) (omega arith) (omega arith) (omega arith) refl refl refl tt,
                  (
                    plain_fits 4 2 8 2 18 19 (builtin.extending (Some 2) (codes "Error")) (omega arith) (omega arith) (omega arith) refl refl refl tt,
                    (
                      message_fits 4 2 9 3 20 21 (builtin.extending (Some 2) (codes "Error")) (omega arith) (omega arith) (omega arith) refl refl refl tt,
                      (
                        plain_fits 5 3 10 6 22 23 (builtin.extending (Some 3) (codes "RuntimeException")) (omega arith) (omega arith) (omega arith) refl refl refl tt,
                        (
                          message_fits 5 3 11 7 24 25 (builtin.extending (Some 3) (codes "RuntimeException")) (omega arith) (omega arith) (omega arith) refl refl refl tt,
                          (
                            plain_fits 6 5 12 10 26 27 (builtin.extending (Some 5) (codes "ArithmeticException")) (omega arith) (omega arith) (omega arith) refl refl refl tt,
                            (
                              message_fits 6 5 13 11 28 29 (builtin.extending (Some 5) (codes "ArithmeticException")) (omega arith) (omega arith) (omega arith) refl refl refl tt,
                              (
                                plain_fits 7 5 14 10 30 31 (builtin.extending (Some 5) (codes "ArrayStoreException")) (omega arith) (omega arith) (omega arith) refl refl refl tt,
                                (
                                  message_fits 7 5 15 11 32 33 (builtin.extending (Some 5) (codes "ArrayStoreException")) (omega arith) (omega arith) (omega arith) refl refl refl tt,
                                  (
                                    plain_fits 8 5 16 10 34 35 (builtin.extending (Some 5) (codes "ClassCastException")) (omega arith) (omega arith) (omega arith) refl refl refl tt,
                                    (
                                      message_fits 8 5 17 11 36 37 (builtin.extending (Some 5) (codes "ClassCastException")) (omega arith) (omega arith) (omega arith) refl refl refl tt,
                                      (
                                        plain_fits 9 5 18 10 38 39 (builtin.extending (Some 5) (codes "IllegalArgumentException")) (omega arith) (omega arith) (omega arith) refl refl refl tt,
                                        (
                                          message_fits 9 5 19 11 40 41 (builtin.extending (Some 5) (codes "IllegalArgumentException")) (omega arith) (omega arith) (omega arith) refl refl refl tt,
                                          (
                                            plain_fits 10 9 20 18 42 43 (builtin.extending (Some 9) (codes "NumberFormatException")) (omega arith) (omega arith) (omega arith) refl refl refl tt,
                                            (
                                              message_fits 10 9 21 19 44 45 (builtin.extending (Some 9) (codes "NumberFormatException")) (omega arith) (omega arith) (omega arith) refl refl refl tt,
                                              (
                                                plain_fits 11 5 22 10 46 47 (builtin.extending (Some 5) (codes "IllegalStateException")) (omega arith) (omega arith) (omega arith) refl refl refl tt,
                                                (
                                                  message_fits 11 5 23 11 48 49 (builtin.extending (Some 5) (codes "IllegalStateException")) (omega arith) (omega arith) (omega arith) refl refl refl tt,
                                                  (
                                                    plain_fits 12 5 24 10 50 51 (builtin.extending (Some 5) (codes "IndexOutOfBoundsException")) (omega arith) (omega arith) (omega arith) refl refl refl tt,
                                                    (
                                                      message_fits 12 5 25 11 52 53 (builtin.extending (Some 5) (codes "IndexOutOfBoundsException")) (omega arith) (omega arith) (omega arith) refl refl refl tt,
                                                      (
                                                        plain_fits 13 12 26 24 54 55 (builtin.extending (Some 12) (codes "ArrayIndexOutOfBoundsException")) (omega arith) (omega arith) (omega arith) refl refl refl tt,
                                                        (
                                                          message_fits 13 12 27 25 56 57 (builtin.extending (Some 12) (codes "ArrayIndexOutOfBoundsException")) (omega arith) (omega arith) (omega arith) refl refl refl tt,
                                                          (
                                                            plain_fits 14 12 28 24 58 59 (builtin.extending (Some 12) (codes "StringIndexOutOfBoundsException")) (omega arith) (omega arith) (omega arith) refl refl refl tt,
                                                            (
                                                              message_fits 14 12 29 25 60 61 (builtin.extending (Some 12) (codes "StringIndexOutOfBoundsException")) (omega arith) (omega arith) (omega arith) refl refl refl tt,
                                                              (
                                                                plain_fits 15 5 30 10 62 63 (builtin.extending (Some 5) (codes "NegativeArraySizeException")) (omega arith) (omega arith) (omega arith) refl refl refl tt,
                                                                (
                                                                  message_fits 15 5 31 11 64 65 (builtin.extending (Some 5) (codes "NegativeArraySizeException")) (omega arith) (omega arith) (omega arith) refl refl refl tt,
                                                                  (
                                                                    plain_fits 16 5 32 10 66 67 (builtin.extending (Some 5) (codes "NullPointerException")) (omega arith) (omega arith) (omega arith) refl refl refl tt,
                                                                    (
                                                                      message_fits 16 5 33 11 68 69 (builtin.extending (Some 5) (codes "NullPointerException")) (omega arith) (omega arith) (omega arith) refl refl refl tt,
                                                                      (
                                                                        plain_fits 17 5 34 10 70 71 (builtin.extending (Some 5) (codes "UnsupportedOperationException")) (omega arith) (omega arith) (omega arith) refl refl refl tt,
                                                                        (message_fits 17 5 35 11 72 73 (builtin.extending (Some 5) (codes "UnsupportedOperationException")) (omega arith) (omega arith) (omega arith) refl refl refl tt, tt),
                                                                      ),
                                                                    ),
                                                                  ),
                                                                ),
                                                              ),
                                                            ),
                                                          ),
                                                        ),
                                                      ),
                                                    ),
                                                  ),
                                                ),
                                              ),
                                            ),
                                          ),
                                        ),
                                      ),
                                    ),
                                  ),
                                ),
                              ),
                            ),
                          ),
                        ),
                      ),
                    ),
                  ),
                ),
              ),
            ),
          ),
        ),
      ),
    ),
  )

pub library_fits : LibraryFits
library_fits p k m b h e is = fits_at p h builtin.methods library_bodies k m b (all_fit p h) e is
