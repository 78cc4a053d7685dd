-- Each expression of a body keeps what is in range.
use Rattle.std.proofs.Common.{◌≡◌, ◌<◌, ◌≤◌, ◌+◌, inr, arith, ℕ, zero, suc, Bool, true, false, List, [], ◌∷◌, length, replicate, Option, Some, refl, sym, ap, ◌∙◌, subst}
use Rattle.std.specs.Prelude.{None as Absent}
use Rattle.std.specs.Prelude.{pos, ◌==◌, if◌then◌else◌}
use Rattle.std.specs.List.{AllByRecursion}
use Rattle.std.proofs.lemmas.Option.{slice_get_within}
use Rattle.wy_kernel.specs.declared.types.Base.{Base}
use Rattle.wy_kernel.specs.declared.types.Base.TheVariants.{Primitive as Basic, Class as Named}
use Rattle.wy_kernel.specs.declared.types.Ty.{Ty}
use Rattle.wy_kernel.specs.declared.types.Ty.TheVariants.{Void, Of}
use Rattle.wy_kernel.specs.declared.types.MethodForm.TheVariants as kinds
use Rattle.wy_kernel.specs.declared.operator.Primitive.{Primitive}
use Rattle.wy_kernel.specs.declared.operator.BinOp.{BinOp}
use Rattle.wy_kernel.specs.declared.operator.UnOp.{UnOp}
use Rattle.wy_kernel.specs.declared.form.LibOp.{LibOp}
use Rattle.wy_kernel.specs.declared.form.CondForm.{CondForm}
use Rattle.wy_kernel.specs.declared.form.CallForm.{CallForm}
use Rattle.wy_kernel.specs.declared.form.CallForm.TheVariants as call
use Rattle.wy_kernel.specs.Form as form
use Rattle.wy_kernel.specs.Form.{Constant, Expression, Const, Str, Read, Set, Upd, Un, Bin, Conv, Cast, InstanceOf, Cond, New, NewArray, Call, Cat, Lib, Place, Local, Static, Field, Elem, Part, absent, the, Row, none, more}
use Rattle.wy_kernel.specs.Program as part
use Rattle.wy_kernel.specs.Program.{Method, method, field, is_source, is_below, dispatch, class_of_type, object_class, string_class, type_code, base_code, element_type}
use Rattle.wy_kernel.specs.Subtyping.{class_type, object_type, primitive_type, same}
use Rattle.wy_kernel.specs.Table.{IsTypeOf}
use Rattle.wy_value.specs.declared.value.Value.{Value}
use Rattle.wy_value.specs.declared.value.Value.TheVariants as val
use Rattle.wy_value.specs.Conversion.{converted}
use Rattle.wy_value.specs.Operator.{binary_of, unary_of}
use Rattle.wy_event.specs.declared.record.Kind.TheVariants as kind
use Rattle.wy_event.specs.declared.record.Slot.TheVariants as slot
use Rattle.wy_steps.specs.State.{Carried, Run, Noted, Around, return, ◌>>=◌, ◌>>◌}
use Rattle.wy_kernel.specs.Limits.{element_limit}
use Rattle.wy_steps.specs.Steps.{Made, constant, tick, note, joined, with_value, value_of}
use Rattle.wy_meaning.specs.World.{World, plain, about, class_code, is_true, arm_of_truth, is_null, is_text, all_of}
use Rattle.wy_meaning.specs.Place.{Located, AtLocal, AtStatic, AtField, AtElem, initialize_source, initialize, static_spot, find, read_place, set_place, update_place, operated, primitive_of}
use Rattle.wy_meaning.specs.Text.{to_string, call_chosen, shown_as, shown, concatenated, cat, append_place}
use Rattle.wy_meaning.specs.Array.{any_negative, create_array, first_site, rest_sites, set_elements, create_filled, new_array}
use Rattle.wy_meaning.specs.Library.{library_form}
use Rattle.wy_meaning.specs.Call.{bound, equals, call_form, call_on, call_static, construct, create}
use Rattle.wy_meaning.specs.Expression.{constant_value, part_or, update, unary, binary, convert, cast, instance_of, arm, conditional, eval, locate, eval_part, eval_row}
use Rattle.wy_meaning.specs.Expression as meaning
use Rattle.wy_typing.specs.Types.{boolean_type, int_type, text_type, Fits}
use Rattle.wy_typing.specs.Expressions as typing
use Rattle.wy_typing.specs.Programs.{this_types}
use Rattle.wy_typing.specs.Expressions.{HasType, Gives, IsPlace, GivesAll, IsMethod, IsField, IsMade, MakesReady, MayBeCalled, fitting}
use Rattle.law_induction.specs.Law.{nothing, both, Entails, FrameKind, Region, In}
use Rattle.law_induction.specs.Forms.{OfPart, OfRow, OfPlace, Parts}
use Rattle.law_induction.proofs.Induction.{of_expression}
use Rattle.law_induction.proofs.Rules.{newest, before, trivially}
use Rattle.law_typed_states.specs.Typed.{Is, local_types}
use Rattle.law_typed_states.proofs.Values.{fits_is}
use Rattle.law_typed_states.proofs.Library.{class_code_is, to_string_method, to_string_is, equals_method, equals_is, text_methods}
use Rattle.law_typed_states.proofs.Law.{is}
use Rattle.law_typed_states.proofs.Rules.{Ground, A, p, Known, Does, asks, ticks, notes_test, notes_object, sets_slot}
use Rattle.law_typed_states.proofs.Rules as typed_rule
use Rattle.law_typed_states.proofs.Facts.{found_as, new_is, AllAre, all_are, called}
use Rattle.law_typed_states.proofs.Places.{Methods, world_of, of_type, Locates, finds, fetches, finds_type, may_initialize}
use Rattle.law_typed_states.proofs.Forms.{T, chosen_calls_at, object_is_object, shows, concatenates}
use Rattle.law_typed_states.proofs.Calls.{AllTypes, gives_all, one_method, calls_with, static_calls, Constructs, constructor_calls}
use Rattle.law_typed_states.proofs.Arrays.{makes_array, elements_are, element_place, element_stores, made_elements, array_made, one_less}
use Rattle.law_typed_states.proofs.Expressions as expression
use Rattle.wy_typing.specs.Sites.{Sited, PlaceSited, RowSited}
use Rattle.law_in_range.specs.InRange.{Text, IsSite, FixedInRange}
use Rattle.law_in_range.proofs.Facts.{C, always, fine, all_fine, spotted, drafted, constant_fine, with_value_fine, joined_fine, value_of_fine, chosen_fine}
use Rattle.law_in_range.proofs.Values.{binary_gives, operated_gives, unary_gives, converted_fixed, some_value, locals_known, field_known, field_class, method_class}
use Rattle.law_in_range.proofs.Bare as bare
use Rattle.law_in_range.proofs.Bare.{Bare}
use Rattle.law_in_range.proofs.Forms as plain_form
use Rattle.law_in_range.proofs.Forms.{Site, some, spot_fine}
use Rattle.law_in_range.proofs.Texts as plain_text
use Rattle.law_in_range.proofs.Texts.{MakesArrays, Nested, array}
use Rattle.law_in_range.proofs.Rules.{Full, bind, after, where_at, either, plainly, then_plainly, then_bare, bare_first, scopes}

-- what calls and initializations keep
pub record Inner (G : Ground) (W : Text) (M : Methods G) : Type 1 where
  pub calls : (J : ℕ → Type 0) (r : Region) (site m : ℕ) (receiver : Option (Carried (A G))) (args : List (Carried (A G))) (P : Known G) → Entails P (called G m receiver args) → IsSite W.tokens site → Entails P (all_fine G W (bound receiver args)) → Full G W J r P (M.call site m receiver args) (fine G W)
  pub enters : (J : ℕ → Type 0) (r : Region) (site c : ℕ) (P : Known G) → is_source c ≡ true → IsSite W.tokens site → c < length (p G).classes → Full G W J r P (M.enter site c) (λ t. nothing)

module _ (G : Ground) (W : Text) (J : ℕ → Type 0) (M : Methods G) (L : Inner G W M) where
  abbrev w : World (A G)
  w = world_of G M

  abbrev K : Type 0
  K = C G W

  abbrev V : Value → Known G
  V v = always G W (FixedInRange (p G) v)

  abbrev Ok : ℕ → Type 0
  Ok site = IsSite W.tokens site

  -- ---- classes

  starts : {r : Region} {P : Known G} (site c : ℕ) (source : Bool) → is_source c ≡ source → (source ≡ true → Ok site) → c < length (p G).classes → Full G W J r P (initialize_source w site c source) (λ t. nothing)
  unfolding initialize_source
  starts site c false e s lt = plainly G W J (bare.gives G W J tt trivially)
  starts {r = r} site c true e s lt = bare_first G W J (asks G c) (bare.asks G W J c) (λ going. either G W J going (λ q. plainly G W J (bare.gives G W J tt trivially)) (λ q. L.enters J r site c _ e (s refl) lt))

  -- the site is in range, where the class is one of the text
  pub initializes : {r : Region} {P : Known G} (site c : ℕ) → (is_source c ≡ true → Ok site) → c < length (p G).classes → Full G W J r P (initialize w site c) (λ t. nothing)
  unfolding initialize
  initializes site c s lt = starts site c (is_source c) refl s lt

  module _ (i : FrameKind) where
    abbrev Has : Expression → Ty → Type 0
    Has e ty = HasType (p G) (local_types (p G) i) e ty

    abbrev O : {X : Type 0} → Known G → Run (A G) X → (X → Known G) → Type 0
    O P m Q = Full G W J (In i) P m Q

    abbrev B : {X : Type 0} → Known G → Run (A G) X → (X → Known G) → Type 0
    B P m Q = Bare G W J (In i) P m Q

    abbrev F : K → Known G
    F c = fine G W c

    -- a run that gives a value
    pub record Good (m : Run (A G) K) : Type 1 where
      pub by : (P : Known G) → O P m F

    abbrev pub AllGood : List (Run (A G) K) → Type 1
    AllGood [] = Unit {1}
    AllGood (m ∷ ms) = Good m × AllGood ms

    all_good : (ms : List (Run (A G) K)) (ts : List Ty) (P : Known G) → AllTypes G M i ms ts → AllGood ms → O P (all_of ms) (all_fine G W)
    unfolding all_of
    all_good [] ts P d f = plainly G W J (bare.gives G W J [] (plain_text.none_fine G W J M))
    all_good (m ∷ ms) (t ∷ ts) P d f = bind G W J (d.0.by P) (f.0.by P) (λ v. then_bare G W J (all_good ms ts _ d.1 f.1) (λ vs. bare.gives G W J _ (plain_text.more_fine G W J M v vs (before _ _ (newest _ _)) (newest _ _))))
    all_good (m ∷ ms) [] P d f = absurd d.0

    fitted : {P : Known G} (a c : Ty) (v : Value) → Fits (p G).classes a c → Entails P (of_type G a v) → Entails P (of_type G c v)
    unfolding is
    fitted a c v f e = record { by = λ n h. fits_is (p G) n a c v f (e.by n h) }

    is_some : {P : Known G} (ty : Ty) (v : Value) → (ty ≡ Void → ⊥) → Entails P (of_type G ty v) → Entails P (some G W J M v)
    unfolding is
    is_some ty v n e = record { by = λ m h. some_value G m ty v n (e.by m h) }

    -- ---- places

    abbrev pub LocatedGood : Located (A G) → Type 1
    LocatedGood (AtLocal k) = (k < length (local_types (p G) i)) × Unit {1}
    LocatedGood (AtStatic k site) = Ok site × ((f : part.Field) × IsField (p G) k f × (f.is_static ≡ true)) × Unit {1}
    LocatedGood (AtField object k site) = Ok site × ((f : part.Field) × IsField (p G) k f × (f.is_static ≡ false) × T G M i object (class_type f.class)) × Good object
    LocatedGood (AtElem array index site) = Ok site × Good array × Good index

    static_good : {P : Known G} (k site : ℕ) (f : part.Field) → Ok site → IsField (p G) k f → f.is_static ≡ true → O P (static_spot w k site) (spot_fine G W J M)
    unfolding static_spot ◌>>◌ both spot_fine spotted fine constant
    static_good k site f s e h = then_bare G W J (initializes site (field (p G) k).class (λ q. s) (field_class G k f e)) (λ t. bare.gives G W J _ (record { by = λ n q. ((tt, (f, e, h)), (tt, tt)) }))

    finds_good : {P : Known G} (x : Located (A G)) (ty : Ty) → Locates G M i x ty → LocatedGood x → O P (find w x) (spot_fine G W J M)
    unfolding find
    finds_good (AtLocal k) ty d f = plainly G W J (plain_form.local_found G W J M i k f.0)
    finds_good (AtStatic k site) ty d f = static_good k site f.1.0 f.0 f.1.1 f.1.2
    finds_good {P = P} (AtField object k site) ty d f = then_plainly G W J (f.1.3.by P) (f.2.by P) (λ v. plain_form.field_found G W J M k site v f.1.0 f.0 f.1.1 f.1.2 (newest _ _) (before _ _ (newest _ _)))
    finds_good {P = P} (AtElem array index site) ty d f = bind G W J (d.3.by P) (f.1.by P) (λ a. then_bare G W J (f.2.by _) (λ k. plain_form.element_found G W J M site a k _ f.0 (before _ _ (newest _ _)) (newest _ _) (before _ _ (before _ _ (newest _ _)))))

    reads_good : {P : Known G} (x : Located (A G)) (ty : Ty) → Locates G M i x ty → LocatedGood x → O P (read_place w x) F
    unfolding read_place
    reads_good x ty d f = then_bare G W J (finds_good x ty d f) (λ s. plain_form.fetches G W J M s (newest _ _))

    sets_good : {P : Known G} (x : Located (A G)) (m : Run (A G) K) (site : ℕ) (ty : Ty) → Ok site → (ty ≡ Void → ⊥) → Locates G M i x ty → T G M i m ty → LocatedGood x → Good m → O P (set_place w x m site) F
    unfolding set_place
    sets_good {P = P} (AtLocal k) m site ty s n d dm f g = then_plainly G W J (dm.by P) (g.by P) (λ v. bare.bind G W J (plain_form.local_found G W J M i k f.0) (λ x. plain_form.stores G W J M site x v s (newest _ _) (before _ _ (newest _ _)) (before _ _ (before _ _ (is_some ty v.value n (newest _ _))))))
    sets_good {P = P} (AtStatic k at) m site ty s n d dm f g = bind G W J (dm.by P) (g.by P) (λ v. then_bare G W J (static_good k at f.1.0 f.0 f.1.1 f.1.2) (λ x. plain_form.stores G W J M site x v s (newest _ _) (before _ _ (newest _ _)) (before _ _ (before _ _ (is_some ty v.value n (newest _ _))))))
    sets_good {P = P} (AtField object k at) m site ty s n d dm f g = bind G W J (f.1.3.by P) (f.2.by P) (λ u. then_plainly G W J (dm.by _) (g.by _) (λ v.
        bare.bind G W J (plain_form.field_found G W J M k at u f.1.0 f.0 f.1.1 f.1.2 (before _ _ (before _ _ (newest _ _))) (before _ _ (before _ _ (before _ _ (newest _ _))))) (λ x. plain_form.stores G W J M site x v s (newest _ _) (before _ _ (newest _ _)) (before _ _ (before _ _ (is_some ty v.value n (newest _ _)))))))
    sets_good {P = P} (AtElem array index at) m site ty s n d dm f g = bind G W J (d.3.by P) (f.1.by P) (λ a. bind G W J (d.4.by _) (f.2.by _) (λ k. then_plainly G W J (dm.by _) (g.by _) (λ v.
        bare.bind G W J (plain_form.element_found G W J M at a k _ f.0 (before _ _ (before _ _ (before _ _ (before _ _ (newest _ _))))) (before _ _ (before _ _ (newest _ _))) (before _ _ (before _ _ (before _ _ (before _ _ (before _ _ (newest _ _))))))) (λ x. plain_form.stores G W J M site x v s (newest _ _) (before _ _ (newest _ _)) (before _ _ (before _ _ (is_some ty v.value n (newest _ _))))))))

    if_good : {P : Known G} (b : Bool) (x y : K) → Entails P (F x) → Entails P (F y) → Entails P (F (if b then x else y))
    if_good true x y e f = e
    if_good false x y e f = f

    updates_good : {P : Known G} (x : Located (A G)) (op : BinOp) (m : Run (A G) K) (to : Ty) (wide : Primitive) (gives_old : Bool) (site : ℕ) → Ok site → Locates G M i x to → LocatedGood x → Good m → O P (update_place w x op m to wide gives_old site) F
    unfolding update_place with_value
    updates_good x op m to wide gives_old site s d f g = bind G W J (finds G M i x to d) (finds_good x to d f) (λ at. bind G W J (fetches G M i at to (before _ _ (newest _ _))) (plainly G W J (plain_form.fetches G W J M at (newest _ _))) (λ old. then_bare G W J (g.by _) (λ v.
        bare.bind G W J (plain_form.divides G W J M site (joined val.None old v) (operated op wide old.value v.value) s (joined_fine G W val.None old v tt (before _ _ (newest _ _)) (newest _ _)) (λ x q. operated_gives (p G) op wide old.value v.value x q)) (λ new.
        bare.bind G W J (plain_form.assigns G W J M site at (with_value (primitive_of to new.value) new) s (before _ _ (before _ _ (before _ _ (before _ _ (newest _ _))))) (plain_form.brought G W J M to new (newest _ _)) (plain_form.brought_some G W J M to new (newest _ _))) (λ set.
        bare.gives G W J _ (if_good gives_old old set (before _ _ (before _ _ (before _ _ (newest _ _)))) (newest _ _)))))))

    -- ---- calls that the class of the receiver decides

    pub chosen_good : {P : Known G} (k : ℕ) (md : Method) → IsMethod (p G) k md → md.form ≡ kinds.Instance → md.is_private ≡ false → (site : ℕ) (v : K) (args : List K) (n : ℕ) → Ok site → v.value ≡ val.Object n → Entails P (of_type G (class_type md.class) v.value) → Entails P (all_are G md.params args) → Entails P (F v) → Entails P (all_fine G W args) → O P (call_chosen w site k v args) F
    unfolding call_chosen called found_as all_are is both bound
    chosen_good k md m f public site v args n s e h a fv fa = bare_first G W J (finds_type G M (class_type md.class) v.value h) (plain_form.finds_type G W J M v.value) (λ found.
        L.calls J (In i) site (dispatch (p G) k (class_of_type found)) (Some v) args _ (record { by = λ n1 q. chosen_calls_at G M i k md m f public n1 v args n found e (h.by n1 q.0.0) q.0.1 (a.by n1 q.0.0) }) s (before _ _ (before _ _ (plain_text.more_fine G W J M v args fv fa))))

    -- ---- texts

    shows_as_good : {P : Known G} (site : ℕ) (v : K) (x : Value) (ty : Ty) → Ok site → v.value ≡ x → Entails P (of_type G ty v.value) → Entails P (F v) → O P (shown_as w site v x) F
    unfolding shown_as is all_are
    shows_as_good site v (val.Object n) ty s e h f = chosen_good to_string to_string_method (to_string_is (p G) G.fits.declarations.library_methods) refl refl site v [] n s e
        (record { by = λ n1 q. subst (λ u. Is (p G) n1 object_type u) (sym e) (object_is_object G M i n1 ty n (subst (λ u. Is (p G) n1 ty u) e (h.by n1 q))) }) (record { by = λ n1 q. tt }) f (plain_text.none_fine G W J M)
    shows_as_good site v _ ty s e h f = plainly G W J (bare.gives G W J v f)

    pub shows_good : {P : Known G} (site : ℕ) (v : K) (ty : Ty) → Ok site → Entails P (of_type G ty v.value) → Entails P (F v) → O P (shown w site v) F
    unfolding shown
    shows_good site v ty s h f = shows_as_good site v v.value ty s refl h f

    concatenates_good : {P : Known G} (site : ℕ) (x y : K) (a c : Ty) → Ok site → Entails P (of_type G a x.value) → Entails P (of_type G c y.value) → Entails P (F x) → Entails P (F y) → O P (concatenated w site x y) F
    unfolding concatenated
    concatenates_good site x y a c s e f fx fy = bind G W J (shows G M i site x a e) (shows_good site x a s e fx) (λ l. then_bare G W J (shows_good site y c s (before _ _ (before _ _ f)) (before _ _ (before _ _ fy))) (λ r.
        bare.next G W J (plain_text.spells G W J M l.value) (λ us. bare.next G W J (plain_text.spells G W J M r.value) (λ vs. plain_text.makes_text G W J M site _ _ s (joined_fine G W val.None l r tt (before _ _ (newest _ _)) (newest _ _))))))

    cat_good : (l r : Run (A G) K) (site : ℕ) (a c : Ty) → Ok site → T G M i l a → T G M i r c → Good l → Good r → Good (cat w l r site)
    unfolding cat
    cat_good l r site a c s dl dr fl fr = record { by = λ P. bind G W J (dl.by P) (fl.by P) (λ x. bind G W J (dr.by _) (fr.by _) (λ y. concatenates_good site x y a c s (before _ _ (before _ _ (before _ _ (newest _ _)))) (before _ _ (newest _ _)) (before _ _ (before _ _ (newest _ _))) (newest _ _))) }

    append_good : (x : Located (A G)) (m : Run (A G) K) (site : ℕ) (ty from : Ty) → Ok site → Locates G M i x ty → T G M i m from → LocatedGood x → Good m → Good (append_place w x m site)
    unfolding append_place
    append_good x m site ty from s d dm f g = record {
      by = λ P. bind G W J (finds G M i x ty d) (finds_good x ty d f) (λ at. bind G W J (fetches G M i at ty (before _ _ (newest _ _))) (plainly G W J (plain_form.fetches G W J M at (newest _ _))) (λ old. bind G W J (dm.by _) (g.by _) (λ v.
          then_plainly G W J (concatenates G M i site old v ty from (before _ _ (before _ _ (before _ _ (newest _ _)))) (before _ _ (newest _ _)))
          (concatenates_good site old v ty from s (before _ _ (before _ _ (before _ _ (newest _ _)))) (before _ _ (newest _ _)) (before _ _ (before _ _ (newest _ _))) (newest _ _))
          (λ t. plain_form.stores G W J M site at t s (before _ _ (before _ _ (before _ _ (before _ _ (before _ _ (before _ _ (newest _ _))))))) (newest _ _) (before _ _ (is_some text_type t.value (λ e. cc e) (newest _ _)))))));
    }

    -- ---- calls

    object_good : {P : Known G} (k : ℕ) (md : Method) (site : ℕ) (r : K) (x : Value) (vs : List K) → Ok site → IsMethod (p G) k md → md.form ≡ kinds.Instance → md.is_private ≡ false → r.value ≡ x → is_text x ≡ false → is_null x ≡ false → Entails P (of_type G (class_type md.class) r.value) → Entails P (all_are G md.params vs) → Entails P (F r) → Entails P (all_fine G W vs) → O P (call_chosen w site k r vs) F
    unfolding is is_text is_null
    object_good k md site r (val.Object n) vs s m f public e t u h a fr fa = chosen_good k md m f public site r vs n s e h a fr fa
    object_good k md site r (val.Text n) vs s m f public e t u h a fr fa = absurd (cc t)
    object_good k md site r (val.Fixed n) vs s m f public e t u h a fr fa = absurd (cc t)
    object_good k md site r val.Null vs s m f public e t u h a fr fa = absurd (cc u)
    object_good k md site r val.None vs s m f public e t u h a fr fa = where_at G W J (λ z at. absurd (let y = subst (λ (u : Value). Is (p G) z.noted (class_type md.class) u) e (h.by z.noted at.known) in cc y))
    object_good k md site r (val.Bool x) vs s m f public e t u h a fr fa = where_at G W J (λ z at. absurd (let y = subst (λ (u : Value). Is (p G) z.noted (class_type md.class) u) e (h.by z.noted at.known) in cc y))
    object_good k md site r (val.Byte x) vs s m f public e t u h a fr fa = where_at G W J (λ z at. absurd (let y = subst (λ (u : Value). Is (p G) z.noted (class_type md.class) u) e (h.by z.noted at.known) in cc y))
    object_good k md site r (val.Short x) vs s m f public e t u h a fr fa = where_at G W J (λ z at. absurd (let y = subst (λ (u : Value). Is (p G) z.noted (class_type md.class) u) e (h.by z.noted at.known) in cc y))
    object_good k md site r (val.Char x) vs s m f public e t u h a fr fa = where_at G W J (λ z at. absurd (let y = subst (λ (u : Value). Is (p G) z.noted (class_type md.class) u) e (h.by z.noted at.known) in cc y))
    object_good k md site r (val.Int x) vs s m f public e t u h a fr fa = where_at G W J (λ z at. absurd (let y = subst (λ (u : Value). Is (p G) z.noted (class_type md.class) u) e (h.by z.noted at.known) in cc y))
    object_good k md site r (val.Long x) vs s m f public e t u h a fr fa = where_at G W J (λ z at. absurd (let y = subst (λ (u : Value). Is (p G) z.noted (class_type md.class) u) e (h.by z.noted at.known) in cc y))
    object_good k md site r (val.Arm n) vs s m f public e t u h a fr fa = where_at G W J (λ z at. absurd (subst (λ (u : Value). Is (p G) z.noted (class_type md.class) u) e (h.by z.noted at.known)))

    chosen_call_good : (k : ℕ) (md : Method) (receiver : Run (A G) K) (args : List (Run (A G) K)) (site : ℕ) (ty : Ty) → Ok site → IsMethod (p G) k md → md.form ≡ kinds.Instance → md.is_private ≡ false → T G M i receiver ty → Fits (p G).classes ty (class_type md.class) → AllTypes G M i args md.params → Good receiver → AllGood args → Good (call_on w call.Chosen k receiver args site)
    unfolding call_on call_form
    chosen_call_good k md receiver args site ty s m f public d fits da g ga = record {
      by = λ P. bind G W J (d.by P) (g.by P) (λ r. bind G W J (gives_all G M i args md.params _ da) (all_good args md.params _ da ga) (λ vs.
          either G W J (is_null r.value) (λ e. plainly G W J (plain_form.null_fails G W J M site r s (before _ _ (before _ _ (newest _ _))))) (λ e.
          either G W J (is_text r.value) (λ t. plainly G W J (plain_text.on_text G W J M (k == equals) r vs (before _ _ (before _ _ (newest _ _))) (newest _ _)))
          (λ t. object_good k md site r r.value vs s m f public refl t e (fitted ty (class_type md.class) r.value fits (before _ _ (before _ _ (before _ _ (newest _ _))))) (before _ _ (newest _ _)) (before _ _ (before _ _ (newest _ _))) (newest _ _)))));
    }

    direct_good : (k : ℕ) (md : Method) (receiver : Run (A G) K) (args : List (Run (A G) K)) (site : ℕ) → Ok site → IsMethod (p G) k md → this_types md.form md.class ≡ class_type md.class ∷ [] → T G M i receiver (class_type md.class) → AllTypes G M i args md.params → Good receiver → AllGood args → Good (call_on w call.Direct k receiver args site)
    unfolding call_on call_form called all_are is both bound
    direct_good k md receiver args site s m t d da g ga = record {
      by = λ P. bind G W J (d.by P) (g.by P) (λ r. bind G W J (gives_all G M i args md.params _ da) (all_good args md.params _ da ga) (λ vs.
          either G W J (is_null r.value) (λ q. plainly G W J (plain_form.null_fails G W J M site r s (before _ _ (before _ _ (newest _ _))))) (λ q.
          L.calls J (In i) site k (Some r) vs _ (record { by = λ n h. calls_with G M i n k md r vs m t h.0.0.0.1 h.0.1 }) s (plain_text.more_fine G W J M r vs (before _ _ (before _ _ (newest _ _))) (newest _ _)))));
    }

    static_call_good : (k : ℕ) (md : Method) (args : List (Run (A G) K)) (site : ℕ) → Ok site → IsMethod (p G) k md → md.form ≡ kinds.Static → AllTypes G M i args md.params → AllGood args → Good (call_static w k args site)
    unfolding call_static called all_are both bound ◌>>◌
    static_call_good k md args site s m f da ga = record {
      by = λ P. bind G W J (gives_all G M i args md.params _ da) (all_good args md.params _ da ga) (λ vs. bind G W J (may_initialize G M site (method (p G) k).class) (initializes site (method (p G) k).class (λ q. s) (method_class G k md m)) (λ u.
          L.calls J (In i) site k Absent vs _ (record { by = λ n h. static_calls G M i n k md vs m f h.0.0.0.1 }) s (before _ _ (before _ _ (newest _ _)))));
    }

    -- ---- creation

    constructs_good : {P : Known G} (site c : ℕ) (k : Option ℕ) (params : List Ty) (v : K) (args : List K) → Ok site → Constructs G M i c k params → Entails P (of_type G (class_type c) v.value) → Entails P (all_are G params args) → Entails P (F v) → Entails P (all_fine G W args) → O P (construct w site k v args) (λ t. nothing)
    unfolding construct called is all_are bound
    constructs_good site c Absent params v args s h e a fv fa = plainly G W J (bare.gives G W J tt trivially)
    constructs_good site c (Some k) params v args s h e a fv fa = then_bare G W J (L.calls J (In i) site k (Some v) args _ (record { by = λ n q. constructor_calls G M i n c k h.0 params v args h.1 h.2 h.3 (e.by n q) (a.by n q) }) s (plain_text.more_fine G W J M v args fv fa)) (λ u. bare.gives G W J tt trivially)

    create_good : (c : ℕ) (k : Option ℕ) (params : List Ty) (args : List (Run (A G) K)) (site : ℕ) → Ok site → IsMade (p G) c → (c ≡ string_class → ⊥) → Constructs G M i c k params → AllTypes G M i args params → AllGood args → Good (create w c k args site)
    unfolding create value_of ◌>>◌
    create_good c k params args site s m n h da ga =
        let lt = slice_get_within (p G).classes c m.0 m.1 in
        let code = class_code_is (length (p G).classes) c G.library.few lt in
        record {
          by = λ P. bind G W J (may_initialize G M site c) (initializes site c (λ q. s) lt) (λ t. bind G W J (notes_object G site (class_code c) (constant val.None)) (plainly G W J (bare.creates_new G W J (about kind.New site (class_code c) val.None) (constant val.None) (plain_form.object_draft G W J M site c s lt n) (constant_fine G W val.None tt))) (λ e.
              bind G W J (gives_all G M i args params _ da) (all_good args params _ da ga) (λ vs. then_bare G W J (constructs_good site c k params (value_of e (val.Object e.number)) vs s h
              (before _ _ (before _ _ (before _ _ (new_is G e site (class_code c) val.None (class_type c) (class_type c) (newest _ _) code (record { reference = tt; concrete = m; below = same }))))) (before _ _ (newest _ _)) (value_of_fine G W e _ tt) (newest _ _))
              (λ t. bare.gives G W J _ (value_of_fine G W e _ tt)))));
        }

    -- ---- arrays

    objects_of : (base : Base) (n m : ℕ) → IsTypeOf (length (p G).classes) (Of base m) → MakesArrays G W J M (Of base (suc n))
    unfolding type_code base_code
    objects_of (Named c) n m known = record { objects = known; array = omega arith }
    objects_of (Basic q) n m known = record { objects = tt; array = omega arith }

    nested_from : (n : List (Noted (A G))) (base : Base) (m brackets k : ℕ) (ds : List K) → IsTypeOf (length (p G).classes) (Of base k) → m ≤ brackets → AllAre G n (replicate m int_type) ds → Nested G W J M (Of base brackets) ds
    nested_from n base m brackets k [] known le h = tt
    nested_from n base zero brackets k (d ∷ ds) known le h = absurd h
    nested_from n base (suc m) zero k (d ∷ ds) known le h = absurd (omega (arith, le))
    nested_from n base (suc m) (suc brackets) k (d ∷ ds) known le h = (objects_of base brackets k known, subst (λ t. Nested G W J M t ds) (sym (one_less G M base brackets)) (nested_from n base m brackets k ds known (omega (arith, le)) h.1))

    array_good : (base : Base) (brackets n : ℕ) (dims : List (Run (A G) K)) (site : ℕ) → Ok site → n < brackets → IsTypeOf (length (p G).classes) (Of base brackets) → AllTypes G M i dims (replicate (suc n) int_type) → AllGood dims → Good (create_array w (Of base brackets) dims site)
    unfolding create_array all_are both
    array_good base brackets n dims site s lt known d f = record {
      by = λ P. bind G W J (gives_all G M i dims _ _ d) (all_good dims _ _ d f) (λ ds. either G W J (any_negative ds) (λ e. plainly G W J (plain_form.size_fails G W J M site _ s (plain_text.together_fine G W J M ds (newest _ _)))) (λ e.
          where_at G W J (λ z at. plainly G W J (plain_text.makes_arrays G W J M site (Of base brackets) ds s (nested_from z.noted base (suc n) brackets brackets ds known (omega (arith, lt)) at.known.0.1) (newest _ _)))));
    }

    set_value : {P : Known G} (e : Made (A G)) (v : K) → Entails P (F v) → Entails P (F (joined v.value (value_of e (val.Object e.number)) v))
    unfolding fine joined value_of
    set_value e v f = record { by = λ n q. ((f.by n q).0, (tt, (f.by n q).1)) }

    elements_good : (ms : List (Run (A G) K)) (sites : List ℕ) (e : Made (A G)) (k count : ℕ) (base : Base) (brackets : ℕ) (P : Known G) → AllByRecursion Ok sites → k + length ms ≤ count → Entails P (elements_are G M e.number (Of base brackets)) → Entails P (array G W J M e.number) → Entails P (always G W (count ≤ element_limit)) → AllTypes G M i ms (replicate (length sites) (Of base brackets)) → AllGood ms → O P (set_elements e k sites ms) (λ t. nothing)
    unfolding set_elements first_site rest_sites
    elements_good [] sites e k count base brackets P s lt r a few d f = plainly G W J (bare.gives G W J tt trivially)
    elements_good (m ∷ ms) [] e k count base brackets P s lt r a few d f = absurd d.0
    elements_good (m ∷ ms) (site ∷ sites) e k count base brackets P s lt r a few d f = bind G W J (d.0.by P) (f.0.by P) (λ v. bind G W J
        (sets_slot G site (slot.Elem e.number k) v.value _ (element_place G M e.number k (Of base brackets) (before _ _ (before _ _ r))) (element_stores G M e.number k (Of base brackets) v.value (before _ _ (before _ _ r)) (before _ _ (newest _ _))))
        (plainly G W J (bare.writes G W J _ _ (plain_form.set_draft G W J M site (slot.Elem e.number k) v s.0 (plain_text.element_place G W J M e.number k count (omega (arith, lt)) (before _ _ (before _ _ a)) (before _ _ (before _ _ few))) (newest _ _) (is_some (Of base brackets) v.value (λ q. cc q) (before _ _ (newest _ _)))) (set_value e v (newest _ _))))
        (λ set. elements_good ms sites e (suc k) count base brackets _ s.1 (omega (arith, lt)) (before _ _ (before _ _ (before _ _ (before _ _ r)))) (before _ _ (before _ _ (before _ _ (before _ _ a)))) (before _ _ (before _ _ (before _ _ (before _ _ few)))) d.1 f.1))

    filled_good : (base : Base) (brackets : ℕ) (ms : List (Run (A G) K)) (sites : List ℕ) (site : ℕ) → Ok site → AllByRecursion Ok sites → IsTypeOf (length (p G).classes) (Of base brackets) → AllTypes G M i ms (replicate (length sites) (Of base brackets)) → AllGood ms → Good (create_filled w (Of base (suc brackets)) ms sites site)
    unfolding create_filled both ◌>>◌
    filled_good base brackets ms sites site s ss known d f =
        let made = array_made G M base brackets brackets known in
        record {
          by = λ P. bind G W J (makes_array G M site (Of base (suc brackets)) (length ms) (constant val.None)) (plainly G W J (plain_text.makes_array G W J M site (Of base (suc brackets)) (length ms) (constant val.None) s (objects_of base brackets brackets known) (constant_fine G W val.None tt))) (λ e.
              then_bare G W J (elements_good ms sites e 0 (length ms) base brackets _ ss (omega arith) (before _ _ (made_elements G M e site (Of base (suc brackets)) (length ms) (Of base brackets) (newest _ _) (λ m q. (made.code, one_less G M base brackets)))) (record { by = λ n q. q.1.0 }) (record { by = λ n q. q.1.1 }) d f) (λ t. bare.gives G W J _ (value_of_fine G W e _ tt)));
        }

    -- ---- conditions

    abbrev ArmGood : Option (Run (A G) K) → Type 1
    ArmGood Absent = Unit {1}
    ArmGood (Some m) = Good m

    arm_value : {P : Known G} (e : Made (A G)) (v : K) → Entails P (F v) → Entails P (F (value_of e v.value))
    unfolding fine value_of
    arm_value e v f = record { by = λ n q. ((f.by n q).0, (tt, tt)) }

    arm_good : {P : Known G} (e : Made (A G)) (v : K) (m : Option (Run (A G) K)) → Entails P (F v) → ArmGood m → O P (arm e v.value m) F
    unfolding arm
    arm_good e v Absent f h = plainly G W J (bare.gives G W J _ (arm_value e v f))
    arm_good {P = P} e v (Some m) f h = then_bare G W J (h.by P) (λ c. bare.gives G W J _ (chosen_fine G W e c (newest _ _)))

    pub two_arms : (c : Bool) → arm_of_truth c < 2
    unfolding arm_of_truth
    two_arms true = omega arith
    two_arms false = omega arith

    pub test_draft : {P : Known G} (site n : ℕ) → Ok site → n < 2 → Entails P (drafted G W (plain kind.Test site (val.Arm n)))
    unfolding drafted plain
    test_draft site n s few = record { by = λ m q. record { site = s; entity = tt; slot = tt; value = few; fixed = tt; quiet = tt } }

    conditional_good : (test : Run (A G) K) (a d : Option (Run (A G) K)) (site : ℕ) → Ok site → T G M i test boolean_type → Good test → ArmGood a → ArmGood d → Good (conditional test a d site)
    unfolding conditional
    conditional_good test a d site s dt ft fa fd = record {
      by = λ P. scopes G W J (bind G W J (dt.by P) (ft.by P) (λ v.
          let draft = plain kind.Test site (val.Arm (arm_of_truth (is_true v.value))) in
          bind G W J (notes_test G Around site _ v) (plainly G W J (bare.enters G W J (note draft v) Around draft v (bare.note_adds G W J draft v) (test_draft site _ s (two_arms _)) (newest _ _))) (λ e.
          either G W J (is_true v.value) (λ q. arm_good e v a (before _ _ (before _ _ (newest _ _))) fa) (λ q. arm_good e v d (before _ _ (before _ _ (newest _ _))) fd))));
    }

    -- ---- each form

    -- where its sites are in range, for each type that it has
    pub record Keeps (e : Expression) : Type 1 where
      pub by : Sited Ok e → (ty : Ty) → Has e ty → Good (eval w e)

    typed_as : (e : Expression) (ty : Ty) → Has e ty → T G M i (eval w e) ty
    typed_as e ty h = (expression.typed G M i e).by ty h

    ticked : (m : Run (A G) K) → Good m → Good (tick >> m)
    ticked m h = record { by = λ P. after G W J (ticks G) (plainly G W J (bare.ticks G W J)) (λ P. h.by P) }

    given_good : (e : Expression) (ty : Ty) → Keeps e → Sited Ok e → Gives (p G) (local_types (p G) i) e ty → Good (eval w e)
    given_good e ty d s (fitting {a = a} g f) = d.by s a g

    given_typed : (e : Expression) (ty : Ty) → Gives (p G) (local_types (p G) i) e ty → T G M i (eval w e) ty
    given_typed e ty g = expression.given G M i e ty (expression.typed G M i e) g

    rows_typed : (row : Row) (ts : List Ty) → GivesAll (p G) (local_types (p G) i) row ts → AllTypes G M i (eval_row w row) ts
    rows_typed row ts h = expression.given_all G M i row ts (row_of row) h
      where
        row_of : (row : Row) → OfRow (expression.Typed G M i) row
        row_of none = tt
        row_of (more e rest) = (expression.typed G M i e, row_of rest)

    rows_good : (row : Row) (ts : List Ty) → OfRow Keeps row → RowSited Ok row → GivesAll (p G) (local_types (p G) i) row ts → AllGood (eval_row w row)
    unfolding eval_row
    rows_good none ts d s g = tt
    rows_good (more e rest) (t ∷ ts) d s (typing.and_more g gs) = (given_good e t d.0 s.0 g, rows_good rest ts d.1 s.1 gs)
    rows_good (more e rest) [] d s g = elim g [ ]

    located_typed : (x : Place) (ty : Ty) → IsPlace (p G) (local_types (p G) i) x ty → Locates G M i (locate w x) ty
    located_typed x ty h = expression.located G M i x ty (place_of x) h
      where
        place_of : (x : Place) → OfPlace (expression.Typed G M i) x
        place_of (Local k) = tt
        place_of (Static k site) = tt
        place_of (Field object k site) = expression.typed G M i object
        place_of (Elem array index site) = (expression.typed G M i array, expression.typed G M i index)

    located_good : (x : Place) (ty : Ty) → OfPlace Keeps x → PlaceSited Ok x → IsPlace (p G) (local_types (p G) i) x ty → LocatedGood (locate w x)
    unfolding locate
    located_good (Local k) ty d s (typing.local e) = (slice_get_within (local_types (p G) i) k ty e, tt)
    located_good (Static k site) ty d s (typing.static {f = f} e h) = (s, (f, e, h), tt)
    located_good (Field object k site) ty d s (typing.field {f = f} e h g) = (s.0, (f, e, h, given_typed object _ g), given_good object _ d s.1 g)
    located_good (Elem array index site) ty d s (typing.element {base = c} {brackets = n} g k) = (s.0, d.0.by s.1 _ g, d.1.by s.2 _ k)

    -- a place has a type that values have
    place_known : (x : Place) (ty : Ty) → IsPlace (p G) (local_types (p G) i) x ty → ty ≡ Void → ⊥
    place_known (Local k) ty (typing.local e) q = locals_known G i k ty e q
    place_known (Static k site) ty (typing.static {f = f} e h) q = field_known G k f e q
    place_known (Field object k site) ty (typing.field {f = f} e h g) q = field_known G k f e q
    place_known (Elem array index site) ty (typing.element {base = c} {brackets = n} g k) q = cc q

    then_good : (m : Run (A G) K) (f : K → Run (A G) K) → Good m → ((v : K) (P : Known G) → Entails P (F v) → B P (f v) F) → Good (m >>= f)
    then_good m f h q = record { by = λ P. then_bare G W J (h.by P) (λ v. q v _ (newest _ _)) }

    of_read : (x : Place) (ty : Ty) → OfPlace Keeps x → PlaceSited Ok x → Has (Read x) ty → Good (eval w (Read x))
    unfolding eval
    of_read x ty d s (typing.read g) = ticked _ (record { by = λ P. reads_good (locate w x) ty (located_typed x ty g) (located_good x ty d s g) })

    of_set : (x : Place) (e : Expression) (site : ℕ) (ty : Ty) → OfPlace Keeps x → Keeps e → Sited Ok (Set x e site) → Has (Set x e site) ty → Good (eval w (Set x e site))
    unfolding eval
    of_set x e site ty d de s (typing.assigned g k) = ticked _ (record { by = λ P. sets_good (locate w x) (eval w e) site ty s.0 (place_known x ty g) (located_typed x ty g) (given_typed e ty k) (located_good x ty d s.1 g) (given_good e ty de s.2 k) })

    one_good : Good (return (constant (val.Int (pos 1))))
    one_good = record { by = λ P. plainly G W J (bare.gives G W J _ (constant_fine G W (val.Int (pos 1)) tt)) }

    of_update : (x : Place) (op : BinOp) (value : Part) (value_ty place_ty : Ty) (wide : Option Primitive) (gives_old : Bool) (site : ℕ) (ty : Ty) → OfPlace Keeps x → OfPart Keeps value → Sited Ok (Upd x op value value_ty place_ty wide gives_old site) → Has (Upd x op value value_ty place_ty wide gives_old site) ty → Good (eval w (Upd x op value value_ty place_ty wide gives_old site))
    unfolding eval eval_part part_or update
    of_update x op value value_ty place_ty wide gives_old site ty d de s (typing.updated {value = e} {to = to} {from = from} {wide = r} g k u) = ticked _ (record { by = λ P. updates_good (locate w x) op (eval w e) (primitive_type to) r false site s.0 (located_typed x _ g) (located_good x _ d s.1 g) (de.by s.2 _ k) })
    of_update x op value value_ty place_ty wide gives_old site ty d de s (typing.stepped {to = to} {wide = r} g k u) = ticked _ (record { by = λ P. updates_good (locate w x) op _ (primitive_type to) r gives_old site s.0 (located_typed x _ g) (located_good x _ d s.1 g) one_good })
    of_update x op value value_ty place_ty wide gives_old site ty d de s (typing.extended {value = e} g k j f) = ticked _ (append_good (locate w x) (eval w e) site ty value_ty s.0 (located_typed x _ g) (typed_as e value_ty k) (located_good x _ d s.1 g) (de.by s.2 _ k))

    unary_fine : {P : Known G} (op : UnOp) (v : K) → Entails P (F v) → Entails P (F (with_value (unary_of op v.value) v))
    unfolding fine with_value
    unary_fine op v f = record { by = λ n q. (unary_gives (p G) op v.value (f.by n q).0, (f.by n q).1) }

    converted_fine : {P : Known G} (to : Primitive) (v : K) → Entails P (F v) → Entails P (F (with_value (converted to v.value) v))
    unfolding fine with_value
    converted_fine to v f = record { by = λ n q. (converted_fixed (p G) to v.value (f.by n q).0, (f.by n q).1) }

    of_unary : (op : UnOp) (e : Expression) (ty : Ty) → Keeps e → Sited Ok e → Has (Un op e) ty → Good (eval w (Un op e))
    unfolding eval unary
    of_unary op e ty d s (typing.signed n q g) = ticked _ (then_good _ _ (d.by s _ g) (λ v P f. bare.gives G W J _ (unary_fine op v f)))
    of_unary op e ty d s (typing.negated g) = ticked _ (then_good _ _ (d.by s _ g) (λ v P f. bare.gives G W J _ (unary_fine op v f)))

    of_binary : (op : BinOp) (l r : Expression) (site : ℕ) (ty : Ty) → Keeps l → Keeps r → Sited Ok (Bin op l r site) → Has (Bin op l r site) ty → Good (eval w (Bin op l r site))
    unfolding eval binary
    of_binary op l r site ty dl dr s (typing.operated {a = a} {b = c} g k u) =
        ticked _ (record {
          by = λ P. bind G W J ((typed_as l a g).by P) ((dl.by s.1 _ g).by P) (λ x. then_bare G W J ((dr.by s.2 _ k).by _) (λ y.
              bare.gives_less G W J (plain_form.divides G W J M site _ (binary_of op x.value y.value) s.0 (joined_fine G W val.None x y tt (before _ _ (newest _ _)) (newest _ _)) (λ v q. binary_gives (p G) op x.value y.value v q)) (λ u. plain_form.worked_fine G W J M u (newest _ _))));
        })

    of_conversion : (to : Primitive) (e : Expression) (ty : Ty) → Keeps e → Sited Ok e → Has (Conv to e) ty → Good (eval w (Conv to e))
    unfolding eval convert
    of_conversion to e ty d s (typing.converted t f g) = ticked _ (then_good _ _ (d.by s _ g) (λ v P f. bare.gives G W J _ (converted_fine to v f)))

    of_cast : (to : Ty) (e : Expression) (site : ℕ) (ty : Ty) → Keeps e → Sited Ok (Cast to e site) → Has (Cast to e site) ty → Good (eval w (Cast to e site))
    unfolding eval cast
    of_cast to e site ty d s (typing.cast r g c) = ticked _ (then_good _ _ (d.by s.1 _ g) (λ v P f. bare.next G W J (plain_form.finds_type G W J M v.value) (λ found. bare.chooses G W J (is_null v.value) (bare.gives G W J v f) (bare.chooses G W J (is_below (p G) found to) (bare.gives G W J v f) (plain_form.cast_fails G W J M site v s.0 f)))))

    of_instance_of : (of : Ty) (e : Expression) (ty : Ty) → Keeps e → Sited Ok e → Has (InstanceOf of e) ty → Good (eval w (InstanceOf of e))
    unfolding eval instance_of
    of_instance_of of e ty d s (typing.tested r g c) = ticked _ (then_good _ _ (d.by s _ g) (λ v P f. bare.next G W J (plain_form.finds_type G W J M v.value) (λ found. bare.gives G W J _ (with_value_fine G W _ v tt f))))

    of_conditional : (f : CondForm) (t : Expression) (x y : Part) (site : ℕ) (ty : Ty) → Keeps t → OfPart Keeps x → OfPart Keeps y → Sited Ok (Cond f t x y site) → Has (Cond f t x y site) ty → Good (eval w (Cond f t x y site))
    unfolding eval eval_part
    of_conditional f t x y site ty d dx dy s (typing.both {right = r} g k) = ticked _ (conditional_good (eval w t) _ _ site s.0 (typed_as t _ g) (d.by s.1 _ g) (dx.by s.2 _ k) tt)
    of_conditional f t x y site ty d dx dy s (typing.either {right = r} g k) = ticked _ (conditional_good (eval w t) _ _ site s.0 (typed_as t _ g) (d.by s.1 _ g) tt (dy.by s.3 _ k))
    of_conditional f t x y site ty d dx dy s (typing.chosen g v k m n) = ticked _ (conditional_good (eval w t) _ _ site s.0 (typed_as t _ g) (d.by s.1 _ g) (given_good _ _ dx s.2 m) (given_good _ _ dy s.3 n))

    no_text_constructor : (k : ℕ) (md : Method) → IsMethod (p G) k md → md.form ≡ kinds.Constructor → md.class ≡ string_class → ⊥
    no_text_constructor k md m f e = go k refl (text_methods (p G) G.library G.fits.declarations.library_methods k md m (inr e))
      where
        go : (j : ℕ) → k ≡ j → k < 2 → ⊥
        go zero q l = cc (sym f ∙ ap (λ (x : Method). x.form) (one_method (p G).methods 0 md to_string_method (subst (λ z. IsMethod (p G) z md) q m) (to_string_is (p G) G.fits.declarations.library_methods)))
        go (suc zero) q l = cc (sym f ∙ ap (λ (x : Method). x.form) (one_method (p G).methods 1 md equals_method (subst (λ z. IsMethod (p G) z md) q m) (equals_is (p G) G.fits.declarations.library_methods)))
        go (suc (suc j)) q l = omega (arith, l, q)

    of_creation : (c : ℕ) (k : Option ℕ) (args : Row) (site : ℕ) (ty : Ty) → OfRow Keeps args → Sited Ok (New c k args site) → Has (New c k args site) ty → Good (eval w (New c k args site))
    unfolding eval eval_row
    of_creation c k args site ty d s (typing.made_plain m) = ticked _ (create_good object_class Absent [] [] site s.0 m (λ e. cc e) tt tt tt)
    of_creation c k args site ty d s (typing.made {k = n} {m = md} m e f q u a) = ticked _ (create_good c (Some n) md.params (eval_row w args) site s.0 m (λ z. no_text_constructor n md e f (q ∙ z)) (md, e, ap (λ g. this_types g md.class) f ∙ ap (λ x. class_type x ∷ []) q, refl) (rows_typed args md.params a) (rows_good args md.params d s.1 a))

    of_array : (of : Ty) (dims elements : Row) (sites : List ℕ) (site : ℕ) (ty : Ty) → OfRow Keeps dims → OfRow Keeps elements → Sited Ok (NewArray of dims elements sites site) → Has (NewArray of dims elements sites site) ty → Good (eval w (NewArray of dims elements sites site))
    unfolding eval eval_row new_array
    of_array of (more e rest) elements sites site ty dd de s (typing.array {base = c} {brackets = n} m lt known g) = ticked _ (array_good c n m (eval_row w (more e rest)) site s.0 lt known (rows_typed (more e rest) _ g) (rows_good (more e rest) _ dd s.1 g))
    of_array of none elements sites site ty dd de s (typing.filled {base = c} {brackets = n} known g) = ticked _ (filled_good c n (eval_row w elements) sites site s.0 s.3 known (rows_typed elements _ g) (rows_good elements _ de s.2 g))
    of_array of none elements sites site ty dd de s (typing.array {base = c} {brackets = n} m lt known g) = elim g [ ]

    of_call_on : (f : CallForm) (k : ℕ) (md : Method) (e : Expression) (on : Ty) (args : Row) (site : ℕ) → Ok site → IsMethod (p G) k md → md.form ≡ kinds.Instance → MayBeCalled (p G) f k md → T G M i (eval w e) on → Fits (p G).classes on (class_type md.class) → Good (eval w e) → AllTypes G M i (eval_row w args) md.params → AllGood (eval_row w args) → Good (meaning.call w f k (Some (eval w e)) (eval_row w args) site)
    unfolding meaning.call part_or
    of_call_on call.Chosen k md e on args site s m h c d g fe da fa = chosen_call_good k md (eval w e) (eval_row w args) site on s m h c d g da fe fa
    of_call_on call.Direct k md e on args site s m h c d g fe da fa = direct_good k md (eval w e) (eval_row w args) site s m (ap (λ x. this_types x md.class) h) (record { by = λ P. typed_rule.gives_less G (d.by P) (λ v. fitted on (class_type md.class) v.value g (newest _ _)) }) da fe fa
    of_call_on call.Static k md e on args site s m h c d g fe da fa = absurd c

    of_call : (f : CallForm) (k : ℕ) (receiver : Part) (on : Ty) (args : Row) (site : ℕ) (ty : Ty) → OfPart Keeps receiver → OfRow Keeps args → Sited Ok (Call f k receiver on args site) → Has (Call f k receiver on args site) ty → Good (eval w (Call f k receiver on args site))
    unfolding eval eval_part meaning.call part_or
    of_call f k receiver on args site ty dr da s (typing.called {m = md} m h u a) = ticked _ (static_call_good k md (eval_row w args) site s.0 m h (rows_typed args md.params a) (rows_good args md.params da s.2 a))
    of_call f k receiver on args site ty dr da s (typing.called_on {m = md} {receiver = e} m h c g r q a) = ticked _ (of_call_on f k md e on args site s.0 m h c (given_typed e on g) q (given_good e on dr s.1 g) (rows_typed args md.params a) (rows_good args md.params da s.2 a))
    of_call f k receiver on args site ty dr da s (typing.begun {m = md} {receiver = e} m h u g a) = ticked _ (direct_good k md (eval w e) (eval_row w args) site s.0 m (expression.not_static G M i md.form md.class h) (given_typed e _ g) (rows_typed args md.params a) (given_good e _ dr s.1 g) (rows_good args md.params da s.2 a))

    of_cat : (l r : Expression) (a c : Ty) (site : ℕ) (ty : Ty) → Keeps l → Keeps r → Sited Ok (Cat l r a c site) → Has (Cat l r a c site) ty → Good (eval w (Cat l r a c site))
    unfolding eval
    of_cat l r a c site ty dl dr s (typing.joined g k j) = ticked _ (cat_good (eval w l) (eval w r) site a c s.0 (typed_as l a g) (typed_as r c k) (dl.by s.1 _ g) (dr.by s.2 _ k))

    of_library : (op : LibOp) (args : Row) (site : ℕ) (ty : Ty) → OfRow Keeps args → Sited Ok (Lib op args site) → Has (Lib op args site) ty → Good (eval w (Lib op args site))
    unfolding eval library_form
    of_library op args site ty d s (typing.offered {params = ts} f a) = ticked _ (record { by = λ P. then_bare G W J (all_good (eval_row w args) ts P (rows_typed args ts a) (rows_good args ts d s.1 a)) (λ vs. plain_text.in_library G W J M op site vs s.0 (newest _ _)) })

    constant_plain : (v : Constant) → FixedInRange (p G) (constant_value v)
    unfolding constant_value
    constant_plain form.Null = tt
    constant_plain (form.Truth x) = tt
    constant_plain (form.Byte z) = tt
    constant_plain (form.Short z) = tt
    constant_plain (form.Char n) = tt
    constant_plain (form.Int z) = tt
    constant_plain (form.Long z) = tt

    of_constant : (v : Constant) → Good (eval w (Const v))
    unfolding eval
    of_constant v = ticked _ (record { by = λ P. plainly G W J (bare.gives G W J _ (constant_fine G W (constant_value v) (constant_plain v))) })

    of_str : (k : ℕ) (ty : Ty) → Has (Str k) ty → Good (eval w (Str k))
    unfolding eval
    of_str k ty (typing.text lt) = ticked _ (record { by = λ P. plainly G W J (bare.gives G W J _ (constant_fine G W (val.Fixed k) lt)) })

    step : (e : Expression) → Parts Keeps e → Keeps e
    step (Const v) d = record { by = λ s ty g. of_constant v }
    step (Str k) d = record { by = λ s ty g. of_str k ty g }
    step (Read x) d = record { by = λ s ty g. of_read x ty d s g }
    step (Set x e site) d = record { by = λ s ty g. of_set x e site ty d.0 d.1 s g }
    step (Upd x op value value_ty place_ty wide gives_old site) d = record { by = λ s ty g. of_update x op value value_ty place_ty wide gives_old site ty d.0 d.1 s g }
    step (Un op e) d = record { by = λ s ty g. of_unary op e ty d s g }
    step (Bin op l r site) d = record { by = λ s ty g. of_binary op l r site ty d.0 d.1 s g }
    step (Conv to e) d = record { by = λ s ty g. of_conversion to e ty d s g }
    step (Cast to e site) d = record { by = λ s ty g. of_cast to e site ty d s g }
    step (InstanceOf of e) d = record { by = λ s ty g. of_instance_of of e ty d s g }
    step (Cond f t x y site) d = record { by = λ s ty g. of_conditional f t x y site ty d.0 d.1 d.2 s g }
    step (New c k args site) d = record { by = λ s ty g. of_creation c k args site ty d s g }
    step (NewArray of dims elements sites site) d = record { by = λ s ty g. of_array of dims elements sites site ty d.0 d.1 s g }
    step (Call f k receiver on args site) d = record { by = λ s ty g. of_call f k receiver on args site ty d.0 d.1 s g }
    step (Cat l r a c site) d = record { by = λ s ty g. of_cat l r a c site ty d.0 d.1 s g }
    step (Lib op args site) d = record { by = λ s ty g. of_library op args site ty d s g }

    -- so does every expression
    pub keeps : (e : Expression) → Keeps e
    keeps e = of_expression Keeps step e
