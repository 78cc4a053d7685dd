-- What the forms of expressions give is of their types.
use Rattle.std.proofs.Common.{◌≡◌, ℕ, true, false, List, [], ◌∷◌, ◌++◌, inl, inr, Option, Some, refl, sym, ap, ◌∙◌, subst}
use Rattle.std.specs.Prelude.{None as Absent}
use Rattle.wy_kernel.specs.declared.operator.Primitive.{Primitive}
use Rattle.wy_kernel.specs.declared.operator.BinOp.{BinOp}
use Rattle.wy_kernel.specs.declared.operator.UnOp.{UnOp}
use Rattle.wy_kernel.specs.declared.types.Ty.{Ty}
use Rattle.wy_kernel.specs.declared.types.MethodForm.{MethodForm}
use Rattle.wy_kernel.specs.declared.types.MethodForm.TheVariants as kinds
use Rattle.wy_kernel.specs.Program.{Method, method, is_below, class_of_type, dispatch, string_class}
use Rattle.wy_kernel.specs.Subtyping.{IsReference, same, transitive, to_object, class_type, object_type, primitive_type, Substitutable}
use Rattle.wy_value.specs.declared.value.Value.{Value}
use Rattle.wy_value.specs.declared.value.Value.TheVariants as val
use Rattle.wy_value.specs.Operator.{binary_of}
use Rattle.wy_steps.specs.State.{Carried, Run, Noted, Around, ◌>>◌, return}
use Rattle.wy_steps.specs.Steps.{Made, constant, with_value, value_of, chosen, tick}
use Rattle.wy_meaning.specs.World.{World, spelling, is_true, is_null, class_cast}
use Rattle.wy_meaning.specs.Place.{Located}
use Rattle.wy_meaning.specs.Text.{to_string, call_chosen, shown_as, shown, spelled_as, make_text, concatenated, cat, append_place}
use Rattle.wy_meaning.specs.Expression.{unary, binary, convert, cast, instance_of, arm, conditional}
use Rattle.wy_meaning.specs.Call.{bound}
use Rattle.wy_typing.specs.Types.{boolean_type, text_type, Operates, IsNumber, Fits}
use Rattle.wy_typing.specs.Expressions.{IsMethod, IsMade}
use Rattle.wy_typing.specs.Programs.{this_types, RunsFor}
use Rattle.law_induction.specs.Law.{nothing, both, Entails, FrameKind, Region, In, a_text}
use Rattle.law_induction.proofs.Rules.{newest, before, trivially}
use Rattle.law_typed_states.specs.Typed.{Is, MayStand, made_type}
use Rattle.law_typed_states.proofs.Subtypes.{reference_above}
use Rattle.law_typed_states.proofs.Values.{unary_is, binary_is, converted_is, fits_is}
use Rattle.law_typed_states.proofs.Library.{class_cast_fails, text_made, to_string_method, to_string_is}
use Rattle.law_typed_states.proofs.Law.{is, answer}
use Rattle.law_typed_states.proofs.Rules.{Ground, A, p, Known, Does, bind, gives_less, forgets, gives, either, chooses, next, after, ticks, scopes, takes_units, notes, notes_test}
use Rattle.law_typed_states.proofs.Facts.{found_as, HasFound, below_is, receiver, one_event, AllAre, all_are, Calls, called}
use Rattle.law_typed_states.proofs.Places.{Methods, of_type, world_of, fails, finds_type, some_type, some_units, Types, Locates, finds, fetches, stores_value, divides}

module _ (G : Ground) (M : Methods G) (i : FrameKind) where
  abbrev w : World (A G)
  w = world_of G M

  abbrev pub T : Run (A G) (Carried (A G)) → Ty → Type 1
  T m ty = Types G M i m ty

  text_here : IsMade (p G) string_class
  text_here = text_made (p G) G.fits.declarations.library_classes

  pub text_is_text : MayStand (p G) text_type text_type
  text_is_text = record { reference = tt; concrete = text_here; below = same }

  pub ticked : (m : Run (A G) (Carried (A G))) (ty : Ty) → T m ty → T (tick >> m) ty
  ticked m ty d = record { by = λ P. after G (ticks G) (d.by P) }

  pub constant_types : (v : Value) (ty : Ty) → ((n : List (Noted (A G))) → Is (p G) n ty v) → T (return (constant v)) ty
  unfolding constant is
  constant_types v ty h = record { by = λ P. gives G _ (record { by = λ n q. h n }) }

  pub fixed_is : (k : ℕ) (n : List (Noted (A G))) → Is (p G) n text_type (val.Fixed k)
  fixed_is k n = text_is_text

  pub fitting_types : (m : Run (A G) (Carried (A G))) (a b : Ty) → T m a → Fits (p G).classes a b → T m b
  unfolding is both
  fitting_types m a b d f = record { by = λ P. gives_less G (d.by P) (λ v. record { by = λ n h. fits_is (p G) n a b v.value f h.1 }) }

  -- ---- operators

  pub unary_types : (o : UnOp) (m : Run (A G) (Carried (A G))) (ty : Ty) → T m ty → T (unary o m) ty
  unfolding unary with_value is both
  unary_types o m ty d = record { by = λ P. bind G (d.by P) (λ v. gives G _ (record { by = λ n h. unary_is (p G) n ty o v.value h.1 })) }

  pub binary_types : (o : BinOp) (l r : Run (A G) (Carried (A G))) (site : ℕ) (a b c : Ty) → T l a → T r b → Operates (p G).classes o a b c → T (binary w o l r site) c
  unfolding binary is both
  binary_types o l r site a b c dl dr op = record { by = λ P. bind G (dl.by P) (λ x. bind G (dr.by _) (λ y. divides G M i site _ (binary_of o x.value y.value) (λ v. of_type G c v) (λ v e. record { by = λ n h. binary_is (p G) n o a b c x.value y.value v op h.0.1 h.1 e }))) }

  pub convert_types : (to from : Primitive) (m : Run (A G) (Carried (A G))) → IsNumber to → IsNumber from → T m (primitive_type from) → T (convert to m) (primitive_type to)
  unfolding convert with_value is both
  convert_types to from m t f d = record { by = λ P. bind G (d.by P) (λ v. gives G _ (record { by = λ n h. converted_is (p G) n to from v.value t f h.1 })) }

  null_is : (n : List (Noted (A G))) (ty : Ty) (v : Value) → IsReference ty → is_null v ≡ true → Is (p G) n ty v
  unfolding is_null
  null_is n ty val.Null r e = inr r
  null_is n ty _ r e = absurd (cc e)

  pub cast_types : (ty from : Ty) (m : Run (A G) (Carried (A G))) (site : ℕ) → IsReference ty → T m from → T (cast w ty m site) ty
  unfolding cast is both found_as
  cast_types ty from m site r d = record {
    by = λ P. bind G (d.by P) (λ v. bind G (finds_type G M from v.value (newest _ _)) (λ found.
        either G (is_null v.value) (λ e. gives G v (record { by = λ n h. null_is n ty v.value r e })) (λ e.
        either G (is_below (p G) found ty) (λ b. gives G v (record { by = λ n h. below_is G n v.value found ty r h.1 b })) (λ b. fails G M class_cast site v (class_cast_fails (p G) G.fits.declarations.library_classes)))));
  }

  pub instance_types : (ty from : Ty) (m : Run (A G) (Carried (A G))) → T m from → T (instance_of w ty m) boolean_type
  unfolding instance_of with_value is
  instance_types ty from m d = record { by = λ P. next G (forgets G (d.by P)) (λ v. next G (some_type G M v.value) (λ found. gives G _ (record { by = λ n h. refl }))) }

  -- an arm that is absent has the value of the test
  abbrev pub ArmOf : Option (Run (A G) (Carried (A G))) → Ty → Type 1
  ArmOf Absent ty = (boolean_type ≡ ty) × Unit {1}
  ArmOf (Some m) ty = T m ty

  arm_gives : {P : Known G} (e : Made (A G)) (v : Value) (o : Option (Run (A G) (Carried (A G)))) (ty : Ty) → Entails P (of_type G boolean_type v) → ArmOf o ty → Does G (In i) P (arm e v o) (λ u. of_type G ty u.value)
  unfolding arm value_of chosen
  arm_gives {P = P} e v Absent ty f h = gives G _ (subst (λ t. Entails P (of_type G t v)) h.0 f)
  arm_gives e v (Some m) ty f h = bind G (h.by _) (λ c. gives G _ (newest _ _))

  pub conditional_types : (test : Run (A G) (Carried (A G))) (a b : Option (Run (A G) (Carried (A G)))) (site : ℕ) (ty : Ty) → T test boolean_type → ArmOf a ty → ArmOf b ty → T (conditional test a b site) ty
  unfolding conditional
  conditional_types test a b site ty d da db = record { by = λ P. scopes G (bind G (d.by P) (λ v. next G (notes_test G Around site _ v) (λ e. chooses G (is_true v.value) (arm_gives e v.value a ty (newest _ _) da) (arm_gives e v.value b ty (newest _ _) db)))) }

  -- ---- methods

  -- the method that is called gives what its class says
  pub answered : {r : Region} {P : Known G} {m : Run (A G) (Carried (A G))} (k : ℕ) (md : Method) → IsMethod (p G) k md → Does G r P m (λ v. answer (A G) (p G) k v.value) → Does G r P m (λ v. of_type G md.result v.value)
  unfolding answer is both
  answered k md e d = gives_less G d (λ v. record { by = λ n h. h.1 md e })

  substitutes : (a b : Ty) → Substitutable (p G).classes a b → Fits (p G).classes a b
  substitutes a b (inl e) = inl e
  substitutes a b (inr h) = inr (reference_above (p G).classes a b h.1 h.0, h.1)

  -- the receiver and the arguments of a method that isn't static
  pub on_receiver : (n : List (Noted (A G))) (f : MethodForm) (c : ℕ) (params : List Ty) (v : Carried (A G)) (args : List (Carried (A G))) → this_types f c ≡ class_type c ∷ [] → Is (p G) n (class_type c) v.value → AllAre G n params args → AllAre G n (this_types f c ++ params) (v ∷ args)
  on_receiver n f c params v args e h a = subst (λ (ts : List Ty). AllAre G n (ts ++ params) (v ∷ args)) (sym e) (h, a)

  abbrev runs_for : (found : Ty) (k : ℕ) (m : Method) → Type 0
  runs_for found k m = RunsFor (p G) (class_of_type found) m (dispatch (p G) k (class_of_type found))

  -- what runs for an object takes it
  chosen_calls : (n : List (Noted (A G))) (found : Ty) (k : ℕ) (m : Method) (v : Carried (A G)) (args : List (Carried (A G))) (o : ℕ) → v.value ≡ val.Object o → HasFound G n (val.Object o) found → runs_for found k m → MayStand (p G) found (class_type (class_of_type found)) → AllAre G n m.params args → Calls G n (dispatch (p G) k (class_of_type found)) (Some v) args
  unfolding bound
  chosen_calls n found k m v args o is h r s a =
      let stands : MayStand (p G) (made_type h.0) (class_type r.run.class) = subst (λ t. MayStand (p G) t (class_type r.run.class)) h.4 (record { reference = tt; concrete = s.concrete; below = transitive s.below r.receiver }) in
      record {
        method = r.run;
        found = r.found;
        given = on_receiver n r.run.form r.run.class r.run.params v args (ap (λ f. this_types f r.run.class) r.instance)
            (subst (λ u. Is (p G) n (class_type r.run.class) u) (sym is) (record { event = h.0; there = h.1; is_new = h.2; stands = stands }))
            (subst (λ (ts : List Ty). AllAre G n ts args) (sym r.params) a);
      }

  -- an object that was found stands for what is known of it
  pub found_stands : (n : List (Noted (A G))) (ty found : Ty) (o : ℕ) → Is (p G) n ty (val.Object o) → HasFound G n (val.Object o) found → MayStand (p G) found ty
  found_stands n ty found o r h = subst (λ t. MayStand (p G) t ty) (sym (h.4 ∙ ap made_type (one_event n o h.0 r.event h.1 r.there))) r.stands

  module _ (k : ℕ) (md : Method) (found_method : IsMethod (p G) k md) (is_instance : md.form ≡ kinds.Instance) (public : md.is_private ≡ false) where
    runs_where : (found : Ty) → MayStand (p G) found (class_type md.class) → runs_for found k md
    runs_where found s = let r = receiver G found md.class s in G.fits.runs (class_of_type found) k md r.made found_method is_instance public r.below

    stands_where : (n : List (Noted (A G))) (v : Value) (o : ℕ) (found : Ty) → v ≡ val.Object o → Is (p G) n (class_type md.class) v → HasFound G n v found → MayStand (p G) found (class_type md.class)
    stands_where n v o found is h f = found_stands n (class_type md.class) found o (subst (λ u. Is (p G) n (class_type md.class) u) is h) (subst (λ u. HasFound G n u found) is f)

    pub chosen_calls_at : (n : List (Noted (A G))) (v : Carried (A G)) (args : List (Carried (A G))) (o : ℕ) (found : Ty) → v.value ≡ val.Object o → Is (p G) n (class_type md.class) v.value → HasFound G n v.value found → AllAre G n md.params args → Calls G n (dispatch (p G) k (class_of_type found)) (Some v) args
    chosen_calls_at n v args o found is h f a =
        let s = stands_where n v.value o found is h f in
        chosen_calls n found k md v args o is (subst (λ u. HasFound G n u found) is f) (runs_where found s) (receiver G found md.class s).stands a

    chosen_answers : (n : List (Noted (A G))) (v u : Value) (o : ℕ) (found : Ty) → v ≡ val.Object o → Is (p G) n (class_type md.class) v → HasFound G n v found → ((run : Method) → IsMethod (p G) (dispatch (p G) k (class_of_type found)) run → Is (p G) n run.result u) → Is (p G) n md.result u
    chosen_answers n v u o found is h f a = let r = runs_where found (stands_where n v o found is h f) in fits_is (p G) n _ _ u (substitutes r.run.result md.result r.result) (a r.run r.found)

    -- a call of an object's method
    pub chosen_gives : {P : Known G} (site : ℕ) (v : Carried (A G)) (args : List (Carried (A G))) (o : ℕ) → v.value ≡ val.Object o → Entails P (of_type G (class_type md.class) v.value) → Entails P (all_are G md.params args) → Does G (In i) P (call_chosen w site k v args) (λ u. of_type G md.result u.value)
    unfolding call_chosen called found_as all_are is both answer
    chosen_gives site v args o e h a = bind G (finds_type G M (class_type md.class) v.value h) (λ found.
        gives_less G (M.calls (In i) site (dispatch (p G) k (class_of_type found)) (Some v) args _ (record { by = λ n q. chosen_calls_at n v args o found e (h.by n q.0) q.1 (a.by n q.0) }))
        (λ u. record { by = λ n q. chosen_answers n v.value u.value o found e (h.by n q.0.0) q.0.1 q.1 }))

  -- ---- texts

  pub object_is_object : (n : List (Noted (A G))) (ty : Ty) (o : ℕ) → Is (p G) n ty (val.Object o) → Is (p G) n object_type (val.Object o)
  object_is_object n ty o h = record { event = h.event; there = h.there; is_new = h.is_new; stands = record { reference = tt; concrete = h.stands.concrete; below = transitive h.stands.below (to_object h.stands.reference) } }

  shows_as : {P : Known G} (site : ℕ) (v : Carried (A G)) (x : Value) (ty : Ty) → v.value ≡ x → Entails P (of_type G ty v.value) → Does G (In i) P (shown_as w site v x) (λ u. nothing)
  unfolding shown_as is all_are
  shows_as site v (val.Object o) ty e h = forgets G (chosen_gives to_string to_string_method (to_string_is (p G) G.fits.declarations.library_methods) refl refl site v [] o e
      (record { by = λ n q. subst (λ u. Is (p G) n object_type u) (sym e) (object_is_object n ty o (subst (λ u. Is (p G) n ty u) e (h.by n q))) }) (record { by = λ n q. tt }))
  shows_as site v _ ty e h = gives G v trivially

  pub shows : {P : Known G} (site : ℕ) (v : Carried (A G)) (ty : Ty) → Entails P (of_type G ty v.value) → Does G (In i) P (shown w site v) (λ u. nothing)
  unfolding shown
  shows site v ty h = shows_as site v v.value ty refl h

  pub spells : {P : Known G} (v : Value) → Does G (In i) P (spelled_as w v) (λ u. nothing)
  unfolding spelled_as
  spells (val.Text k) = some_units G M (val.Text k)
  spells (val.Fixed k) = some_units G M (val.Fixed k)
  spells _ = gives G _ trivially

  pub makes_text : {P : Known G} (site : ℕ) (units : List ℕ) (c : Carried (A G)) → Does G (In i) P (make_text site units c) (λ u. of_type G text_type u.value)
  unfolding make_text value_of is
  makes_text site units c = after G (takes_units G _) (next G (forgets G (notes G (spelling site units) c (a_text site units c))) (λ e. gives G _ (record { by = λ n h. text_is_text })))

  pub concatenates : {P : Known G} (site : ℕ) (x y : Carried (A G)) (a b : Ty) → Entails P (of_type G a x.value) → Entails P (of_type G b y.value) → Does G (In i) P (concatenated w site x y) (λ u. of_type G text_type u.value)
  unfolding concatenated
  concatenates site x y a b e f = next G (shows site x a e) (λ l. next G (shows site y b f) (λ r. next G (spells l.value) (λ us. next G (spells r.value) (λ vs. makes_text site _ _))))

  pub cat_types : (l r : Run (A G) (Carried (A G))) (site : ℕ) (a b : Ty) → T l a → T r b → T (cat w l r site) text_type
  unfolding cat
  cat_types l r site a b dl dr = record { by = λ P. bind G (dl.by P) (λ x. bind G (dr.by _) (λ y. concatenates site x y a b (before _ _ (newest _ _)) (newest _ _))) }

  pub append_types : (x : Located (A G)) (m : Run (A G) (Carried (A G))) (site : ℕ) (ty from : Ty) → Locates G M i x ty → T m from → Fits (p G).classes text_type ty → T (append_place w x m site) ty
  unfolding append_place is
  append_types x m site ty from h d f = record {
    by = λ P. bind G (finds G M i x ty h) (λ s. bind G (fetches G M i s ty (newest _ _)) (λ old. bind G (d.by _) (λ v. bind G (concatenates site old v ty from (before _ _ (newest _ _)) (newest _ _)) (λ t.
        stores_value G M i site s t ty (before _ _ (before _ _ (before _ _ (newest _ _)))) (fitted _ t.value)))));
  }
    where
      fitted : (P : Known G) (v : Value) → Entails (both P (of_type G text_type v)) (of_type G ty v)
      fitted P v = record { by = λ n q. fits_is (p G) n text_type ty v f ((newest _ _).by n q) }
