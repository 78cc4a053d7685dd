-- Each expression of a body keeps what is reached, where its ways are ways of the program.
use Rattle.std.proofs.Common.{◌≡◌, ◌<◌, ◌≤◌, arith, ℕ, zero, suc, Bool, true, false, List, [], ◌∷◌, ◌++◌, length, replicate, inr, ⊎_elim, Option, Some, refl, sym, ap, ◌∙◌, subst}
use Rattle.std.specs.Prelude.{None as Absent}
use Rattle.std.proofs.lemmas.Option.{slice_get_within}
use Rattle.std.specs.Prelude.{◌==◌, if◌then◌else◌}
use Rattle.wy_kernel.specs.declared.types.Base.{Base}
use Rattle.wy_kernel.specs.declared.types.Ty.{Ty}
use Rattle.wy_kernel.specs.declared.types.Ty.TheVariants.{Of}
use Rattle.wy_kernel.specs.declared.types.MethodForm.TheVariants as kinds
use Rattle.wy_kernel.specs.declared.operator.Primitive.{Primitive}
use Rattle.wy_kernel.specs.declared.operator.BinOp.{BinOp}
use Rattle.wy_kernel.specs.declared.operator.UnOp.{UnOp}
use Rattle.wy_kernel.specs.declared.form.LibOp.{LibOp}
use Rattle.wy_kernel.specs.declared.form.CondForm.{CondForm}
use Rattle.wy_kernel.specs.declared.form.CallForm.{CallForm}
use Rattle.wy_kernel.specs.declared.form.CallForm.TheVariants as call
use Rattle.wy_kernel.specs.Form.{Constant, Expression, Const, Str, Read, Set, Upd, Un, Bin, Conv, Cast, InstanceOf, Cond, New, NewArray, Call, Cat, Lib, Place, Local, Static, Field, Elem, Part, Row, none, more}
use Rattle.wy_kernel.specs.Program.{Method, method, field, is_source, is_below, dispatch, class_of_type, object_class, string_class, type_of_code, type_code}
use Rattle.wy_kernel.specs.Subtyping.{class_type, object_type, primitive_type, same}
use Rattle.wy_kernel.specs.Table.{IsTypeOf}
use Rattle.wy_value.specs.declared.value.Value.{Value}
use Rattle.wy_value.specs.declared.value.Value.TheVariants as val
use Rattle.wy_event.specs.declared.record.Kind.TheVariants as kind
use Rattle.wy_event.specs.declared.record.Slot.TheVariants as slot
use Rattle.wy_steps.specs.State.{Carried, Run, Noted, State, Around, choose, ◌>>=◌, ◌>>◌}
use Rattle.wy_steps.specs.Steps.{Made, constant, tick, value_of}
use Rattle.wy_meaning.specs.World.{World, plain, class_code, is_true, arm_of_truth, is_null, is_text, all_of}
use Rattle.wy_meaning.specs.Place.{Located, AtLocal, AtStatic, AtField, AtElem, initialize_source, initialize, static_spot, find, read_place, set_place, update_place, operated}
use Rattle.wy_meaning.specs.Text.{to_string, call_chosen, shown_as, shown, concatenated, cat, append_place}
use Rattle.wy_meaning.specs.Array.{any_negative, create_array, first_site, rest_sites, set_elements, create_filled, new_array}
use Rattle.wy_meaning.specs.Library.{library_form}
use Rattle.wy_meaning.specs.Call.{equals, call_form, call_on, call_static, construct, create}
use Rattle.wy_meaning.specs.Expression.{part_or, update, unary, binary, convert, cast, instance_of, arm, conditional, eval, locate, eval_part, eval_row}
use Rattle.wy_meaning.specs.Expression as meaning
use Rattle.wy_typing.specs.Types.{boolean_type, int_type, text_type, Fits}
use Rattle.wy_typing.specs.Expressions as typing
use Rattle.wy_typing.specs.Programs.{this_types}
use Rattle.wy_typing.specs.Expressions.{HasType, Gives, IsPlace, GivesAll, IsMethod, IsMade, MakesReady, MayBeCalled, fitting}
use Rattle.law_induction.specs.Law.{both, Entails, FrameKind, Region, In}
use Rattle.law_induction.specs.Forms.{OfPart, OfRow, OfPlace, Parts}
use Rattle.law_induction.proofs.Induction.{of_expression}
use Rattle.law_induction.proofs.Rules.{newest, before}
use Rattle.law_typed_states.specs.Typed.{Is, local_types}
use Rattle.law_typed_states.proofs.Values.{fits_is}
use Rattle.law_typed_states.proofs.Library.{class_code_is, to_string_method, to_string_is, equals_method, equals_is, text_methods}
use Rattle.law_typed_states.proofs.Law.{is}
use Rattle.law_typed_states.proofs.Rules.{Ground, A, p, Known, gives_less, asks, ticks, notes_test, notes_object, sets_slot}
use Rattle.law_typed_states.proofs.Facts.{HasFound, found_as, new_is, AllAre, all_are, called}
use Rattle.law_typed_states.proofs.Places.{Methods, world_of, of_type, Locates, finds, fetches, finds_type, may_initialize}
use Rattle.law_typed_states.proofs.Forms.{T, found_stands, chosen_calls_at, object_is_object, shows}
use Rattle.law_typed_states.proofs.Calls.{AllTypes, gives_all, one_method, calls_with, static_calls, Constructs, constructor_calls}
use Rattle.law_typed_states.proofs.Arrays.{makes_array, AllAlike, alike, elements_are, element_place, element_stores, made_elements, array_made, one_less}
use Rattle.law_typed_states.proofs.Expressions as expression
use Rattle.wy_static.specs.declared.point.Point.{Point}
use Rattle.wy_static.specs.declared.point.Point.TheVariants as point
use Rattle.wy_static.specs.declared.point.LinkKind.TheVariants as link_kind
use Rattle.wy_static.specs.declared.way.Owner.{Owner}
use Rattle.wy_static.specs.declared.way.Goal.TheVariants.{Known as KnownGoal}
use Rattle.wy_static.specs.Forms.{arm_owner, forms, forms_within, place_forms, part_forms, row_forms}
use Rattle.wy_static.specs.Ways.{call_at, initializing, calling, choosing, converting, constructing, placing, called as called_ways, arms, form_ways}
use Rattle.wy_static.specs.Links.{IsLink}
use Rattle.wy_static.specs.LookUps.{method_of}
use Rattle.law_reached.proofs.Seen.{ShownBy, arm_number}
use Rattle.law_reached.proofs.Ways.{call_link, Among, among_left, among_right, among_head, among_tail, way_link, Each, each_head, each_tail, each_left, each_right, chosen_link}
use Rattle.law_reached.proofs.Quiet.{Quiet, q_bind, q_return, q_choose, q_is_begun, q_tick, q_write, q_new, note_adds, activating_adds}
use Rattle.law_reached.proofs.Forms as quietly
use Rattle.law_reached.proofs.Rules.{body_number, At, Ours, Edge, bind, after, where_at, at_owner, either, quiet, then_quiet, quiet_first, scopes, records}

-- what calls and initializations do to what is reached
pub record Links (G : Ground) (M : Methods G) : Type 1 where
  pub calls : (r : Region) (b : ℕ) (o : Point) (site m : ℕ) (receiver : Option (Carried (A G))) (args : List (Carried (A G))) (P : Known G) → Entails P (called G m receiver args) → IsLink (p G) (call_link o site (point.Entry m)) → method_of (p G) o ≡ b → Ours G r b o P (M.call site m receiver args) (λ v. o)
  pub enters : (r : Region) (b : ℕ) (o : Point) (site c : ℕ) (P : Known G) → IsLink (p G) (call_link o site (point.Init c)) → method_of (p G) o ≡ b → Ours G r b o P (M.enter site c) (λ t. o)

module _ (G : Ground) (M : Methods G) (L : Links G M) where
  abbrev w : World (A G)
  w = world_of G M

  abbrev C : Type 0
  C = Carried (A G)

  -- ---- classes

  starts : {r : Region} {b : ℕ} {P : Known G} (o : Owner) (site c : ℕ) (source : Bool) → is_source c ≡ source → Among (p G) (initializing o c site) → method_of (p G) o.point ≡ b → Ours G r b o.point P (initialize_source w site c source) (λ t. o.point)
  unfolding initialize_source
  starts o site c false e h s = quiet G (q_return tt)
  starts {r = r} {b = b} o site c true e h s = quiet_first G (asks G c) (q_is_begun c) (λ going. either G going (λ q. quiet G (q_return tt)) (λ q.
      L.enters r b o.point site c _ (way_link (p G) link_kind.Call o.point (point.Init c) site (among_head (p G) (call_at o site (KnownGoal (point.Init c))) [] (subst (λ z. Among (p G) (if z then call_at o site (KnownGoal (point.Init c)) ∷ [] else [])) e h))) s))

  pub initializes : {r : Region} {b : ℕ} {P : Known G} (o : Owner) (site c : ℕ) → Among (p G) (initializing o c site) → method_of (p G) o.point ≡ b → Ours G r b o.point P (initialize w site c) (λ t. o.point)
  unfolding initialize
  initializes o site c h s = starts o site c (is_source c) refl h s

  module _ (i : FrameKind) where
    abbrev b : ℕ
    b = body_number i

    -- a run that gives a value, from where the point is executed
    pub record Fine (q : Point) (m : Run (A G) C) : Type 1 where
      pub by : (P : Known G) → Ours G (In i) b q P m (λ v. q)

    abbrev pub AllFine : Point → List (Run (A G) C) → Type 1
    AllFine q [] = Unit {1}
    AllFine q (m ∷ ms) = Fine q m × AllFine q ms

    all_fine : (q : Point) (ms : List (Run (A G) C)) (ts : List Ty) (P : Known G) → AllTypes G M i ms ts → AllFine q ms → Ours G (In i) b q P (all_of ms) (λ vs. q)
    unfolding all_of
    all_fine q [] ts P d f = quiet G (q_return [])
    all_fine q (m ∷ ms) (t ∷ ts) P d f = bind G (d.0.by P) (f.0.by P) (λ v. then_quiet G (all_fine q ms ts _ d.1 f.1) (λ vs. q_return _))
    all_fine q (m ∷ ms) [] P d f = absurd d.0

    fitted : {P : Known G} (a c : Ty) (v : Value) → Fits (p G).classes a c → Entails P (of_type G a v) → Entails P (of_type G c v)
    unfolding is
    fitted a c v f e = record { by = λ n h. fits_is (p G) n a c v f (e.by n h) }

    module _ (o : Owner) (stands : method_of (p G) o.point ≡ b) where
      abbrev F : Run (A G) C → Type 1
      F m = Fine o.point m

      abbrev O : {X : Type 0} → Known G → Run (A G) X → Type 0
      O {X} P m = Ours G (In i) b o.point P m (λ (x : X). o.point)

      -- ---- places

      abbrev LocatedFine : Located (A G) → Type 1
      LocatedFine (AtLocal k) = Unit {1}
      LocatedFine (AtStatic k site) = Among (p G) (initializing o (field (p G) k).class site) × Unit {1}
      LocatedFine (AtField object k site) = F object
      LocatedFine (AtElem array index site) = F array × F index

      static_fine : {P : Known G} (k site : ℕ) → Among (p G) (initializing o (field (p G) k).class site) → O P (static_spot w k site)
      unfolding static_spot ◌>>◌
      static_fine k site h = then_quiet G (initializes o site (field (p G) k).class h stands) (λ t. q_return _)

      finds_fine : {P : Known G} (x : Located (A G)) (ty : Ty) → Locates G M i x ty → LocatedFine x → O P (find w x)
      unfolding find
      finds_fine (AtLocal k) ty d f = quiet G (quietly.q_local_spot G M k)
      finds_fine (AtStatic k site) ty d f = static_fine k site f.0
      finds_fine {P = P} (AtField object k site) ty d f = then_quiet G (f.by P) (λ v. quietly.q_field_spot G M k site v)
      finds_fine {P = P} (AtElem array index site) ty d f = bind G (d.3.by P) (f.0.by P) (λ a. then_quiet G (f.1.by _) (λ k. quietly.q_element_spot G M site a k))

      reads_fine : {P : Known G} (x : Located (A G)) (ty : Ty) → Locates G M i x ty → LocatedFine x → O P (read_place w x)
      unfolding read_place
      reads_fine x ty d f = then_quiet G (finds_fine x ty d f) (λ s. quietly.q_fetch G M s)

      sets_fine : {P : Known G} (x : Located (A G)) (m : Run (A G) C) (site : ℕ) (ty : Ty) → Locates G M i x ty → T G M i m ty → LocatedFine x → F m → O P (set_place w x m site)
      unfolding set_place
      sets_fine {P = P} (AtLocal k) m site ty d dm f g = then_quiet G (g.by P) (λ v. q_bind (quietly.q_local_spot G M k) (λ s. quietly.q_store G M site s v))
      sets_fine {P = P} (AtStatic k at) m site ty d dm f g = bind G (dm.by P) (g.by P) (λ v. then_quiet G (static_fine k at f.0) (λ s. quietly.q_store G M site s v))
      sets_fine {P = P} (AtField object k at) m site ty d dm f g = bind G (d.3.by P) (f.by P) (λ u. then_quiet G (g.by _) (λ v. q_bind (quietly.q_field_spot G M k at u) (λ s. quietly.q_store G M site s v)))
      sets_fine {P = P} (AtElem array index at) m site ty d dm f g = bind G (d.3.by P) (f.0.by P) (λ a. bind G (d.4.by _) (f.1.by _) (λ k. then_quiet G (g.by _) (λ v. q_bind (quietly.q_element_spot G M at a k) (λ s. quietly.q_store G M site s v))))

      updates_fine : {P : Known G} (x : Located (A G)) (op : BinOp) (m : Run (A G) C) (to : Ty) (wide : Primitive) (gives_old : Bool) (site : ℕ) → Locates G M i x to → LocatedFine x → F m → O P (update_place w x op m to wide gives_old site)
      unfolding update_place
      updates_fine x op m to wide gives_old site d f g = bind G (finds G M i x to d) (finds_fine x to d f) (λ s. bind G (fetches G M i s to (newest _ _)) (quiet G (quietly.q_fetch G M s)) (λ old. then_quiet G (g.by _) (λ v.
          q_bind (quietly.q_divided G M site _ (operated op wide old.value v.value)) (λ new. q_bind (quietly.q_assign G M site s _) (λ set. q_return _)))))

      -- ---- calls that the class of the receiver decides

      found_link : {P : Known G} (k site : ℕ) (ty : Ty) (v : C) (n : ℕ) (found : Ty) (s : State (A G)) → At G (In i) b o.point (both P (found_as G v.value found)) s → v.value ≡ val.Object n → Entails P (of_type G ty v.value) → Among (p G) (choosing (p G) o k ty site) → IsLink (p G) (call_link o.point site (point.Entry (dispatch (p G) k (class_of_type found))))
      unfolding found_as is both
      found_link k site ty v n found s at e h a =
          let f = subst (λ u. HasFound G s.noted u found) e at.known.1 in
          let t = subst (λ u. Is (p G) s.noted ty u) e (h.by s.noted at.known.0) in
          chosen_link G o k site ty found a (found_stands G M i s.noted ty found n t f) (λ q. (at.inv.sound n f.0 f.1).no_text (f.2, sym f.4 ∙ q))

      pub chosen_fine : {P : Known G} (k : ℕ) (md : Method) → IsMethod (p G) k md → md.form ≡ kinds.Instance → md.is_private ≡ false → (site : ℕ) (v : C) (args : List C) (n : ℕ) (ty : Ty) → v.value ≡ val.Object n → Entails P (of_type G (class_type md.class) v.value) → Entails P (all_are G md.params args) → Entails P (of_type G ty v.value) → Among (p G) (choosing (p G) o k ty site) → O P (call_chosen w site k v args)
      unfolding call_chosen called found_as all_are is both
      chosen_fine k md m f public site v args n ty e h a t ways = quiet_first G (finds_type G M (class_type md.class) v.value h) (quietly.q_type_of G M v.value) (λ found.
          where_at G (λ s at. L.calls (In i) b o.point site (dispatch (p G) k (class_of_type found)) (Some v) args _ (record { by = λ n1 q. chosen_calls_at G M i k md m f public n1 v args n found e (h.by n1 q.0) q.1 (a.by n1 q.0) }) (found_link k site ty v n found s at e t ways) stands))

      -- ---- texts

      shows_as_fine : {P : Known G} (site : ℕ) (v : C) (x : Value) (ty : Ty) → v.value ≡ x → Entails P (of_type G ty v.value) → Among (p G) (converting (p G) o ty site) → O P (shown_as w site v x)
      unfolding shown_as is all_are
      shows_as_fine site v (val.Object n) ty e h a = chosen_fine to_string to_string_method (to_string_is (p G) G.fits.declarations.library_methods) refl refl site v [] n ty e
          (record { by = λ n1 q. subst (λ u. Is (p G) n1 object_type u) (sym e) (object_is_object G M i n1 ty n (subst (λ u. Is (p G) n1 ty u) e (h.by n1 q))) }) (record { by = λ n1 q. tt }) h a
      shows_as_fine site v _ ty e h a = quiet G (q_return v)

      pub shows_fine : {P : Known G} (site : ℕ) (v : C) (ty : Ty) → Entails P (of_type G ty v.value) → Among (p G) (converting (p G) o ty site) → O P (shown w site v)
      unfolding shown
      shows_fine site v ty h a = shows_as_fine site v v.value ty refl h a

      concatenates_fine : {P : Known G} (site : ℕ) (x y : C) (a c : Ty) → Entails P (of_type G a x.value) → Entails P (of_type G c y.value) → Among (p G) (converting (p G) o a site) → Among (p G) (converting (p G) o c site) → O P (concatenated w site x y)
      unfolding concatenated
      concatenates_fine site x y a c e f ha hc = bind G (shows G M i site x a e) (shows_fine site x a e ha) (λ l. then_quiet G (shows_fine site y c (before _ _ f) hc) (λ r. q_bind (quietly.q_spelled G M l.value) (λ us. q_bind (quietly.q_spelled G M r.value) (λ vs. quietly.q_make_text G M site _ _))))

      cat_fine : (l r : Run (A G) C) (site : ℕ) (a c : Ty) → T G M i l a → T G M i r c → F l → F r → Among (p G) (converting (p G) o a site) → Among (p G) (converting (p G) o c site) → F (cat w l r site)
      unfolding cat
      cat_fine l r site a c dl dr fl fr ha hc = record { by = λ P. bind G (dl.by P) (fl.by P) (λ x. bind G (dr.by _) (fr.by _) (λ y. concatenates_fine site x y a c (before _ _ (newest _ _)) (newest _ _) ha hc)) }

      append_fine : (x : Located (A G)) (m : Run (A G) C) (site : ℕ) (ty from : Ty) → Locates G M i x ty → T G M i m from → LocatedFine x → F m → Among (p G) (converting (p G) o ty site) → Among (p G) (converting (p G) o from site) → F (append_place w x m site)
      unfolding append_place
      append_fine x m site ty from d dm f g ha hc = record {
        by = λ P. bind G (finds G M i x ty d) (finds_fine x ty d f) (λ s. bind G (fetches G M i s ty (newest _ _)) (quiet G (quietly.q_fetch G M s)) (λ old. bind G (dm.by _) (g.by _) (λ v.
            then_quiet G (concatenates_fine site old v ty from (before _ _ (newest _ _)) (newest _ _) ha hc) (λ t. quietly.q_store G M site s t))));
      }

      -- ---- calls

      object_fine : {P : Known G} (k : ℕ) (md : Method) (site : ℕ) (ty : Ty) (r : C) (x : Value) (vs : List C) → IsMethod (p G) k md → md.form ≡ kinds.Instance → md.is_private ≡ false → r.value ≡ x → is_text x ≡ false → is_null x ≡ false → Entails P (of_type G (class_type md.class) r.value) → Entails P (all_are G md.params vs) → Entails P (of_type G ty r.value) → Among (p G) (choosing (p G) o k ty site) → O P (call_chosen w site k r vs)
      unfolding is is_text is_null
      object_fine k md site ty r (val.Object n) vs m f public e t u h a g ways = chosen_fine k md m f public site r vs n ty e h a g ways
      object_fine k md site ty r (val.Text n) vs m f public e t u h a g ways = absurd (cc t)
      object_fine k md site ty r (val.Fixed n) vs m f public e t u h a g ways = absurd (cc t)
      object_fine k md site ty r val.Null vs m f public e t u h a g ways = absurd (cc u)
      object_fine k md site ty r val.None vs m f public e t u h a g ways = where_at G (λ s at. absurd (let z = subst (λ (u : Value). Is (p G) s.noted (class_type md.class) u) e (h.by s.noted at.known) in cc z))
      object_fine k md site ty r (val.Bool x) vs m f public e t u h a g ways = where_at G (λ s at. absurd (let z = subst (λ (u : Value). Is (p G) s.noted (class_type md.class) u) e (h.by s.noted at.known) in cc z))
      object_fine k md site ty r (val.Byte x) vs m f public e t u h a g ways = where_at G (λ s at. absurd (let z = subst (λ (u : Value). Is (p G) s.noted (class_type md.class) u) e (h.by s.noted at.known) in cc z))
      object_fine k md site ty r (val.Short x) vs m f public e t u h a g ways = where_at G (λ s at. absurd (let z = subst (λ (u : Value). Is (p G) s.noted (class_type md.class) u) e (h.by s.noted at.known) in cc z))
      object_fine k md site ty r (val.Char x) vs m f public e t u h a g ways = where_at G (λ s at. absurd (let z = subst (λ (u : Value). Is (p G) s.noted (class_type md.class) u) e (h.by s.noted at.known) in cc z))
      object_fine k md site ty r (val.Int x) vs m f public e t u h a g ways = where_at G (λ s at. absurd (let z = subst (λ (u : Value). Is (p G) s.noted (class_type md.class) u) e (h.by s.noted at.known) in cc z))
      object_fine k md site ty r (val.Long x) vs m f public e t u h a g ways = where_at G (λ s at. absurd (let z = subst (λ (u : Value). Is (p G) s.noted (class_type md.class) u) e (h.by s.noted at.known) in cc z))
      object_fine k md site ty r (val.Arm n) vs m f public e t u h a g ways = where_at G (λ s at. absurd (subst (λ (u : Value). Is (p G) s.noted (class_type md.class) u) e (h.by s.noted at.known)))

      chosen_call_fine : (k : ℕ) (md : Method) (receiver : Run (A G) C) (args : List (Run (A G) C)) (site : ℕ) (ty : Ty) → IsMethod (p G) k md → md.form ≡ kinds.Instance → md.is_private ≡ false → T G M i receiver ty → Fits (p G).classes ty (class_type md.class) → AllTypes G M i args md.params → F receiver → AllFine o.point args → Among (p G) (choosing (p G) o k ty site) → F (call_on w call.Chosen k receiver args site)
      unfolding call_on call_form
      chosen_call_fine k md receiver args site ty m f public d fits da g ga ways = record {
        by = λ P. bind G (d.by P) (g.by P) (λ r. bind G (gives_all G M i args md.params _ da) (all_fine o.point args md.params _ da ga) (λ vs.
            either G (is_null r.value) (λ e. quiet G (quietly.q_null G M site r)) (λ e.
            either G (is_text r.value) (λ t. quiet G (quietly.q_on_text G M (k == equals) r vs)) (λ t. object_fine k md site ty r r.value vs m f public refl t e (fitted ty (class_type md.class) r.value fits (before _ _ (newest _ _))) (newest _ _) (before _ _ (newest _ _)) ways))));
      }

      direct_fine : (k : ℕ) (md : Method) (receiver : Run (A G) C) (args : List (Run (A G) C)) (site : ℕ) → IsMethod (p G) k md → this_types md.form md.class ≡ class_type md.class ∷ [] → T G M i receiver (class_type md.class) → AllTypes G M i args md.params → F receiver → AllFine o.point args → Among (p G) (calling o k site) → F (call_on w call.Direct k receiver args site)
      unfolding call_on call_form called all_are is both
      direct_fine k md receiver args site m t d da g ga ways = record {
        by = λ P. bind G (d.by P) (g.by P) (λ r. bind G (gives_all G M i args md.params _ da) (all_fine o.point args md.params _ da ga) (λ vs.
            either G (is_null r.value) (λ q. quiet G (quietly.q_null G M site r)) (λ q.
            L.calls (In i) b o.point site k (Some r) vs _ (record { by = λ n h. calls_with G M i n k md r vs m t h.0.1 h.1 }) (way_link (p G) link_kind.Call o.point (point.Entry k) site (among_head (p G) _ [] ways)) stands)));
      }

      static_fine_call : (k : ℕ) (md : Method) (args : List (Run (A G) C)) (site : ℕ) → IsMethod (p G) k md → md.form ≡ kinds.Static → AllTypes G M i args md.params → AllFine o.point args → Among (p G) (initializing o (method (p G) k).class site) → Among (p G) (calling o k site) → F (call_static w k args site)
      unfolding call_static called all_are ◌>>◌
      static_fine_call k md args site m s da ga init ways = record {
        by = λ P. bind G (gives_all G M i args md.params _ da) (all_fine o.point args md.params _ da ga) (λ vs. bind G (may_initialize G M site (method (p G) k).class) (initializes o site (method (p G) k).class init stands) (λ u.
            L.calls (In i) b o.point site k Absent vs _ (record { by = λ n h. static_calls G M i n k md vs m s ((before _ _ (newest _ _)).by n h) }) (way_link (p G) link_kind.Call o.point (point.Entry k) site (among_head (p G) _ [] ways)) stands));
      }

      -- ---- creation

      constructs_fine : {P : Known G} (site c : ℕ) (k : Option ℕ) (params : List Ty) (v : C) (args : List C) → Constructs G M i c k params → Entails P (of_type G (class_type c) v.value) → Entails P (all_are G params args) → Among (p G) (constructing o k site) → O P (construct w site k v args)
      unfolding construct called is all_are
      constructs_fine site c Absent params v args h e a ways = quiet G (q_return tt)
      constructs_fine site c (Some k) params v args h e a ways = then_quiet G (L.calls (In i) b o.point site k (Some v) args _ (record { by = λ n q. constructor_calls G M i n c k h.0 params v args h.1 h.2 h.3 (e.by n q) (a.by n q) }) (way_link (p G) link_kind.Call o.point (point.Entry k) site (among_head (p G) _ [] ways)) stands) (λ u. q_return tt)

      create_fine : (c : ℕ) (k : Option ℕ) (params : List Ty) (args : List (Run (A G) C)) (site : ℕ) → IsMade (p G) c → (c ≡ string_class → ⊥) → Constructs G M i c k params → AllTypes G M i args params → AllFine o.point args → Among (p G) (initializing o c site) → Among (p G) (constructing o k site) → F (create w c k args site)
      unfolding create value_of ◌>>◌
      create_fine c k params args site m n h da ga init ways =
          let code = class_code_is (length (p G).classes) c G.library.few (slice_get_within (p G).classes c m.0 m.1) in
          record {
            by = λ P. bind G (may_initialize G M site c) (initializes o site c init stands) (λ t. bind G (notes_object G site (class_code c) (constant val.None)) (quiet G (q_new (p G) _ _ (quietly.q_object G M site c (constant val.None) (λ q. n (quietly.class_same c string_class (sym code ∙ q)))))) (λ e.
                bind G (gives_all G M i args params _ da) (all_fine o.point args params _ da ga) (λ vs. then_quiet G (constructs_fine site c k params (value_of e (val.Object e.number)) vs h
                (before _ _ (new_is G e site (class_code c) val.None (class_type c) (class_type c) (newest _ _) code (record { reference = tt; concrete = m; below = same }))) (newest _ _) ways)
                (λ t. q_return _))));
          }

      -- ---- arrays

      array_code : (base : Base) (n m : ℕ) → IsTypeOf (length (p G).classes) (Of base m) → type_of_code (type_code (Of base (suc n))) ≡ text_type → ⊥
      array_code base n m known e = let q : Of base (suc n) ≡ text_type = sym (array_made G M base n m known).code ∙ e in cc q

      arrays_from : (n : List (Noted (A G))) (base : Base) (m brackets k : ℕ) (ds : List C) → IsTypeOf (length (p G).classes) (Of base k) → m ≤ brackets → AllAre G n (replicate m int_type) ds → quietly.Arrays G M (Of base brackets) ds
      arrays_from n base m brackets k [] known le h = tt
      arrays_from n base zero brackets k (d ∷ ds) known le h = absurd h
      arrays_from n base (suc m) zero k (d ∷ ds) known le h = absurd (omega (arith, le))
      arrays_from n base (suc m) (suc brackets) k (d ∷ ds) known le h = (array_code base brackets k known, subst (λ t. quietly.Arrays G M t ds) (sym (one_less G M base brackets)) (arrays_from n base m brackets k ds known (omega (arith, le)) h.1))

      array_fine : (base : Base) (brackets n : ℕ) (dims : List (Run (A G) C)) (site : ℕ) → n < brackets → IsTypeOf (length (p G).classes) (Of base brackets) → AllTypes G M i dims (replicate (suc n) int_type) → AllFine o.point dims → F (create_array w (Of base brackets) dims site)
      unfolding create_array all_are both
      array_fine base brackets n dims site lt known d f = record {
        by = λ P. bind G (gives_all G M i dims _ _ d) (all_fine o.point dims _ _ d f) (λ ds. either G (any_negative ds) (λ e. quiet G (quietly.q_size G M site _)) (λ e.
            where_at G (λ s at. quiet G (quietly.q_make_arrays G M site (Of base brackets) ds (arrays_from s.noted base (suc n) brackets brackets ds known (omega (arith, lt)) at.known.1)))));
      }

      elements_fine : (ms : List (Run (A G) C)) (ts : List Ty) (e : Made (A G)) (k : ℕ) (sites : List ℕ) (ty : Ty) (P : Known G) → AllAlike ts ty → Entails P (elements_are G M e.number ty) → AllTypes G M i ms ts → AllFine o.point ms → O P (set_elements e k sites ms)
      unfolding set_elements
      elements_fine [] ts e k sites ty P h r d f = quiet G (q_return tt)
      elements_fine (m ∷ ms) [] e k sites ty P h r d f = absurd d.0
      elements_fine (m ∷ ms) (t ∷ ts) e k sites ty P h r d f = bind G (d.0.by P) (f.0.by P) (λ v. bind G (sets_slot G (first_site sites) (slot.Elem e.number k) v.value _ (element_place G M e.number k ty (before _ _ r)) (element_stores G M e.number k ty v.value (before _ _ r) (subst (λ z. Entails (both P (of_type G t v.value)) (of_type G z v.value)) h.0 (newest _ _)))) (quiet G (q_write _ _ (quietly.q_set G M (first_site sites) (slot.Elem e.number k) v.value))) (λ set.
          elements_fine ms ts e (suc k) (rest_sites sites) ty _ h.1 (before _ _ (before _ _ r)) d.1 f.1))

      filled_fine : (base : Base) (brackets n : ℕ) (ms : List (Run (A G) C)) (sites : List ℕ) (site : ℕ) → IsTypeOf (length (p G).classes) (Of base brackets) → AllTypes G M i ms (replicate n (Of base brackets)) → AllFine o.point ms → F (create_filled w (Of base (suc brackets)) ms sites site)
      unfolding create_filled ◌>>◌
      filled_fine base brackets n ms sites site known d f =
          let made = array_made G M base brackets brackets known in
          record {
            by = λ P. bind G (makes_array G M site (Of base (suc brackets)) (length ms) (constant val.None)) (quiet G (quietly.q_make_array G M site (Of base (suc brackets)) (length ms) (constant val.None) (array_code base brackets brackets known))) (λ e.
                then_quiet G (elements_fine ms _ e 0 sites (Of base brackets) _ (alike G M i n (Of base brackets)) (made_elements G M e site (Of base (suc brackets)) (length ms) (Of base brackets) (newest _ _) (λ m q. (made.code, one_less G M base brackets))) d f) (λ t. q_return _));
          }

      -- ---- conditions

      abbrev ArmFine : Point → Option (Run (A G) C) → Type 1
      ArmFine q Absent = Unit {1}
      ArmFine q (Some m) = Fine q m

      arm_fine : {P : Known G} (q : Point) (e : Made (A G)) (v : Value) (m : Option (Run (A G) C)) → ArmFine q m → Ours G (In i) b q P (arm e v m) (λ u. q)
      unfolding arm
      arm_fine q e v Absent h = quiet G (q_return _)
      arm_fine {P = P} q e v (Some m) h = then_quiet G (h.by P) (λ c. q_return _)

      arm_edge : (site n k : ℕ) → n ≡ k → IsLink (p G) (record { kind = link_kind.Arm k; from = o.point; to = point.Arm site k; site = o.site }) → Edge G b o.point (plain kind.Test site (val.Arm n)) (point.Arm site k)
      unfolding plain
      arm_edge site n k e h = record {
        link = record { kind = link_kind.Arm k; from = o.point; to = point.Arm site k; site = o.site };
        is_link = h;
        from = refl;
        to = refl;
        crossing = tt;
        only = only;
        shown = (refl, refl, ap val.Arm e);
        calling = λ k. absurd k;
        no_new = λ k. cc k;
      }
        where
          same_arm : (x y : ℕ) → val.Arm x ≡ val.Arm y → x ≡ y
          same_arm x y q = cc q

          only : (x : Point) → ShownBy x kind.Test site Absent (val.Arm n) → x ≡ point.Arm site k
          only (point.Arm s m) h = ap (λ z. point.Arm z m) (sym h.1) ∙ ap (λ z. point.Arm site z) (same_arm m n (sym h.2) ∙ e)
          only point.Start h = absurd h
          only (point.Statement n) h = absurd h
          only (point.Entry m) h = absurd (cc h.0)
          only (point.Init m) h = absurd (cc h.0)
          only (point.Catch m) h = absurd (cc h.0)

      arm_link : (site : ℕ) (c : Bool) → Among (p G) (arms o site) → IsLink (p G) (record { kind = link_kind.Arm (arm_number c); from = o.point; to = point.Arm site (arm_number c); site = o.site })
      arm_link site true h = way_link (p G) (link_kind.Arm 1) o.point (point.Arm site 1) o.site (among_head (p G) _ _ h)
      arm_link site false h = way_link (p G) (link_kind.Arm 0) o.point (point.Arm site 0) o.site (among_head (p G) _ [] (among_tail (p G) _ _ h))

      is_boolean : (n : List (Noted (A G))) (v : Value) → Is (p G) n boolean_type v → (c : Bool) × (v ≡ val.Bool c)
      is_boolean n (val.Bool c) h = (c, refl)
      is_boolean n (val.Byte z) h = absurd (cc h)
      is_boolean n (val.Short z) h = absurd (cc h)
      is_boolean n (val.Char z) h = absurd (cc h)
      is_boolean n (val.Int z) h = absurd (cc h)
      is_boolean n (val.Long z) h = absurd (cc h)
      is_boolean n val.Null h = ⊎_elim (λ q. absurd (cc q)) (λ q. absurd q) h
      is_boolean n (val.Object k) h = absurd h.stands.reference
      is_boolean n (val.Text k) h = absurd h.reference
      is_boolean n (val.Fixed k) h = absurd h.reference
      is_boolean n val.None h = absurd (cc h)
      is_boolean n (val.Arm k) h = absurd h

      true_as : (v : Value) (c : Bool) → v ≡ val.Bool c → is_true v ≡ c
      unfolding is_true
      true_as v c e = ap is_true e

      arm_as : (v : Value) (c : Bool) → v ≡ val.Bool c → arm_of_truth (is_true v) ≡ arm_number c
      unfolding is_true arm_of_truth
      arm_as v true e = ap (λ z. arm_of_truth (is_true z)) e
      arm_as v false e = ap (λ z. arm_of_truth (is_true z)) e

      -- with the truth of the test
      arms_fine : {P : Known G} (a d : Option (Run (A G) C)) (site : ℕ) (v : C) (e : Made (A G)) (c : Bool) → is_true v.value ≡ c → ArmFine (point.Arm site 1) a → ArmFine (point.Arm site 0) d → Ours G (In i) b (point.Arm site (arm_number c)) P (choose (is_true v.value) (arm e v.value a) (arm e v.value d)) (λ u. point.Arm site (arm_number c))
      arms_fine a d site v e true t fa fd = either G (is_true v.value) (λ q. arm_fine (point.Arm site 1) e v.value a fa) (λ q. absurd (cc (sym t ∙ q)))
      arms_fine a d site v e false t fa fd = either G (is_true v.value) (λ q. absurd (cc (sym t ∙ q))) (λ q. arm_fine (point.Arm site 0) e v.value d fd)

      conditional_fine : (test : Run (A G) C) (a d : Option (Run (A G) C)) (site : ℕ) → T G M i test boolean_type → F test → Among (p G) (arms o site) → ArmFine (point.Arm site 1) a → ArmFine (point.Arm site 0) d → F (conditional test a d site)
      unfolding conditional is both
      conditional_fine test a d site dt ft h fa fd = record {
        by = λ P. scopes G (bind G (dt.by P) (ft.by P) (λ v. where_at G (λ s at. let t = is_boolean s.noted v.value at.known.1 in
            at_owner G (bind G (notes_test G Around site _ v) (records G (plain kind.Test site (val.Arm (arm_of_truth (is_true v.value)))) v (λ s. activating_adds Around _ v s _ (note_adds _ v s)) (arm_edge site _ (arm_number t.0) (arm_as v.value t.0 t.1) (arm_link site t.0 h))) (λ e. arms_fine a d site v e t.0 (true_as v.value t.0 t.1) fa fd)))));
      }

    -- ---- each form, where its forms and theirs lead along ways of the program

    pub record Keeps (e : Expression) : Type 1 where
      pub by : (o : Owner) → method_of (p G) o.point ≡ b → Each (p G) b (forms o e) → (ty : Ty) → HasType (p G) (local_types (p G) i) e ty → Fine o.point (eval w e)

    module _ (o : Owner) (stands : method_of (p G) o.point ≡ b) where
      abbrev F1 : Run (A G) C → Type 1
      F1 m = Fine o.point m

      abbrev Has : Expression → Ty → Type 0
      Has e ty = HasType (p G) (local_types (p G) i) e ty

      typed_as : (e : Expression) (ty : Ty) → Has e ty → T G M i (eval w e) ty
      typed_as e ty h = (expression.typed G M i e).by ty h

      ticked : (m : Run (A G) C) → F1 m → F1 (tick >> m)
      ticked m h = record { by = λ P. after G (ticks G) (quiet G q_tick) (λ P. h.by P) }

      given_fine : (e : Expression) (ty : Ty) → Keeps e → Each (p G) b (forms o e) → Gives (p G) (local_types (p G) i) e ty → F1 (eval w e)
      given_fine e ty d h (fitting {a = a} g f) = d.by o stands h a g

      given_typed : (e : Expression) (ty : Ty) → Gives (p G) (local_types (p G) i) e ty → T G M i (eval w e) ty
      given_typed e ty g = expression.given G M i e ty (expression.typed G M i e) g

      rows_typed : (row : Row) (ts : List Ty) → GivesAll (p G) (local_types (p G) i) row ts → AllTypes G M i (eval_row w row) ts
      rows_typed row ts h = expression.given_all G M i row ts (row_of row) h
        where
          row_of : (row : Row) → OfRow (expression.Typed G M i) row
          row_of none = tt
          row_of (more e rest) = (expression.typed G M i e, row_of rest)

      rows_fine : (row : Row) (ts : List Ty) → OfRow Keeps row → Each (p G) b (row_forms o row) → GivesAll (p G) (local_types (p G) i) row ts → AllFine o.point (eval_row w row)
      unfolding eval_row
      rows_fine none ts d h g = tt
      rows_fine (more e rest) (t ∷ ts) d h (typing.and_more g gs) = (given_fine e t d.0 (each_left (p G) b (forms o e) (row_forms o rest) h) g, rows_fine rest ts d.1 (each_right (p G) b (forms o e) (row_forms o rest) h) gs)
      rows_fine (more e rest) [] d h g = elim g [ ]

      located_typed : (x : Place) (ty : Ty) → IsPlace (p G) (local_types (p G) i) x ty → Locates G M i (locate w x) ty
      located_typed x ty h = expression.located G M i x ty (place_of x) h
        where
          place_of : (x : Place) → OfPlace (expression.Typed G M i) x
          place_of (Local k) = tt
          place_of (Static k site) = tt
          place_of (Field object k site) = expression.typed G M i object
          place_of (Elem array index site) = (expression.typed G M i array, expression.typed G M i index)

      located_fine : (x : Place) (ty : Ty) → OfPlace Keeps x → Each (p G) b (place_forms o x) → Among (p G) (placing (p G) o x) → IsPlace (p G) (local_types (p G) i) x ty → LocatedFine o stands (locate w x)
      unfolding locate
      located_fine (Local k) ty d h a g = tt
      located_fine (Static k site) ty d h a g = (a, tt)
      located_fine (Field object k site) ty d h a (typing.field {f = f} e s g) = given_fine object _ d h g
      located_fine (Elem array index site) ty d h a (typing.element {base = c} {brackets = n} g k) = (d.0.by o stands (each_left (p G) b (forms o array) (forms o index) h) _ g, d.1.by o stands (each_right (p G) b (forms o array) (forms o index) h) _ k)

      quiet_fine : (m : Run (A G) C) → Quiet m → F1 m
      quiet_fine m q = record { by = λ P. quiet G q }

      then_fine : (m : Run (A G) C) (f : C → Run (A G) C) → F1 m → ((v : C) → Quiet (f v)) → F1 (m >>= f)
      then_fine m f h q = record { by = λ P. then_quiet G (h.by P) q }

      within : (e : Expression) → Each (p G) b (forms o e) → Each (p G) b (forms_within o e)
      within e h = each_tail (p G) b (o, e) (forms_within o e) h

      ways_at : (e : Expression) → Each (p G) b (forms o e) → Among (p G) (form_ways (p G) o e)
      ways_at e h = (each_head (p G) b (o, e) (forms_within o e) h).ways

      of_read : (x : Place) (ty : Ty) → OfPlace Keeps x → Each (p G) b (forms o (Read x)) → Has (Read x) ty → F1 (eval w (Read x))
      unfolding eval
      of_read x ty d h (typing.read g) = ticked _ (record { by = λ P. reads_fine o stands (locate w x) ty (located_typed x ty g) (located_fine x ty d (within (Read x) h) (ways_at (Read x) h) g) })

      of_set : (x : Place) (e : Expression) (site : ℕ) (ty : Ty) → OfPlace Keeps x → Keeps e → Each (p G) b (forms o (Set x e site)) → Has (Set x e site) ty → F1 (eval w (Set x e site))
      unfolding eval
      of_set x e site ty d de h (typing.assigned g k) =
          let inner = within (Set x e site) h in
          ticked _ (record { by = λ P. sets_fine o stands (locate w x) (eval w e) site ty (located_typed x ty g) (given_typed e ty k) (located_fine x ty d (each_left (p G) b (place_forms o x) (forms o e) inner) (ways_at (Set x e site) h) g) (given_fine e ty de (each_right (p G) b (place_forms o x) (forms o e) inner) k) })

      of_update : (x : Place) (op : BinOp) (value : Part) (value_ty place_ty : Ty) (wide : Option Primitive) (gives_old : Bool) (site : ℕ) (ty : Ty) → OfPlace Keeps x → OfPart Keeps value → Each (p G) b (forms o (Upd x op value value_ty place_ty wide gives_old site)) → Has (Upd x op value value_ty place_ty wide gives_old site) ty → F1 (eval w (Upd x op value value_ty place_ty wide gives_old site))
      unfolding eval eval_part part_or update
      of_update x op value value_ty place_ty wide gives_old site ty d de h (typing.updated {value = e} {to = to} {from = from} {wide = r} g k u) =
          let inner = within (Upd x op value value_ty place_ty wide gives_old site) h in
          let ways = among_left (p G) (placing (p G) o x) [] (ways_at (Upd x op value value_ty place_ty wide gives_old site) h) in
          ticked _ (record { by = λ P. updates_fine o stands (locate w x) op (eval w e) (primitive_type to) r false site (located_typed x _ g) (located_fine x _ d (each_left (p G) b (place_forms o x) (forms o e) inner) ways g) (de.by o stands (each_right (p G) b (place_forms o x) (forms o e) inner) _ k) })
      of_update x op value value_ty place_ty wide gives_old site ty d de h (typing.stepped {to = to} {wide = r} g k u) =
          let inner = within (Upd x op value value_ty place_ty wide gives_old site) h in
          let ways = among_left (p G) (placing (p G) o x) [] (ways_at (Upd x op value value_ty place_ty wide gives_old site) h) in
          ticked _ (record { by = λ P. updates_fine o stands (locate w x) op _ (primitive_type to) r gives_old site (located_typed x _ g) (located_fine x _ d (each_left (p G) b (place_forms o x) [] inner) ways g) (quiet_fine _ (q_return _)) })
      of_update x op value value_ty place_ty wide gives_old site ty d de h (typing.extended {value = e} g k j f) =
          let inner = within (Upd x op value value_ty place_ty wide gives_old site) h in
          let all = ways_at (Upd x op value value_ty place_ty wide gives_old site) h in
          let both_ways = among_right (p G) (placing (p G) o x) (converting (p G) o ty site ++ converting (p G) o value_ty site) all in
          ticked _ (append_fine o stands (locate w x) (eval w e) site ty value_ty (located_typed x _ g) (typed_as e value_ty k) (located_fine x _ d (each_left (p G) b (place_forms o x) (forms o e) inner) (among_left (p G) (placing (p G) o x) (converting (p G) o ty site ++ converting (p G) o value_ty site) all) g) (de.by o stands (each_right (p G) b (place_forms o x) (forms o e) inner) _ k) (among_left (p G) (converting (p G) o ty site) (converting (p G) o value_ty site) both_ways) (among_right (p G) (converting (p G) o ty site) (converting (p G) o value_ty site) both_ways))

      of_unary : (op : UnOp) (e : Expression) (ty : Ty) → Keeps e → Each (p G) b (forms o (Un op e)) → Has (Un op e) ty → F1 (eval w (Un op e))
      unfolding eval unary
      of_unary op e ty d h (typing.signed n q g) = ticked _ (then_fine _ _ (d.by o stands (within (Un op e) h) _ g) (λ v. q_return _))
      of_unary op e ty d h (typing.negated g) = ticked _ (then_fine _ _ (d.by o stands (within (Un op e) h) _ g) (λ v. q_return _))

      of_binary : (op : BinOp) (l r : Expression) (site : ℕ) (ty : Ty) → Keeps l → Keeps r → Each (p G) b (forms o (Bin op l r site)) → Has (Bin op l r site) ty → F1 (eval w (Bin op l r site))
      unfolding eval binary
      of_binary op l r site ty dl dr h (typing.operated {a = a} {b = c} g k u) =
          let inner = within (Bin op l r site) h in
          ticked _ (record { by = λ P. bind G ((typed_as l a g).by P) ((dl.by o stands (each_left (p G) b (forms o l) (forms o r) inner) _ g).by P) (λ x. then_quiet G ((dr.by o stands (each_right (p G) b (forms o l) (forms o r) inner) _ k).by _) (λ y. quietly.q_divided G M site _ _)) })

      of_conversion : (to : Primitive) (e : Expression) (ty : Ty) → Keeps e → Each (p G) b (forms o (Conv to e)) → Has (Conv to e) ty → F1 (eval w (Conv to e))
      unfolding eval convert
      of_conversion to e ty d h (typing.converted t f g) = ticked _ (then_fine _ _ (d.by o stands (within (Conv to e) h) _ g) (λ v. q_return _))

      of_cast : (to : Ty) (e : Expression) (site : ℕ) (ty : Ty) → Keeps e → Each (p G) b (forms o (Cast to e site)) → Has (Cast to e site) ty → F1 (eval w (Cast to e site))
      unfolding eval cast
      of_cast to e site ty d h (typing.cast r g c) = ticked _ (then_fine _ _ (d.by o stands (within (Cast to e site) h) _ g) (λ v. q_bind (quietly.q_type_of G M v.value) (λ found. q_choose (is_null v.value) (q_return v) (q_choose (is_below (p G) found to) (q_return v) (quietly.q_cast G M site v)))))

      of_instance_of : (of : Ty) (e : Expression) (ty : Ty) → Keeps e → Each (p G) b (forms o (InstanceOf of e)) → Has (InstanceOf of e) ty → F1 (eval w (InstanceOf of e))
      unfolding eval instance_of
      of_instance_of of e ty d h (typing.tested r g c) = ticked _ (then_fine _ _ (d.by o stands (within (InstanceOf of e) h) _ g) (λ v. q_bind (quietly.q_type_of G M v.value) (λ found. q_return _)))

      of_cat : (l r : Expression) (a c : Ty) (site : ℕ) (ty : Ty) → Keeps l → Keeps r → Each (p G) b (forms o (Cat l r a c site)) → Has (Cat l r a c site) ty → F1 (eval w (Cat l r a c site))
      unfolding eval
      of_cat l r a c site ty dl dr h (typing.joined g k j) =
          let inner = within (Cat l r a c site) h in
          let ways = ways_at (Cat l r a c site) h in
          ticked _ (cat_fine o stands (eval w l) (eval w r) site a c (typed_as l a g) (typed_as r c k) (dl.by o stands (each_left (p G) b (forms o l) (forms o r) inner) _ g) (dr.by o stands (each_right (p G) b (forms o l) (forms o r) inner) _ k) (among_left (p G) (converting (p G) o a site) (converting (p G) o c site) ways) (among_right (p G) (converting (p G) o a site) (converting (p G) o c site) ways))

      of_library : (op : LibOp) (args : Row) (site : ℕ) (ty : Ty) → OfRow Keeps args → Each (p G) b (forms o (Lib op args site)) → Has (Lib op args site) ty → F1 (eval w (Lib op args site))
      unfolding eval library_form
      of_library op args site ty d h (typing.offered {params = ts} f a) = ticked _ (record { by = λ P. then_quiet G (all_fine o.point (eval_row w args) ts P (rows_typed args ts a) (rows_fine args ts d (within (Lib op args site) h) a)) (λ vs. quietly.q_library G M op site vs) })

      of_test : (f : CondForm) (t : Expression) (x y : Part) (site : ℕ) → Each (p G) b (forms o (Cond f t x y site)) → Each (p G) b (forms o t)
      of_test f t x y site h = each_left (p G) b (forms o t) (part_forms (arm_owner site 1) x ++ part_forms (arm_owner site 0) y) (within (Cond f t x y site) h)

      of_arms : (f : CondForm) (t : Expression) (x y : Part) (site : ℕ) → Each (p G) b (forms o (Cond f t x y site)) → Each (p G) b (part_forms (arm_owner site 1) x ++ part_forms (arm_owner site 0) y)
      of_arms f t x y site h = each_right (p G) b (forms o t) (part_forms (arm_owner site 1) x ++ part_forms (arm_owner site 0) y) (within (Cond f t x y site) h)

      of_true : (f : CondForm) (t : Expression) (x y : Part) (site : ℕ) → Each (p G) b (forms o (Cond f t x y site)) → Each (p G) b (part_forms (arm_owner site 1) x)
      of_true f t x y site h = each_left (p G) b (part_forms (arm_owner site 1) x) (part_forms (arm_owner site 0) y) (of_arms f t x y site h)

      of_false : (f : CondForm) (t : Expression) (x y : Part) (site : ℕ) → Each (p G) b (forms o (Cond f t x y site)) → Each (p G) b (part_forms (arm_owner site 0) y)
      of_false f t x y site h = each_right (p G) b (part_forms (arm_owner site 1) x) (part_forms (arm_owner site 0) y) (of_arms f t x y site h)

      stands_at : (f : CondForm) (t : Expression) (x y : Part) (site : ℕ) → Each (p G) b (forms o (Cond f t x y site)) → (v : Bool) → method_of (p G) (point.Arm site (arm_number v)) ≡ b
      stands_at f t x y site h v = (each_head (p G) b (o, Cond f t x y site) (forms_within o (Cond f t x y site)) h).arms f t x y site refl v

      of_conditional : (f : CondForm) (t : Expression) (x y : Part) (site : ℕ) (ty : Ty) → Keeps t → OfPart Keeps x → OfPart Keeps y → Each (p G) b (forms o (Cond f t x y site)) → Has (Cond f t x y site) ty → F1 (eval w (Cond f t x y site))
      unfolding eval eval_part
      of_conditional f t x y site ty d dx dy h (typing.both {right = r} g k) = ticked _ (conditional_fine o stands (eval w t) _ _ site (typed_as t _ g) (d.by o stands (of_test f t x y site h) _ g) (ways_at (Cond f t x y site) h) (dx.by (arm_owner site 1) (stands_at f t x y site h true) (of_true f t x y site h) _ k) tt)
      of_conditional f t x y site ty d dx dy h (typing.either {right = r} g k) = ticked _ (conditional_fine o stands (eval w t) _ _ site (typed_as t _ g) (d.by o stands (of_test f t x y site h) _ g) (ways_at (Cond f t x y site) h) tt (dy.by (arm_owner site 0) (stands_at f t x y site h false) (of_false f t x y site h) _ k))
      of_conditional f t x y site ty d dx dy h (typing.chosen g v k m n) = ticked _ (conditional_fine o stands (eval w t) _ _ site (typed_as t _ g) (d.by o stands (of_test f t x y site h) _ g) (ways_at (Cond f t x y site) h) (given_at (arm_owner site 1) (stands_at f t x y site h true) _ _ dx (of_true f t x y site h) m) (given_at (arm_owner site 0) (stands_at f t x y site h false) _ _ dy (of_false f t x y site h) n))
        where
          given_at : (q : Owner) → method_of (p G) q.point ≡ b → (e : Expression) (ty : Ty) → Keeps e → Each (p G) b (forms q e) → Gives (p G) (local_types (p G) i) e ty → Fine q.point (eval w e)
          given_at q s e ty d h (fitting {a = a} g f) = d.by q s h a g

      no_text_constructor : (k : ℕ) (md : Method) → IsMethod (p G) k md → md.form ≡ kinds.Constructor → md.class ≡ string_class → ⊥
      no_text_constructor k md m f e = go k refl (text_methods (p G) G.library G.fits.declarations.library_methods k md m (inr e))
        where
          go : (j : ℕ) → k ≡ j → k < 2 → ⊥
          go zero q l = cc (sym f ∙ ap (λ (x : Method). x.form) (one_method (p G).methods 0 md to_string_method (subst (λ z. IsMethod (p G) z md) q m) (to_string_is (p G) G.fits.declarations.library_methods)))
          go (suc zero) q l = cc (sym f ∙ ap (λ (x : Method). x.form) (one_method (p G).methods 1 md equals_method (subst (λ z. IsMethod (p G) z md) q m) (equals_is (p G) G.fits.declarations.library_methods)))
          go (suc (suc j)) q l = omega (arith, l, q)

      of_creation : (c : ℕ) (k : Option ℕ) (args : Row) (site : ℕ) (ty : Ty) → OfRow Keeps args → Each (p G) b (forms o (New c k args site)) → Has (New c k args site) ty → F1 (eval w (New c k args site))
      unfolding eval eval_row
      of_creation c k args site ty d h (typing.made_plain m) =
          let ways = ways_at (New c k args site) h in
          ticked _ (create_fine o stands object_class Absent [] [] site m (λ e. cc e) tt tt tt (among_left (p G) (initializing o object_class site) [] ways) (among_right (p G) (initializing o object_class site) [] ways))
      of_creation c k args site ty d h (typing.made {k = n} {m = md} m e f q u a) =
          let ways = ways_at (New c k args site) h in
          ticked _ (create_fine o stands c (Some n) md.params (eval_row w args) site m (λ z. no_text_constructor n md e f (q ∙ z)) (md, e, ap (λ g. this_types g md.class) f ∙ ap (λ x. class_type x ∷ []) q, refl) (rows_typed args md.params a) (rows_fine args md.params d (within (New c k args site) h) a) (among_left (p G) (initializing o c site) (constructing o (Some n) site) ways) (among_right (p G) (initializing o c site) (constructing o (Some n) site) ways))

      of_array : (of : Ty) (dims elements : Row) (sites : List ℕ) (site : ℕ) (ty : Ty) → OfRow Keeps dims → OfRow Keeps elements → Each (p G) b (forms o (NewArray of dims elements sites site)) → Has (NewArray of dims elements sites site) ty → F1 (eval w (NewArray of dims elements sites site))
      unfolding eval eval_row new_array
      of_array of (more e rest) elements sites site ty dd de h (typing.array {base = c} {brackets = n} m lt known g) = ticked _ (array_fine o stands c n m (eval_row w (more e rest)) site lt known (rows_typed (more e rest) _ g) (rows_fine (more e rest) _ dd (each_left (p G) b (row_forms o (more e rest)) [] (within (NewArray of (more e rest) elements sites site) h)) g))
      of_array of none elements sites site ty dd de h (typing.filled {base = c} {brackets = n} known g) = ticked _ (filled_fine o stands c n (length sites) (eval_row w elements) sites site known (rows_typed elements _ g) (rows_fine elements _ de (within (NewArray of none elements sites site) h) g))
      of_array of none elements sites site ty dd de h (typing.array {base = c} {brackets = n} m lt known g) = elim g [ ]

      of_call_on : (f : CallForm) (k : ℕ) (md : Method) (e : Expression) (on : Ty) (args : Row) (site : ℕ) → IsMethod (p G) k md → md.form ≡ kinds.Instance → MayBeCalled (p G) f k md → T G M i (eval w e) on → Fits (p G).classes on (class_type md.class) → F1 (eval w e) → AllTypes G M i (eval_row w args) md.params → AllFine o.point (eval_row w args) → Among (p G) (called_ways (p G) o f k on site) → F1 (meaning.call w f k (Some (eval w e)) (eval_row w args) site)
      unfolding meaning.call part_or
      of_call_on call.Chosen k md e on args site m s c d g fe da fa ways = chosen_call_fine o stands k md (eval w e) (eval_row w args) site on m s c d g da fe fa ways
      of_call_on call.Direct k md e on args site m s c d g fe da fa ways = direct_fine o stands k md (eval w e) (eval_row w args) site m (ap (λ x. this_types x md.class) s) (record { by = λ P. gives_less G (d.by P) (λ v. fitted on (class_type md.class) v.value g (newest _ _)) }) da fe fa ways
      of_call_on call.Static k md e on args site m s c d g fe da fa ways = absurd c

      of_call : (f : CallForm) (k : ℕ) (receiver : Part) (on : Ty) (args : Row) (site : ℕ) (ty : Ty) → OfPart Keeps receiver → OfRow Keeps args → Each (p G) b (forms o (Call f k receiver on args site)) → Has (Call f k receiver on args site) ty → F1 (eval w (Call f k receiver on args site))
      unfolding eval eval_part meaning.call part_or
      of_call f k receiver on args site ty dr da h (typing.called {m = md} m s u a) =
          let ways = ways_at (Call f k receiver on args site) h in
          ticked _ (static_fine_call o stands k md (eval_row w args) site m s (rows_typed args md.params a) (rows_fine args md.params da (within (Call f k receiver on args site) h) a) (among_left (p G) (initializing o (method (p G) k).class site) (calling o k site) ways) (among_right (p G) (initializing o (method (p G) k).class site) (calling o k site) ways))
      of_call f k receiver on args site ty dr da h (typing.called_on {m = md} {receiver = e} m s c g r q a) =
          let inner = within (Call f k receiver on args site) h in
          ticked _ (of_call_on f k md e on args site m s c (given_typed e on g) q (given_fine e on dr (each_left (p G) b (forms o e) (row_forms o args) inner) g) (rows_typed args md.params a) (rows_fine args md.params da (each_right (p G) b (forms o e) (row_forms o args) inner) a) (ways_at (Call f k receiver on args site) h))
      of_call f k receiver on args site ty dr da h (typing.begun {m = md} {receiver = e} m s u g a) =
          let inner = within (Call f k receiver on args site) h in
          ticked _ (direct_fine o stands k md (eval w e) (eval_row w args) site m (expression.not_static G M i md.form md.class s) (given_typed e _ g) (rows_typed args md.params a) (given_fine e _ dr (each_left (p G) b (forms o e) (row_forms o args) inner) g) (rows_fine args md.params da (each_right (p G) b (forms o e) (row_forms o args) inner) a) (ways_at (Call f k receiver on args site) h))

      of_constant : (v : Constant) → F1 (eval w (Const v))
      unfolding eval
      of_constant v = ticked _ (quiet_fine _ (q_return _))

      of_str : (k : ℕ) → F1 (eval w (Str k))
      unfolding eval
      of_str k = ticked _ (quiet_fine _ (q_return _))

    step : (e : Expression) → Parts Keeps e → Keeps e
    step (Const v) d = record { by = λ o s h ty g. of_constant o s v }
    step (Str k) d = record { by = λ o s h ty g. of_str o s k }
    step (Read x) d = record { by = λ o s h ty g. of_read o s x ty d h g }
    step (Set x e site) d = record { by = λ o s h ty g. of_set o s x e site ty d.0 d.1 h g }
    step (Upd x op value value_ty place_ty wide gives_old site) d = record { by = λ o s h ty g. of_update o s x op value value_ty place_ty wide gives_old site ty d.0 d.1 h g }
    step (Un op e) d = record { by = λ o s h ty g. of_unary o s op e ty d h g }
    step (Bin op l r site) d = record { by = λ o s h ty g. of_binary o s op l r site ty d.0 d.1 h g }
    step (Conv to e) d = record { by = λ o s h ty g. of_conversion o s to e ty d h g }
    step (Cast to e site) d = record { by = λ o s h ty g. of_cast o s to e site ty d h g }
    step (InstanceOf of e) d = record { by = λ o s h ty g. of_instance_of o s of e ty d h g }
    step (Cond f t x y site) d = record { by = λ o s h ty g. of_conditional o s f t x y site ty d.0 d.1 d.2 h g }
    step (New c k args site) d = record { by = λ o s h ty g. of_creation o s c k args site ty d h g }
    step (NewArray of dims elements sites site) d = record { by = λ o s h ty g. of_array o s of dims elements sites site ty d.0 d.1 h g }
    step (Call f k receiver on args site) d = record { by = λ o s h ty g. of_call o s f k receiver on args site ty d.0 d.1 h g }
    step (Cat l r a c site) d = record { by = λ o s h ty g. of_cat o s l r a c site ty d.0 d.1 h g }
    step (Lib op args site) d = record { by = λ o s h ty g. of_library o s op args site ty d h g }

    -- so does every expression
    pub keeps : (e : Expression) → Keeps e
    keeps e = of_expression Keeps step e
