-- What calls and creations give is of their types.
use Rattle.std.proofs.Common.{◌≡◌, ◌<◌, arith, ℕ, zero, suc, Bool, true, false, List, [], ◌∷◌, ◌++◌, length, ◌⊎◌, inl, inr, ⊎_elim, Option, Some, refl, sym, ap, ◌∙◌, subst}
use Rattle.std.specs.Prelude.{None as Absent}
use Rattle.std.specs.Prelude.{slice_get, ◌==◌}
use Rattle.std.proofs.lemmas.Option.{slice_get_within}
use Rattle.wy_kernel.specs.declared.types.Ty.{Ty}
use Rattle.wy_kernel.specs.declared.types.MethodForm.TheVariants as kinds
use Rattle.wy_kernel.specs.declared.form.CallForm.TheVariants as form
use Rattle.wy_kernel.specs.Program.{Method, method, class_of_type, dispatch, object_class, string_class}
use Rattle.wy_kernel.specs.Subtyping.{same, class_type}
use Rattle.wy_value.specs.declared.value.Value.{Value}
use Rattle.wy_value.specs.declared.value.Value.TheVariants as val
use Rattle.wy_steps.specs.State.{Carried, Run, Noted, ◌>>◌}
use Rattle.wy_steps.specs.Steps.{constant, joined, value_of}
use Rattle.wy_meaning.specs.World.{World, class_code, is_null, is_text, all_of}
use Rattle.wy_meaning.specs.Text.{call_chosen}
use Rattle.wy_meaning.specs.Call.{bound, equals, text_equals, call_on_text, call_form, call_on, call_static, construct, create}
use Rattle.wy_typing.specs.Types.{text_type}
use Rattle.wy_typing.specs.Expressions.{IsMethod, IsMade}
use Rattle.wy_typing.specs.Programs.{this_types}
use Rattle.law_induction.specs.Law.{nothing, both, Entails, FrameKind, In}
use Rattle.law_induction.proofs.Rules.{newest, before, trivially}
use Rattle.law_typed_states.specs.Typed.{Is, MayStand}
use Rattle.law_typed_states.proofs.Subtypes.{above_text}
use Rattle.law_typed_states.proofs.Library.{text_methods, object_is_top, text_below_object, class_code_is, to_string_method, equals_method, to_string_is, equals_is}
use Rattle.law_typed_states.proofs.Law.{is}
use Rattle.law_typed_states.proofs.Rules.{Ground, A, p, Known, Does, bind, gives_less, forgets, gives, either, next, notes_object}
use Rattle.law_typed_states.proofs.Facts.{new_is, AllAre, all_are, Calls, called}
use Rattle.law_typed_states.proofs.Places.{Methods, of_type, world_of, null_fails, some_type, some_units, may_initialize}
use Rattle.law_typed_states.proofs.Forms.{T, answered, on_receiver, chosen_gives, text_is_text}

pub one_method : (xs : List Method) (k : ℕ) (a b : Method) → slice_get xs k ≡ Some a → slice_get xs k ≡ Some b → a ≡ b
one_method xs k a b e h = some_same (sym e ∙ h)
  where
    some_same : {x y : Method} → Some x ≡ Some y → x ≡ y
    some_same e = cc e

class_same : (c d : ℕ) → class_type c ≡ class_type d → c ≡ d
class_same c d e = cc e

module _ (G : Ground) (M : Methods G) (i : FrameKind) where
  abbrev w : World (A G)
  w = world_of G M

  -- ---- rows of arguments

  abbrev pub AllTypes : List (Run (A G) (Carried (A G))) → List Ty → Type 1
  AllTypes [] [] = Unit {1}
  AllTypes (m ∷ ms) (t ∷ ts) = T G M i m t × AllTypes ms ts
  AllTypes [] (t ∷ ts) = ⊥ × Unit {1}
  AllTypes (m ∷ ms) [] = ⊥ × Unit {1}

  pub gives_all : (ms : List (Run (A G) (Carried (A G)))) (ts : List Ty) (P : Known G) → AllTypes ms ts → Does G (In i) P (all_of ms) (all_are G ts)
  unfolding all_of all_are is both
  gives_all [] [] P h = gives G [] (record { by = λ n q. tt })
  gives_all (m ∷ ms) (t ∷ ts) P h = bind G (h.0.by _) (λ v. bind G (gives_all ms ts _ h.1) (λ vs. gives G (v ∷ vs) (record { by = λ n q. (q.0.1, q.1) })))
  gives_all [] (t ∷ ts) P h = absurd h.0
  gives_all (m ∷ ms) [] P h = absurd h.0

  -- ---- calls on texts

  text_is : (n : List (Noted (A G))) (v : Value) → is_text v ≡ true → Is (p G) n text_type v
  unfolding is_text
  text_is n (val.Text k) e = text_is_text G M i
  text_is n (val.Fixed k) e = text_is_text G M i
  text_is n _ e = absurd (cc e)

  text_stands : (n : List (Noted (A G))) (v : Value) (ty : Ty) → is_text v ≡ true → Is (p G) n ty v → MayStand (p G) text_type ty
  unfolding is_text
  text_stands n (val.Text k) ty e h = h
  text_stands n (val.Fixed k) ty e h = h
  text_stands n _ ty e h = absurd (cc e)

  -- what an operation on a text gives is of the type, where this holds
  abbrev OnText : Known G → Ty → Value → Bool → List (Carried (A G)) → Type 0
  OnText P ty r true (v ∷ vs) = (z : Bool) → Entails P (of_type G ty (val.Bool z))
  OnText P ty r true [] = Entails P (of_type G ty r)
  OnText P ty r false args = Entails P (of_type G ty r)

  on_text : {P : Known G} (ty : Ty) (r : Carried (A G)) (b : Bool) (args : List (Carried (A G))) → OnText P ty r.value b args → Does G (In i) P (call_on_text w b r args) (λ u. of_type G ty u.value)
  unfolding call_on_text text_equals joined
  on_text ty r true (v ∷ vs) h = next G (some_units G M r.value) (λ x. next G (some_units G M v.value) (λ y. gives G _ (h _)))
  on_text ty r true [] h = gives G r h
  on_text ty r false args h = gives G r h

  never_on_text : (P : Known G) (ty : Ty) (r : Value) (b : Bool) (args : List (Carried (A G))) → ((n : List (Noted (A G))) → P.holds n → ⊥) → OnText P ty r b args
  never_on_text P ty r true (v ∷ vs) h = λ z. record { by = λ n q. absurd (h n q) }
  never_on_text P ty r true [] h = record { by = λ n q. absurd (h n q) }
  never_on_text P ty r false args h = record { by = λ n q. absurd (h n q) }

  equals_on_text : {P : Known G} (md : Method) (r : Value) (args : List (Carried (A G))) → md ≡ equals_method → Entails P (all_are G md.params args) → OnText P md.result r true args
  unfolding all_are is
  equals_on_text md r (v ∷ vs) e a = λ z. record { by = λ n q. ap (λ (m : Method). m.result) e }
  equals_on_text md r [] e a = record { by = λ n q. absurd (subst (λ (ts : List Ty). AllAre G n ts []) (ap (λ (m : Method). m.params) e) (a.by n q)) }

  module _ (k : ℕ) (md : Method) (found : IsMethod (p G) k md) (is_instance : md.form ≡ kinds.Instance) where
    few : (n : List (Noted (A G))) (v : Value) → is_text v ≡ true → Is (p G) n (class_type md.class) v → k < 2
    few n v t h = text_methods (p G) G.library G.fits.declarations.library_methods k md found (⊎_elim (λ e. inl (class_same md.class object_class e)) (λ e. inr (class_same md.class string_class e))
        (above_text (p G).classes (object_is_top (p G) G.fits.declarations.library_classes) (text_below_object (p G) G.fits.declarations.library_classes) _ _ (text_stands n v _ t h).below refl))

    text_operation : {P : Known G} (r : Value) (args : List (Carried (A G))) → is_text r ≡ true → Entails P (of_type G (class_type md.class) r) → Entails P (all_are G md.params args) → OnText P md.result r (k == equals) args
    unfolding is
    text_operation {P = P} r args t e a = go k refl
      where
        go : (j : ℕ) → k ≡ j → OnText P md.result r (j == equals) args
        go zero q = record { by = λ n h. subst (λ u. Is (p G) n u r) (ap (λ (m : Method). m.result) (one_method (p G).methods 0 to_string_method md (to_string_is (p G) G.fits.declarations.library_methods) (subst (λ x. IsMethod (p G) x md) q found))) (text_is n r t) }
        go (suc zero) q = equals_on_text md r args (one_method (p G).methods 1 md equals_method (subst (λ x. IsMethod (p G) x md) q found) (equals_is (p G) G.fits.declarations.library_methods)) a
        go (suc (suc j)) q = never_on_text P md.result r _ args (λ n h. let l = few n r t (e.by n h) in omega (arith, l, q))

    module _ (public : md.is_private ≡ false) where
      never_chosen : {P : Known G} (site : ℕ) (v : Carried (A G)) (args : List (Carried (A G))) (Q : Carried (A G) → Known G) → ((n : List (Noted (A G))) → P.holds n → ⊥) → Does G (In i) P (call_chosen w site k v args) Q
      unfolding call_chosen both
      never_chosen site v args Q h = bind G (some_type G M v.value) (λ ty. gives_less G (M.calls (In i) site (dispatch (p G) k (class_of_type ty)) (Some v) args _ (record { by = λ n q. absurd (h n q.0) })) (λ u. record { by = λ n q. absurd (h n q.0.0) }))

      object_chosen : {P : Known G} (site : ℕ) (v : Carried (A G)) (args : List (Carried (A G))) (x : Value) → v.value ≡ x → is_text x ≡ false → is_null x ≡ false → Entails P (of_type G (class_type md.class) v.value) → Entails P (all_are G md.params args) → Does G (In i) P (call_chosen w site k v args) (λ u. of_type G md.result u.value)
      unfolding is is_text is_null
      object_chosen site v args (val.Object o) e t u h a = chosen_gives G M i k md found is_instance public site v args o e h a
      object_chosen site v args (val.Text o) e t u h a = absurd (cc t)
      object_chosen site v args (val.Fixed o) e t u h a = absurd (cc t)
      object_chosen site v args val.Null e t u h a = absurd (cc u)
      object_chosen site v args val.None e t u h a = never_chosen site v args _ (λ n q. let z = subst (λ (x : Value). Is (p G) n (class_type md.class) x) e (h.by n q) in cc z)
      object_chosen site v args (val.Bool x) e t u h a = never_chosen site v args _ (λ n q. let z = subst (λ (x : Value). Is (p G) n (class_type md.class) x) e (h.by n q) in cc z)
      object_chosen site v args (val.Byte x) e t u h a = never_chosen site v args _ (λ n q. let z = subst (λ (x : Value). Is (p G) n (class_type md.class) x) e (h.by n q) in cc z)
      object_chosen site v args (val.Short x) e t u h a = never_chosen site v args _ (λ n q. let z = subst (λ (x : Value). Is (p G) n (class_type md.class) x) e (h.by n q) in cc z)
      object_chosen site v args (val.Char x) e t u h a = never_chosen site v args _ (λ n q. let z = subst (λ (x : Value). Is (p G) n (class_type md.class) x) e (h.by n q) in cc z)
      object_chosen site v args (val.Int x) e t u h a = never_chosen site v args _ (λ n q. let z = subst (λ (x : Value). Is (p G) n (class_type md.class) x) e (h.by n q) in cc z)
      object_chosen site v args (val.Long x) e t u h a = never_chosen site v args _ (λ n q. let z = subst (λ (x : Value). Is (p G) n (class_type md.class) x) e (h.by n q) in cc z)
      object_chosen site v args (val.Arm n) e t u h a = never_chosen site v args _ (λ n q. subst (λ (x : Value). Is (p G) n (class_type md.class) x) e (h.by n q))

      pub chosen_types : (receiver : Run (A G) (Carried (A G))) (args : List (Run (A G) (Carried (A G)))) (site : ℕ) → T G M i receiver (class_type md.class) → AllTypes args md.params → T G M i (call_on w form.Chosen k receiver args site) md.result
      unfolding call_on call_form
      chosen_types receiver args site d da = record {
        by = λ P. bind G (d.by P) (λ r. bind G (gives_all args md.params _ da) (λ vs.
            either G (is_null r.value) (λ e. null_fails G M site r) (λ e.
            either G (is_text r.value) (λ t. on_text md.result r (k == equals) vs (text_operation r.value vs t (before _ _ (newest _ _)) (newest _ _))) (λ t. object_chosen site r vs r.value refl t e (before _ _ (newest _ _)) (newest _ _)))));
      }

  -- ---- calls of the method itself

  pub calls_with : (n : List (Noted (A G))) (k : ℕ) (md : Method) (v : Carried (A G)) (args : List (Carried (A G))) → IsMethod (p G) k md → this_types md.form md.class ≡ class_type md.class ∷ [] → Is (p G) n (class_type md.class) v.value → AllAre G n md.params args → Calls G n k (Some v) args
  unfolding bound
  calls_with n k md v args e t h a = record { method = md; found = e; given = on_receiver G M i n md.form md.class md.params v args t h a }

  pub direct_types : (k : ℕ) (md : Method) (receiver : Run (A G) (Carried (A G))) (args : List (Run (A G) (Carried (A G)))) (site : ℕ) → IsMethod (p G) k md → this_types md.form md.class ≡ class_type md.class ∷ [] → T G M i receiver (class_type md.class) → AllTypes args md.params → T G M i (call_on w form.Direct k receiver args site) md.result
  unfolding call_on call_form called all_are is both
  direct_types k md receiver args site e t d da = record {
    by = λ P. bind G (d.by P) (λ r. bind G (gives_all args md.params _ da) (λ vs.
        either G (is_null r.value) (λ q. null_fails G M site r) (λ q. answered G M i k md e (M.calls (In i) site k (Some r) vs _ (record { by = λ n h. calls_with n k md r vs e t h.0.1 h.1 })))));
  }

  pub static_calls : (n : List (Noted (A G))) (k : ℕ) (md : Method) (args : List (Carried (A G))) → IsMethod (p G) k md → md.form ≡ kinds.Static → AllAre G n md.params args → Calls G n k Absent args
  unfolding bound
  static_calls n k md args e s a = record { method = md; found = e; given = subst (λ f. AllAre G n (this_types f md.class ++ md.params) args) (sym s) a }

  pub static_types : (k : ℕ) (md : Method) (args : List (Run (A G) (Carried (A G)))) (site : ℕ) → IsMethod (p G) k md → md.form ≡ kinds.Static → AllTypes args md.params → T G M i (call_static w k args site) md.result
  unfolding call_static called all_are ◌>>◌
  static_types k md args site e s da = record {
    by = λ P. bind G (gives_all args md.params _ da) (λ vs. next G (may_initialize G M site (method (p G) k).class) (λ u.
        answered G M i k md e (M.calls (In i) site k Absent vs _ (record { by = λ n h. static_calls n k md vs e s ((newest _ _).by n h) }))));
  }

  -- ---- creation

  -- the constructor, where there is one, takes the object
  abbrev pub Constructs : ℕ → Option ℕ → List Ty → Type 0
  Constructs c Absent params = Unit {0}
  Constructs c (Some k) params = (md : Method) × IsMethod (p G) k md × (this_types md.form md.class ≡ class_type c ∷ []) × (md.params ≡ params)

  pub constructor_calls : (n : List (Noted (A G))) (c k : ℕ) (md : Method) (params : List Ty) (v : Carried (A G)) (args : List (Carried (A G))) → IsMethod (p G) k md → this_types md.form md.class ≡ class_type c ∷ [] → md.params ≡ params → Is (p G) n (class_type c) v.value → AllAre G n params args → Calls G n k (Some v) args
  unfolding bound
  constructor_calls n c k md params v args e t q h a = record { method = md; found = e; given = subst (λ (ts : List Ty). AllAre G n (ts ++ md.params) (v ∷ args)) (sym t) (h, subst (λ (ts : List Ty). AllAre G n ts args) (sym q) a) }

  constructs : {P : Known G} (site c : ℕ) (o : Option ℕ) (params : List Ty) (v : Carried (A G)) (args : List (Carried (A G))) → Constructs c o params → Entails P (of_type G (class_type c) v.value) → Entails P (all_are G params args) → Does G (In i) P (construct w site o v args) (λ t. nothing)
  unfolding construct called is all_are
  constructs site c Absent params v args h e a = gives G tt trivially
  constructs site c (Some k) params v args h e a = next G (forgets G (M.calls (In i) site k (Some v) args _ (record { by = λ n q. constructor_calls n c k h.0 params v args h.1 h.2 h.3 (e.by n q) (a.by n q) }))) (λ u. gives G tt trivially)

  pub create_types : (c : ℕ) (o : Option ℕ) (params : List Ty) (args : List (Run (A G) (Carried (A G)))) (site : ℕ) → IsMade (p G) c → Constructs c o params → AllTypes args params → T G M i (create w c o args site) (class_type c)
  unfolding create value_of ◌>>◌
  create_types c o params args site m h da =
      let code = class_code_is (length (p G).classes) c G.library.few (slice_get_within (p G).classes c m.0 m.1) in
      record {
        by = λ P. next G (may_initialize G M site c) (λ t. bind G (notes_object G site (class_code c) (constant val.None)) (λ e.
            bind G (gives_all args params _ da) (λ vs. next G (constructs site c o params (value_of e (val.Object e.number)) vs h
            (before _ _ (new_is G e site (class_code c) val.None (class_type c) (class_type c) (newest _ _) code (record { reference = tt; concrete = m; below = same }))) (newest _ _))
            (λ t. gives G _ (before _ _ (new_is G e site (class_code c) val.None (class_type c) (class_type c) (newest _ _) code (record { reference = tt; concrete = m; below = same })))))));
      }
