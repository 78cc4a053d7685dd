-- Calls and initializations keep what is in range.
use Rattle.std.proofs.Common.{◌≡◌, ◌<◌, arith, ℕ, suc, Bool, true, List, [], ◌∷◌, ◌++◌, length, Option, Some, refl, sym, ap, ◌∙◌, subst, append_assoc}
use Rattle.std.specs.Prelude.{None as Absent}
use Rattle.std.specs.Prelude.{slice_get}
use Rattle.std.specs.Option.{option_to_list}
use Rattle.std.specs.List.{Contains}
use Rattle.std.proofs.lemmas.List.{length-map}
use Rattle.std.proofs.lemmas.Option.{slice_get_within}
use Rattle.wy_kernel.specs.declared.types.Ty.{Ty}
use Rattle.wy_kernel.specs.declared.types.MethodForm.{MethodForm}
use Rattle.wy_kernel.specs.declared.types.MethodForm.TheVariants as kinds
use Rattle.wy_kernel.specs.Program as part
use Rattle.wy_kernel.specs.Program.{Program, Body, Class, Method, method, class, body, init_body, is_source, local_site}
use Rattle.wy_kernel.specs.Statements.{statements, statements_of_bodies}
use Rattle.wy_kernel.specs.Subtyping.{named_above, direct_supertypes}
use Rattle.wy_value.specs.declared.value.Value.TheVariants as val
use Rattle.wy_event.specs.declared.record.Kind.TheVariants as kind
use Rattle.wy_event.specs.declared.record.Slot.TheVariants as slot
use Rattle.wy_steps.specs.State.{Around, ◌>>◌}
use Rattle.wy_steps.specs.Steps.{constant, note, note_new}
use Rattle.wy_meaning.specs.World.{World, about, into}
use Rattle.wy_meaning.specs.Call.{bound, bind_all, is_void, run_body, frame_of_call, call_uses, call_method, initialize_above, initialization}
use Rattle.wy_meaning.specs.Statement.{exec}
use Rattle.wy_meaning.specs.Run.{call_body, init_block}
use Rattle.wy_typing.specs.Expressions.{IsMethod}
use Rattle.wy_typing.specs.Programs.{types, this_types, result_of, IsBody, IsBodyOf}
use Rattle.wy_typing.specs.Statements.{IsTyped}
use Rattle.law_induction.specs.Law.{nothing, Entails, OfCall, OfInit, Region, In, Ends}
use Rattle.law_induction.proofs.Rules.{newest, before, trivially}
use Rattle.law_typed_states.specs.Typed.{Is, types_of, local_types}
use Rattle.law_typed_states.proofs.Subtypes.{part_is}
use Rattle.law_typed_states.proofs.Law.{runs}
use Rattle.law_typed_states.proofs.Rules.{Ground, A, p, Known, notes_call, notes_init}
use Rattle.law_typed_states.proofs.Facts.{all_are, called}
use Rattle.law_typed_states.proofs.Places.{Methods, world_of}
use Rattle.law_typed_states.proofs.Statements.{GivesBack}
use Rattle.law_typed_states.proofs.Bodies as typed_body
use Rattle.law_typed_states.proofs.Bodies.{part_there, body_there, seam}
use Rattle.wy_typing.specs.Sites.{StatementSited, BodySited}
use Rattle.law_in_range.specs.InRange.{Text, IsSite, StatementLined, Lined, JumpsTo, FitsText}
use Rattle.wy_typing.proofs.Listed.{parted, zipped, in_body}
use Rattle.law_in_range.proofs.Facts.{C, Moment, fine, all_fine, drafted, constant_fine}
use Rattle.law_in_range.proofs.Values.{some_value, locals_known}
use Rattle.law_in_range.proofs.Bare as bare
use Rattle.law_in_range.proofs.Bare.{Bare}
use Rattle.law_in_range.proofs.Texts as plain_text
use Rattle.law_in_range.proofs.Expressions.{Inner, initializes}
use Rattle.law_in_range.proofs.Statements.{keeps_range}
use Rattle.law_in_range.proofs.Rules.{Full, bind, after, plainly, then_bare, catches_last, scopes, runs_in, widens}

length_last : (xs : List Ty) (y : Ty) → length (xs ++ y ∷ []) ≡ suc (length xs)
length_last [] y = refl
length_last (x ∷ xs) y = ap suc (length_last xs y)

module _ (G : Ground) (W : Text) (J : ℕ → Type 0) (text : FitsText W (p G)) (M : Methods G) (L : Inner G W M) where
  abbrev w : World (A G)
  w = world_of G M

  abbrev K : Type 0
  K = C G W

  abbrev Ok : ℕ → Type 0
  Ok site = IsSite W.tokens site

  abbrev F : K → Known G
  F c = fine G W c

  lines : Lined W.ends_line (statements_of_bodies (p G).bodies) × Lined W.ends_line (statements_of_bodies (p G).init_bodies)
  lines = parted (StatementLined W.ends_line) (statements_of_bodies (p G).bodies) (statements_of_bodies (p G).init_bodies) text.lines

  -- ---- calls

  call_draft : {P : Known G} (site m : ℕ) → Ok site → m < length (p G).methods → Entails P (drafted G W (about kind.Call site m val.None))
  unfolding drafted about
  call_draft site m s lt = record { by = λ n q. record { site = s; entity = lt; slot = tt; value = tt; fixed = tt; quiet = tt } }

  init_draft : {P : Known G} (site c : ℕ) → Ok site → c < length (p G).classes → Entails P (drafted G W (about kind.Init site c val.None))
  unfolding drafted about
  init_draft site c s lt = record { by = λ n q. record { site = s; entity = lt; slot = tt; value = tt; fixed = tt; quiet = tt } }

  uses_fine : {P : Known G} (f : MethodForm) (r : Option K) (args : List K) → Entails P (all_fine G W (bound r args)) → Entails P (F (call_uses f r))
  unfolding call_uses bound
  uses_fine kinds.Constructor r args e = constant_fine G W val.None tt
  uses_fine kinds.Static Absent args e = constant_fine G W val.None tt
  uses_fine kinds.Instance Absent args e = constant_fine G W val.None tt
  uses_fine kinds.Fields Absent args e = constant_fine G W val.None tt
  uses_fine kinds.Static (Some v) args e = plain_text.first_fine G W J M v args e
  uses_fine kinds.Instance (Some v) args e = plain_text.first_fine G W J M v args e
  uses_fine kinds.Fields (Some v) args e = plain_text.first_fine G W J M v args e

  module _ (m : ℕ) (x : Body) (is_body : body (p G) m ≡ Some x) (sited : BodySited Ok x) (lined : Lined W.ends_line (statements x.block)) (stays : JumpsTo (λ target. ⊥) x.block) (md : Method) (found : IsMethod (p G) m md) (fits : IsBodyOf (p G) md x) where
    is_local : (pre : List Ty) (t : Ty) (rest : List Ty) → types x ≡ pre ++ t ∷ rest → slice_get (local_types (p G) (OfCall m)) (length pre) ≡ Some t
    is_local pre t rest e = subst (λ o. slice_get (types_of o) (length pre) ≡ Some t) (sym is_body) (subst (λ (ts : List Ty). slice_get ts (length pre) ≡ Some t) (sym e) (seam pre t rest))

    site_of_local : (k : ℕ) → k < length (types x) → Ok (local_site x k)
    unfolding local_site
    site_of_local k lt = sited.locals k _ (subst (λ n. k < n) (length-map x.locals (λ (l : part.Local). l.ty)) lt)

    bind_draft : {P : Known G} (pre : List Ty) (t : Ty) (rest : List Ty) (f k : ℕ) (v : K) → types x ≡ pre ++ t ∷ rest → length pre ≡ k → Entails P (runs (A G) (p G) (OfCall m) f) → ((n : Moment G W) → P.holds n → Is (p G) n t v.value) → Entails P (F v) → Entails P (drafted G W (into kind.Bind (local_site x k) (slot.Local f k) v.value))
    unfolding drafted into runs fine
    bind_draft pre t rest f k v e l r h g =
        let there : slice_get (local_types (p G) (OfCall m)) k ≡ Some t = subst (λ j. slice_get (local_types (p G) (OfCall m)) j ≡ Some t) l (is_local pre t rest e) in
        let lt : k < length (local_types (p G) (OfCall m)) = slice_get_within (local_types (p G) (OfCall m)) k t there in
        record {
          by = λ n q. let y = r.by n q in record {
            site = site_of_local k (subst (λ o. k < length (types_of o)) is_body lt);
            entity = tt;
            slot = record { event = y.event; there = y.there; body = OfCall m; runs = y.runs; within = lt };
            value = some_value G n t v.value (locals_known G (OfCall m) k t there) (h n q);
            fixed = (g.by n q).0;
            quiet = tt;
          };
        }

    binds : (ts : List Ty) (vs : List K) (pre rest : List Ty) (f k : ℕ) (P : Known G) → types x ≡ pre ++ (ts ++ rest) → length pre ≡ k → Entails P (runs (A G) (p G) (OfCall m) f) → Entails P (all_are G ts vs) → Entails P (all_fine G W vs) → Bare G W J (Ends (OfCall m)) P (bind_all x f k vs) (λ t. nothing)
    unfolding bind_all all_are
    binds ts [] pre rest f k P e l r h g = bare.gives G W J tt trivially
    binds [] (v ∷ vs) pre rest f k P e l r h g = bare.where_at G W J (λ s q. absurd (h.by s.noted q))
    binds (t ∷ ts) (v ∷ vs) pre rest f k P e l r h g =
        bare.next G W J (bare.gives_less G W J (bare.writes G W J _ v (bind_draft pre t (ts ++ rest) f k v e l r (λ n q. (h.by n q).0) (plain_text.first_fine G W J M v vs g)) (plain_text.first_fine G W J M v vs g)) (λ y. trivially)) (λ y.
        binds ts vs (pre ++ t ∷ []) rest f (suc k) P (e ∙ sym (append_assoc pre (t ∷ []) (ts ++ rest))) (length_last pre t ∙ ap suc l) r (record { by = λ n q. (h.by n q).1 }) (plain_text.rest_fine G W J M v vs g))

    block_runs : {P : Known G} → Full G W J (In (OfCall m)) P (exec w x.block) (λ u. nothing)
    block_runs {P = P} =
        let back : GivesBack G M (OfCall m) (result_of md.form md.result) = typed_body.gives_back G M m x is_body md found fits in
        widens G W (λ target. ⊥) J (λ t h. absurd h) (((keeps_range G W text.final M L (OfCall m) (result_of md.form md.result) back x.block).by (λ target. ⊥) (zipped (StatementSited Ok) (StatementLined W.ends_line) (statements x.block) sited.block lined) stays (typed_body.block_typed G M m x is_body md found fits)).by P)

    body_runs : {P : Known G} (c : Bool) → Full G W J (Ends (OfCall m)) P (run_body (exec w x.block) c x.end) F
    unfolding run_body ◌>>◌
    body_runs c = catches_last G W J (then_bare G W J block_runs (λ t. plain_text.ends_body G W J M c x.end sited.end)) (λ why. plain_text.at_returns G W J M why (newest _ _))

    all_given : {P : Known G} (r : Option K) (args : List K) → Entails P (called G m r args) → Entails P (all_are G (this_types md.form md.class ++ md.params) (bound r args))
    unfolding called all_are
    all_given r args h = record { by = λ n q. typed_body.given_at G M m x is_body md found fits n r args (h.by n q) }

    frame_runs : {P : Known G} (f : ℕ) (r : Option K) (args : List K) → Entails P (runs (A G) (p G) (OfCall m) f) → Entails P (called G m r args) → Entails P (all_fine G W (bound r args)) → Full G W J (Ends (OfCall m)) P (frame_of_call x (exec w x.block) (is_void md.result) f (bound r args)) F
    unfolding frame_of_call
    frame_runs {P = P} f r args e h g = after G W J
        (typed_body.binds G M m x is_body (this_types md.form md.class ++ md.params) (bound r args) [] fits.begins.0 f 0 P fits.begins.1 refl e (all_given r args h))
        (plainly G W J (binds (this_types md.form md.class ++ md.params) (bound r args) [] fits.begins.0 f 0 P fits.begins.1 refl e (all_given r args h) g)) (λ P. body_runs (is_void md.result))

    method_runs : {d : Region} {P : Known G} (site : ℕ) (r : Option K) (args : List K) → Ok site → m < length (p G).methods → Entails P (called G m r args) → Entails P (all_fine G W (bound r args)) → Full G W J d P (call_method site m md x (exec w x.block) r args) F
    unfolding call_method
    method_runs site r args s lt h g = scopes G W J (bind G W J (notes_call G Around site m (call_uses md.form r))
        (plainly G W J (bare.enters G W J (note (about kind.Call site m val.None) (call_uses md.form r)) Around (about kind.Call site m val.None) (call_uses md.form r) (bare.note_adds G W J (about kind.Call site m val.None) (call_uses md.form r)) (call_draft site m s lt) (uses_fine md.form r args g)))
        (λ e. runs_in G W J e.number (typed_body.runs_call G M e site m (newest _ _)) (frame_runs e.number r args (typed_body.runs_call G M e site m (newest _ _)) (before _ _ (before _ _ h)) (before _ _ (before _ _ g)))))

  pub call_runs : {d : Region} {P : Known G} (site m : ℕ) (x : Option Body) (r : Option K) (args : List K) → body (p G) m ≡ x → Entails P (called G m r args) → Ok site → Entails P (all_fine G W (bound r args)) → Full G W J d P (call_body w site m x r args) F
  unfolding call_body body method
  call_runs site m Absent r args e h s g = plainly G W J (bare.stops G W J _)
  call_runs {d = d} {P = P} site m (Some x) r args e h s g =
      let there : slice_get (p G).bodies m ≡ Some (Some x) = body_there G M (p G).bodies m x e in
      let lt : m < length (p G).methods = subst (λ k. m < k) G.fits.a_place_a_method (slice_get_within (p G).bodies m (Some x) there) in
      let y = part_there (p G).methods m lt in
      subst (λ md. Full G W J d P (call_method site m md x (exec w x.block) r args) F) (sym (part_is (p G).methods m _ y.0 y.1))
      (method_runs m x e (text.sites.methods m x there) (in_body (StatementLined W.ends_line) (p G).bodies m x there lines.0) (text.jumps.0 m x there) y.0 y.1 (G.fits.bodies m y.0 x y.1 there) site r args s lt h g)

  -- ---- initializations

  init_block_runs : {P : Known G} (c : ℕ) (x : Option Body) → init_body (p G) c ≡ x → Full G W J (In (OfInit c)) P (init_block w x) (λ u. nothing)
  unfolding init_block init_body
  init_block_runs c Absent e = plainly G W J (bare.gives G W J tt trivially)
  init_block_runs {P = P} c (Some x) e =
      let there = body_there G M (p G).init_bodies c x e in
      let fits : IsBody (p G) [] Absent x = G.fits.initializers c x there in
      widens G W (λ target. ⊥) J (λ t h. absurd h) (((keeps_range G W text.final M L (OfInit c) Absent (typed_body.no_result G M c) x.block).by (λ target. ⊥) (zipped (StatementSited Ok) (StatementLined W.ends_line) (statements x.block) (text.sites.initializers c x there).block (in_body (StatementLined W.ends_line) (p G).init_bodies c x there lines.1)) (text.jumps.1 c x there) (subst (λ y. IsTyped (record { program = p G; locals = types_of y; result = Absent }) x.block) (sym e) fits.block)).by P)

  above_below : (c d : ℕ) → c < length (p G).classes → (class (p G) c).above ≡ Some d → d < length (p G).classes
  unfolding class direct_supertypes
  above_below c d lt e =
      let k = part_there (p G).classes c lt in
      let up : k.0.above ≡ Some d = sym (ap (λ (z : Class). z.above) (part_is (p G).classes c _ k.0 k.1)) ∙ e in
      G.fits.declarations.supertypes c d (subst (λ o. Contains (named_above o) d) (sym k.1) (subst (λ o. Contains (option_to_list o ++ k.0.interfaces) d) (sym up) (0, omega arith, refl)))

  class_site : (c : ℕ) → c < length (p G).classes → is_source c ≡ true → Ok (class (p G) c).site
  unfolding class
  class_site c lt e = let k = part_there (p G).classes c lt in subst (λ (z : Class). Ok z.site) (sym (part_is (p G).classes c _ k.0 k.1)) (text.sites.classes c k.0 e k.1)

  above_runs : {d : Region} {P : Known G} (c site : ℕ) (x : Option ℕ) → c < length (p G).classes → Ok site → (class (p G) c).above ≡ x → Full G W J d P (initialize_above w site x) (λ u. nothing)
  unfolding initialize_above
  above_runs c site Absent lt s e = plainly G W J (bare.gives G W J tt trivially)
  above_runs c site (Some k) lt s e = initializes G W J M L site k (λ q. s) (above_below c k lt e)

  pub init_runs : {d : Region} {P : Known G} (site c : ℕ) (x : Option Body) → init_body (p G) c ≡ x → is_source c ≡ true → Ok site → c < length (p G).classes → Full G W J d P (initialization w site c (init_block w x)) (λ t. nothing)
  unfolding initialization
  init_runs site c x e source s lt = scopes G W J (bind G W J (notes_init G Around site c)
      (plainly G W J (bare.enters G W J (note_new (p G) (about kind.Init site c val.None) (constant val.None)) Around (about kind.Init site c val.None) (constant val.None) (bare.new_adds G W J (about kind.Init site c val.None) (constant val.None)) (init_draft site c s lt) (constant_fine G W val.None tt)))
      (λ y. runs_in G W J y.number (typed_body.runs_init G M y site c (newest _ _)) (after G W J (typed_body.above_does G M c (class (p G) c).site (class (p G) c).above) (above_runs c (class (p G) c).site (class (p G) c).above lt (class_site c lt source) refl)
      (λ P. catches_last G W J (init_block_runs c x e) (λ why. plain_text.at_failures G W J M why (newest _ _))))))
