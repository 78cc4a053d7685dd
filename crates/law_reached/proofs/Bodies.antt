-- Calls and initializations keep what is reached.
use Rattle.std.proofs.Common.{◌≡◌, ◌<◌, ℕ, suc, Bool, List, [], ◌∷◌, ◌++◌, Option, Some, refl, sym, ap, subst}
use Rattle.std.specs.Prelude.{None as Absent}
use Rattle.std.specs.Prelude.{slice_get}
use Rattle.std.specs.List.{Contains}
use Rattle.std.proofs.lemmas.Option.{slice_get_within}
use Rattle.wy_kernel.specs.Program.{Program, Body, Method, method, class, body, init_body, local_site}
use Rattle.wy_kernel.specs.Statements.{number_of, statements}
use Rattle.wy_value.specs.declared.value.Value.TheVariants as val
use Rattle.wy_event.specs.declared.record.Kind.TheVariants as kind
use Rattle.wy_event.specs.declared.record.Slot.TheVariants as slot
use Rattle.wy_steps.specs.State.{Carried, Around, ◌>>◌}
use Rattle.wy_steps.specs.Steps.{constant}
use Rattle.wy_meaning.specs.World.{World, about, into}
use Rattle.wy_meaning.specs.Call.{bound, bind_all, is_void, run_body, frame_of_call, call_uses, call_method, initialize_above, initialization}
use Rattle.wy_meaning.specs.Statement.{exec}
use Rattle.wy_meaning.specs.Run.{call_body, init_block}
use Rattle.wy_typing.specs.Expressions.{IsMethod}
use Rattle.wy_typing.specs.Programs.{this_types, result_of, IsBody, IsBodyOf}
use Rattle.wy_typing.specs.Statements.{IsTyped}
use Rattle.law_induction.specs.Law.{Entails, OfCall, OfInit, Region, In, Ends}
use Rattle.law_induction.proofs.Rules.{newest, before}
use Rattle.law_typed_states.specs.Typed.{types_of}
use Rattle.law_typed_states.proofs.Subtypes.{part_is}
use Rattle.law_typed_states.proofs.Law.{runs}
use Rattle.law_typed_states.proofs.Rules.{Ground, A, p, Known, notes_call, notes_init}
use Rattle.law_typed_states.proofs.Facts.{all_are, called}
use Rattle.law_typed_states.proofs.Places.{Methods, world_of}
use Rattle.law_typed_states.proofs.Statements.{GivesBack}
use Rattle.law_typed_states.proofs.Bodies as typed_body
use Rattle.law_typed_states.proofs.Bodies.{part_there, body_there}
use Rattle.wy_static.specs.declared.point.Point.{Point}
use Rattle.wy_static.specs.declared.point.Point.TheVariants as point
use Rattle.wy_static.specs.declared.point.LinkKind.TheVariants as link_kind
use Rattle.wy_static.specs.declared.way.Owner.{Owner}
use Rattle.wy_static.specs.Standings.{initializer_number}
use Rattle.wy_static.specs.Ways.{ways_of, way, initializing}
use Rattle.wy_static.specs.Links.{IsLink}
use Rattle.wy_static.specs.LookUps.{method_of}
use Rattle.law_reached.proofs.Seen.{ShownBy}
use Rattle.law_reached.proofs.Ways.{call_link, Among}
use Rattle.law_reached.proofs.Quiet.{IsQuietDraft, Quiet, q_bind, q_return, q_stop, q_write, note_adds, new_adds, activating_adds}
use Rattle.law_reached.proofs.Forms as quietly
use Rattle.law_reached.proofs.Expressions.{Links, initializes}
use Rattle.law_reached.proofs.Statements.{Whole, by_way, keeps_reached}
use Rattle.law_reached.proofs.Rules.{Ours, Edge, bind, after, at_owner, quiet, then_quiet, catches_last, scopes, runs_in, records}

-- a body's statements lead along ways of the program, and a way leads into it
pub record BuiltBody (p : Program) (b : ℕ) (o : Owner) (body : Body) : Type 0 where
  pub whole : Whole p b (statements body.block)
  pub into : Contains (ways_of p) (way link_kind.Into o (point.Statement (number_of body.block)))

abbrev pub entry_owner : Program → ℕ → Owner
entry_owner p m = record { point = point.Entry m; site = (method p m).site }

abbrev pub init_owner : Program → ℕ → Owner
init_owner p c = record { point = point.Init c; site = (class p c).site }

-- so it is of each body, and the superclass of a class may be initialized
pub record Built (p : Program) : Type 0 where
  pub methods : (m : ℕ) (x : Body) → body p m ≡ Some x → BuiltBody p m (entry_owner p m) x
  pub classes : (c : ℕ) (x : Body) → init_body p c ≡ Some x → BuiltBody p (initializer_number c) (init_owner p c) x
  pub above : (c d : ℕ) → (class p c).above ≡ Some d → Among p (initializing (init_owner p c) d (class p c).site)

module _ (G : Ground) (built : Built (p G)) (M : Methods G) (L : Links G M) where
  abbrev w : World (A G)
  w = world_of G M

  abbrev C : Type 0
  C = Carried (A G)

  -- ---- calls

  call_edge : (b : ℕ) (o : Point) (site m : ℕ) → IsLink (p G) (call_link o site (point.Entry m)) → method_of (p G) o ≡ b → Edge G b o (about kind.Call site m val.None) (point.Entry m)
  unfolding about
  call_edge b o site m h s = record { link = call_link o site (point.Entry m); is_link = h; from = refl; to = refl; crossing = (refl, (refl, refl), s); only = only; shown = (refl, refl); calling = λ k. refl; no_new = λ k. cc k }
    where
      some_same : {x y : ℕ} → Some x ≡ Some y → x ≡ y
      some_same e = cc e

      only : (x : Point) → ShownBy x kind.Call site (Some m) val.None → x ≡ point.Entry m
      only (point.Entry n) h = ap point.Entry (some_same (sym h.1))
      only point.Start h = absurd h
      only (point.Statement n) h = absurd h
      only (point.Init n) h = absurd (cc h.0)
      only (point.Arm s n) h = absurd (cc h.0)
      only (point.Catch s) h = absurd (cc h.0)

  q_bind_draft : (site f k : ℕ) (v : C) → IsQuietDraft (into kind.Bind site (slot.Local f k) v.value)
  unfolding into
  q_bind_draft site f k v = record { plain = λ h. h; no_text = λ e. absurd (cc e) }

  q_bind_all : (x : Body) (f k : ℕ) (vs : List C) → Quiet (bind_all x f k vs)
  unfolding bind_all
  q_bind_all x f k [] = q_return tt
  q_bind_all x f k (v ∷ vs) = q_bind (q_write _ v (q_bind_draft (local_site x k) f k v)) (λ e. q_bind_all x f (suc k) vs)

  module _ (m : ℕ) (x : Body) (is_body : body (p G) m ≡ Some x) (md : Method) (found : IsMethod (p G) m md) (fits : IsBodyOf (p G) md x) where
    block_runs : {P : Known G} → Ours G (In (OfCall m)) m (point.Entry m) P (exec w x.block) (λ u. point.Entry m)
    block_runs {P = P} =
        let b = built.methods m x is_body in
        let back : GivesBack G M (OfCall m) (result_of md.form md.result) = typed_body.gives_back G M m x is_body md found fits in
        at_owner G ((keeps_reached G M L (OfCall m) (result_of md.form md.result) back x.block).by (point.Entry m) b.whole (by_way G M L (OfCall m) (result_of md.form md.result) back link_kind.Into (entry_owner (p G) m) (point.Statement (number_of x.block)) tt b.into) (typed_body.block_typed G M m x is_body md found fits) P)

    body_runs : {P : Known G} (c : Bool) (site : ℕ) → Ours G (Ends (OfCall m)) m (point.Entry m) P (run_body (exec w x.block) c site) (λ v. point.Entry m)
    unfolding run_body ◌>>◌
    body_runs c site = catches_last G (then_quiet G block_runs (λ t. quietly.q_end_body G M c site)) (quietly.q_at_return G M)

    all_given : {P : Known G} (r : Option C) (args : List C) → Entails P (called G m r args) → Entails P (all_are G (this_types md.form md.class ++ md.params) (bound r args))
    unfolding called all_are
    all_given r args h = record { by = λ n q. typed_body.given_at G M m x is_body md found fits n r args (h.by n q) }

    frame_runs : {P : Known G} (f : ℕ) (r : Option C) (args : List C) → Entails P (runs (A G) (p G) (OfCall m) f) → Entails P (called G m r args) → Ours G (Ends (OfCall m)) m (point.Entry m) P (frame_of_call x (exec w x.block) (is_void md.result) f (bound r args)) (λ v. point.Entry m)
    unfolding frame_of_call
    frame_runs {P = P} f r args e h = after G
        (typed_body.binds G M m x is_body (this_types md.form md.class ++ md.params) (bound r args) [] fits.begins.0 f 0 P fits.begins.1 refl e (all_given r args h))
        (quiet G (q_bind_all x f 0 (bound r args))) (λ P. body_runs (is_void md.result) x.end)

    method_runs : {d : Region} {b : ℕ} {P : Known G} (o : Point) (site : ℕ) (r : Option C) (args : List C) → Entails P (called G m r args) → IsLink (p G) (call_link o site (point.Entry m)) → method_of (p G) o ≡ b → Ours G d b o P (call_method site m md x (exec w x.block) r args) (λ v. o)
    unfolding call_method
    method_runs {b = b} o site r args h link s = scopes G (at_owner G (bind G (notes_call G Around site m (call_uses md.form r))
        (records G (about kind.Call site m val.None) (call_uses md.form r) (λ s. activating_adds Around _ _ s _ (note_adds _ _ s)) (call_edge b o site m link s))
        (λ e. runs_in G e.number (typed_body.runs_call G M e site m (newest _ _)) (frame_runs e.number r args (typed_body.runs_call G M e site m (newest _ _)) (before _ _ h)))))

  pub call_runs : {d : Region} {b : ℕ} {P : Known G} (o : Point) (site m : ℕ) (x : Option Body) (r : Option C) (args : List C) → body (p G) m ≡ x → Entails P (called G m r args) → IsLink (p G) (call_link o site (point.Entry m)) → method_of (p G) o ≡ b → Ours G d b o P (call_body w site m x r args) (λ v. o)
  unfolding call_body body method
  call_runs o site m Absent r args e h link s = quiet G (q_stop _)
  call_runs {d = d} {b = b} {P = P} o site m (Some x) r args e h link s =
      let there : slice_get (p G).bodies m ≡ Some (Some x) = body_there G M (p G).bodies m x e in
      let y = part_there (p G).methods m (subst (λ k. m < k) G.fits.a_place_a_method (slice_get_within (p G).bodies m (Some x) there)) in
      subst (λ md. Ours G d b o P (call_method site m md x (exec w x.block) r args) (λ v. o)) (sym (part_is (p G).methods m _ y.0 y.1))
      (method_runs m x e y.0 y.1 (G.fits.bodies m y.0 x y.1 there) o site r args h link s)

  -- ---- initializations

  init_edge : (b : ℕ) (o : Point) (site c : ℕ) → IsLink (p G) (call_link o site (point.Init c)) → method_of (p G) o ≡ b → Edge G b o (about kind.Init site c val.None) (point.Init c)
  unfolding about
  init_edge b o site c h s = record { link = call_link o site (point.Init c); is_link = h; from = refl; to = refl; crossing = (refl, (refl, refl), s); only = only; shown = (refl, refl); calling = λ k. refl; no_new = λ k. cc k }
    where
      some_same : {x y : ℕ} → Some x ≡ Some y → x ≡ y
      some_same e = cc e

      only : (x : Point) → ShownBy x kind.Init site (Some c) val.None → x ≡ point.Init c
      only (point.Init n) h = ap point.Init (some_same (sym h.1))
      only point.Start h = absurd h
      only (point.Statement n) h = absurd h
      only (point.Entry n) h = absurd (cc h.0)
      only (point.Arm s n) h = absurd (cc h.0)
      only (point.Catch s) h = absurd (cc h.0)

  init_block_runs : {P : Known G} (c : ℕ) (x : Option Body) → init_body (p G) c ≡ x → Ours G (In (OfInit c)) (initializer_number c) (point.Init c) P (init_block w x) (λ u. point.Init c)
  unfolding init_block init_body
  init_block_runs c Absent e = quiet G (q_return tt)
  init_block_runs {P = P} c (Some x) e =
      let b = built.classes c x e in
      let fits : IsBody (p G) [] Absent x = G.fits.initializers c x (body_there G M (p G).init_bodies c x e) in
      at_owner G ((keeps_reached G M L (OfInit c) Absent (typed_body.no_result G M c) x.block).by (point.Init c) b.whole (by_way G M L (OfInit c) Absent (typed_body.no_result G M c) link_kind.Into (init_owner (p G) c) (point.Statement (number_of x.block)) tt b.into)
      (subst (λ y. IsTyped (record { program = p G; locals = types_of y; result = Absent }) x.block) (sym e) fits.block) P)

  above_runs : {d : Region} {P : Known G} (c : ℕ) (x : Option ℕ) → (class (p G) c).above ≡ x → Ours G d (initializer_number c) (point.Init c) P (initialize_above w (class (p G) c).site x) (λ u. point.Init c)
  unfolding initialize_above
  above_runs c Absent e = quiet G (q_return tt)
  above_runs c (Some k) e = initializes G M L (init_owner (p G) c) (class (p G) c).site k (built.above c k e) refl

  pub init_runs : {d : Region} {b : ℕ} {P : Known G} (o : Point) (site c : ℕ) (x : Option Body) → init_body (p G) c ≡ x → IsLink (p G) (call_link o site (point.Init c)) → method_of (p G) o ≡ b → Ours G d b o P (initialization w site c (init_block w x)) (λ t. o)
  unfolding initialization
  init_runs {b = b} o site c x e link s = scopes G (at_owner G (bind G (notes_init G Around site c)
      (records G (about kind.Init site c val.None) (constant val.None) (λ s. activating_adds Around _ _ s _ (new_adds (p G) _ _ s)) (init_edge b o site c link s))
      (λ y. runs_in G y.number (typed_body.runs_init G M y site c (newest _ _)) (after G (typed_body.above_does G M c (class (p G) c).site (class (p G) c).above) (above_runs c (class (p G) c).above refl) (λ P. catches_last G (init_block_runs c x e) (quietly.q_at_failure G M))))))
