-- Every run keeps what is reached, at each depth of calls.
use Rattle.std.proofs.Common.{◌≡◌, ◌<◌, arith, ℕ, zero, suc, List, [], length, refl, ap, subst}
use Rattle.std.specs.Prelude.{None as Absent}
use Rattle.std.proofs.lemmas.Option.{slice_get_within}
use Rattle.wy_kernel.specs.declared.types.Base.TheVariants.{Class as Named}
use Rattle.wy_kernel.specs.Program.{method, class, body, init_body, string_class}
use Rattle.wy_kernel.specs.View.{NONE}
use Rattle.wy_steps.specs.State.{DepthLimit, stop, ◌>>◌}
use Rattle.wy_kernel.specs.Limits.{depth_limit}
use Rattle.wy_steps.specs.Steps.{value_of, event_in}
use Rattle.wy_meaning.specs.World.{World}
use Rattle.wy_meaning.specs.Call.{initialization}
use Rattle.wy_meaning.specs.Run.{call_body, init_block, world, strings, main_run, start, outcome, end}
use Rattle.law_induction.specs.Law.{nothing, Outside}
use Rattle.law_induction.proofs.Rules.{newest}
use Rattle.law_typed_states.proofs.Library.{text_made}
use Rattle.law_typed_states.proofs.Law.{is}
use Rattle.law_typed_states.proofs.Rules.{Ground, A, p, Known, stops}
use Rattle.law_typed_states.proofs.Facts.{called}
use Rattle.law_typed_states.proofs.Places.{Methods, world_of, may_initialize}
use Rattle.law_typed_states.proofs.Arrays.{makes_array, made_is, array_made}
use Rattle.law_typed_states.proofs.Bodies.{body_called, initialized}
use Rattle.law_typed_states.proofs.Runs.{main_calls, start_typed}
use Rattle.wy_static.specs.declared.point.Point.{Point}
use Rattle.wy_static.specs.declared.point.Point.TheVariants as point
use Rattle.wy_static.specs.declared.point.LinkKind.TheVariants as link_kind
use Rattle.wy_static.specs.declared.way.Owner.{Owner}
use Rattle.wy_static.specs.declared.way.Goal.TheVariants.{Known as KnownGoal}
use Rattle.wy_static.specs.Ways.{call_at, calling, initializing, start_ways}
use Rattle.law_reached.proofs.Contained.{in_left}
use Rattle.law_reached.proofs.Seen.{Executed, Reached, at_start, Inv}
use Rattle.law_reached.proofs.Ways.{Among, among_left, among_right, among_head, way_link}
use Rattle.law_reached.proofs.Quiet.{q_stop}
use Rattle.law_reached.proofs.Forms as quietly
use Rattle.law_reached.proofs.Expressions.{Links, initializes}
use Rattle.law_reached.proofs.Bodies.{Built, call_runs, init_runs}
use Rattle.law_reached.proofs.Rules.{Ours, bind, quiet}

module _ (G : Ground) (built : Built (p G)) where
  -- the calls and initializations of the world at a depth
  pub record Depth (depth : ℕ) : Type 1 where
    pub methods : Methods G
    pub links : Links G methods
    pub is : world_of G methods ≡ world (p G) depth

  at_depth : (depth : ℕ) → Depth depth
  unfolding world
  at_depth zero = record {
    methods = record {
      call = λ site m r args. stop DepthLimit;
      enter = λ site c. stop DepthLimit;
      calls = λ d site m r args P h. stops G DepthLimit tt;
      enters = λ d site c P. stops G DepthLimit tt;
    };
    links = record {
      calls = λ r b o site m receiver args P h l s. quiet G (q_stop DepthLimit);
      enters = λ r b o site c P l s. quiet G (q_stop DepthLimit);
    };
    is = refl;
  }
  at_depth (suc depth) =
      let below = at_depth depth in
      let w = world_of G below.methods in
      record {
        methods = record {
          call = λ site m r args. call_body w site m (body (p G) m) r args;
          enter = λ site c. initialization w site c (init_block w (init_body (p G) c));
          calls = λ d site m r args P h. body_called G below.methods site m (body (p G) m) r args refl h;
          enters = λ d site c P. initialized G below.methods c site (init_body (p G) c) refl;
        };
        links = record {
          calls = λ r b o site m receiver args P h l s. call_runs G built below.methods below.links o site m (body (p G) m) receiver args refl h l s;
          enters = λ r b o site c P l s. init_runs G built below.methods below.links o site c (init_body (p G) c) refl l s;
        };
        is = ap (λ (x : World (A G)). record {
          program = p G;
          call = λ site m r args. call_body x site m (body (p G) m) r args;
          enter = λ site c. initialization x site c (init_block x (init_body (p G) c));
        }) below.is;
      }

  -- ---- whole runs

  module _ (M : Methods G) (L : Links G M) where
    abbrev w : World (A G)
    w = world_of G M

    abbrev first_class : ℕ
    first_class = (method (p G) (p G).main).class

    starting : Among (p G) (start_ways (p G))
    starting = record { by = λ x i. in_left (start_ways (p G)) _ x i }

    runs_main : {P : Known G} → Ours G Outside NONE point.Start P (main_run w) (λ v. point.Start)
    unfolding main_run ◌>>◌ value_of called is
    runs_main =
        let o : Owner = record { point = point.Start; site = (method (p G) (p G).main).site } in
        let text = text_made (p G) G.fits.declarations.library_classes in
        let known : string_class < length (p G).classes = slice_get_within (p G).classes string_class text.0 text.1 in
        let site = (class (p G) first_class).site in
        let callee = call_at o o.site (KnownGoal (point.Entry (p G).main)) in
        bind G (may_initialize G M site first_class) (initializes G M L o site first_class (among_right (p G) (calling o (p G).main o.site) (initializing o first_class site) starting) refl) (λ t.
        bind G (makes_array G M _ strings 0 _) (quiet G (quietly.q_make_array G M _ strings 0 _ (λ e. let q = (array_made G M (Named string_class) 0 0 known).code in cc (q, e)))) (λ args.
        L.calls Outside NONE point.Start o.site (p G).main Absent _ _ (record { by = λ n h. main_calls G M n _ ((made_is G M args _ strings 0 (newest _ _) (λ m q. array_made G M (Named string_class) 0 0 known)).by n h) })
        (way_link (p G) link_kind.Call point.Start (point.Entry (p G).main) o.site (among_head (p G) callee [] (among_left (p G) (calling o (p G).main o.site) (initializing o first_class site) starting))) refl))

  start_inv : (input : List ℕ) (budget : ℕ) → Inv (p G) (start {A = A G} input budget)
  unfolding start event_in
  start_inv input budget = record { reached = λ q i e. by_point q e; sound = λ k e h. absurd (cc h) }
    where
      by_point : (q : Point) → Executed (p G) (start {A = A G} input budget) q → Reached (p G) (start {A = A G} input budget) q
      by_point point.Start e = at_start
      by_point (point.Statement n) e = let l = e.0 in absurd (omega (arith, l))
      by_point (point.Entry m) e = absurd (cc e.there)
      by_point (point.Init c) e = absurd (cc e.there)
      by_point (point.Arm site v) e = absurd (cc e.there)
      by_point (point.Catch site) e = absurd (cc e.there)

  -- in each run the executed points are reached
  pub run_kept : (input : List ℕ) (budget : ℕ) → Inv (p G) (end (outcome {A = A G} (p G) input budget))
  unfolding outcome start
  run_kept input budget =
      let D = at_depth depth_limit in
      subst (λ w. Inv (p G) (end (main_run w (start input budget)))) D.is ((runs_main D.methods D.links {P = nothing}).by (start input budget)
      (record { typed = start_typed G input budget; stands = tt; known = tt; inv = start_inv input budget; was = tt; caller = refl })).inv
