-- Every run keeps what is in range, at each depth of calls.
use Rattle.std.proofs.Common.{◌≡◌, ◌<◌, ◌+◌, ◌++◌, ◌⊎◌, inl, inr, ⊎_elim, arith, ◌≤◌, ℕ, zero, suc, Bool, true, false, List, [], ◌∷◌, length, Some, refl, sym, ap, ◌∙◌, subst, append-nil, append_assoc}
use Rattle.std.specs.Prelude.{None as Absent}
use Rattle.std.specs.Prelude.{pos, nat_eq, if◌then◌else◌, slice_get, take}
use Rattle.std.proofs.lemmas.Bool.{eqb-true, eq-eqb}
use Rattle.std.specs.List.{AllByRecursion}
use Rattle.std.proofs.lemmas.Option.{slice_get_within}
use Rattle.std.proofs.lemmas.List.{map-append, length-map, length-reverse, take-append-le}
use Rattle.std.proofs.Math.Seq.{take-append_seam}
use mathlib.Core.List.{map, reverse, reverse-cons}
use Rattle.wy_kernel.specs.declared.types.Base.TheVariants.{Class as Named}
use Rattle.wy_kernel.specs.Program.{Program, Class, Method, method, class, body, init_body, is_source, string_class, type_code, base_code}
use Rattle.wy_value.specs.declared.value.Value.{Value}
use Rattle.wy_value.specs.declared.value.Value.TheVariants as val
use Rattle.wy_value.specs.Encoding.{utf8_of}
use Rattle.wy_event.specs.declared.record.Kind.{Kind}
use Rattle.wy_event.specs.declared.record.Kind.TheVariants as kind
use Rattle.wy_event.specs.Record.{Recorded}
use Rattle.wy_steps.specs.Sets.{Sets}
use Rattle.wy_steps.specs.State.{Carried, Covered, Noted, Stop, StepLimit, EventLimit, UseLimit, ElementLimit, UnitLimit, OutputLimit, DepthLimit, Unassigned, FellOff, InitFailed, Reason, Jumped, Returned, Threw, Outcome, Done, Left, Stopped, stop, ◌>>◌}
use Rattle.wy_kernel.specs.Limits.{depth_limit}
use Rattle.wy_steps.specs.Steps.{Made, value_of, event_in}
use Rattle.wy_meaning.specs.World.{World, units_in}
use Rattle.wy_meaning.specs.Text.{line_end}
use Rattle.wy_meaning.specs.Call.{bound, initialization}
use Rattle.wy_meaning.specs.Run.{call_body, init_block, world, strings, main_run, start, outcome, end, stop_number, stop_of, last_of_stop, last_of_reason, last_of, covers, tail_of, history, events, output, tail}
use Rattle.wy_typing.specs.Programs.{IsProgram}
use Rattle.law_induction.specs.Law.{nothing, Entails, Outside}
use Rattle.law_induction.proofs.Rules.{newest, before}
use Rattle.law_typed_states.specs.Typed.{KeepsLibrary}
use Rattle.law_typed_states.proofs.Moments.{one_of_longer}
use Rattle.law_typed_states.proofs.Subtypes.{part_is}
use Rattle.law_typed_states.proofs.Library.{text_made}
use Rattle.law_typed_states.proofs.Law.{is, never, reason}
use Rattle.law_typed_states.proofs.Rules.{Ground, A, p, Known, Does, next, stops}
use Rattle.law_typed_states.proofs.Rules as typed_rule
use Rattle.law_typed_states.proofs.Facts.{called}
use Rattle.law_typed_states.proofs.Places.{Methods, of_type, world_of, may_initialize}
use Rattle.law_typed_states.proofs.Arrays.{makes_array, made_is, array_made}
use Rattle.law_typed_states.proofs.Bodies.{body_called, initialized, part_there, seam as slice_get_seam}
use Rattle.law_typed_states.proofs.Runs.{main_calls, start_typed}
use Rattle.law_in_range.specs.InRange.{Text, Events, IsSite, FitsText, InRange, IsByteOf, units_seen, written_as, written_by, written, made_by, made_in, LastFits, RecordsAreInRange, OutputIsWritten, TextsAreShort, EndIsInRange, RunsAreInRange}
use Rattle.law_in_range.proofs.Facts.{Moment, AllInRange, Inv, fine, fair, constant_fine, value_of_fine, in_range_up, written_before, written_one, nothing_before_is, made_before}
use Rattle.law_in_range.proofs.Values.{method_class}
use Rattle.law_in_range.proofs.Bare as bare
use Rattle.law_in_range.proofs.Bare.{Given}
use Rattle.law_in_range.proofs.Texts as plain_text
use Rattle.law_in_range.proofs.Texts.{MakesArrays}
use Rattle.law_in_range.proofs.Expressions.{Inner, initializes}
use Rattle.law_in_range.proofs.Bodies.{call_runs, init_runs}
use Rattle.law_in_range.proofs.Rules.{Full, TypedGiven, ends, bind, plainly}

module _ (G : Ground) (W : Text) (text : FitsText W (p G)) where
  -- the calls and initializations of the world at a depth
  pub record Depth (depth : ℕ) : Type 1 where
    pub methods : Methods G
    pub inner : Inner G W methods
    pub is : world_of G methods ≡ world (p G) depth

  at_depth : (depth : ℕ) → Depth depth
  unfolding world
  at_depth zero = record {
    methods = record {
      call = λ site m r args. stop DepthLimit;
      enter = λ site c. stop DepthLimit;
      calls = λ d site m r args P h. stops G DepthLimit tt;
      enters = λ d site c P. stops G DepthLimit tt;
    };
    inner = record {
      calls = λ J r site m receiver args P h s g. plainly G W J (bare.stops G W J DepthLimit);
      enters = λ J r site c P e s lt. plainly G W J (bare.stops G W J DepthLimit);
    };
    is = refl;
  }
  at_depth (suc depth) =
      let below = at_depth depth in
      let w = world_of G below.methods in
      record {
        methods = record {
          call = λ site m r args. call_body w site m (body (p G) m) r args;
          enter = λ site c. initialization w site c (init_block w (init_body (p G) c));
          calls = λ d site m r args P h. body_called G below.methods site m (body (p G) m) r args refl h;
          enters = λ d site c P. initialized G below.methods c site (init_body (p G) c) refl;
        };
        inner = record {
          calls = λ J r site m receiver args P h s g. call_runs G W J text below.methods below.inner site m (body (p G) m) receiver args refl h s g;
          enters = λ J r site c P e s lt. init_runs G W J text below.methods below.inner site c (init_body (p G) c) refl e s lt;
        };
        is = ap (λ (x : World (A G)). record {
          program = p G;
          call = λ site m r args. call_body x site m (body (p G) m) r args;
          enter = λ site c. initialization x site c (init_block x (init_body (p G) c));
        }) below.is;
      }

  -- ---- whole runs

  module _ (M : Methods G) (L : Inner G W M) where
    abbrev w : World (A G)
    w = world_of G M

    abbrev J : ℕ → Type 0
    J target = ⊥

    main_site : IsSite W.tokens (method (p G) (p G).main).site
    unfolding method
    main_site = let m = G.fits.main in subst (λ (z : Method). IsSite W.tokens z.site) (sym (part_is (p G).methods (p G).main _ m.method m.found)) (text.sites.main m.method m.found)

    abbrev first_class : ℕ
    first_class = (method (p G) (p G).main).class

    first_below : first_class < length (p G).classes
    first_below = let m = G.fits.main in method_class G (p G).main m.method m.found

    first_site : is_source first_class ≡ true → IsSite W.tokens (class (p G) first_class).site
    unfolding class
    first_site e = let k = part_there (p G).classes first_class first_below in subst (λ (z : Class). IsSite W.tokens z.site) (sym (part_is (p G).classes first_class _ k.0 k.1)) (text.sites.classes first_class k.0 e k.1)

    strings_made : string_class < length (p G).classes → MakesArrays G W J M strings
    unfolding type_code base_code
    strings_made known = record { objects = known; array = omega arith }

    main_called : {P : Known G} (args : Made (A G)) → Entails P (of_type G strings (val.Object args.number)) → Entails P (called G (p G).main Absent (value_of args (val.Object args.number) ∷ []))
    unfolding called is value_of
    main_called args h = record { by = λ n q. main_calls G M n _ (h.by n q) }

    runs_main : {P : Known G} → Full G W J Outside P (main_run w) (fine G W)
    unfolding main_run ◌>>◌ bound
    runs_main =
        let text = text_made (p G) G.fits.declarations.library_classes in
        let known : string_class < length (p G).classes = slice_get_within (p G).classes string_class text.0 text.1 in
        bind G W J (may_initialize G M (class (p G) first_class).site first_class) (initializes G W J M L (class (p G) first_class).site first_class first_site first_below) (λ t.
        bind G W J (makes_array G M _ strings 0 _) (plainly G W J (plain_text.makes_array G W J M _ strings 0 _ main_site (strings_made known) (constant_fine G W (val.Int (pos 0)) tt))) (λ args.
        L.calls J Outside (method (p G) (p G).main).site (p G).main Absent _ _ (main_called args (before _ _ (made_is G M args _ strings 0 (newest _ _) (λ m q. array_made G M (Named string_class) 0 0 known)))) main_site
        (plain_text.more_fine G W J M _ [] (value_of_fine G W args _ tt) (plain_text.none_fine G W J M))))

    main_does : {P : Known G} → Does G Outside P (main_run w) (λ v. nothing)
    unfolding main_run ◌>>◌
    main_does =
        let text = text_made (p G) G.fits.declarations.library_classes in
        let known : string_class < length (p G).classes = slice_get_within (p G).classes string_class text.0 text.1 in
        next G (may_initialize G M _ _) (λ t. typed_rule.bind G (makes_array G M _ strings 0 _) (λ args.
        typed_rule.forgets G (M.calls Outside _ (p G).main Absent _ _ (main_called args (made_is G M args _ strings 0 (newest _ _) (λ m q. array_made G M (Named string_class) 0 0 known))))))

  start_inv : (input : List ℕ) (budget : ℕ) → AllByRecursion IsByteOf input → Inv G W (start {A = A G} input budget)
  unfolding start
  start_inv input budget bytes = record { noted = tt; store = λ x h e. absurd (cc e); input = bytes; output = sym (nothing_before_is G W); texts = record { made = omega arith; few = omega arith } }

  abbrev pub Nowhere : ℕ → Type 0
  Nowhere target = ⊥

  -- what is known of a whole run
  pub record Kept (o : Outcome (A G) (Carried (A G))) : Type 0 where
    pub inv : Inv G W (end o)
    pub given : Given G W Nowhere (fine G W) o
    pub typed : TypedGiven G W Nowhere Outside (λ v. nothing) o

  -- in each run all is in range
  pub run_kept : (input : List ℕ) (budget : ℕ) → AllByRecursion IsByteOf input → Kept (outcome {A = A G} (p G) input budget)
  unfolding outcome start
  run_kept input budget bytes =
      let D = at_depth depth_limit in
      let c = (runs_main D.methods D.inner {P = nothing}).by (start input budget) (record { typed = start_typed G input budget; stands = tt; known = tt; inv = start_inv input budget bytes }) in
      subst (λ w. Kept (main_run w (start input budget))) D.is (record {
        inv = c.inv;
        given = c.given;
        typed = (ends G W Nowhere (main_does D.methods D.inner {P = nothing}) (start input budget) (start_typed G input budget) tt tt).1;
      })

  -- ---- the end

  thrown_last : (why : Reason (A G)) (m : Moment G W) → (fair G W Nowhere why).holds m → (reason (A G) (p G) Outside why).holds m → (e : ℕ) × (last_of_reason why ≡ Some e)
  unfolding fair reason never last_of_reason
  thrown_last (Jumped target e) m h q = absurd h
  thrown_last (Returned e v) m h q = absurd q
  thrown_last (Threw e v) m h q = (e, refl)

  stopped_last : (why : Stop) → LastFits (stop_number why) (last_of_stop why)
  unfolding stop_number last_of_stop
  stopped_last (InitFailed last) = inl (inr refl, (last, refl))
  stopped_last StepLimit = inr (λ h. ⊎_elim (λ e. cc e) (λ e. cc e) h, refl)
  stopped_last EventLimit = inr (λ h. ⊎_elim (λ e. cc e) (λ e. cc e) h, refl)
  stopped_last UseLimit = inr (λ h. ⊎_elim (λ e. cc e) (λ e. cc e) h, refl)
  stopped_last ElementLimit = inr (λ h. ⊎_elim (λ e. cc e) (λ e. cc e) h, refl)
  stopped_last UnitLimit = inr (λ h. ⊎_elim (λ e. cc e) (λ e. cc e) h, refl)
  stopped_last OutputLimit = inr (λ h. ⊎_elim (λ e. cc e) (λ e. cc e) h, refl)
  stopped_last DepthLimit = inr (λ h. ⊎_elim (λ e. cc e) (λ e. cc e) h, refl)
  stopped_last Unassigned = inr (λ h. ⊎_elim (λ e. cc e) (λ e. cc e) h, refl)
  stopped_last FellOff = inr (λ h. ⊎_elim (λ e. cc e) (λ e. cc e) h, refl)

  last_fits : (o : Outcome (A G) (Carried (A G))) → Kept o → LastFits (stop_of o) (last_of o)
  unfolding stop_of last_of
  last_fits (Done x t) k = inr (λ h. ⊎_elim (λ e. cc e) (λ e. cc e) h, refl)
  last_fits (Left why t) k = inl (inl refl, thrown_last why t.noted k.given k.typed)
  last_fits (Stopped why t) k = stopped_last why

  stop_small : (why : Stop) → stop_number why ≤ 11
  unfolding stop_number
  stop_small (InitFailed last) = omega arith
  stop_small StepLimit = omega arith
  stop_small EventLimit = omega arith
  stop_small UseLimit = omega arith
  stop_small ElementLimit = omega arith
  stop_small UnitLimit = omega arith
  stop_small OutputLimit = omega arith
  stop_small DepthLimit = omega arith
  stop_small Unassigned = omega arith
  stop_small FellOff = omega arith

  small_stop : (o : Outcome (A G) (Carried (A G))) → stop_of o ≤ 11
  unfolding stop_of
  small_stop (Done x t) = omega arith
  small_stop (Left why t) = omega arith
  small_stop (Stopped why t) = stop_small why

  so_many : (f : ℕ → Covered) (i n : ℕ) → length (covers f i n) ≡ n
  unfolding covers
  so_many f i zero = refl
  so_many f i (suc n) = ap suc (so_many f (suc i) n)

  pub end_in_range : (input : List ℕ) (budget : ℕ) → AllByRecursion IsByteOf input → EndIsInRange (A G) (p G) input budget
  unfolding tail tail_of
  end_in_range input budget bytes =
      let o = outcome {A = A G} (p G) input budget in
      record {
        stop = small_stop o;
        last = last_fits o (run_kept input budget bytes);
        steps = omega arith;
        covers = so_many (end o).coverage 0 (p G).statements;
      }

-- ---- records in the order of time

slice_get_snoc : {X : Type 0} (xs : List X) (y : X) (n : ℕ) (z : X) → slice_get (xs ++ y ∷ []) n ≡ Some z → (slice_get xs n ≡ Some z) ⊎ ((n ≡ length xs) × (y ≡ z))
slice_get_snoc [] y zero z e = inr (refl, cc)
slice_get_snoc [] y (suc n) z e = absurd (cc)
slice_get_snoc (x ∷ xs) y zero z e = inl e
slice_get_snoc (x ∷ xs) y (suc n) z e = ⊎_elim (λ h. inl h) (λ h. inr (ap suc h.0, h.1)) (slice_get_snoc xs y n z e)

slice_get_before : {X : Type 0} (xs ys : List X) (n : ℕ) (z : X) → slice_get xs n ≡ Some z → slice_get (xs ++ ys) n ≡ Some z
slice_get_before [] ys n z e = absurd (cc e)
slice_get_before (x ∷ xs) ys zero z e = e
slice_get_before (x ∷ xs) ys (suc n) z e = slice_get_before xs ys n z e

none_written : (p : Program) (ends_line : ℕ → Bool) → written p ends_line [] [] ≡ []
unfolding written
none_written p ends_line = refl

module _ (A : Sets) where
  in_order : List (Noted A) → List Recorded
  in_order noted = map (λ e. e.event) (reverse noted)

  in_order-cons : (e : Noted A) (rest : List (Noted A)) → in_order (e ∷ rest) ≡ in_order rest ++ e.event ∷ []
  unfolding in_order
  in_order-cons e rest = ap (map (λ (x : Noted A). x.event)) (reverse-cons e rest) ∙ map-append (λ (x : Noted A). x.event) (reverse rest) (e ∷ [])

  length-in_order : (noted : List (Noted A)) → length (in_order noted) ≡ length noted
  unfolding in_order
  length-in_order noted = length-map (reverse noted) (λ e. e.event) ∙ length-reverse noted

  there_in_order : (noted : List (Noted A)) (k : ℕ) (e : Recorded) → event_in noted k ≡ Some e → slice_get (in_order noted) k ≡ Some e
  unfolding event_in
  there_in_order [] k e h = absurd (cc h)
  there_in_order (x ∷ rest) k e h = ⊎_elim
      (λ q. let same : length (in_order rest) ≡ k = length-in_order rest ∙ sym q.0 in
      subst (λ (l : List Recorded). slice_get l k ≡ Some e) (sym (in_order-cons x rest)) (subst (λ j. slice_get (in_order rest ++ x.event ∷ []) j ≡ Some e) same (slice_get_seam (in_order rest) x.event [] ∙ ap Some q.1)))
      (λ q. subst (λ (l : List Recorded). slice_get l k ≡ Some e) (sym (in_order-cons x rest)) (slice_get_before (in_order rest) (x.event ∷ []) k e (there_in_order rest k e q)))
      (one_of_longer x rest k e h)

module _ (G : Ground) (W : Text) where
  abbrev Before : List Recorded → ℕ → Recorded → Type 0
  Before rs n e = InRange W.tokens (p G) (slice_get (take n rs)) e

  each_in_range : (noted : Moment G W) → AllInRange G W noted → (n : ℕ) (e : Recorded) → slice_get (in_order (A G) noted) n ≡ Some e → Before (in_order (A G) noted) n e
  unfolding in_order
  each_in_range [] h n e there = absurd (cc there)
  each_in_range (x ∷ rest) h n e there = subst (λ (l : List Recorded). Before l n e) (sym (in_order-cons (A G) x rest)) (⊎_elim
      (λ found. subst (λ (l : List Recorded). InRange W.tokens (p G) (slice_get l) e) (sym (take-append-le n (in_order (A G) rest) (x.event ∷ []) (let lt = slice_get_within (in_order (A G) rest) n e found in omega (arith, lt)))) (each_in_range rest h.1 n e found))
      (λ last. subst (λ k. Before (in_order (A G) rest ++ x.event ∷ []) k e) (sym last.0) (subst (λ (l : List Recorded). InRange W.tokens (p G) (slice_get l) e) (sym (take-append_seam (in_order (A G) rest) (x.event ∷ [])))
      (subst (λ r. InRange W.tokens (p G) (slice_get (in_order (A G) rest)) r) last.1 (in_range_up (p G) (event_in rest) (slice_get (in_order (A G) rest)) (there_in_order (A G) rest) W.tokens x.event h.0))))
      (slice_get_snoc (in_order (A G) rest) x.event n e (subst (λ (l : List Recorded). slice_get l n ≡ Some e) (in_order-cons (A G) x rest) there)))

-- ---- what is written, in the order of time

snoc_other : {X : Type 0} (xs : List X) (y : X) (k : ℕ) → (k ≡ length xs → ⊥) → slice_get (xs ++ y ∷ []) k ≡ slice_get xs k
snoc_other [] y zero n = absurd (n refl)
snoc_other [] y (suc k) n = refl
snoc_other (x ∷ xs) y zero n = refl
snoc_other (x ∷ xs) y (suc k) n = snoc_other xs y k (λ e. n (ap suc e))

written_snoc : (p : Program) (ends_line : ℕ → Bool) (front xs : List Recorded) (y : Recorded) → written p ends_line front (xs ++ y ∷ []) ≡ written p ends_line front xs ++ written_by p ends_line (slice_get (front ++ xs)) y
unfolding written
written_snoc p ends_line front [] y = append-nil (written_by p ends_line (slice_get front) y) ∙ ap (λ (l : List Recorded). written_by p ends_line (slice_get l) y) (sym (append-nil front))
written_snoc p ends_line front (x ∷ xs) y =
    let first = written_by p ends_line (slice_get front) x in
    ap (λ (l : List ℕ). first ++ l) (written_snoc p ends_line (front ++ x ∷ []) xs y ∙ ap (λ (l : List Recorded). written p ends_line (front ++ x ∷ []) xs ++ written_by p ends_line (slice_get l) y) (append_assoc front (x ∷ []) xs))
    ∙ sym (append_assoc first (written p ends_line (front ++ x ∷ []) xs) (written_by p ends_line (slice_get (front ++ x ∷ xs)) y))

module _ (G : Ground) (W : Text) where
  order_is : (noted : Moment G W) (k : ℕ) → slice_get (in_order (A G) noted) k ≡ event_in noted k
  unfolding event_in in_order
  order_is [] k = refl
  order_is (x ∷ rest) k = ap (λ (l : List Recorded). slice_get l k) (in_order-cons (A G) x rest) ∙ go (nat_eq k (length rest)) refl (order_is rest k)
    where
      go : (b : Bool) → nat_eq k (length rest) ≡ b → slice_get (in_order (A G) rest) k ≡ event_in rest k → slice_get (in_order (A G) rest ++ x.event ∷ []) k ≡ (if b then Some x.event else event_in rest k)
      go true q h = subst (λ j. slice_get (in_order (A G) rest ++ x.event ∷ []) j ≡ Some x.event) (length-in_order (A G) rest ∙ sym (eqb-true k (length rest) q)) (slice_get_seam (in_order (A G) rest) x.event [])
      go false q h = snoc_other (in_order (A G) rest) x.event k (λ e. absurd (cc (sym (eq-eqb k (length rest) (e ∙ length-in_order (A G) rest)) ∙ q))) ∙ h

  seen_same : (at bt : Events) → ((k : ℕ) → at k ≡ bt k) → (v : Value) → units_seen (p G) at v ≡ units_seen (p G) bt v
  seen_same at bt h (val.Text n) = ap units_in (h n)
  seen_same at bt h (val.Fixed n) = refl
  seen_same at bt h val.None = refl
  seen_same at bt h (val.Bool x) = refl
  seen_same at bt h (val.Byte x) = refl
  seen_same at bt h (val.Short x) = refl
  seen_same at bt h (val.Char x) = refl
  seen_same at bt h (val.Int x) = refl
  seen_same at bt h (val.Long x) = refl
  seen_same at bt h val.Null = refl
  seen_same at bt h (val.Object x) = refl
  seen_same at bt h (val.Arm n) = refl

  as_same : (at bt : Events) → ((k : ℕ) → at k ≡ bt k) → (k : Kind) (site : ℕ) (v : Value) → written_as (p G) W.ends_line at k site v ≡ written_as (p G) W.ends_line bt k site v
  as_same at bt h kind.Print site v = ap (λ (l : List ℕ). utf8_of l ++ line_end (W.ends_line site)) (seen_same at bt h v)
  as_same at bt h _ site v = refl

  written_in_order : (noted : Moment G W) → written_before G W noted ≡ written (p G) W.ends_line [] (in_order (A G) noted)
  unfolding in_order
  written_in_order [] = nothing_before_is G W ∙ sym (none_written (p G) W.ends_line)
  written_in_order (x ∷ rest) =
      written_one G W x rest ∙ ap (λ (l : List ℕ). l ++ written_by (p G) W.ends_line (event_in rest) x.event) (written_in_order rest)
      ∙ ap (λ (l : List ℕ). written (p G) W.ends_line [] (in_order (A G) rest) ++ l) (sym (as_same (slice_get (in_order (A G) rest)) (event_in rest) (order_is rest) x.event.kind x.event.site x.event.value))
      ∙ sym (ap (λ (l : List Recorded). written (p G) W.ends_line [] l) (in_order-cons (A G) x rest) ∙ written_snoc (p G) W.ends_line [] (in_order (A G) rest) x.event)

  made_snoc : (es : List Recorded) (e : Recorded) → made_in (es ++ e ∷ []) ≡ made_by e + made_in es
  made_snoc [] e = refl
  made_snoc (x ∷ es) e = let h = made_snoc es e in omega (arith, h)

  made_in_order : (noted : Moment G W) → made_in (in_order (A G) noted) ≡ made_before G W noted
  unfolding in_order
  made_in_order [] = refl
  made_in_order (x ∷ rest) = ap made_in (in_order-cons (A G) x rest) ∙ made_snoc (in_order (A G) rest) x.event ∙ ap (λ n. made_by x.event + n) (made_in_order rest)

  pub output_written : (text : FitsText W (p G)) (input : List ℕ) (budget : ℕ) → AllByRecursion IsByteOf input → OutputIsWritten (A G) W.ends_line (p G) input budget
  unfolding output events history in_order
  output_written text input budget bytes = (run_kept G W text input budget bytes).inv.output ∙ written_in_order _

  pub texts_short : (text : FitsText W (p G)) (input : List ℕ) (budget : ℕ) → AllByRecursion IsByteOf input → TextsAreShort (A G) (p G) input budget
  unfolding events history in_order
  texts_short text input budget bytes =
      let noted = (end (outcome {A = A G} (p G) input budget)).noted in
      let made = made_in_order noted in
      let taken = (run_kept G W text input budget bytes).inv.texts in
      let few = taken.made in
      let limit = taken.few in
      omega (arith, made, few, limit)

  pub records_in_range : (text : FitsText W (p G)) (input : List ℕ) (budget : ℕ) → AllByRecursion IsByteOf input → RecordsAreInRange (A G) W.tokens (p G) input budget
  unfolding events history in_order
  records_in_range text input budget bytes n e there = each_in_range G W _ (run_kept G W text input budget bytes).inv.noted n e there

pub runs_in_range : (A : Sets) (text : Text) (p : Program) → IsProgram p → KeepsLibrary p → FitsText text p → RunsAreInRange A text p
runs_in_range A text p fits library h =
    let G : Ground = record { sets = A; program = p; fits = fits; library = library } in
    record { records = records_in_range G text h; output = output_written G text h; texts = texts_short G text h; end = end_in_range G text h }
