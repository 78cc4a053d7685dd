-- Texts, operations of the library, arrays and the ends of bodies keep what is in range.
use Rattle.std.proofs.Common.{◌≡◌, ◌<◌, ◌≤◌, ◌+◌, inr, arith, ℕ, zero, suc, Bool, true, false, List, [], ◌∷◌, ◌++◌, length, Option, Some, refl, sym, ap, ◌∙◌, subst}
use Rattle.std.specs.Prelude.{None as Absent}
use Rattle.std.specs.Prelude.{ℤ, pos, int_lt, if◌then◌else◌}
use Rattle.wy_kernel.specs.declared.types.Ty.{Ty}
use Rattle.wy_kernel.specs.declared.form.LibOp.{LibOp}
use Rattle.wy_kernel.specs.declared.form.LibOp.TheVariants as op
use Rattle.wy_kernel.specs.Program.{type_code, element_type}
use Rattle.wy_value.specs.declared.value.Value.{Value}
use Rattle.wy_value.specs.declared.value.Value.TheVariants as val
use Rattle.wy_value.specs.Encoding.{utf8_of}
use Rattle.wy_value.proofs.Encodings.{utf8_of-nil}
use Rattle.wy_event.specs.declared.record.Kind.TheVariants as kind
use Rattle.wy_event.specs.declared.record.Slot.TheVariants as slot
use Rattle.wy_steps.specs.State.{Run, Reason, Jumped, Returned, Threw, FellOff, InitFailed}
use Rattle.wy_kernel.specs.Limits.{element_limit}
use Rattle.wy_steps.specs.Steps.{constant, joined_all, with_value, value_of, code_of, event_in}
use Rattle.wy_meaning.specs.World.{World, plain, about, spelling, natural_of}
use Rattle.wy_meaning.specs.Array.{make_array, for_each, subarrays, make_arrays}
use Rattle.wy_meaning.specs.Text.{spelled_as, make_text, line_end, print_nothing}
use Rattle.wy_meaning.specs.Library.{int_in, text_arg, unit_or_fail, part_or_fail, int_or_fail, parse, absolute, greater, lesser, byte_value, read_byte, library_one, library_two, library_three, library}
use Rattle.wy_meaning.specs.Call.{text_equals, call_on_text, end_body, at_return, at_failure}
use Rattle.wy_meaning.specs.Statement.{declaration, jump}
use Rattle.law_induction.specs.Law.{nothing, both, Entails, FrameKind, Region, In}
use Rattle.law_induction.proofs.Rules.{before, same, trivially}
use Rattle.law_typed_states.proofs.Moments.{Later}
use Rattle.law_typed_states.proofs.Law.{event}
use Rattle.law_typed_states.proofs.Rules.{Ground, A, p, Known}
use Rattle.law_typed_states.proofs.Places.{Methods, world_of}
use Rattle.law_in_range.specs.InRange.{Text, IsTypeOfObjects, arrays_from, IsArray, IsByte, FixedInRange}
use Rattle.law_in_range.proofs.Facts.{S, C, Moment, always, fine, all_fine, spotted, fair, drafted, array_up, constant_fine, with_value_fine, joined_fine, value_of_fine}
use Rattle.law_in_range.proofs.Bare.{IsByteIn, Bare, bind, next, after, weaker, gives_less, gives, leaves, stops, frames, declares, takes_elements, takes_byte, BytesAre, spells_text, prints, notes, writes, creates_new}
use Rattle.law_in_range.proofs.Forms.{Site, null_fails, number_fails, place_fails, finds_type, finds_units, finds_object, measures_some, set_draft}

module _ (G : Ground) (W : Text) (J : ℕ → Type 0) (M : Methods G) where
  abbrev w : World (A G)
  w = world_of G M

  abbrev B : Region → {X : Type 0} → Known G → Run (A G) X → (X → Known G) → Type 0
  B r {X} P m Q = Bare G W J r P m Q

  abbrev F : C G W → Known G
  F c = fine G W c

  abbrev Right : ℕ → Type 0
  Right n = Site G W J M n

  -- ---- texts

  pub makes_text : {r : Region} {P : Known G} (site : ℕ) (units : List ℕ) (c : C G W) → Right site → Entails P (F c) → B r P (make_text site units c) F
  unfolding make_text
  makes_text site units c s e = spells_text G W J site units c s e (λ x. gives G W J _ (value_of_fine G W x _ tt))

  pub spells : {r : Region} {P : Known G} (v : Value) → B r P (spelled_as w v) (λ us. nothing)
  unfolding spelled_as
  spells (val.Text n) = finds_units G W J M (val.Text n)
  spells (val.Fixed n) = finds_units G W J M (val.Fixed n)
  spells _ = gives G W J _ trivially

  no_bytes : (ends_line : Bool) (site : ℕ) (s : S G W) → W.ends_line site ≡ ends_line → BytesAre G W J (line_end ends_line) site val.None s
  no_bytes b site s e = sym (ap (λ (l : List ℕ). l ++ line_end b) utf8_of-nil) ∙ ap (λ x. utf8_of [] ++ line_end x) (sym e)

  pub prints_nothing : {r : Region} {P : Known G} (ends_line : Bool) (site : ℕ) → Right site → W.ends_line site ≡ ends_line → B r P (print_nothing ends_line site) (λ t. nothing)
  unfolding print_nothing constant
  prints_nothing ends_line site s e = prints G W J site _ _ s (constant_fine G W val.None tt) (record { by = λ n q. tt }) (λ x. no_bytes ends_line site x e)

  -- ---- the library

  has_text : {r : Region} {P : Known G} (site : ℕ) (c : C G W) (v : Value) → Right site → Entails P (F c) → B r P (text_arg w site c v) (λ us. nothing)
  unfolding text_arg
  has_text site c (val.Text k) s e = finds_units G W J M (val.Text k)
  has_text site c (val.Fixed k) s e = finds_units G W J M (val.Fixed k)
  has_text site c _ s e = null_fails G W J M site c s e

  gives_unit : {r : Region} {P : Known G} (site : ℕ) (c : C G W) (o : Option ℕ) → Right site → Entails P (F c) → B r P (unit_or_fail w site c o) F
  unfolding unit_or_fail
  gives_unit site c (Some u) s e = gives G W J _ (with_value_fine G W _ c tt e)
  gives_unit site c Absent s e = place_fails G W J M site c s e

  gives_part : {r : Region} {P : Known G} (site : ℕ) (c : C G W) (o : Option (List ℕ)) → Right site → Entails P (F c) → B r P (part_or_fail w site c o) F
  unfolding part_or_fail
  gives_part site c (Some us) s e = makes_text site us c s e
  gives_part site c Absent s e = place_fails G W J M site c s e

  gives_int : {r : Region} {P : Known G} (site : ℕ) (c : C G W) (o : Option ℤ) → Right site → Entails P (F c) → B r P (int_or_fail w site c o) F
  unfolding int_or_fail
  gives_int site c (Some z) s e = gives G W J _ (with_value_fine G W _ c tt e)
  gives_int site c Absent s e = number_fails G W J M site c s e

  parses : {r : Region} {P : Known G} (site : ℕ) (c : C G W) (v : Value) → Right site → Entails P (F c) → B r P (parse w site c v) F
  unfolding parse
  parses site c (val.Text k) s e = next G W J (finds_units G W J M (val.Text k)) (λ us. gives_int site c _ s e)
  parses site c (val.Fixed k) s e = next G W J (finds_units G W J M (val.Fixed k)) (λ us. gives_int site c _ s e)
  parses site c _ s e = number_fails G W J M site c s e

  byte_in_range : (o : Option ℕ) → IsByteIn G W J o → IsByte (byte_value o)
  unfolding byte_value
  byte_in_range Absent h = tt
  byte_in_range (Some b) h = h

  byte_fixed : (o : Option ℕ) → FixedInRange (p G) (byte_value o)
  unfolding byte_value
  byte_fixed Absent = tt
  byte_fixed (Some b) = tt

  reads_byte : {r : Region} {P : Known G} (site : ℕ) → Right site → B r P (read_byte site) F
  unfolding read_byte plain drafted both
  reads_byte site s = bind G W J (takes_byte G W J) (λ b. bind G W J (notes G W J (plain kind.Read site (byte_value b)) (constant val.None) (record { by = λ n q. record { site = s; entity = tt; slot = tt; value = byte_in_range b q.1; fixed = byte_fixed b; quiet = tt } }) (constant_fine G W val.None tt)) (λ x. gives G W J _ (value_of_fine G W x _ (byte_fixed b))))

  absolute_fixed : (v : Value) → FixedInRange (p G) v → FixedInRange (p G) (absolute v)
  unfolding absolute
  absolute_fixed (val.Int z) h = tt
  absolute_fixed (val.Long z) h = tt
  absolute_fixed (val.Fixed k) h = h
  absolute_fixed (val.Bool x) h = tt
  absolute_fixed (val.Byte x) h = tt
  absolute_fixed (val.Short x) h = tt
  absolute_fixed (val.Char x) h = tt
  absolute_fixed val.Null h = tt
  absolute_fixed (val.Object x) h = tt
  absolute_fixed (val.Text x) h = tt
  absolute_fixed val.None h = tt
  absolute_fixed (val.Arm n) h = tt

  one_of : (b : Bool) (x y : Value) → FixedInRange (p G) x → FixedInRange (p G) y → FixedInRange (p G) (if b then x else y)
  one_of true x y h k = h
  one_of false x y h k = k

  with_fixed : {P : Known G} (v : Value) (c : C G W) → Entails P (always G W (FixedInRange (p G) v)) → Entails P (F c) → Entails P (F (with_value v c))
  unfolding fine with_value
  with_fixed v c h e = record { by = λ n q. (h.by n q, (e.by n q).1) }

  fixed_of : {P : Known G} (c : C G W) → Entails P (F c) → Entails P (always G W (FixedInRange (p G) c.value))
  unfolding fine
  fixed_of c e = record { by = λ n q. (e.by n q).0 }

  absolute_of : {P : Known G} (c : C G W) → Entails P (F c) → Entails P (always G W (FixedInRange (p G) (absolute c.value)))
  unfolding fine
  absolute_of c e = record { by = λ n q. absolute_fixed c.value (e.by n q).0 }

  greater_of : {P : Known G} (x y : C G W) → Entails P (F x) → Entails P (F y) → Entails P (always G W (FixedInRange (p G) (greater x.value y.value)))
  unfolding fine greater
  greater_of x y e f = record { by = λ n q. one_of (int_lt (int_in x.value) (int_in y.value)) y.value x.value (f.by n q).0 (e.by n q).0 }

  lesser_of : {P : Known G} (x y : C G W) → Entails P (F x) → Entails P (F y) → Entails P (always G W (FixedInRange (p G) (lesser x.value y.value)))
  unfolding fine lesser
  lesser_of x y e f = record { by = λ n q. one_of (int_lt (int_in y.value) (int_in x.value)) y.value x.value (f.by n q).0 (e.by n q).0 }

  one : {r : Region} {P : Known G} (o : LibOp) (site : ℕ) (all a : C G W) → Right site → Entails P (F all) → Entails P (F a) → B r P (library_one w o site all a) F
  unfolding library_one
  one op.ArrayLength site all a s e f = next G W J (gives_less G W J (finds_object G W J M site all a.value s e) (λ n. trivially)) (λ n. next G W J (measures_some G W J M n) (λ l. gives G W J _ (with_value_fine G W _ all tt e)))
  one op.Length site all a s e f = next G W J (has_text site all a.value s e) (λ us. gives G W J _ (with_value_fine G W _ all tt e))
  one op.IsEmpty site all a s e f = next G W J (has_text site all a.value s e) (λ us. gives G W J _ (with_value_fine G W _ all tt e))
  one op.Itself site all a s e f = next G W J (has_text site all a.value s e) (λ us. gives G W J _ (with_fixed a.value all (fixed_of a f) e))
  one op.ValueOf site all a s e f = makes_text site _ all s e
  one op.IntText site all a s e f = makes_text site _ all s e
  one op.ParseInt site all a s e f = parses site all a.value s e
  one op.Abs site all a s e f = gives G W J _ (with_fixed (absolute a.value) all (absolute_of a f) e)
  one op.ClassText site all a s e f = next G W J (finds_type G W J M a.value) (λ t. makes_text site _ all s e)
  one op.ObjectText site all a s e f = next G W J (finds_type G W J M a.value) (λ t. makes_text site _ all s e)
  one _ site all a s e f = gives G W J _ (constant_fine G W val.None tt)

  two : {r : Region} {P : Known G} (o : LibOp) (site : ℕ) (all a b : C G W) → Right site → Entails P (F all) → Entails P (F a) → Entails P (F b) → B r P (library_two w o site all a b) F
  unfolding library_two
  two op.CharAt site all a b s e f g = next G W J (has_text site all a.value s e) (λ us. gives_unit site all _ s e)
  two op.PartFrom site all a b s e f g = next G W J (has_text site all a.value s e) (λ us. gives_part site all _ s e)
  two op.Same site all a b s e f g = next G W J (has_text site all a.value s e) (λ x. next G W J (finds_units G W J M b.value) (λ y. gives G W J _ (with_value_fine G W _ all tt e)))
  two op.Compare site all a b s e f g = next G W J (has_text site all a.value s e) (λ x. next G W J (has_text site all b.value s e) (λ y. gives G W J _ (with_value_fine G W _ all tt e)))
  two op.Max site all a b s e f g = gives G W J _ (with_fixed _ all (greater_of a b f g) e)
  two op.Min site all a b s e f g = gives G W J _ (with_fixed _ all (lesser_of a b f g) e)
  two _ site all a b s e f g = gives G W J _ (constant_fine G W val.None tt)

  three : {r : Region} {P : Known G} (o : LibOp) (site : ℕ) (all a b c : C G W) → Right site → Entails P (F all) → B r P (library_three w o site all a b c) F
  unfolding library_three
  three op.Part site all a b c s e = next G W J (has_text site all a.value s e) (λ us. gives_part site all _ s e)
  three _ site all a b c s e = gives G W J _ (constant_fine G W val.None tt)

  pub first_fine : {P : Known G} (c : C G W) (cs : List (C G W)) → Entails P (all_fine G W (c ∷ cs)) → Entails P (F c)
  unfolding all_fine fine
  first_fine c cs e = record { by = λ n q. (e.by n q).0 }

  pub rest_fine : {P : Known G} (c : C G W) (cs : List (C G W)) → Entails P (all_fine G W (c ∷ cs)) → Entails P (all_fine G W cs)
  unfolding all_fine
  rest_fine c cs e = record { by = λ n q. (e.by n q).1 }

  pub none_fine : {P : Known G} → Entails P (all_fine G W [])
  unfolding all_fine
  none_fine = record { by = λ n q. tt }

  pub more_fine : {P : Known G} (c : C G W) (cs : List (C G W)) → Entails P (F c) → Entails P (all_fine G W cs) → Entails P (all_fine G W (c ∷ cs))
  unfolding all_fine fine
  more_fine c cs e f = record { by = λ n q. (e.by n q, f.by n q) }

  pub together_fine : {P : Known G} (cs : List (C G W)) → Entails P (all_fine G W cs) → Entails P (F (joined_all cs))
  unfolding joined_all
  together_fine [] e = constant_fine G W val.None tt
  together_fine (c ∷ cs) e = joined_fine G W val.None c (joined_all cs) tt (first_fine c cs e) (together_fine cs (rest_fine c cs e))

  pub in_library : {r : Region} {P : Known G} (o : LibOp) (site : ℕ) (vs : List (C G W)) → Right site → Entails P (all_fine G W vs) → B r P (library w o site vs) F
  unfolding library
  in_library o site [] s e = reads_byte site s
  in_library o site (a ∷ []) s e = one o site _ a s (together_fine (a ∷ []) e) (first_fine a [] e)
  in_library o site (a ∷ b ∷ []) s e = two o site _ a b s (together_fine (a ∷ b ∷ []) e) (first_fine a (b ∷ []) e) (first_fine b [] (rest_fine a (b ∷ []) e))
  in_library o site (a ∷ b ∷ c ∷ rest) s e = three o site _ a b c s (together_fine (a ∷ b ∷ c ∷ rest) e)

  equal_texts : {r : Region} {P : Known G} (a b : C G W) → Entails P (F a) → Entails P (F b) → B r P (text_equals w a b) F
  unfolding text_equals
  equal_texts a b e f = next G W J (finds_units G W J M a.value) (λ x. next G W J (finds_units G W J M b.value) (λ y. gives G W J _ (joined_fine G W _ a b tt e f)))

  pub on_text : {r : Region} {P : Known G} (b : Bool) (x : C G W) (args : List (C G W)) → Entails P (F x) → Entails P (all_fine G W args) → B r P (call_on_text w b x args) F
  unfolding call_on_text
  on_text true x (v ∷ vs) e f = equal_texts x v e (first_fine v vs f)
  on_text true x [] e f = gives G W J x e
  on_text false x args e f = gives G W J x e

  -- ---- arrays

  -- a New of the type makes an array
  pub record MakesArrays (ty : Ty) : Type 0 where
    pub objects : IsTypeOfObjects (p G) ty
    pub array : arrays_from ≤ type_code ty

  -- so does one of each of so many types of elements
  abbrev pub Nested : Ty → List (C G W) → Type 0
  Nested ty [] = Unit {0}
  Nested ty (d ∷ ds) = MakesArrays ty × Nested (element_type ty) ds

  array_known_up : (m n : Moment G W) (k : ℕ) → Later m n → IsArray (event_in m) k → IsArray (event_in n) k
  array_known_up m n k le h = array_up (p G) (event_in m) (event_in n) le k h

  unfoldable pub array : ℕ → Known G
  unfolding array_known_up
  array k = record { holds = λ n. IsArray (event_in n) k; up = λ m n. array_known_up m n k }

  pub makes_array : {r : Region} {P : Known G} (site : ℕ) (ty : Ty) (n : ℕ) (c : C G W) → Right site → MakesArrays ty → Entails P (F c) → B r P (make_array w site ty n c) (λ e. both (array e.number) (always G W (n ≤ element_limit)))
  unfolding make_array about drafted array both event code_of
  makes_array site ty n c s h e = after G W J (takes_elements G W J n) (gives_less G W J
      (creates_new G W J (about kind.New site (type_code ty) (val.Int (pos n))) c (record { by = λ m q. record { site = s; entity = (ty, h.objects, refl); slot = tt; value = inr (h.array, (n, refl, q.1)); fixed = tt; quiet = tt } }) (before _ _ e))
      (λ x. record { by = λ m q. (record { event = q.1.event; there = q.1.there; is_new = q.1.kind; array = subst (λ o. arrays_from ≤ code_of o) (sym q.1.entity) h.array }, q.0.1) }))

  repeats : {r : Region} {P : Known G} (n k : ℕ) (f : ℕ → Run (A G) Unit) → ((j : ℕ) → j < k + n → B r P (f j) (λ t. nothing)) → B r P (for_each k n f) (λ t. nothing)
  unfolding for_each
  repeats zero k f h = gives G W J tt trivially
  repeats (suc n) k f h = after G W J (h k (omega arith)) (weaker G W J (repeats n (suc k) f (λ j lt. h j (omega (arith, lt)))) (before _ _ same))

  pub element_place : {P : Known G} (k j n : ℕ) → j < n → Entails P (array k) → Entails P (always G W (n ≤ element_limit)) → Entails P (spotted G W (slot.Elem k j))
  unfolding spotted array
  element_place k j n lt e f = record { by = λ m q. (tt, (e.by m q, let few = f.by m q in omega (arith, lt, few))) }

  fills : (ds : List (C G W)) {r : Region} (site : ℕ) (ty : Ty) (parent n : ℕ) (P : Known G) → Right site → Nested ty ds → Entails P (array parent) → Entails P (always G W (n ≤ element_limit)) → Entails P (all_fine G W ds) → B r P (subarrays w site ty ds parent n) (λ t. nothing)
  unfolding subarrays both value_of
  fills [] site ty parent n P s h a few e = gives G W J tt trivially
  fills (d ∷ ds) site ty parent n P s h a few e = repeats n 0 _ (λ j lt. bind G W J (makes_array site ty (natural_of d.value) d s h.0 (first_fine d ds e)) (λ sub.
      bind G W J (writes G W J _ _ (set_draft G W J M site (slot.Elem parent j) (value_of sub (val.Object sub.number)) s (element_place parent j n (omega (arith, lt)) (before _ _ a) (before _ _ few)) (value_of_fine G W sub _ tt) (record { by = λ m q. tt })) (value_of_fine G W sub _ tt)) (λ x.
      fills ds site (element_type ty) sub.number (natural_of d.value) _ s h.1 (before _ _ (record { by = λ m q. q.1.0 })) (before _ _ (record { by = λ m q. q.1.1 })) (before _ _ (before _ _ (rest_fine d ds e))))))

  pub makes_arrays : {r : Region} {P : Known G} (site : ℕ) (ty : Ty) (ds : List (C G W)) → Right site → Nested ty ds → Entails P (all_fine G W ds) → B r P (make_arrays w site ty ds) F
  unfolding make_arrays both
  makes_arrays site ty [] s h e = gives G W J _ (constant_fine G W val.None tt)
  makes_arrays site ty (d ∷ ds) s h e = bind G W J (makes_array site ty (natural_of d.value) d s h.0 (first_fine d ds e)) (λ x.
      after G W J (fills ds site (element_type ty) x.number (natural_of d.value) _ s h.1 (record { by = λ m q. q.1.0 }) (record { by = λ m q. q.1.1 }) (before _ _ (rest_fine d ds e))) (gives G W J _ (value_of_fine G W x _ tt)))

  -- ---- ends of bodies, and jumps

  pub ends_body : {r : Region} {P : Known G} (c : Bool) (site : ℕ) → Right site → B r P (end_body c site) F
  unfolding end_body plain drafted
  ends_body false site s = stops G W J FellOff
  ends_body true site s = bind G W J (notes G W J (plain kind.Return site val.None) (constant val.None) (record { by = λ n q. record { site = s; entity = tt; slot = tt; value = tt; fixed = tt; quiet = tt } }) (constant_fine G W val.None tt)) (λ x. gives G W J _ (value_of_fine G W x _ tt))

  pub at_returns : {r : Region} {P : Known G} (why : Reason (A G)) → Entails P (fair G W J why) → B r P (at_return why) F
  unfolding at_return fair
  at_returns (Jumped target e) h = leaves G W J _ h
  at_returns (Returned e v) h = gives G W J v h
  at_returns (Threw e v) h = leaves G W J _ h

  pub at_failures : {r : Region} {P : Known G} (why : Reason (A G)) → Entails P (fair G W J why) → B r P (at_failure why) (λ t. nothing)
  unfolding at_failure fair
  at_failures (Jumped target e) h = leaves G W J _ h
  at_failures (Returned e v) h = leaves G W J _ h
  at_failures (Threw e v) h = stops G W J (InitFailed e)

  pub declares_local : {i : FrameKind} {P : Known G} (k : ℕ) → B (In i) P (declaration k) (λ t. nothing)
  unfolding declaration
  declares_local k = bind G W J (frames G W J) (λ f. declares G W J _)

  pub jumps : {r : Region} {P : Known G} (site target : ℕ) → Right site → J target → B r P (jump site target) (λ t. nothing)
  unfolding jump plain drafted fair
  jumps site target s h = bind G W J (notes G W J (plain kind.Jump site val.None) (constant val.None) (record { by = λ n q. record { site = s; entity = tt; slot = tt; value = tt; fixed = tt; quiet = tt } }) (constant_fine G W val.None tt)) (λ x. leaves G W J (Jumped target x.number) (record { by = λ n q. h }))
