-- Parts of forms that evaluate nothing keep what is in range.
use Rattle.std.proofs.Common.{◌≡◌, ◌<◌, inl, ⊎_elim, arith, ℕ, Bool, true, false, length, Option, Some, refl, sym, ap, ◌∙◌, subst}
use Rattle.std.specs.Prelude.{None as Absent}
use Rattle.std.specs.Prelude.{pos, negsuc, nat_lt, if◌then◌else◌}
use Rattle.std.proofs.lemmas.Bool.{ltb-true}
use Rattle.std.proofs.lemmas.Option.{slice_get_within}
use Rattle.wy_kernel.specs.declared.types.Ty.{Ty}
use Rattle.wy_kernel.specs.Program.{Field, string_class, type_code, base_code}
use Rattle.wy_kernel.specs.Subtyping.{class_type}
use Rattle.wy_value.specs.declared.value.Value.{Value}
use Rattle.wy_value.specs.declared.value.Value.TheVariants as val
use Rattle.wy_event.specs.declared.record.Kind.TheVariants as kind
use Rattle.wy_event.specs.declared.record.Slot.{Slot}
use Rattle.wy_event.specs.declared.record.Slot.TheVariants as slot
use Rattle.wy_event.specs.Record.{Recorded}
use Rattle.wy_steps.specs.State.{Run, Threw}
use Rattle.wy_steps.specs.Steps.{Made, constant, joined, with_value, value_of, code_of, event_in, event_at}
use Rattle.wy_meaning.specs.World.{World, plain, about, into, class_code, throwing, fail, type_of, units_of, natural_of, length_in, length_of, object_of, null_pointer, arithmetic, array_store, array_index, number_format, string_index, negative_size, class_cast}
use Rattle.wy_meaning.specs.Place.{Spot, local_spot, field_spot, index_in, checked_index, element_spot, lacks_value, fetch, assign, check_store, store, primitive_of, divided}
use Rattle.wy_typing.specs.Expressions.{IsField}
use Rattle.law_induction.specs.Law.{nothing, both, Entails, FrameKind, Region, In}
use Rattle.law_induction.proofs.Rules.{newest, before, trivially}
use Rattle.law_typed_states.specs.Typed.{Is, local_types}
use Rattle.law_typed_states.proofs.Library.{Fails, arithmetic_fails, array_store_fails, array_index_fails, null_pointer_fails, number_format_fails, string_index_fails, negative_size_fails, class_cast_fails}
use Rattle.law_typed_states.proofs.Moments.{Later}
use Rattle.law_typed_states.proofs.Law.{is, event, current}
use Rattle.law_typed_states.proofs.Rules.{Ground, A, p, Known}
use Rattle.law_typed_states.proofs.Places.{Methods, of_type, world_of}
use Rattle.wy_kernel.specs.Limits.{index_limit}
use Rattle.law_in_range.specs.InRange.{Text, IsSite, arrays_from, IsArray, HasLocal, IsNone, IsSome, IsLength, ValueInRange, FixedInRange, InRange}
use Rattle.law_in_range.proofs.Facts.{C, Moment, always, fine, spotted, thrown, fair, drafted, found_in_range, uses_append, joined_fine, value_of_fine}
use Rattle.law_in_range.proofs.Values.{Plain, primitive_gives, field_of_source, object_at}
use Rattle.law_in_range.proofs.Bare.{Bare, bind, next, after, gives, leaves, stops, either, frames, looks, reads, notes, writes, creates_new}

code_of_class : (c : ℕ) → type_code (class_type c) ≡ class_code c
unfolding type_code base_code class_code
code_of_class c = omega arith

module _ (G : Ground) (W : Text) (J : ℕ → Type 0) (M : Methods G) where
  abbrev w : World (A G)
  w = world_of G M

  abbrev pub Site : ℕ → Type 0
  Site n = IsSite W.tokens n

  abbrev B : Region → {X : Type 0} → Known G → Run (A G) X → (X → Known G) → Type 0
  B r {X} P m Q = Bare G W J r P m Q

  abbrev F : C G W → Known G
  F c = fine G W c

  abbrev pub some : Value → Known G
  some v = always G W (IsSome v)

  -- ---- exceptions

  class_below : (c : ℕ) → c < length (p G).classes → class_code c < arrays_from
  unfolding class_code
  class_below c lt = let few = G.library.few in omega (arith, lt, few)

  pub object_draft : {P : Known G} (site c : ℕ) → Site site → c < length (p G).classes → (c ≡ string_class → ⊥) → Entails P (drafted G W (about kind.New site (class_code c) val.None))
  unfolding drafted about code_of
  object_draft site c s lt n = record { by = λ m q. record { site = s; entity = (class_type c, (lt, n), code_of_class c); slot = tt; value = inl (class_below c lt, tt); fixed = tt; quiet = tt } }

  pub new_thrown : {P : Known G} (e : Made (A G)) (site c : ℕ) → c < length (p G).classes → Entails P (event (A G) (p G) (about kind.New site (class_code c) val.None) e) → Entails P (thrown G W (val.Object e.number))
  unfolding thrown event about code_of
  new_thrown e site c lt h = record { by = λ n q. let x = h.by n q in record { event = x.event; there = x.there; is_new = x.kind; no_array = subst (λ o. code_of o < arrays_from) (sym x.entity) (class_below c lt) } }

  pub throws : {r : Region} {X : Type 0} {P : Known G} {Q : X → Known G} (site : ℕ) (v : C G W) → Site site → Entails P (F v) → Entails P (thrown G W v.value) → B r P (throwing site v) Q
  unfolding throwing plain drafted fine thrown fair both value_of
  throws site v s f t = bind G W J (notes G W J (plain kind.Throw site v.value) v (record { by = λ n q. record { site = s; entity = tt; slot = tt; value = t.by n q; fixed = (f.by n q).0; quiet = tt } }) f)
      (λ e. leaves G W J (Threw e.number (value_of e v.value)) (record { by = λ n q. (((f.by n q.0).0, (tt, tt)), t.by n q.0) }))

  fails : {r : Region} {X : Type 0} {P : Known G} {Q : X → Known G} (c site : ℕ) (v : C G W) → Fails (p G) c → (c ≡ string_class → ⊥) → Site site → Entails P (F v) → B r P (fail w c site v) Q
  unfolding fail value_of
  fails c site v f n s e =
      let lt = slice_get_within (p G).classes c f.made.0 f.made.1 in
      bind G W J (creates_new G W J (about kind.New site (class_code c) val.None) v (object_draft site c s lt n) e) (λ x. throws site (value_of x (val.Object x.number)) s (value_of_fine G W x _ tt) (new_thrown x site c lt (newest _ _)))

  pub null_fails : {r : Region} {X : Type 0} {P : Known G} {Q : X → Known G} (site : ℕ) (v : C G W) → Site site → Entails P (F v) → B r P (fail w null_pointer site v) Q
  null_fails site v = fails null_pointer site v (null_pointer_fails (p G) G.fits.declarations.library_classes) (λ e. cc e)

  pub cast_fails : {r : Region} {X : Type 0} {P : Known G} {Q : X → Known G} (site : ℕ) (v : C G W) → Site site → Entails P (F v) → B r P (fail w class_cast site v) Q
  cast_fails site v = fails class_cast site v (class_cast_fails (p G) G.fits.declarations.library_classes) (λ e. cc e)

  pub size_fails : {r : Region} {X : Type 0} {P : Known G} {Q : X → Known G} (site : ℕ) (v : C G W) → Site site → Entails P (F v) → B r P (fail w negative_size site v) Q
  size_fails site v = fails negative_size site v (negative_size_fails (p G) G.fits.declarations.library_classes) (λ e. cc e)

  pub number_fails : {r : Region} {X : Type 0} {P : Known G} {Q : X → Known G} (site : ℕ) (v : C G W) → Site site → Entails P (F v) → B r P (fail w number_format site v) Q
  number_fails site v = fails number_format site v (number_format_fails (p G) G.fits.declarations.library_classes) (λ e. cc e)

  pub place_fails : {r : Region} {X : Type 0} {P : Known G} {Q : X → Known G} (site : ℕ) (v : C G W) → Site site → Entails P (F v) → B r P (fail w string_index site v) Q
  place_fails site v = fails string_index site v (string_index_fails (p G) G.fits.declarations.library_classes) (λ e. cc e)

  index_fails : {r : Region} {X : Type 0} {P : Known G} {Q : X → Known G} (site : ℕ) (v : C G W) → Site site → Entails P (F v) → B r P (fail w array_index site v) Q
  index_fails site v = fails array_index site v (array_index_fails (p G) G.fits.declarations.library_classes) (λ e. cc e)

  element_fails : {r : Region} {X : Type 0} {P : Known G} {Q : X → Known G} (site : ℕ) (v : C G W) → Site site → Entails P (F v) → B r P (fail w array_store site v) Q
  element_fails site v = fails array_store site v (array_store_fails (p G) G.fits.declarations.library_classes) (λ e. cc e)

  zero_fails : {r : Region} {X : Type 0} {P : Known G} {Q : X → Known G} (site : ℕ) (v : C G W) → Site site → Entails P (F v) → B r P (fail w arithmetic site v) Q
  zero_fails site v = fails arithmetic site v (arithmetic_fails (p G) G.fits.declarations.library_classes) (λ e. cc e)

  -- ---- what is looked up

  looks_up : {r : Region} {P : Known G} (n : ℕ) → B r P (event_at n) (λ o. nothing)
  looks_up n = looks G W J n (λ o. nothing) (λ s o k i e. tt)

  pub finds_type : {r : Region} {P : Known G} (v : Value) → B r P (type_of v) (λ t. nothing)
  unfolding type_of
  finds_type (val.Object k) = next G W J (looks_up k) (λ o. gives G W J _ trivially)
  finds_type (val.Text k) = gives G W J _ trivially
  finds_type (val.Fixed k) = gives G W J _ trivially
  finds_type _ = gives G W J _ trivially

  pub finds_units : {r : Region} {P : Known G} (v : Value) → B r P (units_of w v) (λ us. nothing)
  unfolding units_of
  finds_units (val.Text k) = next G W J (looks_up k) (λ o. gives G W J _ trivially)
  finds_units (val.Fixed k) = gives G W J _ trivially
  finds_units _ = gives G W J _ trivially

  pub finds_object : {r : Region} {P : Known G} (site : ℕ) (c : C G W) (v : Value) → Site site → Entails P (F c) → B r P (object_of w site c v) (λ n. always G W (v ≡ val.Object n))
  unfolding object_of
  finds_object site c (val.Object n) s e = gives G W J n (record { by = λ m q. refl })
  finds_object site c _ s e = null_fails site c s e

  -- ---- places

  unfoldable pub spot_fine : Spot (A G) → Known G
  spot_fine x = both (spotted G W x.slot) (F x.parts)

  pub spot_slot : {P : Known G} (x : Spot (A G)) → Entails P (spot_fine x) → Entails P (spotted G W x.slot)
  unfolding both spot_fine
  spot_slot x e = record { by = λ n q. (e.by n q).0 }

  pub spot_parts : {P : Known G} (x : Spot (A G)) → Entails P (spot_fine x) → Entails P (F x.parts)
  unfolding both spot_fine
  spot_parts x e = record { by = λ n q. (e.by n q).1 }

  pub local_found : {P : Known G} (i : FrameKind) (k : ℕ) → k < length (local_types (p G) i) → B (In i) P (local_spot k) spot_fine
  unfolding local_spot current both spot_fine spotted fine constant code_of
  local_found i k lt = bind G W J (frames G W J) (λ o. gives G W J _ (record { by = λ n q. let c = q.1 in ((tt, subst (λ f. LocalAt n f) (sym (ap code_of c.1)) (record { event = c.2.event; there = c.2.there; body = i; runs = c.2.runs; within = lt })), (tt, tt)) }))
    where
      LocalAt : Moment G W → ℕ → Type 0
      LocalAt n f = HasLocal (p G) (event_in n) f k

  pub field_found : {r : Region} {P : Known G} (k site : ℕ) (o : C G W) (f : Field) → Site site → IsField (p G) k f → f.is_static ≡ false → Entails P (F o) → Entails P (of_type G (class_type f.class) o.value) → B r P (field_spot w k site o) spot_fine
  unfolding field_spot both spot_fine spotted is
  field_found k site o f s e plain_field h t = bind G W J (finds_object site o o.value s h) (λ n. gives G W J _ (record { by = λ m q. ((tt, (object_at G m n f.class (field_of_source G k f e) (subst (λ v. Is (p G) m (class_type f.class) v) q.1 (t.by m q.0)), (f, e, plain_field))), h.by m q.0) }))

  -- an array of that length
  record Measured (n : Moment G W) (a l : ℕ) : Type 0 where
    pub event : Recorded
    pub there : event_in n a ≡ Some event
    pub is_new : event.kind ≡ kind.New
    pub length : IsLength (code_of event.entity) event.value
    pub is : l ≡ natural_of event.value

  measured_up : (m n : Moment G W) (a l : ℕ) → Later m n → Measured m a l → Measured n a l
  measured_up m n a l le h = record { event = h.event; there = le a h.event h.there; is_new = h.is_new; length = h.length; is = h.is }

  unfoldable measured : ℕ → ℕ → Known G
  unfolding measured_up
  measured a l = record { holds = λ n. Measured n a l; up = λ m n. measured_up m n a l }

  new_length : (n : Moment G W) (e : Recorded) → e.kind ≡ kind.New → InRange W.tokens (p G) (event_in n) e → IsLength (code_of e.entity) e.value
  new_length n e k h = subst (λ z. ValueInRange (event_in n) z e.entity e.value) k h.value

  looked_up : {r : Region} {P : Known G} (a : ℕ) (ty : Ty) → Entails P (of_type G ty (val.Object a)) → B r P (event_at a) (λ o. measured a (length_in o))
  unfolding is measured length_in
  looked_up a ty h = looks G W J a _ (λ s o k i e. let r = h.by _ k in record {
    event = r.event;
    there = r.there;
    is_new = r.is_new;
    length = new_length s.noted r.event r.is_new (found_in_range G W s.noted i.noted a r.event r.there);
    is = ap length_in (e ∙ r.there);
  })

  measures : {r : Region} {P : Known G} (a : ℕ) (ty : Ty) → Entails P (of_type G ty (val.Object a)) → B r P (length_of a) (measured a)
  unfolding length_of
  measures a ty h = bind G W J (looked_up a ty h) (λ o. gives G W J _ (newest _ _))

  pub measures_some : {r : Region} {P : Known G} (a : ℕ) → B r P (length_of a) (λ l. nothing)
  unfolding length_of
  measures_some a = next G W J (looks_up a) (λ o. gives G W J _ trivially)

  indexed : (l : ℕ) (v : Value) (j : ℕ) → index_in l v ≡ Some j → j < l
  unfolding index_in
  indexed l (val.Int (pos k)) j e = go (nat_lt k l) refl e
    where
      go : (b : Bool) → nat_lt k l ≡ b → (if b then Some k else Absent) ≡ Some j → j < l
      go true q e = subst (λ x. x < l) (let w : k ≡ j = cc e in w) (ltb-true k l q)
      go false q e = absurd (cc e)
  indexed l (val.Int (negsuc k)) j e = absurd (cc e)
  indexed l (val.Bool x) j e = absurd (cc e)
  indexed l (val.Byte x) j e = absurd (cc e)
  indexed l (val.Short x) j e = absurd (cc e)
  indexed l (val.Char x) j e = absurd (cc e)
  indexed l (val.Long x) j e = absurd (cc e)
  indexed l val.Null j e = absurd (cc e)
  indexed l (val.Object x) j e = absurd (cc e)
  indexed l (val.Text x) j e = absurd (cc e)
  indexed l (val.Fixed x) j e = absurd (cc e)
  indexed l val.None j e = absurd (cc e)
  indexed l (val.Arm n) j e = absurd (cc e)

  none_is_zero : (v : Value) → IsNone v → natural_of v ≡ 0
  unfolding natural_of
  none_is_zero val.None h = refl
  none_is_zero _ h = absurd h

  int_is : (v : Value) (n : ℕ) → v ≡ val.Int (pos n) → natural_of v ≡ n
  unfolding natural_of
  int_is v n e = ap natural_of e

  -- what has an element with an index is an array
  array_at : (n : Moment G W) (a l j : ℕ) → Measured n a l → j < l → IsArray (event_in n) a × j < index_limit
  array_at n a l j h lt = ⊎_elim
      (λ q. let z = h.is ∙ none_is_zero h.event.value q.1 in absurd (omega (arith, z, lt)))
      (λ q. let z = h.is ∙ int_is h.event.value q.1.0 q.1.1 in let few = q.1.2 in (record { event = h.event; there = h.there; is_new = h.is_new; array = q.0 }, omega (arith, z, lt, few)))
      h.length

  checks_index : {r : Region} {P : Known G} (site : ℕ) (c : C G W) (o : Option ℕ) → Site site → Entails P (F c) → B r P (checked_index w site c o) (λ j. always G W (o ≡ Some j))
  unfolding checked_index
  checks_index site c (Some k) s e = gives G W J k (record { by = λ n q. refl })
  checks_index site c Absent s e = index_fails site c s e

  pub element_found : {r : Region} {P : Known G} (site : ℕ) (a k : C G W) (ty : Ty) → Site site → Entails P (F a) → Entails P (F k) → Entails P (of_type G ty a.value) → B r P (element_spot w site a k) spot_fine
  unfolding element_spot both spot_fine spotted is measured
  element_found site a k ty s fa fk t =
      bind G W J (finds_object site _ a.value s (joined_fine G W val.None a k tt fa fk)) (λ n.
      bind G W J (measures n ty (record { by = λ m q. subst (λ v. Is (p G) m ty v) q.1 (t.by m q.0) })) (λ l.
      bind G W J (checks_index site _ (index_in l k.value) s (before _ _ (before _ _ (joined_fine G W val.None a k tt fa fk)))) (λ j.
      gives G W J _ (record { by = λ m q. ((tt, array_at m n l j q.0.1 (indexed l k.value j q.1)), (joined_fine G W val.None a k tt fa fk).by m q.0.0.0) }))))

  -- ---- reading and assigning

  fetched : {P : Known G} (x v : C G W) → Entails P (F v) → Entails P (F x) → Entails P (F (joined v.value x v))
  unfolding fine joined
  fetched x v f g = record { by = λ n q. ((f.by n q).0, uses_append (p G) (event_in n) x.uses v.uses (g.by n q).1 (f.by n q).1) }

  pub fetches : {r : Region} {P : Known G} (x : Spot (A G)) → Entails P (spot_fine x) → B r P (fetch x) F
  unfolding fetch
  fetches x e = bind G W J (reads G W J x.slot (spot_slot x e)) (λ v. either G W J (lacks_value x.slot v.value) (λ l. stops G W J _) (λ l.
      gives G W J _ (fetched x.parts v (newest _ _) (before _ _ (spot_parts x e)))))

  joined_as : {P : Known G} (v : Value) (x y : C G W) → Entails P (F x) → Entails P (F y) → v ≡ y.value → Entails P (F (joined v x y))
  unfolding fine joined
  joined_as v x y f g e = record { by = λ n q. (subst (FixedInRange (p G)) (sym e) (g.by n q).0, uses_append (p G) (event_in n) x.uses y.uses (f.by n q).1 (g.by n q).1) }

  pub set_draft : {P : Known G} (site : ℕ) (x : Slot) (v : C G W) → Site site → Entails P (spotted G W x) → Entails P (F v) → Entails P (some v.value) → Entails P (drafted G W (into kind.Set site x v.value))
  unfolding drafted into spotted fine
  set_draft site x v s e f g = record { by = λ n q. record { site = s; entity = tt; slot = (e.by n q).1; value = g.by n q; fixed = (f.by n q).0; quiet = tt } }

  as_value : {P : Known G} (e : Made (A G)) (v : C G W) → Entails P (F v) → Entails P (F (value_of e v.value))
  unfolding fine value_of
  as_value e v f = record { by = λ n q. ((f.by n q).0, (tt, tt)) }

  pub assigns : {r : Region} {P : Known G} (site : ℕ) (x : Spot (A G)) (v : C G W) → Site site → Entails P (spot_fine x) → Entails P (F v) → Entails P (some v.value) → B r P (assign site x v) F
  unfolding assign
  assigns site x v s e f g = bind G W J (writes G W J _ _ (set_draft site x.slot v s (spot_slot x e) f g) (joined_as v.value x.parts v (spot_parts x e) f refl)) (λ m. gives G W J _ (as_value m v (before _ _ f)))

  checks : {r : Region} {P : Known G} (site : ℕ) (x : Spot (A G)) (v : C G W) (y : Slot) → Site site → Entails P (spot_fine x) → Entails P (F v) → B r P (check_store w site x v y) (λ t. nothing)
  unfolding check_store
  checks site x v (slot.Elem a j) s e f = next G W J (finds_type (val.Object a)) (λ t. next G W J (finds_type v.value) (λ u. either G W J _ (λ q. gives G W J tt trivially) (λ q. element_fails site _ s (joined_fine G W val.None x.parts v tt (spot_parts x e) f))))
  checks site x v (slot.Local g k) s e f = gives G W J tt trivially
  checks site x v (slot.Static k) s e f = gives G W J tt trivially
  checks site x v (slot.Field o k) s e f = gives G W J tt trivially
  checks site x v slot.None s e f = gives G W J tt trivially

  pub stores : {r : Region} {P : Known G} (site : ℕ) (x : Spot (A G)) (v : C G W) → Site site → Entails P (spot_fine x) → Entails P (F v) → Entails P (some v.value) → B r P (store w site x v) F
  unfolding store
  stores site x v s e f g = after G W J (checks site x v x.slot s e f) (assigns site x v s (before _ _ e) (before _ _ f) (before _ _ g))

  -- what an operation gave
  unfoldable pub worked : Value → Known G
  worked v = always G W (Plain (p G) v)

  done : {P : Known G} (v : Value) (c : C G W) → Plain (p G) v → Entails P (F c) → Entails P (both (F (with_value v c)) (worked (with_value v c).value))
  unfolding both worked fine with_value
  done v c h e = record { by = λ n q. ((h.0, (e.by n q).1), h) }

  pub divides : {r : Region} {P : Known G} (site : ℕ) (c : C G W) (o : Option Value) → Site site → Entails P (F c) → ((v : Value) → o ≡ Some v → Plain (p G) v) → B r P (divided w site c o) (λ u. both (F u) (worked u.value))
  unfolding divided
  divides site c (Some v) s e h = gives G W J _ (done v c (h v refl) e)
  divides site c Absent s e h = zero_fails site c s e

  pub brought : {P : Known G} (ty : Ty) (c : C G W) → Entails P (both (F c) (worked c.value)) → Entails P (F (with_value (primitive_of ty c.value) c))
  unfolding both worked fine with_value
  brought ty c e = record { by = λ n q. let h = e.by n q in ((primitive_gives (p G) ty c.value h.1).0, h.0.1) }

  pub brought_some : {P : Known G} (ty : Ty) (c : C G W) → Entails P (both (F c) (worked c.value)) → Entails P (some (primitive_of ty c.value))
  unfolding both worked
  brought_some ty c e = record { by = λ n q. (primitive_gives (p G) ty c.value (e.by n q).1).1 }

  pub worked_fine : {P : Known G} (c : C G W) → Entails P (both (F c) (worked c.value)) → Entails P (F c)
  unfolding both
  worked_fine c e = record { by = λ n q. (e.by n q).0 }
