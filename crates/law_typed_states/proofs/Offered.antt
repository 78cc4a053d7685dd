-- What the library's operations give is of their types.
use Rattle.std.proofs.Common.{ℕ, suc, Bool, true, false, List, [], ◌∷◌, Option, Some, refl}
use Rattle.std.specs.Prelude.{None as Absent}
use Rattle.std.specs.Prelude.{ℤ, if◌then◌else◌}
use Rattle.wy_kernel.specs.declared.types.Ty.{Ty}
use Rattle.wy_kernel.specs.declared.types.Ty.TheVariants.{Of}
use Rattle.wy_kernel.specs.declared.form.LibOp.{LibOp}
use Rattle.wy_kernel.specs.declared.form.LibOp.TheVariants as op
use Rattle.wy_value.specs.declared.value.Value.{Value}
use Rattle.wy_value.specs.declared.value.Value.TheVariants as val
use Rattle.wy_event.specs.declared.record.Kind.TheVariants as kind
use Rattle.wy_steps.specs.State.{Carried, Run, Noted, return}
use Rattle.wy_steps.specs.Steps.{constant, joined_all, with_value, value_of}
use Rattle.wy_meaning.specs.World.{World, plain, number_format, string_index, object_of}
use Rattle.wy_meaning.specs.Library.{text_arg, unit_or_fail, part_or_fail, int_or_fail, parse, absolute, greater, lesser, byte_value, read_byte, library_one, library_two, library_three, library, library_form}
use Rattle.wy_typing.specs.Types as lib
use Rattle.wy_typing.specs.Types.{boolean_type, char_type, int_type, long_type, text_type, Offers}
use Rattle.wy_kernel.specs.Subtyping.{object_type}
use Rattle.law_induction.specs.Law.{nothing, both, Entails, FrameKind, In, IsInt, a_read}
use Rattle.law_induction.proofs.Rules.{newest, trivially}
use Rattle.law_typed_states.specs.Typed.{Is}
use Rattle.law_typed_states.proofs.Library.{number_format_fails, string_index_fails}
use Rattle.law_typed_states.proofs.Law.{is}
use Rattle.law_typed_states.proofs.Rules.{Ground, A, p, Known, Does, bind, gives_less, forgets, gives, next, takes_byte, notes}
use Rattle.law_typed_states.proofs.Facts.{all_are}
use Rattle.law_typed_states.proofs.Places.{Methods, of_type, world_of, fails, null_fails, some_type, some_units, some_length}
use Rattle.law_typed_states.proofs.Forms.{T, makes_text}
use Rattle.law_typed_states.proofs.Calls.{AllTypes, gives_all}

module _ (G : Ground) (M : Methods G) (i : FrameKind) where
  abbrev w : World (A G)
  w = world_of G M

  abbrev Gives : Known G → Run (A G) (Carried (A G)) → Ty → Type 0
  Gives P m ty = Does G (In i) P m (λ u. of_type G ty u.value)

  -- a value that is of the type whatever was there
  always : {P : Known G} (c : Carried (A G)) (ty : Ty) → ((n : List (Noted (A G))) → Is (p G) n ty c.value) → Gives P (return c) ty
  unfolding is
  always c ty h = gives G c (record { by = λ n q. h n })

  of_text : {P : Known G} (site : ℕ) (c : Carried (A G)) (v : Value) → Does G (In i) P (text_arg w site c v) (λ us. nothing)
  unfolding text_arg
  of_text site c (val.Text k) = some_units G M (val.Text k)
  of_text site c (val.Fixed k) = some_units G M (val.Fixed k)
  of_text site c _ = null_fails G M site c

  any_object : {P : Known G} (site : ℕ) (c : Carried (A G)) (v : Value) → Does G (In i) P (object_of w site c v) (λ n. nothing)
  unfolding object_of
  any_object site c (val.Object n) = gives G n trivially
  any_object site c _ = null_fails G M site c

  gives_unit : {P : Known G} (site : ℕ) (c : Carried (A G)) (o : Option ℕ) → Gives P (unit_or_fail w site c o) char_type
  unfolding unit_or_fail with_value
  gives_unit site c (Some u) = always _ char_type (λ n. refl)
  gives_unit site c Absent = fails G M string_index site c (string_index_fails (p G) G.fits.declarations.library_classes)

  gives_part : {P : Known G} (site : ℕ) (c : Carried (A G)) (o : Option (List ℕ)) → Gives P (part_or_fail w site c o) text_type
  unfolding part_or_fail
  gives_part site c (Some us) = makes_text G M i site us c
  gives_part site c Absent = fails G M string_index site c (string_index_fails (p G) G.fits.declarations.library_classes)

  gives_int : {P : Known G} (site : ℕ) (c : Carried (A G)) (o : Option ℤ) → Gives P (int_or_fail w site c o) int_type
  unfolding int_or_fail with_value
  gives_int site c (Some z) = always _ int_type (λ n. refl)
  gives_int site c Absent = fails G M number_format site c (number_format_fails (p G) G.fits.declarations.library_classes)

  parses : {P : Known G} (site : ℕ) (c : Carried (A G)) (v : Value) → Gives P (parse w site c v) int_type
  unfolding parse
  parses site c (val.Text k) = next G (some_units G M (val.Text k)) (λ us. gives_int site c _)
  parses site c (val.Fixed k) = next G (some_units G M (val.Fixed k)) (λ us. gives_int site c _)
  parses site c _ = fails G M number_format site c (number_format_fails (p G) G.fits.declarations.library_classes)

  byte_is_int : (o : Option ℕ) → IsInt (byte_value o)
  unfolding byte_value
  byte_is_int Absent = tt
  byte_is_int (Some b) = tt

  byte_is : (n : List (Noted (A G))) (o : Option ℕ) → Is (p G) n int_type (byte_value o)
  unfolding byte_value
  byte_is n Absent = refl
  byte_is n (Some b) = refl

  reads_byte : {P : Known G} (site : ℕ) → Gives P (read_byte site) int_type
  unfolding read_byte value_of
  reads_byte site = next G (takes_byte G) (λ b. next G (forgets G (notes G (plain kind.Read site (byte_value b)) (constant val.None) (a_read site (byte_value b) (byte_is_int b)))) (λ e. always _ int_type (λ n. byte_is n b)))

  absolute_is : (n : List (Noted (A G))) (ty : Ty) (v : Value) → Is (p G) n ty v → Is (p G) n ty (absolute v)
  unfolding absolute
  absolute_is n ty (val.Int z) h = h
  absolute_is n ty (val.Long z) h = h
  absolute_is n ty _ h = h

  one_of_two : (n : List (Noted (A G))) (ty : Ty) (c : Bool) (a b : Value) → Is (p G) n ty a → Is (p G) n ty b → Is (p G) n ty (if c then b else a)
  one_of_two n ty true a b h k = k
  one_of_two n ty false a b h k = h

  -- ---- every operation, on any values

  one_runs : {P : Known G} (o : LibOp) (site : ℕ) (all a : Carried (A G)) → Does G (In i) P (library_one w o site all a) (λ u. nothing)
  unfolding library_one
  one_runs op.ArrayLength site all a = next G (any_object site all a.value) (λ n. next G (some_length G M n) (λ l. gives G _ trivially))
  one_runs op.Length site all a = next G (of_text site all a.value) (λ us. gives G _ trivially)
  one_runs op.IsEmpty site all a = next G (of_text site all a.value) (λ us. gives G _ trivially)
  one_runs op.Itself site all a = next G (of_text site all a.value) (λ us. gives G _ trivially)
  one_runs op.ValueOf site all a = forgets G (makes_text G M i site _ all)
  one_runs op.IntText site all a = forgets G (makes_text G M i site _ all)
  one_runs op.ParseInt site all a = forgets G (parses site all a.value)
  one_runs op.Abs site all a = gives G _ trivially
  one_runs op.ClassText site all a = next G (some_type G M a.value) (λ t. forgets G (makes_text G M i site _ all))
  one_runs op.ObjectText site all a = next G (some_type G M a.value) (λ t. forgets G (makes_text G M i site _ all))
  one_runs _ site all a = gives G _ trivially

  two_run : {P : Known G} (o : LibOp) (site : ℕ) (all a b : Carried (A G)) → Does G (In i) P (library_two w o site all a b) (λ u. nothing)
  unfolding library_two
  two_run op.CharAt site all a b = next G (of_text site all a.value) (λ us. forgets G (gives_unit site all _))
  two_run op.PartFrom site all a b = next G (of_text site all a.value) (λ us. forgets G (gives_part site all _))
  two_run op.Same site all a b = next G (of_text site all a.value) (λ x. next G (some_units G M b.value) (λ y. gives G _ trivially))
  two_run op.Compare site all a b = next G (of_text site all a.value) (λ x. next G (of_text site all b.value) (λ y. gives G _ trivially))
  two_run op.Max site all a b = gives G _ trivially
  two_run op.Min site all a b = gives G _ trivially
  two_run _ site all a b = gives G _ trivially

  three_run : {P : Known G} (o : LibOp) (site : ℕ) (all a b c : Carried (A G)) → Does G (In i) P (library_three w o site all a b c) (λ u. nothing)
  unfolding library_three
  three_run op.Part site all a b c = next G (of_text site all a.value) (λ us. forgets G (gives_part site all _))
  three_run _ site all a b c = gives G _ trivially

  library_runs : {P : Known G} (o : LibOp) (site : ℕ) (vs : List (Carried (A G))) → Does G (In i) P (library w o site vs) (λ u. nothing)
  unfolding library
  library_runs o site [] = forgets G (reads_byte site)
  library_runs o site (a ∷ []) = one_runs o site _ a
  library_runs o site (a ∷ b ∷ []) = two_run o site _ a b
  library_runs o site (a ∷ b ∷ c ∷ rest) = three_run o site _ a b c

  -- ---- as many values as there are types

  never : {P : Known G} (o : LibOp) (site : ℕ) (vs : List (Carried (A G))) (ty : Ty) → ((n : List (Noted (A G))) → P.holds n → ⊥) → Gives P (library w o site vs) ty
  unfolding both
  never o site vs ty h = gives_less G (library_runs o site vs) (λ u. record { by = λ n q. absurd (h n q.0) })

  with_one : {P : Known G} (o : LibOp) (site : ℕ) (a ty : Ty) (vs : List (Carried (A G))) → Entails P (all_are G (a ∷ []) vs) → ((x : Carried (A G)) → Entails P (of_type G a x.value) → Gives P (library_one w o site (joined_all (x ∷ [])) x) ty) → Gives P (library w o site vs) ty
  unfolding all_are library is
  with_one o site a ty [] e f = never o site [] ty (λ n q. e.by n q)
  with_one o site a ty (x ∷ []) e f = f x (record { by = λ n q. (e.by n q).0 })
  with_one o site a ty (x ∷ y ∷ rest) e f = never o site (x ∷ y ∷ rest) ty (λ n q. (e.by n q).1)

  with_two : {P : Known G} (o : LibOp) (site : ℕ) (a b ty : Ty) (vs : List (Carried (A G))) → Entails P (all_are G (a ∷ b ∷ []) vs) → ((x y : Carried (A G)) → Entails P (of_type G a x.value) → Entails P (of_type G b y.value) → Gives P (library_two w o site (joined_all (x ∷ y ∷ [])) x y) ty) → Gives P (library w o site vs) ty
  unfolding all_are library is
  with_two o site a b ty [] e f = never o site [] ty (λ n q. e.by n q)
  with_two o site a b ty (x ∷ []) e f = never o site (x ∷ []) ty (λ n q. (e.by n q).1)
  with_two o site a b ty (x ∷ y ∷ []) e f = f x y (record { by = λ n q. (e.by n q).0 }) (record { by = λ n q. (e.by n q).1.0 })
  with_two o site a b ty (x ∷ y ∷ z ∷ rest) e f = never o site (x ∷ y ∷ z ∷ rest) ty (λ n q. (e.by n q).1.1)

  with_three : {P : Known G} (o : LibOp) (site : ℕ) (a b c ty : Ty) (vs : List (Carried (A G))) → Entails P (all_are G (a ∷ b ∷ c ∷ []) vs) → ((all x y z : Carried (A G)) → Gives P (library_three w o site all x y z) ty) → Gives P (library w o site vs) ty
  unfolding all_are library is
  with_three o site a b c ty [] e f = never o site [] ty (λ n q. e.by n q)
  with_three o site a b c ty (x ∷ []) e f = never o site (x ∷ []) ty (λ n q. (e.by n q).1)
  with_three o site a b c ty (x ∷ y ∷ []) e f = never o site (x ∷ y ∷ []) ty (λ n q. (e.by n q).1.1)
  with_three o site a b c ty (x ∷ y ∷ z ∷ rest) e f = f _ x y z

  with_none : {P : Known G} (o : LibOp) (site : ℕ) (vs : List (Carried (A G))) → Entails P (all_are G [] vs) → Gives P (library w o site vs) int_type
  unfolding all_are library is
  with_none o site [] e = reads_byte site
  with_none o site (x ∷ rest) e = never o site (x ∷ rest) int_type (λ n q. e.by n q)

  makes : {P : Known G} (o : LibOp) (site : ℕ) (a : Ty) (vs : List (Carried (A G))) → Entails P (all_are G (a ∷ []) vs) → ((all x : Carried (A G)) → Gives P (library_one w o site all x) text_type) → Gives P (library w o site vs) text_type
  makes o site a vs e f = with_one o site a text_type vs e (λ x h. f _ x)

  -- the greater or the lesser of two numbers
  of_two : {P : Known G} (ty : Ty) (c : Bool) (all a b : Carried (A G)) → Entails P (of_type G ty a.value) → Entails P (of_type G ty b.value) → Gives P (return (with_value (if c then b.value else a.value) all)) ty
  unfolding with_value is
  of_two ty c all a b e f = gives G _ (record { by = λ n q. one_of_two n ty c a.value b.value (e.by n q) (f.by n q) })

  offers : {P : Known G} {o : LibOp} {params : List Ty} {ty : Ty} (site : ℕ) (vs : List (Carried (A G))) → Offers o params ty → Entails P (all_are G params vs) → Gives P (library w o site vs) ty
  unfolding library_one library_two library_three with_value is greater lesser
  offers site vs (lib.array_length {base = b} {brackets = n}) e = with_one op.ArrayLength site (Of b (suc n)) int_type vs e (λ x h. next G (any_object site _ x.value) (λ k. next G (some_length G M k) (λ l. always _ int_type (λ n. refl))))
  offers site vs lib.length e = with_one op.Length site text_type int_type vs e (λ x h. next G (of_text site _ x.value) (λ us. always _ int_type (λ n. refl)))
  offers site vs lib.is_empty e = with_one op.IsEmpty site text_type boolean_type vs e (λ x h. next G (of_text site _ x.value) (λ us. always _ boolean_type (λ n. refl)))
  offers site vs lib.char_at e = with_two op.CharAt site text_type int_type char_type vs e (λ x y h k. next G (of_text site _ x.value) (λ us. gives_unit site _ _))
  offers site vs lib.part_from e = with_two op.PartFrom site text_type int_type text_type vs e (λ x y h k. next G (of_text site _ x.value) (λ us. gives_part site _ _))
  offers site vs lib.part e = with_three op.Part site text_type int_type int_type text_type vs e (λ all x y z. next G (of_text site all x.value) (λ us. gives_part site all _))
  offers site vs lib.same e = with_two op.Same site text_type object_type boolean_type vs e (λ x y h k. next G (of_text site _ x.value) (λ us. next G (some_units G M y.value) (λ vs. always _ boolean_type (λ n. refl))))
  offers site vs lib.compare e = with_two op.Compare site text_type text_type int_type vs e (λ x y h k. next G (of_text site _ x.value) (λ us. next G (of_text site _ y.value) (λ vs. always _ int_type (λ n. refl))))
  offers site vs lib.itself e = with_one op.Itself site text_type text_type vs e (λ x h. next G (of_text site _ x.value) (λ us. gives G _ h))
  offers site vs lib.char_text e = makes op.ValueOf site char_type vs e (λ all x. makes_text G M i site _ all)
  offers site vs lib.int_value e = makes op.ValueOf site int_type vs e (λ all x. makes_text G M i site _ all)
  offers site vs lib.long_text e = makes op.ValueOf site long_type vs e (λ all x. makes_text G M i site _ all)
  offers site vs lib.boolean_text e = makes op.ValueOf site boolean_type vs e (λ all x. makes_text G M i site _ all)
  offers site vs lib.parse_int e = with_one op.ParseInt site text_type int_type vs e (λ x h. parses site _ x.value)
  offers site vs lib.int_text e = makes op.IntText site int_type vs e (λ all x. makes_text G M i site _ all)
  offers site vs lib.abs_int e = with_one op.Abs site int_type int_type vs e (λ x h. gives G _ (record { by = λ n q. absolute_is n int_type x.value (h.by n q) }))
  offers site vs lib.abs_long e = with_one op.Abs site long_type long_type vs e (λ x h. gives G _ (record { by = λ n q. absolute_is n long_type x.value (h.by n q) }))
  offers site vs lib.max_int e = with_two op.Max site int_type int_type int_type vs e (λ x y h k. of_two int_type _ (joined_all (x ∷ y ∷ [])) x y h k)
  offers site vs lib.max_long e = with_two op.Max site long_type long_type long_type vs e (λ x y h k. of_two long_type _ (joined_all (x ∷ y ∷ [])) x y h k)
  offers site vs lib.min_int e = with_two op.Min site int_type int_type int_type vs e (λ x y h k. of_two int_type _ (joined_all (x ∷ y ∷ [])) x y h k)
  offers site vs lib.min_long e = with_two op.Min site long_type long_type long_type vs e (λ x y h k. of_two long_type _ (joined_all (x ∷ y ∷ [])) x y h k)
  offers site vs lib.read_byte e = with_none op.ReadByte site vs e
  offers site vs lib.class_text e = makes op.ClassText site object_type vs e (λ all x. next G (some_type G M x.value) (λ t. makes_text G M i site _ all))
  offers site vs lib.object_text e = makes op.ObjectText site object_type vs e (λ all x. next G (some_type G M x.value) (λ t. makes_text G M i site _ all))

  pub library_types : {o : LibOp} {params : List Ty} {ty : Ty} (args : List (Run (A G) (Carried (A G)))) (site : ℕ) → Offers o params ty → AllTypes G M i args params → T G M i (library_form w o args site) ty
  unfolding library_form
  library_types args site o d = record { by = λ P. bind G (gives_all G M i args _ P d) (λ vs. offers site vs o (newest _ _)) }
