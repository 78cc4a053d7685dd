-- Operations of the library on arguments that are there.
use Rattle.std.proofs.Common.{◌≡◌, ap, refl, subst, ℕ, ℤ, pos, List, [], ◌++◌, Bool, true, false, codes, Option, Some, Result, Err}
use Rattle.std.specs.Int.{w32}
use Rattle.std.specs.Prelude.{None as Absent}
use Rattle.wy_kernel.specs.declared.types.Ty.{Ty}
use Rattle.wy_kernel.specs.declared.form.LibOp.TheVariants as op
use Rattle.wy_kernel.specs.Program.{Program}
use Rattle.wy_value.specs.declared.value.Value.{Value}
use Rattle.wy_value.specs.declared.value.Value.TheVariants.{None as Nothing, Bool as Boolean, Byte, Short, Char, Int, Long, Null, Object, Text, Fixed, Arm}
use Rattle.wy_value.specs.Number.{wrapped}
use Rattle.wy_value.specs.Numeral.{int_of}
use Rattle.wy_value.specs.Text.{difference}
use Rattle.wy_event.specs.declared.record.Kind.TheVariants as kind
use Rattle.wy_event.specs.declared.record.Use.{Use}
use Rattle.wy_steps.specs.Sets.{nothing}
use Rattle.wy_steps.specs.State as run
use Rattle.wy_steps.specs.State.{State, Carried, Outcome, Run, Done, go_on, ◌>>=◌, ◌>>◌, return, leave}
use Rattle.wy_steps.specs.Steps.{Draft, Made, constant, made, next_byte, next_event, note, note_new, noting, room_for, value_of, with_event, with_value}
use Rattle.wy_meaning.specs.Library.{byte_value, hexadecimal, int_in, int_or_fail, library_one, library_two, number_of_object, parse, part_or_fail, read_byte, text_arg, type_name, unit_or_fail}
use Rattle.wy_meaning.specs.Text.{make_text}
use Rattle.wy_meaning.specs.World.{World, about, class_code, fail, throwing, is_text, length_of, null_pointer, number_format, object_of, plain, string_index, type_of, units_of}
use Rattle.wy_operation.specs.Around.{Ends}
use Rattle.wy_operation.proofs.Exceptions.{fails}
use Rattle.wy_operation.proofs.Runs.{answers_as, done_first}
use Rattle.wy_state.specs.Agrees.{Shape, Onward, StepGives, itself}
use Rattle.wy_state.specs.Seen.{given, made_of}
use Rattle.wy_state.specs.declared.parts.Halt.{Halt}
use Rattle.wy_state.proofs.Onward.{answers_after, onward_as, onward_same, onward_then}
use Rattle.wy_operation.specs.declared.texts.found.Found.{Found}
use Rattle.wy_operation.specs.declared.texts.found.Found.TheVariants.{Made as Found_made}
use Rattle.wy_operation.specs.Found.{found_of}
use Rattle.wy_operation.specs.Words.{sameness}
use Rattle.wy_operation.proofs.TextRuns.{answers_bind, refused_as}
use Rattle.wy_operation.proofs.TextForms.{made_as, units_done}

-- what fails, whatever would have been carried
failed : (w : World nothing) (c site : ℕ) {X : Type 0} (view : X → Carried nothing) (p : Program) (e : Halt) (m n : Shape) (v : Carried nothing) → Ends p e m (fail w c site v) n → StepGives p view (Err e) m (fail w c site v) n
failed w c site view p e m n v a = refused_as p (itself {X = Carried nothing}) view e m n (fail w c site v) (fails w c site (Carried nothing) p e m n v a)

module _ (w : World nothing) (site : ℕ) (all : Carried nothing) where
  there_is : (v : Value) → is_text v ≡ true → (s : State nothing) → text_arg w site all v s ≡ units_of w v s
  unfolding text_arg is_text
  there_is Nothing is s = absurd (cc)
  there_is (Boolean b) is s = absurd (cc)
  there_is (Byte z) is s = absurd (cc)
  there_is (Short z) is s = absurd (cc)
  there_is (Char u) is s = absurd (cc)
  there_is (Int z) is s = absurd (cc)
  there_is (Long z) is s = absurd (cc)
  there_is Null is s = absurd (cc)
  there_is (Object n) is s = absurd (cc)
  there_is (Text n) is s = refl
  there_is (Fixed n) is s = refl
  there_is (Arm n) is s = absurd (cc)

  missing_is : (v : Value) → is_text v ≡ false → (s : State nothing) → text_arg w site all v s ≡ fail w null_pointer site all s
  unfolding text_arg is_text
  missing_is Nothing is s = refl
  missing_is (Boolean b) is s = refl
  missing_is (Byte z) is s = refl
  missing_is (Short z) is s = refl
  missing_is (Char u) is s = refl
  missing_is (Int z) is s = refl
  missing_is (Long z) is s = refl
  missing_is Null is s = refl
  missing_is (Object n) is s = refl
  missing_is (Text n) is s = absurd (cc)
  missing_is (Fixed n) is s = absurd (cc)
  missing_is (Arm n) is s = refl

  parsed_is : (v : Value) → is_text v ≡ true → (s : State nothing) → parse w site all v s ≡ (units_of w v >>= (λ units. int_or_fail w site all (int_of units))) s
  unfolding parse is_text
  parsed_is Nothing is s = absurd (cc)
  parsed_is (Boolean b) is s = absurd (cc)
  parsed_is (Byte z) is s = absurd (cc)
  parsed_is (Short z) is s = absurd (cc)
  parsed_is (Char u) is s = absurd (cc)
  parsed_is (Int z) is s = absurd (cc)
  parsed_is (Long z) is s = absurd (cc)
  parsed_is Null is s = absurd (cc)
  parsed_is (Object n) is s = absurd (cc)
  parsed_is (Text n) is s = refl
  parsed_is (Fixed n) is s = refl
  parsed_is (Arm n) is s = absurd (cc)

  unparsed_is : (v : Value) → is_text v ≡ false → (s : State nothing) → parse w site all v s ≡ fail w number_format site all s
  unfolding parse is_text
  unparsed_is Nothing is s = refl
  unparsed_is (Boolean b) is s = refl
  unparsed_is (Byte z) is s = refl
  unparsed_is (Short z) is s = refl
  unparsed_is (Char u) is s = refl
  unparsed_is (Int z) is s = refl
  unparsed_is (Long z) is s = refl
  unparsed_is Null is s = refl
  unparsed_is (Object n) is s = refl
  unparsed_is (Text n) is s = absurd (cc)
  unparsed_is (Fixed n) is s = absurd (cc)
  unparsed_is (Arm n) is s = refl

  not_object_is : (v : Value) → ((n : ℕ) → v ≡ Object n → ⊥) → (s : State nothing) → object_of w site all v s ≡ fail w null_pointer site all s
  unfolding object_of
  not_object_is Nothing none s = refl
  not_object_is (Boolean b) none s = refl
  not_object_is (Byte z) none s = refl
  not_object_is (Short z) none s = refl
  not_object_is (Char u) none s = refl
  not_object_is (Int z) none s = refl
  not_object_is (Long z) none s = refl
  not_object_is Null none s = refl
  not_object_is (Object n) none s = absurd (none n refl)
  not_object_is (Text n) none s = refl
  not_object_is (Fixed n) none s = refl
  not_object_is (Arm n) none s = refl

module _ {X : Type 0} (p : Program) (w : World nothing) (m n : Shape) (site : ℕ) (all : Carried nothing) (view : X → Carried nothing) where
  -- a text that is there, and what comes of its units
  pub there : (r : Result X Halt) (v : Value) (k : List ℕ → Run nothing (Carried nothing)) (xs : List ℕ) → is_text v ≡ true → Onward p m (units_of w v) m (return xs) → StepGives p view r m (k xs) n → StepGives p view r m (text_arg w site all v >>= k) n
  unfolding ◌>>=◌
  there r v k xs is a b =
      answers_as p view r m n (text_arg w site all v >>= k) (units_of w v >>= k) (λ s. ap (λ o. go_on o k) (there_is w site all v is s))
      (answers_bind p view r m m n (units_of w v) xs k a b)

  failed_first : (e : Halt) (c : ℕ) (f : Run nothing (List ℕ)) (k : List ℕ → Run nothing (Carried nothing)) → ((s : State nothing) → f s ≡ fail w c site all s) → Ends p e m (fail w c site all) n → StepGives p view (Err e) m (f >>= k) n
  unfolding ◌>>=◌
  failed_first e c f k same a =
      answers_after p m n (fail w c site all) (itself {X = List ℕ}) view k (f >>= k) e (λ s. ap (λ o. go_on o k) (same s)) (fails w c site (List ℕ) p e m n all a)

  -- one that is not there
  pub missing : (e : Halt) (v : Value) (k : List ℕ → Run nothing (Carried nothing)) → is_text v ≡ false → Ends p e m (fail w null_pointer site all) n → StepGives p view (Err e) m (text_arg w site all v >>= k) n
  missing e v k is a = failed_first e null_pointer (text_arg w site all v) k (missing_is w site all v is) a

  pub not_object : (e : Halt) (v : Value) (k : ℕ → Run nothing (Carried nothing)) → ((i : ℕ) → v ≡ Object i → ⊥) → Ends p e m (fail w null_pointer site all) n → StepGives p view (Err e) m (object_of w site all v >>= k) n
  unfolding ◌>>=◌
  not_object e v k none a =
      answers_after p m n (fail w null_pointer site all) (itself {X = ℕ}) view k (object_of w site all v >>= k) e (λ s. ap (λ o. go_on o k) (not_object_is w site all v none s)) (fails w null_pointer site ℕ p e m n all a)

  pub parses : (r : Result X Halt) (v : Value) (xs : List ℕ) → is_text v ≡ true → Onward p m (units_of w v) m (return xs) → StepGives p view r m (int_or_fail w site all (int_of xs)) n → StepGives p view r m (parse w site all v) n
  parses r v xs is a b =
      answers_as p view r m n (parse w site all v) (units_of w v >>= (λ units. int_or_fail w site all (int_of units))) (parsed_is w site all v is)
      (answers_bind p view r m m n (units_of w v) xs (λ units. int_or_fail w site all (int_of units)) a b)

  pub unparsed : (e : Halt) (v : Value) → is_text v ≡ false → Ends p e m (fail w number_format site all) n → StepGives p view (Err e) m (parse w site all v) n
  unparsed e v is a = answers_as p view (Err e) m n (parse w site all v) (fail w number_format site all) (unparsed_is w site all v is) (failed w number_format site view p e m n all a)

module _ (p : Program) (w : World nothing) (m : Shape) (site : ℕ) (all : Carried nothing) (v : Value) (xs : List ℕ) (is : is_text v ≡ true) (units : Onward p m (units_of w v) m (return xs)) where
  -- a text that is there, and what is then carried
  pub there_gives : (k : List ℕ → Run nothing (Carried nothing)) (c : Carried nothing) → Onward p m (k xs) m (return c) → Onward p m (text_arg w site all v >>= k) m (return c)
  unfolding ◌>>=◌
  there_gives k c b = onward_as (λ s. ap (λ o. go_on o k) (there_is w site all v is s)) (onward_then (done_first (units_of w v) k xs units) b)

  pub parse_gives : (c : Carried nothing) → Onward p m (int_or_fail w site all (int_of xs)) m (return c) → Onward p m (parse w site all v) m (return c)
  parse_gives c b = onward_as (parsed_is w site all v is) (onward_then (done_first (units_of w v) (λ ys. int_or_fail w site all (int_of ys)) xs units) b)

-- nothing comes after what fails
module _ {X Y : Type 0} (site : ℕ) (k : X → Run nothing Y) where
  throw_then : (v : Carried nothing) (s : State nothing) → go_on (throwing {X = X} site v s) k ≡ throwing {X = Y} site v s
  unfolding throwing ◌>>=◌ go_on leave
  throw_then v s = cases (note (plain kind.Throw site v.value) v s)
    where
      cases : (o : Outcome nothing (Made nothing)) → go_on (go_on o (λ e. leave (run.Threw e.number (value_of e v.value)))) k ≡ go_on o (λ e. leave (run.Threw e.number (value_of e v.value)))
      cases (Done e t) = refl
      cases (run.Left why t) = refl
      cases (run.Stopped why t) = refl

  pub fail_then : (w : World nothing) (c : ℕ) (v : Carried nothing) (s : State nothing) → go_on (fail {X = X} w c site v s) k ≡ fail {X = Y} w c site v s
  unfolding fail ◌>>=◌ go_on
  fail_then w c v s = cases (note_new w.program (about kind.New site (class_code c) Nothing) v s)
    where
      cases : (o : Outcome nothing (Made nothing)) → go_on (go_on o (λ e. throwing {X = X} site (value_of e (Object e.number)))) k ≡ go_on o (λ e. throwing {X = Y} site (value_of e (Object e.number)))
      cases (Done e t) = throw_then (value_of e (Object e.number)) t
      cases (run.Left why t) = refl
      cases (run.Stopped why t) = refl

-- a value of all operands, said in another way
pub gives : (p : Program) (m : Shape) (us : List Use) (x y : Value) → x ≡ y → Onward p m (return (given y us)) m (return (given x us))
gives p m us x y is = rw is (onward_same p m (return (given y us)))

-- ---- one argument

module _ (p : Program) (w : World nothing) (m : Shape) (site : ℕ) (us own : List Use) where
  abbrev all : Carried nothing
  all = given Nothing us

  abbrev of_length : ℕ → Run nothing (Carried nothing)
  of_length k = return (given (Int (pos k)) us)

  pub array_goes : (i k : ℕ) (z : ℤ) (v : Value) → v ≡ Object i → Onward p m (length_of i) m (return k) → z ≡ pos k → Onward p m (library_one w op.ArrayLength site all (given v own)) m (return (given (Int z) us))
  unfolding library_one object_of with_value ◌>>=◌ go_on return
  array_goes i k z v is a same =
      rw is (onward_then (onward_as (λ s. refl) (done_first (length_of i) of_length k a)) (gives p m us (Int z) (Int (pos k)) (ap Int same)))

  pub array_fails : (n : Shape) (e : Halt) (v : Value) → ((i : ℕ) → v ≡ Object i → ⊥) → Ends p e m (fail w null_pointer site all) n → StepGives p (found_of us) (Err e) m (library_one w op.ArrayLength site all (given v own)) n
  unfolding library_one with_value
  array_fails n e v none a = not_object p w m n site all (found_of us) e v _ none a

  module _ (n : Shape) (v : Value) (r : Result Found Halt) (t : Ty) (typed : Onward p m (type_of v) m (return t)) where
    pub class_named : (xs : List ℕ) → xs ≡ type_name w.program t → StepGives p (found_of us) r m (make_text site xs all) n → StepGives p (found_of us) r m (library_one w op.ClassText site all (given v own)) n
    unfolding library_one
    class_named xs is a =
        answers_bind p (found_of us) r m m n (type_of v) t (λ ty. make_text site (type_name w.program ty) all) typed
        (made_as p (found_of us) r m n site all xs (type_name w.program t) is a)

    pub object_named : (xs : List ℕ) → xs ≡ type_name w.program t ++ codes "@" ++ hexadecimal (number_of_object v) → StepGives p (found_of us) r m (make_text site xs all) n → StepGives p (found_of us) r m (library_one w op.ObjectText site all (given v own)) n
    unfolding library_one
    object_named xs is a =
        answers_bind p (found_of us) r m m n (type_of v) t (λ ty. make_text site (type_name w.program ty ++ codes "@" ++ hexadecimal (number_of_object v)) all) typed
        (made_as p (found_of us) r m n site all xs (type_name w.program t ++ codes "@" ++ hexadecimal (number_of_object v)) is a)

-- ---- a number, a unit or a part that may not be there

module _ (p : Program) (w : World nothing) (m : Shape) (site : ℕ) (us : List Use) where
  abbrev operands : Carried nothing
  operands = given Nothing us

  pub int_goes : (z : ℤ) (found : Option ℤ) → Some z ≡ found → Onward p m (int_or_fail w site operands found) m (return (given (Int z) us))
  unfolding int_or_fail with_value
  int_goes z found is = subst (λ (o : Option ℤ). Onward p m (int_or_fail w site operands o) m (return (given (Int z) us))) is (onward_same p m _)

  pub int_fails : (n : Shape) (e : Halt) (found : Option ℤ) → Absent ≡ found → Ends p e m (fail w number_format site operands) n → StepGives p (found_of us) (Err e) m (int_or_fail w site operands found) n
  unfolding int_or_fail
  int_fails n e found is a = subst (λ (o : Option ℤ). StepGives p (found_of us) (Err e) m (int_or_fail w site operands o) n) is (failed w number_format site (found_of us) p e m n operands a)

  pub unit_goes : (u : ℕ) (found : Option ℕ) → Some u ≡ found → Onward p m (unit_or_fail w site operands found) m (return (given (Char u) us))
  unfolding unit_or_fail with_value
  unit_goes u found is = subst (λ (o : Option ℕ). Onward p m (unit_or_fail w site operands o) m (return (given (Char u) us))) is (onward_same p m _)

  pub unit_fails : (n : Shape) (e : Halt) (found : Option ℕ) → Absent ≡ found → Ends p e m (fail w string_index site operands) n → StepGives p (found_of us) (Err e) m (unit_or_fail w site operands found) n
  unfolding unit_or_fail
  unit_fails n e found is a = subst (λ (o : Option ℕ). StepGives p (found_of us) (Err e) m (unit_or_fail w site operands o) n) is (failed w string_index site (found_of us) p e m n operands a)

-- ---- two arguments

module _ (p : Program) (w : World nothing) (m : Shape) (site : ℕ) (a b : Value) (us one two : List Use) where
  abbrev both : Carried nothing
  both = given Nothing us

  same_text_is : is_text a ≡ true → (s : State nothing) → library_two w op.Same site both (given a one) (given b two) s ≡ (sameness w a b >>= (λ x. return (given (Boolean x) us))) s
  unfolding library_two sameness with_value ◌>>=◌ go_on return
  same_text_is is s = rw (there_is w site both a is s, units_done w a s, units_done w b s) refl

  pub same_text_goes : (x : Bool) → is_text a ≡ true → Onward p m (sameness w a b) m (return x) → Onward p m (library_two w op.Same site both (given a one) (given b two)) m (return (given (Boolean x) us))
  same_text_goes x is h = onward_as (same_text_is is) (done_first (sameness w a b) (λ y. return (given (Boolean y) us)) x h)

  compared_with_none : is_text a ≡ true → is_text b ≡ false → (s : State nothing) → library_two w op.Compare site both (given a one) (given b two) s ≡ fail w null_pointer site both s
  unfolding library_two ◌>>=◌ go_on
  compared_with_none is none s = rw (there_is w site both a is s, units_done w a s, missing_is w site both b none s) (fail_then site _ w null_pointer both s)

  pub compare_fails : (n : Shape) (e : Halt) → is_text a ≡ true → is_text b ≡ false → Ends p e m (fail w null_pointer site both) n → StepGives p (found_of us) (Err e) m (library_two w op.Compare site both (given a one) (given b two)) n
  compare_fails n e is none h = answers_as p (found_of us) (Err e) m n _ (fail w null_pointer site both) (compared_with_none is none) (failed w null_pointer site (found_of us) p e m n both h)

  pub compare_goes : (xs ys : List ℕ) (z : ℤ) → is_text a ≡ true → is_text b ≡ true → Onward p m (units_of w a) m (return xs) → Onward p m (units_of w b) m (return ys) → z ≡ wrapped w32 (difference xs ys) → Onward p m (library_two w op.Compare site both (given a one) (given b two)) m (return (given (Int z) us))
  unfolding library_two with_value
  compare_goes xs ys z first second h k same =
      there_gives p w m site both a xs first h _ (given (Int z) us)
      (there_gives p w m site both b ys second k _ (given (Int z) us) (gives p m us (Int z) (Int (wrapped w32 (difference xs ys))) (ap Int same)))

-- ---- parts of texts

pub int_is : (v : Value) (z : ℤ) → v ≡ Int z → z ≡ int_in v
unfolding int_in
int_is v z is = rw is refl

module _ {X : Type 0} (p : Program) (w : World nothing) (m n : Shape) (site : ℕ) (c : Carried nothing) (view : X → Carried nothing) where
  pub part_as : (r : Result X Halt) (found other : Option (List ℕ)) → found ≡ other → StepGives p view r m (part_or_fail w site c found) n → StepGives p view r m (part_or_fail w site c other) n
  part_as r found other is a = subst (λ (o : Option (List ℕ)). StepGives p view r m (part_or_fail w site c o) n) is a

  pub part_fails : (e : Halt) → Ends p e m (fail w string_index site c) n → StepGives p view (Err e) m (part_or_fail w site c Absent) n
  unfolding part_or_fail
  part_fails e a = failed w string_index site view p e m n c a

-- ---- no argument

-- a record is made of the uses alone
note_as : (d : Draft) (v u : Value) (us : List Use) (s : State nothing) → note d (given v us) s ≡ note d (given u us) s
unfolding note room_for noting next_event made with_event
note_as d v u us s = refl

module _ (p : Program) (m k : Shape) (site : ℕ) (b : Option ℕ) (first : Onward p m next_byte k (return b)) (v : Value) (is : v ≡ byte_value b) where
  abbrev read_value : Run nothing (Made nothing)
  read_value = note (plain kind.Read site v) (given v [])

  abbrev read_done : Made nothing → Run nothing (Carried nothing)
  read_done e = return (value_of e (byte_value b))

  abbrev reading : Option ℕ → Run nothing (Carried nothing)
  reading o = note (plain kind.Read site (byte_value o)) (constant Nothing) >>= (λ e. return (value_of e (byte_value o)))

  read_is : (s : State nothing) → read_byte site s ≡ (next_byte >>= reading) s
  unfolding read_byte
  read_is s = refl

  noted_is : (s : State nothing) → reading b s ≡ (read_value >>= read_done) s
  unfolding constant ◌>>=◌
  noted_is s = rw is (ap (λ o. go_on o read_done) (note_as (plain kind.Read site (byte_value b)) Nothing (byte_value b) [] s))

  pub read_goes : (n : Shape) (us : List Use) (e : ℕ) → Onward p k read_value n (return (made_of e)) → Onward p m (read_byte site) n (return (found_of us (Found_made v e)))
  unfolding value_of
  read_goes n us e a =
      onward_as read_is (onward_then (done_first next_byte reading b first) (rw is (onward_as noted_is (done_first read_value read_done (made_of e) a))))

  pub read_halts : (n : Shape) (us : List Use) (e : Halt) → StepGives p made_of (Err e) k read_value n → StepGives p (found_of us) (Err e) m (read_byte site) n
  read_halts n us e a =
      answers_as p (found_of us) (Err e) m n (read_byte site) (next_byte >>= reading) read_is
      (answers_bind p (found_of us) (Err e) m k n next_byte b reading first
      (answers_after p k n read_value made_of (found_of us) read_done (reading b) e noted_is a))
