-- Texts that are spelled, made, joined, compared and printed.
use Rattle.std.proofs.Common.{◌≡◌, ap, refl, sym, subst, ℕ, List, [], ◌∷◌, ◌++◌, Bool, true, false, if◌then◌else◌, length, IsTrue, Result, Ok, Err}
use Rattle.std.proofs.lemmas.Bool.{and_from, and_parts, eq-eqb, eqb-true}
use Rattle.std.specs.Prelude.{◌==◌}
use Rattle.wy_kernel.specs.Program.{Program, fixed_text, same_units}
use Rattle.wy_value.specs.declared.value.Value.{Value}
use Rattle.wy_value.specs.declared.value.Value.TheVariants.{None as Nothing, Bool as Boolean, Byte, Short, Char, Int, Long, Null, Object, Text, Fixed, Arm}
use Rattle.wy_value.specs.Encoding.{utf8_of}
use Rattle.wy_value.specs.Numeral.{text_of}
use Rattle.wy_event.specs.declared.record.Use.{Use}
use Rattle.wy_steps.specs.Sets.{nothing}
use Rattle.wy_steps.specs.State as run
use Rattle.wy_steps.specs.State.{State, Carried, Outcome, Run, Done, go_on, ◌>>=◌, ◌>>◌, return}
use Rattle.wy_steps.specs.Steps.{Draft, Made, event_at, event_in, joined, made, next_event, note, noting, room_for, take_units, value_of, with_event}
use Rattle.wy_meaning.specs.Call.{text_equals}
use Rattle.wy_meaning.specs.Text as meaning
use Rattle.wy_meaning.specs.Text.{concatenated, line_end, print, print_value, shown, spelled_as}
use Rattle.wy_meaning.specs.World.{World, is_text, spelling, units_in, units_of}
use Rattle.wy_operation.specs.Operands.{Pair}
use Rattle.wy_operation.proofs.Runs.{answers_as, done_first}
use Rattle.wy_state.specs.Agrees.{Shape, Onward, StepGives, itself}
use Rattle.wy_state.specs.Seen.{given, made_of}
use Rattle.wy_state.specs.Steps as steps
use Rattle.wy_state.specs.declared.parts.Halt.{Halt}
use Rattle.wy_state.proofs.Onward.{answers_after, onward_as, onward_same, onward_then}
use Rattle.wy_operation.specs.Words.{joined_texts, printed, sameness, text_of_event}
use Rattle.wy_operation.proofs.TextRuns.{answers_bind}

-- ---- what the definition does once operands are shown

pub concatenated_is : (w : World nothing) (site : ℕ) (a b : Carried nothing) (s : State nothing) → concatenated w site a b s ≡ (shown w site a >>= (λ left. shown w site b >>= (λ right. joined_texts w site left right))) s
unfolding concatenated joined_texts
concatenated_is w site a b s = refl

pub print_value_is : (w : World nothing) (operand : Run nothing (Carried nothing)) (ends_line : Bool) (site : ℕ) (s : State nothing) → print_value w operand ends_line site s ≡ (operand >>= (λ v. shown w site v >>= (λ shown_as. printed w ends_line site shown_as))) s
unfolding print_value printed
print_value_is w operand ends_line site s = refl

-- ---- units

abbrev pub units_at : World nothing → State nothing → Value → List ℕ
units_at w s (Text n) = units_in (event_in s.noted n)
units_at w s (Fixed n) = fixed_text w.program n
units_at w s _ = []

-- to find units changes nothing
pub units_done : (w : World nothing) (v : Value) (s : State nothing) → units_of w v s ≡ Done (units_at w s v) s
unfolding units_of event_at ◌>>=◌ go_on return
units_done w Nothing s = refl
units_done w (Boolean b) s = refl
units_done w (Byte z) s = refl
units_done w (Short z) s = refl
units_done w (Char u) s = refl
units_done w (Int z) s = refl
units_done w (Long z) s = refl
units_done w Null s = refl
units_done w (Object n) s = refl
units_done w (Text n) s = refl
units_done w (Fixed n) s = refl
units_done w (Arm n) s = refl

-- ---- texts that are made

-- a record is made of the uses alone
note_as : (d : Draft) (v u : Value) (us : List Use) (s : State nothing) → note d (given v us) s ≡ note d (given u us) s
unfolding note room_for noting next_event made with_event
note_as d v u us s = refl

abbrev text_of_made : Made nothing → Run nothing (Carried nothing)
text_of_made e = return (value_of e (Text e.number))

module _ (site : ℕ) (units : List ℕ) (v : Value) (us : List Use) where
  made_is : (s : State nothing) → meaning.make_text site units (given v us) s ≡ (steps.make_text site units us >>= text_of_made) s
  unfolding meaning.make_text ◌>>=◌ ◌>>◌ go_on
  made_is s = cases (take_units (length units) s)
    where
      cases : (o : Outcome nothing (Unit {0})) → go_on o (λ _ t. go_on (note (spelling site units) (given v us) t) text_of_made) ≡ go_on (go_on o (λ _. note (spelling site units) (given Nothing us))) text_of_made
      cases (Done x t) = ap (λ o. go_on o text_of_made) (note_as (spelling site units) v Nothing us t)
      cases (run.Left why t) = refl
      cases (run.Stopped why t) = refl

  module _ (p : Program) (m n : Shape) where
    pub makes_text : (r : Result ℕ Halt) → StepGives p made_of r m (steps.make_text site units us) n → StepGives p text_of_event r m (meaning.make_text site units (given v us)) n
    unfolding value_of
    makes_text (Ok e) a = onward_as made_is (done_first (steps.make_text site units us) text_of_made (made_of e) a)
    makes_text (Err e) a = answers_after p m n (steps.make_text site units us) made_of text_of_event text_of_made (meaning.make_text site units (given v us)) e made_is a

module _ {X : Type 0} (p : Program) (view : X → Carried nothing) (r : Result X Halt) (m n : Shape) (site : ℕ) (c : Carried nothing) where
  pub made_as : (xs ys : List ℕ) → xs ≡ ys → StepGives p view r m (meaning.make_text site xs c) n → StepGives p view r m (meaning.make_text site ys c) n
  made_as xs ys is a = subst (λ (zs : List ℕ). StepGives p view r m (meaning.make_text site zs c) n) is a

-- ---- texts that are spelled

module _ (w : World nothing) where
  plain_is : (v : Value) → is_text v ≡ false → (s : State nothing) → spelled_as w v s ≡ return (text_of v) s
  unfolding spelled_as is_text
  plain_is Nothing is s = refl
  plain_is (Boolean b) is s = refl
  plain_is (Byte z) is s = refl
  plain_is (Short z) is s = refl
  plain_is (Char u) is s = refl
  plain_is (Int z) is s = refl
  plain_is (Long z) is s = refl
  plain_is Null is s = refl
  plain_is (Object n) is s = refl
  plain_is (Text n) is s = cc
  plain_is (Fixed n) is s = cc
  plain_is (Arm n) is s = refl

  text_is : (v : Value) → is_text v ≡ true → (s : State nothing) → spelled_as w v s ≡ units_of w v s
  unfolding spelled_as is_text
  text_is Nothing is s = cc
  text_is (Boolean b) is s = cc
  text_is (Byte z) is s = cc
  text_is (Short z) is s = cc
  text_is (Char u) is s = cc
  text_is (Int z) is s = cc
  text_is (Long z) is s = cc
  text_is Null is s = cc
  text_is (Object n) is s = cc
  text_is (Text n) is s = refl
  text_is (Fixed n) is s = refl
  text_is (Arm n) is s = cc

  module _ (p : Program) (m : Shape) (v : Value) where
    pub plain_spelled : (xs : List ℕ) → is_text v ≡ false → xs ≡ text_of v → Onward p m (spelled_as w v) m (return xs)
    plain_spelled xs is same = onward_as (plain_is v is) (rw same (onward_same p m (return (text_of v))))

    pub text_spelled : (xs ys : List ℕ) → is_text v ≡ true → ys ≡ xs → Onward p m (units_of w v) m (return xs) → Onward p m (spelled_as w v) m (return ys)
    text_spelled xs ys is same a = onward_as (text_is v is) (rw same a)

-- ---- texts that are joined

module _ (p : Program) (w : World nothing) (m n : Shape) (site : ℕ) (left right : Value) (us : List Use) (o : Pair left right us) where
  abbrev behind : List ℕ → List ℕ → Run nothing (Carried nothing)
  behind x y = meaning.make_text site (x ++ y) (given Nothing us)

  abbrev after_left : List ℕ → Run nothing (Carried nothing)
  after_left x = spelled_as w right >>= behind x

  joined_is : (s : State nothing) → joined_texts w site o.first o.second s ≡ (spelled_as w left >>= after_left) s
  unfolding joined_texts joined
  joined_is s = rw (o.is_left, o.is_right, o.are_joined) refl

  pub left_halts : (e : Halt) → StepGives p (itself {X = List ℕ}) (Err e) m (spelled_as w left) n → StepGives p text_of_event (Err e) m (joined_texts w site o.first o.second) n
  left_halts e a = answers_after p m n (spelled_as w left) (itself {X = List ℕ}) text_of_event after_left (joined_texts w site o.first o.second) e joined_is a

  module _ (xs : List ℕ) (first : Onward p m (spelled_as w left) m (return xs)) where
    pub right_halts : (e : Halt) → StepGives p (itself {X = List ℕ}) (Err e) m (spelled_as w right) n → StepGives p text_of_event (Err e) m (joined_texts w site o.first o.second) n
    right_halts e a =
        answers_as p text_of_event (Err e) m n (joined_texts w site o.first o.second) (spelled_as w left >>= after_left) joined_is
        (answers_bind p text_of_event (Err e) m m n (spelled_as w left) xs after_left first
        (answers_after p m n (spelled_as w right) (itself {X = List ℕ}) text_of_event (behind xs) (after_left xs) e (λ s. refl) a))

    pub joins : (r : Result ℕ Halt) (ys both : List ℕ) → Onward p m (spelled_as w right) m (return ys) → both ≡ xs ++ ys → StepGives p text_of_event r m (meaning.make_text site both (given Nothing us)) n → StepGives p text_of_event r m (joined_texts w site o.first o.second) n
    joins r ys both second is a =
        answers_as p text_of_event r m n (joined_texts w site o.first o.second) (spelled_as w left >>= after_left) joined_is
        (answers_bind p text_of_event r m m n (spelled_as w left) xs after_left first
        (answers_bind p text_of_event r m m n (spelled_as w right) ys (behind xs) second
        (made_as p text_of_event r m n site (given Nothing us) both (xs ++ ys) is a)))

-- ---- texts that are the same

same_lists : (xs ys : List ℕ) → same_units xs ys ≡ true → xs ≡ ys
unfolding same_units
same_lists [] [] is = refl
same_lists [] (y ∷ ys) is = absurd (cc)
same_lists (x ∷ xs) [] is = absurd (cc)
same_lists (x ∷ xs) (y ∷ ys) is =
    let first : x ≡ y = eqb-true x y (and_parts (x == y) (same_units xs ys) is).0 in
    let rest : xs ≡ ys = same_lists xs ys (and_parts (x == y) (same_units xs ys) is).1 in
    λ i. first i ∷ rest i

same_as_itself : (xs : List ℕ) → same_units xs xs ≡ true
unfolding same_units
same_as_itself [] = refl
same_as_itself (x ∷ xs) = and_from (x == x) (same_units xs xs) (eq-eqb x x refl) (same_as_itself xs)

pub same_is : (xs ys : List ℕ) (b : Bool) → (IsTrue b → xs ≡ ys) × (xs ≡ ys → IsTrue b) → b ≡ same_units xs ys
same_is xs ys true h = sym (subst (λ (zs : List ℕ). same_units xs zs ≡ true) (h.0 refl) (same_as_itself xs))
same_is xs ys false h = cases (same_units xs ys) refl
  where
    cases : (c : Bool) → same_units xs ys ≡ c → false ≡ c
    cases true is = h.1 (same_lists xs ys is)
    cases false is = refl

module _ (p : Program) (w : World nothing) (m : Shape) (left right : Value) where
  pub same_goes : (xs ys : List ℕ) (b : Bool) → Onward p m (units_of w left) m (return xs) → Onward p m (units_of w right) m (return ys) → b ≡ (if is_text right then same_units xs ys else false) → Onward p m (sameness w left right) m (return b)
  unfolding sameness
  same_goes xs ys b first second is =
      onward_then (done_first (units_of w left) _ xs first) (onward_then (done_first (units_of w right) _ ys second) (rw is (onward_same p m _)))

module _ (p : Program) (w : World nothing) (m : Shape) (a b : Carried nothing) where
  equals_is : (s : State nothing) → text_equals w a b s ≡ (sameness w a.value b.value >>= (λ x. return (joined (Boolean x) a b))) s
  unfolding text_equals sameness ◌>>=◌ go_on return
  equals_is s = rw (units_done w a.value s, units_done w b.value s) refl

  pub equals_goes : (x : Bool) → Onward p m (sameness w a.value b.value) m (return x) → Onward p m (text_equals w a b) m (return (joined (Boolean x) a b))
  equals_goes x h = onward_as equals_is (done_first (sameness w a.value b.value) (λ x. return (joined (Boolean x) a b)) x h)

-- ---- what is printed

module _ (p : Program) (w : World nothing) (m n : Shape) (ends_line : Bool) (site : ℕ) (v : Value) (us : List Use) where
  abbrev printing : List ℕ → Run nothing (Unit {0})
  printing units = print site (utf8_of units ++ line_end ends_line) (given v us)

  printed_is : (s : State nothing) → printed w ends_line site (given v us) s ≡ (spelled_as w v >>= printing) s
  unfolding printed
  printed_is s = refl

  pub spelling_halts : (e : Halt) → StepGives p (itself {X = List ℕ}) (Err e) m (spelled_as w v) n → StepGives p (itself {X = Unit {0}}) (Err e) m (printed w ends_line site (given v us)) n
  spelling_halts e a = answers_after p m n (spelled_as w v) (itself {X = List ℕ}) itself printing (printed w ends_line site (given v us)) e printed_is a

  pub prints : (r : Result (Unit {0}) Halt) (units bytes : List ℕ) → Onward p m (spelled_as w v) m (return units) → bytes ≡ utf8_of units ++ line_end ends_line → StepGives p itself r m (print site bytes (given v us)) n → StepGives p itself r m (printed w ends_line site (given v us)) n
  prints r units bytes first is a =
      answers_as p itself r m n (printed w ends_line site (given v us)) (spelled_as w v >>= printing) printed_is
      (answers_bind p itself r m m n (spelled_as w v) units printing first
      (subst (λ (bs : List ℕ). StepGives p itself r m (print site bs (given v us)) n) is a))
